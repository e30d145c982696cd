-- The first number that leaves a transaction is the least.
use Rattle.std.proofs.Common.{◌≡◌, ℕ, zero, suc, ◌+◌, ◌-◌, ◌*◌, ◌/◌, ◌%◌, ◌^◌, ◌<◌, ◌≤◌, max, ◌==◌, List, [], ◌∷◌, length, slice_index_or, fold, Ok, Err, Result, sym, refl, ap, ◌∙◌, ⊎_elim, map-id, mod-lt, mod-eq_of_lt, add-mul, one-mul, div-add-mod', arith}
use lib.Arith.{digits_mod}
use Rattle.std.specs.List.{reduce}
use Rattle.std.specs.Option.{unwrap_or}
use Rattle.std.specs.Result.{OkIff, result_ok}
use Rattle.std.specs.Ordering.{max_by_ordering, nat_cmp}
use Rattle.std.proofs.lemmas.List.Folds.{max_of_map}
use Rattle.std.proofs.lemmas.List.Recursion.{max_least}
use Rattle.std.proofs.lemmas.Bool.{cases_eq, cases_lt, cond-true, cond-false}
use Rattle.std.proofs.lemmas.Bool.Decides.{nat_tests}
use Rattle.clock.specs.Numbers.{first_leaving, next_number, highest, stamp_number, if_fits, Least, Next, Stamp, NumbersAreLeast}

-- Where some number among those looked at leaves t, the first that does is found: it is not below n, and leaves t, and none between does.
pub found : (modulus t more n m : ℕ) → n ≤ m → m < n + more → m % modulus ≡ t → (n ≤ first_leaving modulus t more n) × (first_leaving modulus t more n % modulus ≡ t) × (first_leaving modulus t more n ≤ m)
unfolding first_leaving
found modulus t zero n m low high leaves = absurd (omega arith)
found modulus t (suc more) n m low high leaves =
    ⊎_elim
    (λ (here : n % modulus ≡ t).
    let is : first_leaving modulus t (suc more) n ≡ n = cond-true (n % modulus == t) n _ (grind (arith, nat_tests)) in
    (omega arith, ap (λ x. x % modulus) is ∙ here, omega arith))
    (λ (not_here : n % modulus ≡ t → ⊥).
    let is : first_leaving modulus t (suc more) n ≡ first_leaving modulus t more (n + 1) = cond-false (n % modulus == t) n _ (grind (arith, nat_tests)) in
    let above : n + 1 ≤ m = ⊎_elim (λ (e : n ≡ m). absurd (not_here (ap (λ x. x % modulus) e ∙ leaves))) (λ (ne : n ≡ m → ⊥). omega arith) (cases_eq n m) in
    let rest = found modulus t more (n + 1) m above (omega arith) leaves in
    (omega arith, ap (λ x. x % modulus) is ∙ rest.1, omega arith))
    (cases_eq (n % modulus) t)

-- Among as many numbers as the modulus there is one that leaves t.
pub some_leaves : (modulus t n : ℕ) → t < modulus → (m : ℕ) × (n ≤ m) × (m < n + modulus) × (m % modulus ≡ t)
some_leaves modulus t n small =
    let q = n / modulus in
    let whole = div-add-mod' n modulus in
    let low = mod-lt n {m = modulus} (omega arith) in
    ⊎_elim
    (λ (above : t < n % modulus). ((q + 1) * modulus + t, omega (arith, add-mul q 1 modulus, one-mul modulus), omega (arith, add-mul q 1 modulus, one-mul modulus), digits_mod (q + 1) small))
    (λ (below : n % modulus ≤ t). (q * modulus + t, omega arith, omega arith, digits_mod q small))
    (cases_lt t (n % modulus))

-- So the first number from n on that leaves t is the least one that is not below n and leaves t.
pub least_leaving : (modulus t n : ℕ) → t < modulus → Least (λ m. (n ≤ m) × (m % modulus ≡ t)) (first_leaving modulus t modulus n)
least_leaving modulus t n small =
    let some = some_leaves modulus t n small in
    let here = found modulus t modulus n some.0 some.1 some.2 some.3 in
    record {
      has = (here.0, here.1);
      least = λ m (p : (n ≤ m) × (m % modulus ≡ t)).
          ⊎_elim
          (λ (near : m < n + modulus). (found modulus t modulus n m p.0 near p.1).2)
          (λ (far : n + modulus ≤ m). let a = here.2 in let b = some.2 in omega arith)
          (cases_lt m (n + modulus));
    }

pub next_least : (modulus c t : ℕ) → t < modulus → Next modulus c t (next_number modulus c t)
next_least modulus c t small =
    let l = least_leaving modulus t (c + 1) small in
    let h = l.has in
    record { has = (omega arith, h.1); least = λ m (p : (c < m) × (m % modulus ≡ t)). l.least m (omega arith, p.1) }

-- The highest of some numbers is not below any of them, and not above what none of them is above.
pub highest_above : (xs : List ℕ) (i : ℕ) → slice_index_or xs i 0 ≤ highest xs
highest_above [] i = omega arith
highest_above (x ∷ xs) zero = omega arith
highest_above (x ∷ xs) (suc i) = let rest = highest_above xs i in omega arith

pub highest_below : (xs : List ℕ) (n : ℕ) → ((i : ℕ) → i < length xs → slice_index_or xs i 0 ≤ n) → highest xs ≤ n
highest_below xs n all = max_least highest (λ x. x) refl (λ _ _. refl) xs 0 n all

pub highest_under : (xs : List ℕ) (n : ℕ) → 0 < n → ((i : ℕ) → i < length xs → slice_index_or xs i 0 < n) → highest xs < n
highest_under xs n pos all = let below = highest_below xs (n - 1) (λ i l. let here = all i l in omega arith) in omega arith

pub stamp_least : (modulus : ℕ) (numbers base : List ℕ) (t : ℕ) → 0 < t → t < modulus → Stamp modulus numbers base t (stamp_number modulus numbers base t)
stamp_least modulus numbers base t pos small =
    let l = least_leaving modulus t (max (highest numbers) (highest base + 1)) small in
    let h = l.has in
    record {
      has = (h.1, λ i b. omega (arith, highest_above numbers i), λ q b. omega (arith, highest_above base q));
      least = λ m (p : (m % modulus ≡ t) × ((i : ℕ) → i < length numbers → slice_index_or numbers i 0 ≤ m) × ((q : ℕ) → q < length base → slice_index_or base q 0 < m)).
          let not_zero : (m ≡ 0 → ⊥) = λ z. let e = sym p.0 ∙ ap (λ x. x % modulus) z ∙ mod-eq_of_lt {n = 0} {m = modulus} (omega arith) in omega arith in
          let a = highest_below numbers m p.1 in
          let b = highest_under base m (omega arith) p.2 in
          l.least m (omega arith, p.0);
    }

pub numbers_are_least : NumbersAreLeast
numbers_are_least = record { next = next_least; stamp = stamp_least }

-- The formula for the modulus 256: the number n without its remainder, and t; or 256 more where that would be below n.
pub by_formula : (t n r : ℕ) → t < 256 → n ≤ r → r < n + 256 → r % 256 ≡ t → r ≡ first_leaving 256 t 256 n
by_formula t n r small low high leaves =
    let l = least_leaving 256 t n small in
    let h = l.has in
    let below = l.least r (low, leaves) in
    omega arith

-- The largest of some numbers, and 0 of none, is the highest.
fold_highest : (xs : List ℕ) (a : ℕ) → fold (λ b x. max b x) a xs ≡ max a (highest xs)
fold_highest [] a = omega arith
fold_highest (x ∷ xs) a = let rest = fold_highest xs (max a x) in omega arith

pub max_highest : (xs : List ℕ) → unwrap_or (reduce (λ p z. max_by_ordering (nat_cmp p z) p z) xs) 0 ≡ highest xs
max_highest xs =
    let folded = fold_highest xs 0 in
    let most : unwrap_or (reduce (λ p z. max_by_ordering (nat_cmp p z) p z) xs) 0 ≡ fold (λ a x. max a x) 0 xs = simp map-id at (max_of_map (λ x. x) xs) in
    omega arith

-- A number that is taken into 32 bits where it fits.
pub fits_taken : {E : Type 0} (r : Result ℕ E) (n : ℕ) → OkIff r (n < 2 ^ 32) n → result_ok r ≡ if_fits n
fits_taken (Ok x) n told = let few = told.0 in let is = told.1 in grind (arith, nat_tests)
fits_taken (Err e) n told = grind (arith, nat_tests)
