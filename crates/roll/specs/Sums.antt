-- What a change of one chain does to a total over all.
use Rattle.std.specs.Prelude.{◌≡◌, ℕ, zero, suc, ◌+◌, ◌<◌, ◌≤◌, ◌≢◌, refl}
use Rattle.std.proofs.Common.{sym, ap, ⊎_elim, arith}
use Rattle.std.proofs.lemmas.Bool.{cases_eq}
use Rattle.std.proofs.lemmas.Bool.Decides.{nat_tests}
use Rattle.store.specs.Model.{Chain, Meaning, with_chain, fresh, first_chain}
use Rattle.roll.specs.Totals.{sum_below, total_of}

same_sums : (n : ℕ) (f g : ℕ → ℕ) → ((j : ℕ) → j < n → g j ≡ f j) → sum_below n g ≡ sum_below n f
unfolding sum_below
same_sums zero f g h = refl
same_sums (suc n) f g h =
    let rest = same_sums n f g (λ j l. h j (omega arith)) in
    let last = h n (omega arith) in
    omega arith

-- Two functions that differ at one place have sums that differ by as much.
moved : (n i : ℕ) (f g : ℕ → ℕ) → i < n → ((j : ℕ) → j ≢ i → g j ≡ f j) → sum_below n g + f i ≡ sum_below n f + g i
unfolding sum_below
moved zero i f g l h = absurd (omega arith)
moved (suc n) i f g l h =
    ⊎_elim
    (λ (e : i ≡ n).
    let below = same_sums n f g (λ j k. h j (omega arith)) in
    let fi : f i ≡ f n = ap f e in
    let gi : g i ≡ g n = ap g e in
    omega arith)
    (λ (ne : i ≡ n → ⊥).
    let rest = moved n i f g (omega arith) h in
    let last = h n (λ e. ne (sym e)) in
    omega arith)
    (cases_eq i n)

-- No term is above the sum.
one_below : (n i : ℕ) (f : ℕ → ℕ) → i < n → f i ≤ sum_below n f
unfolding sum_below
one_below zero i f l = absurd (omega arith)
one_below (suc n) i f l =
    ⊎_elim
    (λ (e : i ≡ n). let fi : f i ≡ f n = ap f e in omega arith)
    (λ (ne : i ≡ n → ⊥). let rest = one_below n i f (omega arith) in omega arith)
    (cases_eq i n)

none_below : (n : ℕ) (f : ℕ → ℕ) → ((j : ℕ) → f j ≡ 0) → sum_below n f ≡ 0
unfolding sum_below
none_below zero f h = refl
none_below (suc n) f h = let rest = none_below n f h in let last = h n in omega arith

here_is : (m : Meaning) (node key : ℕ) (c : Chain) → with_chain m node key c node key ≡ c
here_is m node key c = grind (arith, nat_tests)

other_node : (m : Meaning) (node key : ℕ) (c : Chain) (n k : ℕ) → n ≢ node → with_chain m node key c n k ≡ m n k
other_node m node key c n k ne = grind (arith, nat_tests)

other_key : (m : Meaning) (node key : ℕ) (c : Chain) (k : ℕ) → k ≢ key → with_chain m node key c node k ≡ m node k
other_key m node key c k ne = grind (arith, nat_tests)

pub total_with : (f : Chain → ℕ) (m : Meaning) (node key : ℕ) (c : Chain) → node < 8 → key < 64 → total_of f (with_chain m node key c) + f (m node key) ≡ total_of f m + f c
unfolding total_of
total_with f m node key c hn hk =
    let w : Meaning = with_chain m node key c in
    let rows = moved 8 node (λ n. sum_below 64 (λ k. f (m n k))) (λ n. sum_below 64 (λ k. f (w n k))) hn
    (λ n ne. same_sums 64 (λ k. f (m n k)) (λ k. f (w n k)) (λ k l. ap f (other_node m node key c n k ne))) in
    let row = moved 64 key (λ k. f (m node k)) (λ k. f (w node k)) hk (λ k ne. ap f (other_key m node key c k ne)) in
    let now = ap f (here_is m node key c) in
    omega arith

pub one_within : (f : Chain → ℕ) (m : Meaning) (node key : ℕ) → node < 8 → key < 64 → f (m node key) ≤ total_of f m
unfolding total_of
one_within f m node key hn hk =
    let row = one_below 64 key (λ k. f (m node k)) hk in
    let rows = one_below 8 node (λ n. sum_below 64 (λ k. f (m n k))) hn in
    omega arith

pub total_fresh : (f : Chain → ℕ) → f first_chain ≡ 0 → total_of f fresh ≡ 0
unfolding total_of
total_fresh f e = none_below 8 (λ n. sum_below 64 (λ k. f (fresh n k))) (λ n. none_below 64 (λ k. f (fresh n k)) (λ k. e))
