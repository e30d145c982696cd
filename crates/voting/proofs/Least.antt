-- The update that waits with the least number, as a chain over the numbered records finds it.
use Rattle.std.proofs.Common.{◌≡◌, ℕ, suc, ◌+◌, ◌<◌, Bool, true, false, ◌&&◌, cond, nat_lt, List, [], ◌∷◌, map, filter, fold, length, get_or, Ordering, Less, Equal, Greater, Some, None, Option, refl, sym, ap, ◌∙◌, subst, arith}
use Rattle.std.specs.Fn.{CalledAt}
use Rattle.std.specs.Iterator.{KeyTurn, PicksMinByKey}
use Rattle.std.specs.List.{FoldsTo, enumerate_from, range_with_len}
use Rattle.std.specs.Option.{option_map}
use Rattle.std.specs.Ordering.{nat_cmp, min_by_ordering}
use Rattle.std.proofs.lemmas.Bool.{cond-true, cond-false}
use Rattle.std.proofs.lemmas.Bool.Decides.{nat_tests}
use Rattle.std.proofs.lemmas.Cmp.{ranked}
use Rattle.std.proofs.lemmas.Iterator.{YieldsList}
use Rattle.std.proofs.lemmas.Iterator.Consumers.{YieldsList-end}
use denote.Param.Members.{Mut}
use denote.Ref.{Bor}
use Rattle.clock.specs.Clocks.{slot, marked}
use Rattle.rules.specs.declared.records.Kind.TheVariants.{Search}
use Rattle.rules.specs.declared.records.Transaction.{Transaction}
use Rattle.rules.specs.World.{World, transaction, new_transaction, is_write_node}
use Rattle.rules.specs.Applying.{sooner, number_at, least_waiting}

-- Of the best item so far and one more, the one with the lower key.
abbrev lower : {B : Type 0} → (B → ℕ) → B → B → B
lower key best z = cond (nat_lt (key z) (key best)) z best

-- The item with the least key, the first of equals.
abbrev pub least_by : {B : Type 0} → (B → ℕ) → List B → Option B
least_by key [] = None
least_by key (z ∷ zs) = Some (fold (lower key) z zs)

module _ {A B : Type 0} (v : A → B) (key : B → ℕ) where
  lower_is : (o : Ordering) (x y : A) → nat_cmp (key (v x)) (key (v y)) ≡ o → v (min_by_ordering o x y) ≡ lower key (v x) (v y)
  lower_is Less x y e =
      let kept : nat_lt (key (v y)) (key (v x)) ≡ false = grind (arith, nat_tests, ranked (key (v x)) (key (v y)) Less (sym e)) in
      sym (cond-false (nat_lt (key (v y)) (key (v x))) (v y) (v x) kept)
  lower_is Equal x y e =
      let kept : nat_lt (key (v y)) (key (v x)) ≡ false = grind (arith, nat_tests, ranked (key (v x)) (key (v y)) Equal (sym e)) in
      sym (cond-false (nat_lt (key (v y)) (key (v x))) (v y) (v x) kept)
  lower_is Greater x y e =
      let taken : nat_lt (key (v y)) (key (v x)) ≡ true = grind (arith, nat_tests, ranked (key (v x)) (key (v y)) Greater (sym e)) in
      sym (cond-true (nat_lt (key (v y)) (key (v x))) (v y) (v x) taken)

  key_is : (o : Ordering) (x y : A) → min_by_ordering o (key (v x)) (key (v y)) ≡ key (v (min_by_ordering o x y))
  key_is Less x y = refl
  key_is Equal x y = refl
  key_is Greater x y = refl

-- What `min_by_key` gives, where the closure computes a key.
module _ {A B F : Type 0} {g : Mut F (Bor A × Unit {0}) ℕ} {f : F} (v : A → B) (key : B → ℕ) (computes : (x : A) (k : ℕ) (q : F) → CalledAt g f x k q → (q ≡ f) × (k ≡ key (v x))) where
  turns : (xs : List A) (p q : (F × ℕ) × A) → p.0.0 ≡ f → p.0.1 ≡ key (v p.1) → FoldsTo {P = (F × ℕ) × A} (KeyTurn min_by_ordering min_by_ordering g nat_cmp) p xs q → v q.1 ≡ fold (lower key) (v p.1) (map v xs)
  turns [] p q same best end = ap (λ (r : (F × ℕ) × A). v r.1) (sym end)
  turns (z ∷ zs) p q same best (j, (k, o, called, compared, next_key, next), rest) =
      let at_z = computes z k j.0.0 (subst (λ (h : F). CalledAt g h z k j.0.0) same called) in
      let ordered : nat_cmp (key (v p.1)) (key (v z)) ≡ o = ap (λ (n : ℕ). nat_cmp n (key (v z))) (sym best) ∙ ap (nat_cmp p.0.1) (sym at_z.1) ∙ compared in
      let new_key : j.0.1 ≡ key (v j.1) =
      next_key ∙ ap (λ (n : ℕ). min_by_ordering o n k) best ∙ ap (min_by_ordering o (key (v p.1))) at_z.1 ∙ key_is v key o p.1 z ∙ ap (λ (y : A). key (v y)) (sym next) in
      turns zs j q at_z.0 new_key rest ∙ ap (λ (b : B). fold (lower key) b (map v zs)) (ap v next ∙ lower_is v key o p.1 z ordered)

  module _ {S : Type 0} {steps : S → Option A → S → Type 0} {s : S} {all : List B} (chain : YieldsList steps v s all) where
    pub least_from_yields_List : (r : Option A) → PicksMinByKey steps g nat_cmp s f r → option_map v r ≡ least_by key all
    least_from_yields_List None d = ap (least_by key) (YieldsList-end chain [] d.1.0 d.1.1 None d.0 refl d.1.2).0
    least_from_yields_List (Some m) (x, xs, k, h, q, d, called, picked) =
        let at_x = computes x k h called in
        ap Some (turns xs ((h, k), x) (q, m) at_x.0 at_x.1 picked) ∙ ap (least_by key) (YieldsList-end chain (x ∷ xs) d.1.0 d.1.1 None d.0 refl d.1.2).0

-- The number of the transaction that a chain over indices and records finds.
abbrev pub number_found : Option (ℕ × Bor Transaction) → Option ℕ
number_found found = option_map (λ (z : ℕ × Transaction). z.0 + 1) (option_map (λ (z : ℕ × Bor Transaction). (z.0, z.1.now)) found)

-- The records with their indices, of which those that wait are kept. At index i stands the record of transaction i + 1.
module _ (w : World) (p : ℕ) where
  abbrev pub is_waiting : ℕ × Transaction → Bool
  is_waiting z = marked z.1.engaged p && is_write_node w z.1 p

  abbrev pub number_of : ℕ × Transaction → ℕ
  number_of z = slot z.1.numbers p

  abbrev Indexed : ℕ → List Transaction → Type 0
  Indexed a xs = (i : ℕ) → i < length xs → get_or xs i (new_transaction Search) ≡ transaction w (a + i + 1)

  first_of : (a : ℕ) (x : Transaction) (xs : List Transaction) → Indexed a (x ∷ xs) → x ≡ transaction w (a + 1)
  first_of a x xs indexed = subst (λ (n : ℕ). x ≡ transaction w n) (omega arith) (indexed 0 (omega arith))

  others_of : (a : ℕ) (x : Transaction) (xs : List Transaction) → Indexed a (x ∷ xs) → Indexed (a + 1) xs
  others_of a x xs indexed i inside = subst (λ (n : ℕ). get_or xs i (new_transaction Search) ≡ transaction w n) (omega arith) (indexed (suc i) (omega (arith, inside)))

  abbrev IsRecord : ℕ × Transaction → Type 0
  IsRecord z = z.1 ≡ transaction w (z.0 + 1)

  abbrev numbered : ℕ × Transaction → ℕ
  numbered z = z.0 + 1

  -- What the rest of the list does to the best so far.
  abbrev Leads : List ℕ → List (ℕ × Transaction) → Type 0
  Leads numbers kept = (c : ℕ × Transaction) → IsRecord c → fold (sooner w p) (Some (numbered c)) numbers ≡ Some (numbered (fold (lower number_of) c kept))

  leads_on : (z b : ℕ × Transaction) (numbers : List ℕ) (kept : List (ℕ × Transaction)) (taken less : Bool) → less ≡ nat_lt (number_of z) (number_of b) → Leads numbers kept → IsRecord z → IsRecord b → fold (sooner w p) (cond (taken && less) (Some (numbered z)) (Some (numbered b))) numbers ≡ Some (numbered (fold (lower number_of) b (cond taken (z ∷ kept) kept)))
  leads_on z b numbers kept true true e rest z_is b_is = rest z z_is ∙ ap (λ (m : Bool). Some (numbered (fold (lower number_of) (cond m z b) kept))) e
  leads_on z b numbers kept true false e rest z_is b_is = rest b b_is ∙ ap (λ (m : Bool). Some (numbered (fold (lower number_of) (cond m z b) kept))) e
  leads_on z b numbers kept false less e rest z_is b_is = rest b b_is

  some_along : (xs : List Transaction) (a : ℕ) → Indexed a xs → Leads (range_with_len (a + 1) (length xs)) (filter is_waiting (enumerate_from a xs))
  some_along [] a indexed b b_is = refl
  some_along (x ∷ xs) a indexed b b_is =
      let x_is = first_of a x xs indexed in
      ap (λ (o : Option ℕ). fold (sooner w p) o (range_with_len (a + 1 + 1) (length xs)))
      (ap (λ (y : Transaction). cond (is_waiting (a, y) && nat_lt (number_of (a, y)) (number_at w p (numbered b))) (Some (a + 1)) (Some (numbered b))) (sym x_is)
      ∙ ap (λ (y : Transaction). cond (is_waiting (a, x) && nat_lt (number_of (a, x)) (slot y.numbers p)) (Some (a + 1)) (Some (numbered b))) (sym b_is))
      ∙ leads_on (a, x) b (range_with_len (a + 1 + 1) (length xs)) (filter is_waiting (enumerate_from (a + 1) xs)) (is_waiting (a, x)) (nat_lt (number_of (a, x)) (number_of b)) refl
      (some_along xs (a + 1) (others_of a x xs indexed)) x_is b_is

  none_on : (z : ℕ × Transaction) (numbers : List ℕ) (kept : List (ℕ × Transaction)) (taken : Bool) → Leads numbers kept → fold (sooner w p) None numbers ≡ option_map numbered (least_by number_of kept) → IsRecord z → fold (sooner w p) (cond taken (Some (numbered z)) None) numbers ≡ option_map numbered (least_by number_of (cond taken (z ∷ kept) kept))
  none_on z numbers kept true some none z_is = some z z_is
  none_on z numbers kept false some none z_is = none

  none_along : (xs : List Transaction) (a : ℕ) → Indexed a xs → fold (sooner w p) None (range_with_len (a + 1) (length xs)) ≡ option_map numbered (least_by number_of (filter is_waiting (enumerate_from a xs)))
  none_along [] a indexed = refl
  none_along (x ∷ xs) a indexed =
      let x_is = first_of a x xs indexed in
      ap (λ (y : Transaction). fold (sooner w p) (cond (is_waiting (a, y)) (Some (a + 1)) None) (range_with_len (a + 1 + 1) (length xs))) (sym x_is)
      ∙ none_on (a, x) (range_with_len (a + 1 + 1) (length xs)) (filter is_waiting (enumerate_from (a + 1) xs)) (is_waiting (a, x))
      (some_along xs (a + 1) (others_of a x xs indexed)) (none_along xs (a + 1) (others_of a x xs indexed)) x_is

  least_of_waiting : (xs : List Transaction) → w.transactions ≡ xs → option_map numbered (least_by number_of (filter is_waiting (enumerate_from 0 xs))) ≡ least_waiting w p
  unfolding least_waiting
  least_of_waiting xs are =
      sym (none_along xs 0 (λ i inside. ap (λ (l : List Transaction). get_or l i (new_transaction Search)) (sym are) ∙ ap (λ (n : ℕ). get_or w.transactions n (new_transaction Search)) (omega arith)))
      ∙ ap (λ (l : List Transaction). fold (sooner w p) None (range_with_len 1 (length l))) (sym are)

  pub least_found : (xs : List Transaction) → w.transactions ≡ xs → (found : Option (ℕ × Bor Transaction)) → option_map (λ (z : ℕ × Bor Transaction). (z.0, z.1.now)) found ≡ least_by number_of (filter is_waiting (enumerate_from 0 xs)) → number_found found ≡ least_waiting w p
  least_found xs are found is = ap (option_map numbered) is ∙ least_of_waiting xs are
