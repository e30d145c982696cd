-- Whether another update blocks one at a node.
use Rattle.std.proofs.Common.{◌≡◌, ℕ, zero, suc, ◌+◌, ◌-◌, ◌<◌, ◌≤◌, Bool, true, false, not, ◌&&◌, ◌||◌, eqb, List, length, get_or, sym, refl, ap, ◌∙◌, arith, below_more}
use Rattle.std.proofs.lemmas.List.{get_or_default}
use Rattle.clock.specs.Clocks.{marked}
use Rattle.rules.specs.declared.records.Kind.TheVariants.{Search}
use Rattle.rules.specs.declared.records.Transaction.{Transaction}
use Rattle.rules.specs.World.{World, transaction, new_transaction, some_below}
use Rattle.rules.specs.Voting.{conflict_at, blocks, busy}
use Rattle.rules.proofs.States.{some_from}

or_false : (a b : Bool) → a ≡ false → b ≡ false → (a || b) ≡ false
or_false a b p q = rw (p, q) refl

-- A loop that stops at the first number that passes a test.
pub none_below : (n : ℕ) (test : ℕ → Bool) → ((k : ℕ) → k < n → test k ≡ false) → some_below n test ≡ false
none_below zero test none = refl
none_below (suc n) test none = or_false (test n) (some_below n test) (none n (omega arith)) (none_below n test (λ k l. none k (omega arith)))

-- What stands at i is the record of transaction i + 1.
pub transaction_at : (w : World) (xs : List Transaction) (i : ℕ) (d : Transaction) → w.transactions ≡ xs → i < length xs → get_or xs i d ≡ transaction w (i + 1)
transaction_at w xs i d is inside =
    let next : i ≡ i + 1 - 1 = omega arith in
    get_or_default xs i d (new_transaction Search) inside
    ∙ ap (λ (l : List Transaction). get_or l i (new_transaction Search)) (sym is)
    ∙ ap (λ (n : ℕ). get_or w.transactions n (new_transaction Search)) next

-- The first two of three tests, and the third.
first_fail : (a b c : Bool) → (a && b) ≡ false → (a && (b && c)) ≡ false
first_fail true b c e = rw e refl
first_fail false b c e = refl

third_fails : (a b c : Bool) → c ≡ false → (a && (b && c)) ≡ false
third_fails true true c e = e
third_fails true false c e = refl
third_fails false b c e = refl

all_pass : (a b c : Bool) → (a && b) ≡ true → c ≡ true → (a && (b && c)) ≡ true
all_pass true true c e d = d
all_pass true false c e d = e
all_pass false b c e d = e

module _ (w : World) (t p u : ℕ) (x other : Transaction) (x_is : x ≡ transaction w t) (other_is : other ≡ transaction w u) where
  abbrev rival : Transaction → Bool
  rival y = not (eqb u t) && marked y.engaged p

  abbrev conflict : Bool
  conflict = some_below 64 (conflict_at w (transaction w t) (transaction w u) p)

  same_conflicts : conflict ≡ some_below 64 (conflict_at w x other p)
  same_conflicts = ap (λ (y : Transaction). some_below 64 (conflict_at w y (transaction w u) p)) (sym x_is) ∙ ap (λ (y : Transaction). some_below 64 (conflict_at w x y p)) (sym other_is)

  pub blocks_no_rival : (not (eqb u t) && marked other.engaged p) ≡ false → blocks w t p u ≡ false
  blocks_no_rival e = first_fail (not (eqb u t)) (marked (transaction w u).engaged p) conflict (ap rival (sym other_is) ∙ e)

  pub blocks_nowhere : ((k : ℕ) → k < 64 → conflict_at w x other p k ≡ false) → blocks w t p u ≡ false
  blocks_nowhere none = third_fails (not (eqb u t)) (marked (transaction w u).engaged p) conflict (same_conflicts ∙ none_below 64 (conflict_at w x other p) none)

  pub blocks_here : (not (eqb u t) && marked other.engaged p) ≡ true → (k : ℕ) → k < 64 → conflict_at w x other p k ≡ true → blocks w t p u ≡ true
  blocks_here e k inside here =
      all_pass (not (eqb u t)) (marked (transaction w u).engaged p) conflict (ap rival (sym other_is) ∙ e) (same_conflicts ∙ some_from 64 (conflict_at w x other p) k inside here)

-- None of the first n transactions blocks t, whose record is x, in any world with these transactions and this placement.
unfoldable pub NoneBlocks : List Transaction → List ℕ → ℕ → Transaction → ℕ → ℕ → Type 0
NoneBlocks xs placement t x p n =
    (w : World) → w.transactions ≡ xs → w.placement ≡ placement → x ≡ transaction w t → (i : ℕ) → i < n → blocks w t p (i + 1) ≡ false

-- Two updates do not conflict at the first n keys, in any world with this placement.
unfoldable pub Apart : List ℕ → Transaction → Transaction → ℕ → ℕ → Type 0
Apart placement x other p n = (w : World) → w.placement ≡ placement → (k : ℕ) → k < n → conflict_at w x other p k ≡ false

pub apart_at_first : (placement : List ℕ) (x other : Transaction) (p : ℕ) → Apart placement x other p 0
unfolding Apart
apart_at_first placement x other p w placed k l = absurd (omega arith)

pub apart_more : (placement : List ℕ) (x other : Transaction) (p n : ℕ) → Apart placement x other p n → ((w : World) → w.placement ≡ placement → conflict_at w x other p n ≡ false) → Apart placement x other p (n + 1)
unfolding Apart
apart_more placement x other p n so_far here w placed = below_more (λ (k : ℕ). conflict_at w x other p k ≡ false) n (so_far w placed) (here w placed)

module _ (xs : List Transaction) (placement : List ℕ) (t : ℕ) (x : Transaction) (p : ℕ) where
  pub none_at_first : NoneBlocks xs placement t x p 0
  unfolding NoneBlocks
  none_at_first w are placed x_is i l = absurd (omega arith)

  module _ (i : ℕ) (d : Transaction) (inside : i < length xs) where
    pub none_past_idle : NoneBlocks xs placement t x p i → (not (eqb (i + 1) t) && marked (get_or xs i d).engaged p) ≡ false → NoneBlocks xs placement t x p (i + 1)
    unfolding NoneBlocks
    none_past_idle none idle w are placed x_is =
        below_more (λ (j : ℕ). blocks w t p (j + 1) ≡ false) i (none w are placed x_is)
        (blocks_no_rival w t p (i + 1) x (get_or xs i d) x_is (transaction_at w xs i d are inside) idle)

    pub none_past : NoneBlocks xs placement t x p i → (n : ℕ) → 64 ≤ n → Apart placement x (get_or xs i d) p n → NoneBlocks xs placement t x p (i + 1)
    unfolding NoneBlocks Apart
    none_past none n last apart w are placed x_is =
        below_more (λ (j : ℕ). blocks w t p (j + 1) ≡ false) i (none w are placed x_is)
        (blocks_nowhere w t p (i + 1) x (get_or xs i d) x_is (transaction_at w xs i d are inside) (λ k l. apart w placed k (omega arith)))

    pub busy_with : (not (eqb (i + 1) t) && marked (get_or xs i d).engaged p) ≡ true → (k : ℕ) → k < 64 → ((w : World) → w.placement ≡ placement → conflict_at w x (get_or xs i d) p k ≡ true) → (w : World) → w.transactions ≡ xs → w.placement ≡ placement → x ≡ transaction w t → true ≡ busy w t p
    unfolding busy
    busy_with rival k low clash w are placed x_is =
        let begun : i < length w.transactions = omega (arith, ap length are) in
        sym (some_from (length w.transactions) (λ j. blocks w t p (j + 1)) i begun
        (blocks_here w t p (i + 1) x (get_or xs i d) x_is (transaction_at w xs i d are inside) rival k low (clash w placed)))

  pub not_busy : (n : ℕ) → length xs ≤ n → NoneBlocks xs placement t x p n → (w : World) → w.transactions ≡ xs → w.placement ≡ placement → x ≡ transaction w t → false ≡ busy w t p
  unfolding NoneBlocks busy
  not_busy n all none w are placed x_is =
      sym (none_below (length w.transactions) (λ j. blocks w t p (j + 1)) (λ j l. none w are placed x_is j (omega (arith, ap length are))))
