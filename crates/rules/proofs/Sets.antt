-- The keys that a transaction writes at a node.
use Rattle.std.proofs.Common.{◌≡◌, ℕ, zero, suc, ◌+◌, ◌<◌, ◌≤◌, Bool, true, false, cond, ◌&&◌, nat_lt, nat_le, List, [], ◌∷◌, filter, ap, ◌∙◌, subst, ⊎_elim, arith}
use Rattle.std.specs.List.{range_with_len, AllByRecursion}
use Rattle.std.proofs.ByRecursion.{kept_by_passes}
use Rattle.std.proofs.lemmas.Bool.{cases_Bool, cases_eq, cond-true, cond-false, cond_both, false_from_ne_true}
use Rattle.std.proofs.lemmas.Bool.Decides.{nat_tests}
use Rattle.store.specs.Batch.{asked}
use Rattle.rules.specs.declared.records.Transaction.{Transaction}
use Rattle.rules.specs.World.{World, holds, some_below, wrote, written_at}
use Rattle.rules.proofs.States.{none_has}

module _ (test : ℕ → Bool) where
  -- None below a bound passes.
  pub none_from : (n : ℕ) → some_below n test ≡ false → (k : ℕ) → k < n → test k ≡ false
  none_from n h k l = false_from_ne_true (test k) (none_has n test k h l)

  -- Of a stretch of numbers, those that pass are asked for once each.
  pub asked_kept : (a n k : ℕ) → asked (filter test (range_with_len a n)) k ≡ cond (test k && (nat_le a k && nat_lt k (a + n))) 1 0
  unfolding asked
  asked_kept a zero k = grind (arith, nat_tests)
  asked_kept a (suc n) k =
      let rest = asked_kept (a + 1) n k in
      ⊎_elim
      (λ (here : test a ≡ true).
      ap (λ ks. asked ks k) (cond-true (test a) (a ∷ filter test (range_with_len (a + 1) n)) (filter test (range_with_len (a + 1) n)) here)
      ∙ ⊎_elim
      (λ (e : a ≡ k). let passes : test k ≡ true = subst (λ (i : ℕ). test i ≡ true) e here in grind (arith, nat_tests))
      (λ (e : a ≡ k → ⊥). grind (arith, nat_tests))
      (cases_eq a k))
      (λ (here : test a ≡ false).
      ap (λ ks. asked ks k) (cond-false (test a) (a ∷ filter test (range_with_len (a + 1) n)) (filter test (range_with_len (a + 1) n)) here)
      ∙ ⊎_elim
      (λ (e : a ≡ k). let fails : test k ≡ false = subst (λ (i : ℕ). test i ≡ false) e here in grind (arith, nat_tests))
      (λ (e : a ≡ k → ⊥). grind (arith, nat_tests))
      (cases_eq a k))
      (cases_Bool (test a))

-- The numbers of a list ascend, from a on.
abbrev pub Ascend : ℕ → List ℕ → Type 0
Ascend a [] = Unit {0}
Ascend a (k ∷ ks) = (a ≤ k) × Ascend (k + 1) ks

pub ascend_later : (a b : ℕ) (ks : List ℕ) → a ≤ b → Ascend b ks → Ascend a ks
ascend_later a b [] l h = tt
ascend_later a b (k ∷ ks) l h = (omega arith, h.1)

pub ascend_kept : (test : ℕ → Bool) (a n : ℕ) → Ascend a (filter test (range_with_len a n))
ascend_kept test a zero = tt
ascend_kept test a (suc n) =
    cond_both (test a) (a ∷ filter test (range_with_len (a + 1) n)) (filter test (range_with_len (a + 1) n)) (Ascend a)
    (λ e. (omega arith, ascend_kept test (a + 1) n)) (λ e. ascend_later a (a + 1) (filter test (range_with_len (a + 1) n)) (omega arith) (ascend_kept test (a + 1) n))

within_all : (b : Bool) (k : ℕ) → ◌≡◌ {A = ℕ} (cond (b && (nat_le 0 k && nat_lt k (0 + 64))) 1 0) (cond (b && nat_lt k 64) 1 0)
within_all b k = grind (arith, nat_tests)

module _ (w : World) (x : Transaction) (p : ℕ) where
  -- Each key that is written there is asked for once.
  pub asked_written : (k : ℕ) → asked (written_at w x p) k ≡ cond ((wrote x k && holds w p k) && nat_lt k 64) 1 0
  unfolding written_at
  asked_written k = asked_kept (λ j. wrote x j && holds w p j) 0 64 k ∙ within_all (wrote x k && holds w p k) k

  -- They ascend: a place is set aside for the lower keys first.
  pub written_ascend : Ascend 0 (written_at w x p)
  unfolding written_at
  written_ascend = ascend_kept (λ j. wrote x j && holds w p j) 0 64

  -- All of them are written and held.
  pub written_members : AllByRecursion (λ k. (wrote x k && holds w p k) ≡ true) (written_at w x p)
  unfolding written_at
  written_members = kept_by_passes (λ j. wrote x j && holds w p j) (range_with_len 0 64)
