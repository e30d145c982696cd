-- How a vote raises the numbers of a transaction.
use Rattle.std.proofs.Common.{◌≡◌, ℕ, zero, suc, ◌+◌, ◌<◌, ◌≤◌, Bool, true, false, cond, List, length, set, sym, refl, ap, ◌∙◌, subst, ⊎_elim, arith, length-set}
use Rattle.std.proofs.lemmas.List.{get_or-set_same, get_or-set_other}
use Rattle.std.proofs.lemmas.Bool.{cases_eq, cond-true, cond-false}
use Rattle.clock.specs.Clocks.{marked}
use Rattle.rules.specs.declared.records.Transaction.{Transaction}
use Rattle.rules.specs.Changes.{has_no, has_yes, is_numbered}
use Rattle.records.specs.Bounds.{count_below, is_committed, raised_by, ClockWithin, TransactionWithin, Raises}
use Rattle.records.proofs.Bounded.{clock_more, set_within, join_within}

-- ── A mark more ──

abbrev one_if : Bool → ℕ
one_if b = cond b 1 0

marked_other : (row : List Bool) (p q : ℕ) → (q ≡ p → ⊥) → one_if (marked (set row p true) q) ≡ one_if (marked row q)
marked_other row p q ne = ap one_if (get_or-set_other row p q true false ne)

count_same : (n : ℕ) (row : List Bool) (p : ℕ) → n ≤ p → count_below n (marked (set row p true)) ≡ count_below n (marked row)
count_same zero row p l = refl
count_same (suc n) row p l =
    let rest = count_same n row p (omega arith) in
    let here = marked_other row p n (omega arith) in
    omega arith

count_more : (n : ℕ) (row : List Bool) (p : ℕ) → p < n → p < length row → marked row p ≡ false → count_below n (marked (set row p true)) ≡ count_below n (marked row) + 1
count_more zero row p l inside unmarked = absurd (omega arith)
count_more (suc n) row p l inside unmarked =
    ⊎_elim
    (λ (e : n ≡ p).
    let rest = count_same n row p (omega arith) in
    let now_marked : one_if (marked (set row p true) n) ≡ 1 = cond-true (marked (set row p true) n) 1 0 (ap (marked (set row p true)) e ∙ get_or-set_same row p true false inside) in
    let was_not : one_if (marked row n) ≡ 0 = cond-false (marked row n) 1 0 (ap (marked row) e ∙ unmarked) in
    omega arith)
    (λ (ne : n ≡ p → ⊥).
    let rest = count_more n row p (omega arith) inside unmarked in
    let here = marked_other row p n ne in
    omega arith)
    (cases_eq n p)

-- ── Votes ──

-- A clock is within the bound that a vote raises.
pub still_within : (b : ℕ) (clock : List ℕ) → ClockWithin b clock → ClockWithin (b + 256) clock
still_within b clock = clock_more b (b + 256) clock (omega arith)

module _ (b : ℕ) (x : Transaction) (p : ℕ) (within : TransactionWithin b x) (node : p < 8) (unvoted : marked x.voted p ≡ false) where
  voted_once : (y : Transaction) → y.voted ≡ set x.voted p true → y.state ≡ x.state → raised_by y ≡ raised_by x + 1
  unfolding raised_by
  voted_once y voted state =
      let one : count_below 8 (marked y.voted) ≡ count_below 8 (marked x.voted) + 1 =
      ap (λ (row : List Bool). count_below 8 (marked row)) voted ∙ count_more 8 x.voted p node (omega (arith, within.1.2)) unvoted in
      let same : one_if (is_committed y.state) ≡ one_if (is_committed x.state) = ap (λ s. one_if (is_committed s)) state in
      omega arith

  pub voted_raises : (y : Transaction) → y.voted ≡ set x.voted p true → y.state ≡ x.state → y.clock ≡ x.clock → y.commit ≡ x.commit → y.stamp ≡ x.stamp → ClockWithin (b + 256) y.numbers → ClockWithin (b + 256) y.votes → Raises b x y
  voted_raises y voted state clock commit stamp numbers votes =
      record {
        once = voted_once y voted state;
        within = (
          (subst (ClockWithin (b + 256)) (sym clock) (still_within b x.clock within.0.0), numbers, votes),
          (
            subst (ClockWithin (b + 256)) (sym commit) (still_within b x.commit within.1.0),
            omega (arith, within.1.1),
            ap length voted ∙ length-set x.voted p true ∙ within.1.2,
          ),
        );
      }

  pub no_raises : Raises b x (has_no p x)
  no_raises = voted_raises (has_no p x) refl refl refl refl refl (still_within b x.numbers within.0.1) (still_within b x.votes within.0.2)

  pub yes_raises : (seen : List ℕ) → ClockWithin b seen → Raises b x (has_yes p seen x)
  yes_raises seen low =
      voted_raises (has_yes p seen x) refl refl refl refl refl (still_within b x.numbers within.0.1) (still_within b (has_yes p seen x).votes (join_within b x.votes seen within.0.2 low))

  pub numbered_yes_raises : (seen : List ℕ) (number : ℕ) → ClockWithin b seen → number ≤ b + 256 → Raises b x (is_numbered p number (has_yes p seen x))
  numbered_yes_raises seen number low few =
      voted_raises (is_numbered p number (has_yes p seen x)) refl refl refl refl refl (set_within (b + 256) x.numbers p number few (still_within b x.numbers within.0.1))
      (still_within b (has_yes p seen x).votes (join_within b x.votes seen within.0.2 low))
