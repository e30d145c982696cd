-- How the bound on numbers follows a change of one record.
use Rattle.std.proofs.Common.{◌≡◌, ℕ, ◌+◌, ◌<◌, ◌≤◌, max, Bool, cond, List, map, length, get_or, set, sym, ap, ◌∙◌, subst, ⊎_elim, arith}
use Rattle.std.specs.List.{range_with_len}
use Rattle.std.proofs.lemmas.List.FromFn.{length-map-range_with_len, get_or-map-range_with_len}
use Rattle.std.proofs.lemmas.List.{get_or_past, get_or-set_same, get_or-set_other, set_past}
use Rattle.std.proofs.lemmas.Bool.{cases_eq, cases_lt}
use Rattle.clock.specs.Clocks.{slot, join, marked}
use Rattle.rules.specs.declared.records.Transaction.{Transaction}
use Rattle.records.specs.Bounds.{count_below, is_committed, raised_by, ClockWithin, TransactionWithin, Keeps}

-- ── Clocks within a bound ──

-- The bound may be higher.
pub clock_more : (b c : ℕ) (clock : List ℕ) → b ≤ c → ClockWithin b clock → ClockWithin c clock
clock_more b c clock l within q = let h = within q in omega arith

-- One entry of a row is replaced.
pub each_set : {X : Type 0} (P : X → Type 0) (xs : List X) (d y : X) (i : ℕ) → P y → ((j : ℕ) → P (get_or xs j d)) → (j : ℕ) → P (get_or (set xs i y) j d)
each_set {X} P xs d y i here all j =
    ⊎_elim
    (λ (inside : i < length xs).
    ⊎_elim
    (λ (e : j ≡ i). subst P (sym (ap (λ (n : ℕ). get_or (set xs i y) n d) e ∙ get_or-set_same xs i y d inside)) here)
    (λ (ne : j ≡ i → ⊥). subst P (sym (get_or-set_other xs i j y d ne)) (all j))
    (cases_eq j i))
    (λ (past : length xs ≤ i). subst P (sym (ap (λ (ys : List X). get_or ys j d) (set_past xs i y past))) (all j))
    (cases_lt i (length xs))

pub set_within : (b : ℕ) (row : List ℕ) (p n : ℕ) → n ≤ b → ClockWithin b row → ClockWithin b (set row p n)
set_within b row p n here all = each_set (λ (m : ℕ). m ≤ b) row 0 n p here all

-- A clock that is made slot by slot.
pub made_within : (b : ℕ) (f : ℕ → ℕ) → ((q : ℕ) → f q ≤ b) → ClockWithin b (map f (range_with_len 0 8))
made_within b f each q =
    ⊎_elim
    (λ (inside : q < 8). let is = get_or-map-range_with_len f 0 8 q q 0 inside (omega arith) in let h = each q in omega arith)
    (λ (past : 8 ≤ q). let long = length-map-range_with_len f 0 8 in let is = get_or_past (map f (range_with_len 0 8)) q 0 (omega arith) in omega arith)
    (cases_lt q 8)

pub join_within : (b : ℕ) (a c : List ℕ) → ClockWithin b a → ClockWithin b c → ClockWithin b (join a c)
join_within b a c left right = made_within b (λ q. max (slot a q) (slot c q)) (λ q. let l = left q in let r = right q in omega arith)

-- ── A change that raises nothing ──

-- A record with the same votes, the same numbers and the same decision as before.
pub keeps_same : (x y : Transaction) → y.clock ≡ x.clock → y.numbers ≡ x.numbers → y.votes ≡ x.votes → y.commit ≡ x.commit → y.stamp ≡ x.stamp → y.voted ≡ x.voted → is_committed y.state ≡ is_committed x.state → Keeps x y
unfolding raised_by
keeps_same x y clock numbers votes commit stamp voted state =
    record {
      same = ap (λ row. count_below 8 (marked row) + cond (is_committed y.state) 1 0) voted ∙ ap (λ b. count_below 8 (marked x.voted) + cond b 1 0) state;
      within = λ b (w : TransactionWithin b x). (
        (subst (ClockWithin b) (sym clock) w.0.0, subst (ClockWithin b) (sym numbers) w.0.1, subst (ClockWithin b) (sym votes) w.0.2),
        (subst (ClockWithin b) (sym commit) w.1.0, subst (λ (n : ℕ). n ≤ b) (sym stamp) w.1.1, subst (λ (row : List Bool). length row ≡ 8) (sym voted) w.1.2),
      );
    }
