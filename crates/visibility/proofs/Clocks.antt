-- The clock of a transaction after a read, and the commit clocks that it is compared with.
use Rattle.std.proofs.Common.{◌≡◌, ℕ, suc, ◌≤◌, Bool, true, false, cond, ◌&&◌, List, [], ◌∷◌, get_or, fold, sym, ap, ◌∙◌, subst}
use Rattle.std.proofs.lemmas.Bool.{cond-true, cond-false}
use Rattle.clock.specs.Clocks.{slot, join, marked, passes}
use Rattle.rules.specs.declared.records.Kind.TheVariants.{Search}
use Rattle.rules.specs.declared.records.Transaction.{Transaction}
use Rattle.rules.specs.World.{World, new_transaction}
use Rattle.rules.specs.Reading.{with_passing, clock_after}
use Rattle.records.specs.Bounds.{ClockWithin}
use Rattle.records.proofs.Bounded.{join_within}

abbrev blank : Transaction
blank = new_transaction Search

-- At the first read at a node the clocks that pass are joined in, and not after.
pub clock_again : (w : World) (x : Transaction) (p : ℕ) → marked x.read p ≡ true → x.clock ≡ clock_after w x p
unfolding clock_after
clock_again w x p read = sym (cond-true (marked x.read p) x.clock _ read)

pub clock_first : (w : World) (xs : List Transaction) (x : Transaction) (p : ℕ) → w.transactions ≡ xs → marked x.read p ≡ false → fold (with_passing x.read x.clock p) x.clock xs ≡ clock_after w x p
unfolding clock_after
clock_first w xs x p parts read =
    ap (fold (with_passing x.read x.clock p) x.clock) (sym parts) ∙ sym (cond-false (marked x.read p) x.clock _ read)

passing_within : (b : ℕ) (read : List Bool) (clock : List ℕ) (p : ℕ) (joined : List ℕ) (u : Transaction) → ClockWithin b joined → ClockWithin b u.commit → ClockWithin b (with_passing read clock p joined u)
passing_within b read clock p joined u had new = go (marked u.applied p && passes read u.commit clock)
  where
    go : (passing : Bool) → ClockWithin b (cond passing (join joined u.commit) joined)
    go true = join_within b joined u.commit had new
    go false = had

all_passing_within : (b : ℕ) (read : List Bool) (clock : List ℕ) (p : ℕ) (joined : List ℕ) (xs : List Transaction) → ClockWithin b joined → ((i : ℕ) → ClockWithin b (get_or xs i blank).commit) → ClockWithin b (fold (with_passing read clock p) joined xs)
all_passing_within b read clock p joined [] had each = had
all_passing_within b read clock p joined (u ∷ xs) had each =
    all_passing_within b read clock p (with_passing read clock p joined u) xs (passing_within b read clock p joined u had (each 0)) (λ i. each (suc i))

pub first_within : (b : ℕ) (xs : List Transaction) (x : Transaction) (p : ℕ) (r : List ℕ) → r ≡ fold (with_passing x.read x.clock p) x.clock xs → ClockWithin b x.clock → ((i q : ℕ) → slot (get_or xs i blank).commit q ≤ b) → (q : ℕ) → slot r q ≤ b
first_within b xs x p r is own others = subst (ClockWithin b) (sym is) (all_passing_within b x.read x.clock p x.clock xs own others)
