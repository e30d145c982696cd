-- A commit raises a number once.
use Rattle.std.proofs.Common.{◌≡◌, ℕ, ◌+◌, ◌^◌, ◌<◌, ◌≤◌, Bool, false, cond, Some, Option, sym, ap, subst, arith}
use Rattle.std.proofs.lemmas.Bool.{cond_both}
use Rattle.clock.specs.Clocks.{slot}
use Rattle.store.specs.Model.{Meaning, fresh}
use Rattle.rules.specs.declared.records.Transaction.{Transaction}
use Rattle.rules.specs.World.{World, transaction, is_write_node}
use Rattle.rules.specs.Changes.{is_committed as has_committed}
use Rattle.rules.specs.Deciding.{base_clock, stamp_of, stamped}
use Rattle.records.specs.Bounds.{is_committed, raised_by, most, ClockWithin, TransactionWithin, Raises}
use Rattle.records.proofs.Bounded.{clock_more, made_within, join_within}
use Rattle.catalogue.specs.declared.table.Table.{Table}
use Rattle.catalogue.specs.Tables.{world_of}
use Rattle.catalogue.proofs.Known.{known}
use Rattle.catalogue.proofs.Votes.{room_above}

pub commit_raises : (b : ℕ) (w : World) (x : Transaction) (number : ℕ) → is_committed x.state ≡ false → TransactionWithin b x → number ≤ b + 256 → Raises b x (has_committed number (stamped w x number) x)
unfolding raised_by stamped
commit_raises b w x number undecided within low =
    let base : ClockWithin b (base_clock x) = join_within b x.clock x.votes within.0.0 within.0.2 in
    record {
      once = let e : ◌≡◌ {A = ℕ} (cond (is_committed x.state) 1 0) 0 = ap (λ (c : Bool). cond c 1 0) undecided in omega arith;
      within = (
        (clock_more b (b + 256) x.clock (omega arith) within.0.0, clock_more b (b + 256) x.numbers (omega arith) within.0.1, clock_more b (b + 256) x.votes (omega arith) within.0.2),
        (
          made_within (b + 256) (λ q. cond (is_write_node w x q) number (slot (base_clock x) q)) (λ q. cond_both (is_write_node w x q) number (slot (base_clock x) q) (λ (n : ℕ). n ≤ b + 256) (λ e. low) (λ e. omega (arith, base q))),
          low,
          within.1.2,
        ),
      );
    }

-- What is told of a record x of a commit: the stamp o is there, and y is the record after it.
abbrev CommitTold : World → ℕ → Option ℕ → Transaction → Transaction → Type 0
CommitTold w t o y x =
    (b : ℕ) → b + 256 < 2 ^ 32 → ClockWithin b x.clock → ClockWithin b x.numbers → ClockWithin b x.votes →
    (o ≡ Some (stamp_of w t x)) × (y ≡ has_committed (stamp_of w t x) (stamped w x (stamp_of w t x)) x) × (stamp_of w t x ≤ b + 256) × ClockWithin (b + 256) (stamped w x (stamp_of w t x))

-- The commit of a transaction of the tables that is not decided yet.
pub record Commits (table : Table) (m : Meaning) (t : ℕ) (o : Option ℕ) (y x : Transaction) : Type 0 where
  pub stamp : o ≡ Some (stamp_of (world_of table m) t x)
  pub after : y ≡ has_committed (stamp_of (world_of table m) t x) (stamped (world_of table m) x (stamp_of (world_of table m) t x)) x
  pub raises : Raises (most table.transactions.items) x y

pub commits : (table : Table) (m : Meaning) (t : ℕ) (o : Option ℕ) (y x : Transaction) → x ≡ transaction (world_of table fresh) t → is_committed (transaction (world_of table fresh) t).state ≡ false → CommitTold (world_of table m) t o y x → Commits table m t o y (transaction (world_of table fresh) t)
commits table m t o y x is undecided told =
    let xs = table.transactions.items in
    let w = world_of table m in
    let X = transaction (world_of table fresh) t in
    let within = known table t in
    let long = table.transactions.ok.0 in
    let count = table.few_transactions in
    let here : CommitTold w t o y X = subst (CommitTold w t o y) is told in
    let all = here (most xs) (room_above xs (omega arith)) within.0.0 within.0.1 within.0.2 in
    record {
      stamp = all.0;
      after = all.1;
      raises = subst (λ (z : Transaction). Raises (most xs) X z) (sym all.1) (commit_raises (most xs) w X (stamp_of w t X) undecided within all.2);
    }
