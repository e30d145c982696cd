-- A transaction of the tables that is changed, and the bounds on numbers after it.
use Rattle.std.proofs.Common.{◌≡◌, ℕ, ◌+◌, ◌-◌, ◌<◌, ◌≤◌, true, length, slice_set, subst, arith}
use Rattle.std.proofs.lemmas.Bool.Decides.{nat_tests}
use Rattle.store.specs.Model.{fresh}
use Rattle.rules.specs.declared.records.Transaction.{Transaction}
use Rattle.rules.specs.World.{is_begun, transaction}
use Rattle.records.specs.Bounds.{most, raised_by, TransactionWithin, NodesWithin, AllCollectedWithin, AllDecidedWithin}
use Rattle.catalogue.specs.declared.table.Table.{Table}
use Rattle.catalogue.specs.Tables.{world_of}
use Rattle.catalogue.proofs.Bounded.{kept_most, raised_most, nodes_set, collected_set, decided_set}

pub begun_inside : (table : Table) (t : ℕ) → is_begun (world_of table fresh) t ≡ true → t - 1 < length table.transactions.items
begun_inside table t begun = grind (arith, nat_tests)

-- The bound stays where no number was raised, and moves by 256 where one was.
module _ (table : Table) (t : ℕ) (x : Transaction) (begun : is_begun (world_of table fresh) t ≡ true) where
  pub kept_bound : raised_by x ≡ raised_by (transaction (world_of table fresh) t) → most (slice_set table.transactions.items (t - 1) x) ≡ most table.transactions.items
  kept_bound same = kept_most table.transactions.items (t - 1) x (begun_inside table t begun) same

  pub raised_bound : raised_by x ≡ raised_by (transaction (world_of table fresh) t) + 1 → most (slice_set table.transactions.items (t - 1) x) ≡ most table.transactions.items + 256
  raised_bound once = raised_most table.transactions.items (t - 1) x (begun_inside table t begun) once

-- The tables hold no higher number than before, but for what the changed record raised, if it took back no vote and no commit.
pub record AllWithin (table : Table) (i : ℕ) (x : Transaction) : Type 0 where
  pub nodes : NodesWithin (most (slice_set table.transactions.items i x)) table.nodes.items
  pub collected : AllCollectedWithin (most (slice_set table.transactions.items i x)) (slice_set table.transactions.items i x)
  pub decided : AllDecidedWithin (most (slice_set table.transactions.items i x)) (slice_set table.transactions.items i x)

pub all_within : (table : Table) (t i : ℕ) (x : Transaction) → t - 1 ≡ i → is_begun (world_of table fresh) t ≡ true → raised_by (transaction (world_of table fresh) t) ≤ raised_by x → TransactionWithin (most (slice_set table.transactions.items (t - 1) x)) x → AllWithin table i x
all_within table t i x at begun grows within =
    let xs = table.transactions.items in
    let inside = begun_inside table t begun in
    subst (λ (j : ℕ). AllWithin table j x) at
    (record {
      nodes = nodes_set table.nodes.items xs (t - 1) x inside grows within table.nodes_within;
      collected = collected_set table.nodes.items xs (t - 1) x inside grows within table.collected_within;
      decided = decided_set table.nodes.items xs (t - 1) x inside grows within table.decided_within;
    })
