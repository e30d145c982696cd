-- What a replacement changes in a catalogue's tables: one record, and nothing else.
use Rattle.std.specs.Prelude.{◌≡◌, ℕ, ◌-◌, slice_set, vec_items}
use Rattle.rules.specs.declared.records.Node.{Node}
use Rattle.rules.specs.declared.records.Transaction.{Transaction}
use Rattle.catalogue.specs.declared.table.Table.{Table}

-- Transaction t has another record.
pub record TransactionReplaced (before after : Table) (t : ℕ) (x : Transaction) : Type 0 where
  pub transactions : vec_items after.transactions ≡ slice_set (vec_items before.transactions) (t - 1) x
  pub nodes : vec_items after.nodes ≡ vec_items before.nodes
  pub placement : vec_items after.placement ≡ vec_items before.placement

-- Node p has another record.
pub record NodeReplaced (before after : Table) (p : ℕ) (n : Node) : Type 0 where
  pub transactions : vec_items after.transactions ≡ vec_items before.transactions
  pub nodes : vec_items after.nodes ≡ slice_set (vec_items before.nodes) p n
  pub placement : vec_items after.placement ≡ vec_items before.placement
