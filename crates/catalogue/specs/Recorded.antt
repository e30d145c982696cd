-- Records that are handed about beside the tables that hold them.
use Rattle.std.specs.Prelude.{◌≡◌, ℕ, ◌<◌, true, Ok, Err, Result}
use Rattle.calls.specs.declared.refusal.Refusal.{Refusal}
use Rattle.store.specs.Model.{fresh}
use Rattle.rules.specs.declared.records.Node.{Node}
use Rattle.rules.specs.declared.records.Transaction.{Transaction}
use Rattle.rules.specs.World.{is_begun, node, transaction}
use Rattle.catalogue.specs.declared.table.Table.{Table}
use Rattle.catalogue.specs.Tables.{world_of}

-- Transaction t is begun, and x is its record in the tables.
pub record Recorded (table : Table) (t : ℕ) (x : Transaction) : Type 0 where
  pub begun : is_begun (world_of table fresh) t ≡ true
  pub record_is : x ≡ transaction (world_of table fresh) t

-- There can be a node p, and n is its record in the tables.
pub record NodeRecorded (table : Table) (p : ℕ) (n : Node) : Type 0 where
  pub small : p < 8
  pub record_is : n ≡ node (world_of table fresh) p

-- The record that a result lends, or why there is none.
abbrev pub lent : {R : Type 0} → (R → Transaction) → Result R Refusal → Result Transaction Refusal
lent now (Ok x) = Ok (now x)
lent now (Err refusal) = Err refusal
