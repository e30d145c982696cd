-- What the bound on numbers says of the records that the tables hold.
use Rattle.std.proofs.Common.{◌≡◌, ℕ, ◌-◌, sym, subst}
use Rattle.store.specs.Model.{fresh}
use Rattle.rules.specs.declared.records.Node.{Node}
use Rattle.rules.specs.declared.records.Transaction.{Transaction}
use Rattle.rules.specs.World.{node, transaction}
use Rattle.catalogue.specs.declared.table.Table.{Table}
use Rattle.catalogue.specs.Tables.{world_of}
use Rattle.records.specs.Bounds.{most, TransactionWithin, NodeWithin}

pub node_known : (table : Table) (p : ℕ) (n : Node) → n ≡ node (world_of table fresh) p → NodeWithin (most table.transactions.items) n
node_known table p n is = subst (λ (y : Node). NodeWithin (most table.transactions.items) y) (sym is) (table.nodes_within p)

pub known : (table : Table) (t : ℕ) → TransactionWithin (most table.transactions.items) (transaction (world_of table fresh) t)
known table t = (table.collected_within (t - 1), table.decided_within (t - 1))

pub transaction_known : (table : Table) (t : ℕ) (x : Transaction) → x ≡ transaction (world_of table fresh) t → TransactionWithin (most table.transactions.items) x
transaction_known table t x is = subst (λ (y : Transaction). TransactionWithin (most table.transactions.items) y) (sym is) (known table t)
