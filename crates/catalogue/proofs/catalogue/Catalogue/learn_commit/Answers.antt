use Rattle.std.proofs.Common.{ℕ, sym, subst}
use Rattle.records.specs.Bounds.{most, NodeWithin}
use Rattle.catalogue.proofs.Known.{node_known}
use Rattle.catalogue.proofs.catalogue.Catalogue.learn_commit.Goals as goal

pub set_node-requires-else-writes_at : goal.set_node-requires-else-writes_at
set_node-requires-else-writes_at g c =
    let table = c.args.self.now.table in
    let b = most table.transactions.items in
    let node = node_known table c.args.p c.args.n c.requires.node.record_is in
    let seen = c.has_seen.ensures.within b node (search (c.record-x.ensures.within.1.0)) in
    subst (λ (m : ℕ). NodeWithin m c.has_seen.result) (sym c.update-else-writes_at.ensures.bound) seen
