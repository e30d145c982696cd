use Rattle.std.proofs.Common.{◌<◌, rules, length, arith}
use Rattle.std.proofs.lemmas.Bool.Decides.{nat_tests}
use Rattle.calls.specs.declared.refusal.Refusal.TheVariants.{NoSuchNode}
use Rattle.store.specs.Model.{fresh}
use Rattle.rules.specs.declared.records.Node.{Node}
use Rattle.rules.specs.World.{is_node, node}
use Rattle.records.specs.Bounds.{most, NodeWithin}
use Rattle.catalogue.specs.Tables.{world_of}
use Rattle.catalogue.proofs.Answering.{if_granted}
use Rattle.catalogue.proofs.table.Table.node.Goals as goal

pub returns-clause-within : goal.returns-clause-within
returns-clause-within c =
    let table = c.args.self.now in
    let w = world_of table fresh in
    let p = c.args.p in
    let long = table.nodes.ok.0 in
    let few = table.few_nodes in
    if_granted (λ (n : Node). NodeWithin (most table.transactions.items) n × (p < 8)) (is_node w p) (node w p) NoSuchNode c.ok_or.result (search rules)
    (λ there. (table.nodes_within p, (let inside : p < length table.nodes.items = grind (arith, nat_tests) in omega arith)))
