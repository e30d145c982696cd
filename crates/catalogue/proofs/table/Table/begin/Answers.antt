use Rattle.std.proofs.Common.{List, [], ◌∷◌, ◌++◌, sym, ap, ◌∙◌, subst, arith}
use Rattle.rules.specs.declared.records.Transaction.{Transaction}
use Rattle.rules.specs.World.{new_transaction}
use Rattle.records.specs.Bounds.{most, NodesWithin, AllCollectedWithin, AllDecidedWithin}
use Rattle.catalogue.proofs.Bounded.{new_unraised, new_within, nodes_push, collected_push, decided_push}
use Rattle.catalogue.proofs.table.Table.begin.Goals as goal

pub invariant_of-self : goal.invariant_of-self
invariant_of-self c =
    let table = c.args.self.now in
    let ns = table.nodes.items in
    let xs = table.transactions.items in
    let long = table.transactions.ok.0 in
    let kind = c.args.kind in
    let items = sym (c.push_reserved.ensures.items ∙ ap (λ x. xs ++ x ∷ []) c.new_transaction.ensures) in
    let len = c.push_reserved.ensures.len in
    let cap = c.push_reserved.ensures.capacity in
    let roomy = table.room in
    let few = c.requires in
    record {
      some_nodes = table.some_nodes;
      few_nodes = table.few_nodes;
      few_keys = table.few_keys;
      room = omega arith;
      few_transactions = omega arith;
      nodes_within = subst (λ (ys : List Transaction). NodesWithin (most ys) ns) items (nodes_push ns xs (new_transaction kind) (new_unraised kind) (new_within kind) table.nodes_within);
      collected_within = subst (λ (ys : List Transaction). AllCollectedWithin (most ys) ys) items (collected_push ns xs (new_transaction kind) (new_unraised kind) (new_within kind) table.collected_within);
      decided_within = subst (λ (ys : List Transaction). AllDecidedWithin (most ys) ys) items (decided_push ns xs (new_transaction kind) (new_unraised kind) (new_within kind) table.decided_within);
    }
