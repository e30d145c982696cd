use Rattle.std.proofs.Common.{◌≡◌, rules, sym, subst}
use Rattle.store.specs.Model.{fresh}
use Rattle.rules.specs.declared.records.Transaction.{Transaction}
use Rattle.rules.specs.World.{transaction}
use Rattle.rules.specs.Changes.{has_yes, is_numbered}
use Rattle.records.specs.Bounds.{most, Raises}
use Rattle.records.proofs.Raising.{yes_raises, numbered_yes_raises}
use Rattle.catalogue.specs.Tables.{world_of}
use Rattle.catalogue.proofs.Known.{node_known}
use Rattle.catalogue.proofs.table.Table.vote_yes.Goals as goal

pub raise-requires-clause-raised : goal.raise-requires-clause-raised
raise-requires-clause-raised c = λ a y changed within.
    let table = c.args.self.now in
    let b = most table.transactions.items in
    let x = transaction (world_of table fresh) c.args.t in
    let seen = c.args.n.seen in
    let voter = node_known table c.args.p c.args.n c.requires.node.record_is in
    let is : y ≡ has_yes c.args.p seen x = search rules in
    subst (λ (z : Transaction). Raises b x z) (sym is) (yes_raises b x c.args.p within c.requires.node.small c.requires.unvoted seen voter.2)

pub raise-requires-2-clause-raised : goal.raise-requires-2-clause-raised
raise-requires-2-clause-raised c = λ a y changed within.
    let table = c.args.self.now in
    let b = most table.transactions.items in
    let x = transaction (world_of table fresh) c.args.t in
    let seen = c.args.n.seen in
    let number = c.next_number-number.result in
    let voter = node_known table c.args.p c.args.n c.requires.node.record_is in
    let is : y ≡ is_numbered c.args.p number (has_yes c.args.p seen x) = search rules in
    subst (λ (z : Transaction). Raises b x z) (sym is) (numbered_yes_raises b x c.args.p within c.requires.node.small c.requires.unvoted seen number voter.2 c.next_number-number.ensures.bound)
