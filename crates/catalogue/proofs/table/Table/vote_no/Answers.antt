use Rattle.std.proofs.Common.{◌≡◌, rules, sym, subst}
use Rattle.store.specs.Model.{fresh}
use Rattle.rules.specs.declared.records.Transaction.{Transaction}
use Rattle.rules.specs.World.{transaction}
use Rattle.rules.specs.Changes.{has_no}
use Rattle.records.specs.Bounds.{most, Raises}
use Rattle.records.proofs.Raising.{no_raises}
use Rattle.catalogue.specs.Tables.{world_of}
use Rattle.catalogue.proofs.table.Table.vote_no.Goals as goal

pub raise-requires-clause-raised : goal.raise-requires-clause-raised
raise-requires-clause-raised c = λ a y changed within.
    let table = c.args.self.now in
    let b = most table.transactions.items in
    let x = transaction (world_of table fresh) c.args.t in
    let is : y ≡ has_no c.args.p x = search rules in
    subst (λ (z : Transaction). Raises b x z) (sym is) (no_raises b x c.args.p within c.requires.node c.requires.unvoted)
