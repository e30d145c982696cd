use Rattle.std.proofs.Common.{rules, subst}
use Rattle.rules.specs.declared.records.Transaction.{Transaction}
use Rattle.records.specs.Bounds.{Raises}
use Rattle.records.proofs.Raising.{yes_raises}
use Rattle.records.proofs.changes.voting.vote_yes.Goals as goal

pub returns-clause-raised : goal.returns-clause-raised
returns-clause-raised c = λ b small unvoted within low.
    let x = c.args.x.now in
    subst (λ (y : Transaction). Raises b x y) (search rules) (yes_raises b x c.args.p within small unvoted c.args.seen low)
