use Rattle.std.proofs.Common.{rules, Some, arith}
use Rattle.stamping.proofs.Stamps.{committed_there}
use Rattle.stamping.proofs.commit.Goals as goal

pub returns-in_err-number-clause-within : goal.returns-in_err-number-clause-within
returns-in_err-number-clause-within c w placed b room clock numbers votes =
    committed_there w c.args.t c.args.x.now b (omega arith) clock numbers votes c.from_residual.result c.args.x.now room (search (rules, placed)) (search (rules, placed))

pub returns-clause-within : goal.returns-clause-within
returns-clause-within c w placed b room clock numbers votes =
    committed_there w c.args.t c.args.x.now b (omega arith) clock numbers votes (Some c.in_ok-number.number) _ room (search (rules, placed)) (search (rules, placed))
