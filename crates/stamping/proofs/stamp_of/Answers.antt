use Rattle.std.proofs.Common.{rules, arith}
use Rattle.stamping.proofs.Stamps.{stamp_there}
use Rattle.stamping.proofs.stamp_of.Goals as goal

pub returns-clause-within : goal.returns-clause-within
returns-clause-within c w placed b room clock numbers votes =
    stamp_there w c.args.t c.args.x.now b (omega arith) clock numbers votes c.stamp.result room (search (rules, placed))
