use Rattle.std.proofs.Common.{arith}
use Rattle.records.proofs.releasing.advanced.Goals as goal

pub returns-clause-within : goal.returns-clause-within
returns-clause-within c = λ b had few low.
    let seen = c.has_seen.ensures.within b had low in
    (seen.0, omega (arith, few, had.1), seen.2)
