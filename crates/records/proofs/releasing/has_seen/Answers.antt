use Rattle.std.proofs.Common.{sym, subst}
use Rattle.records.specs.Bounds.{ClockWithin}
use Rattle.records.proofs.Bounded.{join_within}
use Rattle.records.proofs.releasing.has_seen.Goals as goal

pub returns-clause-within : goal.returns-clause-within
returns-clause-within c = λ b had low. (had.0, had.1, subst (ClockWithin b) (sym c.join.ensures) (join_within b c.args.n.seen c.args.commit had.2 low))
