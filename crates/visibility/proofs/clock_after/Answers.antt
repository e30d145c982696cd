use Rattle.std.proofs.Common.{rules}
use Rattle.visibility.proofs.Clocks.{first_within}
use Rattle.visibility.proofs.clock_after.Goals as goal

pub returns-else-is_marked-clause-within : goal.returns-else-is_marked-clause-within
returns-else-is_marked-clause-within c = λ b own others q. search (rules, first_within)
