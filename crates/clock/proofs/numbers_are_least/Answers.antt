use Rattle.clock.proofs.Least.{numbers_are_least}
use Rattle.clock.proofs.numbers_are_least.Goals as goal

pub returns : goal.returns
returns c = numbers_are_least
