use Rattle.history.proofs.Run.{move_half_applied}
use Rattle.history.proofs.move_half_applied.Goals as goal

pub returns : goal.returns
returns c = move_half_applied
