use Rattle.rules.proofs.Good.{promises_kept}
use Rattle.rules.proofs.promises_kept.Goals as goal

pub returns : goal.returns
returns c = promises_kept
