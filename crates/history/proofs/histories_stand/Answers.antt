use Rattle.history.proofs.Final.{histories_stand}
use Rattle.history.proofs.histories_stand.Goals as goal

pub returns : goal.returns
returns c = histories_stand
