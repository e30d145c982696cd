use Rattle.rules.proofs.Cases.{cases_hold}
use Rattle.rules.proofs.cases_hold.Goals as goal

pub returns : goal.returns
returns c = cases_hold
