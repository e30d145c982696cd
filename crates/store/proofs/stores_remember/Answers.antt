use Rattle.store.proofs.Histories.{stores_remember}
use Rattle.store.proofs.stores_remember.Goals as goal

pub returns : goal.returns
returns c = stores_remember
