use Rattle.std.proofs.Common.{sym, refl}
use Rattle.store.specs.Batch.{first_refused}
use Rattle.store.proofs.Batches.{aside_none}
use Rattle.store.proofs.batch.set_aside_all.Goals as goal

pub loop-i-init : goal.loop-i-init
unfolding first_refused
loop-i-init g c = (sym (aside_none (g.S.VersionStore.meaning c.args.store.now) c.args.node), refl, refl)
