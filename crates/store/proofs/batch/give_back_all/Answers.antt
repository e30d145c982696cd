use Rattle.std.proofs.Common.{sym, refl}
use Rattle.store.proofs.Batches.{back_none}
use Rattle.store.proofs.batch.give_back_all.Goals as goal

pub loop-key-init : goal.loop-key-init
loop-key-init g c = (sym (back_none (g.S.VersionStore.meaning c.args.store.now) c.args.node), refl)
