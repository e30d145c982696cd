use Rattle.std.proofs.Common.{rules, tests, ◌∙◌}
use Rattle.std.proofs.lemmas.Iterator.{YieldsList-from_slice}
use Rattle.tape.proofs.Room.{room_from_try_fold}
use Rattle.tape.proofs.write.fits.Goals as goal

pub returns : goal.returns
returns c =
    c.is_some.ensures
    ∙ room_from_try_fold _ _ _ _ _ _ _ _ c.args.calls.now c.try_fold.ensures.ran (YieldsList-from_slice c.args.calls.now (cc)) (λ a x v h k. search (rules, tests))
