use Rattle.std.proofs.Common.{ap, ◌∙◌, unwrap_or}
use Rattle.std.proofs.lemmas.Iterator.{YieldsList-from_slice}
use Rattle.std.proofs.lemmas.Iterator.Consumers.{YieldsList-from_copied, reduce_from_yields_List}
use Rattle.clock.proofs.Least.{max_highest}
use Rattle.clock.proofs.largest.Goals as goal

pub returns : goal.returns
returns c =
    let slots = c.args.clock in
    c.unwrap_or.ensures
    ∙ ap (λ o. unwrap_or o 0) (reduce_from_yields_List _ c.copied.result _ c.max.ensures.ran (YieldsList-from_copied (YieldsList-from_slice slots cc)))
    ∙ max_highest slots
