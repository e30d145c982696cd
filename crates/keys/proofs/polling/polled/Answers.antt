use Rattle.std.proofs.Common.{rules, tests, cond, refl, ◌||◌, slice_index}
use Rattle.std.specs.Prelude.{bit_or}
use Rattle.std.proofs.lemmas.Iterator.{YieldsList-from_range}
use Rattle.std.proofs.lemmas.Iterator.Consumers.{fold_from_yields_List}
use Rattle.rules.specs.World.{noted, wrote}
use Rattle.rules.specs.Deciding.{polled_byte}
use Rattle.keys.proofs.polling.polled.Goals as goal

pub returns : goal.returns
unfolding polled_byte
returns c w placed =
    fold_from_yields_List _ (λ byte k. cond (noted c.args.x.now k || wrote c.args.x.now k) (bit_or byte (slice_index w.placement k)) byte) _ _ c.fold.ensures.ran
    (YieldsList-from_range 0 64 64 c.all_keys.ensures refl)
    (λ byte x b q k. search (rules, tests, placed))
