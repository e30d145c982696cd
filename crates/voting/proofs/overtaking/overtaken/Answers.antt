use Rattle.std.proofs.Common.{rules, tests, refl, sym, ◌∙◌}
use Rattle.std.proofs.lemmas.Iterator.Adapters.{option_map_id}
use Rattle.std.proofs.lemmas.Iterator.{YieldsList-from_range}
use Rattle.std.proofs.lemmas.Iterator.Search.{find_from_yields_List}
use Rattle.rules.specs.Voting.{overtaken_at, overtaken_key}
use Rattle.voting.proofs.Lowest.{find_is_lowest}
use Rattle.voting.proofs.overtaking.overtaken.Goals as goal

pub returns : goal.returns
unfolding overtaken_key
returns g c w placed stored =
    sym (option_map_id c.find.result)
    ∙ find_from_yields_List (overtaken_at w c.args.x.now c.args.p) _ _ _ c.find.ensures.ran (YieldsList-from_range 0 64 64 refl refl) (λ k b q called. search (rules, tests, placed, stored))
    ∙ find_is_lowest 64 0 (overtaken_at w c.args.x.now c.args.p)
