use Rattle.std.proofs.Common.{refl, ◌∙◌, rules, tests}
use Rattle.std.proofs.lemmas.Iterator.{YieldsList-from_range}
use Rattle.std.proofs.lemmas.Iterator.Search.{all_from_yields_List}
use Rattle.records.proofs.Polls.{has_voted, all_voted_listed}
use Rattle.records.proofs.votes.all_voted.Goals as goal

pub returns : goal.returns
returns c =
    let x = c.args.x.now in
    all_from_yields_List (has_voted x) _ _ c.all.result c.all.ensures.ran (YieldsList-from_range 0 8 8 c.all_nodes.ensures refl) (λ p voted q k. search (rules, tests)) ∙ all_voted_listed x
