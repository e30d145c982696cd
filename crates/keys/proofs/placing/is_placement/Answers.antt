use Rattle.std.proofs.Common.{rules, tests, ◌∙◌, ◌^◌, ◌&&◌, nat_lt}
use Rattle.std.proofs.lemmas.Iterator.{YieldsList-from_slice}
use Rattle.std.proofs.lemmas.Iterator.Search.{all_from_yields_List}
use Rattle.keys.proofs.Chains.{all_is_placed}
use Rattle.keys.proofs.placing.is_placement.Goals as goal

pub returns : goal.returns
returns c =
    all_from_yields_List (λ byte. nat_lt 0 byte && nat_lt byte (2 ^ c.args.nodes)) _ _ _ c.all.ensures.ran (YieldsList-from_slice c.args.placement.now cc) (λ x b q k. search (rules, tests))
    ∙ all_is_placed c.args.nodes c.args.placement.now
