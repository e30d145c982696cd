use Rattle.std.proofs.Common.{ℕ, Bool, rules, tests, refl, ◌∙◌, ◌&&◌}
use Rattle.std.proofs.lemmas.Iterator.{YieldsList-from_range}
use Rattle.std.proofs.lemmas.Iterator.Search.{any_from_yields_List}
use Rattle.rules.specs.World.{holds, is_write_node, some_below, wrote}
use Rattle.keys.proofs.Chains.{any_is, some_of_some}
use Rattle.keys.proofs.writing.has_write_node.Goals as goal

pub returns : goal.returns
unfolding is_write_node
returns c w placed =
    let written : ℕ → Bool = λ k. wrote c.args.x.now k in
    let holder : ℕ → ℕ → Bool = λ k p. holds w p k in
    any_from_yields_List (λ k. written k && some_below 8 (holder k)) _ _ _ c.any.ensures.ran (YieldsList-from_range 0 64 64 c.all_keys.ensures refl) (λ x b q k. search (rules, tests, placed))
    ∙ any_is 64 (λ k. written k && some_below 8 (holder k))
    ∙ some_of_some 64 8 written holder
