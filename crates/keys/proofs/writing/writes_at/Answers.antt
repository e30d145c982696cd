use Rattle.std.proofs.Common.{ℕ, Bool, rules, tests, refl, ◌∙◌, ◌&&◌}
use Rattle.std.proofs.lemmas.Iterator.{YieldsList-from_range}
use Rattle.std.proofs.lemmas.Iterator.Search.{any_from_yields_List}
use Rattle.rules.specs.World.{holds, is_write_node, wrote}
use Rattle.keys.proofs.Chains.{any_is}
use Rattle.keys.proofs.writing.writes_at.Goals as goal

pub returns : goal.returns
unfolding is_write_node
returns c w placed =
    let writes : ℕ → Bool = λ k. wrote c.args.x.now k && holds w c.args.p k in
    any_from_yields_List writes _ _ _ c.any.ensures.ran (YieldsList-from_range 0 64 64 c.all_keys.ensures refl) (λ x b q k. search (rules, tests, placed)) ∙ any_is 64 writes
