use Rattle.std.proofs.Common.{rules, tests, ℕ, Bool, ap, refl, ◌∙◌, ◌&&◌, ◌||◌, slice_index}
use Rattle.std.specs.Prelude.{bit_or}
use Rattle.std.specs.List.{list_any, range_with_len}
use Rattle.std.proofs.lemmas.Iterator.{YieldsList-from_range}
use Rattle.std.proofs.lemmas.Iterator.Consumers.{YieldsList-from_filter, fold_from_yields_List}
use Rattle.rules.specs.World.{bit, holds, is_write_node, wrote}
use Rattle.rules.proofs.States.{bit_zero}
use Rattle.keys.proofs.Chains.{any_is, bit-fold, fold-filter}
use Rattle.keys.proofs.writing.write_nodes.Goals as goal

pub returns : goal.returns
unfolding is_write_node
returns c w placed q =
    let written : ℕ → Bool = λ k. wrote c.args.x.now k in
    let byte_at : ℕ → ℕ = λ k. slice_index w.placement k in
    let with_holders : ℕ → ℕ → ℕ = λ byte k. bit_or byte (byte_at k) in
    ap (λ (byte : ℕ). bit byte q)
    (fold_from_yields_List _ with_holders _ _ c.fold.ensures.ran
    (YieldsList-from_filter _ written (YieldsList-from_range 0 64 64 (c.filter.ensures.source ∙ c.all_keys.ensures) refl) c.filter.ensures.closure (λ x b p k. search (rules, tests)))
    (λ byte x b p k. search (rules, tests, placed))
    ∙ fold-filter with_holders written 0 (range_with_len 0 64))
    ∙ bit-fold written byte_at q 0 (range_with_len 0 64)
    ∙ ap (λ (b : Bool). b || list_any (λ k. written k && bit (byte_at k) q) (range_with_len 0 64)) (bit_zero q)
    ∙ any_is 64 (λ k. written k && holds w q k)
