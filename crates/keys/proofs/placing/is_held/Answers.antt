use Rattle.std.proofs.Common.{rules, tests, arith, ◌∙◌, slice_index}
use Rattle.keys.proofs.Chains.{some_bit}
use Rattle.keys.proofs.placing.is_held.Goals as goal

pub returns : goal.returns
returns c = search (rules, tests) ∙ some_bit (slice_index c.args.placement.now c.args.k) (omega arith)
