use Rattle.std.proofs.Common.{Decides, rules}
use Rattle.std.proofs.lemmas.Bool.Decides.{same_from_decides}
use Rattle.clock.specs.Clocks.{Passes}
use Rattle.clock.proofs.Passing.{passes_decides}
use Rattle.clock.proofs.passes.Goals as goal

pub returns-clause-value : goal.returns-clause-value
returns-clause-value c =
    let d : Decides c.all.result (Passes c.args.read c.args.commit c.args.clock) = search rules in
    same_from_decides _ _ d (passes_decides _ _ _)
