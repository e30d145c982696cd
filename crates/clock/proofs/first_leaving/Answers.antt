use Rattle.std.proofs.Common.{◌≡◌, ◌+◌, ◌-◌, ◌%◌, ap, ◌∙◌, arith}
use Rattle.clock.specs.Numbers.{first_leaving, if_fits}
use Rattle.clock.proofs.Least.{by_formula, fits_taken}
use Rattle.clock.proofs.first_leaving.Goals as goal

pub returns : goal.returns
returns c =
    let t = c.args.transaction in
    let low = c.args.low in
    let n = low + (256 + c.from.result - low % 256) % 256 in
    let is : n ≡ first_leaving 256 t 256 low = by_formula t low n (omega arith) (omega arith) (omega arith) (omega arith) in
    c.ok.ensures.value ∙ fits_taken c.try_from.result n c.try_from.ensures ∙ ap if_fits is
