use Rattle.std.proofs.Common.{◌≡◌, false, arith}
use Rattle.std.proofs.lemmas.Bool.Decides.{nat_tests}
use Rattle.rules.specs.World.{bit}
use Rattle.rules.proofs.Bits.{bit_past}
use Rattle.rules.proofs.nodes.names.Goals as goal

pub returns-else-p-lt8-clause-value : goal.returns-else-p-lt8-clause-value
returns-else-p-lt8-clause-value c =
    let past = c.if-p-lt8.false in
    let none : bit c.args.nodes c.args.p ≡ false = bit_past c.args.nodes c.args.p (omega arith) past in
    grind (arith, nat_tests)
