use Rattle.std.proofs.Common.{sym, ◌∙◌, arith}
use Rattle.roll.specs.Moves as moves
use Rattle.roll.proofs.table.Roll.aside_at.Goals as goal

pub returns : goal.returns
returns c =
    let r = c.args.self.now in
    let at = sym c.chain_index.ensures ∙ c.in_ok-i.was in
    let is = moves.covered r c.args.node c.args.key c.in_ok-i.i c.index.result.now at c.index.ensures in
    let few = r.fits in
    record { value = moves.aside_read r c.args.node c.args.key c.in_ok-i.i c.index.result.now at c.index.ensures; bound = omega arith }
