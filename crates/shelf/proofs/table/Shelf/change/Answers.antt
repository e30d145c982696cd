use Rattle.std.proofs.Common.{◌≡◌, rules, Ok, refl, subst, arith}
use Rattle.std.specs.Fn.{FnOnceReturnsAtMut}
use Rattle.shelf.specs.Slots.{chain_of}
use Rattle.shelf.specs.Table.{shelf_meaning}
use Rattle.shelf.proofs.table.Shelf.change.Goals as goal

pub returns-in_err-change-clause-inside : goal.returns-in_err-change-clause-inside
returns-in_err-change-clause-inside g c =
    λ within.
    let x = c.in_ok-slots.slots in
    let y = c.change.new.arg2 in
    let is : chain_of x ≡ shelf_meaning c.args.self.now c.args.node c.args.key = grind arith in
    let gave : FnOnceReturnsAtMut g.F.FnOnce c.args.change x c.change.result y = record { shown = _; shows = refl; left = _; met = c.change.ensures; leaves = refl } in
    let same : c.change.result ≡ c.from_residual-in_err-change.result = search rules in
    (x, y, is, subst (λ r. FnOnceReturnsAtMut g.F.FnOnce c.args.change x r y) same gave, grind arith)

pub returns-clause-inside : goal.returns-clause-inside
returns-clause-inside g c =
    λ within.
    let x = c.in_ok-slots.slots in
    let y = c.change.new.arg2 in
    let is : chain_of x ≡ shelf_meaning c.args.self.now c.args.node c.args.key = grind arith in
    let gave : FnOnceReturnsAtMut g.F.FnOnce c.args.change x c.change.result y = record { shown = _; shows = refl; left = _; met = c.change.ensures; leaves = refl } in
    let same : c.change.result ≡ Ok tt = search rules in
    (x, y, is, subst (λ r. FnOnceReturnsAtMut g.F.FnOnce c.args.change x r y) same gave, grind arith)
