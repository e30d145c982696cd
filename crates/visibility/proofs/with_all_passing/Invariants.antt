use Rattle.std.proofs.Common.{◌≡◌, take, fold}
use Rattle.rules.specs.Reading.{with_passing}
use Rattle.visibility.proofs.with_all_passing.Given as goal

-- The commit clocks so far are joined in.
abbrev pub invariant-loop-u : goal.invariant-loop-u
invariant-loop-u l = l.joined ≡ fold (with_passing l.read l.clock l.p) l.clock (take l.u-index l.transactions)
