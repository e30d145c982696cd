use Rattle.std.proofs.Common.{◌≡◌, ◌-◌}
use Rattle.filing.proofs.fifth.takes_fifth.Given as goal

-- No place is set aside, and each turn has used up one, as far as there were any.
abbrev pub invariant-loop : goal.invariant-loop
invariant-loop g l =
    let s = g.S.VersionStore in
    ((s.meaning l.store 0 7).aside ≡ 0)
    × (s.free l.store (s.meaning l.store) 0 7 ≡ s.free l.initial.store (s.meaning l.initial.store) 0 7 - l.counter)
