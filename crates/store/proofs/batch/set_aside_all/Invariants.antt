use Rattle.std.proofs.Common.{◌≡◌, take, Ok}
use Rattle.store.specs.Batch.{all_aside, first_refused}
use Rattle.store.proofs.batch.set_aside_all.Given as goal

-- A place is set aside for each of the keys so far, none of them was refused, and the rule for free places is as it was.
abbrev pub invariant-loop-i : goal.invariant-loop-i
invariant-loop-i g l =
    let s = g.S.VersionStore in
    let m = s.meaning l.initial.store in
    (s.meaning l.store ≡ all_aside m l.node (take l.i l.keys))
    × (first_refused (s.free l.initial.store) m l.node (take l.i l.keys) ≡ Ok tt)
    × (s.free l.store ≡ s.free l.initial.store)
