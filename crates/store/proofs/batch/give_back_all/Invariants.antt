use Rattle.std.proofs.Common.{◌≡◌, take}
use Rattle.store.specs.Batch.{all_back}
use Rattle.store.proofs.batch.give_back_all.Given as goal

-- The keys so far are given back, and the rule for free places is as it was.
abbrev pub invariant-loop-key : goal.invariant-loop-key
invariant-loop-key g l =
    let s = g.S.VersionStore in
    (s.meaning l.store ≡ all_back (s.meaning l.initial.store) l.node (take l.key-index l.keys))
    × (s.free l.store ≡ s.free l.initial.store)
