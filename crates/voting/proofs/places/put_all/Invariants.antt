use Rattle.std.proofs.Common.{◌≡◌, take}
use Rattle.rules.specs.Applying.{put_all}
use Rattle.voting.proofs.places.put_all.Given as goal

-- The keys so far are put, and the rule for free places is as it was.
abbrev pub invariant-loop-k : goal.invariant-loop-k
invariant-loop-k g l =
    let s = g.S.VersionStore in
    (s.meaning l.store ≡ put_all (s.meaning l.initial.store) l.p l.t l.x (take l.k-index l.keys))
    × (s.free l.store ≡ s.free l.initial.store)
