use Rattle.std.proofs.Common.{◌≡◌, map, take}
use Rattle.calls.specs.Requests.{request}
use Rattle.catalogue.specs.Tables.{world_of}
use Rattle.catalogue.specs.Runs.{Performed}
use Rattle.catalogue.proofs.catalogue.Catalogue.perform_all.Given as goal

-- The calls so far are carried out, and the rule for free places is as it was.
abbrev pub invariant-loop-call : goal.invariant-loop-call
invariant-loop-call g l =
    let s = g.S.VersionStore in
    Performed (s.free l.initial.self.store) (world_of l.initial.self.table (s.meaning l.initial.self.store)) (map request (take l.call-index l.calls)) l.answers.items (world_of l.self.table (s.meaning l.self.store))
    × (s.free l.self.store ≡ s.free l.initial.self.store)
