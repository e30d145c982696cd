use Rattle.std.proofs.Common.{◌≡◌, ◌-◌, length}
use Rattle.clock.specs.Clocks.{passes}
use Rattle.rules.specs.World.{World}
use Rattle.rules.specs.Reading.{commit_clock}
use Rattle.visibility.proofs.Chains.{chain, Walked}
use Rattle.visibility.proofs.newest_passing.Given as goal

-- No version so far passes.
abbrev pub invariant-loop-value : goal.invariant-loop-value
invariant-loop-value g l =
    (w : World) → w.transactions ≡ l.transactions →
    Walked (λ v. passes l.read (commit_clock w v.writer) l.clock) (chain (g.S.VersionStore.meaning l.store) l.p l.k) l.steps

abbrev pub decreases-loop-value : goal.decreases-loop-value
decreases-loop-value g l = length (chain (g.S.VersionStore.meaning l.store) l.p l.k) - l.steps
