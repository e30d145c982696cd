use Rattle.roll.proofs.Walk.{Reached}
use Rattle.roll.proofs.table.Roll.nth_version.Given as goal

-- The place is the one that so many links lead to.
abbrev pub invariant-loop : goal.invariant-loop
invariant-loop l = Reached l.node l.key l.self.entries.items l.place l.counter
