use Rattle.std.proofs.Common.{◌≡◌}
use Rattle.keys.proofs.written.written_keys.Given as goal

-- The keys so far are collected.
abbrev pub invariant-loop-k : goal.invariant-loop-k
invariant-loop-k l = l.found.items ≡ l.yielded
