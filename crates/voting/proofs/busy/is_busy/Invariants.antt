use Rattle.std.proofs.Common.{◌≡◌, ◌+◌, ◌≤◌, false}
use Rattle.voting.proofs.Blocking.{Apart, NoneBlocks}
use Rattle.voting.proofs.busy.is_busy.Given as goal

-- None of the transactions so far blocks this one.
abbrev pub invariant-transactions : goal.invariant-transactions
invariant-transactions l = (l.found ≡ false) × NoneBlocks l.transactions l.placement l.t l.x l.p l.i

-- There is no conflict with the next one at the keys so far; after the last of them, it does not block either.
abbrev pub invariant-loop-k : goal.invariant-loop-k
invariant-loop-k l =
    (l.found ≡ false) × Apart l.placement l.x l.other l.p l.k
    × (64 ≤ l.k → NoneBlocks l.transactions l.placement l.t l.x l.p (l.i + 1))
