use Rattle.std.proofs.Common.{◌≡◌, ◌-◌, ◌++◌, map, length, vec_items}
use Rattle.tape.specs.Records.{entry_of}
use Rattle.tape.proofs.Records.{rest_from}
use Rattle.tape.proofs.read.read.Given as goal

-- what was read, and then what is left, is the whole
abbrev pub invariant-loop-at : goal.invariant-loop-at
invariant-loop-at l = map entry_of (vec_items l.records) ++ rest_from l.tape l.at ≡ rest_from l.tape 0

abbrev pub decreases-loop-at : goal.decreases-loop-at
decreases-loop-at l = length l.tape - l.at
