use Rattle.std.proofs.Common.{◌≡◌, ◌+◌, map, length, take, drop}
use Rattle.calls.specs.Requests.{request}
use Rattle.tape.specs.Layout.{tape_of}
use Rattle.tape.specs.Trips.{AllFit}
use Rattle.tape.specs.Writing.{over}
use Rattle.tape.proofs.Requests.{front}
use Rattle.tape.proofs.write.put_calls.Given as goal

-- the records of the calls so far are written, there is room for the others, and the values so far fit
abbrev pub invariant-loop-call : goal.invariant-loop-call
invariant-loop-call l =
    (l.cursor.at + length (tape_of (map request (drop l.call-index l.calls))) ≡ length (tape_of (map request l.calls)))
    × (l.cursor.at ≡ length (front l.calls l.call-index))
    × (l.cursor.buffer.now ≡ over l.initial.cursor.buffer.now 0 (front l.calls l.call-index))
    × AllFit (map request (take l.call-index l.calls))
    × (l.cursor.buffer.ghost_name ≡ l.initial.cursor.buffer.ghost_name)
    × (length l.cursor.buffer.now ≡ length l.initial.cursor.buffer.now)
