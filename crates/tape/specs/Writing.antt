-- What a writer does with a list of requests.
use Rattle.std.specs.Prelude.{ℕ, Bool, true, if◌then◌else◌, ◌||◌, List, length, Ok, Err, Result, ◌==◌, nat_lt}
use Rattle.std.specs.List.{list_all}
use Rattle.std.proofs.Math.Seq.{paste}
use Rattle.calls.specs.declared.refusal.Refusal.{Refusal}
use Rattle.calls.specs.declared.refusal.Refusal.TheVariants.{BadRecord, TapeFull}
use Rattle.calls.specs.Requests.{Request, make, begin, read, write, offer, prepare, decide, cancel, learn, apply, finish}
use Rattle.tape.specs.Layout.{longest, tape_of}

-- Whether a record can say the request: a make has as many placement bytes as keys, and the mode of a begin is 0 or 1.
abbrev pub writable : Request → Bool
writable (make nodes keys placement) = length placement == keys
writable (begin mode) = nat_lt mode 2
writable (read t k p) = true
writable (write t k value) = true
writable (offer t) = true
writable (prepare t p) = true
writable (decide t) = true
writable (cancel t) = true
writable (learn t p) = true
writable (apply p) = true
writable (finish t) = true

abbrev pub all_writable : List Request → Bool
all_writable rs = list_all writable rs

-- A buffer with some bytes written over it from a place on.
abbrev pub over : List ℕ → ℕ → List ℕ → List ℕ
over buffer at bytes = paste buffer at bytes (length bytes)

-- What comes of writing the bytes of a tape into a buffer: the answer, and the buffer then. A tape that the buffer cannot take, or that is longer than a tape may be, is not written.
abbrev pub laid : List ℕ → List ℕ → Result ℕ Refusal × List ℕ
laid tape buffer =
    if nat_lt (length buffer) (length tape) || nat_lt longest (length tape) then (Err TapeFull, buffer)
    else (Ok (length tape), over buffer 0 tape)

-- The same of a list of requests. That each has a record is looked at first, for all of them.
abbrev pub written : List Request → List ℕ → Result ℕ Refusal × List ℕ
written rs buffer = if all_writable rs then laid (tape_of rs) buffer else (Err BadRecord, buffer)
