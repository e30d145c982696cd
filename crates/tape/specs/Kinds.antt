-- The kinds of record.
use Rattle.std.specs.Prelude.{ℕ, Ok, Err, Result, ◌==◌, if◌then◌else◌}
use Rattle.calls.specs.declared.refusal.Refusal.{Refusal}
use Rattle.calls.specs.declared.refusal.Refusal.TheVariants.{BadRecord}
use Rattle.tape.specs.declared.kinds.RecordKind.{RecordKind}
use Rattle.tape.specs.declared.kinds.RecordKind.TheVariants.{Make, Begin, Read, Write, Offer, Prepare, Decide, Cancel, Learn, Apply, Finish}

-- The number of each kind, as a record has it behind its length.
abbrev pub number_of : RecordKind → ℕ
number_of Make = 0
number_of Begin = 1
number_of Read = 2
number_of Write = 3
number_of Offer = 4
number_of Prepare = 5
number_of Decide = 6
number_of Cancel = 7
number_of Learn = 8
number_of Apply = 9
number_of Finish = 10

-- The kind that has a number. There is no kind past 10.
abbrev pub kind_numbered : ℕ → Result RecordKind Refusal
kind_numbered n =
    if n == 0 then Ok Make
    else if n == 1 then Ok Begin
    else if n == 2 then Ok Read
    else if n == 3 then Ok Write
    else if n == 4 then Ok Offer
    else if n == 5 then Ok Prepare
    else if n == 6 then Ok Decide
    else if n == 7 then Ok Cancel
    else if n == 8 then Ok Learn
    else if n == 9 then Ok Apply
    else if n == 10 then Ok Finish
    else Err BadRecord
