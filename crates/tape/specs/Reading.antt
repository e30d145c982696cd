-- What a reader makes of the bytes of a tape, whatever they are.
use Rattle.std.specs.Prelude.{ℕ, zero, suc, ◌+◌, if◌then◌else◌, List, [], ◌∷◌, length, drop, Ok, Err, Result, ◌==◌, nat_lt, slice_index}
use Rattle.std.specs.List.{between}
use Rattle.calls.specs.declared.call.Call.{Call}
use Rattle.calls.specs.declared.refusal.Refusal.{Refusal}
use Rattle.calls.specs.declared.refusal.Refusal.TheVariants.{UnreadableTape, BadRecord}
use Rattle.calls.specs.Requests.{Request, request, make, begin, read, write, offer, prepare, decide, cancel, learn, apply, finish}
use Rattle.tape.specs.Layout.{longest, number_in}

-- What a record says: a request, or why it says none.
abbrev pub Content : Type 0
Content = Result Request Refusal

-- The content that a result of the program stands for.
abbrev pub requested : Result Call Refusal → Content
requested (Ok call) = Ok (request call)
requested (Err refusal) = Err refusal

-- The content of a body that must have so many bytes.
abbrev pub of_length : ℕ → List ℕ → Content → Content
of_length n body content = if length body == n then content else Err BadRecord

-- The content of a body of each kind. A make has as many placement bytes as its second byte says; the mode of a begin is 0 or 1.
abbrev pub make_in : List ℕ → Content
make_in body = of_length (2 + slice_index body 1) body (Ok (make (slice_index body 0) (slice_index body 1) (drop 2 body)))

abbrev pub begin_in : List ℕ → Content
begin_in body = of_length 1 body (if nat_lt (slice_index body 0) 2 then Ok (begin (slice_index body 0)) else Err BadRecord)

abbrev pub read_in : List ℕ → Content
read_in body = of_length 3 body (Ok (read (slice_index body 0) (slice_index body 1) (slice_index body 2)))

abbrev pub write_in : List ℕ → Content
write_in body = of_length 10 body (Ok (write (slice_index body 0) (slice_index body 1) (number_in 8 (between 2 10 body) 0)))

abbrev pub offer_in : List ℕ → Content
offer_in body = of_length 1 body (Ok (offer (slice_index body 0)))

abbrev pub prepare_in : List ℕ → Content
prepare_in body = of_length 2 body (Ok (prepare (slice_index body 0) (slice_index body 1)))

abbrev pub decide_in : List ℕ → Content
decide_in body = of_length 1 body (Ok (decide (slice_index body 0)))

abbrev pub cancel_in : List ℕ → Content
cancel_in body = of_length 1 body (Ok (cancel (slice_index body 0)))

abbrev pub learn_in : List ℕ → Content
learn_in body = of_length 2 body (Ok (learn (slice_index body 0) (slice_index body 1)))

abbrev pub apply_in : List ℕ → Content
apply_in body = of_length 1 body (Ok (apply (slice_index body 0)))

abbrev pub finish_in : List ℕ → Content
finish_in body = of_length 1 body (Ok (finish (slice_index body 0)))

-- The content of a body by its kind. There is no kind past 10.
abbrev pub decode : ℕ → List ℕ → Content
decode kind body =
    if kind == 0 then make_in body
    else if kind == 1 then begin_in body
    else if kind == 2 then read_in body
    else if kind == 3 then write_in body
    else if kind == 4 then offer_in body
    else if kind == 5 then prepare_in body
    else if kind == 6 then decide_in body
    else if kind == 7 then cancel_in body
    else if kind == 8 then learn_in body
    else if kind == 9 then apply_in body
    else if kind == 10 then finish_in body
    else Err BadRecord

-- A tape that ends inside a record: nothing is read behind it.
abbrev pub cut : List ℕ → Content × ℕ
cut tape = (Err UnreadableTape, length tape)

-- The record at a place whose length bytes say `len`: its content, and the place behind it.
abbrev pub framed : List ℕ → ℕ → ℕ → Content × ℕ
framed tape at len =
    if nat_lt (length tape) (at + 2 + len) then cut tape
    else if nat_lt len 2 then (Err BadRecord, at + 2 + len)
    else (decode (number_in 2 tape (at + 2)) (between (at + 4) (at + 2 + len) tape), at + 2 + len)

-- The record at a place.
abbrev pub record_at : List ℕ → ℕ → Content × ℕ
record_at tape at = if nat_lt (length tape) (at + 2) then cut tape else framed tape at (number_in 2 tape at)

-- What is read of a tape: for each record the place of its first byte, and its content.
abbrev pub Entry : Type 0
Entry = ℕ × Content

-- The records from a place on, but at most so many.
abbrev pub records_from : ℕ → List ℕ → ℕ → List Entry
records_from zero tape at = []
records_from (suc most) tape at =
    if nat_lt at (length tape) then (at, (record_at tape at).0) ∷ records_from most tape (record_at tape at).1 else []

-- The records of a tape, of which there are no more than bytes. Of a tape that is too long none is read.
abbrev pub read_tape : List ℕ → List Entry
read_tape tape = if nat_lt longest (length tape) then (0, Err UnreadableTape) ∷ [] else records_from (length tape) tape 0
