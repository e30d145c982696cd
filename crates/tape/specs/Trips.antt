-- What holds of every tape: no record is missed, reading undoes writing, and writing undoes reading.
use Rattle.std.specs.Prelude.{◌≡◌, ℕ, ◌+◌, ◌^◌, ◌<◌, ◌≤◌, Bool, true, List, [], ◌∷◌, length, is_ok, Ok, Err, slice_index}
use Rattle.std.specs.List.{flat_map, list_all}
use Rattle.calls.specs.Requests.{Request, make, begin, read, write, offer, prepare, decide, cancel, learn, apply, finish}
use Rattle.tape.specs.Layout.{longest, record_of, tape_of}
use Rattle.tape.specs.Reading.{Content, Entry, records_from, read_tape}
use Rattle.tape.specs.Writing.{all_writable}

-- The records of a tape are all of its records: however many more may be read, no more are found.
abbrev pub NoneMissed : Type 0
NoneMissed = (tape : List ℕ) (more : ℕ) → records_from (length tape + more) tape 0 ≡ records_from (length tape) tape 0

-- The value of a write has 64 bits, as every value of the program has.
abbrev pub Fit : Request → Type 0
Fit (make nodes keys placement) = Unit {0}
Fit (begin mode) = Unit {0}
Fit (read t k p) = Unit {0}
Fit (write t k value) = value < 2 ^ 64
Fit (offer t) = Unit {0}
Fit (prepare t p) = Unit {0}
Fit (decide t) = Unit {0}
Fit (cancel t) = Unit {0}
Fit (learn t p) = Unit {0}
Fit (apply p) = Unit {0}
Fit (finish t) = Unit {0}

abbrev pub AllFit : List Request → Type 0
AllFit [] = Unit {0}
AllFit (r ∷ rs) = Fit r × AllFit rs

-- The requests of a list, each at its place: every record begins where the one before it ends.
abbrev pub placed : ℕ → List Request → List Entry
placed at [] = []
placed at (r ∷ rs) = (at, Ok r) ∷ placed (at + length (record_of r)) rs

-- A tape written from a list of requests reads as exactly that list.
abbrev pub ReadsBack : Type 0
ReadsBack = (rs : List Request) → AllFit rs → all_writable rs ≡ true → length (tape_of rs) ≤ longest → read_tape (tape_of rs) ≡ placed 0 rs

-- The requests among some entries, and whether every entry is one.
abbrev pub said : Content → List Request
said (Ok r) = r ∷ []
said (Err refusal) = []

abbrev pub requests_in : List Entry → List Request
requests_in entries = flat_map (λ entry. said entry.1) entries

abbrev pub none_refused : List Entry → Bool
none_refused entries = list_all (λ entry. is_ok entry.1) entries

-- Every number of a list is a byte.
abbrev pub Bytes : List ℕ → Type 0
Bytes bytes = (i : ℕ) → slice_index bytes i < 256

-- Where no entry is refused, the writer takes the requests, and lays out exactly these bytes for them.
abbrev pub LaidOut : List Entry → List ℕ → Type 0
LaidOut entries tape =
    none_refused entries ≡ true → (all_writable (requests_in entries) ≡ true) × (tape_of (requests_in entries) ≡ tape)

-- A tape of which no record is refused holds the bytes that a writer lays out for the requests read from it.
abbrev pub LaysOutAgain : Type 0
LaysOutAgain = (tape : List ℕ) → Bytes tape → LaidOut (read_tape tape) tape
