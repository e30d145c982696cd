-- The layout of a tape: how calls lie in its bytes.
use Rattle.std.specs.Prelude.{ℕ, zero, suc, ◌+◌, ◌*◌, ◌/◌, ◌%◌, List, [], ◌∷◌, ◌++◌, length, slice_index}
use Rattle.std.specs.List.{flat_map}
use Rattle.calls.specs.Requests.{Request, make, begin, read, write, offer, prepare, decide, cancel, learn, apply, finish}

-- A number as so many bytes, the lowest byte first.
abbrev pub bytes_of : ℕ → ℕ → List ℕ
bytes_of zero n = []
bytes_of (suc width) n = n % 256 ∷ bytes_of width (n / 256)

-- The number that so many bytes from a place on hold, the lowest byte first.
abbrev pub number_in : ℕ → List ℕ → ℕ → ℕ
number_in zero bytes place = 0
number_in (suc width) bytes place = slice_index bytes place + 256 * number_in width bytes (place + 1)

-- The kind of the record that says a request.
abbrev pub kind : Request → ℕ
kind (make nodes keys placement) = 0
kind (begin mode) = 1
kind (read t k p) = 2
kind (write t k value) = 3
kind (offer t) = 4
kind (prepare t p) = 5
kind (decide t) = 6
kind (cancel t) = 7
kind (learn t p) = 8
kind (apply p) = 9
kind (finish t) = 10

-- The body of that record: one byte a field, but for the bytes of a placement and the eight bytes of a value.
abbrev pub body : Request → List ℕ
body (make nodes keys placement) = nodes ∷ keys ∷ placement
body (begin mode) = mode ∷ []
body (read t k p) = t ∷ k ∷ p ∷ []
body (write t k value) = t ∷ k ∷ bytes_of 8 value
body (offer t) = t ∷ []
body (prepare t p) = t ∷ p ∷ []
body (decide t) = t ∷ []
body (cancel t) = t ∷ []
body (learn t p) = t ∷ p ∷ []
body (apply p) = p ∷ []
body (finish t) = t ∷ []

-- A record: two bytes of length, which counts kind and body, two bytes of kind, and the body.
abbrev pub record_with : ℕ → List ℕ → List ℕ
record_with kind' body' = bytes_of 2 (2 + length body') ++ (bytes_of 2 kind' ++ body')

abbrev pub record_of : Request → List ℕ
record_of r = record_with (kind r) (body r)

-- The most bytes that a tape may have.
abbrev pub longest : ℕ
longest = 32768

-- A tape: the records of its requests one after another.
abbrev pub tape_of : List Request → List ℕ
tape_of rs = flat_map record_of rs
