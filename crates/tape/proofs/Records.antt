-- The record at a place, case by case.
use Rattle.std.proofs.Common.{◌≡◌, ℕ, zero, suc, ◌+◌, ◌<◌, ◌≤◌, if◌then◌else◌, nat_eq, nat_lt, List, [], ◌∷◌, ◌++◌, length, Err, sym, refl, ap, ◌∙◌, ⊎_elim, append_assoc, arith}
use Rattle.std.specs.List.{between}
use Rattle.std.proofs.lemmas.Bool.{lt-ltb, le-ltb, eq-eqb, ltb-false, cases_lt, cond-true, cond-false, cond_both}
use Rattle.calls.specs.declared.refusal.Refusal.TheVariants.{BadRecord}
use Rattle.tape.specs.Layout.{number_in}
use Rattle.tape.specs.Reading.{Content, Entry, of_length, decode, cut, framed, record_at, records_from}

pub fitting : (n : ℕ) (body : List ℕ) (content : Content) → length body ≡ n → of_length n body content ≡ content
fitting n body content e = cond-true (nat_eq (length body) n) content (Err BadRecord) (eq-eqb (length body) n e)

-- the length bytes are there, and say len
pub measured : (tape : List ℕ) (at len : ℕ) → at + 2 ≤ length tape → number_in 2 tape at ≡ len → record_at tape at ≡ framed tape at len
measured tape at len h e =
    cond-false (nat_lt (length tape) (at + 2)) (cut tape) (framed tape at (number_in 2 tape at)) (le-ltb (length tape) (at + 2) h)
    ∙ ap (framed tape at) e

-- the record is there, and has a kind
pub whole : (tape : List ℕ) (at len kind : ℕ) → number_in 2 tape at ≡ len → number_in 2 tape (at + 2) ≡ kind
    → at + 2 + len ≤ length tape → 2 ≤ len
    → record_at tape at ≡ (decode kind (between (at + 4) (at + 2 + len) tape), at + 2 + len)
whole tape at len kind e k h l =
    let found : Content → Content × ℕ = λ x. (x, at + 2 + len) in
    let body = between (at + 4) (at + 2 + len) tape in
    let content = decode (number_in 2 tape (at + 2)) body in
    let short = if nat_lt len 2 then found (Err BadRecord) else found content in
    measured tape at len (omega arith) e
    ∙ cond-false (nat_lt (length tape) (at + 2 + len)) (cut tape) short (le-ltb (length tape) (at + 2 + len) h)
    ∙ cond-false (nat_lt len 2) (found (Err BadRecord)) (found content) (le-ltb len 2 l)
    ∙ ap (λ n. found (decode n body)) k

-- what holds of a record that is cut, of one too short for a kind and of one that is read holds of the record at a place
pub by_case : (tape : List ℕ) (at : ℕ) (P : Content × ℕ → Type 0) → P (cut tape)
    → (at + 2 + number_in 2 tape at ≤ length tape → P (Err BadRecord, at + 2 + number_in 2 tape at))
    → (at + 2 + number_in 2 tape at ≤ length tape → 2 ≤ number_in 2 tape at
    → P (decode (number_in 2 tape (at + 2)) (between (at + 4) (at + 2 + number_in 2 tape at) tape), at + 2 + number_in 2 tape at))
    → P (record_at tape at)
by_case tape at P ended short read =
    let len = number_in 2 tape at in
    let found : Content → Content × ℕ = λ x. (x, at + 2 + len) in
    let content = decode (number_in 2 tape (at + 2)) (between (at + 4) (at + 2 + len) tape) in
    let judged = if nat_lt len 2 then found (Err BadRecord) else found content in
    cond_both (nat_lt (length tape) (at + 2)) (cut tape) (framed tape at len) P (λ _. ended)
    (λ _. cond_both (nat_lt (length tape) (at + 2 + len)) (cut tape) judged P (λ _. ended)
    (λ e. let fits = ltb-false (length tape) (at + 2 + len) e in
    cond_both (nat_lt len 2) (found (Err BadRecord)) (found content) P (λ _. short fits) (λ l. read fits (ltb-false len 2 l))))

-- the place behind a record is behind it, and in the tape or at its end
pub beyond : (tape : List ℕ) (at : ℕ) → at < length tape → (at < (record_at tape at).1) × ((record_at tape at).1 ≤ length tape)
beyond tape at h =
    by_case tape at (λ x. (at < x.1) × (x.1 ≤ length tape)) (h, omega arith) (λ fits. (omega arith, fits)) (λ fits long. (omega arith, fits))

-- the records from a place inside the tape are the one there and those behind it
pub one_more : (most : ℕ) (tape : List ℕ) (at : ℕ) → at < length tape
    → records_from (suc most) tape at ≡ (at, (record_at tape at).0) ∷ records_from most tape (record_at tape at).1
one_more most tape at h =
    cond-true (nat_lt at (length tape)) ((at, (record_at tape at).0) ∷ records_from most tape (record_at tape at).1) [] (lt-ltb at (length tape) h)

pub none_left : (most : ℕ) (tape : List ℕ) (at : ℕ) → length tape ≤ at → records_from most tape at ≡ []
none_left zero tape at h = refl
none_left (suc most) tape at h =
    cond-false (nat_lt at (length tape)) ((at, (record_at tape at).0) ∷ records_from most tape (record_at tape at).1) [] (le-ltb at (length tape) h)

-- as many records as there are bytes left are enough
pub enough : (m n : ℕ) (tape : List ℕ) (at : ℕ) → length tape ≤ at + m → length tape ≤ at + n → records_from m tape at ≡ records_from n tape at
enough zero n tape at h g = sym (none_left n tape at (omega arith))
enough (suc m) zero tape at h g = none_left (suc m) tape at (omega arith)
enough (suc m) (suc n) tape at h g =
    ⊎_elim
    (λ l. let b = beyond tape at l in
    one_more m tape at l
    ∙ ap (λ rest. (at, (record_at tape at).0) ∷ rest) (enough m n tape (record_at tape at).1 (omega (arith, b.0)) (omega (arith, b.0)))
    ∙ sym (one_more n tape at l))
    (λ l. none_left (suc m) tape at l ∙ sym (none_left (suc n) tape at l))
    (cases_lt at (length tape))

-- the records from a place on, all of them
abbrev pub rest_from : List ℕ → ℕ → List Entry
rest_from tape at = records_from (length tape) tape at

pub rest_more : (tape : List ℕ) (at : ℕ) → at < length tape → rest_from tape at ≡ (at, (record_at tape at).0) ∷ rest_from tape (record_at tape at).1
rest_more tape at h = enough (length tape) (suc (length tape)) tape at (omega arith) (omega arith) ∙ one_more (length tape) tape at h

pub rest_none : (tape : List ℕ) (at : ℕ) → length tape ≤ at → rest_from tape at ≡ []
rest_none tape at h = none_left (length tape) tape at h

-- one turn of the reader: the record at `at` joins those that were read
pub read_more : (done all : List Entry) (content : Content) (next : ℕ) (tape : List ℕ) (at : ℕ) → (content, next) ≡ record_at tape at → at < length tape
    → done ++ rest_from tape at ≡ all → (done ++ (at, content) ∷ []) ++ rest_from tape next ≡ all
read_more done all content next tape at e h inv =
    append_assoc done ((at, content) ∷ []) (rest_from tape next)
    ∙ ap (λ (x : Content × ℕ). done ++ ((at, x.0) ∷ rest_from tape x.1)) e
    ∙ ap (λ rest. done ++ rest) (sym (rest_more tape at h))
    ∙ inv
