-- A tape that was written reads as the requests it was written from.
use Rattle.std.proofs.Common.{◌≡◌, ℕ, ◌+◌, ◌-◌, ◌<◌, ◌≤◌, true, nat_lt, List, [], ◌∷◌, ◌++◌, length, take, Ok, Err, sym, refl, ap, ◌∙◌, append_assoc, append-nil, arith}
use Rattle.std.specs.List.{between}
use Rattle.std.proofs.lemmas.List.{length-append, take_at, drop_at}
use Rattle.std.proofs.lemmas.Bool.{le-ltb, eqb-true, and_parts, cond-true, cond-false}
use Rattle.calls.specs.declared.refusal.Refusal.TheVariants.{UnreadableTape, BadRecord}
use Rattle.calls.specs.Requests.{Request, make, begin, read, write, offer, prepare, decide, cancel, learn, apply, finish}
use Rattle.tape.specs.Layout.{bytes_of, number_in, kind, body, record_of, tape_of}
use Rattle.tape.specs.Reading.{Content, Entry, decode as decoded, record_at}
use Rattle.tape.specs.Writing.{writable, all_writable}
use Rattle.tape.specs.Trips.{Fit, AllFit, placed, ReadsBack}
use Rattle.tape.proofs.Numbers.{number_back}
use Rattle.tape.proofs.Records.{fitting, whole, rest_from, rest_more, rest_none}

-- the body of a request says the request
body_back : (r : Request) → Fit r → writable r ≡ true → decoded (kind r) (body r) ≡ Ok r
body_back (make nodes keys placement) fit ok =
    let same = eqb-true (length placement) keys ok in
    fitting (2 + keys) (nodes ∷ keys ∷ placement) (Ok (make nodes keys placement)) (omega (arith, same))
body_back (begin mode) fit ok = cond-true (nat_lt mode 2) (Ok (begin mode)) (Err BadRecord) ok
body_back (read t k p) fit ok = refl
body_back (write t k value) fit ok = ap (λ v. Ok (write t k v)) (number_back 8 value [] [] (omega (arith, fit)))
body_back (offer t) fit ok = refl
body_back (prepare t p) fit ok = refl
body_back (decide t) fit ok = refl
body_back (cancel t) fit ok = refl
body_back (learn t p) fit ok = refl
body_back (apply p) fit ok = refl
body_back (finish t) fit ok = refl

kind_narrow : (r : Request) → kind r < 256
kind_narrow (make nodes keys placement) = omega arith
kind_narrow (begin mode) = omega arith
kind_narrow (read t k p) = omega arith
kind_narrow (write t k value) = omega arith
kind_narrow (offer t) = omega arith
kind_narrow (prepare t p) = omega arith
kind_narrow (decide t) = omega arith
kind_narrow (cancel t) = omega arith
kind_narrow (learn t p) = omega arith
kind_narrow (apply p) = omega arith
kind_narrow (finish t) = omega arith

-- the record of a request, wherever it stands on a tape, is read as that request
record_back : (before after : List ℕ) (r : Request) → Fit r → writable r ≡ true → length (record_of r) ≤ 32768
    → record_at (before ++ (record_of r ++ after)) (length before) ≡ (Ok r, length before + length (record_of r))
record_back before after r fit ok short =
    let at = length before in
    let len = 2 + length (body r) in
    let sized = bytes_of 2 len in
    let kinded = bytes_of 2 (kind r) in
    let tape = before ++ (record_of r ++ after) in
    let long : length tape ≡ at + (4 + length (body r) + length after) =
    length-append before (record_of r ++ after) ∙ ap (λ n. at + n) (length-append (record_of r) after ∙ omega arith) in
    let length_there : number_in 2 tape at ≡ len = number_back 2 len before (kinded ++ (body r ++ after)) (omega arith) in
    let behind : length (before ++ sized) ≡ at + 2 = length-append before sized in
    let kind_there : number_in 2 tape (at + 2) ≡ kind r =
    ap (λ bytes. number_in 2 bytes (at + 2)) (sym (append_assoc before sized (kinded ++ (body r ++ after))))
    ∙ ap (number_in 2 ((before ++ sized) ++ (kinded ++ (body r ++ after)))) (sym behind)
    ∙ number_back 2 (kind r) (before ++ sized) (body r ++ after) (omega (arith, kind_narrow r)) in
    let head = before ++ (sized ++ kinded) in
    let body_there : between (at + 4) (at + 2 + len) tape ≡ body r =
    ap (λ bytes. between (at + 4) (at + 2 + len) bytes) (sym (append_assoc before (sized ++ kinded) (body r ++ after)))
    ∙ ap (take (at + 2 + len - (at + 4))) (drop_at head (body r ++ after) (at + 4) (length-append before (sized ++ kinded)))
    ∙ take_at (body r) after (at + 2 + len - (at + 4)) (omega arith) in
    whole tape at len (kind r) length_there kind_there (omega (arith, long)) (omega arith)
    ∙ ap (λ bytes. (decoded (kind r) bytes, at + 2 + len)) body_there
    ∙ ap (λ (content : Content). (content, at + 2 + len)) (body_back r fit ok)
    ∙ ap (λ n. (Ok r, n)) (let e : at + 2 + len ≡ at + length (record_of r) = omega arith in e)

reads_back_from : (before : List ℕ) (rs : List Request) → AllFit rs → all_writable rs ≡ true → length (tape_of rs) ≤ 32768
    → rest_from (before ++ tape_of rs) (length before) ≡ placed (length before) rs
reads_back_from before [] fit ok short = rest_none (before ++ []) (length before) (omega (arith, ap length (append-nil before)))
reads_back_from before (r ∷ rs) fit ok short =
    let at = length before in
    let rec = record_of r in
    let tape = before ++ (rec ++ tape_of rs) in
    let oks = and_parts (writable r) (all_writable rs) ok in
    let long = length-append rec (tape_of rs) in
    let longer = length-append before (rec ++ tape_of rs) in
    rest_more tape at (omega (arith, long, longer))
    ∙ ap (λ (x : Content × ℕ). (at, x.0) ∷ rest_from tape x.1) (record_back before (tape_of rs) r fit.0 oks.0 (omega (arith, long, short)))
    ∙ ap (λ (xs : List Entry). (at, Ok r) ∷ xs)
    (ap (λ n. rest_from tape n) (sym (length-append before rec))
    ∙ ap (λ bytes. rest_from bytes (length (before ++ rec))) (sym (append_assoc before rec (tape_of rs)))
    ∙ reads_back_from (before ++ rec) rs fit.1 oks.1 (omega (arith, long, short))
    ∙ ap (λ n. placed n rs) (length-append before rec))

pub reads_back : ReadsBack
reads_back rs fit ok short =
    cond-false (nat_lt 32768 (length (tape_of rs))) ((0, Err UnreadableTape) ∷ []) (rest_from (tape_of rs) 0) (le-ltb 32768 (length (tape_of rs)) short)
    ∙ reads_back_from [] rs fit ok short
