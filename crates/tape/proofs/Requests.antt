-- Lists of calls, gone through one by one.
use Rattle.std.proofs.Common.{◌≡◌, ℕ, ◌+◌, ◌<◌, ◌≤◌, List, [], ◌∷◌, ◌++◌, map, length, slice_index_or, take, drop, sym, refl, ap, ◌∙◌, subst, arith}
use Rattle.std.proofs.lemmas.List.{drop_more, flat_map_more, length-append, map_more}
use Rattle.calls.specs.declared.call.Call.{Call}
use Rattle.calls.specs.Requests.{Request, request}
use Rattle.tape.specs.Layout.{record_of, tape_of}
use Rattle.tape.specs.Trips.{Fit, AllFit}
use Rattle.tape.specs.Writing.{over}
use Rattle.tape.proofs.Buffers.{length_over, then_over}

pub requests_more : (calls : List Call) (i : ℕ) (d : Call) → i < length calls
    → map request (drop i calls) ≡ request (slice_index_or calls i d) ∷ map request (drop (i + 1) calls)
requests_more calls i d h = ap (map request) (drop_more calls i d h)

-- how long the tape from i on is, by the record of the call at i
pub tape_more : (calls : List Call) (i : ℕ) (d : Call) (n : ℕ) → i < length calls → n ≡ length (record_of (request (slice_index_or calls i d)))
    → length (tape_of (map request (drop i calls))) ≡ n + length (tape_of (map request (drop (i + 1) calls)))
tape_more calls i d n h e =
    let rest = tape_of (map request (drop (i + 1) calls)) in
    ap (λ rs. length (tape_of rs)) (requests_more calls i d h)
    ∙ length-append (record_of (request (slice_index_or calls i d))) rest
    ∙ ap (λ m. m + length rest) (sym e)

-- the tape of the calls before i
abbrev pub front : List Call → ℕ → List ℕ
front calls i = tape_of (map request (take i calls))

front_more : (calls : List Call) (i : ℕ) (d : Call) → i < length calls → front calls i ++ record_of (request (slice_index_or calls i d)) ≡ front calls (i + 1)
front_more calls i d h =
    flat_map_more record_of [] (map request (take i calls)) (request (slice_index_or calls i d)) ∙ sym (ap tape_of (map_more request calls i d h))

-- one turn of the writer: from the place `at` in the buffer b to `at'` in b', which held b₀ at first
pub write_more : (calls : List Call) (i : ℕ) (d : Call) (b₀ b b' : List ℕ) (at at' n : ℕ) → i < length calls → n ≤ length b₀
    → at + length (tape_of (map request (drop i calls))) ≡ n → at ≡ length (front calls i) → b ≡ over b₀ 0 (front calls i)
    → b' ≡ over b at (record_of (request (slice_index_or calls i d))) → at' ≡ at + length (record_of (request (slice_index_or calls i d)))
    → (at' + length (tape_of (map request (drop (i + 1) calls))) ≡ n) × (at' ≡ length (front calls (i + 1))) × (b' ≡ over b₀ 0 (front calls (i + 1))) × (length b' ≡ length b₀)
write_more calls i d b₀ b b' at at' n h room left so_far holds puts moves =
    let rec = record_of (request (slice_index_or calls i d)) in
    let more = tape_more calls i d (length rec) h refl in
    let grown : length (front calls (i + 1)) ≡ length (front calls i) + length rec = ap length (sym (front_more calls i d h)) ∙ length-append (front calls i) rec in
    let done : b' ≡ over b₀ 0 (front calls (i + 1)) =
    then_over b₀ b b' (front calls i) rec 0 at holds (omega arith) puts (omega (arith, more)) ∙ ap (over b₀ 0) (front_more calls i d h) in (
      omega (arith, more),
      omega (arith, grown),
      done,
      ap length done ∙ length_over b₀ (front calls (i + 1)) 0 (omega (arith, more, grown)),
    )

all_fit_push : (rs : List Request) (r : Request) → AllFit rs → Fit r → AllFit (rs ++ r ∷ [])
all_fit_push [] r fit one = (one, tt)
all_fit_push (x ∷ rs) r fit one = (fit.0, all_fit_push rs r fit.1 one)

pub all_fit_more : (calls : List Call) (i : ℕ) (d : Call) → i < length calls → AllFit (map request (take i calls)) → Fit (request (slice_index_or calls i d))
    → AllFit (map request (take (i + 1) calls))
all_fit_more calls i d h fit one =
    subst AllFit (sym (map_more request calls i d h)) (all_fit_push (map request (take i calls)) (request (slice_index_or calls i d)) fit one)
