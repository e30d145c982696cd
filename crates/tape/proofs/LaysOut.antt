-- A tape of which no record is refused holds the bytes that are written for the requests read from it.
use Rattle.std.proofs.Common.{◌≡◌, ℕ, zero, suc, ◌+◌, ◌-◌, ◌≤◌, true, if◌then◌else◌, nat_eq, nat_lt, List, [], ◌∷◌, ◌++◌, length, slice_index_or, take, drop, is_ok, Ok, Err, sym, refl, ap, ◌∙◌, subst, ⊎_elim, append-nil, arith}
use Rattle.std.specs.List.{between}
use Rattle.std.proofs.lemmas.List.{length-take-le, take_all, length-drop, take-append-drop, drop-drop, drop_all, get_or-take, get_or-drop, get_or_past, length-take}
use Rattle.std.proofs.lemmas.Bool.{eqb-true, eq-eqb, and_parts, and_from, cases_lt, false≢true, cond_both}
use Rattle.calls.specs.declared.refusal.Refusal.TheVariants.{UnreadableTape, BadRecord}
use Rattle.calls.specs.Requests.{Request, make, begin, read, write, offer, prepare, decide, cancel, learn, apply, finish}
use Rattle.tape.specs.Layout.{bytes_of, number_in, kind, body, record_of, tape_of}
use Rattle.tape.specs.Reading.{Content, Entry, of_length, make_in, begin_in, read_in, write_in, offer_in, prepare_in, decide_in, cancel_in, learn_in, apply_in, finish_in, decode as decoded, record_at, records_from}
use Rattle.tape.specs.Writing.{writable, all_writable}
use Rattle.tape.specs.Trips.{Bytes, said, requests_in, none_refused, LaysOutAgain}
use Rattle.tape.proofs.Numbers.{listed, bytes_back, drop_listed}
use Rattle.tape.proofs.Records.{by_case, beyond, one_more, none_left}

-- r is written as a record of kind k with the body bs
abbrev SaidBy : ℕ → List ℕ → Request → Type 0
SaidBy k bs r = (kind r ≡ k) × (body r ≡ bs) × (writable r ≡ true)

-- where a content is a request, the request is written so
abbrev Tells : ℕ → List ℕ → Content → Type 0
Tells k bs (Ok r) = SaidBy k bs r
Tells k bs (Err refusal) = Unit {0}

-- a body of a given length, listed byte by byte
spelled : (n : ℕ) (bs : List ℕ) → length bs ≡ n → listed n bs 0 ≡ bs
spelled n bs e =
    sym (append-nil (listed n bs 0))
    ∙ ap (λ xs. listed n bs 0 ++ xs) (sym (drop_all (0 + n) bs (omega arith)))
    ∙ sym (drop_listed n bs 0 (omega arith))

sized : (k n : ℕ) (bs : List ℕ) (content : Content) → (length bs ≡ n → Tells k bs content) → Tells k bs (of_length n bs content)
sized k n bs content f = cond_both (nat_eq (length bs) n) content (Err BadRecord) (Tells k bs) (λ e. f (eqb-true (length bs) n e)) (λ _. tt)

make_told : (bs : List ℕ) → Tells 0 bs (make_in bs)
make_told bs = sized 0 (2 + slice_index_or bs 1 0) bs (Ok (make (slice_index_or bs 0 0) (slice_index_or bs 1 0) (drop 2 bs)))
    (λ e. (refl, sym (drop_listed 2 bs 0 (omega arith)), eq-eqb (length (drop 2 bs)) (slice_index_or bs 1 0) (omega (arith, length-drop 2 bs))))

begin_told : (bs : List ℕ) → Tells 1 bs (begin_in bs)
begin_told bs = sized 1 1 bs (if nat_lt (slice_index_or bs 0 0) 2 then Ok (begin (slice_index_or bs 0 0)) else Err BadRecord)
    (λ e. cond_both (nat_lt (slice_index_or bs 0 0) 2) (Ok (begin (slice_index_or bs 0 0))) (Err BadRecord) (Tells 1 bs) (λ t. (refl, spelled 1 bs e, t)) (λ _. tt))

-- a body of single bytes
plain : (k n : ℕ) (bs : List ℕ) (r : Request) → kind r ≡ k → writable r ≡ true → body r ≡ listed n bs 0 → Tells k bs (of_length n bs (Ok r))
plain k n bs r e w q = sized k n bs (Ok r) (λ long. (e, q ∙ spelled n bs long, w))

write_told : (bs : List ℕ) → Bytes bs → Tells 3 bs (write_in bs)
write_told bs small =
    let value = number_in 8 (between 2 10 bs) 0 in
    sized 3 10 bs (Ok (write (slice_index_or bs 0 0) (slice_index_or bs 1 0) value))
    (λ e.
    let rest = drop 2 bs in
    let long : length rest ≡ 8 = omega (arith, length-drop 2 bs) in
    let part : between 2 10 bs ≡ rest = take_all 8 rest (omega arith) in
    let rest_small : Bytes rest = λ i. omega (arith, small (2 + i), get_or-drop 2 bs i 0) in
    let value_laid : bytes_of 8 value ≡ rest =
    ap (λ xs. bytes_of 8 (number_in 8 xs 0)) part ∙ bytes_back 8 rest 0 rest_small ∙ spelled 8 rest long in
    (refl, ap (λ xs. slice_index_or bs 0 0 ∷ slice_index_or bs 1 0 ∷ xs) value_laid ∙ sym (drop_listed 2 bs 0 (omega arith)), refl))

-- one kind after another
either : (k n : ℕ) (bs : List ℕ) (this others : Content) → Tells n bs this → Tells k bs others → Tells k bs (if nat_eq k n then this else others)
either k n bs this others here there =
    cond_both (nat_eq k n) this others (Tells k bs) (λ e. subst (λ j. Tells j bs this) (sym (eqb-true k n e)) here) (λ _. there)

-- what a body says under a kind is written with that kind and that body
told : (k : ℕ) (bs : List ℕ) → Bytes bs → Tells k bs (decoded k bs)
told k bs small =
    either k 0 bs (make_in bs) _ (make_told bs)
    (either k 1 bs (begin_in bs) _ (begin_told bs)
    (either k 2 bs (read_in bs) _ (plain 2 3 bs (read (slice_index_or bs 0 0) (slice_index_or bs 1 0) (slice_index_or bs 2 0)) refl refl refl)
    (either k 3 bs (write_in bs) _ (write_told bs small)
    (either k 4 bs (offer_in bs) _ (plain 4 1 bs (offer (slice_index_or bs 0 0)) refl refl refl)
    (either k 5 bs (prepare_in bs) _ (plain 5 2 bs (prepare (slice_index_or bs 0 0) (slice_index_or bs 1 0)) refl refl refl)
    (either k 6 bs (decide_in bs) _ (plain 6 1 bs (decide (slice_index_or bs 0 0)) refl refl refl)
    (either k 7 bs (cancel_in bs) _ (plain 7 1 bs (cancel (slice_index_or bs 0 0)) refl refl refl)
    (either k 8 bs (learn_in bs) _ (plain 8 2 bs (learn (slice_index_or bs 0 0) (slice_index_or bs 1 0)) refl refl refl)
    (either k 9 bs (apply_in bs) _ (plain 9 1 bs (apply (slice_index_or bs 0 0)) refl refl refl)
    (either k 10 bs (finish_in bs) (Err BadRecord) (plain 10 1 bs (finish (slice_index_or bs 0 0)) refl refl refl)
    tt))))))))))

-- where a content is a request, its record and then the tape from `next` on are the tape from `at` on
abbrev Lies : List ℕ → ℕ → Content → ℕ → Type 0
Lies tape at (Ok r) next = (writable r ≡ true) × (record_of r ++ drop next tape ≡ drop at tape)
Lies tape at (Err refusal) next = Unit {0}

module _ (tape : List ℕ) (at len : ℕ) (small : Bytes tape) (sized_here : number_in 2 tape at ≡ len) (room : at + 2 + len ≤ length tape) (long : 2 ≤ len) where
  -- the body of the record, and its rest
  middle : between (at + 4) (at + 2 + len) tape ++ drop (at + 2 + len) tape ≡ drop (at + 4) tape
  middle =
      let m = at + 2 + len - (at + 4) in
      ap (λ xs. take m (drop (at + 4) tape) ++ xs)
      (ap (λ n. drop n tape) (let e : at + 2 + len ≡ at + 4 + m = omega arith in e) ∙ sym (drop-drop m (at + 4) tape))
      ∙ take-append-drop m (drop (at + 4) tape)

  length_middle : length (between (at + 4) (at + 2 + len) tape) + 2 ≡ len
  length_middle = omega (arith, length-take-le (at + 2 + len - (at + 4)) (drop (at + 4) tape) (omega (arith, length-drop (at + 4) tape)), length-drop (at + 4) tape)

  lies : (content : Content) → Tells (number_in 2 tape (at + 2)) (between (at + 4) (at + 2 + len) tape) content → Lies tape at content (at + 2 + len)
  lies (Err refusal) t = tt
  lies (Ok r) (k, b, w) =
      let bs = between (at + 4) (at + 2 + len) tape in
      let rest = drop (at + 2 + len) tape in
      let size : 2 + length bs ≡ number_in 2 tape at = omega (arith, length_middle, sized_here) in
      let four : at + 2 + 2 ≡ at + 4 = omega arith in (
        w,
        ap (λ xs. (bytes_of 2 (2 + length xs) ++ (bytes_of 2 (kind r) ++ xs)) ++ rest) b
            ∙ ap (λ n. (bytes_of 2 (2 + length bs) ++ (bytes_of 2 n ++ bs)) ++ rest) k
            ∙ ap (λ n. (bytes_of 2 n ++ (bytes_of 2 (number_in 2 tape (at + 2)) ++ bs)) ++ rest) size
            ∙ ap (λ xs. (xs ++ (bytes_of 2 (number_in 2 tape (at + 2)) ++ bs)) ++ rest) (bytes_back 2 tape at small)
            ∙ ap (λ xs. (listed 2 tape at ++ (xs ++ bs)) ++ rest) (bytes_back 2 tape (at + 2) small)
            ∙ ap (λ xs. listed 2 tape at ++ (listed 2 tape (at + 2) ++ xs)) (middle ∙ ap (λ n. drop n tape) (sym four))
            ∙ ap (λ xs. listed 2 tape at ++ xs) (sym (drop_listed 2 tape (at + 2) (omega arith)))
            ∙ sym (drop_listed 2 tape at (omega arith)),
      )

-- a part of some bytes is bytes
part_bytes : (bytes : List ℕ) (i n : ℕ) → Bytes bytes → Bytes (take n (drop i bytes))
part_bytes bytes i n small j =
    ⊎_elim
    (λ l. omega (arith, get_or-take n (drop i bytes) j 0 l, get_or-drop i bytes j 0, small (i + j)))
    (λ l. omega (arith, get_or_past (take n (drop i bytes)) j 0 (omega (arith, length-take n (drop i bytes)))))
    (cases_lt j n)

record_lies : (tape : List ℕ) (at : ℕ) → Bytes tape → Lies tape at (record_at tape at).0 (record_at tape at).1
record_lies tape at small =
    let len = number_in 2 tape at in
    let kind' = number_in 2 tape (at + 2) in
    let bs = between (at + 4) (at + 2 + len) tape in
    let bs_small : Bytes bs = part_bytes tape (at + 4) (at + 2 + len - (at + 4)) small in
    by_case tape at (λ x. Lies tape at x.0 x.1) tt (λ _. tt)
    (λ room long. lies tape at len small refl room long (decoded kind' bs) (told kind' bs bs_small))

-- some entries hold the requests of the tape from a place on
abbrev Covers : List ℕ → ℕ → List Request → Type 0
Covers tape at rs = (all_writable rs ≡ true) × (tape_of rs ≡ drop at tape)

covers_more : (tape : List ℕ) (at next : ℕ) (content : Content) (rs : List Request) → Lies tape at content next → is_ok content ≡ true
    → Covers tape next rs → Covers tape at (said content ++ rs)
covers_more tape at next (Ok r) rs lie ok c = (and_from (writable r) (all_writable rs) lie.0 c.0, ap (λ xs. record_of r ++ xs) c.1 ∙ lie.1)
covers_more tape at next (Err refusal) rs lie ok c = absurd (false≢true ok)

lays_from : (most : ℕ) (tape : List ℕ) (at : ℕ) → Bytes tape → length tape ≤ at + most → none_refused (records_from most tape at) ≡ true
    → Covers tape at (requests_in (records_from most tape at))
lays_from zero tape at small enough ok = (refl, sym (drop_all at tape (omega arith)))
lays_from (suc most) tape at small enough ok =
    let All : List Entry → Type 0 = λ es. Covers tape at (requests_in es) in
    ⊎_elim
    (λ l.
    let more = one_more most tape at l in
    let next = (record_at tape at).1 in
    let oks = and_parts (is_ok (record_at tape at).0) (none_refused (records_from most tape next)) (ap none_refused (sym more) ∙ ok) in
    let behind = beyond tape at l in
    subst All (sym more)
    (covers_more tape at next (record_at tape at).0 (requests_in (records_from most tape next)) (record_lies tape at small) oks.0
    (lays_from most tape next small (omega (arith, behind.0)) oks.1)))
    (λ l. subst All (sym (none_left (suc most) tape at l)) (refl, sym (drop_all at tape l)))
    (cases_lt at (length tape))

pub lays_out_again : LaysOutAgain
lays_out_again tape small =
    let Out : List Entry → Type 0 = λ es. none_refused es ≡ true → Covers tape 0 (requests_in es) in
    cond_both (nat_lt 32768 (length tape)) ((0, Err UnreadableTape) ∷ []) (records_from (length tape) tape 0) Out
    (λ _ ok. absurd (false≢true ok))
    (λ _ ok. lays_from (length tape) tape 0 small (omega arith) ok)
