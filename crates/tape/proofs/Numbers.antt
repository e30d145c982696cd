-- Numbers as bytes, and back.
use Rattle.std.proofs.Common.{◌≡◌, ℕ, zero, suc, ◌+◌, ◌*◌, ◌/◌, ◌%◌, ◌≤◌, List, [], ◌∷◌, ◌++◌, length, slice_index_or, drop, sym, refl, ap, ◌∙◌, append_assoc, arith}
use Rattle.std.proofs.lemmas.List.{get_or_at, length_push, drop_more}
use Rattle.tape.specs.Layout.{bytes_of, number_in}
use Rattle.tape.specs.Trips.{Bytes}

-- n takes no more than so many bytes
abbrev pub Narrow : ℕ → ℕ → Type 0
Narrow zero n = n ≡ 0
Narrow (suc width) n = Narrow width (n / 256)

pub number_back : (width n : ℕ) (before after : List ℕ) → Narrow width n
    → number_in width (before ++ (bytes_of width n ++ after)) (length before) ≡ n
number_back zero n before after h = sym h
number_back (suc width) n before after h =
    let b = n % 256 in
    let rest = bytes_of width (n / 256) ++ after in
    let tape = before ++ (b ∷ rest) in
    let here : slice_index_or tape (length before) 0 ≡ b = get_or_at before b rest 0 (length before) refl in
    let there : number_in width tape (length before + 1) ≡ n / 256 =
    ap (λ bytes. number_in width bytes (length before + 1)) (sym (append_assoc before (b ∷ []) rest))
    ∙ ap (number_in width ((before ++ b ∷ []) ++ rest)) (sym (length_push before b))
    ∙ number_back width (n / 256) (before ++ b ∷ []) after h in
    omega (arith, here, there)

-- so many bytes from a place on
abbrev pub listed : ℕ → List ℕ → ℕ → List ℕ
listed zero bytes place = []
listed (suc width) bytes place = slice_index_or bytes place 0 ∷ listed width bytes (place + 1)

pub bytes_back : (width : ℕ) (bytes : List ℕ) (place : ℕ) → Bytes bytes → bytes_of width (number_in width bytes place) ≡ listed width bytes place
bytes_back zero bytes place small = refl
bytes_back (suc width) bytes place small =
    let b = slice_index_or bytes place 0 in
    let m = number_in width bytes (place + 1) in
    let low : (b + 256 * m) % 256 ≡ b = omega (arith, small place) in
    let high : (b + 256 * m) / 256 ≡ m = omega (arith, small place) in
    ap (λ x. x ∷ bytes_of width ((b + 256 * m) / 256)) low
    ∙ ap (λ x. b ∷ bytes_of width x) high
    ∙ ap (λ xs. b ∷ xs) (bytes_back width bytes (place + 1) small)

-- the bytes from a place on, where there are so many at least
pub drop_listed : (width : ℕ) (bytes : List ℕ) (place : ℕ) → place + width ≤ length bytes → drop place bytes ≡ listed width bytes place ++ drop (place + width) bytes
drop_listed zero bytes place h = ap (λ n. drop n bytes) (let e : place ≡ place + 0 = omega arith in e)
drop_listed (suc width) bytes place h =
    let b = slice_index_or bytes place 0 in
    drop_more bytes place 0 (omega arith)
    ∙ ap (λ xs. b ∷ xs) (drop_listed width bytes (place + 1) (omega arith))
    ∙ ap (λ n. b ∷ (listed width bytes (place + 1) ++ drop n bytes)) (let e : place + 1 + width ≡ place + suc width = omega arith in e)
