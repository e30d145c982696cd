use Rattle.std.proofs.Common.{◌≡◌, ℕ, ◌+◌, ◌-◌, ◌<◌, ◌≤◌, List, length, take, drop, slice_index_or, sym, refl, ap, ◌∙◌, arith}
use Rattle.std.specs.List.{between, slice_range}
use Rattle.std.proofs.lemmas.List.{take_rest, drop-drop, drop-take, get_or-take, get_or-drop}
use Rattle.std.proofs.lemmas.Slice.{between_from_start}
use Rattle.tape.specs.Layout.{number_in}
use Rattle.tape.specs.Reading.{Content, decode as decoded}
use Rattle.tape.proofs.Records.{whole}
use Rattle.tape.proofs.read.record_at.Goals as goal

-- the byte of a part of a tape, as a byte of the tape
byte_of_part : (tape : List ℕ) (at len k place : ℕ) → k < len → at + k ≡ place → slice_index_or (take len (drop at tape)) k 0 ≡ slice_index_or tape place 0
byte_of_part tape at len k place h e = get_or-take len (drop at tape) k 0 h ∙ get_or-drop at tape k 0 ∙ ap (λ i. slice_index_or tape i 0) e

pub returns : goal.returns
returns c =
    let tape = c.args.tape.now in
    let at = c.args.at in
    let len = c.from-len.result in
    let record' = c.in-Some.record.now in
    let tail = take (length tape - at) (drop at tape) in
    let look = c.in-Some.ensures.lookup.0 in
    let rest : take (length tail - 2) (drop 2 tail) ≡ drop (at + 2) tape = take_rest tail 2 ∙ ap (drop 2) (take_rest tape at) ∙ drop-drop 2 at tape in
    let cut : record' ≡ take len (drop (at + 2) tape) = look.2 ∙ ap (λ xs. slice_range xs 0 len) rest ∙ between_from_start (drop (at + 2) tape) len in
    let fits : at + 2 + len ≤ length tape = omega (arith, look.1, ap length rest) in
    let long : 2 ≤ len = omega (arith, ap length cut, c.in-len2-up-record.len_at_least) in
    let head : (k place : ℕ) → k < 2 → at + k ≡ place → slice_index_or tail k 0 ≡ slice_index_or tape place 0 =
    λ k place h. byte_of_part tape at (length tape - at) k place (omega (arith, fits, h)) in
    let next : (k place : ℕ) → k < 2 → at + 2 + k ≡ place → slice_index_or record' k 0 ≡ slice_index_or tape place 0 =
    λ k place h e. ap (λ xs. slice_index_or xs k 0) cut ∙ byte_of_part tape (at + 2) len k place (omega (arith, long, h)) e in
    let sized : number_in 2 tape at ≡ len =
    omega (arith, head 0 at (omega arith) (omega arith), head 1 (at + 1) (omega arith) refl, c.from_le_bytes.ensures, c.from-len.ensures) in
    let kind' : number_in 2 tape (at + 2) ≡ c.from_le_bytes-2.result =
    omega (arith, next 0 (at + 2) (omega arith) (omega arith), next 1 (at + 2 + 1) (omega arith) refl, c.from_le_bytes-2.ensures) in
    let two : len ≡ 2 + (len - 2) = omega (arith, long) in
    let body' : take (length record' - 2) (drop 2 record') ≡ between (at + 4) (at + 2 + len) tape =
    take_rest record' 2 ∙ ap (drop 2) (cut ∙ ap (λ n. take n (drop (at + 2) tape)) two) ∙ drop-take 2 (len - 2) (drop (at + 2) tape)
    ∙ ap (take (len - 2)) (drop-drop 2 (at + 2) tape)
    ∙ ap (λ n. take n (drop (at + 2 + 2) tape)) (let e : len - 2 ≡ at + 2 + len - (at + 4) = omega arith in e)
    ∙ ap (λ n. take (at + 2 + len - (at + 4)) (drop n tape)) (let e : at + 2 + 2 ≡ at + 4 = omega arith in e) in
    let found : Content → Content × ℕ = λ x. (x, at + 2 + len) in
    ap found (c.decode.ensures ∙ ap (decoded c.from_le_bytes-2.result) body')
    ∙ sym (whole tape at len c.from_le_bytes-2.result sized kind' fits long)
