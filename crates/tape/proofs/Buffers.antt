-- Bytes written over a buffer, part by part.
use Rattle.std.proofs.Common.{◌≡◌, ℕ, ◌+◌, ◌≤◌, List, ◌++◌, length, take, drop, refl, ap, ◌∙◌, arith, rules}
use Rattle.std.proofs.lemmas.List.{places, same_lists, take_all, take_at}
use Rattle.tape.specs.Writing.{over}

pub length_over : (bs xs : List ℕ) (at : ℕ) → at + length xs ≤ length bs → length (over bs at xs) ≡ length bs
length_over bs xs at h = search (rules, places)

-- what is written right behind some bytes is written with them
pub over_over : (bs xs ys : List ℕ) (at : ℕ) → at + length xs + length ys ≤ length bs
    → over (over bs at xs) (at + length xs) ys ≡ over bs at (xs ++ ys)
over_over bs xs ys at h = same_lists _ _ (search (rules, places)) (λ k d l. grind (arith, places))

pub then_over : (b b' b'' xs ys : List ℕ) (at at' : ℕ) → b' ≡ over b at xs → at' ≡ at + length xs → b'' ≡ over b' at' ys
    → at + length xs + length ys ≤ length b → b'' ≡ over b at (xs ++ ys)
then_over b b' b'' xs ys at at' e p q h =
    q ∙ ap (λ x. over x at' ys) e ∙ ap (λ n. over (over b at xs) n ys) p ∙ over_over b xs ys at h

pub front_over : (b xs : List ℕ) → take (length xs) (over b 0 xs) ≡ xs
front_over b xs =
    ap (λ ys. take (length xs) (ys ++ drop (0 + length xs) b)) (take_all (length xs) xs (omega arith))
    ∙ take_at xs (drop (0 + length xs) b) (length xs) refl
