-- No number is near the highest that 32 bits hold.
use Rattle.std.proofs.Common.{◌≡◌, ℕ, zero, suc, ◌+◌, ◌*◌, ◌^◌, ◌<◌, ◌≤◌, Bool, true, false, cond, ltb, List, [], ◌∷◌, length, Some, None, Option, refl, ◌∙◌, arith}
use Rattle.std.specs.Option.{IsSome}
use Rattle.std.proofs.lemmas.Bool.{cond-true, lt-ltb}
use Rattle.clock.specs.Clocks.{marked}
use Rattle.clock.specs.Numbers.{next_number, if_fits}
use Rattle.clock.proofs.Least.{found, some_leaves}
use Rattle.rules.specs.declared.records.Transaction.{Transaction}
use Rattle.records.specs.Bounds.{count_below, is_committed, raised_by, raised, most}

cond_few : (b : Bool) → cond {A = ℕ} b 1 0 ≤ 1
cond_few true = omega arith
cond_few false = omega arith

count_few : (n : ℕ) (test : ℕ → Bool) → count_below n test ≤ n
count_few zero test = omega arith
count_few (suc n) test = let here = cond_few (test n) in let rest = count_few n test in omega arith

raised_by_few : (x : Transaction) → raised_by x ≤ 9
unfolding raised_by
raised_by_few x = let votes = count_few 8 (marked x.voted) in let commit = cond_few (is_committed x.state) in omega arith

raised_few : (xs : List Transaction) → raised xs ≤ 9 * length xs
unfolding raised
raised_few [] = omega arith
raised_few (x ∷ xs) = let here = raised_by_few x in let rest = raised_few xs in omega arith

pub most_few : (xs : List Transaction) → length xs ≤ 255 → most xs ≤ 587520
most_few xs few = let h = raised_few xs in omega arith

-- The next number is at most one modulus higher.
pub next_near : (counter t : ℕ) → t < 256 → next_number 256 counter t ≤ counter + 256
next_near counter t small =
    let some = some_leaves 256 t (counter + 1) small in
    let near = found 256 t 256 (counter + 1) some.0 some.1 some.2 some.3 in
    let high = some.2 in
    let last = near.2 in
    omega arith

fits : (n : ℕ) → n < 2 ^ 32 → if_fits n ≡ Some n
fits n small = cond-true (ltb n (2 ^ 32)) (Some n) None (lt-ltb n (2 ^ 32) small)

pub fits_some : (r : Option ℕ) (n : ℕ) → n < 2 ^ 32 → r ≡ if_fits n → IsSome r
fits_some None n small told = let e : None ≡ Some n = told ∙ fits n small in let z : ◌≡◌ {A = ℕ} 0 1 = cc in absurd (omega arith)
fits_some (Some x) n small told = refl

-- The bound on the numbers of tables with room for what a vote or a commit adds.
pub room_above : (xs : List Transaction) → length xs ≤ 255 → most xs + 256 < 2 ^ 32
room_above xs few = let h = most_few xs few in omega arith
