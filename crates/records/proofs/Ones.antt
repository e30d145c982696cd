-- The ones of a byte are the nodes that it names.
use Rattle.std.proofs.Common.{◌≡◌, ℕ, ◌+◌, ◌/◌, ◌%◌, ◌^◌, ◌<◌, cond, eqb, length, ap, ◌∙◌, arith}
use lib.Count.{ones, ones_step, ones-le}
use Rattle.std.specs.List.{range_with_len}
use Rattle.std.proofs.lemmas.List.Sums.{length-filter}
use Rattle.std.proofs.lemmas.Bool.Decides.{nat_tests}
use Rattle.rules.specs.World.{bit}
use Rattle.rules.specs.Deciding.{nodes_of}

digit : (x : ℕ) → x % 2 ≡ cond (eqb (x % 2) 1) 1 0
digit x = grind (arith, nat_tests)

step : (byte h x : ℕ) → x ≡ byte / 2 ^ h → ones x ≡ cond (bit byte h) 1 0 + ones (x / 2)
step byte h x e = ones_step x ∙ ap (λ y. y + ones (x / 2)) (ap (λ y. y % 2) e ∙ digit (byte / 2 ^ h))

pub ones_nodes : (byte : ℕ) → byte < 256 → ones byte ≡ length (nodes_of byte)
ones_nodes byte small =
    let none : byte / 2 / 2 / 2 / 2 / 2 / 2 / 2 / 2 ≡ 0 = omega arith in
    omega (
      arith,
      length-filter (bit byte) (range_with_len 0 8),
      step byte 0 byte (omega arith),
      step byte 1 (byte / 2) (omega arith),
      step byte 2 (byte / 2 / 2) (omega arith),
      step byte 3 (byte / 2 / 2 / 2) (omega arith),
      step byte 4 (byte / 2 / 2 / 2 / 2) (omega arith),
      step byte 5 (byte / 2 / 2 / 2 / 2 / 2) (omega arith),
      step byte 6 (byte / 2 / 2 / 2 / 2 / 2 / 2) (omega arith),
      step byte 7 (byte / 2 / 2 / 2 / 2 / 2 / 2 / 2) (omega arith),
      ap ones none,
      ones-le 0 0 (omega arith),
    )
