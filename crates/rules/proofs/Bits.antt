-- The bits of a byte.
use Rattle.std.proofs.Common.{◌≡◌, ℕ, ◌/◌, ◌%◌, ◌^◌, ◌<◌, ◌≤◌, false, eqb, ap, arith, pow_mono}
use native.Mathlib.Nat.{div-eq_of_lt}
use Rattle.rules.specs.World.{bit}

-- A byte has no bit past its eight.
pub bit_past : (byte p : ℕ) → byte < 256 → 8 ≤ p → bit byte p ≡ false
bit_past byte p small past =
    let high : 2 ^ 8 ≤ 2 ^ p = pow_mono past in
    let low : byte < 2 ^ p = omega arith in
    let none : byte / 2 ^ p ≡ 0 = div-eq_of_lt low in
    ap (λ (n : ℕ). eqb (n % 2) 1) none
