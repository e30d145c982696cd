-- The test of clocks decides what it is said to.
use Rattle.std.proofs.Common.{◌≡◌, ℕ, ◌≤◌, Bool, true, List, Decides, refl, arith}
use Rattle.std.proofs.lemmas.Bool.Decides.{nat_tests, Decides-below_and}
use Rattle.clock.specs.Clocks.{slot, marked, slot_passes, passes_below, passes, Passes}

slot_decides : (read : List Bool) (commit clock : List ℕ) (q : ℕ) → Decides (slot_passes read commit clock q) (marked read q ≡ true → slot commit q ≤ slot clock q)
slot_decides read commit clock q = grind (arith, nat_tests)

pub passes_decides : (read : List Bool) (commit clock : List ℕ) → Decides (passes read commit clock) (Passes read commit clock)
unfolding passes
passes_decides read commit clock =
    Decides-below_and (slot_passes read commit clock) _ (λ n. passes_below n read commit clock) (slot_decides read commit clock) refl (λ _. refl) 8
