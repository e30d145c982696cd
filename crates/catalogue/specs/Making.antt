-- Why a make gave no catalogue.
use Rattle.std.specs.Prelude.{◌≡◌, ℕ, true, false, List}
use Rattle.calls.specs.declared.refusal.Refusal.TheVariants.{MakeOutOfBounds}
use Rattle.rules.specs.Steps.{can_make}
use Rattle.catalogue.specs.declared.make.MakeError.{MakeError}
use Rattle.catalogue.specs.declared.make.MakeError.TheVariants.{Refused, OutOfMemory}

-- It is refused, by the number of a make, exactly where the rules refuse it. Else there was not enough memory.
abbrev pub WhyNotMade : ℕ → ℕ → List ℕ → MakeError → Type 0
WhyNotMade nodes keys placement (Refused refusal) = (refusal ≡ MakeOutOfBounds) × (can_make nodes keys placement ≡ false)
WhyNotMade nodes keys placement OutOfMemory = can_make nodes keys placement ≡ true
