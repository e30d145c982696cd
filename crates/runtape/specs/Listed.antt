-- The listing of a tape that was run on a new unit.
use Rattle.std.specs.Prelude.{◌≡◌, ℕ, List, Option}
use Rattle.std.specs.Option.{option_map}
use Rattle.listing.specs.declared.line.Line.{Line}
use Rattle.listing.specs.Text.{lines as text_of}
use Rattle.store.specs.Model.{FreeRule}
use Rattle.rules.specs.World.{World}
use Rattle.runner.specs.Running.{CountsBy, TapeRun, TapeTold}

-- A text lists what a unit answers to the records of a tape: there is such a unit, and there are the lines, which are those of the rules for
-- the rule by which the unit's store counts its free places; every promise is kept of the calls that they tell of.
pub record Listed {C : Type 0} (world : C → World) (rule : C → FreeRule) (tape : List ℕ) (text : List ℕ) : Type 0 where
  pub lines : List Line
  pub unit : Option C
  pub ran : (free : FreeRule) → CountsBy rule free unit → TapeRun free tape lines (option_map world unit)
  pub told : (free : FreeRule) → CountsBy rule free unit → TapeTold free tape lines
  pub listed : text ≡ text_of lines
