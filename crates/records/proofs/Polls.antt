-- The nodes that an update polls, and their votes.
use Rattle.std.proofs.Common.{◌≡◌, ℕ, Bool, not, ◌||◌, arith}
use Rattle.std.proofs.lemmas.Bool.Decides.{nat_tests}
use Rattle.std.specs.List.{list_all, range_with_len}
use Rattle.clock.specs.Clocks.{marked}
use Rattle.rules.specs.declared.records.Transaction.{Transaction}
use Rattle.rules.specs.World.{bit}
use Rattle.rules.specs.Deciding.{all_voted}

-- A node has voted if it is polled.
abbrev pub has_voted : Transaction → ℕ → Bool
has_voted x p = not (bit x.polled p) || marked x.voted p

-- The list of all eight is looked at from its beginning, and the rules look from the last.
pub all_voted_listed : (x : Transaction) → list_all (has_voted x) (range_with_len 0 8) ≡ all_voted x
unfolding all_voted
all_voted_listed x = grind (arith, nat_tests)
