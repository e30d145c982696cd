use Rattle.std.specs.Prelude.{◌≡◌, ℕ, ◌≤◌}
use Rattle.calls.specs.declared.refusal.Refusal.{Refusal}
use Rattle.calls.specs.declared.refusal.Refusal.TheVariants.{MakeOutOfBounds, NoSuchTransaction, NoSuchNode, NoSuchKey, KeyNotHeld, UnreadableTape, BadRecord, MakeOutOfOrder, TapeFull, NumbersUsedUp, WrongState, NotYet, Overtaken, TooManyKeysRead, TooManyKeysWritten, NotPolled, AlreadyDone, Busy, VotesOutstanding, NothingToApply, NotLearned}

-- The number of each refusal: the one place that pairs the two.
abbrev pub number : Refusal → ℕ
number MakeOutOfBounds = 1
number NoSuchTransaction = 2
number NoSuchNode = 3
number NoSuchKey = 4
number KeyNotHeld = 5
number UnreadableTape = 6
number BadRecord = 7
number MakeOutOfOrder = 8
number TapeFull = 9
number NumbersUsedUp = 10
number WrongState = 11
number NotYet = 12
number Overtaken = 13
number TooManyKeysRead = 14
number TooManyKeysWritten = 15
number NotPolled = 16
number AlreadyDone = 17
number Busy = 18
number VotesOutstanding = 19
number NothingToApply = 20
number NotLearned = 21

-- Every refusal has a number from 1 to 21, no two have the same, and every number from 1 to 21 is that of a refusal.
pub record NumbersPairOff : Type 0 where
  pub within : (a : Refusal) → (1 ≤ number a) × (number a ≤ 21)
  pub apart : (a b : Refusal) → number a ≡ number b → a ≡ b
  pub every : (n : ℕ) → 1 ≤ n → n ≤ 21 → (a : Refusal) × (number a ≡ n)
