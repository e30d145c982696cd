-- How high the numbers of a catalogue can be: each yes of a node and each commit raises them by at most 256.
use Rattle.std.specs.Prelude.{◌≡◌, ℕ, zero, suc, ◌+◌, ◌*◌, ◌≤◌, Bool, true, false, cond, List, [], ◌∷◌, length, slice_index_or}
use Rattle.clock.specs.Clocks.{slot, marked}
use Rattle.rules.specs.declared.records.Kind.TheVariants.{Search}
use Rattle.rules.specs.declared.records.State.{State}
use Rattle.rules.specs.declared.records.State.TheVariants.{Open, Offered, Committed, Aborted, Finished}
use Rattle.rules.specs.declared.records.Event.{Event}
use Rattle.rules.specs.declared.records.Event.TheVariants.{Read, Write, Offer, Prepare, Decide, Cancel, Learn, Finish}
use Rattle.rules.specs.declared.records.Node.{Node}
use Rattle.rules.specs.declared.records.Transaction.{Transaction}
use Rattle.rules.specs.World.{new_node, new_transaction}

-- How many of the numbers below n pass a test.
abbrev pub count_below : ℕ → (ℕ → Bool) → ℕ
count_below zero test = 0
count_below (suc n) test = cond (test n) 1 0 + count_below n test

abbrev pub is_committed : State → Bool
is_committed Open = false
is_committed Offered = false
is_committed Committed = true
is_committed Aborted = false
is_committed Finished = false

-- Every call but learn is for transactions that are not decided.
abbrev pub for_undecided : Event → Bool
for_undecided Read = true
for_undecided Write = true
for_undecided Offer = true
for_undecided Prepare = true
for_undecided Decide = true
for_undecided Cancel = true
for_undecided Learn = false
for_undecided Finish = true

-- How often a transaction can have raised a number: once for each vote, and once by its commit.
unfoldable pub raised_by : Transaction → ℕ
raised_by x = count_below 8 (marked x.voted) + cond (is_committed x.state) 1 0

unfoldable pub raised : List Transaction → ℕ
raised [] = 0
raised (x ∷ xs) = raised_by x + raised xs

-- No number is higher than this.
abbrev pub most : List Transaction → ℕ
most xs = 256 * raised xs

abbrev pub ClockWithin : ℕ → List ℕ → Type 0
ClockWithin b clock = (q : ℕ) → slot clock q ≤ b

-- No number that a transaction has collected before its decision is higher than b.
abbrev pub CollectedWithin : ℕ → Transaction → Type 0
CollectedWithin b x = ClockWithin b x.clock × ClockWithin b x.numbers × ClockWithin b x.votes

-- Nor one that its decision gave. And there is a mark for each node's vote.
abbrev pub DecidedWithin : ℕ → Transaction → Type 0
DecidedWithin b x = ClockWithin b x.commit × (x.stamp ≤ b) × (length x.voted ≡ 8)

abbrev pub TransactionWithin : ℕ → Transaction → Type 0
TransactionWithin b x = CollectedWithin b x × DecidedWithin b x

-- No number of a node is higher than b.
abbrev pub NodeWithin : ℕ → Node → Type 0
NodeWithin b n = (n.counter ≤ b) × (n.frontier ≤ b) × ClockWithin b n.seen

abbrev pub NodesWithin : ℕ → List Node → Type 0
NodesWithin b nodes = (i : ℕ) → NodeWithin b (slice_index_or nodes i new_node)

abbrev pub AllCollectedWithin : ℕ → List Transaction → Type 0
AllCollectedWithin b xs = (i : ℕ) → CollectedWithin b (slice_index_or xs i (new_transaction Search))

abbrev pub AllDecidedWithin : ℕ → List Transaction → Type 0
AllDecidedWithin b xs = (i : ℕ) → DecidedWithin b (slice_index_or xs i (new_transaction Search))

-- A record that is changed without raising a number, and one that raised a number once.
pub record Keeps (x y : Transaction) : Type 0 where
  pub same : raised_by y ≡ raised_by x
  pub within : (b : ℕ) → TransactionWithin b x → TransactionWithin b y

pub record Raises (b : ℕ) (x y : Transaction) : Type 0 where
  pub once : raised_by y ≡ raised_by x + 1
  pub within : TransactionWithin (b + 256) y
