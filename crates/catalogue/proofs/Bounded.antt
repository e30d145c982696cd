-- How the bound on numbers follows a change of the tables.
use Rattle.std.proofs.Common.{◌≡◌, ℕ, zero, suc, ◌+◌, ◌<◌, ◌≤◌, List, [], ◌∷◌, ◌++◌, length, get_or, set, replicate, refl, arith}
use Rattle.rules.specs.declared.records.Kind.{Kind}
use Rattle.rules.specs.declared.records.Kind.TheVariants.{Search}
use Rattle.rules.specs.declared.records.Node.{Node}
use Rattle.rules.specs.declared.records.Transaction.{Transaction}
use Rattle.rules.specs.World.{zero_clock, new_node, new_transaction}
use Rattle.records.proofs.Bounded.{clock_more, each_set}
use Rattle.records.specs.Bounds.{raised_by, raised, most, ClockWithin, CollectedWithin, DecidedWithin, TransactionWithin, NodeWithin, NodesWithin, AllCollectedWithin, AllDecidedWithin}

abbrev blank : Transaction
blank = new_transaction Search

pub raised_set : (xs : List Transaction) (i : ℕ) (y d : Transaction) → i < length xs → raised (set xs i y) + raised_by (get_or xs i d) ≡ raised xs + raised_by y
unfolding raised
raised_set [] i y d l = absurd (omega arith)
raised_set (x ∷ xs) zero y d l = omega arith
raised_set (x ∷ xs) (suc i) y d l = let rest = raised_set xs i y d (omega arith) in omega arith

pub raised_push : (xs : List Transaction) (x : Transaction) → raised (xs ++ x ∷ []) ≡ raised xs + raised_by x
unfolding raised
raised_push [] x = omega arith
raised_push (y ∷ ys) x = let rest = raised_push ys x in omega arith

-- A bound may be higher.
pub node_more : (b c : ℕ) (n : Node) → b ≤ c → NodeWithin b n → NodeWithin c n
node_more b c n l (counter, frontier, seen) = (omega arith, omega arith, clock_more b c n.seen l seen)

pub collected_more : (b c : ℕ) (x : Transaction) → b ≤ c → CollectedWithin b x → CollectedWithin c x
collected_more b c x l (clock, numbers, votes) = (clock_more b c x.clock l clock, clock_more b c x.numbers l numbers, clock_more b c x.votes l votes)

pub decided_more : (b c : ℕ) (x : Transaction) → b ≤ c → DecidedWithin b x → DecidedWithin c x
decided_more b c x l (commit, stamp, voted) = (clock_more b c x.commit l commit, omega arith, voted)

-- One entry of a table is added.
each_push : {X : Type 0} (P : X → Type 0) (xs : List X) (d y : X) → P y → P d → ((j : ℕ) → P (get_or xs j d)) → (j : ℕ) → P (get_or (xs ++ y ∷ []) j d)
each_push {X} P [] d y here past all zero = here
each_push {X} P [] d y here past all (suc j) = past
each_push {X} P (x ∷ xs) d y here past all zero = all 0
each_push {X} P (x ∷ xs) d y here past all (suc j) = each_push P xs d y here past (λ i. all (suc i)) j

-- The tables after a transaction was replaced by one that raised no less.
module _ (nodes : List Node) (xs : List Transaction) (i : ℕ) (y : Transaction) (inside : i < length xs) (grows : raised_by (get_or xs i blank) ≤ raised_by y) (within : TransactionWithin (most (set xs i y)) y) where
  higher : most xs ≤ most (set xs i y)
  higher = let sum = raised_set xs i y blank inside in omega arith

  pub nodes_set : NodesWithin (most xs) nodes → NodesWithin (most (set xs i y)) nodes
  nodes_set all j = node_more (most xs) (most (set xs i y)) (get_or nodes j new_node) higher (all j)

  pub collected_set : AllCollectedWithin (most xs) xs → AllCollectedWithin (most (set xs i y)) (set xs i y)
  collected_set all =
      each_set (CollectedWithin (most (set xs i y))) xs blank y i within.0 (λ j. collected_more (most xs) (most (set xs i y)) (get_or xs j blank) higher (all j))

  pub decided_set : AllDecidedWithin (most xs) xs → AllDecidedWithin (most (set xs i y)) (set xs i y)
  decided_set all =
      each_set (DecidedWithin (most (set xs i y))) xs blank y i within.1 (λ j. decided_more (most xs) (most (set xs i y)) (get_or xs j blank) higher (all j))

-- A new transaction has raised nothing.
all_zero : (n q : ℕ) → ◌≡◌ {A = ℕ} (get_or (replicate n 0) q 0) 0
all_zero zero q = refl
all_zero (suc n) zero = refl
all_zero (suc n) (suc q) = all_zero n q

pub zero_within : (b : ℕ) → ClockWithin b zero_clock
zero_within b q = omega (arith, all_zero 8 q)

pub new_within : (kind : Kind) → TransactionWithin 0 (new_transaction kind)
new_within kind = ((zero_within 0, zero_within 0, zero_within 0), (zero_within 0, omega arith, refl))

pub blank_within : TransactionWithin 0 blank
blank_within = new_within Search

pub new_unraised : (kind : Kind) → raised_by (new_transaction kind) ≡ 0
unfolding raised_by
new_unraised kind = refl

module _ (nodes : List Node) (xs : List Transaction) (y : Transaction) (unraised : raised_by y ≡ 0) (within : TransactionWithin 0 y) where
  same : most (xs ++ y ∷ []) ≡ most xs
  same = let sum = raised_push xs y in omega arith

  pub nodes_push : NodesWithin (most xs) nodes → NodesWithin (most (xs ++ y ∷ [])) nodes
  nodes_push all j = node_more (most xs) (most (xs ++ y ∷ [])) (get_or nodes j new_node) (let e = same in omega arith) (all j)

  pub collected_push : AllCollectedWithin (most xs) xs → AllCollectedWithin (most (xs ++ y ∷ [])) (xs ++ y ∷ [])
  collected_push all =
      each_push (CollectedWithin (most (xs ++ y ∷ []))) xs blank y (collected_more 0 (most (xs ++ y ∷ [])) y (omega arith) within.0) (collected_more 0 (most (xs ++ y ∷ [])) blank (omega arith) blank_within.0)
      (λ j. collected_more (most xs) (most (xs ++ y ∷ [])) (get_or xs j blank) (let e = same in omega arith) (all j))

  pub decided_push : AllDecidedWithin (most xs) xs → AllDecidedWithin (most (xs ++ y ∷ [])) (xs ++ y ∷ [])
  decided_push all =
      each_push (DecidedWithin (most (xs ++ y ∷ []))) xs blank y (decided_more 0 (most (xs ++ y ∷ [])) y (omega arith) within.1) (decided_more 0 (most (xs ++ y ∷ [])) blank (omega arith) blank_within.1)
      (λ j. decided_more (most xs) (most (xs ++ y ∷ [])) (get_or xs j blank) (let e = same in omega arith) (all j))

-- A changed record that raised nothing leaves the bound; one that raised once moves it by 256.
module _ (xs : List Transaction) (i : ℕ) (y : Transaction) (inside : i < length xs) where
  pub kept_most : raised_by y ≡ raised_by (get_or xs i blank) → most (set xs i y) ≡ most xs
  kept_most same = let sum = raised_set xs i y blank inside in omega arith

  pub raised_most : raised_by y ≡ raised_by (get_or xs i blank) + 1 → most (set xs i y) ≡ most xs + 256
  raised_most once = let sum = raised_set xs i y blank inside in omega arith
