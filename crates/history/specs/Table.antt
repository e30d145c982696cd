-- One table, and transactions that run on it singly, one whole transaction after the other.
-- Scripts, answers, orders and chains are lists with the newest first.
use Rattle.std.specs.Prelude.{◌≡◌, ℕ, Bool, false, cond, ◌&&◌, ◌||◌, ◌⊎◌, List, [], ◌∷◌, ◌==◌}

-- A version is a value and the transaction that wrote it.  It is what a read answers, and what the table holds at a key.
pub record Version : Type 0 where
  pub value : ℕ
  pub writer : ℕ

abbrev pub version : ℕ → ℕ → Version
version v w = record { value = v; writer = w }

-- The first version of every key: value 0, written by nobody (transactions are numbered from 1).
abbrev pub first_version : Version
first_version = version 0 0

-- The table holds a version for each key, at first the first version everywhere.
abbrev pub Table : Type 0
Table = ℕ → Version

abbrev pub first_table : Table
first_table k = first_version

-- A function changed at one argument.
abbrev pub update_at : {A : Type 0} → (ℕ → A) → ℕ → A → ℕ → A
update_at f k a i = cond (k == i) a (f i)

-- A transaction's script: its accepted reads and writes, in the order of the calls.
pub data Operation : Type 0 where
  get : ℕ → Operation  -- read a key
  put : ℕ → ℕ → Operation  -- write a key: key, value

-- What transaction t finds after its script: its last write of a key, with its number, else what the table has.
abbrev pub after : ℕ → List Operation → Table → Table
after t [] table = table
after t (get k ∷ script) table = after t script table
after t (put k v ∷ script) table = update_at (after t script table) k (version v t)

-- What the reads of a script answer.
abbrev pub answers : ℕ → List Operation → Table → List Version
answers t [] table = []
answers t (get k ∷ script) table = after t script table k ∷ answers t script table
answers t (put k v ∷ script) table = answers t script table

-- The script reads a key.
abbrev pub gets : List Operation → ℕ → Bool
gets [] k = false
gets (get j ∷ script) k = j == k || gets script k
gets (put j v ∷ script) k = gets script k

-- The script writes a key.
abbrev pub puts : List Operation → ℕ → Bool
puts [] k = false
puts (get j ∷ script) k = puts script k
puts (put j v ∷ script) k = j == k || puts script k

-- Two scripts conflict at a key: one writes it, and the other reads or writes it.
abbrev pub scripts_conflict : List Operation → List Operation → ℕ → Bool
scripts_conflict a b k = (puts a k && (gets b k || puts b k)) || (gets a k && puts b k)

-- Whole transactions on the table, given their scripts and whether what a transaction writes stays (it does if it is committed).
module _ (script : ℕ → List Operation) (stays : ℕ → Bool) where
  -- the table after one transaction: its last writes enter if they stay
  abbrev pub play : ℕ → Table → Table
  play u table = cond (stays u) (after u (script u) table) table

  -- the table after all transactions of an order
  abbrev pub play_all : List ℕ → Table → Table
  play_all [] table = table
  play_all (u ∷ order) table = play u (play_all order table)

  -- every transaction of the order gets, on the table that the earlier ones left, the answers that it is said to have got
  abbrev pub AllAnswered : (ℕ → List Version) → List ℕ → Table → Type 0
  AllAnswered got [] table = Unit {0}
  AllAnswered got (u ∷ order) table = (answers u (script u) (play_all order table) ≡ got u) × AllAnswered got order table

-- A transaction is in an order; and the test of it.
abbrev pub Member : ℕ → List ℕ → Type 0
Member x [] = ⊥
Member x (y ∷ order) = (x ≡ y) ⊎ Member x order

abbrev pub listed : ℕ → List ℕ → Bool
listed x [] = false
listed x (y ∷ order) = x == y || listed x order

-- In an order, t comes later than u.
abbrev pub Later : ℕ → ℕ → List ℕ → Type 0
Later t u [] = ⊥
Later t u (y ∷ order) = ((t ≡ y) × Member u order) ⊎ Later t u order

-- Of an order of transactions, the versions of those that pass a test.
abbrev pub selected : (ℕ → Bool) → (ℕ → Version) → List ℕ → List Version
selected test f [] = []
selected test f (u ∷ order) = cond (test u) (f u ∷ selected test f order) (selected test f order)

-- The newest version of a chain that is written without its first version.
abbrev pub newest : List Version → Version
newest [] = first_version
newest (x ∷ chain) = x
