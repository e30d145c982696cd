-- Everything that a catalogue knows.
use Rattle.std.specs.Prelude.{ℕ, zero, suc, ◌-◌, ◌/◌, ◌%◌, ◌^◌, Bool, true, false, cond, ◌&&◌, ◌||◌, List, [], ◌∷◌, length, replicate, Some, None, filter, Option, ◌==◌, nat_le, nat_lt, slice_index, slice_index_or, slice_set}
use Rattle.std.specs.List.{range_with_len}
use Rattle.std.specs.Option.{is_some, unwrap_or}
use Rattle.calls.specs.declared.answer.Answer.{Answer}
use Rattle.calls.specs.declared.answer.Answer.TheVariants.{Refused}
use Rattle.calls.specs.declared.refusal.Refusal.{Refusal}
use Rattle.store.specs.Model.{Meaning}
use Rattle.rules.specs.declared.records.Kind.{Kind}
use Rattle.rules.specs.declared.records.Kind.TheVariants.{Search}
use Rattle.rules.specs.declared.records.State.TheVariants.{Open}
use Rattle.rules.specs.declared.records.Node.{Node}
use Rattle.rules.specs.declared.records.Transaction.{Transaction}

-- The nodes; the transactions in the order of begin; for each key the byte that says which nodes hold it; and what the store means.
pub record World : Type 0 where
  pub nodes : List Node
  pub transactions : List Transaction
  pub placement : List ℕ
  pub store : Meaning

-- A call gives an answer and the world after it. A refused call changes nothing.
abbrev pub Outcome : Type 0
Outcome = Answer × World

abbrev pub refuse : World → Refusal → Outcome
refuse w refusal = (Refused refusal, w)

-- A check: where it fails, the call is refused, and else it goes on.
abbrev pub check : Bool → World → Refusal → Outcome → Outcome
check holds w refusal rest = cond holds rest (refuse w refusal)

-- At first a node's counter and frontier are 0, and so is every slot of its seen clock.
abbrev pub zero_clock : List ℕ
zero_clock = replicate 8 0

abbrev pub no_marks : List Bool
no_marks = replicate 8 false

abbrev pub new_node : Node
new_node = record { counter = 0; frontier = 0; seen = zero_clock }

-- A transaction as it begins: a zero clock, and no node read at.
abbrev pub new_transaction : Kind → Transaction
new_transaction kind = record {
  kind = kind;
  state = Open;
  clock = zero_clock;
  read = no_marks;
  noted = replicate 64 None;
  written = replicate 64 None;
  polled = 0;
  voted = no_marks;
  refused = false;
  engaged = no_marks;
  numbers = zero_clock;
  votes = zero_clock;
  learned = no_marks;
  applied = no_marks;
  stamp = 0;
  commit = zero_clock;
}

-- The nodes are numbered from 0, and so are the keys; the transactions are numbered from 1.
abbrev pub is_node : World → ℕ → Bool
is_node w p = nat_lt p (length w.nodes)

abbrev pub is_key : World → ℕ → Bool
is_key w k = nat_lt k (length w.placement)

abbrev pub is_begun : World → ℕ → Bool
is_begun w t = nat_lt 0 t && nat_le t (length w.transactions)

abbrev pub node : World → ℕ → Node
node w p = slice_index_or w.nodes p new_node

abbrev pub transaction : World → ℕ → Transaction
transaction w t = slice_index_or w.transactions (t - 1) (new_transaction Search)

abbrev pub with_node : World → ℕ → Node → World
with_node w p n = record w { nodes = slice_set w.nodes p n }

abbrev pub with_transaction : World → ℕ → Transaction → World
with_transaction w t x = record w { transactions = slice_set w.transactions (t - 1) x }

abbrev pub with_store : World → Meaning → World
with_store w m = record w { store = m }

-- Bit h of a byte.
abbrev pub bit : ℕ → ℕ → Bool
bit byte h = byte / 2 ^ h % 2 == 1

-- Node p holds key k.
abbrev pub holds : World → ℕ → ℕ → Bool
holds w p k = bit (slice_index w.placement k) p

-- Some number below n passes a test; all do.
abbrev pub some_below : ℕ → (ℕ → Bool) → Bool
some_below zero test = false
some_below (suc n) test = test n || some_below n test

abbrev pub all_below : ℕ → (ℕ → Bool) → Bool
all_below zero test = true
all_below (suc n) test = test n && all_below n test

-- An update has noted a key, or written it.
abbrev pub noted : Transaction → ℕ → Bool
noted x k = is_some (slice_index_or x.noted k None)

abbrev pub wrote : Transaction → ℕ → Bool
wrote x k = is_some (slice_index_or x.written k None)

abbrev pub written_value : Transaction → ℕ → ℕ
written_value x k = unwrap_or (slice_index_or x.written k None) 0

-- How many keys of a row are there.
abbrev pub how_many : {X : Type 0} → List (Option X) → ℕ
how_many [] = 0
how_many (None ∷ row) = how_many row
how_many (Some x ∷ row) = suc (how_many row)

-- The keys that a transaction writes and that node p holds, in ascending order.
unfoldable pub written_at : World → Transaction → ℕ → List ℕ
written_at w x p = filter (λ k. wrote x k && holds w p k) (range_with_len 0 64)

-- A node that holds a key that it writes is one of its write nodes.
unfoldable pub is_write_node : World → Transaction → ℕ → Bool
is_write_node w x p = some_below 64 (λ k. wrote x k && holds w p k)
