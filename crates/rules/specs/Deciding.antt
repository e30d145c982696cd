-- Beginning, offering, deciding, cancelling and finishing.
use Rattle.std.specs.Prelude.{ℕ, ◌+◌, Bool, true, false, cond, not, ◌||◌, List, [], ◌∷◌, ◌++◌, map, length, fold, filter, bit_or, nat_lt, slice_index}
use Rattle.std.specs.List.{range_with_len}
use Rattle.calls.specs.declared.answer.Answer.TheVariants.{Done, Begun, Polled, Committed, Aborted}
use Rattle.calls.specs.declared.refusal.Refusal.TheVariants.{NumbersUsedUp, NoSuchTransaction, WrongState, VotesOutstanding}
use Rattle.clock.specs.Clocks.{slot, join, marked}
use Rattle.clock.specs.Numbers.{stamp_number}
use Rattle.rules.specs.declared.records.Kind.{Kind}
use Rattle.rules.specs.declared.records.State.TheVariants.{Aborted as is_aborted, Finished}
use Rattle.rules.specs.declared.records.Event.TheVariants.{Offer, Decide, Cancel, Finish}
use Rattle.rules.specs.declared.records.Transaction.{Transaction}
use Rattle.rules.specs.World.{World, Outcome, check, is_begun, transaction, with_transaction, new_transaction, bit, some_below, all_below, noted, wrote, is_write_node}
use Rattle.rules.specs.Changes.{may, becomes, is_now_offered, is_committed}

-- Begin: a new transaction, with the next number.
abbrev pub begin_call : World → Kind → Outcome
begin_call w kind =
    check (nat_lt (length w.transactions) 255) w NumbersUsedUp (
      Begun (length w.transactions + 1),
      record w { transactions = w.transactions ++ new_transaction kind ∷ [] },
    )

-- The byte of all holders of the keys that a transaction noted or wrote.
unfoldable pub polled_byte : World → Transaction → ℕ
polled_byte w x = fold (λ byte k. cond (noted x k || wrote x k) (bit_or byte (slice_index w.placement k)) byte) 0 (range_with_len 0 64)

-- The nodes of a byte.
abbrev pub nodes_of : ℕ → List ℕ
nodes_of byte = filter (bit byte) (range_with_len 0 8)

-- Offer (t): it polls those nodes, and answers how many they are.
abbrev pub offer_call : World → ℕ → Outcome
offer_call w t =
    check (is_begun w t) w NoSuchTransaction
    (check (may Offer (transaction w t)) w WrongState
    (Polled (length (nodes_of (polled_byte w (transaction w t)))), with_transaction w t (is_now_offered (polled_byte w (transaction w t)) (transaction w t))))

-- All nodes that it polls have voted.
unfoldable pub all_voted : Transaction → Bool
all_voted x = all_below 8 (λ p. not (bit x.polled p) || marked x.voted p)

-- The base: the join of its clock and of the clocks that the votes carried.
abbrev pub base_clock : Transaction → List ℕ
base_clock x = join x.clock x.votes

-- An update without write nodes has the stamp 0.
abbrev pub stamp_of : World → ℕ → Transaction → ℕ
stamp_of w t x = cond (some_below 8 (is_write_node w x)) (stamp_number 256 x.numbers (base_clock x) t) 0

-- The commit clock: the base, with the stamp in the slots of the write nodes.
unfoldable pub stamped : World → Transaction → ℕ → List ℕ
stamped w x stamp = map (λ q. cond (is_write_node w x q) stamp (slot (base_clock x) q)) (range_with_len 0 8)

-- Decide (t): it aborts if a node voted no, and commits when all polled nodes voted yes.
abbrev pub decide_by : World → ℕ → Transaction → Bool → Outcome
decide_by w t x true = (Aborted, with_transaction w t (becomes is_aborted x))
decide_by w t x false =
    check (all_voted x) w VotesOutstanding
    (Committed (stamp_of w t x), with_transaction w t (is_committed (stamp_of w t x) (stamped w x (stamp_of w t x)) x))

abbrev pub decide_call : World → ℕ → Outcome
decide_call w t =
    check (is_begun w t) w NoSuchTransaction
    (check (may Decide (transaction w t)) w WrongState
    (decide_by w t (transaction w t) (transaction w t).refused))

-- Cancel (t) aborts an open or offered update.
abbrev pub cancel_call : World → ℕ → Outcome
cancel_call w t =
    check (is_begun w t) w NoSuchTransaction
    (check (may Cancel (transaction w t)) w WrongState
    (Done, with_transaction w t (becomes is_aborted (transaction w t))))

-- Finish (t) ends a Search.
abbrev pub finish_call : World → ℕ → Outcome
finish_call w t =
    check (is_begun w t) w NoSuchTransaction
    (check (may Finish (transaction w t)) w WrongState
    (Done, with_transaction w t (becomes Finished (transaction w t))))
