-- The vote of a node on an offered update.
use Rattle.std.specs.Prelude.{ℕ, zero, suc, ◌+◌, Bool, true, false, cond, not, ◌&&◌, ◌||◌, List, [], ◌∷◌, length, Some, None, Ok, Err, Option, Result, ◌==◌, slice_index_or}
use Rattle.std.specs.Option.{unwrap_or}
use Rattle.calls.specs.declared.answer.Answer.TheVariants.{Yes, NoOvertaken, NoPlace}
use Rattle.calls.specs.declared.refusal.Refusal.TheVariants.{NoSuchTransaction, NoSuchNode, WrongState, NotPolled, AlreadyDone, Busy}
use Rattle.clock.specs.Clocks.{marked}
use Rattle.clock.specs.Numbers.{next_number}
use Rattle.store.specs.declared.Version.{Version}
use Rattle.store.specs.Model.{FreeRule, Meaning}
use Rattle.store.specs.Batch.{all_aside, first_refused}
use Rattle.rules.specs.declared.records.Node.{Node}
use Rattle.rules.specs.declared.records.Event.TheVariants.{Prepare}
use Rattle.rules.specs.declared.records.Transaction.{Transaction}
use Rattle.rules.specs.World.{World, Outcome, check, is_begun, is_node, holds, node, transaction, with_node, with_transaction, with_store, bit, some_below, noted, wrote, written_at, is_write_node}
use Rattle.rules.specs.Changes.{may, has_no, has_yes, is_numbered}

-- Two updates conflict at a key that node p holds: the other writes it and this one notes or writes it, or the other notes it and this one
-- writes it.
abbrev pub conflict_at : World → Transaction → Transaction → ℕ → ℕ → Bool
conflict_at w x other p k = holds w p k && ((wrote other k && (noted x k || wrote x k)) || (noted other k && wrote x k))

-- Another update engaged at p conflicts with t.
abbrev pub blocks : World → ℕ → ℕ → ℕ → Bool
blocks w t p u = not (u == t) && (marked (transaction w u).engaged p && some_below 64 (conflict_at w (transaction w t) (transaction w u) p))

unfoldable pub busy : World → ℕ → ℕ → Bool
busy w t p = some_below (length w.transactions) (λ i. blocks w t p (i + 1))

-- The writer of the newest version of a chain.
abbrev pub newest_writer : List Version → ℕ
newest_writer [] = 0
newest_writer (v ∷ older) = v.writer

-- A noted key that p holds is overtaken: its newest version there is by another writer than the one noted.
abbrev pub overtaken_at : World → Transaction → ℕ → ℕ → Bool
overtaken_at w x p k = holds w p k && (noted x k && not (newest_writer (w.store p k).versions == unwrap_or (slice_index_or x.noted k None) 0))

-- Of so many keys from k on, the lowest that passes a test.
abbrev pub lowest_from : ℕ → ℕ → (ℕ → Bool) → Option ℕ
lowest_from zero k test = None
lowest_from (suc more) k test = cond (test k) (Some k) (lowest_from more (k + 1) test)

unfoldable pub overtaken_key : World → Transaction → ℕ → Option ℕ
overtaken_key w x p = lowest_from 64 0 (overtaken_at w x p)

abbrev pub counted : ℕ → Node → Node
counted number n = record n { counter = number }

-- A yes. At a write node the counter becomes the next number for t, which is t's number there and the answer; elsewhere the answer is 0.
abbrev pub yes : World → ℕ → ℕ → Transaction → Meaning → Bool → Outcome
yes w t p x store true = (
  Yes (next_number 256 (node w p).counter t),
  with_store (with_node (with_transaction w t (is_numbered p (next_number 256 (node w p).counter t) (has_yes p (node w p).seen x))) p (counted (next_number 256 (node w p).counter t) (node w p))) store,
)
yes w t p x store false = (Yes 0, with_store (with_transaction w t (has_yes p (node w p).seen x)) store)

-- Places are set aside for the keys that t writes at p, in ascending order, for all or for none.
abbrev pub vote_by_places : World → ℕ → ℕ → Transaction → Result (Unit {0}) ℕ → Outcome
vote_by_places w t p x (Ok done) = yes w t p x (all_aside w.store p (written_at w x p)) (is_write_node w x p)
vote_by_places w t p x (Err key) = (NoPlace key, with_transaction w t (has_no p x))

abbrev pub vote : FreeRule → World → ℕ → ℕ → Transaction → Option ℕ → Outcome
vote free w t p x (Some key) = (NoOvertaken key, with_transaction w t (has_no p x))
vote free w t p x None = vote_by_places w t p x (first_refused free w.store p (written_at w x p))

-- Prepare (t, p).
abbrev pub prepare_call : FreeRule → World → ℕ → ℕ → Outcome
prepare_call free w t p =
    check (is_begun w t) w NoSuchTransaction
    (check (is_node w p) w NoSuchNode
    (check (may Prepare (transaction w t)) w WrongState
    (check (bit (transaction w t).polled p) w NotPolled
    (check (not (marked (transaction w t).voted p)) w AlreadyDone
    (check (not (busy w t p)) w Busy
    (vote free w t p (transaction w t) (overtaken_key w (transaction w t) p)))))))
