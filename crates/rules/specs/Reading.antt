-- Reading and writing.
use Rattle.std.specs.Prelude.{ℕ, Bool, true, cond, ◌&&◌, ◌||◌, List, [], ◌∷◌, Some, None, fold, Option, ◌==◌, nat_le, nat_lt, slice_index_or, slice_set}
use Rattle.calls.specs.declared.answer.Answer.TheVariants.{Done, Found}
use Rattle.calls.specs.declared.refusal.Refusal.TheVariants.{NoSuchTransaction, NoSuchNode, NoSuchKey, KeyNotHeld, WrongState, NotYet, Overtaken, TooManyKeysRead, TooManyKeysWritten}
use Rattle.clock.specs.Clocks.{slot, join, marked, passes}
use Rattle.store.specs.declared.Version.{Version}
use Rattle.store.specs.Model.{first_version}
use Rattle.rules.specs.declared.records.Kind.{Kind}
use Rattle.rules.specs.declared.records.Kind.TheVariants.{Search, Update}
use Rattle.rules.specs.declared.records.Event.TheVariants.{Read, Write}
use Rattle.rules.specs.declared.records.Transaction.{Transaction}
use Rattle.rules.specs.World.{World, Outcome, check, zero_clock, is_begun, is_node, is_key, holds, node, transaction, with_transaction, noted, wrote, how_many}
use Rattle.rules.specs.Changes.{may, has_read, has_noted, has_written}

-- The commit clock of a version's writer. That of the first version, whose writer is 0, is zero.
abbrev pub commit_clock : World → ℕ → List ℕ
commit_clock w writer = cond (writer == 0) zero_clock (transaction w writer).commit

-- One more transaction: where it is applied at p and its commit clock passes, that clock is joined in.
abbrev pub with_passing : List Bool → List ℕ → ℕ → List ℕ → Transaction → List ℕ
with_passing read clock p joined u = cond (marked u.applied p && passes read u.commit clock) (join joined u.commit) joined

-- The clock of x after a read at p. At its first read there, it takes in the commit clocks of all updates applied at p that pass.
unfoldable pub clock_after : World → Transaction → ℕ → List ℕ
clock_after w x p = cond (marked x.read p) x.clock (fold (with_passing x.read x.clock p) x.clock w.transactions)

-- A version passes after that read.
abbrev pub version_passes : World → Transaction → ℕ → Version → Bool
version_passes w x p v = passes (slice_set x.read p true) (commit_clock w v.writer) (clock_after w x p)

-- The newest version of a chain that passes. The first version stands at the end of every chain and passes always.
unfoldable pub newest_passing : (Version → Bool) → List Version → Version
newest_passing test [] = first_version
newest_passing test (v ∷ older) = cond (test v) v (newest_passing test older)

-- The newest version of a chain passes itself.
abbrev pub newest_passes : (Version → Bool) → List Version → Bool
newest_passes test [] = true
newest_passes test (v ∷ older) = test v

abbrev pub visible : World → Transaction → ℕ → ℕ → Version
visible w x k p = newest_passing (version_passes w x p) (w.store p k).versions

-- There is room to note k: it is noted already, or fewer than eight keys are.
abbrev pub can_note : Transaction → ℕ → Bool
can_note x k = noted x k || nat_lt (how_many x.noted) 8

-- A read that is not put off. A Search takes what it sees; for an update that must be the newest version there, and the update notes it.
abbrev pub read_by : World → ℕ → ℕ → ℕ → Transaction → Kind → Outcome
read_by w t k p x Search = (Found (visible w x k p).value (visible w x k p).writer, with_transaction w t (has_read p (clock_after w x p) x))
read_by w t k p x Update =
    check (newest_passes (version_passes w x p) (w.store p k).versions) w Overtaken
    (check (can_note x k) w TooManyKeysRead
    (Found (visible w x k p).value (visible w x k p).writer, with_transaction w t (has_noted k (visible w x k p).writer (has_read p (clock_after w x p) x))))

-- Where t has written k it gets its own value, with its own number. Else the read is put off while t's slot for p is above p's frontier.
abbrev pub read_open : World → ℕ → ℕ → ℕ → Transaction → Option ℕ → Outcome
read_open w t k p x (Some value) = (Found value t, w)
read_open w t k p x None = check (nat_le (slot x.clock p) (node w p).frontier) w NotYet (read_by w t k p x x.kind)

-- Read (t, k, p).
abbrev pub read_call : World → ℕ → ℕ → ℕ → Outcome
read_call w t k p =
    check (is_begun w t) w NoSuchTransaction
    (check (is_node w p) w NoSuchNode
    (check (is_key w k) w NoSuchKey
    (check (holds w p k) w KeyNotHeld
    (check (may Read (transaction w t)) w WrongState
    (read_open w t k p (transaction w t) (slice_index_or (transaction w t).written k None))))))

-- Write (t, k, value): of at most eight keys.
abbrev pub write_call : World → ℕ → ℕ → ℕ → Outcome
write_call w t k value =
    check (is_begun w t) w NoSuchTransaction
    (check (is_key w k) w NoSuchKey
    (check (may Write (transaction w t)) w WrongState
    (check (wrote (transaction w t) k || nat_lt (how_many (transaction w t).written) 8) w TooManyKeysWritten
    (Done, with_transaction w t (has_written k value (transaction w t))))))
