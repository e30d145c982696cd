-- The changes of a transaction's record, each named by what has happened to it; and in which state it may be asked what.
use Rattle.std.specs.Prelude.{ℕ, Bool, true, false, cond, ◌&&◌, ◌||◌, List, Some, slice_set}
use Rattle.clock.specs.Clocks.{join}
use Rattle.rules.specs.declared.records.Kind.{Kind}
use Rattle.rules.specs.declared.records.Kind.TheVariants.{Search, Update}
use Rattle.rules.specs.declared.records.State.{State}
use Rattle.rules.specs.declared.records.State.TheVariants.{Open, Offered, Committed, Aborted, Finished}
use Rattle.rules.specs.declared.records.Event.{Event}
use Rattle.rules.specs.declared.records.Event.TheVariants.{Read, Write, Offer, Prepare, Decide, Cancel, Learn, Finish}
use Rattle.rules.specs.declared.records.Transaction.{Transaction}
use Rattle.rules.specs.World.{noted}

abbrev pub is_update : Kind → Bool
is_update Search = false
is_update Update = true

abbrev pub is_search : Kind → Bool
is_search Search = true
is_search Update = false

abbrev pub is_open : State → Bool
is_open Open = true
is_open Offered = false
is_open Committed = false
is_open Aborted = false
is_open Finished = false

abbrev pub is_offered : State → Bool
is_offered Open = false
is_offered Offered = true
is_offered Committed = false
is_offered Aborted = false
is_offered Finished = false

abbrev pub is_decided : State → Bool
is_decided Open = false
is_decided Offered = false
is_decided Committed = true
is_decided Aborted = true
is_decided Finished = false

-- The state that each call needs: a read an open transaction; write and offer an open update; prepare and decide an offered one;
-- cancel an open or offered update; learn a committed or aborted one; finish an open Search.
abbrev pub allowed : Event → Kind → State → Bool
allowed Read kind state = is_open state
allowed Write kind state = is_update kind && is_open state
allowed Offer kind state = is_update kind && is_open state
allowed Prepare kind state = is_offered state
allowed Decide kind state = is_offered state
allowed Cancel kind state = is_update kind && (is_open state || is_offered state)
allowed Learn kind state = is_decided state
allowed Finish kind state = is_search kind && is_open state

abbrev pub may : Event → Transaction → Bool
may event x = allowed event x.kind x.state

-- Its state changes.
abbrev pub becomes : State → Transaction → Transaction
becomes state x = record x { state = state }

-- It has read at p, with this clock after.
abbrev pub has_read : ℕ → List ℕ → Transaction → Transaction
has_read p clock x = record x { clock = clock; read = slice_set x.read p true }

-- An update has read k from a version by this writer. It notes the writer once a key.
abbrev pub has_noted : ℕ → ℕ → Transaction → Transaction
has_noted k writer x = record x { noted = cond (noted x k) x.noted (slice_set x.noted k (Some writer)) }

-- It holds this value for k, in place of an earlier one.
abbrev pub has_written : ℕ → ℕ → Transaction → Transaction
has_written k value x = record x { written = slice_set x.written k (Some value) }

-- It is offered, and polls the nodes of this byte.
abbrev pub is_now_offered : ℕ → Transaction → Transaction
is_now_offered polled x = record x { state = Offered; polled = polled }

-- Node p has voted no.
abbrev pub has_no : ℕ → Transaction → Transaction
has_no p x = record x { voted = slice_set x.voted p true; refused = true }

-- Node p has voted yes; its vote carries its seen clock.
abbrev pub has_yes : ℕ → List ℕ → Transaction → Transaction
has_yes p seen x = record x { voted = slice_set x.voted p true; engaged = slice_set x.engaged p true; votes = join x.votes seen }

-- Its number at p.
abbrev pub is_numbered : ℕ → ℕ → Transaction → Transaction
is_numbered p number x = record x { numbers = slice_set x.numbers p number }

-- It is committed, with this stamp and this commit clock.
abbrev pub is_committed : ℕ → List ℕ → Transaction → Transaction
is_committed stamp commit x = record x { state = Committed; stamp = stamp; commit = commit }

-- Node p has learned its decision.
abbrev pub is_learned : ℕ → Transaction → Transaction
is_learned p x = record x { learned = slice_set x.learned p true }

-- Node p has released it.
abbrev pub is_released : ℕ → Transaction → Transaction
is_released p x = record x { engaged = slice_set x.engaged p false }

-- Node p has applied it.
abbrev pub is_applied : ℕ → Transaction → Transaction
is_applied p x = record x { applied = slice_set x.applied p true }
