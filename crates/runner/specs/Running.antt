-- A tape that is run on a new unit: what each record is answered, and what is promised of the whole.
use Rattle.std.specs.Prelude.{◌≡◌, ℕ, Bool, false, cond, List, [], ◌∷◌, Some, None, Ok, Err, Option}
use Rattle.calls.specs.declared.answer.Answer.{Answer}
use Rattle.calls.specs.declared.answer.Answer.TheVariants.{Done, Refused}
use Rattle.calls.specs.declared.refusal.Refusal.TheVariants.{MakeOutOfBounds, MakeOutOfOrder}
use Rattle.calls.specs.Requests.{Request, make, begin, read, write, offer, prepare, decide, cancel, learn, apply, finish}
use Rattle.tape.specs.Reading.{Content, Entry, read_tape}
use Rattle.tape.specs.Trips.{requests_in}
use Rattle.listing.specs.declared.line.Line.{Line}
use Rattle.store.specs.Model.{FreeRule}
use Rattle.rules.specs.World.{World}
use Rattle.rules.specs.Steps.{can_make, made_world, step, world_after}
use Rattle.rules.specs.Transcript.{Transcript, transcript}
use Rattle.rules.specs.Promises.{Promises}

-- ── One record ──

-- The world of a unit: there is none until its catalogue is made. A record gives an answer and the unit's world after it.
abbrev pub UnitOutcome : Type 0
UnitOutcome = Answer × Option World

-- A make where no catalogue is made.
abbrev pub make_first : ℕ → ℕ → List ℕ → UnitOutcome
make_first nodes keys placement =
    cond (can_make nodes keys placement) (Done, Some (made_world nodes placement)) (Refused MakeOutOfBounds, None)

-- Any request there: nothing but a make is carried out.
abbrev pub too_early : UnitOutcome
too_early = (Refused MakeOutOfOrder, None)

abbrev pub first_step : Request → UnitOutcome
first_step (make nodes keys placement) = make_first nodes keys placement
first_step (begin mode) = too_early
first_step (read t k p) = too_early
first_step (write t k value) = too_early
first_step (offer t) = too_early
first_step (prepare t p) = too_early
first_step (decide t) = too_early
first_step (cancel t) = too_early
first_step (learn t p) = too_early
first_step (apply p) = too_early
first_step (finish t) = too_early

-- A make that can be made. No other request to a unit takes memory.
abbrev pub can_be_made : Request → Bool
can_be_made (make nodes keys placement) = can_make nodes keys placement
can_be_made (begin mode) = false
can_be_made (read t k p) = false
can_be_made (write t k value) = false
can_be_made (offer t) = false
can_be_made (prepare t p) = false
can_be_made (decide t) = false
can_be_made (cancel t) = false
can_be_made (learn t p) = false
can_be_made (apply p) = false
can_be_made (finish t) = false

-- A record that makes the catalogue of a unit.
abbrev pub makes_catalogue : Option World → Content → Bool
makes_catalogue None (Ok request) = can_be_made request
makes_catalogue None (Err refusal) = false
makes_catalogue (Some w) content = false

-- Any request to a unit. Where its catalogue is made, the catalogue answers; it refuses a second make as one out of order.
abbrev pub unit_step : FreeRule → Option World → Request → UnitOutcome
unit_step free None request = first_step request
unit_step free (Some w) request = ((step free w request).0, Some (step free w request).1)

-- A record that the reader refused is answered by that refusal, and changes nothing.
abbrev pub on_content : FreeRule → Option World → Content → UnitOutcome
on_content free unit (Ok request) = unit_step free unit request
on_content free unit (Err refusal) = (Refused refusal, unit)

-- ── A list of records ──

-- For each record a line with its place and its answer.
unfoldable pub lines_from : FreeRule → Option World → List Entry → List Line
lines_from free unit [] = []
lines_from free unit (e ∷ es) =
    record { place = e.0; answer = (on_content free unit e.1).0 } ∷ lines_from free (on_content free unit e.1).1 es

-- The unit's world after all of them.
unfoldable pub world_from : FreeRule → Option World → List Entry → Option World
world_from free unit [] = unit
world_from free unit (e ∷ es) = world_from free (on_content free unit e.1).1 es

-- The same on a new unit.
abbrev pub lines_of : FreeRule → List Entry → List Line
lines_of free entries = lines_from free None entries

abbrev pub world_of_tape : FreeRule → List Entry → Option World
world_of_tape free entries = world_from free None entries

-- ── The calls after the accepted make ──

-- The make that was accepted, and the requests of the records after it.
pub record Accepted : Type 0 where
  pub nodes : ℕ
  pub placement : List ℕ
  pub requests : List Request

-- The accepted make, if this request is one; else that of the records behind it.
abbrev pub accepted_or : Request → List Request → Option Accepted → Option Accepted
accepted_or (make nodes keys placement) requests later =
    cond (can_make nodes keys placement) (Some (record { nodes = nodes; placement = placement; requests = requests })) later
accepted_or (begin mode) requests later = later
accepted_or (read t k p) requests later = later
accepted_or (write t k value) requests later = later
accepted_or (offer t) requests later = later
accepted_or (prepare t p) requests later = later
accepted_or (decide t) requests later = later
accepted_or (cancel t) requests later = later
accepted_or (learn t p) requests later = later
accepted_or (apply p) requests later = later
accepted_or (finish t) requests later = later

abbrev pub accepted_at : Content → List Request → Option Accepted → Option Accepted
accepted_at (Ok request) requests later = accepted_or request requests later
accepted_at (Err refusal) requests later = later

-- The first make of a tape that can be made is accepted. The requests after it are those of all records behind it that can be read.
abbrev pub made_by : List Entry → Option Accepted
made_by [] = None
made_by (e ∷ es) = accepted_at e.1 (requests_in es) (made_by es)

-- ── The answers on the lines ──

-- The calls of some records with the answers on their lines, behind earlier ones, the newest first. What the reader refused is no call.
abbrev pub call_on : Content → Answer → Transcript → Transcript
call_on (Ok request) answer earlier = (request, answer) ∷ earlier
call_on (Err refusal) answer earlier = earlier

abbrev pub calls_on : List Entry → List Line → Transcript → Transcript
calls_on [] lines earlier = earlier
calls_on (e ∷ es) [] earlier = earlier
calls_on (e ∷ es) (line ∷ lines) earlier = calls_on es lines (call_on e.1 line.answer earlier)

-- Those of the records behind the accepted make.
abbrev pub listed_or : Request → Transcript → Transcript → Transcript
listed_or (make nodes keys placement) behind later = cond (can_make nodes keys placement) behind later
listed_or (begin mode) behind later = later
listed_or (read t k p) behind later = later
listed_or (write t k value) behind later = later
listed_or (offer t) behind later = later
listed_or (prepare t p) behind later = later
listed_or (decide t) behind later = later
listed_or (cancel t) behind later = later
listed_or (learn t p) behind later = later
listed_or (apply p) behind later = later
listed_or (finish t) behind later = later

abbrev pub listed_at : Content → Transcript → Transcript → Transcript
listed_at (Ok request) behind later = listed_or request behind later
listed_at (Err refusal) behind later = later

abbrev pub listed_calls : List Entry → List Line → Transcript
listed_calls [] lines = []
listed_calls (e ∷ es) [] = []
listed_calls (e ∷ es) (line ∷ lines) = listed_at e.1 (calls_on es lines []) (listed_calls es lines)

-- ── What is promised of a run ──

-- Where a make was accepted, the unit ends in the world that the requests after it lead to, and every promise is kept of these requests
-- and their answers. Where none was, no catalogue is made.
pub record KeptAfter (free : FreeRule) (accepted : Accepted) (unit : Option World) : Type 0 where
  pub world : unit ≡ Some (world_after free (made_world accepted.nodes accepted.placement) accepted.requests)
  pub promises : Promises free (transcript free (made_world accepted.nodes accepted.placement) accepted.requests) (world_after free (made_world accepted.nodes accepted.placement) accepted.requests)

abbrev pub Kept : FreeRule → Option Accepted → Option World → Type 0
Kept free None unit = unit ≡ None
Kept free (Some accepted) unit = KeptAfter free accepted unit

-- Where a make was accepted, the requests after it with the answers that their lines give are the calls of the rules, and every promise is
-- kept of them.
pub record ToldAfter (free : FreeRule) (accepted : Accepted) (calls : Transcript) : Type 0 where
  pub calls_are : calls ≡ transcript free (made_world accepted.nodes accepted.placement) accepted.requests
  pub promises : Promises free calls (world_after free (made_world accepted.nodes accepted.placement) accepted.requests)

abbrev pub Told : FreeRule → Option Accepted → Transcript → Type 0
Told free None calls = Unit {0}
Told free (Some accepted) calls = ToldAfter free accepted calls

-- Some records were run on a new unit: the lines are those of the definition, and so is the world after them.
pub record RecordsRun (free : FreeRule) (entries : List Entry) (lines : List Line) (unit : Option World) : Type 0 where
  pub listed : lines ≡ lines_of free entries
  pub world : unit ≡ world_of_tape free entries

-- The same of the records that are read of the bytes of a tape, with every promise that is kept of such a run.
pub record TapeRun (free : FreeRule) (tape : List ℕ) (lines : List Line) (unit : Option World) : Type 0 where
  pub run : RecordsRun free (read_tape tape) lines unit
  pub kept : Kept free (made_by (read_tape tape)) unit

-- The lines of a tape tell of calls for which every promise is kept.
abbrev pub TapeTold : FreeRule → List ℕ → List Line → Type 0
TapeTold free tape lines = Told free (made_by (read_tape tape)) (listed_calls (read_tape tape) lines)

-- ── The unit of the program ──

-- The rule by which a unit's store counts its free places. Any rule will do where no catalogue is made: none is used.
abbrev pub CountsBy : {C : Type 0} → (C → FreeRule) → FreeRule → Option C → Type 0
CountsBy rule free None = Unit {0}
CountsBy rule free (Some catalogue) = rule catalogue ≡ free
