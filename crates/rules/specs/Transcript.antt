-- What the calls and answers of a run tell of each transaction. Everything here is taken from the calls and their answers alone.
-- A transcript, a script and an order stand with the newest first.
use Rattle.std.specs.Prelude.{ℕ, cond, List, [], ◌∷◌, ◌==◌}
use Rattle.calls.specs.declared.answer.Answer.{Answer}
use Rattle.calls.specs.declared.answer.Answer.TheVariants.{Done, Begun, Found, Polled, Yes, NoOvertaken, NoPlace, Committed, Aborted, Applied, Refused}
use Rattle.calls.specs.Requests.{Request, make, begin, read, write, offer, prepare, decide, cancel, learn, apply, finish}
use Rattle.history.specs.Table.{Version, version, Operation, get, put}
use Rattle.store.specs.Model.{FreeRule}
use Rattle.rules.specs.World.{World}
use Rattle.rules.specs.Steps.{step}

-- Each call with its answer.
abbrev pub Transcript : Type 0
Transcript = List (Request × Answer)

-- The transcript of a list of calls that are made in a world, behind an earlier transcript.
unfoldable pub transcript_on : FreeRule → World → List Request → Transcript → Transcript
transcript_on free w [] earlier = earlier
transcript_on free w (request ∷ requests) earlier = transcript_on free (step free w request).1 requests ((request, (step free w request).0) ∷ earlier)

abbrev pub transcript : FreeRule → World → List Request → Transcript
transcript free w requests = transcript_on free w requests []

-- Some calls with the answers that they got, behind an earlier transcript.
abbrev pub with_answers : List Request → List Answer → Transcript → Transcript
with_answers [] answers earlier = earlier
with_answers (request ∷ requests) [] earlier = earlier
with_answers (request ∷ requests) (answer ∷ answers) earlier = with_answers requests answers ((request, answer) ∷ earlier)

-- What one call and its answer tell.
pub data Told : Type 0 where
  began : ℕ → Told  -- transaction
  got : ℕ → ℕ → Version → Told  -- an accepted read: transaction, key, answer
  put_value : ℕ → ℕ → ℕ → Told  -- an accepted write: transaction, key, value
  decided_commit : ℕ → Told  -- decide answered commit
  applied_there : ℕ → ℕ → Told  -- apply answered this transaction: transaction, node
  nothing : Told

abbrev pub if_begun : Answer → (ℕ → Told) → Told
if_begun Done f = nothing
if_begun (Begun a) f = f a
if_begun (Found a b) f = nothing
if_begun (Polled a) f = nothing
if_begun (Yes a) f = nothing
if_begun (NoOvertaken a) f = nothing
if_begun (NoPlace a) f = nothing
if_begun (Committed a) f = nothing
if_begun Aborted f = nothing
if_begun (Applied a) f = nothing
if_begun (Refused a) f = nothing

abbrev pub if_found : Answer → (ℕ → ℕ → Told) → Told
if_found Done f = nothing
if_found (Begun a) f = nothing
if_found (Found a b) f = f a b
if_found (Polled a) f = nothing
if_found (Yes a) f = nothing
if_found (NoOvertaken a) f = nothing
if_found (NoPlace a) f = nothing
if_found (Committed a) f = nothing
if_found Aborted f = nothing
if_found (Applied a) f = nothing
if_found (Refused a) f = nothing

abbrev pub if_done : Answer → Told → Told
if_done Done x = x
if_done (Begun a) x = nothing
if_done (Found a b) x = nothing
if_done (Polled a) x = nothing
if_done (Yes a) x = nothing
if_done (NoOvertaken a) x = nothing
if_done (NoPlace a) x = nothing
if_done (Committed a) x = nothing
if_done Aborted x = nothing
if_done (Applied a) x = nothing
if_done (Refused a) x = nothing

abbrev pub if_committed : Answer → Told → Told
if_committed Done x = nothing
if_committed (Begun a) x = nothing
if_committed (Found a b) x = nothing
if_committed (Polled a) x = nothing
if_committed (Yes a) x = nothing
if_committed (NoOvertaken a) x = nothing
if_committed (NoPlace a) x = nothing
if_committed (Committed a) x = x
if_committed Aborted x = nothing
if_committed (Applied a) x = nothing
if_committed (Refused a) x = nothing

abbrev pub if_applied : Answer → (ℕ → Told) → Told
if_applied Done f = nothing
if_applied (Begun a) f = nothing
if_applied (Found a b) f = nothing
if_applied (Polled a) f = nothing
if_applied (Yes a) f = nothing
if_applied (NoOvertaken a) f = nothing
if_applied (NoPlace a) f = nothing
if_applied (Committed a) f = nothing
if_applied Aborted f = nothing
if_applied (Applied a) f = f a
if_applied (Refused a) f = nothing

-- A refused call tells nothing.
abbrev pub told : Request → Answer → Told
told (make nodes keys placement) answer = nothing
told (begin mode) answer = if_begun answer (λ t. began t)
told (read t k p) answer = if_found answer (λ v writer. got t k (version v writer))
told (write t k value) answer = if_done answer (put_value t k value)
told (offer t) answer = nothing
told (prepare t p) answer = nothing
told (decide t) answer = if_committed answer (decided_commit t)
told (cancel t) answer = nothing
told (learn t p) answer = nothing
told (apply p) answer = if_applied answer (λ t. applied_there t p)
told (finish t) answer = nothing

-- The script of t: its accepted reads and writes, in the order of the calls.
abbrev pub add_operation : Told → ℕ → List Operation → List Operation
add_operation (began u) t l = l
add_operation (got u k a) t l = cond (u == t) (get k ∷ l) l
add_operation (put_value u k v) t l = cond (u == t) (put k v ∷ l) l
add_operation (decided_commit u) t l = l
add_operation (applied_there u q) t l = l
add_operation nothing t l = l

abbrev pub script : Transcript → ℕ → List Operation
script [] t = []
script (x ∷ earlier) t = add_operation (told x.0 x.1) t (script earlier t)

-- The answers that t's reads got.
abbrev pub add_answer : Told → ℕ → List Version → List Version
add_answer (began u) t l = l
add_answer (got u k a) t l = cond (u == t) (a ∷ l) l
add_answer (put_value u k v) t l = l
add_answer (decided_commit u) t l = l
add_answer (applied_there u q) t l = l
add_answer nothing t l = l

abbrev pub answers_got : Transcript → ℕ → List Version
answers_got [] t = []
answers_got (x ∷ earlier) t = add_answer (told x.0 x.1) t (answers_got earlier t)

-- The committed updates, in the order in which decide answered commit.
abbrev pub add_decision : Told → List ℕ → List ℕ
add_decision (began u) l = l
add_decision (got u k a) l = l
add_decision (put_value u k v) l = l
add_decision (decided_commit u) l = u ∷ l
add_decision (applied_there u q) l = l
add_decision nothing l = l

abbrev pub decisions : Transcript → List ℕ
decisions [] = []
decisions (x ∷ earlier) = add_decision (told x.0 x.1) (decisions earlier)

-- The updates that apply answered at p, in that order.
abbrev pub add_applied : Told → ℕ → List ℕ → List ℕ
add_applied (began u) p l = l
add_applied (got u k a) p l = l
add_applied (put_value u k v) p l = l
add_applied (decided_commit u) p l = l
add_applied (applied_there u q) p l = cond (q == p) (u ∷ l) l
add_applied nothing p l = l

abbrev pub applied_at : Transcript → ℕ → List ℕ
applied_at [] p = []
applied_at (x ∷ earlier) p = add_applied (told x.0 x.1) p (applied_at earlier p)
