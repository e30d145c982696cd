-- The records of a tape, one after the other, and what is promised after the accepted make.
use Rattle.std.proofs.Common.{◌≡◌, ℕ, Bool, true, false, cond, List, [], ◌∷◌, ◌++◌, length, Some, None, Ok, Err, Option, sym, refl, ap, ◌∙◌, subst, arith}
use Rattle.std.proofs.lemmas.Bool.Decides.{nat_tests}
use Rattle.calls.specs.declared.answer.Answer.{Answer}
use Rattle.calls.specs.declared.answer.Answer.TheVariants.{Done, Refused}
use Rattle.calls.specs.declared.refusal.Refusal.TheVariants.{MakeOutOfBounds}
use Rattle.calls.specs.declared.call.Call.TheVariants.{Make}
use Rattle.calls.specs.Requests.{Request, make, begin, read, write, offer, prepare, decide, cancel, learn, apply, finish}
use Rattle.tape.specs.declared.record.Record.{Record}
use Rattle.tape.specs.Reading.{Content, Entry, read_tape}
use Rattle.tape.specs.Trips.{said, requests_in}
use Rattle.listing.specs.declared.line.Line.{Line}
use Rattle.store.specs.Model.{FreeRule}
use Rattle.rules.specs.World.{World}
use Rattle.rules.specs.Steps.{can_make, made_world, step, world_after}
use Rattle.rules.specs.Transcript.{Transcript, transcript_on}
use Rattle.rules.specs.Promises.{Promises}
use Rattle.rules.proofs.Good.{promises_kept}
use Rattle.runner.specs.Running.{UnitOutcome, on_content, lines_from, world_from, lines_of, world_of_tape, Accepted, accepted_or, accepted_at, made_by, call_on, calls_on, listed_or, listed_at, listed_calls, Kept, Told, RecordsRun, TapeRun, TapeTold}

-- ── One record more ──

lines_push : (free : FreeRule) (u : Option World) (es : List Entry) (e : Entry)
    → lines_from free u (es ++ e ∷ []) ≡ lines_from free u es ++ record { place = e.0; answer = (on_content free (world_from free u es) e.1).0 } ∷ []
unfolding lines_from world_from
lines_push free u [] e = refl
lines_push free u (x ∷ es) e = ap (λ (l : List Line). record { place = x.0; answer = (on_content free u x.1).0 } ∷ l) (lines_push free (on_content free u x.1).1 es e)

world_push : (free : FreeRule) (u : Option World) (es : List Entry) (e : Entry) → world_from free u (es ++ e ∷ []) ≡ (on_content free (world_from free u es) e.1).1
unfolding world_from
world_push free u [] e = refl
world_push free u (x ∷ es) e = world_push free (on_content free u x.1).1 es e

pub none_yet : (free : FreeRule) (lines : List Line) → lines ≡ [] → RecordsRun free [] lines None
unfolding lines_from world_from
none_yet free lines none = record { listed = none; world = refl }

module _ (free : FreeRule) (es : List Entry) (lines : List Line) (now after : Option World) (so_far : RecordsRun free es lines now) where
  pub one_more : (e : Entry) (a : Answer) (more : List Line) → more ≡ lines ++ record { place = e.0; answer = a } ∷ [] → (a, after) ≡ on_content free now e.1 → RecordsRun free (es ++ e ∷ []) more after
  one_more e a more pushed is =
      let there : on_content free now e.1 ≡ on_content free (world_from free None es) e.1 = ap (λ (u : Option World). on_content free u e.1) so_far.world in
      record {
        listed = pushed ∙ (ap (λ (l : List Line). l ++ record { place = e.0; answer = a } ∷ []) so_far.listed
            ∙ (ap (λ (o : UnitOutcome). lines_from free None es ++ record { place = e.0; answer = o.0 } ∷ []) (is ∙ there) ∙ sym (lines_push free None es e)));
        world = ap (λ (o : UnitOutcome). o.1) (is ∙ there) ∙ sym (world_push free None es e);
      }

-- What stands past the end of a list of records, to the prover.
abbrev pub no_record : Record
no_record = record { place = 0; content = Ok (Make 0 0 (record { ref_ptr = (0, 0); now = [] })) }

-- ── The accepted make, and the requests after it ──

world_on : (free : FreeRule) (w : World) (content : Content) (es : List Entry) → ((v : World) → world_from free (Some v) es ≡ Some (world_after free v (requests_in es)))
    → world_from free (on_content free (Some w) content).1 es ≡ Some (world_after free w (said content ++ requests_in es))
unfolding world_after
world_on free w (Ok r) es later = later (step free w r).1
world_on free w (Err refusal) es later = later w

world_later : (free : FreeRule) (es : List Entry) (w : World) → world_from free (Some w) es ≡ Some (world_after free w (requests_in es))
unfolding world_from world_after
world_later free [] w = refl
world_later free (e ∷ es) w = world_on free w e.1 es (world_later free es)

-- The lines give the answers of the transcript.
calls_with : (free : FreeRule) (content : Content) (es : List Entry) (w : World) (earlier : Transcript)
    → ((v : World) (before : Transcript) → calls_on es (lines_from free (Some v) es) before ≡ transcript_on free v (requests_in es) before)
    → calls_on es (lines_from free (on_content free (Some w) content).1 es) (call_on content (on_content free (Some w) content).0 earlier) ≡ transcript_on free w (said content ++ requests_in es) earlier
unfolding transcript_on
calls_with free (Ok r) es w earlier behind = behind (step free w r).1 ((r, (step free w r).0) ∷ earlier)
calls_with free (Err refusal) es w earlier behind = behind w earlier

calls_later : (free : FreeRule) (es : List Entry) (w : World) (earlier : Transcript) → calls_on es (lines_from free (Some w) es) earlier ≡ transcript_on free w (requests_in es) earlier
unfolding lines_from transcript_on
calls_later free [] w earlier = refl
calls_later free (e ∷ es) w earlier = calls_with free e.1 es w earlier (calls_later free es)

-- What is promised of the unit, and of what the lines tell, beside one another.
abbrev KeptTold : FreeRule → Option Accepted → Transcript → Option World → Type 0
KeptTold free accepted calls unit = Kept free accepted unit × Told free accepted calls

module _ (free : FreeRule) (es : List Entry) (later : KeptTold free (made_by es) (listed_calls es (lines_from free None es)) (world_from free None es)) where
  kept_make : (nodes keys : ℕ) (placement : List ℕ) (fits : Bool) → can_make nodes keys placement ≡ fits
      → KeptTold free (cond fits (Some (record { nodes = nodes; placement = placement; requests = requests_in es })) (made_by es))
      (cond fits (calls_on es (lines_from free (cond {A = UnitOutcome} fits (Done, Some (made_world nodes placement)) (Refused MakeOutOfBounds, None)).1 es) []) (listed_calls es (lines_from free (cond {A = UnitOutcome} fits (Done, Some (made_world nodes placement)) (Refused MakeOutOfBounds, None)).1 es)))
      (world_from free (cond {A = UnitOutcome} fits (Done, Some (made_world nodes placement)) (Refused MakeOutOfBounds, None)).1 es)
  kept_make nodes keys placement true is =
      let as_many : can_make nodes (length placement) placement ≡ true = grind (arith, nat_tests) in
      let told = calls_later free es (made_world nodes placement) [] in
      let kept = promises_kept free nodes placement as_many (requests_in es) in (
        record { world = world_later free es (made_world nodes placement); promises = kept },
        record {
          calls_are = told;
          promises = subst (λ (calls : Transcript). Promises free calls (world_after free (made_world nodes placement) (requests_in es))) (sym told) kept;
        },
      )
  kept_make nodes keys placement false is = later

  kept_or : (r : Request) → KeptTold free (accepted_or r (requests_in es) (made_by es))
      (listed_or r (calls_on es (lines_from free (on_content free None (Ok r)).1 es) []) (listed_calls es (lines_from free (on_content free None (Ok r)).1 es)))
      (world_from free (on_content free None (Ok r)).1 es)
  kept_or (make nodes keys placement) = kept_make nodes keys placement (can_make nodes keys placement) refl
  kept_or (begin mode) = later
  kept_or (read t k p) = later
  kept_or (write t k value) = later
  kept_or (offer t) = later
  kept_or (prepare t p) = later
  kept_or (decide t) = later
  kept_or (cancel t) = later
  kept_or (learn t p) = later
  kept_or (apply p) = later
  kept_or (finish t) = later

  kept_at : (content : Content) → KeptTold free (accepted_at content (requests_in es) (made_by es))
      (listed_at content (calls_on es (lines_from free (on_content free None content).1 es) []) (listed_calls es (lines_from free (on_content free None content).1 es)))
      (world_from free (on_content free None content).1 es)
  kept_at (Ok r) = kept_or r
  kept_at (Err refusal) = later

pub kept : (free : FreeRule) (es : List Entry) → KeptTold free (made_by es) (listed_calls es (lines_of free es)) (world_of_tape free es)
unfolding world_from lines_from
kept free [] = (refl, tt)
kept free (e ∷ es) = kept_at free es (kept free es) e.1

-- A whole tape.
pub tape_run : (free : FreeRule) (tape : List ℕ) (entries : List Entry) (lines : List Line) (unit : Option World) → entries ≡ read_tape tape → RecordsRun free entries lines unit → TapeRun free tape lines unit
tape_run free tape entries lines unit is done =
    let run : RecordsRun free (read_tape tape) lines unit = subst (λ (es : List Entry). RecordsRun free es lines unit) is done in
    record { run = run; kept = subst (λ (u : Option World). Kept free (made_by (read_tape tape)) u) (sym run.world) (kept free (read_tape tape)).0 }

-- What its lines tell.
pub tape_told : (free : FreeRule) (tape : List ℕ) (entries : List Entry) (lines : List Line) (unit : Option World) → entries ≡ read_tape tape → RecordsRun free entries lines unit → TapeTold free tape lines
tape_told free tape entries lines unit is done =
    let run : RecordsRun free (read_tape tape) lines unit = subst (λ (es : List Entry). RecordsRun free es lines unit) is done in
    subst (λ (ls : List Line). Told free (made_by (read_tape tape)) (listed_calls (read_tape tape) ls)) (sym run.listed) (kept free (read_tape tape)).1
