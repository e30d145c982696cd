-- A whole run: the answers, the world after, and what is promised of both.
use Rattle.std.specs.Prelude.{◌≡◌, ℕ, true, List}
use Rattle.calls.specs.declared.answer.Answer.{Answer}
use Rattle.calls.specs.Requests.{Request}
use Rattle.store.specs.Model.{FreeRule}
use Rattle.rules.specs.World.{World}
use Rattle.rules.specs.Steps.{can_make, made_world, answers_of, world_after}
use Rattle.rules.specs.Transcript.{transcript}
use Rattle.rules.specs.Promises.{Promises}

-- The answers to a list of calls made in a world, and the world after them, are those of the rules.
pub record Performed (free : FreeRule) (w : World) (requests : List Request) (answers : List Answer) (after : World) : Type 0 where
  pub answered : answers ≡ answers_of free w requests
  pub world : after ≡ world_after free w requests

-- The same of a catalogue that was freshly made, with every promise that is kept of such a run.
pub record Ran (free : FreeRule) (nodes keys : ℕ) (placement : List ℕ) (requests : List Request) (answers : List Answer) (after : World) : Type 0 where
  pub made : can_make nodes keys placement ≡ true
  pub performed : Performed free (made_world nodes placement) requests answers after
  pub promises : Promises free (transcript free (made_world nodes placement) requests) after
