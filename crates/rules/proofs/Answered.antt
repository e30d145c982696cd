-- The transcript of some calls is made of the calls and their answers.
use Rattle.std.proofs.Common.{◌≡◌, List, [], ◌∷◌, refl}
use Rattle.calls.specs.Requests.{Request}
use Rattle.store.specs.Model.{FreeRule}
use Rattle.rules.specs.World.{World}
use Rattle.rules.specs.Steps.{step, answers_of}
use Rattle.rules.specs.Transcript.{Transcript, transcript_on, with_answers}

pub answers_told : (free : FreeRule) (w : World) (requests : List Request) (earlier : Transcript) → with_answers requests (answers_of free w requests) earlier ≡ transcript_on free w requests earlier
unfolding answers_of transcript_on
answers_told free w [] earlier = refl
answers_told free w (r ∷ rs) earlier = answers_told free (step free w r).1 rs ((r, (step free w r).0) ∷ earlier)
