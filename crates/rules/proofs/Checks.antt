-- A call that is refused changes nothing and tells nothing, so that a call is settled once its last check is passed.
use Rattle.std.proofs.Common.{◌≡◌, Bool, true, ◌⊎◌, arith}
use Rattle.std.proofs.lemmas.Bool.Decides.{nat_tests}
use Rattle.calls.specs.declared.refusal.Refusal.{Refusal}
use Rattle.calls.specs.Requests.{Request}
use Rattle.store.specs.Model.{FreeRule}
use Rattle.history.specs.Protocol.{Event, Accepted, next}
use Rattle.history.specs.History.{mark}
use Rattle.rules.specs.World.{World, Outcome, check, refuse}
use Rattle.rules.specs.Steps.{step}
use Rattle.rules.specs.Transcript as transcript
use Rattle.rules.specs.Transcript.{told}
use Rattle.rules.proofs.View.{view, placed, told_by}
use Rattle.rules.proofs.Invariant.{Invariant, GoodStep}

-- `GoodStep`, said of any outcome of a request.
pub record GoodOutcome (w : World) (request : Request) (o : Outcome) : Type 0 where
  pub same_placement : o.1.placement ≡ w.placement
  pub keeps : Invariant o.1
  pub refines :
      ((o.1 ≡ w) × (told request o.0 ≡ transcript.nothing))
      ⊎ ((e : Event) × Accepted (placed w.placement) 256 (view w) e
      × (view o.1 ≡ next (placed w.placement) (view w) e)
      × (told request o.0 ≡ told_by (mark e)))

pub good_step : (free : FreeRule) (w : World) (request : Request) → GoodOutcome w request (step free w request) → GoodStep free w request
good_step free w request good = grind (arith, nat_tests)

pub refused : (w : World) (request : Request) (refusal : Refusal) → Invariant w → GoodOutcome w request (refuse w refusal)
refused w request refusal holds = grind (arith, nat_tests)

-- What is left of a call behind a check.
pub checked : (passed : Bool) (w : World) (request : Request) (refusal : Refusal) (rest : Outcome) →
    Invariant w → (passed ≡ true → GoodOutcome w request rest) → GoodOutcome w request (check passed w refusal rest)
checked passed w request refusal rest e1 e2 = grind (arith, nat_tests)
