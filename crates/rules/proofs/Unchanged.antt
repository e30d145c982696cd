-- A call that is refused changes nothing.
use Rattle.std.proofs.Common.{◌≡◌, Bool, true, false, arith}
use Rattle.std.proofs.lemmas.Bool.Decides.{nat_tests}
use Rattle.calls.specs.declared.answer.Answer.{Answer}
use Rattle.calls.specs.declared.answer.Answer.TheVariants.{Done, Begun, Found, Polled, Yes, NoOvertaken, NoPlace, Committed, Aborted, Applied, Refused}
use Rattle.calls.specs.declared.refusal.Refusal.{Refusal}
use Rattle.calls.specs.Requests.{Request}
use Rattle.store.specs.Model.{FreeRule}
use Rattle.rules.specs.World.{World, Outcome}
use Rattle.rules.specs.Steps.{step}

abbrev is_refused : Answer → Bool
is_refused Done = false
is_refused (Begun a) = false
is_refused (Found a b) = false
is_refused (Polled a) = false
is_refused (Yes a) = false
is_refused (NoOvertaken a) = false
is_refused (NoPlace a) = false
is_refused (Committed a) = false
is_refused Aborted = false
is_refused (Applied a) = false
is_refused (Refused a) = true

module _ (w : World) where
  record Idle (o : Outcome) : Type 0 where
    unchanged : (r : Refusal) → o.0 ≡ Refused r → o.1 ≡ w

  idle : (free : FreeRule) (request : Request) → Idle (step free w request)
  idle free request = grind (arith, nat_tests)

  pub unchanged_if_refused : (free : FreeRule) (request : Request) (r : Refusal) → (step free w request).0 ≡ Refused r → (step free w request).1 ≡ w
  unchanged_if_refused free request r e = (idle free request).unchanged r e
