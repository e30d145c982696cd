-- A decide that is refused for outstanding votes changes nothing.
use Rattle.std.proofs.Common.{rules, ◌≡◌, ℕ}
use Rattle.calls.specs.declared.answer.Answer.TheVariants.{Refused}
use Rattle.calls.specs.declared.refusal.Refusal.TheVariants.{VotesOutstanding}
use Rattle.rules.specs.World.{World}
use Rattle.rules.specs.Deciding.{decide_call}

pub refused_keeps : (w after : World) (t : ℕ) → (Refused VotesOutstanding, after) ≡ decide_call w t → after ≡ w
refused_keeps w after t said = search rules
