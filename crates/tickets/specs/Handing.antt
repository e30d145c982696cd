-- What is answered where a ticket is given out, and where one is handed in to be decided.
use Rattle.std.specs.Prelude.{ℕ, Ok, Err, Result}
use Rattle.calls.specs.declared.answer.Answer.{Answer}
use Rattle.calls.specs.declared.answer.Answer.TheVariants.{Begun, Aborted, Refused}
use Rattle.calls.specs.declared.refusal.Refusal.{Refusal}
use Rattle.calls.specs.declared.refusal.Refusal.TheVariants.{VotesOutstanding}
use Rattle.rules.specs.World.{World, Outcome}
use Rattle.rules.specs.Deciding.{decide_call, cancel_call}

-- The answer to a begin by ticket: the number of the transaction that the ticket stands for.
abbrev pub began : {Ticket : Type 0} → (Ticket → ℕ) → Result Ticket Refusal → Answer
began transaction (Ok ticket) = Begun (transaction ticket)
began transaction (Err refusal) = Refused refusal

-- In place of a decide that is refused for outstanding votes, the update is cancelled, and the answer is abort. Any other stands as it is.
abbrev pub or_cancel : World → ℕ → Outcome → Outcome
or_cancel w t (Refused VotesOutstanding, after) = (Aborted, (cancel_call w t).1)
or_cancel w t decided = decided

-- Decide by ticket.
abbrev pub decide_ticket_call : World → ℕ → Outcome
decide_ticket_call w t = or_cancel w t (decide_call w t)
