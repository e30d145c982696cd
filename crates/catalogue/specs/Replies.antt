-- The answers that the results of the calls stand for.
use Rattle.std.specs.Prelude.{ℕ, Ok, Err, Result}
use Rattle.calls.specs.declared.answer.Answer.{Answer}
use Rattle.calls.specs.declared.answer.Answer.TheVariants.{Done, Begun, Found, Polled, Yes, NoOvertaken, NoPlace, Committed, Aborted, Applied, Refused}
use Rattle.calls.specs.declared.refusal.Refusal.{Refusal}
use Rattle.catalogue.specs.declared.vote.Vote.{Vote}
use Rattle.catalogue.specs.declared.vote.Vote.TheVariants.{Yes as VoteYes, NoOvertaken as VoteOvertaken, NoPlace as VoteNoPlace}
use Rattle.catalogue.specs.declared.decision.Decision.{Decision}
use Rattle.catalogue.specs.declared.decision.Decision.TheVariants.{Committed as commits, Aborted as aborts}

abbrev pub begun : Result ℕ Refusal → Answer
begun (Ok t) = Begun t
begun (Err refusal) = Refused refusal

abbrev pub done : Result (Unit {0}) Refusal → Answer
done (Ok unit) = Done
done (Err refusal) = Refused refusal

abbrev pub found : Result (ℕ × ℕ) Refusal → Answer
found (Ok version) = Found version.0 version.1
found (Err refusal) = Refused refusal

abbrev pub polled : Result ℕ Refusal → Answer
polled (Ok nodes) = Polled nodes
polled (Err refusal) = Refused refusal

abbrev pub applied : Result ℕ Refusal → Answer
applied (Ok t) = Applied t
applied (Err refusal) = Refused refusal

abbrev pub vote_answer : Vote → Answer
vote_answer (VoteYes number) = Yes number
vote_answer (VoteOvertaken key) = NoOvertaken key
vote_answer (VoteNoPlace key) = NoPlace key

abbrev pub voted : Result Vote Refusal → Answer
voted (Ok vote) = vote_answer vote
voted (Err refusal) = Refused refusal

abbrev pub decision_answer : Decision → Answer
decision_answer (commits stamp) = Committed stamp
decision_answer aborts = Aborted

abbrev pub decided : Result Decision Refusal → Answer
decided (Ok decision) = decision_answer decision
decided (Err refusal) = Refused refusal
