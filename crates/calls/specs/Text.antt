-- The bytes of an answer, and of a refusal.
use Rattle.std.specs.Prelude.{ℕ, List, ◌++◌, codes, decimal}
use Rattle.calls.specs.Refusals.{number}
use Rattle.calls.specs.declared.refusal.Refusal.{Refusal}
use Rattle.calls.specs.declared.answer.Answer.{Answer}
use Rattle.calls.specs.declared.answer.Answer.TheVariants.{Done, Begun, Found, Polled, Yes, NoOvertaken, NoPlace, Committed, Aborted, Applied, Refused}

-- The words of a refusal, with its number in decimal.
abbrev pub words : Refusal → List ℕ
words refusal = codes "refused " ++ decimal (number refusal)

-- The words of an answer, with its numbers in decimal.
abbrev pub text : Answer → List ℕ
text Done = codes "ok"
text (Begun t) = codes "t " ++ decimal t
text (Found value writer) = codes "value " ++ (decimal value ++ (codes " from " ++ decimal writer))
text (Polled nodes) = codes "polls " ++ decimal nodes
text (Yes n) = codes "yes " ++ decimal n
text (NoOvertaken key) = codes "no overtaken " ++ decimal key
text (NoPlace key) = codes "no place " ++ decimal key
text (Committed stamp) = codes "commit " ++ decimal stamp
text Aborted = codes "abort"
text (Applied t) = codes "applied " ++ decimal t
text (Refused refusal) = words refusal
