-- Cases that were worked out by hand from the rules, as the rows of one table.
use Rattle.std.specs.Prelude.{◌≡◌, ℕ, ◌-◌, cond, List, [], ◌∷◌, map, length}
use Rattle.std.specs.List.{AllByRecursion}
use Rattle.calls.specs.declared.answer.Answer.{Answer}
use Rattle.calls.specs.declared.answer.Answer.TheVariants.{Done, Begun, Found, Polled, Yes, Committed, Applied, Refused}
use Rattle.calls.specs.declared.refusal.Refusal.TheVariants.{MakeOutOfBounds, NotYet, Busy}
use Rattle.calls.specs.Requests.{Request, begin, read, write, offer, prepare, decide, learn, apply, finish}
use Rattle.clock.specs.Numbers.{next_number, stamp_number}
use Rattle.store.specs.Model.{FreeRule, stored, set_aside}
use Rattle.rules.specs.World.{World, transaction}
use Rattle.rules.specs.Steps.{can_make, made_world, answers_of, world_after}

-- A row of the table.
pub data Case : Type 0 where
  -- after this counter, the next number for this transaction is this
  next_is : (counter t number : ℕ) → Case
  -- with these numbers at its write nodes and this base, the stamp of this transaction is this
  stamp_is : (numbers base : List ℕ) (t stamp : ℕ) → Case
  -- a make with this placement is accepted, these calls then get these answers, and in the end these updates have these commit clocks
  run_is : (nodes : ℕ) (placement : List ℕ) (lines : List (Request × Answer)) (clocks : List (ℕ × List ℕ)) → Case

-- The rule of free places that the runs are made with: four places for each chain, less its versions but the first, less its places set
-- aside. In these runs a chain gets at most one version, so a store with more places gives the same answers.
abbrev pub four_places : FreeRule
four_places m p k = 4 - stored (m p k) - set_aside (m p k)

-- What a make answers where nothing is made yet.
abbrev pub make_answer : ℕ → List ℕ → Answer
make_answer nodes placement = cond (can_make nodes (length placement) placement) Done (Refused MakeOutOfBounds)

abbrev pub calls_of : List (Request × Answer) → List Request
calls_of lines = map (λ line. line.0) lines

abbrev pub answers_in : List (Request × Answer) → List Answer
answers_in lines = map (λ line. line.1) lines

abbrev pub after_lines : ℕ → List ℕ → List (Request × Answer) → World
after_lines nodes placement lines = world_after four_places (made_world nodes placement) (calls_of lines)

-- A row holds.
abbrev pub Holds : Case → Type 0
Holds (next_is counter t number) = next_number 256 counter t ≡ number
Holds (stamp_is numbers base t stamp) = stamp_number 256 numbers base t ≡ stamp
Holds (run_is nodes placement lines clocks) =
    (make_answer nodes placement ≡ Done)
    × (answers_of four_places (made_world nodes placement) (calls_of lines) ≡ answers_in lines)
    × AllByRecursion (λ c. (transaction (after_lines nodes placement lines) c.0).commit ≡ c.1) clocks

-- Two nodes, and three keys: key 0 at node 0, key 1 at node 1, key 2 at both. Update 1 writes keys 0 and 1 and commits, and node 0 applies
-- it. A Search that has read key 0 there is put off at node 1 until that node has applied the update too. With the make this run has
-- seventeen answers.
abbrev pub two_node_lines : List (Request × Answer)
two_node_lines =
    (begin 1, Begun 1)
    ∷ (write 1 0 70, Done)
    ∷ (write 1 1 71, Done)
    ∷ (offer 1, Polled 2)
    ∷ (prepare 1 0, Yes 1)
    ∷ (prepare 1 1, Yes 1)
    ∷ (decide 1, Committed 1)
    ∷ (learn 1 0, Done)
    ∷ (apply 0, Applied 1)
    ∷ (begin 0, Begun 2)
    ∷ (read 2 0 0, Found 70 1)
    ∷ (read 2 1 1, Refused NotYet)
    ∷ (learn 1 1, Done)
    ∷ (apply 1, Applied 1)
    ∷ (read 2 1 1, Found 71 1)
    ∷ (finish 2, Done)
    ∷ []

-- Three nodes, and four keys: key 0 at node 0, key 1 at node 1, keys 2 and 3 at node 2. Search 1 reads key 0 before update 2 writes it.
-- Update 3 reads what update 2 wrote, and writes key 2. Update 4 writes keys 1 and 3, and prepares at node 2 behind update 3, which is not
-- yet released there. So update 4 has the higher stamp at node 2 and yet does not come after update 2. In the end the Search sees what
-- update 4 wrote, and not what update 3 wrote, although both are applied at node 2.
abbrev pub three_node_lines : List (Request × Answer)
three_node_lines =
    (begin 0, Begun 1)
    ∷ (read 1 0 0, Found 0 0)
    ∷ (begin 1, Begun 2)
    ∷ (write 2 0 20, Done)
    ∷ (offer 2, Polled 1)
    ∷ (prepare 2 0, Yes 2)
    ∷ (decide 2, Committed 2)
    ∷ (learn 2 0, Done)
    ∷ (apply 0, Applied 2)
    ∷ (begin 1, Begun 3)
    ∷ (read 3 0 0, Found 20 2)
    ∷ (write 3 2 32, Done)
    ∷ (offer 3, Polled 2)
    ∷ (begin 1, Begun 4)
    ∷ (write 4 1 41, Done)
    ∷ (write 4 3 43, Done)
    ∷ (offer 4, Polled 2)
    ∷ (prepare 3 0, Yes 0)
    ∷ (prepare 3 2, Yes 3)
    ∷ (prepare 4 1, Yes 4)
    ∷ (prepare 4 2, Yes 4)
    ∷ (decide 3, Committed 3)
    ∷ (decide 4, Committed 4)
    ∷ (learn 3 0, Done)
    ∷ (learn 3 2, Done)
    ∷ (learn 4 1, Done)
    ∷ (learn 4 2, Done)
    ∷ (apply 1, Applied 4)
    ∷ (apply 2, Applied 3)
    ∷ (apply 2, Applied 4)
    ∷ (read 1 1 1, Found 41 4)
    ∷ (read 1 2 2, Found 0 0)
    ∷ (read 1 3 2, Found 43 4)
    ∷ (finish 1, Done)
    ∷ []

-- Two nodes, and two keys: key 0 at node 0, key 1 at node 1. Update 1 reads key 0, which update 2 then overwrites; so update 1 comes before
-- update 2 in every order that answers both. Node 0 is busy for update 2 until it releases update 1, which only reads there, and its vote then
-- carries the commit clock of update 1. So a Search that gets what update 2 wrote is put off at node 1 until that node has applied update 1.
abbrev pub overwritten_lines : List (Request × Answer)
overwritten_lines =
    (begin 1, Begun 1)
    ∷ (read 1 0 0, Found 0 0)
    ∷ (write 1 1 11, Done)
    ∷ (offer 1, Polled 2)
    ∷ (prepare 1 0, Yes 0)
    ∷ (prepare 1 1, Yes 1)
    ∷ (decide 1, Committed 1)
    ∷ (begin 1, Begun 2)
    ∷ (write 2 0 20, Done)
    ∷ (offer 2, Polled 1)
    ∷ (prepare 2 0, Refused Busy)
    ∷ (learn 1 0, Done)
    ∷ (prepare 2 0, Yes 2)
    ∷ (decide 2, Committed 2)
    ∷ (learn 2 0, Done)
    ∷ (apply 0, Applied 2)
    ∷ (begin 0, Begun 3)
    ∷ (read 3 0 0, Found 20 2)
    ∷ (read 3 1 1, Refused NotYet)
    ∷ (learn 1 1, Done)
    ∷ (apply 1, Applied 1)
    ∷ (read 3 1 1, Found 11 1)
    ∷ (finish 3, Done)
    ∷ []

-- A clock by its first three slots, the others being 0.
abbrev pub three_slots : ℕ → ℕ → ℕ → List ℕ
three_slots a b c = a ∷ b ∷ c ∷ 0 ∷ 0 ∷ 0 ∷ 0 ∷ 0 ∷ []

-- The table.
abbrev pub cases : List Case
cases =
    next_is 0 1 1
    ∷ next_is 255 1 257
    ∷ next_is 3 2 258
    ∷ next_is 511 255 767
    ∷ stamp_is (258 ∷ 514 ∷ []) (three_slots 500 0 0) 2 514
    ∷ stamp_is (258 ∷ 514 ∷ []) (three_slots 600 0 0) 2 770
    ∷ run_is 2 (1 ∷ 2 ∷ 3 ∷ []) two_node_lines []
    ∷ run_is 2 (1 ∷ 2 ∷ []) overwritten_lines ((1, three_slots 0 1 0) ∷ (2, three_slots 2 1 0) ∷ [])
    ∷ run_is 3 (1 ∷ 2 ∷ 4 ∷ 4 ∷ []) three_node_lines ((2, three_slots 2 0 0) ∷ (3, three_slots 2 0 3) ∷ (4, three_slots 0 4 4) ∷ [])
    ∷ []

-- Every row of the table holds.
abbrev pub CasesHold : Type 0
CasesHold = AllByRecursion Holds cases
