-- Learning a decision, and applying a commit.
use Rattle.std.specs.Prelude.{ℕ, max, Bool, true, false, cond, not, ◌&&◌, List, [], ◌∷◌, length, Some, None, fold, Option, nat_lt}
use Rattle.std.specs.List.{range_with_len}
use Rattle.calls.specs.declared.answer.Answer.TheVariants.{Done, Applied}
use Rattle.calls.specs.declared.refusal.Refusal.TheVariants.{NoSuchTransaction, NoSuchNode, WrongState, NotPolled, AlreadyDone, NothingToApply, NotLearned}
use Rattle.clock.specs.Clocks.{slot, join, marked}
use Rattle.store.specs.Model.{Meaning, put_after}
use Rattle.store.specs.Batch.{all_back}
use Rattle.rules.specs.declared.records.State.{State}
use Rattle.rules.specs.declared.records.State.TheVariants.{Open, Offered, Committed, Aborted, Finished}
use Rattle.rules.specs.declared.records.Node.{Node}
use Rattle.rules.specs.declared.records.Event.TheVariants.{Learn}
use Rattle.rules.specs.declared.records.Transaction.{Transaction}
use Rattle.rules.specs.World.{World, Outcome, check, refuse, is_begun, is_node, node, transaction, with_node, with_transaction, with_store, bit, written_value, written_at, is_write_node}
use Rattle.rules.specs.Changes.{may, is_numbered, is_learned, is_released, is_applied}
use Rattle.rules.specs.Voting.{counted}

-- A node that releases a committed update takes the update's commit clock into its seen clock.
abbrev pub has_seen : List ℕ → Node → Node
has_seen commit n = record n { seen = join n.seen commit }

abbrev pub advanced : ℕ → Node → Node
advanced stamp n = record n { frontier = stamp }

-- A commit is learned. At a write node t's number becomes its stamp, and the counter rises to at least that; another node releases t.
abbrev pub learn_commit : World → ℕ → ℕ → Transaction → Bool → World
learn_commit w t p x true = with_node (with_transaction w t (is_learned p (is_numbered p x.stamp x))) p (counted (max (node w p).counter x.stamp) (node w p))
learn_commit w t p x false = with_node (with_transaction w t (is_learned p (is_released p x))) p (has_seen x.commit (node w p))

-- An abort is learned: p gives back the places that it set aside for t, and releases t.
abbrev pub learn_abort : World → ℕ → ℕ → Transaction → World
learn_abort w t p x =
    with_store (with_transaction w t (is_learned p (is_released p x))) (cond (marked x.engaged p) (all_back w.store p (written_at w x p)) w.store)

abbrev pub learn_by : World → ℕ → ℕ → Transaction → State → Outcome
learn_by w t p x Open = refuse w WrongState
learn_by w t p x Offered = refuse w WrongState
learn_by w t p x Committed = (Done, learn_commit w t p x (is_write_node w x p))
learn_by w t p x Aborted = (Done, learn_abort w t p x)
learn_by w t p x Finished = refuse w WrongState

-- Learn (t, p).
abbrev pub learn_call : World → ℕ → ℕ → Outcome
learn_call w t p =
    check (is_begun w t) w NoSuchTransaction
    (check (is_node w p) w NoSuchNode
    (check (may Learn (transaction w t)) w WrongState
    (check (bit (transaction w t).polled p) w NotPolled
    (check (not (marked (transaction w t).learned p)) w AlreadyDone
    (learn_by w t p (transaction w t) (transaction w t).state)))))

-- An update waits at p: it is engaged there, and writes there.
abbrev pub waits : World → ℕ → ℕ → Bool
waits w p t = marked (transaction w t).engaged p && is_write_node w (transaction w t) p

abbrev pub number_at : World → ℕ → ℕ → ℕ
number_at w p t = slot (transaction w t).numbers p

-- Of the best so far and one more, the one that waits with the lower number.
abbrev pub sooner : World → ℕ → Option ℕ → ℕ → Option ℕ
sooner w p None t = cond (waits w p t) (Some t) None
sooner w p (Some best) t = cond (waits w p t && nat_lt (number_at w p t) (number_at w p best)) (Some t) (Some best)

-- The update that waits at p with the least number.
unfoldable pub least_waiting : World → ℕ → Option ℕ
least_waiting w p = fold (sooner w p) None (range_with_len 1 (length w.transactions))

-- What t wrote of these keys is put at p.
unfoldable pub put_all : Meaning → ℕ → ℕ → Transaction → List ℕ → Meaning
put_all m p t x [] = m
put_all m p t x (k ∷ ks) = put_all (put_after m p k (record { value = written_value x k; writer = t })) p t x ks

-- It puts the keys that p holds, the frontier becomes its stamp, and p releases it.
abbrev pub applied_world : World → ℕ → ℕ → Transaction → World
applied_world w t p x =
    with_store (with_node (with_transaction w t (is_applied p (is_released p x))) p (advanced x.stamp (has_seen x.commit (node w p))))
    (put_all w.store p t x (written_at w x p))

abbrev pub apply_least : World → ℕ → Option ℕ → Outcome
apply_least w p None = refuse w NothingToApply
apply_least w p (Some t) = check (marked (transaction w t).learned p) w NotLearned (Applied t, applied_world w t p (transaction w t))

-- Apply (p).
abbrev pub apply_call : World → ℕ → Outcome
apply_call w p = check (is_node w p) w NoSuchNode (apply_least w p (least_waiting w p))
