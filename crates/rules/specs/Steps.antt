-- Any call, and any list of calls.
use Rattle.std.specs.Prelude.{ℕ, zero, suc, ◌^◌, Bool, true, ◌&&◌, List, [], ◌∷◌, length, replicate, ◌==◌, nat_le, nat_lt}
use Rattle.calls.specs.declared.answer.Answer.{Answer}
use Rattle.calls.specs.declared.refusal.Refusal.TheVariants.{BadRecord, MakeOutOfOrder}
use Rattle.calls.specs.Requests.{Request, make, begin, read, write, offer, prepare, decide, cancel, learn, apply, finish}
use Rattle.store.specs.Model.{FreeRule, fresh}
use Rattle.rules.specs.declared.records.Kind.TheVariants.{Search, Update}
use Rattle.rules.specs.World.{World, Outcome, refuse, new_node}
use Rattle.rules.specs.Reading.{read_call, write_call}
use Rattle.rules.specs.Voting.{prepare_call}
use Rattle.rules.specs.Deciding.{begin_call, offer_call, decide_call, cancel_call, finish_call}
use Rattle.rules.specs.Applying.{learn_call, apply_call}

-- Every byte of the placement names a holder, and no node past the last.
abbrev pub all_placed : ℕ → List ℕ → Bool
all_placed nodes [] = true
all_placed nodes (byte ∷ bytes) = (nat_lt 0 byte && nat_lt byte (2 ^ nodes)) && all_placed nodes bytes

-- One to eight nodes, one to 64 keys, and for each key a byte of the placement.
abbrev pub can_make : ℕ → ℕ → List ℕ → Bool
can_make nodes keys placement =
    (nat_le 1 nodes && nat_le nodes 8) && ((nat_le 1 keys && nat_le keys 64) && (length placement == keys && all_placed nodes placement))

abbrev pub made_world : ℕ → List ℕ → World
made_world nodes placement = record { nodes = replicate nodes new_node; transactions = []; placement = placement; store = fresh }

-- The mode of a begin is 0 for a Search and 1 for an update. There is no other.
abbrev pub begin_mode : World → ℕ → Outcome
begin_mode w zero = begin_call w Search
begin_mode w (suc zero) = begin_call w Update
begin_mode w (suc (suc mode)) = refuse w BadRecord

-- What any call answers and does in a world that is made. A second make is refused.
abbrev pub step : FreeRule → World → Request → Outcome
step free w (make nodes keys placement) = refuse w MakeOutOfOrder
step free w (begin mode) = begin_mode w mode
step free w (read t k p) = read_call w t k p
step free w (write t k value) = write_call w t k value
step free w (offer t) = offer_call w t
step free w (prepare t p) = prepare_call free w t p
step free w (decide t) = decide_call w t
step free w (cancel t) = cancel_call w t
step free w (learn t p) = learn_call w t p
step free w (apply p) = apply_call w p
step free w (finish t) = finish_call w t

-- The answers to a list of calls, in their order, and the world after them.
unfoldable pub answers_of : FreeRule → World → List Request → List Answer
answers_of free w [] = []
answers_of free w (request ∷ requests) = (step free w request).0 ∷ answers_of free (step free w request).1 requests

unfoldable pub world_after : FreeRule → World → List Request → World
world_after free w [] = w
world_after free w (request ∷ requests) = world_after free (step free w request).1 requests
