-- A run with a move that is half applied: a Search reads what the first update wrote at one node while the other node has yet to apply it,
-- and a second update that conflicts with the first commits before the Search reads again.
use Rattle.std.specs.Prelude.{◌≡◌, ℕ, ◌<◌, true, cond, List, [], ◌∷◌, ◌==◌}
use Rattle.history.specs.Table.{Version, version, scripts_conflict}
use Rattle.history.specs.Protocol.{Placement, Clock, Search, Update, State, fresh, Event, begin, read_search, read_update, write, offer, yes_write, commit, learn_write, apply, clock, frontier, chain, next, MayRead, Reachable}
use Rattle.history.specs.History.{script, got, decisions}
use Rattle.history.specs.Statements.{OrderAnswered, YetToApply}

-- Two nodes: node 1 holds key 1, and node 0 all other keys.
abbrev pub two_nodes : Placement
two_nodes p k = cond (k == 1) (p == 1) (p == 0)

-- The clock with a in slot 0 and b in slot 1.
abbrev pub slots : ℕ → ℕ → Clock
slots a b q = cond (q == 0) a (cond (q == 1) b 0)

-- The state after a history.
abbrev pub state_after : List Event → State
state_after [] = fresh
state_after (e ∷ h) = next two_nodes (state_after h) e

-- The newest event stands first, so the run is read from below.
abbrev pub move_run : List Event
move_run =
    read_search 2 0 0 (version 70 1) (slots 1 1)  -- the Search gets key 0 as before
    ∷ apply 3 0
    ∷ learn_write 3 0
    ∷ commit 3 3 (slots 3 1)
    ∷ yes_write 3 0 3
    ∷ offer 3
    ∷ write 3 0 80
    ∷ read_update 3 0 0 (version 70 1) (slots 1 1)
    ∷ begin 3 Update  -- an update that conflicts with the first
    ∷ read_search 2 0 0 (version 70 1) (slots 1 1)  -- it gets what the first update wrote to key 0
    ∷ begin 2 Search
    ∷ apply 1 0  -- node 0 applies the first update, node 1 does not
    ∷ learn_write 1 0
    ∷ commit 1 1 (slots 1 1)
    ∷ yes_write 1 1 1
    ∷ yes_write 1 0 1
    ∷ offer 1
    ∷ write 1 1 71
    ∷ write 1 0 70
    ∷ begin 1 Update
    ∷ []

-- Then node 1 applies the first update too, and the Search gets the other half of the move.
abbrev pub whole_run : List Event
whole_run = read_search 2 1 1 (version 71 1) (slots 1 1) ∷ apply 1 1 ∷ learn_write 1 1 ∷ move_run

-- With the modulus 10 the run is accepted.  Its two committed updates conflict.  The Search belongs between them and nowhere else.  At node 1
-- every read of it is put off, since its slot there is above the frontier: that node has yet to apply the first update.  Once it has, the read is accepted.
abbrev pub MoveHalfApplied : Type 0
MoveHalfApplied = record {
  accepted : Reachable two_nodes 10 move_run (state_after move_run);
  both_committed : decisions move_run ≡ 3 ∷ 1 ∷ [];
  conflicting : scripts_conflict (script move_run 1) (script move_run 3) 0 ≡ true;
  chain_grew : chain (state_after move_run) 0 0 ≡ version 80 3 ∷ version 70 1 ∷ [];
  search_got : got move_run 2 ≡ version 70 1 ∷ version 70 1 ∷ [];
  between : OrderAnswered move_run (3 ∷ 2 ∷ 1 ∷ []);
  not_first : OrderAnswered move_run (3 ∷ 1 ∷ 2 ∷ []) → ⊥;
  not_last : OrderAnswered move_run (2 ∷ 3 ∷ 1 ∷ []) → ⊥;
  behind : frontier (state_after move_run) 1 < clock (state_after move_run) 2 1;
  lacking : YetToApply two_nodes move_run (state_after move_run) 2 1;
  put_off : (k : ℕ) (a : Version) (c : Clock) → MayRead two_nodes (state_after move_run) 2 k 1 a c → ⊥;
  other_half : Reachable two_nodes 10 whole_run (state_after whole_run);
}
