-- What a history, its newest event first, says of each transaction.
use Rattle.std.specs.Prelude.{◌≡◌, ℕ, cond, ◌⊎◌, List, [], ◌∷◌, ◌==◌}
use Rattle.history.specs.Table.{Version, Operation, get, put}
use Rattle.history.specs.Protocol.{Event, begin, read_own, read_search, read_update, write, offer, yes_write, yes_read, no_overtaken, no_place, commit, abort, cancel, learn_abort, learn_write, learn_read, apply, finish}

-- What an event tells of the transactions.
pub data Mark : Type 0 where
  began : ℕ → Mark  -- transaction
  got_own : ℕ → ℕ → Version → Mark  -- a read of its own value: transaction, key, answer
  got_from : ℕ → ℕ → ℕ → Version → Mark  -- a read from a node: transaction, key, node, answer
  put_value : ℕ → ℕ → ℕ → Mark  -- transaction, key, value
  decided_commit : ℕ → Mark  -- transaction
  applied_there : ℕ → ℕ → Mark  -- transaction, node
  nothing : Mark

abbrev pub mark : Event → Mark
mark (begin t a) = began t
mark (read_own t k a) = got_own t k a
mark (read_search t k p a c) = got_from t k p a
mark (read_update t k p a c) = got_from t k p a
mark (write t k v) = put_value t k v
mark (offer t) = nothing
mark (yes_write t p n) = nothing
mark (yes_read t p) = nothing
mark (no_overtaken t p k) = nothing
mark (no_place t p k) = nothing
mark (commit t n c) = decided_commit t
mark (abort t) = nothing
mark (cancel t) = nothing
mark (learn_abort t p) = nothing
mark (learn_write t p) = nothing
mark (learn_read t p) = nothing
mark (apply t p) = applied_there t p
mark (finish t) = nothing

-- The script of t: its accepted reads and writes, in the order of the calls.
abbrev pub add_operation : Mark → ℕ → List Operation → List Operation
add_operation (began u) t l = l
add_operation (got_own u k a) t l = cond (u == t) (get k ∷ l) l
add_operation (got_from u k p a) t l = cond (u == t) (get k ∷ l) l
add_operation (put_value u k v) t l = cond (u == t) (put k v ∷ l) l
add_operation (decided_commit u) t l = l
add_operation (applied_there u p) t l = l
add_operation nothing t l = l

abbrev pub script : List Event → ℕ → List Operation
script [] t = []
script (e ∷ h) t = add_operation (mark e) t (script h t)

-- The answers that t got.
abbrev pub add_answer : Mark → ℕ → List Version → List Version
add_answer (began u) t l = l
add_answer (got_own u k a) t l = cond (u == t) (a ∷ l) l
add_answer (got_from u k p a) t l = cond (u == t) (a ∷ l) l
add_answer (put_value u k v) t l = l
add_answer (decided_commit u) t l = l
add_answer (applied_there u p) t l = l
add_answer nothing t l = l

abbrev pub got : List Event → ℕ → List Version
got [] t = []
got (e ∷ h) t = add_answer (mark e) t (got h t)

-- The committed updates in the order of their decisions.
abbrev pub add_decision : Mark → List ℕ → List ℕ
add_decision (began u) l = l
add_decision (got_own u k a) l = l
add_decision (got_from u k p a) l = l
add_decision (put_value u k v) l = l
add_decision (decided_commit u) l = u ∷ l
add_decision (applied_there u p) l = l
add_decision nothing l = l

abbrev pub decisions : List Event → List ℕ
decisions [] = []
decisions (e ∷ h) = add_decision (mark e) (decisions h)

-- The transactions that were begun.
abbrev pub add_begun : Mark → List ℕ → List ℕ
add_begun (began u) l = u ∷ l
add_begun (got_own u k a) l = l
add_begun (got_from u k p a) l = l
add_begun (put_value u k v) l = l
add_begun (decided_commit u) l = l
add_begun (applied_there u p) l = l
add_begun nothing l = l

abbrev pub begun : List Event → List ℕ
begun [] = []
begun (e ∷ h) = add_begun (mark e) (begun h)

-- The updates that were applied at p, in that order.
abbrev pub add_applied : Mark → ℕ → List ℕ → List ℕ
add_applied (began u) p l = l
add_applied (got_own u k a) p l = l
add_applied (got_from u k q a) p l = l
add_applied (put_value u k v) p l = l
add_applied (decided_commit u) p l = l
add_applied (applied_there u q) p l = cond (q == p) (u ∷ l) l
add_applied nothing p l = l

abbrev pub applied_at : List Event → ℕ → List ℕ
applied_at [] p = []
applied_at (e ∷ h) p = add_applied (mark e) p (applied_at h p)

-- A read of k by t at p, not of its own value, was answered a.
abbrev pub OrRead : Mark → ℕ → ℕ → ℕ → Version → Type 0 → Type 0
OrRead (began u) t k p a earlier = earlier
OrRead (got_own u j b) t k p a earlier = earlier
OrRead (got_from u j q b) t k p a earlier = ((t ≡ u) × (k ≡ j) × (p ≡ q) × (a ≡ b)) ⊎ earlier
OrRead (put_value u j v) t k p a earlier = earlier
OrRead (decided_commit u) t k p a earlier = earlier
OrRead (applied_there u q) t k p a earlier = earlier
OrRead nothing t k p a earlier = earlier

abbrev pub WasRead : List Event → ℕ → ℕ → ℕ → Version → Type 0
WasRead [] t k p a = ⊥
WasRead (e ∷ h) t k p a = OrRead (mark e) t k p a (WasRead h t k p a)
