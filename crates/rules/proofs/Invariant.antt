-- What holds of every world that calls lead to: the shapes of its tables, and the places set aside in its store.
use Rattle.std.proofs.Common.{◌≡◌, ℕ, ◌+◌, ◌<◌, ◌≤◌, true, false, cond, ◌&&◌, ◌||◌, ◌⊎◌, List, [], ◌∷◌, ◌++◌, length}
use Rattle.calls.specs.Requests.{Request}
use Rattle.clock.specs.Clocks.{slot, marked}
use Rattle.store.specs.Model.{FreeRule, first_version}
use Rattle.history.specs.Protocol.{Event, Accepted, next}
use Rattle.history.specs.History.{mark}
use Rattle.rules.specs.declared.records.State.TheVariants.{Open, Offered}
use Rattle.rules.specs.declared.records.Transaction.{Transaction}
use Rattle.rules.specs.World.{World, is_begun, holds, node, transaction, bit, noted, wrote, is_write_node}
use Rattle.rules.specs.Steps.{step}
use Rattle.rules.specs.Transcript as transcript
use Rattle.rules.specs.Transcript.{told}
use Rattle.rules.proofs.View.{view, placed, told_by, without_last}

-- The rows of a transaction have a place for each node or key.
pub record Shaped (x : Transaction) : Type 0 where
  pub clock : length x.clock ≡ 8
  pub read : length x.read ≡ 8
  pub noted : length x.noted ≡ 64
  pub written : length x.written ≡ 64
  pub voted : length x.voted ≡ 8
  pub engaged : length x.engaged ≡ 8
  pub numbers : length x.numbers ≡ 8
  pub votes : length x.votes ≡ 8
  pub learned : length x.learned ≡ 8
  pub applied : length x.applied ≡ 8
  pub commit : length x.commit ≡ 8

-- How many transactions are engaged at p and write k there.
abbrev pub engaged_writers : World → ℕ → ℕ → List Transaction → ℕ
engaged_writers w p k [] = 0
engaged_writers w p k (x ∷ xs) = cond (marked x.engaged p && (wrote x k && holds w p k)) 1 0 + engaged_writers w p k xs

pub record Invariant (w : World) : Type 0 where
  -- the counts are those of a make
  pub some_nodes : 0 < length w.nodes
  pub few_nodes : length w.nodes ≤ 8
  pub few_keys : length w.placement ≤ 64
  pub few_transactions : length w.transactions ≤ 255
  -- every key has a holder, and holders are nodes
  pub has_holder : (k : ℕ) → k < length w.placement → (p : ℕ) × (holds w p k ≡ true)
  pub holders : (p k : ℕ) → holds w p k ≡ true → (p < length w.nodes) × (k < length w.placement)
  -- shapes
  pub seen : (p : ℕ) → p < length w.nodes → length (node w p).seen ≡ 8
  pub shaped : (t : ℕ) → is_begun w t ≡ true → Shaped (transaction w t)
  -- only keys are noted or written
  pub keys_only : (t k : ℕ) → is_begun w t ≡ true → (noted (transaction w t) k || wrote (transaction w t) k) ≡ true → k < length w.placement
  -- the byte of polled nodes names holders of what was noted or written, and once offered all of them
  pub polled_sound : (t p : ℕ) → is_begun w t ≡ true → bit (transaction w t).polled p ≡ true → (k : ℕ) × ((noted (transaction w t) k || wrote (transaction w t) k) ≡ true) × (holds w p k ≡ true)
  pub polled_all : (t p k : ℕ) → is_begun w t ≡ true → (transaction w t).state ≡ Offered → (noted (transaction w t) k || wrote (transaction w t) k) ≡ true → holds w p k ≡ true → bit (transaction w t).polled p ≡ true
  -- numbers are given at write nodes only
  pub numbers_there : (t p : ℕ) → is_begun w t ≡ true → is_write_node w (transaction w t) p ≡ false → slot (transaction w t).numbers p ≡ 0
  -- every chain ends with the first version
  pub first_last : (p k : ℕ) → without_last (w.store p k).versions ++ first_version ∷ [] ≡ (w.store p k).versions
  -- a place is set aside for each engaged update that writes there
  pub places : (p k : ℕ) → (w.store p k).aside ≡ engaged_writers w p k w.transactions
  -- a transaction is engaged nowhere while it is open
  pub open_idle : (t p : ℕ) → is_begun w t ≡ true → (transaction w t).state ≡ Open → marked (transaction w t).engaged p ≡ false
  -- a node has voted on every transaction that is engaged there
  pub engaged_voted : (t p : ℕ) → is_begun w t ≡ true → marked (transaction w t).engaged p ≡ true → marked (transaction w t).voted p ≡ true

-- What one call comes to: nothing, or an event of the protocol.
abbrev pub Refines : FreeRule → World → Request → Type 0
Refines free w request =
    (((step free w request).1 ≡ w) × (told request (step free w request).0 ≡ transcript.nothing))
    ⊎ ((e : Event) × Accepted (placed w.placement) 256 (view w) e
    × (view (step free w request).1 ≡ next (placed w.placement) (view w) e)
    × (told request (step free w request).0 ≡ told_by (mark e)))

-- The lemma that each call owes: the placement and the number of nodes stay, the invariant is kept, and the call refines the protocol.
pub record GoodStep (free : FreeRule) (w : World) (request : Request) : Type 0 where
  pub same_placement : (step free w request).1.placement ≡ w.placement
  pub keeps : Invariant (step free w request).1
  pub refines : Refines free w request
