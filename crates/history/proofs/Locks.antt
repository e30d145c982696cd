-- The locks: what holds of the updates that are engaged at a node, from its yes until it releases them.
use Rattle.std.proofs.Common.{◌≡◌, ℕ, ◌≤◌, true, false, ◌||◌, sym, ◌∙◌, inl, inr, arith}
use Rattle.std.proofs.lemmas.Bool.{cases_eq, both_ways}
use Rattle.history.specs.Table.{update_at}
use Rattle.history.specs.Protocol.{Placement, Clock, join, Kind, Status, Open, Offered, Committed, Aborted, Finished, State, fresh, status, wrote, refused, commit_clock, seen, voted, engaged, learned, applied, touched, conflict, Event, begin, offer, yes_write, yes_read, commit, abort, cancel, learn_read, apply, finish, MayVote, next, Accepted}
use Rattle.history.proofs.Basics.{update_at₂, other, slot, frozen, is_committed, over}

module _ (holds : Placement) (modulus : ℕ) where
  abbrev pub Locks : State → Type 0
  Locks s = record {
    -- A node votes on offered updates only, and learns decisions only.
    engaged_frozen : (t p : ℕ) → engaged s t p ≡ true → frozen (status s t) ≡ true;
    voted_frozen : (t p : ℕ) → voted s t p ≡ true → frozen (status s t) ≡ true;
    learned_over : (t p : ℕ) → learned s t p ≡ true → over (status s t) ≡ true;
    -- A node that learns of an abort releases the update, so what is still engaged after it was learned is committed.
    learned_committed : (t p : ℕ) → learned s t p ≡ true → engaged s t p ≡ true → status s t ≡ Committed;
    -- Two updates engaged at a node do not conflict at a key that it holds: the second yes would have been refused as busy.
    engaged_compatible : (u t p k : ℕ) → engaged s u p ≡ true → engaged s t p ≡ true → (u ≡ t → ⊥) → holds p k ≡ true → conflict s u t k ≡ false;
    -- Nothing is released before it is decided: where no node voted no, every vote was a yes, and still engages.
    yes_engaged : (t p : ℕ) → status s t ≡ Offered → refused s t ≡ false → voted s t p ≡ true → engaged s t p ≡ true;
    -- A committed update is engaged at each of its write nodes until it is applied there.
    writer_kept : (t p k : ℕ) → status s t ≡ Committed → wrote s t k ≡ true → holds p k ≡ true → (engaged s t p || applied s t p) ≡ true;
    -- Apply releases what it applies.
    applied_released : (t p : ℕ) → applied s t p ≡ true → (status s t ≡ Committed) × (engaged s t p ≡ false);
    -- A node's seen clock has taken in the commit clock of every committed update that polled it and is engaged there no more, also of
    -- one that only read there.
    released_seen : (u p k : ℕ) → status s u ≡ Committed → touched s u k ≡ true → holds p k ≡ true → engaged s u p ≡ false → (q : ℕ) →
        commit_clock s u q ≤ seen s p q;
  }

  yes_compatible : (s : State) (t p u x q k : ℕ) → (engaged s u q ≡ true → engaged s x q ≡ true → conflict s u x k ≡ false) →
      ((w : ℕ) → engaged s w p ≡ true → (w ≡ t → ⊥) → holds p k ≡ true → conflict s w t k ≡ false) →
      update_at₂ (engaged s) t p true u q ≡ true → update_at₂ (engaged s) t p true x q ≡ true → (u ≡ x → ⊥) → holds q k ≡ true → conflict s u x k ≡ false
  yes_compatible s t p u x q k y f e₁ e₂ d h = grind arith

  release_seen : (s : State) (t p : ℕ) →
      ((u q k : ℕ) → status s u ≡ Committed → touched s u k ≡ true → holds q k ≡ true → engaged s u q ≡ false → (z : ℕ) → commit_clock s u z ≤ seen s q z) →
      (u q k : ℕ) → status s u ≡ Committed → touched s u k ≡ true → holds q k ≡ true → update_at₂ (engaged s) t p false u q ≡ false →
      (z : ℕ) → commit_clock s u z ≤ update_at (seen s) p (join (seen s p) (commit_clock s t)) q z
  release_seen s t p f u q k e₁ e₂ e₃ e₄ z = let x = f u q k e₁ e₂ e₃ in grind arith

  -- a yes, with or without a number
  locks_yes : (s : State) (t p : ℕ) → Locks s → MayVote holds s t p → Locks (next holds s (yes_read t p))
  locks_yes s t p i ok = record {
    engaged_frozen = λ u q e. grind arith;
    voted_frozen = λ u q e. grind arith;
    learned_over = λ u q e. grind arith;
    learned_committed = λ u q e₁ e₂. grind arith;
    engaged_compatible = λ u x q j e₁ e₂ d h. yes_compatible s t p u x q j (λ a b. i.engaged_compatible u x q j a b d h) (λ w. ok.not_busy w j) e₁ e₂ d h;
    yes_engaged = λ u q e₁ e₂ e₃. grind arith;
    writer_kept = λ u q j e₁ e₂ e₃. grind arith;
    applied_released = λ u q e. grind arith;
    released_seen = λ u q j e₁ e₂ e₃ e₄ z. grind arith;
  }

  locks_commit : (s : State) (t n : ℕ) (c : Clock) → Locks s → Accepted holds modulus s (commit t n c) → Locks (next holds s (commit t n c))
  locks_commit s t n c i ok = record {
    engaged_frozen = λ u q e. grind arith;
    voted_frozen = λ u q e. grind arith;
    learned_over = λ u q e. grind arith;
    learned_committed = λ u q e₁ e₂. grind arith;
    engaged_compatible = i.engaged_compatible;
    yes_engaged = λ u q e₁ e₂ e₃. grind arith;
    writer_kept = λ u q j e₁ e₂ e₃. grind arith;
    applied_released = λ u q e. grind arith;
    released_seen = λ u q j e₁ e₂ e₃ e₄ z. elim (cases_eq u t) [
      | inl d ↦ absurd (both_ways (engaged s u q) e₄ (rw d (i.yes_engaged t q ok.offered ok.agreed (ok.complete q (j, rw d at e₂, e₃)))))
      | inr d ↦ rw (slot (commit_clock s) t c u z d) (i.released_seen u q j (sym (other (status s) t Committed u d) ∙ e₁) e₂ e₃ e₄ z)
    ];
  }

  locks_learn_read : (s : State) (t p : ℕ) → Locks s → Accepted holds modulus s (learn_read t p) → Locks (next holds s (learn_read t p))
  locks_learn_read s t p i ok = record {
    engaged_frozen = λ u q e. grind arith;
    voted_frozen = λ u q e. grind arith;
    learned_over = λ u q e. grind arith;
    learned_committed = λ u q e₁ e₂. grind arith;
    engaged_compatible = λ u x q j e₁ e₂ d h. grind arith;
    yes_engaged = λ u q e₁ e₂ e₃. grind arith;
    writer_kept = λ u q j e₁ e₂ e₃. grind arith;
    applied_released = λ u q e. grind arith;
    released_seen = λ u q j e₁ e₂ e₃ e₄ z. release_seen s t p i.released_seen u q j e₁ e₂ e₃ e₄ z;
  }

  locks_apply : (s : State) (t p : ℕ) → Locks s → Accepted holds modulus s (apply t p) → Locks (next holds s (apply t p))
  locks_apply s t p i ok = record {
    engaged_frozen = λ u q e. grind arith;
    voted_frozen = λ u q e. grind arith;
    learned_over = λ u q e. grind arith;
    learned_committed = λ u q e₁ e₂. grind arith;
    engaged_compatible = λ u x q j e₁ e₂ d h. grind arith;
    yes_engaged = λ u q e₁ e₂ e₃. grind arith;
    writer_kept = λ u q j e₁ e₂ e₃. grind arith;
    applied_released = λ u q e. grind arith;
    released_seen = λ u q j e₁ e₂ e₃ e₄ z. release_seen s t p i.released_seen u q j e₁ e₂ e₃ e₄ z;
  }

  pub locks : (s : State) (e : Event) → Locks s → Accepted holds modulus s e → Locks (next holds s e)
  locks s (yes_write t p n) i ok = locks_yes s t p i ok.vote
  locks s (yes_read t p) i ok = locks_yes s t p i ok.vote
  locks s (commit t n c) i ok = locks_commit s t n c i ok
  locks s (learn_read t p) i ok = locks_learn_read s t p i ok
  locks s (apply t p) i ok = locks_apply s t p i ok
  locks s e i ok = grind arith

  pub locks_fresh : Locks fresh
  locks_fresh = grind arith

  -- every node that t polls is engaged for it when it is decided
  pub all_engaged : (s : State) (t n : ℕ) (c : Clock) → Locks s → Accepted holds modulus s (commit t n c) → (p k : ℕ) → touched s t k ≡ true →
      holds p k ≡ true → engaged s t p ≡ true
  all_engaged s t n c l ok p k e h = l.yes_engaged t p ok.offered ok.agreed (ok.complete p (k, e, h))

  -- ── Events that only move a transaction from one status to another, without a commit ──

  abbrev pub Moves : State → ℕ → Status → Type 0
  Moves s t y = record {
    from : status s t ≡ Committed → ⊥;
    to : is_committed y ≡ false;
    offered_anew : y ≡ Offered → (p : ℕ) → engaged s t p ≡ true → ⊥;
  }

  pub begin_moves : (s : State) (t : ℕ) (a : Kind) → Accepted holds modulus s (begin t a) → Moves s t Open
  begin_moves s t a ok = grind arith

  pub offer_moves : (s : State) (t : ℕ) → Locks s → Accepted holds modulus s (offer t) → Moves s t Offered
  offer_moves s t l ok = grind arith

  pub abort_moves : (s : State) (t : ℕ) → Accepted holds modulus s (abort t) → Moves s t Aborted
  abort_moves s t ok = grind arith

  pub cancel_moves : (s : State) (t : ℕ) → Accepted holds modulus s (cancel t) → Moves s t Aborted
  cancel_moves s t ok = grind arith

  pub finish_moves : (s : State) (t : ℕ) → Accepted holds modulus s (finish t) → Moves s t Finished
  finish_moves s t ok = grind arith
