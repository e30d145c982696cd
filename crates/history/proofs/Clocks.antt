-- The decisions and the clocks: the commit clock of a later update is above that of an earlier one with which it conflicts.
use Rattle.std.proofs.Common.{◌≡◌, ℕ, ◌<◌, ◌≤◌, Bool, true, false, List, ◌∷◌, sym, refl, ap, ◌∙◌, inl, inr, le_trans, arith}
use Rattle.std.proofs.lemmas.Bool.{cases_eq, both_ways}
use Rattle.history.specs.Table.{Version, update_at, Member, Later}
use Rattle.history.specs.Protocol.{Placement, Clock, join, Open, Offered, Committed, State, status, clock, read_at, noted, wrote, vote_clock, stamp, commit_clock, frontier, seen, engaged, applied, conflict, Event, read_update, write, yes_write, yes_read, commit, Joined, WriteNode, MayRead, MayVote, next, Accepted, Status, becomes, change_transaction}
use Rattle.history.specs.History.{decisions}
use Rattle.history.proofs.Basics.{update_at₂, same, other, other₂, slot, hit, is_begun, frozen, differ, conflict_left, conflict_right, later_first, later_second}
use Rattle.history.proofs.Locks.{Locks, all_engaged, Moves}
use Rattle.history.proofs.Numbers.{commit_above, Numbers}

-- ── Decisions ──

module _ (holds : Placement) (modulus : ℕ) where
  abbrev pub Decisions : List Event → State → Type 0
  Decisions h s = record {
    -- The committed updates are those of the order of decision, each once, since only an offered update is decided.
    decided_committed : (u : ℕ) → Member u (decisions h) → status s u ≡ Committed;
    committed_decided : (u : ℕ) → status s u ≡ Committed → Member u (decisions h);
    decided_once : (u : ℕ) → Later u u (decisions h) → ⊥;
    -- Transactions are numbered from 1, so the writer 0 of a first version is nobody.
    begun_positive : (t : ℕ) → is_begun (status s t) ≡ true → 0 < t;
  }

  decisions_move : (h : List Event) (s : State) (t : ℕ) (y : Status) → Moves holds modulus s t y → 0 < t → Decisions h s →
      Decisions h (change_transaction t (becomes y) s)
  decisions_move h s t y m pos i = grind arith

  decisions_commit : (h : List Event) (s : State) (t n : ℕ) (c : Clock) → Decisions h s → Accepted holds modulus s (commit t n c) →
      Decisions (commit t n c ∷ h) (next holds s (commit t n c))
  decisions_commit h s t n c i ok = record {
    decided_committed = λ u m. grind arith;
    committed_decided = λ u e. grind arith;
    decided_once = λ u b. elim b [
      | inl x ↦ differ (status s) t u Offered ok.offered refl (i.decided_committed u x.1) x.0
      | inr x ↦ i.decided_once u x
    ];
    begun_positive = λ u e. grind arith;
  }

  pub decisions_stand : (h : List Event) (s : State) (e : Event) → Locks holds modulus s → Decisions h s → Accepted holds modulus s e →
      Decisions (e ∷ h) (next holds s e)
  decisions_stand h s (commit t n c) l i ok = decisions_commit h s t n c i ok
  decisions_stand h s e l i ok = grind arith

-- ── Clocks ──

-- a first read elsewhere leaves the slots of the nodes that were read before, since what it takes in passes there
pub slot_kept : (s : State) (t p : ℕ) (c : Clock) → Joined s t p c → (q : ℕ) → read_at s t q ≡ true → c q ≤ clock s t q
slot_kept s t p c j q r = grind arith

vote_clock_grows : (s : State) (t p x z : ℕ) → vote_clock s x z ≤ update_at (vote_clock s) t (join (vote_clock s t) (seen s p)) x z
vote_clock_grows s t p x z = grind arith

seen_joined : (s : State) (t p x z : ℕ) → x ≡ t → seen s p z ≤ update_at (vote_clock s) t (join (vote_clock s t) (seen s p)) x z
seen_joined s t p x z e = grind arith

still_offered : (s : State) (t x : ℕ) → update_at (status s) t Committed x ≡ Offered → (x ≡ t → ⊥) × (status s x ≡ Offered)
still_offered s t x e = grind arith

module _ (holds : Placement) (modulus : ℕ) where
  abbrev pub Clocks : List Event → State → Type 0
  Clocks h s = record {
    -- Only keys that some node holds are written.
    written_placed : (t k : ℕ) → wrote s t k ≡ true → (p : ℕ) × (holds p k ≡ true);
    -- Only write nodes apply an update.
    applied_write_node : (t p : ℕ) → applied s t p ≡ true → WriteNode holds s t p;
    -- A commit clock has the stamp in the slots of the write nodes, and nothing above it elsewhere.
    write_slot : (u q k : ℕ) → status s u ≡ Committed → wrote s u k ≡ true → holds q k ≡ true → commit_clock s u q ≡ stamp s u;
    below_stamp : (u p k q : ℕ) → status s u ≡ Committed → wrote s u k ≡ true → holds p k ≡ true → commit_clock s u q ≤ stamp s u;
    -- A read is put off while the slot is above the frontier, and a first read takes in only what is applied there.
    read_settled : (t p : ℕ) → read_at s t p ≡ true → clock s t p ≤ frontier s p;
    -- The votes of an engaged update carried the commit clocks of the committed ones that conflict with it there.  At the yes such an update is
    -- engaged no more, so it is in the seen clock; and none can commit later, since it would have to be engaged beside this one.
    engaged_votes : (t u p k : ℕ) → engaged s t p ≡ true → status s t ≡ Offered → status s u ≡ Committed → conflict s u t k ≡ true →
        holds p k ≡ true → (q : ℕ) → commit_clock s u q ≤ vote_clock s t q;
    -- Of two conflicting committed updates, the later one has the higher commit clock, since it was engaged at a holder of the key.
    conflict_ordered : (t u k : ℕ) → Later t u (decisions h) → conflict s u t k ≡ true → (q : ℕ) → commit_clock s u q ≤ commit_clock s t q;
  }

  -- the clock after a read at p is settled there
  pub settled_after : (h : List Event) (s : State) (t k p : ℕ) (a : Version) (c : Clock) → Locks holds modulus s → Numbers holds modulus s →
      Clocks h s → MayRead holds s t k p a c → c p ≤ frontier s p
  settled_after h s t k p a c l nn i ok = grind arith

  read_read_settled : (h : List Event) (s : State) (t k p : ℕ) (a : Version) (c : Clock) → Locks holds modulus s → Numbers holds modulus s →
      Clocks h s → MayRead holds s t k p a c →
      (u q : ℕ) → update_at₂ (read_at s) t p true u q ≡ true → update_at (clock s) t c u q ≤ frontier s q
  read_read_settled h s t k p a c l nn i ok u q e = grind arith

  yes_engaged_votes : (h : List Event) (s : State) (t p : ℕ) → Locks holds modulus s → Clocks h s → MayVote holds s t p →
      (x u q k : ℕ) → update_at₂ (engaged s) t p true x q ≡ true → status s x ≡ Offered → status s u ≡ Committed → conflict s u x k ≡ true → holds q k ≡ true →
      (z : ℕ) → commit_clock s u z ≤ update_at (vote_clock s) t (join (vote_clock s t) (seen s p)) x z
  yes_engaged_votes h s t p l i ok x u q k e₁ e₂ e₃ e₄ e₅ z = elim (hit (engaged s) t p x q e₁) [
    | inr a ↦ le_trans (i.engaged_votes x u q k a e₂ e₃ e₄ e₅ z) (vote_clock_grows s t p x z)
    | inl b ↦ here (engaged s u p) refl b.0 (rw b.1 at e₅)
  ]
    where
      here : (y : Bool) → engaged s u p ≡ y → x ≡ t → holds p k ≡ true →
          commit_clock s u z ≤ update_at (vote_clock s) t (join (vote_clock s t) (seen s p)) x z
      here true y e g = absurd (both_ways (conflict s u t k) (ok.not_busy u k y (differ (status s) t u Offered ok.offered refl e₃) g) (rw e at e₄))
      here false y e g = le_trans (l.released_seen u p k e₃ (conflict_left s u x k e₄) g y z) (seen_joined s t p x z e)

  commit_engaged_votes : (h : List Event) (s : State) (t n : ℕ) (c : Clock) → Locks holds modulus s → Clocks h s →
      Accepted holds modulus s (commit t n c) →
      (x u q k : ℕ) → engaged s x q ≡ true → update_at (status s) t Committed x ≡ Offered → update_at (status s) t Committed u ≡ Committed → conflict s u x k ≡ true → holds q k ≡ true →
      (z : ℕ) → update_at (commit_clock s) t c u z ≤ vote_clock s x z
  commit_engaged_votes h s t n c l i ok x u q k e₁ e₂ e₃ e₄ e₅ z = elim (cases_eq u t) [
    | inr d ↦ rw (slot (commit_clock s) t c u z d) (i.engaged_votes x u q k e₁ rest.1 (sym (other (status s) t Committed u d) ∙ e₃) e₄ e₅ z)
    | inl d ↦
        let eu : engaged s u q ≡ true = rw d (all_engaged holds modulus s t n c l ok q k (rw d at (conflict_left s u x k e₄)) e₅) in
        absurd (both_ways (conflict s u x k) (l.engaged_compatible u x q k eu e₁ (λ f. rest.0 (sym f ∙ d)) e₅) e₄)
  ]
    where
      rest : (x ≡ t → ⊥) × (status s x ≡ Offered)
      rest = still_offered s t x e₂

  -- a key at which two updates conflict is written by one of them
  conflict_placed : (h : List Event) (s : State) → Clocks h s → (u t k : ℕ) → conflict s u t k ≡ true → (p : ℕ) × (holds p k ≡ true)
  conflict_placed h s i u t k e = grind arith

  commit_conflict_ordered : (h : List Event) (s : State) (t n : ℕ) (c : Clock) → Locks holds modulus s → Decisions holds modulus h s → Clocks h s →
      Accepted holds modulus s (commit t n c) →
      (x u k : ℕ) → Later x u (t ∷ decisions h) → conflict s u x k ≡ true → (z : ℕ) → update_at (commit_clock s) t c u z ≤ update_at (commit_clock s) t c x z
  commit_conflict_ordered h s t n c l dd i ok x u k (inr b) e z =
      let du = differ (status s) t u Offered ok.offered refl (dd.decided_committed u (later_second x u (decisions h) b)) in
      let dx = differ (status s) t x Offered ok.offered refl (dd.decided_committed x (later_first x u (decisions h) b)) in
      rw (slot (commit_clock s) t c u z du, slot (commit_clock s) t c x z dx) (i.conflict_ordered x u k b e z)
  commit_conflict_ordered h s t n c l dd i ok x u k (inl b) e z =
      let cu = dd.decided_committed u b.1 in
      let du = differ (status s) t u Offered ok.offered refl cu in
      let e' : conflict s u t k ≡ true = rw b.0 at e in
      let p = conflict_placed h s i u t k e' in
      let et = all_engaged holds modulus s t n c l ok p.0 k (conflict_right s u t k e') p.1 in
      let g = i.engaged_votes t u p.0 k et ok.offered cu e' p.1 z in
      let a = commit_above holds modulus s t n c ok z in
      rw (slot (commit_clock s) t c u z du, b.0, ap (λ (f : Clock). f z) (same (commit_clock s) t c)) (omega arith)

  commit_stamp_slots : (h : List Event) (s : State) (t n : ℕ) (c : Clock) → Clocks h s → Accepted holds modulus s (commit t n c) →
      (u p k q : ℕ) → update_at (status s) t Committed u ≡ Committed → wrote s u k ≡ true → holds p k ≡ true →
      (update_at (commit_clock s) t c u p ≡ update_at (stamp s) t n u) × (update_at (commit_clock s) t c u q ≤ update_at (stamp s) t n u)
  commit_stamp_slots h s t n c i ok u p k q e w g = elim (cases_eq u t) [
    | inr d ↦ let e' = sym (other (status s) t Committed u d) ∙ e in
        rw (slot (commit_clock s) t c u p d, slot (commit_clock s) t c u q d, other (stamp s) t n u d) (i.write_slot u p k e' w g, i.below_stamp u p k q e' w g)
    | inl d ↦ rw (d, ap (λ (f : Clock). f p) (same (commit_clock s) t c), ap (λ (f : Clock). f q) (same (commit_clock s) t c), same (stamp s) t n) (at_node d, below d)
  ]
    where
      node : u ≡ t → WriteNode holds s t p
      node d = (k, rw d at w, g)

      at_node : u ≡ t → c p ≡ n
      at_node d = elim (ok.slots p) [ inl x ↦ x.1 | inr x ↦ absurd (x.0 (node d)) ]

      below : u ≡ t → c q ≤ n
      below d = let m = (ok.stamped p (node d)).has.2 q in elim (ok.slots q) [ inl x ↦ let y = x.1 in omega arith | inr x ↦ let y = x.1 in omega arith ]

  -- what an open transaction notes or writes concerns no decided or engaged one
  open_conflict : (s r : State) (t : ℕ) → status s t ≡ Open → ((u j : ℕ) → (u ≡ t → ⊥) → (noted r u j ≡ noted s u j) × (wrote r u j ≡ wrote s u j)) →
      (u x j : ℕ) → frozen (status s u) ≡ true → frozen (status s x) ≡ true → conflict r u x j ≡ true → conflict s u x j ≡ true
  open_conflict s r t o f u x j fu fx e =
      let a = f u j (λ d. both_ways (frozen (status s u)) (rw (d, o) refl) fu) in
      let b = f x j (λ d. both_ways (frozen (status s x)) (rw (d, o) refl) fx) in
      rw (a.0, a.1, b.0, b.1) at e

  clocks_open : (h : List Event) (s r : State) (t : ℕ) → status s t ≡ Open →
      ((u j : ℕ) → (u ≡ t → ⊥) → (noted r u j ≡ noted s u j) × (wrote r u j ≡ wrote s u j)) → Decisions holds modulus h s →
      Clocks h s → (x u k : ℕ) → Later x u (decisions h) → conflict r u x k ≡ true → (q : ℕ) → commit_clock s u q ≤ commit_clock s x q
  clocks_open h s r t o f dd i x u k b e = i.conflict_ordered x u k b (open_conflict s r t o f u x k
      (rw (dd.decided_committed u (later_second x u (decisions h) b)) refl) (rw (dd.decided_committed x (later_first x u (decisions h) b)) refl) e)

  clocks_read_update : (h : List Event) (s : State) (t k p : ℕ) (a : Version) (c : Clock) → Locks holds modulus s → Numbers holds modulus s →
      Decisions holds modulus h s → Clocks h s → MayRead holds s t k p a c → Clocks h (next holds s (read_update t k p a c))
  clocks_read_update h s t k p a c l nn dd i ok = record {
    written_placed = i.written_placed;
    applied_write_node = i.applied_write_node;
    write_slot = i.write_slot;
    below_stamp = i.below_stamp;
    read_settled = read_read_settled h s t k p a c l nn i ok;
    engaged_votes = λ x u q j e₁ e₂ e₃ e₄. grind arith;
    conflict_ordered = clocks_open h s (next holds s (read_update t k p a c)) t ok.open_now kept dd i;
  }
    where
      kept : (u j : ℕ) → (u ≡ t → ⊥) → (update_at₂ (noted s) t k true u j ≡ noted s u j) × (wrote s u j ≡ wrote s u j)
      kept u j d = (other₂ (noted s) t k true u j d, refl)

  clocks_write : (h : List Event) (s : State) (t k v : ℕ) → Locks holds modulus s → Decisions holds modulus h s → Clocks h s →
      Accepted holds modulus s (write t k v) → Clocks h (next holds s (write t k v))
  clocks_write h s t k v l dd i ok = record {
    written_placed = λ u j w. grind arith;
    applied_write_node = λ u q e. grind arith;
    write_slot = λ u q j e w. grind arith;
    below_stamp = λ u p j q e w. grind arith;
    read_settled = i.read_settled;
    engaged_votes = λ x u q j e₁ e₂ e₃ e₄. grind arith;
    conflict_ordered = clocks_open h s (next holds s (write t k v)) t ok.0 kept dd i;
  }
    where
      kept : (u j : ℕ) → (u ≡ t → ⊥) → (noted s u j ≡ noted s u j) × (update_at₂ (wrote s) t k true u j ≡ wrote s u j)
      kept u j d = (refl, other₂ (wrote s) t k true u j d)

  -- a yes, or a release
  clocks_yes : (h : List Event) (s : State) (t p : ℕ) → Locks holds modulus s → Clocks h s → MayVote holds s t p →
      Clocks h (next holds s (yes_read t p))
  clocks_yes h s t p l i ok = record {
    written_placed = i.written_placed;
    applied_write_node = i.applied_write_node;
    write_slot = i.write_slot;
    below_stamp = i.below_stamp;
    read_settled = i.read_settled;
    engaged_votes = yes_engaged_votes h s t p l i ok;
    conflict_ordered = i.conflict_ordered;
  }

  clocks_commit : (h : List Event) (s : State) (t n : ℕ) (c : Clock) → Locks holds modulus s → Decisions holds modulus h s → Clocks h s →
      Accepted holds modulus s (commit t n c) → Clocks (commit t n c ∷ h) (next holds s (commit t n c))
  clocks_commit h s t n c l dd i ok = record {
    written_placed = i.written_placed;
    applied_write_node = i.applied_write_node;
    write_slot = λ u q j e₁ e₂ e₃. (commit_stamp_slots h s t n c i ok u q j q e₁ e₂ e₃).0;
    below_stamp = λ u p j q e₁ e₂ e₃. (commit_stamp_slots h s t n c i ok u p j q e₁ e₂ e₃).1;
    read_settled = i.read_settled;
    engaged_votes = commit_engaged_votes h s t n c l i ok;
    conflict_ordered = commit_conflict_ordered h s t n c l dd i ok;
  }

  clocks_move : (h : List Event) (s : State) (t : ℕ) (y : Status) → Moves holds modulus s t y → Clocks h s →
      Clocks h (change_transaction t (becomes y) s)
  clocks_move h s t y m i = grind arith

  pub clocks : (h : List Event) (s : State) (e : Event) → Locks holds modulus s → Numbers holds modulus s → Decisions holds modulus h s → Clocks h s →
      Accepted holds modulus s e → Clocks (e ∷ h) (next holds s e)
  clocks h s (read_update t k p a c) l nn dd i ok = clocks_read_update h s t k p a c l nn dd i ok.0
  clocks h s (write t k v) l nn dd i ok = clocks_write h s t k v l dd i ok
  clocks h s (yes_write t p n) l nn dd i ok = clocks_yes h s t p l i ok.vote
  clocks h s (yes_read t p) l nn dd i ok = clocks_yes h s t p l i ok.vote
  clocks h s (commit t n c) l nn dd i ok = clocks_commit h s t n c l dd i ok
  clocks h s e l nn dd i ok = grind arith
