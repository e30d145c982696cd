-- The chains: each lists the applied writers of its key, in the order of decision.
use Rattle.std.proofs.Common.{◌≡◌, ℕ, true, false, ◌&&◌, List, ◌∷◌, sym, refl, ◌∙◌, inl, inr, arith, ◌==◌}
use Rattle.std.proofs.lemmas.Bool.{cases_Bool, or_right, both_ways, and_left, false_from_ne_true}
use Rattle.history.specs.Table.{Version, version, update_at, Member, Later, selected, newest}
use Rattle.history.specs.Protocol.{Placement, Clock, Open, Offered, Committed, State, status, noted, noted_writer, wrote, value, engaged, applied, chain, conflict, written_version, Event, read_update, write, yes_write, yes_read, commit, apply, Current, put_versions, next, Accepted, Status, becomes, change_transaction}
use Rattle.history.specs.History.{decisions, applied_at}
use Rattle.history.proofs.Basics.{update_at₂, other₂, drop, differ, later_first, later_second, selected_same, selected_more, or_second}
use Rattle.history.proofs.Locks.{Locks, all_engaged, Moves}
use Rattle.history.proofs.Clocks.{Decisions}

module _ (holds : Placement) (modulus : ℕ) where
  abbrev pub Chains : List Event → State → Type 0
  Chains h s = record {
    -- A holder's chain has the versions of those writers of the key that are applied there, in the order of decision.
    lists_applied : (p k : ℕ) → holds p k ≡ true → chain s p k ≡ selected (λ u. wrote s u k && applied s u p) (written_version s k) (decisions h);
    -- An earlier writer of a key is applied at each holder when a later one is decided: it is engaged there or applied, and it is not engaged,
    -- since the later one is.  So the update that is applied next is the last writer of its keys.
    earlier_applied : (x u p k : ℕ) → Later x u (decisions h) → wrote s u k ≡ true → wrote s x k ≡ true → holds p k ≡ true → applied s u p ≡ true;
    -- What an engaged update noted is still the newest there: the yes tested it, and no other writer of the key is engaged there.
    note_current : (t p k : ℕ) → engaged s t p ≡ true → status s t ≡ Offered → noted s t k ≡ true → holds p k ≡ true →
        noted_writer s t k ≡ (newest (chain s p k)).writer;
    -- The same chain, as the applies made it.
    lists_history : (p k : ℕ) → holds p k ≡ true → chain s p k ≡ selected (λ u. wrote s u k) (written_version s k) (applied_at h p);
    history_committed : (u p : ℕ) → Member u (applied_at h p) → status s u ≡ Committed;
    history_applied : (u p : ℕ) → Member u (applied_at h p) → applied s u p ≡ true;
    applied_history : (u p : ℕ) → applied s u p ≡ true → Member u (applied_at h p);
  }

  write_selected_all : (s : State) (t k v : ℕ) → status s t ≡ Open → (j : ℕ) (l : List ℕ) → ((u : ℕ) → Member u l → status s u ≡ Committed) →
      selected (λ u. wrote s u j) (written_version s j) l ≡ selected (λ u. update_at₂ (wrote s) t k true u j) (λ u. version (update_at₂ (value s) t k v u j) u) l
  write_selected_all s t k v o j l c = selected_same _ _ _ _ l (λ u m.
      let d = differ (status s) t u Open o refl (c u m) in
      (sym (other₂ (wrote s) t k true u j d), rw (other₂ (value s) t k v u j d)))

  commit_lists_applied : (h : List Event) (s : State) (t : ℕ) → Locks holds modulus s → Chains h s → status s t ≡ Offered → (p j : ℕ) →
      holds p j ≡ true →
      chain s p j ≡ selected (λ u. wrote s u j && applied s u p) (written_version s j) (t ∷ decisions h)
  commit_lists_applied h s t l i o p j g = grind arith

  apply_lists_applied : (h : List Event) (s : State) (t p : ℕ) → Locks holds modulus s → Decisions holds modulus h s → Chains h s →
      Accepted holds modulus s (apply t p) → (q j : ℕ) → holds q j ≡ true →
      put_versions holds s t p q j ≡ selected (λ u. wrote s u j && update_at₂ (applied s) t p true u q) (written_version s j) (decisions h)
  apply_lists_applied h s t p l c i ok q j g = elim (cases_Bool (p == q && (holds q j && wrote s t j))) [
    | inl e ↦
        let pq : p ≡ q = first e in
        let wt : wrote s t j ≡ true = second e in
        let at : applied s t q ≡ false = rw (← pq) (false_from_ne_true (applied s t p) (λ a. both_ways (engaged s t p) (l.applied_released t p a).1 ok.engaged_there)) in
        rw e (rw (i.lists_applied q j g)
        (sym (selected_more (λ u. wrote s u j && applied s u q) (λ u. wrote s u j && update_at₂ (applied s) t p true u q) (written_version s j) t (decisions h)
        (c.committed_decided t (l.learned_committed t p ok.learned_there ok.engaged_there)) (now wt pq) (rw (wt, at)) (λ u d. rw (other₂ (applied s) t p true u q d))
        (λ u b. and_left (wrote s u j) (applied s u q) (false_from_ne_true (wrote s u j) (λ wu. both_ways (applied s t q) at (i.earlier_applied u t q j b wt wu g))))
        (c.decided_once t))))
    | inr e ↦ rw e (i.lists_applied q j g ∙ selected_same _ _ _ _ (decisions h) (λ u m. (unmoved u e, refl)))
  ]
    where
      first : (p == q && (holds q j && wrote s t j)) ≡ true → p ≡ q
      first e = grind arith

      second : (p == q && (holds q j && wrote s t j)) ≡ true → wrote s t j ≡ true
      second e = grind arith

      now : wrote s t j ≡ true → p ≡ q → (wrote s t j && update_at₂ (applied s) t p true t q) ≡ true
      now a b = grind arith

      unmoved : (u : ℕ) → (p == q && (holds q j && wrote s t j)) ≡ false →
          (wrote s u j && applied s u q) ≡ (wrote s u j && update_at₂ (applied s) t p true u q)
      unmoved u e = grind arith

  apply_lists_history : (h : List Event) (s : State) (t p : ℕ) → Chains h s → (q j : ℕ) → holds q j ≡ true →
      put_versions holds s t p q j ≡ selected (λ u. wrote s u j) (written_version s j) (applied_at (apply t p ∷ h) q)
  apply_lists_history h s t p i q j g = let x = i.lists_history q j g in grind arith

  commit_earlier_applied : (h : List Event) (s : State) (t n : ℕ) (c : Clock) → Locks holds modulus s → Decisions holds modulus h s → Chains h s →
      Accepted holds modulus s (commit t n c) →
      (x u p k : ℕ) → Later x u (t ∷ decisions h) → wrote s u k ≡ true → wrote s x k ≡ true → holds p k ≡ true → applied s u p ≡ true
  commit_earlier_applied h s t n c l dd i ok x u p k (inr b) wu wx g = i.earlier_applied x u p k b wu wx g
  commit_earlier_applied h s t n c l dd i ok x u p k (inl b) wu wx g =
      let cu = dd.decided_committed u b.1 in
      let du = differ (status s) t u Offered ok.offered refl cu in
      let wt : wrote s t k ≡ true = rw b.0 at wx in
      let et = all_engaged holds modulus s t n c l ok p k (or_right (noted s t k) (wrote s t k) wt) g in
      or_second (engaged s u p) (applied s u p) (l.writer_kept u p k cu wu g) (λ eu. two_writers wt (l.engaged_compatible u t p k eu et du g))
    where
      two_writers : wrote s t k ≡ true → conflict s u t k ≡ false → ⊥
      two_writers b e = grind arith

  apply_note_current : (h : List Event) (s : State) (t p : ℕ) → Locks holds modulus s → Chains h s → Accepted holds modulus s (apply t p) →
      (u q k : ℕ) → update_at₂ (engaged s) t p false u q ≡ true → status s u ≡ Offered → noted s u k ≡ true → holds q k ≡ true → noted_writer s u k ≡ (newest (put_versions holds s t p q k)).writer
  apply_note_current h s t p l i ok u q k e₁ e₂ e₃ e₄ =
      let eu = drop (engaged s) t p u q e₁ in
      let d : t ≡ u → ⊥ = differ (status s) u t Offered e₂ refl (l.learned_committed t p ok.learned_there ok.engaged_there) in
      let quiet : (p == q && (holds q k && wrote s t k)) ≡ false = unwritten ok.engaged_there (λ et. l.engaged_compatible t u q k et eu d e₄) e₃ in
      rw quiet (i.note_current u q k eu e₂ e₃ e₄)
    where
      unwritten : engaged s t p ≡ true → (engaged s t q ≡ true → conflict s t u k ≡ false) → noted s u k ≡ true →
          (p == q && (holds q k && wrote s t k)) ≡ false
      unwritten a b c = grind arith

  chains_read_update : (h : List Event) (s : State) (t k p : ℕ) (a : Version) (c : Clock) → status s t ≡ Open → Chains h s →
      Chains h (next holds s (read_update t k p a c))
  chains_read_update h s t k p a c o i = record {
    lists_applied = i.lists_applied;
    earlier_applied = i.earlier_applied;
    note_current = λ u q j e₁ e₂ e₃ e₄. grind arith;
    lists_history = i.lists_history;
    history_committed = i.history_committed;
    history_applied = i.history_applied;
    applied_history = i.applied_history;
  }

  chains_write : (h : List Event) (s : State) (t k v : ℕ) → Decisions holds modulus h s → Chains h s → Accepted holds modulus s (write t k v) →
      Chains h (next holds s (write t k v))
  chains_write h s t k v dd i ok = record {
    lists_applied = λ p j g. grind arith;
    earlier_applied = λ x u q j b wu wx. i.earlier_applied x u q j b
        (sym (other₂ (wrote s) t k true u j (differ (status s) t u Open ok.0 refl (dd.decided_committed u (later_second x u (decisions h) b)))) ∙ wu)
        (sym (other₂ (wrote s) t k true x j (differ (status s) t x Open ok.0 refl (dd.decided_committed x (later_first x u (decisions h) b)))) ∙ wx);
    note_current = i.note_current;
    lists_history = λ p j g. i.lists_history p j g ∙ write_selected_all s t k v ok.0 j (applied_at h p) (λ u. i.history_committed u p);
    history_committed = i.history_committed;
    history_applied = i.history_applied;
    applied_history = i.applied_history;
  }

  chains_yes : (h : List Event) (s : State) (t p : ℕ) → Chains h s → Current holds s t p → Chains h (next holds s (yes_read t p))
  chains_yes h s t p i ok = grind arith

  chains_commit : (h : List Event) (s : State) (t n : ℕ) (c : Clock) → Locks holds modulus s → Decisions holds modulus h s → Chains h s →
      Accepted holds modulus s (commit t n c) → Chains (commit t n c ∷ h) (next holds s (commit t n c))
  chains_commit h s t n c l dd i ok = record {
    lists_applied = commit_lists_applied h s t l i ok.offered;
    earlier_applied = commit_earlier_applied h s t n c l dd i ok;
    note_current = λ u q j e₁ e₂. i.note_current u q j e₁ (offered_still u e₂);
    lists_history = i.lists_history;
    history_committed = λ u p x. grind arith;
    history_applied = i.history_applied;
    applied_history = i.applied_history;
  }
    where
      offered_still : (u : ℕ) → update_at (status s) t Committed u ≡ Offered → status s u ≡ Offered
      offered_still u e = grind arith

  chains_apply : (h : List Event) (s : State) (t p : ℕ) → Locks holds modulus s → Decisions holds modulus h s → Chains h s →
      Accepted holds modulus s (apply t p) → Chains (apply t p ∷ h) (next holds s (apply t p))
  chains_apply h s t p l dd i ok = record {
    lists_applied = apply_lists_applied h s t p l dd i ok;
    earlier_applied = λ x u q j b wu wx g. grind arith;
    note_current = apply_note_current h s t p l i ok;
    lists_history = apply_lists_history h s t p i;
    history_committed = λ u q m. grind arith;
    history_applied = λ u q m. grind arith;
    applied_history = λ u q e. grind arith;
  }

  chains_move : (h : List Event) (s : State) (t : ℕ) (y : Status) → Moves holds modulus s t y → Chains h s →
      Chains h (change_transaction t (becomes y) s)
  chains_move h s t y m i = grind arith

  pub chains : (h : List Event) (s : State) (e : Event) → Locks holds modulus s → Decisions holds modulus h s → Chains h s →
      Accepted holds modulus s e → Chains (e ∷ h) (next holds s e)
  chains h s (read_update t k p a c) l dd i ok = chains_read_update h s t k p a c ok.0.open_now i
  chains h s (write t k v) l dd i ok = chains_write h s t k v dd i ok
  chains h s (yes_write t p n) l dd i ok = chains_yes h s t p i ok.current
  chains h s (commit t n c) l dd i ok = chains_commit h s t n c l dd i ok
  chains h s (apply t p) l dd i ok = chains_apply h s t p l dd i ok
  chains h s e l dd i ok = grind arith
