-- Learn: a node learns the decision on an update that polls it.
use Rattle.std.proofs.Common.{◌≡◌, ℕ, ◌<◌, max, Bool, true, false, cond, not, ◌&&◌, [], ◌∷◌, ◌++◌, map, length, slice_set, sym, refl, ap, ◌∙◌, subst, inr, ⊎_elim, arith, ◌==◌}
use Rattle.std.proofs.lemmas.List.{length-set}
use Rattle.std.proofs.lemmas.Bool.{cases_Bool, both_ways, false≢true, and_parts, and_left, and_right, ltb-true, not-true}
use Rattle.std.proofs.lemmas.Bool.Decides.{nat_tests}
use Rattle.std.proofs.lemmas.Grind.{common_steps}
use Rattle.clock.proofs.Joins.{length-join}
use Rattle.calls.specs.declared.answer.Answer.TheVariants.{Done}
use Rattle.calls.specs.declared.refusal.Refusal.TheVariants.{NoSuchTransaction, NoSuchNode, WrongState, NotPolled, AlreadyDone}
use Rattle.calls.specs.Requests.{learn}
use Rattle.clock.specs.Clocks.{slot, marked}
use Rattle.store.specs.Model.{FreeRule, Meaning, first_version}
use Rattle.store.specs.Batch.{all_back}
use Rattle.history.specs.Protocol as protocol
use Rattle.rules.specs.declared.records.State.{State}
use Rattle.rules.specs.declared.records.State.TheVariants.{Open, Offered, Committed, Aborted, Finished}
use Rattle.rules.specs.declared.records.Event.TheVariants.{Learn}
use Rattle.rules.specs.declared.records.Node.{Node}
use Rattle.rules.specs.declared.records.Transaction.{Transaction}
use Rattle.rules.specs.World.{World, is_begun, is_node, holds, node, transaction, with_transaction, with_store, bit, wrote, is_write_node, written_at}
use Rattle.rules.specs.Changes.{may, is_numbered, is_learned, is_released, is_open, is_offered}
use Rattle.rules.specs.Voting.{counted}
use Rattle.rules.specs.Applying.{has_seen, learn_by, learn_commit}
use Rattle.rules.proofs.View.{view, placed, participation_of, status_of, version_of, without_last}
use Rattle.rules.proofs.Invariant.{Invariant, Shaped, GoodStep}
use Rattle.rules.proofs.Checks.{GoodOutcome, good_step, checked, refused}
use Rattle.rules.proofs.Views.{marked_set, slot_set, view_node}
use Rattle.rules.proofs.Keeping.{fits, keeps_change}
use Rattle.rules.proofs.Later.{Later, later_fits}
use Rattle.rules.proofs.States.{write_node_from}
use Rattle.rules.proofs.Places.{back_versions, back_balance, idle_balance}
use Rattle.rules.proofs.MoreViews.{view_changed, write_node_view, no_write_node_view, seen_after, below_eight, stamp_view, seen_view, released_row}

module _ (w : World) (inv : Invariant w) (t p : ℕ) (begun : is_begun w t ≡ true) (there : is_node w p ≡ true) (polled : bit (transaction w t).polled p ≡ true) (unlearned : marked (transaction w t).learned p ≡ false) where
  abbrev x : Transaction
  x = transaction w t

  shape : Shaped x
  shape = inv.shaped t begun

  below : p < 8
  below = below_eight w inv t p begun there

  may_learn : (state : State) → x.state ≡ state → protocol.MayLearn (placed w.placement) (view w) t p (status_of state)
  may_learn state is = grind (arith, nat_tests)

  -- ── p releases t ──

  abbrev released : Transaction
  released = is_learned p (is_released p x)

  released_later : (x.state ≡ Offered → ⊥) → (x.state ≡ Open → ⊥) → Later w x released
  released_later not_offered not_open = grind (arith, nat_tests, common_steps)

  released_view : (q : ℕ) → participation_of released q ≡ protocol.releases (p == q) (protocol.learns (p == q) (participation_of x q))
  released_view q =
      let learned : marked (slice_set x.learned p true) q ≡ cond (p == q) true (marked x.learned q) = marked_set x.learned p q true (let l = shape.learned in let b = below in omega arith) in
      λ i. record { voted = marked x.voted q; engaged = released_row w inv t p begun there q i; number = slot x.numbers q; learned = learned i; applied = marked x.applied q }

  -- ── An abort ──

  abort_event : (store : Meaning) → x.state ≡ Aborted → ((q k : ℕ) → (store q k).versions ≡ (w.store q k).versions) →
      view (with_store (with_transaction w t released) store) ≡ protocol.next (placed w.placement) (view w) (protocol.learn_abort t p)
  abort_event store is same =
      view_changed w w.nodes t released store begun (λ here a. a) p (λ here a. protocol.releases here (protocol.learns here a)) (view w).node (view w).chain
      (λ a. refl) refl (λ a. refl) released_view (λ q. refl) (λ q k. ap (λ vs. map version_of (without_last vs)) (same q k))

  abort_learned : (engaged : Bool) → marked x.engaged p ≡ engaged → x.state ≡ Aborted →
      GoodOutcome w (learn t p) (Done, with_store (with_transaction w t released) (cond engaged (all_back w.store p (written_at w x p)) w.store))
  abort_learned true engaged is =
      record {
        same_placement = refl;
        keeps =
            keeps_change w w.nodes t released (all_back w.store p (written_at w x p)) inv begun refl inv.seen
            (later_fits w x released (fits w t inv begun) (released_later (λ e. false≢true (ap is_offered (sym is ∙ e))) (λ e. false≢true (ap is_open (sym is ∙ e)))))
            (λ q k. subst (λ vs. without_last vs ++ first_version ∷ [] ≡ vs) (sym (back_versions w.store p (written_at w x p) q k)) (inv.first_last q k))
            (back_balance w inv t p begun (let l = shape.engaged in let b = below in omega arith) engaged);
        refines =
            inr (protocol.learn_abort t p, may_learn Aborted is, abort_event (all_back w.store p (written_at w x p)) is (back_versions w.store p (written_at w x p)), refl);
      }
  abort_learned false idle is =
      record {
        same_placement = refl;
        keeps =
            keeps_change w w.nodes t released w.store inv begun refl inv.seen
            (later_fits w x released (fits w t inv begun) (released_later (λ e. false≢true (ap is_offered (sym is ∙ e))) (λ e. false≢true (ap is_open (sym is ∙ e)))))
            inv.first_last
            (idle_balance w inv t p begun (let l = shape.engaged in let b = below in omega arith) (λ k. and_left (marked x.engaged p) (wrote x k && holds w p k) idle));
        refines = inr (protocol.learn_abort t p, may_learn Aborted is, abort_event w.store is (λ q k. refl), refl);
      }

  -- ── A commit at a write node ──

  abbrev restamped : Transaction
  restamped = is_learned p (is_numbered p x.stamp x)

  stamped : protocol.stamp (view w) t ≡ x.stamp
  stamped = stamp_view w inv t p begun there

  restamped_later : x.state ≡ Committed → is_write_node w x p ≡ true → Later w x restamped
  restamped_later is writes = grind (arith, nat_tests, common_steps)

  restamped_view : (q : ℕ) → participation_of restamped q ≡ protocol.takes_number (protocol.stamp (view w) t) (p == q) (protocol.learns (p == q) (participation_of x q))
  restamped_view q =
      let number : slot (slice_set x.numbers p x.stamp) q ≡ cond (p == q) (protocol.stamp (view w) t) (slot x.numbers q) =
      slot_set x.numbers p q x.stamp (let l = shape.numbers in let b = below in omega arith) ∙ ap (λ (n : ℕ). cond (p == q) n (slot x.numbers q)) (sym stamped) in
      let learned : marked (slice_set x.learned p true) q ≡ cond (p == q) true (marked x.learned q) = marked_set x.learned p q true (let l = shape.learned in let b = below in omega arith) in
      λ i. record { voted = marked x.voted q; engaged = marked x.engaged q; number = number i; learned = learned i; applied = marked x.applied q }

  abbrev raised : Node
  raised = counted (max (node w p).counter x.stamp) (node w p)

  write_learned : x.state ≡ Committed → is_write_node w x p ≡ true → GoodOutcome w (learn t p) (Done, learn_commit w t p x true)
  write_learned is writes =
      record {
        same_placement = refl;
        keeps =
            keeps_change w (slice_set w.nodes p raised) t restamped w.store inv begun (length-set w.nodes p raised)
            (seen_after w p raised inv there (inv.seen p (ltb-true p (length w.nodes) there)))
            (later_fits w x restamped (fits w t inv begun) (restamped_later is writes)) inv.first_last (λ q k. refl);
        refines =
            inr (
              protocol.learn_write t p,
              (may_learn Committed is, write_node_view w inv t begun p writes),
              view_changed w (slice_set w.nodes p raised) t restamped w.store begun (λ here a. a) p
                  (λ here a. protocol.takes_number (protocol.stamp (view w) t) here (protocol.learns here a))
                  (λ q. protocol.counts (max (protocol.counter (view w) p) (protocol.stamp (view w) t)) (p == q) ((view w).node q)) (view w).chain
                  (λ a. refl) refl (λ a. refl) restamped_view
                  (view_node w p raised (protocol.counts (max (protocol.counter (view w) p) (protocol.stamp (view w) t))) there (λ a. refl)
                  (λ i. record { counter = max (node w p).counter (sym stamped i); frontier = (node w p).frontier; seen = λ q. slot (node w p).seen q }))
                  (λ q k. refl),
              refl,
            );
      }

  -- ── A commit elsewhere ──

  abbrev informed : Node
  informed = has_seen x.commit (node w p)

  nothing_there : is_write_node w x p ≡ false → (k : ℕ) → (marked x.engaged p && (wrote x k && holds w p k)) ≡ false
  nothing_there none k =
      and_right (marked x.engaged p) (wrote x k && holds w p k)
      (⊎_elim
      (λ (some : (wrote x k && holds w p k) ≡ true).
      let parts = and_parts (wrote x k) (holds w p k) some in
      let key = (inv.holders p k parts.1).1 in
      let keys = inv.few_keys in
      absurd (both_ways (is_write_node w x p) none (write_node_from w x p k (omega arith) parts.0 parts.1)))
      (λ (no : (wrote x k && holds w p k) ≡ false). no)
      (cases_Bool (wrote x k && holds w p k)))

  read_learned : x.state ≡ Committed → is_write_node w x p ≡ false → GoodOutcome w (learn t p) (Done, learn_commit w t p x false)
  read_learned is none =
      record {
        same_placement = refl;
        keeps =
            keeps_change w (slice_set w.nodes p informed) t released w.store inv begun (length-set w.nodes p informed)
            (seen_after w p informed inv there (length-join (node w p).seen x.commit))
            (later_fits w x released (fits w t inv begun) (released_later (λ e. false≢true (ap is_offered (sym is ∙ e))) (λ e. false≢true (ap is_open (sym is ∙ e)))))
            inv.first_last (idle_balance w inv t p begun (let l = shape.engaged in let b = below in omega arith) (nothing_there none));
        refines =
            inr (
              protocol.learn_read t p,
              (may_learn Committed is, no_write_node_view w inv t begun p none),
              view_changed w (slice_set w.nodes p informed) t released w.store begun (λ here a. a) p
                  (λ here a. protocol.releases here (protocol.learns here a))
                  (λ q. protocol.sees (protocol.join (protocol.seen (view w) p) (protocol.commit_clock (view w) t)) (p == q) ((view w).node q)) (view w).chain
                  (λ a. refl) refl (λ a. refl) released_view
                  (view_node w p informed (protocol.sees (protocol.join (protocol.seen (view w) p) (protocol.commit_clock (view w) t))) there (λ a. refl)
                  (λ i. record { counter = (node w p).counter; frontier = (node w p).frontier; seen = λ q. seen_view w inv t p begun there q i }))
                  (λ q k. refl),
              refl,
            );
      }

  commit_learned : (writes : Bool) → is_write_node w x p ≡ writes → x.state ≡ Committed → GoodOutcome w (learn t p) (Done, learn_commit w t p x writes)
  commit_learned true writes is = write_learned is writes
  commit_learned false none is = read_learned is none

  learned_by : (state : State) → x.state ≡ state → GoodOutcome w (learn t p) (learn_by w t p x state)
  learned_by Open is = refused w (learn t p) WrongState inv
  learned_by Offered is = refused w (learn t p) WrongState inv
  learned_by Committed is = commit_learned (is_write_node w x p) refl is
  learned_by Aborted is = abort_learned (marked x.engaged p) refl is
  learned_by Finished is = refused w (learn t p) WrongState inv

pub learn_good : (free : FreeRule) (w : World) (t p : ℕ) → Invariant w → GoodStep free w (learn t p)
learn_good free w t p inv =
    good_step free w (learn t p)
    (checked (is_begun w t) w (learn t p) NoSuchTransaction _ inv
    (λ begun.
    checked (is_node w p) w (learn t p) NoSuchNode _ inv
    (λ there.
    checked (may Learn (transaction w t)) w (learn t p) WrongState _ inv
    (λ _.
    checked (bit (transaction w t).polled p) w (learn t p) NotPolled _ inv
    (λ polled.
    checked (not (marked (transaction w t).learned p)) w (learn t p) AlreadyDone _ inv
    (λ unlearned. learned_by w inv t p begun there polled (not-true (marked (transaction w t).learned p) unlearned) (transaction w t).state refl))))))
