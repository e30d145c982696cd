-- Apply: a node applies the update that waits there with the least number.
use Rattle.std.proofs.Common.{◌≡◌, ℕ, ◌+◌, ◌<◌, ◌≤◌, Bool, true, cond, ◌&&◌, nat_lt, nat_le, [], ◌∷◌, ◌++◌, map, length, slice_set, Some, None, Option, sym, refl, ap, ◌∙◌, subst, inr, ⊎_elim, arith, ◌==◌}
use Rattle.std.proofs.lemmas.List.{length-set}
use Rattle.std.proofs.lemmas.Bool.{cases_eq, and_parts, and_from, and_left, lt-ltb, le-leb, ne_eqb}
use Rattle.std.proofs.lemmas.Bool.Decides.{nat_tests}
use Rattle.std.proofs.lemmas.Grind.{common_steps}
use Rattle.clock.proofs.Joins.{length-join}
use Rattle.calls.specs.declared.answer.Answer.TheVariants.{Applied}
use Rattle.calls.specs.declared.refusal.Refusal.TheVariants.{NoSuchNode, NothingToApply, NotLearned}
use Rattle.calls.specs.Requests.{apply}
use Rattle.clock.specs.Clocks.{marked}
use Rattle.store.specs.declared.Version.{Version as Stored}
use Rattle.store.specs.Model.{FreeRule, Chain, Meaning, first_version, one_put}
use Rattle.store.specs.Batch.{asked}
use Rattle.history.specs.Table.{version}
use Rattle.history.specs.Protocol as protocol
use Rattle.rules.specs.declared.records.Node.{Node}
use Rattle.rules.specs.declared.records.Transaction.{Transaction}
use Rattle.rules.specs.World.{World, is_begun, is_node, holds, node, transaction, wrote, written_value, is_write_node, written_at}
use Rattle.rules.specs.Changes.{is_released, is_applied}
use Rattle.rules.specs.Applying.{has_seen, advanced, waits, number_at, least_waiting, put_all, applied_world, apply_least}
use Rattle.rules.proofs.View.{view, placed, participation_of, version_of, without_last}
use Rattle.rules.proofs.Invariant.{Invariant, Shaped, GoodStep}
use Rattle.rules.proofs.Checks.{GoodOutcome, good_step, checked, refused}
use Rattle.rules.proofs.Views.{begun_place, view_begun, participation_begun, view_node}
use Rattle.rules.proofs.Keeping.{fits, keeps_change}
use Rattle.rules.proofs.Later.{Later, later_fits}
use Rattle.rules.proofs.Sets.{asked_written}
use Rattle.rules.proofs.Least.{least_waiting_is}
use Rattle.rules.proofs.Places.{PutsGranted, enough, put_all_at, put_balance, no_put_refused}
use Rattle.rules.proofs.MoreViews.{view_changed, write_node_view, write_node_world, engaged_begun, seen_after, below_eight, stamp_view, seen_view}

-- A chain with a version put, or not.
chain_first_last : (b : Bool) (v : Stored) (c : Chain) → without_last c.versions ++ first_version ∷ [] ≡ c.versions →
    without_last (cond b (one_put v c) c).versions ++ first_version ∷ [] ≡ (cond b (one_put v c) c).versions
chain_first_last b v c e1 = grind (arith, nat_tests)

chain_view : (b : Bool) (v : Stored) (c : Chain) → without_last c.versions ++ first_version ∷ [] ≡ c.versions →
    map version_of (without_last (cond b (one_put v c) c).versions) ≡ cond b (version_of v ∷ map version_of (without_last c.versions)) (map version_of (without_last c.versions))
chain_view b v c e1 = grind (arith, nat_tests)

asked_test : (a : ℕ) (written held inside : Bool) → a ≡ cond ((written && held) && inside) 1 0 → (held ≡ true → inside ≡ true) → nat_lt 0 a ≡ held && written
asked_test a written held inside e1 e2 = grind (arith, nat_tests)

module _ (w : World) (inv : Invariant w) (t p : ℕ) (begun : is_begun w t ≡ true) (there : is_node w p ≡ true) (engaged : marked (transaction w t).engaged p ≡ true) where
  abbrev x : Transaction
  x = transaction w t

  shape : Shaped x
  shape = inv.shaped t begun

  below : p < 8
  below = below_eight w inv t p begun there

  abbrev after : Transaction
  after = is_applied p (is_released p x)

  after_later : Later w x after
  after_later = grind (arith, nat_tests, common_steps)

  after_view : (q : ℕ) → participation_of after q ≡ protocol.releases (p == q) (protocol.applies (p == q) (participation_of x q))
  after_view q = grind (arith, nat_tests, common_steps)

  -- ── The node ──

  abbrev node_then : Node
  node_then = advanced x.stamp (has_seen x.commit (node w p))

  -- ── The chains ──

  abbrev store_then : Meaning
  store_then = put_all w.store p t x (written_at w x p)

  abbrev puts : ℕ → ℕ → Bool
  puts q k = (p == q) && nat_lt 0 (asked (written_at w x p) k)

  abbrev version_put : ℕ → Stored
  version_put k = record { value = written_value x k; writer = t }

  chain_then : (q k : ℕ) → store_then q k ≡ cond (puts q k) (one_put (version_put k) (w.store q k)) (w.store q k)
  chain_then q k = put_all_at p t x w.store (written_at w x p) (enough w inv t p begun engaged) q k

  first_last_then : (q k : ℕ) → without_last (store_then q k).versions ++ first_version ∷ [] ≡ (store_then q k).versions
  first_last_then q k =
      subst (λ (c : Chain). without_last c.versions ++ first_version ∷ [] ≡ c.versions) (sym (chain_then q k))
      (chain_first_last (puts q k) (version_put k) (w.store q k) (inv.first_last q k))

  puts_same : (q k : ℕ) → puts q k ≡ (p == q) && (holds w q k && protocol.wrote (view w) t k)
  puts_same q k =
      ⊎_elim
      (λ (same : p ≡ q).
      subst (λ (r : ℕ). puts r k ≡ (p == r) && (holds w r k && protocol.wrote (view w) t k)) same
      (ap (λ (b : Bool). (p == p) && b)
      (asked_test (asked (written_at w x p) k) (wrote x k) (holds w p k) (nat_lt k 64) (asked_written w x p k)
      (λ held. let key = (inv.holders p k held).1 in let keys = inv.few_keys in lt-ltb k 64 (omega arith))
      ∙ ap (λ (a : protocol.Transaction). holds w p k && a.writing.wrote k) (sym (view_begun w t begun)))))
      (λ (apart : p ≡ q → ⊥). and_left (p == q) (nat_lt 0 (asked (written_at w x p) k)) (ne_eqb p q apart) ∙ sym (and_left (p == q) (holds w q k && protocol.wrote (view w) t k) (ne_eqb p q apart)))
      (cases_eq p q)

  chains_view : (q k : ℕ) → map version_of (without_last (store_then q k).versions) ≡ protocol.put_versions (placed w.placement) (view w) t p q k
  chains_view q k =
      ap (λ (c : Chain). map version_of (without_last c.versions)) (chain_then q k)
      ∙ chain_view (puts q k) (version_put k) (w.store q k) (inv.first_last q k)
      ∙ ap (λ (b : Bool). cond b (version_of (version_put k) ∷ (view w).chain q k) ((view w).chain q k)) (puts_same q k)
      ∙ ap (λ (a : protocol.Transaction). cond (p == q && (holds w q k && protocol.wrote (view w) t k)) (version (a.writing.value k) t ∷ (view w).chain q k) ((view w).chain q k)) (sym (view_begun w t begun))

  apply_fits : is_write_node w x p ≡ true → marked x.learned p ≡ true →
      ((u : ℕ) → 1 ≤ u → u < 1 + length w.transactions → waits w p u ≡ true → number_at w p t ≤ number_at w p u) →
      GoodOutcome w (apply p) (Applied t, applied_world w t p x)
  apply_fits writes learned least =
      record {
        same_placement = refl;
        keeps =
            keeps_change w (slice_set w.nodes p node_then) t after store_then inv begun (length-set w.nodes p node_then)
            (seen_after w p node_then inv there (length-join (node w p).seen x.commit))
            (later_fits w x after (fits w t inv begun) after_later) first_last_then
            (put_balance w inv t p begun (let l = shape.engaged in let b = below in omega arith) engaged);
        refines =
            inr (
              protocol.apply t p,
              record {
                engaged_there = grind (arith, nat_tests, common_steps);
                write_node = write_node_view w inv t begun p writes;
                learned_there = grind (arith, nat_tests, common_steps);
                least =
                    λ u there' writes'.
                    let r = engaged_begun w inv u p there' in
                    let place = begun_place w u r.0 in
                    let a = place.0 in
                    let b = place.2 in
                    let here = ap (λ (a : protocol.Participation). a.number) (participation_begun w t p begun) in
                    let other = ap (λ (a : protocol.Participation). a.number) (participation_begun w u p r.0) in
                    let l = least u (omega arith) (omega arith) (and_from (marked (transaction w u).engaged p) (is_write_node w (transaction w u) p) r.1 (write_node_world w inv u r.0 p writes')) in
                    omega arith;
              },
              view_changed w (slice_set w.nodes p node_then) t after store_then begun (λ here a. a) p
                  (λ here a. protocol.releases here (protocol.applies here a))
                  (λ q. protocol.advances (protocol.stamp (view w) t) (p == q) (protocol.sees (protocol.join (protocol.seen (view w) p) (protocol.commit_clock (view w) t)) (p == q) ((view w).node q)))
                  (protocol.put_versions (placed w.placement) (view w) t p)
                  (λ a. refl) refl (λ a. refl) after_view
                  (view_node w p node_then (λ here a. protocol.advances (protocol.stamp (view w) t) here (protocol.sees (protocol.join (protocol.seen (view w) p) (protocol.commit_clock (view w) t)) here a)) there (λ a. refl)
                  (λ i. record { counter = (node w p).counter; frontier = sym (stamp_view w inv t p begun there) i; seen = λ q. seen_view w inv t p begun there q i }))
                  chains_view,
              refl,
            );
      }

-- What waits is begun.
waiting_begun : (w : World) (p t : ℕ) → least_waiting w p ≡ Some t → is_begun w t ≡ true
waiting_begun w p t e =
    let found = least_waiting_is w p t e in
    let a = found.1 in
    let b = found.2 in
    and_from (nat_lt 0 t) (nat_le t (length w.transactions)) (lt-ltb 0 t (omega arith)) (le-leb t (length w.transactions) (omega arith))

module _ (w : World) (inv : Invariant w) (p : ℕ) (there : is_node w p ≡ true) where
  applied : (o : Option ℕ) → least_waiting w p ≡ o → GoodOutcome w (apply p) (apply_least w p o)
  applied None e = refused w (apply p) NothingToApply inv
  applied (Some t) e =
      let found = least_waiting_is w p t e in
      let parts = and_parts (marked (transaction w t).engaged p) (is_write_node w (transaction w t) p) found.0 in
      checked (marked (transaction w t).learned p) w (apply p) NotLearned _ inv
      (λ learned. apply_fits w inv t p (waiting_begun w p t e) there parts.0 parts.1 learned found.3)

-- The store grants every put of an apply.
pub no_put_of_apply_refused : (w : World) → Invariant w → (p t : ℕ) → least_waiting w p ≡ Some t → PutsGranted w.store p t (transaction w t) (written_at w (transaction w t) p)
no_put_of_apply_refused w inv p t e =
    let found = least_waiting_is w p t e in
    no_put_refused w inv t p (waiting_begun w p t e) (and_parts (marked (transaction w t).engaged p) (is_write_node w (transaction w t) p) found.0).0

pub apply_good : (free : FreeRule) (w : World) (p : ℕ) → Invariant w → GoodStep free w (apply p)
apply_good free w p inv =
    good_step free w (apply p) (checked (is_node w p) w (apply p) NoSuchNode _ inv (λ there. applied w inv p there (least_waiting w p) refl))
