-- What the view of a world says of votes, write nodes and chains, and how it follows a change of one transaction, a node and the store.
use Rattle.std.proofs.Common.{◌≡◌, ℕ, ◌<◌, max, Bool, true, false, cond, ◌&&◌, ◌||◌, List, map, length, slice_index_or, slice_set, sym, ap, ◌∙◌, arith, ◌==◌}
use Rattle.std.proofs.lemmas.Bool.{ltb-true, both_ways}
use Rattle.std.proofs.lemmas.Bool.Decides.{nat_tests}
use Rattle.std.proofs.lemmas.Grind.{common_steps}
use Rattle.clock.proofs.Joins.{slot_join}
use Rattle.clock.specs.Clocks.{slot, marked, join}
use Rattle.store.specs.Model.{Meaning}
use Rattle.history.specs.Table.{Version}
use Rattle.history.specs.Protocol as protocol
use Rattle.history.specs.Protocol.{State}
use Rattle.rules.specs.declared.records.Node.{Node}
use Rattle.rules.specs.declared.records.Transaction.{Transaction}
use Rattle.rules.specs.World.{World, new_node, is_begun, is_node, node, transaction, bit, noted, wrote, is_write_node}
use Rattle.rules.proofs.View.{view, placed, transaction_of, node_of, participation_of, version_of, without_last}
use Rattle.rules.proofs.Invariant.{Invariant}
use Rattle.rules.proofs.Views.{same_state, view_transaction, view_participation, view_begun}
use Rattle.rules.proofs.Keeping.{changed_world}
use Rattle.rules.proofs.States.{write_node_has, write_node_from}

-- ── The view after a change ──

pub view_changed : (w : World) (nodes : List Node) (t : ℕ) (y : Transaction) (store : Meaning) → is_begun w t ≡ true →
    (f : Bool → protocol.Transaction → protocol.Transaction) (p : ℕ) (g : Bool → protocol.Participation → protocol.Participation) (n : ℕ → protocol.Node) (c : ℕ → ℕ → List Version) →
    ((x : protocol.Transaction) → f false x ≡ x) → transaction_of y ≡ f true (transaction_of (transaction w t)) →
    ((x : protocol.Participation) → g false x ≡ x) → ((q : ℕ) → participation_of y q ≡ g (p == q) (participation_of (transaction w t) q)) →
    ((q : ℕ) → node_of (slice_index_or nodes q new_node) ≡ n q) → ((q k : ℕ) → map version_of (without_last (store q k).versions) ≡ c q k) →
    ◌≡◌ {A = State} (view (changed_world w nodes t y store))
    (record { transaction = λ u. f (t == u) ((view w).transaction u); node = n; participation = λ u q. g (t == u && p == q) ((view w).participation u q); chain = c })
view_changed w nodes t y store begun f p g n c f_rest f_here g_rest g_here nodes_are chains_are =
    same_state (view (changed_world w nodes t y store))
    (record { transaction = λ u. f (t == u) ((view w).transaction u); node = n; participation = λ u q. g (t == u && p == q) ((view w).participation u q); chain = c })
    (view_transaction w t y begun f f_rest f_here) nodes_are (view_participation w t y begun p g g_rest g_here) chains_are

-- ── What the view says ──

module _ (w : World) (inv : Invariant w) where
  module _ (t : ℕ) (begun : is_begun w t ≡ true) where
    pub wrote_view : (k : ℕ) → protocol.wrote (view w) t k ≡ wrote (transaction w t) k
    wrote_view k = ap (λ (x : protocol.Transaction). x.writing.wrote k) (view_begun w t begun)

    pub touched_view : (k : ℕ) → protocol.touched (view w) t k ≡ (noted (transaction w t) k || wrote (transaction w t) k)
    touched_view k = grind (arith, nat_tests)

    wrote_key : (k : ℕ) → wrote (transaction w t) k ≡ true → k < length w.placement
    wrote_key k h = grind (arith, nat_tests)

    -- Write nodes.
    pub write_node_view : (p : ℕ) → is_write_node w (transaction w t) p ≡ true → protocol.WriteNode (placed w.placement) (view w) t p
    write_node_view p h = let r = write_node_has w (transaction w t) p h in (r.0, wrote_view r.0 ∙ r.2, r.3)

    pub write_node_world : (p : ℕ) → protocol.WriteNode (placed w.placement) (view w) t p → is_write_node w (transaction w t) p ≡ true
    write_node_world p r =
        let written : wrote (transaction w t) r.0 ≡ true = sym (wrote_view r.0) ∙ r.1 in
        let key = wrote_key r.0 written in
        let keys = inv.few_keys in
        write_node_from w (transaction w t) p r.0 (omega arith) written r.2

    pub no_write_node_view : (p : ℕ) → is_write_node w (transaction w t) p ≡ false → protocol.WriteNode (placed w.placement) (view w) t p → ⊥
    no_write_node_view p h r = both_ways (is_write_node w (transaction w t) p) h (write_node_world p r)

    -- Polled nodes.
    pub polled_view : (p : ℕ) → bit (transaction w t).polled p ≡ true → protocol.Polled (placed w.placement) (view w) t p
    polled_view p h = let r = inv.polled_sound t p begun h in (r.0, touched_view r.0 ∙ r.1, r.2)

  -- What is engaged is begun.
  pub engaged_begun : (u p : ℕ) → protocol.engaged (view w) u p ≡ true → (is_begun w u ≡ true) × (marked (transaction w u).engaged p ≡ true)
  engaged_begun u p h = grind (arith, nat_tests, common_steps)

-- ── A node that changes ──

pub seen_after : (w : World) (p : ℕ) (n : Node) → Invariant w → is_node w p ≡ true → length n.seen ≡ 8 → (q : ℕ) → q < length w.nodes → length (slice_index_or (slice_set w.nodes p n) q new_node).seen ≡ 8
seen_after w p n inv there long q l = grind (arith, nat_tests, common_steps)

-- ── A node p and a transaction t ──

module _ (w : World) (inv : Invariant w) (t p : ℕ) (begun : is_begun w t ≡ true) (there : is_node w p ≡ true) where
  pub below_eight : p < 8
  below_eight = let a = ltb-true p (length w.nodes) there in let b = inv.few_nodes in omega arith

  pub stamp_view : protocol.stamp (view w) t ≡ (transaction w t).stamp
  stamp_view = ap (λ (a : protocol.Transaction). a.outcome.stamp) (view_begun w t begun)

  -- The seen clock with t's commit clock taken in.
  pub seen_view : (q : ℕ) → slot (join (node w p).seen (transaction w t).commit) q ≡ protocol.join (protocol.seen (view w) p) (protocol.commit_clock (view w) t) q
  seen_view q =
      slot_join (node w p).seen (transaction w t).commit q (inv.seen p (ltb-true p (length w.nodes) there)) (inv.shaped t begun).commit
      ∙ ap (λ (a : protocol.Transaction). max (slot (node w p).seen q) (a.outcome.commit_clock q)) (sym (view_begun w t begun))

  -- The row of nodes where t is engaged, after a release.
  pub released_row : (q : ℕ) → marked (slice_set (transaction w t).engaged p false) q ≡ cond (p == q) false (marked (transaction w t).engaged q)
  released_row q = grind (arith, nat_tests, common_steps)
