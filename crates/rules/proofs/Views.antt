-- How the view of a world, and the counts of its engaged updates, follow the changes of one transaction or one node.
use Rattle.std.proofs.Common.{◌≡◌, ℕ, zero, suc, ◌+◌, ◌-◌, ◌<◌, ◌≤◌, Bool, true, false, cond, ◌&&◌, nat_lt, nat_le, List, [], ◌∷◌, length, slice_index_or, slice_set, sym, refl, ap, ◌∙◌, subst, ⊎_elim, arith, ◌==◌}
use Rattle.std.proofs.lemmas.List.{length-set, get_or-set_same, get_or-set_other}
use Rattle.std.proofs.lemmas.Bool.{cases_eq, ltb-true, eq-eqb, ne_eqb, eqb-true}
use Rattle.std.proofs.lemmas.Bool.Decides.{nat_tests}
use Rattle.clock.specs.Clocks.{slot, marked}
use Rattle.history.specs.Protocol as protocol
pub use Rattle.history.proofs.Refinement.{same_state}
use Rattle.rules.specs.declared.records.Node.{Node}
use Rattle.rules.specs.declared.records.Transaction.{Transaction}
use Rattle.rules.specs.World.{World, is_begun, is_node, holds, node, transaction, with_node, with_transaction, new_node, bit, wrote}
use Rattle.rules.proofs.View.{view, transaction_of, node_of, participation_of}
use Rattle.rules.proofs.Invariant.{engaged_writers}

-- ── A row with one place changed ──

pub get_or-set : {X : Type 0} (xs : List X) (i j : ℕ) (x d : X) → i < length xs → slice_index_or (slice_set xs i x) j d ≡ cond (i == j) x (slice_index_or xs j d)
get_or-set xs i j x d l = ⊎_elim (λ (e : i ≡ j). rw (eq-eqb i j e, ← e) (get_or-set_same xs i x d l)) (λ (n : i ≡ j → ⊥). rw (ne_eqb i j n) (get_or-set_other xs i j x d (λ e. n (sym e)))) (cases_eq i j)

-- ── A transaction is changed ──

pub begun_place : (w : World) (t : ℕ) → is_begun w t ≡ true → (0 < t) × (t - 1 < length w.transactions) × (t ≤ length w.transactions)
begun_place w t b = grind (arith, nat_tests)

pub begun_after : (w : World) (t : ℕ) (y : Transaction) (u : ℕ) → is_begun (with_transaction w t y) u ≡ is_begun w u
begun_after w t y u = ap (λ (n : ℕ). nat_lt 0 u && nat_le u n) (length-set w.transactions (t - 1) y)

pub eqb_places : (t u : ℕ) → 0 < t → 0 < u → ((t - 1) == (u - 1)) ≡ (t == u)
eqb_places t u a b = grind (arith, nat_tests)

pub transaction_after : (w : World) (t : ℕ) (y : Transaction) (u : ℕ) → is_begun w t ≡ true → is_begun w u ≡ true →
    transaction (with_transaction w t y) u ≡ cond (t == u) y (transaction w u)
transaction_after w t y u bt bu =
    get_or-set w.transactions (t - 1) (u - 1) y _ (begun_place w t bt).1 ∙ ap (λ (b : Bool). cond b y (transaction w u)) (eqb_places t u (begun_place w t bt).0 (begun_place w u bu).0)

-- The two ways: u is t, or it is another.
pub transaction_cases : (w : World) (t : ℕ) (y : Transaction) (P : ℕ → Transaction → Type 0) → is_begun w t ≡ true → P t y →
    ((u : ℕ) → is_begun w u ≡ true → P u (transaction w u)) → (u : ℕ) → is_begun (with_transaction w t y) u ≡ true → P u (transaction (with_transaction w t y) u)
transaction_cases w t y P bt here there u bu =
    let b : is_begun w u ≡ true = sym (begun_after w t y u) ∙ bu in
    ⊎_elim
    (λ (e : t ≡ u). let v : transaction (with_transaction w t y) u ≡ y = transaction_after w t y u bt b ∙ ap (λ (b : Bool). cond b y (transaction w u)) (eq-eqb t u e) in rw (v, ← e) here)
    (λ (n : t ≡ u → ⊥). let v : transaction (with_transaction w t y) u ≡ transaction w u = transaction_after w t y u bt b ∙ ap (λ (b : Bool). cond b y (transaction w u)) (ne_eqb t u n) in rw v (there u b))
    (cases_eq t u)

-- What is shown of one transaction, where t has changed to y: `v` shows a transaction that is begun, and `f` is the change of what is shown.
shown : {X A : Type 0} (v : X → A) (d : A) (f : Bool → A → A) (same before after : Bool) (x x' y : X) → after ≡ before →
    (before ≡ true → x' ≡ cond same y x) → (same ≡ true → before ≡ true) → ((a : A) → f false a ≡ a) → (same ≡ true → v y ≡ f true (v x)) →
    cond after (v x') d ≡ f same (cond before (v x) d)
shown v d f same before after x x' y e1 e2 e3 e4 e5 = grind (arith, nat_tests)

module _ (w : World) (t : ℕ) (y : Transaction) (begun : is_begun w t ≡ true) where
  changed : {A : Type 0} (v : Transaction → A) (d : A) (f : Bool → A → A) → ((a : A) → f false a ≡ a) → v y ≡ f true (v (transaction w t)) → (u : ℕ) →
      cond (is_begun (with_transaction w t y) u) (v (transaction (with_transaction w t y) u)) d ≡ f (t == u) (cond (is_begun w u) (v (transaction w u)) d)
  changed v d f rest here u =
      shown v d f (t == u) (is_begun w u) (is_begun (with_transaction w t y) u) (transaction w u) (transaction (with_transaction w t y) u) y (begun_after w t y u)
      (λ b. transaction_after w t y u begun b) (λ e. subst (λ (i : ℕ). is_begun w i ≡ true) (eqb-true t u e) begun) rest
      (λ e. subst (λ (i : ℕ). v y ≡ f true (v (transaction w i))) (eqb-true t u e) here)

  -- The view of every transaction: `f` is the change of the protocol.
  pub view_transaction : (f : Bool → protocol.Transaction → protocol.Transaction) →
      ((x : protocol.Transaction) → f false x ≡ x) → transaction_of y ≡ f true (transaction_of (transaction w t)) →
      (u : ℕ) → (view (with_transaction w t y)).transaction u ≡ f (t == u) ((view w).transaction u)
  view_transaction f rest here u = changed transaction_of ((protocol.fresh).transaction u) f rest here u

  -- The view of how the nodes take part in each transaction: `g` is the change at p.
  pub view_participation : (p : ℕ) (g : Bool → protocol.Participation → protocol.Participation) →
      ((x : protocol.Participation) → g false x ≡ x) → ((q : ℕ) → participation_of y q ≡ g (p == q) (participation_of (transaction w t) q)) →
      (u q : ℕ) → (view (with_transaction w t y)).participation u q ≡ g (t == u && p == q) ((view w).participation u q)
  view_participation p g rest here u q =
      changed (λ (x : Transaction). participation_of x q) ((protocol.fresh).participation u q) (λ (c : Bool) (a : protocol.Participation). g (c && p == q) a) rest (here q) u

  -- Nothing changes there.
  pub view_participation_same : ((q : ℕ) → participation_of y q ≡ participation_of (transaction w t) q) →
      (u q : ℕ) → (view (with_transaction w t y)).participation u q ≡ (view w).participation u q
  view_participation_same here u q =
      changed (λ (x : Transaction). participation_of x q) ((protocol.fresh).participation u q) (λ (c : Bool) (a : protocol.Participation). a) (λ a. refl) (here q) u

-- The view after a call that changes t alone, and not how nodes take part in it.
pub view_change : (w : World) (t : ℕ) (y : Transaction) (f : Bool → protocol.Transaction → protocol.Transaction) → is_begun w t ≡ true →
    ((x : protocol.Transaction) → f false x ≡ x) → transaction_of y ≡ f true (transaction_of (transaction w t)) →
    ((q : ℕ) → participation_of y q ≡ participation_of (transaction w t) q) →
    view (with_transaction w t y) ≡ protocol.change_transaction t f (view w)
view_change w t y f begun rest here same =
    same_state (view (with_transaction w t y)) (protocol.change_transaction t f (view w))
    (view_transaction w t y begun f rest here) (λ p. refl) (view_participation_same w t y begun same) (λ p k. refl)

-- What is seen of a transaction that is begun.
pub view_begun : (w : World) (t : ℕ) → is_begun w t ≡ true → (view w).transaction t ≡ transaction_of (transaction w t)
view_begun w t begun = grind (arith, nat_tests)

pub participation_begun : (w : World) (t p : ℕ) → is_begun w t ≡ true → (view w).participation t p ≡ participation_of (transaction w t) p
participation_begun w t p begun = grind (arith, nat_tests)

-- ── A node is changed ──

pub node_after : (w : World) (p : ℕ) (n : Node) (q : ℕ) → is_node w p ≡ true → node (with_node w p n) q ≡ cond (p == q) n (node w q)
node_after w p n q there = get_or-set w.nodes p q n new_node (ltb-true p (length w.nodes) there)

pub view_node : (w : World) (p : ℕ) (n : Node) (f : Bool → protocol.Node → protocol.Node) → is_node w p ≡ true →
    ((x : protocol.Node) → f false x ≡ x) → node_of n ≡ f true (node_of (node w p)) →
    (q : ℕ) → (view (with_node w p n)).node q ≡ f (p == q) ((view w).node q)
view_node w p n f there rest here q =
    shown node_of (node_of new_node) f (p == q) true true (node w q) (node (with_node w p n) q) n refl
    (λ b. node_after w p n q there) (λ e. refl) rest (λ e. subst (λ (i : ℕ). node_of n ≡ f true (node_of (node w i))) (eqb-true p q e) here)

-- ── Rows of marks, numbers and keys, with one place changed ──

pub marked_set : (row : List Bool) (p q : ℕ) (b : Bool) → p < length row → marked (slice_set row p b) q ≡ cond (p == q) b (marked row q)
marked_set row p q b l = get_or-set row p q b false l

pub slot_set : (row : List ℕ) (p q n : ℕ) → p < length row → slot (slice_set row p n) q ≡ cond (p == q) n (slot row q)
slot_set row p q n l = get_or-set row p q n 0 l

-- ── The updates engaged at a node ──

-- Whether an update is engaged at p and writes k there.
abbrev pub engaged_writer : World → ℕ → ℕ → Transaction → Bool
engaged_writer w p k x = marked x.engaged p && (wrote x k && holds w p k)

-- The count depends on the placement alone.
pub engaged_writers_placement : (w v : World) (p k : ℕ) (xs : List Transaction) → w.placement ≡ v.placement → engaged_writers w p k xs ≡ engaged_writers v p k xs
engaged_writers_placement w v p k [] e = refl
engaged_writers_placement w v p k (x ∷ xs) e =
    ap (λ (placement : List ℕ). cond (marked x.engaged p && (wrote x k && bit (slice_index_or placement k 0) p)) 1 0 + engaged_writers w p k xs) e
    ∙ ap (λ (n : ℕ). cond (engaged_writer v p k x) 1 0 + n) (engaged_writers_placement w v p k xs e)

-- One update is put in place of another.
pub engaged_writers_set : (w : World) (p k : ℕ) (xs : List Transaction) (i : ℕ) (y d : Transaction) → i < length xs →
    engaged_writers w p k (slice_set xs i y) + cond (engaged_writer w p k (slice_index_or xs i d)) 1 0 ≡ engaged_writers w p k xs + cond (engaged_writer w p k y) 1 0
engaged_writers_set w p k [] i y d l = absurd (omega arith)
engaged_writers_set w p k (x ∷ xs) zero y d l = omega arith
engaged_writers_set w p k (x ∷ xs) (suc i) y d l = omega (arith, engaged_writers_set w p k xs i y d (omega arith))

-- The same for a transaction that changes in a world.
pub engaged_writers_after : (w : World) (t : ℕ) (y : Transaction) (p k : ℕ) → is_begun w t ≡ true →
    engaged_writers (with_transaction w t y) p k (with_transaction w t y).transactions + cond (engaged_writer w p k (transaction w t)) 1 0
    ≡ engaged_writers w p k w.transactions + cond (engaged_writer w p k y) 1 0
engaged_writers_after w t y p k begun =
    ap (λ (n : ℕ). n + cond (engaged_writer w p k (transaction w t)) 1 0) (engaged_writers_placement (with_transaction w t y) w p k (slice_set w.transactions (t - 1) y) refl)
    ∙ engaged_writers_set w p k w.transactions (t - 1) y _ (begun_place w t begun).1
