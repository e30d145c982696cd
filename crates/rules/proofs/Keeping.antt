-- The invariant after one transaction, some nodes and the store have changed.
use Rattle.std.proofs.Common.{◌≡◌, ℕ, ◌+◌, ◌-◌, ◌<◌, Bool, true, false, cond, ◌||◌, List, [], ◌∷◌, ◌++◌, length, slice_index_or, slice_set, sym, refl, ap, arith}
use Rattle.std.proofs.lemmas.Bool.Decides.{nat_tests}
use Rattle.std.proofs.lemmas.Grind.{common_steps}
use Rattle.clock.specs.Clocks.{slot, marked}
use Rattle.store.specs.Model.{Meaning, first_version}
use Rattle.rules.specs.declared.records.State.TheVariants.{Open, Offered}
use Rattle.rules.specs.declared.records.Node.{Node}
use Rattle.rules.specs.declared.records.Transaction.{Transaction}
use Rattle.rules.specs.World.{World, is_begun, holds, transaction, with_transaction, new_node, bit, noted, wrote, is_write_node}
use Rattle.rules.proofs.View.{without_last}
use Rattle.rules.proofs.Invariant.{Invariant, Shaped}
use Rattle.rules.proofs.Views.{transaction_cases, engaged_writer, engaged_writers_after, engaged_writers_placement}

-- What the invariant says of each transaction that is begun.
pub record Fits (w : World) (x : Transaction) : Type 0 where
  pub shaped : Shaped x
  pub keys_only : (k : ℕ) → (noted x k || wrote x k) ≡ true → k < length w.placement
  pub polled_sound : (p : ℕ) → bit x.polled p ≡ true → (k : ℕ) × ((noted x k || wrote x k) ≡ true) × (holds w p k ≡ true)
  pub polled_all : (p k : ℕ) → x.state ≡ Offered → (noted x k || wrote x k) ≡ true → holds w p k ≡ true → bit x.polled p ≡ true
  pub numbers_there : (p : ℕ) → is_write_node w x p ≡ false → slot x.numbers p ≡ 0
  pub open_idle : (p : ℕ) → x.state ≡ Open → marked x.engaged p ≡ false
  pub engaged_voted : (p : ℕ) → marked x.engaged p ≡ true → marked x.voted p ≡ true

pub fits : (w : World) (t : ℕ) → Invariant w → is_begun w t ≡ true → Fits w (transaction w t)
fits w t holds_now begun = grind (arith, nat_tests)

abbrev pub changed_world : World → List Node → ℕ → Transaction → Meaning → World
changed_world w nodes t y store = record { nodes = nodes; transactions = slice_set w.transactions (t - 1) y; placement = w.placement; store = store }

pub keeps_change : (w : World) (nodes : List Node) (t : ℕ) (y : Transaction) (store : Meaning) → Invariant w → is_begun w t ≡ true →
    length nodes ≡ length w.nodes → ((p : ℕ) → p < length w.nodes → length (slice_index_or nodes p new_node).seen ≡ 8) → Fits w y →
    ((p k : ℕ) → without_last (store p k).versions ++ first_version ∷ [] ≡ (store p k).versions) →
    ((p k : ℕ) → (store p k).aside + cond (engaged_writer w p k (transaction w t)) 1 0 ≡ (w.store p k).aside + cond (engaged_writer w p k y) 1 0) →
    Invariant (changed_world w nodes t y store)
unfolding is_write_node
keeps_change w nodes t y store now begun same_count seen fit first_last asides =
    let all : (u : ℕ) → is_begun (changed_world w nodes t y store) u ≡ true → Fits w (transaction (changed_world w nodes t y store) u) =
    transaction_cases w t y (λ (u : ℕ) (x : Transaction). Fits w x) begun fit (λ u b. fits w u now b) in
    record {
      some_nodes = grind (arith, nat_tests, common_steps);
      few_nodes = grind (arith, nat_tests, common_steps);
      few_keys = now.few_keys;
      few_transactions = grind (arith, nat_tests, common_steps);
      has_holder = now.has_holder;
      holders = λ p k h. grind (arith, nat_tests, common_steps);
      seen = λ p l. grind (arith, nat_tests, common_steps);
      shaped = λ u b. (all u b).shaped;
      keys_only = λ u k b. (all u b).keys_only k;
      polled_sound = λ u p b. (all u b).polled_sound p;
      polled_all = λ u p k b. (all u b).polled_all p k;
      numbers_there = λ u p b. (all u b).numbers_there p;
      first_last = first_last;
      places = λ p k. omega (arith, asides p k, now.places p k, engaged_writers_after w t y p k begun, engaged_writers_placement (changed_world w nodes t y store) (with_transaction w t y) p k (slice_set w.transactions (t - 1) y) refl);
      open_idle = λ u p b. (all u b).open_idle p;
      engaged_voted = λ u p b. (all u b).engaged_voted p;
    }

-- Where only one transaction changes, and is engaged and writes as before.
pub keeps_transaction : (w : World) (t : ℕ) (y : Transaction) → Invariant w → is_begun w t ≡ true → Fits w y →
    ((p k : ℕ) → engaged_writer w p k y ≡ engaged_writer w p k (transaction w t)) → Invariant (with_transaction w t y)
keeps_transaction w t y now begun fit same =
    keeps_change w w.nodes t y w.store now begun refl now.seen fit now.first_last (λ p k. ap (λ (b : Bool). (w.store p k).aside + cond b 1 0) (sym (same p k)))
