-- A world that has just been made.
use Rattle.std.proofs.Common.{◌≡◌, ℕ, zero, suc, ◌+◌, ◌/◌, ◌%◌, ◌^◌, ◌<◌, ◌≤◌, true, false, ◌&&◌, nat_lt, List, [], ◌∷◌, length, slice_index_or, refl, ap, ◌∙◌, subst, ⊎_elim, arith}
use Rattle.std.proofs.lemmas.List.{length-replicate, get_or_past}
use Rattle.std.proofs.lemmas.Nat.{pow_pos, pow_below, shr_below, le-div, leading_top}
use Rattle.std.proofs.lemmas.Bool.{and_parts, ltb-true, cases_lt, cases_eq, both_ways, eq-eqb}
use Rattle.std.proofs.lemmas.Bool.Decides.{nat_tests}
use Rattle.std.proofs.lemmas.Grind.{common_steps}
use Rattle.history.specs.Protocol as protocol
use Rattle.rules.specs.declared.records.Node.{Node}
use Rattle.rules.specs.World.{is_begun, node, new_node, bit}
use Rattle.rules.specs.Steps.{all_placed, can_make, made_world}
use Rattle.rules.proofs.View.{view, node_of}
use Rattle.rules.proofs.Invariant.{Invariant}
use Rattle.rules.proofs.Views.{same_state, begun_place}
use Rattle.rules.proofs.Begins.{get_or-blank}
use Rattle.rules.proofs.States.{bit_zero}

-- ── Bytes of the placement ──

placed_at : (n : ℕ) (placement : List ℕ) (k : ℕ) → all_placed n placement ≡ true → k < length placement → (0 < slice_index_or placement k 0) × (slice_index_or placement k 0 < 2 ^ n)
placed_at n [] k e l = absurd (omega arith)
placed_at n (byte ∷ bytes) zero e l =
    let parts = and_parts (nat_lt 0 byte) (nat_lt byte (2 ^ n)) (and_parts (nat_lt 0 byte && nat_lt byte (2 ^ n)) (all_placed n bytes) e).0 in
    (ltb-true 0 byte parts.0, ltb-true byte (2 ^ n) parts.1)
placed_at n (byte ∷ bytes) (suc k) e l = placed_at n bytes k (and_parts (nat_lt 0 byte && nat_lt byte (2 ^ n)) (all_placed n bytes) e).1 (omega arith)

-- A byte that is not 0 has a bit that is set.
some_bit : (n byte : ℕ) → 0 < byte → byte < 2 ^ n → (p : ℕ) × (bit byte p ≡ true)
some_bit n byte above below =
    let top = leading_top n byte above below in
    let j : ℕ = top.0 in
    let low : 1 ≤ byte / 2 ^ j = le-div 1 byte (2 ^ j) (pow_pos j) (omega (arith, top.2)) in
    let e : suc j ≡ 1 + j = omega arith in
    let high : byte / 2 ^ j < 2 ^ 1 = shr_below byte 1 j (subst (λ (i : ℕ). byte < 2 ^ i) e top.3) in
    (j, eq-eqb (byte / 2 ^ j % 2) 1 (omega arith))

-- A byte has no bit past its width.
bit_within : (n byte p : ℕ) → byte < 2 ^ n → bit byte p ≡ true → p < n
bit_within n byte p below e =
    ⊎_elim (λ (l : p < n). l)
    (λ (l : n ≤ p).
    let wide : byte < 2 ^ p = ⊎_elim (λ (h : n ≡ p). subst (λ (i : ℕ). byte < 2 ^ i) h below) (λ (h : n ≡ p → ⊥). omega (arith, pow_below n p (omega arith))) (cases_eq n p) in
    let none : byte / 2 ^ p < 2 ^ 0 = shr_below byte 0 p (let e : p ≡ 0 + p = omega arith in subst (λ (i : ℕ). byte < 2 ^ i) e wide) in
    let zero_now : byte / 2 ^ p ≡ 0 = omega arith in
    absurd (both_ways (bit byte p) (rw zero_now refl) e))
    (cases_lt p n)

module _ (n : ℕ) (placement : List ℕ) (made : can_make n (length placement) placement ≡ true) where
  counts : (0 < n) × (n ≤ 8) × (length placement ≤ 64)
  counts = grind (arith, nat_tests)

  all_there : all_placed n placement ≡ true
  all_there = grind (arith, nat_tests)

  held : (k : ℕ) → k < length placement → (p : ℕ) × (bit (slice_index_or placement k 0) p ≡ true)
  held k l = let here = placed_at n placement k all_there l in some_bit n (slice_index_or placement k 0) here.0 here.1

  holder : (p k : ℕ) → bit (slice_index_or placement k 0) p ≡ true → (p < n) × (k < length placement)
  holder p k e =
      ⊎_elim (λ (l : k < length placement). (bit_within n (slice_index_or placement k 0) p (placed_at n placement k all_there l).1 e, l))
      (λ (l : length placement ≤ k). absurd (both_ways (bit 0 p) (bit_zero p) (rw (get_or_past placement k 0 l) at e)))
      (cases_lt k (length placement))

  made_node : (p : ℕ) → node (made_world n placement) p ≡ new_node
  made_node p = get_or-blank n p new_node

  none_begun : (t : ℕ) → is_begun (made_world n placement) t ≡ true → ⊥
  none_begun t b = omega (arith, (begun_place (made_world n placement) t b).1)

  made_keeps : Invariant (made_world n placement)
  made_keeps = record {
    some_nodes = grind (arith, nat_tests, common_steps);
    few_nodes = grind (arith, nat_tests, common_steps);
    few_keys = counts.2;
    few_transactions = omega arith;
    has_holder = held;
    holders = λ p k e. (omega (arith, length-replicate n new_node, (holder p k e).0), (holder p k e).1);
    seen = λ p l. rw (made_node p) refl;
    shaped = λ t b. absurd (none_begun t b);
    keys_only = λ t k b. absurd (none_begun t b);
    polled_sound = λ t p b. absurd (none_begun t b);
    polled_all = λ t p k b. absurd (none_begun t b);
    numbers_there = λ t p b. absurd (none_begun t b);
    first_last = λ p k. refl;
    places = λ p k. refl;
    open_idle = λ t p b. absurd (none_begun t b);
    engaged_voted = λ t p b. absurd (none_begun t b);
  }

  unbegun : (t : ℕ) → is_begun (made_world n placement) t ≡ false
  unbegun t = grind (arith, nat_tests)

  made_view : view (made_world n placement) ≡ protocol.fresh
  made_view =
      same_state (view (made_world n placement)) protocol.fresh
      (λ t. rw (unbegun t) refl)
      (λ p. ap (λ (x : Node). node_of x) (made_node p) ∙ (λ i. record { counter = 0; frontier = 0; seen = λ q. get_or-blank 8 q 0 i }))
      (λ t p. rw (unbegun t) refl)
      (λ p k. refl)

pub start : (n : ℕ) (placement : List ℕ) → can_make n (length placement) placement ≡ true →
    Invariant (made_world n placement) × (view (made_world n placement) ≡ protocol.fresh)
start n placement made = (made_keeps n placement made, made_view n placement made)
