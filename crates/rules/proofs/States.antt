-- The tests of kinds and states, and of the numbers below a bound.
use Rattle.std.proofs.Common.{◌≡◌, ℕ, ◌/◌, ◌^◌, ◌<◌, Bool, true, false, ◌&&◌, refl, arith, Decides}
use Rattle.std.proofs.lemmas.Nat.{shr_le}
use Rattle.std.proofs.lemmas.Bool.{and_parts, both_ways, false_from_ne_true}
use Rattle.std.proofs.lemmas.Bool.Decides.{Decides-below_or, Decides-below_and, nat_tests}
use Rattle.rules.specs.declared.records.Kind.{Kind}
use Rattle.rules.specs.declared.records.Kind.TheVariants.{Search, Update}
use Rattle.rules.specs.declared.records.State.{State}
use Rattle.rules.specs.declared.records.State.TheVariants.{Open, Offered}
use Rattle.rules.specs.declared.records.Transaction.{Transaction}
use Rattle.rules.specs.World.{World, holds, bit, some_below, all_below, wrote, is_write_node}
use Rattle.rules.specs.Changes.{is_open, is_offered, is_update, is_search}

pub open_is : (state : State) → is_open state ≡ true → state ≡ Open
open_is state e1 = grind (arith, nat_tests)

pub offered_is : (state : State) → is_offered state ≡ true → state ≡ Offered
offered_is state e1 = grind (arith, nat_tests)

pub update_is : (kind : Kind) → is_update kind ≡ true → kind ≡ Update
update_is kind e1 = grind (arith, nat_tests)

pub search_is : (kind : Kind) → is_search kind ≡ true → kind ≡ Search
search_is kind e1 = grind (arith, nat_tests)

-- ── Below a bound ──

some_decides : (n : ℕ) (test : ℕ → Bool) → Decides (some_below n test) ((k : ℕ) × (k < n) × (test k ≡ true))
some_decides n test = Decides-below_or test (λ k. test k ≡ true) (λ m. some_below m test) (λ k. (λ e. e, λ e. e)) refl (λ _. refl) n

pub some_has : (n : ℕ) (test : ℕ → Bool) → some_below n test ≡ true → (k : ℕ) × (k < n) × (test k ≡ true)
some_has n test = (some_decides n test).0

pub some_from : (n : ℕ) (test : ℕ → Bool) (k : ℕ) → k < n → test k ≡ true → some_below n test ≡ true
some_from n test k l e = (some_decides n test).1 (k, l, e)

pub none_has : (n : ℕ) (test : ℕ → Bool) (k : ℕ) → some_below n test ≡ false → k < n → test k ≡ true → ⊥
none_has n test k e l h = both_ways (some_below n test) e (some_from n test k l h)

pub all_has : (n : ℕ) (test : ℕ → Bool) (k : ℕ) → all_below n test ≡ true → k < n → test k ≡ true
all_has n test k e l = (Decides-below_and test (λ j. test j ≡ true) (λ m. all_below m test) (λ j. (λ h. h, λ h. h)) refl (λ _. refl) n).0 e k l

-- A test that fails below a bound fails there for whatever implies it.
pub some_less : (n : ℕ) (test more : ℕ → Bool) → ((k : ℕ) → test k ≡ true → more k ≡ true) → some_below n more ≡ false → some_below n test ≡ false
some_less n test more h e =
    false_from_ne_true (some_below n test) (λ some. let found = some_has n test some in none_has n more found.0 e found.1 (h found.0 found.2))

-- ── Write nodes ──

pub write_node_has : (w : World) (x : Transaction) (p : ℕ) → is_write_node w x p ≡ true → (k : ℕ) × (k < 64) × (wrote x k ≡ true) × (holds w p k ≡ true)
unfolding is_write_node
write_node_has w x p e =
    let found = some_has 64 (λ k. wrote x k && holds w p k) e in
    let parts = and_parts (wrote x found.0) (holds w p found.0) found.2 in
    (found.0, found.1, parts.0, parts.1)

pub write_node_from : (w : World) (x : Transaction) (p k : ℕ) → k < 64 → wrote x k ≡ true → holds w p k ≡ true → is_write_node w x p ≡ true
unfolding is_write_node
write_node_from w x p k l a b = some_from 64 (λ k. wrote x k && holds w p k) k l (rw (a, b) refl)

pub write_node_less : (w : World) (x y : Transaction) (p : ℕ) → ((k : ℕ) → wrote x k ≡ true → wrote y k ≡ true) → is_write_node w y p ≡ false → is_write_node w x p ≡ false
unfolding is_write_node
write_node_less w x y p h e = some_less 64 (λ k. wrote x k && holds w p k) (λ k. wrote y k && holds w p k) (λ k g. grind (arith, h k)) e

-- ── Bits ──

pub bit_zero : (p : ℕ) → bit 0 p ≡ false
bit_zero p = let e : 0 / 2 ^ p ≡ 0 = omega (arith, shr_le 0 p) in rw e refl
