-- The join of two clocks, slot by slot.
use Rattle.std.proofs.Common.{◌≡◌, ℕ, ◌<◌, ◌≤◌, max, List, length, ⊎_elim, arith}
use Rattle.std.proofs.lemmas.List.{get_or_past}
use Rattle.std.proofs.lemmas.List.FromFn.{length-map-range_with_len, get_or-map-range_with_len}
use Rattle.std.proofs.lemmas.Bool.{cases_lt}
use Rattle.clock.specs.Clocks.{slot, join}

pub length-join : (a b : List ℕ) → length (join a b) ≡ 8
length-join a b = length-map-range_with_len (λ q. max (slot a q) (slot b q)) 0 8

pub slot_join_within : (a b : List ℕ) (q : ℕ) → q < 8 → slot (join a b) q ≡ max (slot a q) (slot b q)
slot_join_within a b q l = get_or-map-range_with_len (λ i. max (slot a i) (slot b i)) 0 8 q q 0 l (omega arith)

-- Past the eighth slot a clock has 0.
pub slot_past : (a : List ℕ) (q : ℕ) → length a ≡ 8 → 8 ≤ q → slot a q ≡ 0
slot_past a q wide l = get_or_past a q 0 (omega arith)

pub slot_join : (a b : List ℕ) (q : ℕ) → length a ≡ 8 → length b ≡ 8 → slot (join a b) q ≡ max (slot a q) (slot b q)
slot_join a b q la lb =
    ⊎_elim
    (λ (l : q < 8). slot_join_within a b q l)
    (λ (l : 8 ≤ q). omega (arith, slot_past (join a b) q (length-join a b) l, slot_past a q la l, slot_past b q lb l))
    (cases_lt q 8)
