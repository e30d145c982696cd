-- Clocks: a number for each of the eight nodes, in the slot of that node.
use Rattle.std.specs.Prelude.{◌≡◌, ℕ, zero, suc, ◌<◌, ◌≤◌, max, Bool, true, false, not, ◌&&◌, ◌||◌, List, map, nat_le, slice_index, slice_index_or}
use Rattle.std.specs.List.{range_with_len}

abbrev pub slot : List ℕ → ℕ → ℕ
slot clock q = slice_index clock q

-- The larger of two clocks, slot by slot.
abbrev pub join : List ℕ → List ℕ → List ℕ
join a b = map (λ q. max (slot a q) (slot b q)) (range_with_len 0 8)

-- A node that is marked in a row of eight.
abbrev pub marked : List Bool → ℕ → Bool
marked row q = slice_index_or row q false

-- A commit clock passes for a clock: it is no higher in any slot of a node that is marked as read at.
abbrev pub slot_passes : List Bool → List ℕ → List ℕ → ℕ → Bool
slot_passes read commit clock q = not (marked read q) || nat_le (slot commit q) (slot clock q)

abbrev pub passes_below : ℕ → List Bool → List ℕ → List ℕ → Bool
passes_below zero read commit clock = true
passes_below (suc n) read commit clock = slot_passes read commit clock n && passes_below n read commit clock

unfoldable pub passes : List Bool → List ℕ → List ℕ → Bool
passes read commit clock = passes_below 8 read commit clock

-- The same in words.
abbrev pub Passes : List Bool → List ℕ → List ℕ → Type 0
Passes read commit clock = (q : ℕ) → q < 8 → marked read q ≡ true → slot commit q ≤ slot clock q
