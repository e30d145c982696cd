-- Totals over all chains, and how many places of a roll are free.
use Rattle.std.specs.Prelude.{ℕ, zero, suc, ◌+◌, ◌-◌}
use Rattle.store.specs.Model.{Chain, Meaning, FreeRule, stored, set_aside}

-- The sum of f over the numbers below n.
unfoldable pub sum_below : ℕ → (ℕ → ℕ) → ℕ
sum_below zero f = 0
sum_below (suc n) f = sum_below n f + f n

-- The sum over the chains of all 8 nodes and 64 keys.
unfoldable pub total_of : (Chain → ℕ) → Meaning → ℕ
total_of count m = sum_below 8 (λ n. sum_below 64 (λ k. count (m n k)))

-- Of so many places: those that no version of any chain takes and that are set aside for none.
unfoldable pub room : ℕ → Meaning → ℕ
room places m = places - total_of stored m - total_of set_aside m

-- The roll has 512 places, and each of them serves any chain.
abbrev pub roll_free : FreeRule
roll_free m n k = room 512 m
