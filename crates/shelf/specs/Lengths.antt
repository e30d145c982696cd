-- How long a chain of the shelf can be.
use Rattle.std.specs.Prelude.{◌≡◌, ℕ, zero, suc, ◌+◌, ◌*◌, ◌^◌, ◌<◌, ◌≤◌, Bool, true, false, cond, List, [], ◌∷◌, map, length, slice_index_or, refl}
use Rattle.std.proofs.Common.{arith}
use Rattle.store.specs.declared.Version.{Version}
use Rattle.store.specs.Model.{Chain, in_range, first_chain}
use Rattle.store.specs.Index.{listed}
use Rattle.shelf.specs.Slots.{newest_first, chain_of}
use Rattle.shelf.specs.declared.slots.Slots.{Slots}

pub stack_length : (ps : List Version) (n : ℕ) → length (newest_first ps n) ≡ n + 1
stack_length ps zero = refl
stack_length ps (suc n) = let h = stack_length ps n in omega arith

-- No chain has more than the first version and four others.
each_short : (xs : List Slots) (i : ℕ) → length (slice_index_or (map chain_of xs) i first_chain).versions ≤ 5
each_short [] i = omega arith
each_short (x ∷ xs) zero = let fits = x.fits in let is = stack_length x.versions x.stored in omega arith
each_short (x ∷ xs) (suc i) = each_short xs i

pick_short : (b : Bool) (c d : Chain) → length c.versions ≤ 5 → length d.versions ≤ 5 → length (cond b c d).versions < 2 ^ 32
pick_short true c d p q = omega arith
pick_short false c d p q = omega arith

pub all_short : (xs : List Slots) (n k : ℕ) → length (listed (map chain_of xs) n k).versions < 2 ^ 32
all_short xs n k = pick_short (in_range n k) (slice_index_or (map chain_of xs) (n * 64 + k) first_chain) first_chain (each_short xs (n * 64 + k)) (omega arith)
