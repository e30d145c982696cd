-- All chains in one list of 512: that of node n and key k stands at n * 64 + k.
use Rattle.std.specs.Prelude.{ℕ, ◌+◌, ◌*◌, cond, List, Some, None, Option, slice_index_or}
use Rattle.store.specs.Model.{Chain, Meaning, in_range, first_chain}

-- Where a node's and key's chain stands, if there is such a node and key.
abbrev pub index_of : ℕ → ℕ → Option ℕ
index_of n k = cond (in_range n k) (Some (n * 64 + k)) None

-- The list of chains, read as a meaning.
abbrev pub listed : List Chain → Meaning
listed chains = λ n k. cond (in_range n k) (slice_index_or chains (n * 64 + k) first_chain) first_chain
