-- What the entries of a roll and its places set aside stand for.
use Rattle.std.specs.Prelude.{ℕ, ◌+◌, ◌*◌, cond, ◌&&◌, List, [], ◌∷◌, fold, ◌==◌, slice_index}
use Rattle.store.specs.declared.Version.{Version}
use Rattle.store.specs.Model.{Meaning, in_range, first_version}
use Rattle.roll.specs.declared.entry.Entry.{Entry}

-- An entry is the newest version of its own chain, and nothing to any other.
abbrev pub with_entry : ℕ → ℕ → List Version → Entry → List Version
with_entry n k versions e = cond (n == e.node && k == e.key) (e.version ∷ versions) versions

-- The chain of a node and key: the first version, and then its entries, from the oldest on.
abbrev pub versions_of : ℕ → ℕ → List Entry → List Version
versions_of n k entries = fold (with_entry n k) (first_version ∷ []) entries

-- The places set aside for a node and key stand at the chain's index.
abbrev pub aside_at : List ℕ → ℕ → ℕ → ℕ
aside_at aside n k = cond (in_range n k) (slice_index aside (n * 64 + k)) 0

unfoldable pub entered : List Entry → List ℕ → Meaning
entered entries aside = λ n k. record { versions = versions_of n k entries; aside = aside_at aside n k }
