-- The row of chains, and the links among the entries of a roll.
use Rattle.std.specs.Prelude.{◌≡◌, ℕ, ◌+◌, cond, ◌&&◌, List, [], ◌∷◌, map, take, Some, None, Option, ◌==◌, slice_get}
use Rattle.store.specs.Index.{index_of}
use Rattle.roll.specs.declared.entry.Entry.{Entry}
use Rattle.roll.specs.declared.head.ChainHead.{ChainHead}

-- The places set aside for each chain.
abbrev pub asides_of : List ChainHead → List ℕ
asides_of chains = map (λ c. c.aside) chains

-- Of entries that stand at i and above: where the last one of a node and key stands, or p if there is none.
abbrev pub last_from : ℕ → ℕ → ℕ → Option ℕ → List Entry → Option ℕ
last_from n k i p [] = p
last_from n k i p (e ∷ es) = last_from n k (i + 1) (cond (n == e.node && k == e.key) (Some i) p) es

-- Where the newest entry of a node and key stands, if there is one.
unfoldable pub newest_place : ℕ → ℕ → List Entry → Option ℕ
newest_place n k entries = last_from n k 0 None entries

-- Each chain names its newest entry.
abbrev pub HeadsNameNewest : List ChainHead → List Entry → Type 0
HeadsNameNewest chains entries = (n k i : ℕ) (c : ChainHead) → index_of n k ≡ Some i → slice_get chains i ≡ Some c → c.newest ≡ newest_place n k entries

-- Each entry names the newest of its chain among the entries before it.
abbrev pub LinksNameOlder : List Entry → Type 0
LinksNameOlder entries = (i : ℕ) (e : Entry) → slice_get entries i ≡ Some e → e.older ≡ newest_place e.node e.key (take i entries)
