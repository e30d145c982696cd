-- What the places of one chain stand for, and how many of them are free.
use Rattle.std.specs.Prelude.{ℕ, zero, suc, ◌-◌, List, [], ◌∷◌, slice_index_or}
use Rattle.store.specs.declared.Version.{Version}
use Rattle.store.specs.Model.{Chain, FreeRule, first_version, stored}
use Rattle.shelf.specs.declared.slots.Slots.{Slots}

-- The versions in the first n places, the last of them first, and below them the first version of all.
abbrev pub newest_first : List Version → ℕ → List Version
newest_first places zero = first_version ∷ []
newest_first places (suc n) = slice_index_or places n first_version ∷ newest_first places n

abbrev pub chain_of : Slots → Chain
chain_of c = record { versions = newest_first c.versions c.stored; aside = c.aside }

-- Of so many places for a chain: those that no version takes and that are not set aside.
abbrev pub places_left : ℕ → Chain → ℕ
places_left places c = places - stored c - c.aside

-- The shelf has four places for each chain.
abbrev pub shelf_free : FreeRule
shelf_free m n k = places_left 4 (m n k)
