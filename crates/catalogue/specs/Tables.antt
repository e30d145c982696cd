-- The world that a catalogue's tables and its store stand for.
use Rattle.std.specs.Prelude.{vec_items}
use Rattle.store.specs.Model.{Meaning}
use Rattle.rules.specs.World.{World}
use Rattle.catalogue.specs.declared.table.Table.{Table}
use Rattle.catalogue.specs.declared.catalogue.Catalogue.{Catalogue}

abbrev pub world_of : Table → Meaning → World
world_of table meaning =
    record { nodes = vec_items table.nodes; transactions = vec_items table.transactions; placement = vec_items table.placement; store = meaning }

-- The world of a catalogue, over a store with this meaning.
abbrev pub world : {S : Type 0} → (S → Meaning) → Catalogue S → World
world meaning catalogue = world_of catalogue.table (meaning catalogue.store)
