-- What a whole shelf stands for.
use Rattle.std.specs.Prelude.{map, vec_items}
use Rattle.store.specs.Model.{Meaning}
use Rattle.store.specs.Index.{listed}
use Rattle.shelf.specs.Slots.{chain_of}
use Rattle.shelf.specs.declared.table.Shelf.{Shelf}

-- The chain of a node and key is what stands at its index.
unfoldable pub shelf_meaning : Shelf → Meaning
shelf_meaning s = listed (map chain_of (vec_items s.chains))
