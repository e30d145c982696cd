use Rattle.shelf.specs.Table.{shelf_meaning}
use Rattle.shelf.proofs.Rows.{made_fresh}
use Rattle.shelf.proofs.table.calls.ShelfVersionStore.new.Goals as goal

pub returns : goal.returns
unfolding shelf_meaning
returns c =
    record { value = made_fresh c.in_ok-vec.field-0.items c.new.result (c.in_ok-vec.ensures.items_if_clones_equal (λ y e. e)) c.new.ensures }
