-- What a whole roll stands for.
use Rattle.std.specs.Prelude.{vec_items}
use Rattle.store.specs.Model.{Meaning}
use Rattle.roll.specs.Entries.{entered}
use Rattle.roll.specs.Links.{asides_of}
use Rattle.roll.specs.declared.table.Roll.{Roll}

abbrev pub roll_meaning : Roll → Meaning
roll_meaning r = entered (vec_items r.entries) (asides_of (vec_items r.chains))
