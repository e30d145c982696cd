use Rattle.tape.specs.declared.record.Record.{Record}
use Rattle.tape.specs.Reading.{Entry, requested}

-- The entry that a record of the program stands for.
abbrev pub entry_of : Record → Entry
entry_of record' = (record'.place, requested record'.content)
