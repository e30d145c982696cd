use Rattle.std.proofs.Common.{map, take, vec_items}
use Rattle.std.specs.Option.{option_map}
use Rattle.tape.specs.Records.{entry_of}
use Rattle.store.specs.Model.{FreeRule}
use Rattle.catalogue.specs.Tables.{world}
use Rattle.runner.specs.Running.{CountsBy, RecordsRun}
use Rattle.runner.proofs.run_records.Given as goal

-- The records so far were run, by every rule that the unit's store may count by.
abbrev pub invariant-loop-record : goal.invariant-loop-record
invariant-loop-record g l =
    let s = g.S.VersionStore in
    (free : FreeRule) → CountsBy (λ c. s.free c.store) free l.unit
    → RecordsRun free (map entry_of (take l.record-index l.records)) (vec_items l.lines) (option_map (world s.meaning) l.unit)
