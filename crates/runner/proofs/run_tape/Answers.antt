use Rattle.std.proofs.Common.{◌≡◌, map, vec_items, ap, ◌∙◌}
use Rattle.std.specs.Option.{option_map}
use Rattle.std.proofs.lemmas.Result.{IfOk-weaker}
use Rattle.tape.specs.Records.{entry_of}
use Rattle.tape.specs.Reading.{read_tape}
use Rattle.catalogue.specs.Tables.{world}
use Rattle.runner.proofs.RunsTape.{tape_run, tape_told}
use Rattle.runner.proofs.run_tape.Goals as goal

pub returns : goal.returns
returns g c =
    let s = g.S.VersionStore in
    let entries = map entry_of c.as_slice.result.now in
    let are : entries ≡ read_tape c.args.tape.now = ap (map entry_of) c.as_slice.ensures.value ∙ c.in_ok-records.ensures.records in
    record {
      ran = IfOk-weaker c.run_records.result _ _ (λ o p free counts. tape_run free c.args.tape.now entries (vec_items o.lines) (option_map (world s.meaning) o.catalogue) are (p free counts)) c.run_records.ensures;
      told = IfOk-weaker c.run_records.result _ _ (λ o p free counts. tape_told free c.args.tape.now entries (vec_items o.lines) (option_map (world s.meaning) o.catalogue) are (p free counts)) c.run_records.ensures;
    }
