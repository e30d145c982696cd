use Rattle.std.proofs.Common.{List, map, get_or, take, subst}
use Rattle.std.proofs.lemmas.List.{take_all}
use Rattle.tape.specs.declared.record.Record.{Record}
use Rattle.tape.specs.Reading.{Entry}
use Rattle.std.specs.Option.{option_map}
use Rattle.tape.specs.Records.{entry_of}
use Rattle.catalogue.specs.Tables.{world}
use Rattle.catalogue.proofs.Performs.{taken_more}
use Rattle.runner.specs.Running.{RecordsRun}
use Rattle.runner.proofs.RunsTape.{none_yet, one_more, no_record}
use Rattle.runner.proofs.run_records.Goals as goal

pub loop-record-init : goal.loop-record-init
loop-record-init g c = λ free any. none_yet free c.new-lines.result.items c.new-lines.ensures.items

pub loop-record-preserved : goal.loop-record-preserved
loop-record-preserved g c =
    let s = g.S.VersionStore in
    let before = option_map (world s.meaning) c.loop-record.unit in
    let after = option_map (world s.meaning) c.on_record.new.unit in
    let records = c.args.records.now in
    let i = c.loop-record.record-index in
    let lines = c.push.new.self.items in
    let e : Entry = entry_of (get_or records i no_record) in
    λ free counts.
    let earlier = c.in_ok-answer.ensures.rule free counts in
    let more = one_more free (map entry_of (take i records)) c.loop-record.lines.items before after (c.loop-record.invariant free earlier) e c.in_ok-answer.answer lines c.in_ok-push.ensures.items (c.in_ok-answer.ensures.step free earlier) in
    subst (λ (es : List Entry). RecordsRun free es lines after) (taken_more entry_of records i no_record c.loop-record-test.true) more

pub returns : goal.returns
returns g c =
    let s = g.S.VersionStore in
    let unit = option_map (world s.meaning) c.loop-record.unit in
    λ free counts.
    subst (λ (l : List Record). RecordsRun free (map entry_of l) c.loop-record.lines.items unit)
    (take_all c.loop-record.record-index c.args.records.now c.loop-record-test.false) (c.loop-record.invariant free counts)
