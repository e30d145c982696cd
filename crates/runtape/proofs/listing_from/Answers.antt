use Rattle.std.proofs.Common.{◌≡◌, rules, Ok, string_bytes, refl, ap, ◌∙◌}
use Rattle.std.proofs.lemmas.Result.{IfOk-at_ok}
use Rattle.listing.specs.Text.{lines as text_of}
use Rattle.catalogue.specs.Tables.{world}
use Rattle.runtape.proofs.Lists.{of_entries, of_input, of_take}
use Rattle.runtape.proofs.listing_from.Goals as goal

pub returns : goal.returns
returns g c =
    let s = g.S.VersionStore in
    let report = c.in_ok-report.report in
    let is : c.run_tape.result ≡ Ok report = search rules in
    let listed = c.in_ok-listing.ensures ∙ ap text_of c.as_slice-2.ensures.value in
    let read = of_take g.R.Read.remaining c.take.result.limit c.take.result.inner c.args.input c.new-tape.result.items c.read_to_end.new.buf.items c.as_slice.result.now c.take.ensures.limit c.take.ensures.inner c.new-tape.ensures.items c.as_slice.ensures.value c.in_ok-read_to_end.ensures.bytes in
    let ran = IfOk-at_ok _ is c.run_tape.ensures.ran in
    let told = IfOk-at_ok _ is c.run_tape.ensures.told in
    let text = string_bytes c.in_ok-listing.listing in
    record {
      some_tape = (c.as_slice.result.now, of_entries (world s.meaning) (λ o. s.free o.store) report.lines.items report.catalogue text listed c.as_slice.result.now c.as_slice.result.now refl ran told);
      its_tape = of_input (world s.meaning) (λ o. s.free o.store) report.lines.items report.catalogue text listed (g.R.Read.remaining c.args.input) c.as_slice.result.now read ran told;
    }
