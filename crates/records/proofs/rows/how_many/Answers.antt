use Rattle.std.proofs.Common.{is_some, rules, tests, ◌∙◌}
use Rattle.std.proofs.lemmas.Iterator.{YieldsList-from_slice}
use Rattle.std.proofs.lemmas.Iterator.Consumers.{YieldsList-from_filter, count_from_yields_List}
use Rattle.records.proofs.Counts.{how_many_there}
use Rattle.records.proofs.rows.how_many.Goals as goal

pub returns : goal.returns
returns g c =
    let row = c.args.row.now in
    count_from_yields_List c.filter.result c.count.result c.count.ensures.ran (YieldsList-from_filter _ is_some (YieldsList-from_slice row cc) c.filter.ensures.closure (λ x b q k. search (rules, tests)))
    ∙ how_many_there row
