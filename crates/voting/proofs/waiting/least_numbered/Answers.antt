use Rattle.std.proofs.Common.{◌≡◌, ◌+◌, ◌<◌, Some, rules, tests, sym, ap, ◌∙◌, arith, length}
use Rattle.std.proofs.lemmas.Iterator.{YieldsList-from_slice}
use Rattle.std.proofs.lemmas.Iterator.Consumers.{YieldsList-from_enumerate, YieldsList-from_filter}
use Rattle.rules.specs.Applying.{least_waiting}
use Rattle.rules.proofs.Least.{least_waiting_is}
use Rattle.voting.proofs.Least.{least_from_yields_List, least_found, number_found, is_waiting, number_of}
use Rattle.voting.proofs.waiting.least_numbered.Goals as goal

pub returns-in_err-i-clause-value : goal.returns-in_err-i-clause-value
returns-in_err-i-clause-value c w are placed =
    let least : number_found c.min_by_key.result ≡ least_waiting w c.args.p =
    least_found w c.args.p c.args.transactions.now are c.min_by_key.result
    (least_from_yields_List (λ z. (z.0, z.1.now)) (number_of w c.args.p) (λ z n q called. search (rules, tests))
    (YieldsList-from_filter _ (is_waiting w c.args.p) (YieldsList-from_enumerate (YieldsList-from_slice c.args.transactions.now (cc)) (cc)) c.filter.ensures.closure (λ z b q called. search (rules, tests, placed)))
    c.min_by_key.result c.min_by_key.ensures.ran) in
    c.from_residual.ensures ∙ ap number_found (sym c.in_err-i.was) ∙ least

pub returns-clause-value : goal.returns-clause-value
returns-clause-value c w are placed =
    let least : number_found c.min_by_key.result ≡ least_waiting w c.args.p =
    least_found w c.args.p c.args.transactions.now are c.min_by_key.result
    (least_from_yields_List (λ z. (z.0, z.1.now)) (number_of w c.args.p) (λ z n q called. search (rules, tests))
    (YieldsList-from_filter _ (is_waiting w c.args.p) (YieldsList-from_enumerate (YieldsList-from_slice c.args.transactions.now (cc)) (cc)) c.filter.ensures.closure (λ z b q called. search (rules, tests, placed)))
    c.min_by_key.result c.min_by_key.ensures.ran) in
    let here : Some (c.in_ok-i.i + 1) ≡ least_waiting w c.args.p = ap number_found (sym c.in_ok-i.was) ∙ least in
    let begun = (least_waiting_is w c.args.p (c.in_ok-i.i + 1) (sym here)).2 in
    let small : c.in_ok-i.i + 1 < 256 = omega (arith, ap length are, c.requires, begun) in
    let is : c.ok.result ≡ Some (c.in_ok-i.i + 1) = search (rules, small) in
    is ∙ here
