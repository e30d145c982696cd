use Rattle.std.proofs.Common.{rules, tests, sym, ◌∙◌}
use Rattle.std.proofs.lemmas.Iterator.{YieldsList-from_slice}
use Rattle.std.proofs.lemmas.Iterator.Search.{all_from_yields_List}
use Rattle.std.proofs.lemmas.List.Folds.{list_all-map}
use Rattle.calls.specs.declared.call.Call.{Call}
use Rattle.calls.specs.Requests.{request}
use Rattle.tape.specs.Writing.{writable}
use Rattle.tape.proofs.write.are_writable.Goals as goal

pub returns : goal.returns
returns c =
    all_from_yields_List (λ (x : Call). writable (request x)) _ _ _ c.all.ensures.ran (YieldsList-from_slice c.args.calls.now (cc)) (λ x b q k. search (rules, tests))
    ∙ sym (list_all-map writable request c.args.calls.now)
