use Rattle.std.proofs.Common.{◌≡◌, nat_lt, [], ◌∷◌, ◌++◌, map, length, Err, vec_items, sym, ap, ◌∙◌, subst, append-nil, arith, rules}
use Rattle.std.proofs.lemmas.List.{map_push}
use Rattle.std.proofs.lemmas.Bool.{le-ltb, cond-false}
use Rattle.calls.specs.declared.refusal.Refusal.TheVariants.{UnreadableTape}
use Rattle.tape.specs.Trips.{LaidOut}
use Rattle.tape.specs.Records.{entry_of}
use Rattle.tape.specs.Reading.{requested, read_tape}
use Rattle.tape.proofs.LaysOut.{lays_out_again}
use Rattle.tape.proofs.Records.{rest_from, rest_none, read_more}
use Rattle.tape.proofs.read.read.Goals as goal

pub loop-at-preserved : goal.loop-at-preserved
loop-at-preserved c =
    let done = map entry_of (vec_items c.loop-at.records) in
    let tape = c.args.tape.now in
    let at = c.loop-at.at in
    let content = requested c.record_at-next.result.0 in
    let next = c.record_at-next.result.1 in
    let items = c.in_ok-push-2.ensures.items in
    let joined : map entry_of (vec_items c.push-in-loop-at.new.self) ≡ done ++ (at, content) ∷ [] = search (rules, map_push, items) in
    ap (λ entries. entries ++ rest_from tape next) joined
    ∙ read_more done (rest_from tape 0) content next tape at c.record_at-next.ensures c.loop-at-test.true c.loop-at.invariant

pub returns : goal.returns
returns c =
    let done = map entry_of (vec_items c.loop-at.records) in
    let tape = c.args.tape.now in
    let all : done ≡ read_tape tape =
    sym (append-nil done)
    ∙ ap (λ rest. done ++ rest) (sym (rest_none tape c.loop-at.at c.loop-at-test.false))
    ∙ c.loop-at.invariant
    ∙ sym (cond-false (nat_lt 32768 (length tape)) ((0, Err UnreadableTape) ∷ []) (rest_from tape 0) (le-ltb 32768 (length tape) (omega arith))) in
    record {
      records = all;
      laid_out = subst (λ entries. LaidOut entries tape) (sym all) (lays_out_again tape (λ i. omega (arith, (c.type_inv.tape i).fits)));
    }
