use Rattle.std.proofs.Common.{◌≡◌, None, sym, ap, slice_get, ◌∙◌, arith}
use Rattle.std.proofs.lemmas.Bool.{cond-true}
use Rattle.store.proofs.Listed.{placed_in}
use Rattle.roll.specs.Entries.{entered, versions_of}
use Rattle.roll.proofs.Walk.{reached_next, within, answer_first, answer_here, answer_none}
use Rattle.roll.proofs.table.Roll.nth_version.Goals as goal

pub returns-in_err-place : goal.returns-in_err-place
unfolding entered
returns-in_err-place c =
    let inside = placed_in c.args.node c.args.key c.in_ok-chain_index.field-0 (sym c.chain_index.ensures ∙ c.in_ok-chain_index.was) in
    let past = answer_none _ _ _ _ _ c.loop.invariant c.args.steps c.in_err-place.was c.loop-test.true in
    c.from_residual-in_err-place.ensures ∙ sym (cond-true _ _ None inside ∙ past)

pub index-requires-in-loop : goal.index-requires-in-loop
index-requires-in-loop c =
    let long = c.args.self.now.entries.ok.0 in
    let below = within _ _ _ _ _ c.loop.invariant c.in_ok-place.field-0 c.in_ok-place.was in
    omega arith

pub loop-preserved : goal.loop-preserved
loop-preserved c =
    reached_next _ _ _ _ _ c.loop.invariant c.in_ok-place.field-0 c.in_ok-place.was c.index-in-loop.result.now c.index-in-loop.ensures c.args.self.now.linked

pub index-requires-in-Some : goal.index-requires-in-Some
index-requires-in-Some c =
    let long = c.args.self.now.entries.ok.0 in
    let below = within _ _ _ _ _ c.loop.invariant c.in-Some.i c.in-Some.is in
    omega arith

pub returns-in-Some : goal.returns-in-Some
unfolding entered
returns-in-Some c =
    let inside = placed_in c.args.node c.args.key c.in_ok-chain_index.field-0 (sym c.chain_index.ensures ∙ c.in_ok-chain_index.was) in
    let all : c.loop.counter ≡ c.args.steps = omega arith in
    let is = answer_here _ _ _ _ _ c.loop.invariant c.in-Some.i c.in-Some.is c.index-in-Some.result.now c.index-in-Some.ensures in
    sym (cond-true _ _ None inside ∙ ap (slice_get (versions_of c.args.node c.args.key c.args.self.now.entries.items)) (sym all) ∙ is)

pub returns-in-None : goal.returns-in-None
unfolding entered
returns-in-None c =
    let inside = placed_in c.args.node c.args.key c.in_ok-chain_index.field-0 (sym c.chain_index.ensures ∙ c.in_ok-chain_index.was) in
    let all : c.loop.counter ≡ c.args.steps = omega arith in
    let is = answer_first _ _ _ _ _ c.loop.invariant c.in-None.is in
    sym (cond-true _ _ None inside ∙ ap (slice_get (versions_of c.args.node c.args.key c.args.self.now.entries.items)) (sym all) ∙ is)
