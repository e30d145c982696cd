use Rattle.std.proofs.Common.{◌<◌, length, sym, refl, ◌∙◌, arith}
use Rattle.store.proofs.Listed.{placed}
use Rattle.roll.specs.Moves as moves
use Rattle.roll.proofs.Links.{heads_aside}
use Rattle.roll.specs.declared.head.ChainHead.{ChainHead}
use Rattle.roll.proofs.table.Roll.set_aside_at.Goals as goal

pub overflow_sub-self : goal.overflow_sub-self
overflow_sub-self c =
    let at = sym c.chain_index.ensures ∙ c.in-Some.is in
    (moves.covered c.args.self.now c.args.node c.args.key c.in-Some.i c.index_mut-chain.result.now at c.index_mut-chain.ensures.value).1

pub overflow_add-self : goal.overflow_add-self
overflow_add-self c =
    let r = c.args.self.now in
    let at = sym c.chain_index.ensures ∙ c.in-Some.is in
    let is = moves.covered r c.args.node c.args.key c.in-Some.i c.index_mut-chain.result.now at c.index_mut-chain.ensures.value in
    let left = moves.room_is r in
    let few = r.fits in
    let allowed = c.requires.allowed in
    omega arith

pub invariant_of-self : goal.invariant_of-self
invariant_of-self c =
    let r = c.args.self.now in
    let x = c.index_mut-chain.result.now in
    let y : ChainHead = record x { aside = c.args.places } in
    let at = sym c.chain_index.ensures ∙ c.in-Some.is in
    let raw = c.index_mut-chain.ensures.value in
    let is = moves.covered r c.args.node c.args.key c.in-Some.i x at raw in
    let total = moves.written_aside r c.args.node c.args.key c.in-Some.i x at raw y in
    let stored = moves.written_stored r c.args.node c.args.key c.in-Some.i x at raw y in
    let left = moves.room_is r in
    let few = r.fits in
    let allowed = c.requires.allowed in
    let long = sym r.chains.ok.0 ∙ r.whole in
    let p = placed c.args.node c.args.key c.in-Some.i at in
    let below : c.in-Some.i < length r.chains.items = omega arith in
    record {
      roomy = r.roomy;
      whole = r.whole;
      fits = omega arith;
      counted = stored;
      summed = omega arith;
      headed = heads_aside r.chains.items r.entries.items c.args.node c.args.key c.in-Some.i x y r.headed at below raw refl;
      linked = r.linked;
    }
