use Rattle.std.proofs.Common.{◌≡◌, ◌<◌, Some, length, sym, refl, ap, ◌∙◌, subst, arith}
use Rattle.store.proofs.Listed.{placed}
use Rattle.roll.specs.declared.entry.Entry.{Entry}
use Rattle.roll.specs.declared.head.ChainHead.{ChainHead}
use Rattle.roll.specs.Links.{HeadsNameNewest, LinksNameOlder}
use Rattle.roll.specs.Moves as moves
use Rattle.roll.proofs.Links.{heads_push, linked_push, newest_read}
use Rattle.roll.proofs.table.Roll.push.Goals as goal

pub push_reserved-requires : goal.push_reserved-requires
push_reserved-requires c =
    let r = c.args.self.now in
    let left = moves.room_is r in
    let free = c.requires.free in
    let roomy = r.roomy in
    omega arith

pub invariant_of-self : goal.invariant_of-self
invariant_of-self c =
    let r = c.args.self.now in
    let x = c.index_mut-chain.result.now in
    let raw = c.index_mut-chain.ensures.value in
    let at = sym c.chain_index.ensures ∙ c.in-Some.is in
    let p = placed c.args.node c.args.key c.in-Some.i at in
    let e : Entry = record { node = c.args.node; key = c.args.key; version = c.args.version; older = x.newest } in
    let y : ChainHead = record x { newest = Some c.len.result } in
    let es = c.push_reserved.new.self.items in
    let pushed = c.push_reserved.ensures.items in
    let kept = moves.asides_kept r.chains.items c.in-Some.i x y raw refl in
    let aside = moves.pushed_aside r e p.0 p.1 es pushed _ kept in
    let stored = moves.pushed_stored r e p.0 p.1 es pushed _ kept in
    let len = c.push_reserved.ensures.len in
    let cap = c.push_reserved.ensures.capacity in
    let left = moves.room_is r in
    let free = c.requires.free in
    let roomy = r.roomy in
    let long = sym r.chains.ok.0 ∙ r.whole in
    let below : c.in-Some.i < length r.chains.items = omega arith in
    let newest : c.len.result ≡ length r.entries.items = c.len.ensures ∙ r.entries.ok.0 in
    record {
      roomy = omega arith;
      whole = r.whole;
      fits = omega arith;
      counted = omega arith;
      summed = aside;
      headed = subst (HeadsNameNewest _) (sym pushed) (heads_push r.chains.items r.entries.items e c.in-Some.i y r.headed at below (ap Some newest));
      linked = subst LinksNameOlder (sym pushed) (linked_push r.entries.items e r.linked (newest_read r.chains.items r.entries.items c.args.node c.args.key c.in-Some.i x r.headed long at raw));
    }

pub returns-in-Some : goal.returns-in-Some
returns-in-Some c =
    let r = c.args.self.now in
    let x = c.index_mut-chain.result.now in
    let at = sym c.chain_index.ensures ∙ c.in-Some.is in
    let p = placed c.args.node c.args.key c.in-Some.i at in
    let e : Entry = record { node = c.args.node; key = c.args.key; version = c.args.version; older = x.newest } in
    let y : ChainHead = record x { newest = Some c.len.result } in
    let kept = moves.asides_kept r.chains.items c.in-Some.i x y c.index_mut-chain.ensures.value refl in
    record {
      after = moves.pushed_is r e p.0 p.1 c.push_reserved.new.self.items c.push_reserved.ensures.items _ kept;
      room = moves.pushed_room r e p.0 p.1 c.push_reserved.new.self.items c.push_reserved.ensures.items _ kept c.requires.free;
    }
