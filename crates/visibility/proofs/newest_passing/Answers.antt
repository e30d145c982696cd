use Rattle.std.proofs.Common.{arith}
use Rattle.visibility.proofs.Chains.{within, chain_short, passing_here, newest_if_first, walked_on, passing_none, newest_if_none}
use Rattle.visibility.proofs.newest_passing.Goals as goal

pub returns-then-passes : goal.returns-then-passes
returns-then-passes g c =
    let m = g.S.VersionStore.meaning c.args.store.now in
    record {
      version = λ w parts.
          passing_here m w c.args.read c.args.clock c.args.p c.args.k c.loop-value.steps (c.loop-value.invariant w parts) c.in-Some.value c.in-Some.writer c.in-Some.ensures
          c.passes.result _ c.passes.ensures.value (c.commit_clock.ensures w parts) c.if-passes.true _ c.seen_after.ensures.version;
      newest = λ w parts.
          newest_if_first m w c.args.read c.args.clock c.args.p c.args.k c.loop-value.steps (c.loop-value.invariant w parts) c.in-Some.value c.in-Some.writer c.in-Some.ensures
          c.passes.result _ c.passes.ensures.value (c.commit_clock.ensures w parts) c.if-passes.true _ c.seen_after.ensures.newest;
    }

pub overflow_add-steps : goal.overflow_add-steps
overflow_add-steps g c =
    let m = g.S.VersionStore.meaning c.args.store.now in
    let inside = within m c.args.p c.args.k c.loop-value.steps c.in-Some.value c.in-Some.writer c.in-Some.ensures in
    let short = chain_short m c.args.p c.args.k _ (g.met.S.VersionStore.short c.args.store.now c.args.p c.args.k) in
    omega arith

pub loop-value-smaller : goal.loop-value-smaller
loop-value-smaller g c =
    let m = g.S.VersionStore.meaning c.args.store.now in
    let inside = within m c.args.p c.args.k c.loop-value.steps c.in-Some.value c.in-Some.writer c.in-Some.ensures in
    omega arith

pub loop-value-preserved : goal.loop-value-preserved
loop-value-preserved g c w parts =
    let m = g.S.VersionStore.meaning c.args.store.now in
    walked_on m w c.args.read c.args.clock c.args.p c.args.k c.loop-value.steps (c.loop-value.invariant w parts) c.in-Some.value c.in-Some.writer c.in-Some.ensures
    c.passes.result _ c.passes.ensures.value (c.commit_clock.ensures w parts) c.if-passes.false

pub returns : goal.returns
returns g c =
    let m = g.S.VersionStore.meaning c.args.store.now in
    record {
      version = λ w parts.
          passing_none m w c.args.read c.args.clock c.args.p c.args.k c.loop-value.steps (c.loop-value.invariant w parts) c.in_default.ensures _ c.seen_after-2.ensures.version;
      newest = λ w parts.
          newest_if_none m w c.args.read c.args.clock c.args.p c.args.k c.loop-value.steps (c.loop-value.invariant w parts) c.in_default.ensures _ c.seen_after-2.ensures.newest;
    }
