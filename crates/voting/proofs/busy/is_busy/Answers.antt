use Rattle.std.proofs.Common.{◌+◌, sym, refl, ◌∙◌, arith}
use Rattle.voting.proofs.Blocking.{apart_at_first, apart_more, none_at_first, none_past_idle, none_past, busy_with, not_busy}
use Rattle.voting.proofs.busy.is_busy.Goals as goal

pub transactions-init : goal.transactions-init
transactions-init c = (refl, none_at_first c.args.transactions.now c.args.placement.now c.args.t c.args.x.now c.args.p)

pub transactions-preserved-then-not-is_rival : goal.transactions-preserved-then-not-is_rival
transactions-preserved-then-not-is_rival c = (
  c.transactions.invariant.0,
  none_past_idle c.args.transactions.now c.args.placement.now c.args.t c.args.x.now c.args.p c.transactions.i _ (omega arith) c.transactions.invariant.1
      (sym c.is_rival.ensures ∙ c.if-not-is_rival.true),
)

pub loop-k-init : goal.loop-k-init
loop-k-init c = (c.transactions.invariant.0, apart_at_first c.args.placement.now c.args.x.now _ c.args.p, λ last. absurd (omega arith))

pub loop-k-preserved : goal.loop-k-preserved
loop-k-preserved c =
    let apart = apart_more c.args.placement.now c.args.x.now _ c.args.p c.loop-k.k c.loop-k.invariant.1 (λ w placed. sym (c.conflict_at.ensures w placed) ∙ c.if-conflict_at.false) in (
      c.loop-k.invariant.0,
      apart,
      λ last.
          none_past c.args.transactions.now c.args.placement.now c.args.t c.args.x.now c.args.p c.transactions.i _ (omega arith) c.transactions.invariant.1
          (c.loop-k.k + 1) last apart,
    )

pub returns-after-transactions : goal.returns-after-transactions
returns-after-transactions c w are placed x_is =
    c.transactions.invariant.0
    ∙ not_busy c.args.transactions.now c.args.placement.now c.args.t c.args.x.now c.args.p c.transactions.i (omega arith) c.transactions.invariant.1 w are placed x_is

pub returns-then-conflict_at : goal.returns-then-conflict_at
returns-then-conflict_at c =
    busy_with c.args.transactions.now c.args.placement.now c.args.t c.args.x.now c.args.p c.transactions.i _ (omega arith)
    (sym c.is_rival.ensures ∙ c.if-not-is_rival.false) c.loop-k.k (omega arith) (λ w placed. sym (c.conflict_at.ensures w placed) ∙ c.if-conflict_at.true)
