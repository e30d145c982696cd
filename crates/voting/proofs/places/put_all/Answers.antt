use Rattle.std.proofs.Common.{ℕ, get_or, sym, refl, ap, ◌∙◌}
use Rattle.store.specs.Model.{put_after}
use Rattle.voting.proofs.Puts.{put_none, put_more}
use Rattle.voting.proofs.places.put_all.Goals as goal

pub loop-k-init : goal.loop-k-init
loop-k-init g c = (sym (put_none c.args.p c.args.t c.args.x.now (g.S.VersionStore.meaning c.args.store.now)), refl)

pub loop-k-preserved : goal.loop-k-preserved
loop-k-preserved g c =
    let s = g.S.VersionStore in
    let m = s.meaning c.args.store.now in
    let w = s.meaning c.loop-k.store in
    let p = c.args.p in
    let k = get_or c.args.keys.now c.loop-k.k-index 0 in (
      c.put.ensures.after ∙ (ap (λ (v : ℕ). put_after w p k (record { value = v; writer = c.args.t })) c.written_value.ensures
          ∙ put_more p c.args.t c.args.x.now m w c.args.keys.now c.loop-k.k-index c.loop-k-test.true c.loop-k.invariant.0),
      c.put.ensures.rule ∙ c.loop-k.invariant.1,
    )
