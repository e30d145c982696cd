use Rattle.std.proofs.Common.{ℕ, ◌<◌, Bool, ◌&&◌, slice_index, rules, tests, ◌∙◌, ap, arith, length}
use Rattle.rules.specs.World.{bit, holds, wrote, written_at}
use Rattle.keys.proofs.Chains.{room_for_next, all_given}
use Rattle.keys.proofs.written.written_keys.Goals as goal

pub push-requires : goal.push-requires
push-requires c =
    let kept : ℕ → Bool = λ k. wrote c.args.x.now k && bit (slice_index c.args.placement.now k) c.args.p in
    let room : length c.loop-k.yielded < 64 =
    room_for_next kept _ _ c.into_iter-k-iterator.ensures.into_iter_gives (c.filter-k-items.ensures.source ∙ c.all_keys.ensures) c.filter-k-items.ensures.closure c.loop-k.yielded_by c.next.ensures.steps c.in-Some.is (λ x b q k. search (rules, tests)) in (
      omega arith,
      omega (arith, room, ap length c.loop-k.invariant),
    )

pub returns-clause-keys : goal.returns-clause-keys
unfolding written_at
returns-clause-keys c w placed =
    c.loop-k.invariant
    ∙ all_given (λ k. wrote c.args.x.now k && holds w c.args.p k) _ _ c.into_iter-k-iterator.ensures.into_iter_gives (c.filter-k-items.ensures.source ∙ c.all_keys.ensures) c.filter-k-items.ensures.closure c.loop-k.yielded_by c.next.ensures.steps c.in-None.is (λ x b q k. search (rules, tests, placed))
