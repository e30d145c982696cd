use Rattle.std.proofs.Common.{rules, tests}
use Rattle.stamping.proofs.Stamps.{stamped_by, commit_within}
use Rattle.stamping.proofs.commit_clock_of.Goals as goal

pub returns-clause-value : goal.returns-clause-value
returns-clause-value c w placed =
    stamped_by w c.args.x.now c.args.number c.write_nodes-nodes.result c.base_clock-base.result c.from_fn.result (c.write_nodes-nodes.ensures w placed) c.base_clock-base.ensures c.from_fn.ensures.items
    (λ k y q l called. search (rules, tests))

pub returns-clause-within : goal.returns-clause-within
returns-clause-within c = commit_within c.args.placement.now c.args.x.now c.args.number c.from_fn.result (returns-clause-value c)
