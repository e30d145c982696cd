use Rattle.std.proofs.Common.{ℕ, ◌-◌, sym, ap, ◌∙◌, subst, arith}
use Rattle.records.specs.Bounds.{most, TransactionWithin}
use Rattle.catalogue.proofs.Replacing.{kept_bound}
use Rattle.catalogue.proofs.table.Table.update.Goals as goal

pub change-requires-clause-grows : goal.change-requires-clause-grows
change-requires-clause-grows g c = λ a y changed. let same = (c.requires.kept a y changed).same in omega arith

pub change-requires-clause-within : goal.change-requires-clause-within
change-requires-clause-within g c = λ a y changed.
    let table = c.args.self.now in
    let kept = c.requires.kept a y changed in
    let bound = kept_bound table c.args.t y c.requires.begun kept.same in
    subst (λ (b : ℕ). TransactionWithin b y) (sym bound) (kept.within (most table.transactions.items) (table.collected_within (c.args.t - 1), table.decided_within (c.args.t - 1)))

pub returns-clause-bound : goal.returns-clause-bound
returns-clause-bound g c =
    let y = c.change.ensures.0 in
    let changed = c.change.ensures.1 in
    ap most c.change.ensures.2.transactions
    ∙ kept_bound c.args.self.now c.args.t y c.requires.begun (c.requires.kept c.change.result y changed).same
