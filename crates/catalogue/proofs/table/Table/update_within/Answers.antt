use Rattle.std.proofs.Common.{ℕ, sym, ap, ◌∙◌, subst, arith}
use Rattle.records.specs.Bounds.{most, TransactionWithin}
use Rattle.catalogue.proofs.Replacing.{kept_bound}
use Rattle.catalogue.proofs.table.Table.update_within.Goals as goal

pub change-requires-clause-grows : goal.change-requires-clause-grows
change-requires-clause-grows g c = λ a y changed. let same = c.requires.same a y changed in omega arith

pub change-requires-clause-within : goal.change-requires-clause-within
change-requires-clause-within g c = λ a y changed.
    let bound = kept_bound c.args.self.now c.args.t y c.requires.begun (c.requires.same a y changed) in
    subst (λ (b : ℕ). TransactionWithin b y) (sym bound) (c.requires.within a y changed)

pub returns-clause-bound : goal.returns-clause-bound
returns-clause-bound g c =
    let y = c.change.ensures.0 in
    let changed = c.change.ensures.1 in
    ap most c.change.ensures.2.transactions
    ∙ kept_bound c.args.self.now c.args.t y c.requires.begun (c.requires.same c.change.result y changed)
