use Rattle.std.proofs.Common.{ℕ, sym, ap, ◌∙◌, subst, arith}
use Rattle.records.specs.Bounds.{most, TransactionWithin}
use Rattle.catalogue.proofs.Replacing.{raised_bound}
use Rattle.catalogue.proofs.Known.{known}
use Rattle.catalogue.proofs.table.Table.raise.Goals as goal

pub change-requires-clause-grows : goal.change-requires-clause-grows
change-requires-clause-grows g c = λ a y changed. let once = (c.requires.raised a y changed (known c.args.self.now c.args.t)).once in omega arith

pub change-requires-clause-within : goal.change-requires-clause-within
change-requires-clause-within g c = λ a y changed.
    let raised = c.requires.raised a y changed (known c.args.self.now c.args.t) in
    let bound = raised_bound c.args.self.now c.args.t y c.requires.begun raised.once in
    subst (λ (b : ℕ). TransactionWithin b y) (sym bound) raised.within

pub returns-clause-bound : goal.returns-clause-bound
returns-clause-bound g c =
    let y = c.change.ensures.0 in
    let changed = c.change.ensures.1 in
    ap most c.change.ensures.2.transactions
    ∙ raised_bound c.args.self.now c.args.t y c.requires.begun (c.requires.raised c.change.result y changed (known c.args.self.now c.args.t)).once
