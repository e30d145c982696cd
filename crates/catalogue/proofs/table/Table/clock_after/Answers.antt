use Rattle.std.proofs.Common.{ℕ, ◌≤◌, List, slice_index_or, sym, subst}
use Rattle.clock.specs.Clocks.{slot}
use Rattle.rules.specs.declared.records.Kind.TheVariants.{Search}
use Rattle.rules.specs.declared.records.Transaction.{Transaction}
use Rattle.rules.specs.World.{new_transaction}
use Rattle.records.specs.Bounds.{most}
use Rattle.catalogue.proofs.table.Table.clock_after.Goals as goal

pub returns-clause-within : goal.returns-clause-within
returns-clause-within c =
    let table = c.args.self.now in
    let b = most table.transactions.items in
    c.clock_after.ensures.within b c.requires (subst (λ (l : List Transaction). (i q : ℕ) → slot (slice_index_or l i (new_transaction Search)).commit q ≤ b) (sym c.deref.ensures.value) (λ i. (table.decided_within i).0))
