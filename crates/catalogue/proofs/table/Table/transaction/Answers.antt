use Rattle.std.proofs.Common.{◌-◌, rules}
use Rattle.calls.specs.declared.refusal.Refusal.TheVariants.{NoSuchTransaction}
use Rattle.store.specs.Model.{fresh}
use Rattle.rules.specs.declared.records.Transaction.{Transaction}
use Rattle.rules.specs.World.{is_begun, transaction}
use Rattle.records.specs.Bounds.{most, TransactionWithin}
use Rattle.catalogue.specs.Tables.{world_of}
use Rattle.catalogue.proofs.Answering.{if_lent}
use Rattle.catalogue.proofs.table.Table.transaction.Goals as goal

pub returns-clause-within : goal.returns-clause-within
returns-clause-within c =
    let table = c.args.self.now in
    let w = world_of table fresh in
    let t = c.args.t in
    if_lent (λ x. x.now) (λ (x : Transaction). TransactionWithin (most table.transactions.items) x) (is_begun w t) (transaction w t) NoSuchTransaction c.ok_or-2.result (search rules)
    (λ begun. (table.collected_within (t - 1), table.decided_within (t - 1)))
