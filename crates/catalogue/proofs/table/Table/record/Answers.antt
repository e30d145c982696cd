use Rattle.std.proofs.Common.{◌≡◌, arith}
use Rattle.std.proofs.lemmas.Bool.Decides.{nat_tests}
use Rattle.std.proofs.lemmas.Grind.{common_steps}
use Rattle.store.specs.Model.{fresh}
use Rattle.rules.specs.World.{transaction}
use Rattle.catalogue.specs.Tables.{world_of}
use Rattle.catalogue.proofs.Known.{transaction_known}
use Rattle.catalogue.proofs.table.Table.record.Goals as goal

pub returns-clause-within : goal.returns-clause-within
returns-clause-within c =
    let is : c.index.result.now ≡ transaction (world_of c.args.self.now fresh) c.args.t = grind (arith, common_steps, nat_tests) in
    transaction_known c.args.self.now c.args.t c.index.result.now is
