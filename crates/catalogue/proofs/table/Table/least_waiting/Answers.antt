use Rattle.std.proofs.Common.{sym}
use Rattle.store.specs.Model.{fresh}
use Rattle.catalogue.specs.Tables.{world_of}
use Rattle.catalogue.proofs.table.Table.least_waiting.Goals as goal

pub returns-clause-begun : goal.returns-clause-begun
returns-clause-begun c = c.least_waiting.ensures.begun (world_of c.args.self.now fresh) (sym c.deref.ensures.value)
