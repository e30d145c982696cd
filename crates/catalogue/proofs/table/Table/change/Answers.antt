use Rattle.std.proofs.Common.{◌≡◌, ◌-◌, refl, subst, arith}
use Rattle.std.proofs.lemmas.Bool.Decides.{nat_tests}
use Rattle.std.proofs.lemmas.Grind.{common_steps}
use Rattle.std.specs.Fn.{FnOnceReturnsAtMut}
use Rattle.store.specs.Model.{fresh}
use Rattle.rules.specs.declared.records.Transaction.{Transaction}
use Rattle.rules.specs.World.{transaction}
use Rattle.catalogue.specs.Tables.{world_of}
use Rattle.catalogue.proofs.Replacing.{all_within}
use Rattle.catalogue.proofs.table.Table.change.Goals as goal

pub invariant_of-self : goal.invariant_of-self
invariant_of-self g c =
    let table = c.args.self.now in
    let x = transaction (world_of table fresh) c.args.t in
    let y = c.change.new.arg2 in
    let is : c.index_mut.result.now ≡ x = grind (arith, common_steps, nat_tests) in
    let gave : FnOnceReturnsAtMut g.F.FnOnce c.args.change c.index_mut.result.now c.change.result y = record { shown = _; shows = refl; left = _; met = c.change.ensures; leaves = refl } in
    let changed : FnOnceReturnsAtMut g.F.FnOnce c.args.change x c.change.result y = subst (λ (z : Transaction). FnOnceReturnsAtMut g.F.FnOnce c.args.change z c.change.result y) is gave in
    let bounds = all_within table c.args.t (c.from.result - 1) y (omega arith) c.requires.begun (c.requires.grows c.change.result y changed) (c.requires.within c.change.result y changed) in
    record {
      some_nodes = table.some_nodes;
      few_nodes = table.few_nodes;
      few_keys = table.few_keys;
      room = table.room;
      few_transactions = table.few_transactions;
      nodes_within = bounds.nodes;
      collected_within = bounds.collected;
      decided_within = bounds.decided;
    }
