use Rattle.std.proofs.Common.{◌≡◌, ℕ, ◌-◌, is_some, Some, rules, slice_set, sym, refl, ap, ◌∙◌, subst, arith}
use Rattle.std.proofs.lemmas.Bool.Decides.{nat_tests}
use Rattle.std.proofs.lemmas.Grind.{common_steps}
use Rattle.store.specs.Model.{fresh}
use Rattle.rules.specs.World.{transaction}
use Rattle.rules.specs.Deciding.{stamp_of}
use Rattle.records.specs.Bounds.{TransactionWithin}
use Rattle.catalogue.specs.Tables.{world_of}
use Rattle.catalogue.proofs.Replacing.{raised_bound, all_within}
use Rattle.catalogue.proofs.Stamps.{commits}
use Rattle.catalogue.proofs.table.Table.commit.Goals as goal

pub unwrap-requires : goal.unwrap-requires
unwrap-requires c =
    let table = c.args.self.now in
    let is : c.index_mut.result.now ≡ transaction (world_of table fresh) c.args.t = grind (arith, common_steps, nat_tests) in
    ap is_some (commits table fresh c.args.t c.commit.result c.commit.new.x c.index_mut.result.now is c.requires.undecided (c.commit.ensures.within (world_of table fresh) (sym c.deref.ensures.value))).stamp

pub invariant_of-self : goal.invariant_of-self
invariant_of-self c =
    let table = c.args.self.now in
    let y = c.commit.new.x in
    let is : c.index_mut.result.now ≡ transaction (world_of table fresh) c.args.t = grind (arith, common_steps, nat_tests) in
    let raises = (commits table fresh c.args.t c.commit.result y c.index_mut.result.now is c.requires.undecided (c.commit.ensures.within (world_of table fresh) (sym c.deref.ensures.value))).raises in
    let bound = raised_bound table c.args.t y c.requires.begun raises.once in
    let once = raises.once in
    let bounds = all_within table c.args.t (c.from.result - 1) y (omega arith) c.requires.begun (omega arith) (subst (λ (b : ℕ). TransactionWithin b y) (sym bound) raises.within) in
    record {
      some_nodes = table.some_nodes;
      few_nodes = table.few_nodes;
      few_keys = table.few_keys;
      room = table.room;
      few_transactions = table.few_transactions;
      nodes_within = bounds.nodes;
      collected_within = bounds.collected;
      decided_within = bounds.decided;
    }

pub returns-clause-stamp : goal.returns-clause-stamp
returns-clause-stamp c = λ m.
    let table = c.args.self.now in
    let is : c.index_mut.result.now ≡ transaction (world_of table fresh) c.args.t = grind (arith, common_steps, nat_tests) in
    let stamp : c.commit.result ≡ Some (stamp_of (world_of table m) c.args.t (transaction (world_of table fresh) c.args.t)) = (commits table m c.args.t c.commit.result c.commit.new.x c.index_mut.result.now is c.requires.undecided (c.commit.ensures.within (world_of table m) (sym c.deref.ensures.value))).stamp in
    search (rules, stamp)

pub returns-clause-committed : goal.returns-clause-committed
returns-clause-committed c = λ m.
    let table = c.args.self.now in
    let xs = table.transactions.items in
    let y = c.commit.new.x in
    let is : c.index_mut.result.now ≡ transaction (world_of table fresh) c.args.t = grind (arith, common_steps, nat_tests) in
    let after = (commits table m c.args.t c.commit.result y c.index_mut.result.now is c.requires.undecided (c.commit.ensures.within (world_of table m) (sym c.deref.ensures.value))).after in
    let at : c.from.result - 1 ≡ c.args.t - 1 = omega arith in
    record {
      transactions = ap (λ (i : ℕ). slice_set xs i y) at ∙ ap (slice_set xs (c.args.t - 1)) after;
      nodes = refl;
      placement = refl;
    }
