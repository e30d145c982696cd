use Rattle.std.proofs.Common.{◌≡◌, ◌^◌, ◌<◌, rules, arith}
use Rattle.clock.specs.Numbers.{next_number}
use Rattle.catalogue.proofs.Votes.{most_few, next_near, fits_some}
use Rattle.catalogue.proofs.table.Table.next_number.Goals as goal

pub unwrap-requires : goal.unwrap-requires
unwrap-requires c =
    let table = c.args.self.now in
    let long = table.transactions.ok.0 in
    let count = table.few_transactions in
    let few = most_few table.transactions.items (omega arith) in
    let near = next_near c.args.counter c.args.t (omega arith) in
    let small : next_number 256 c.args.counter c.args.t < 2 ^ 32 = omega arith in
    fits_some c.next.result (next_number 256 c.args.counter c.args.t) small c.next.ensures

pub returns-clause-bound : goal.returns-clause-bound
returns-clause-bound c =
    let near = next_near c.args.counter c.args.t (omega arith) in
    let is : c.unwrap.result ≡ next_number 256 c.args.counter c.args.t = search rules in
    omega arith
