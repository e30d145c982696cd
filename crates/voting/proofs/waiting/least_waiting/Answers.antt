use Rattle.std.proofs.Common.{◌≡◌, ℕ, ◌≤◌, true, length, take, min, Option, Some, None, IfSome, sym, ap, ◌∙◌, arith}
use Rattle.std.proofs.lemmas.List.{take_min, length-take}
use Rattle.std.proofs.lemmas.Bool.Decides.{nat_tests}
use Rattle.rules.specs.World.{World, is_begun}
use Rattle.voting.proofs.waiting.least_waiting.Goals as goal

pub returns-clause-first : goal.returns-clause-first
returns-clause-first c w are placed =
    let same : min (length c.args.transactions.now) 255 ≡ min 255 (length c.args.transactions.now) = omega arith in
    let numbered : take 255 c.args.transactions.now ≡ take c.min-numbered.result c.args.transactions.now =
    sym (ap (λ (n : ℕ). take n c.args.transactions.now) (c.min-numbered.ensures ∙ same) ∙ take_min 255 c.args.transactions.now) in
    c.least_numbered.ensures.value w (are ∙ numbered) placed

-- Who is begun among fewer is begun among more.
begun_among : (w v : World) → length v.transactions ≤ length w.transactions → (r : Option ℕ) → IfSome r (λ t. is_begun v t ≡ true) → IfSome r (λ t. is_begun w t ≡ true)
begun_among w v few None begun = begun
begun_among w v few (Some t) begun = grind (arith, nat_tests)

pub returns-clause-begun : goal.returns-clause-begun
returns-clause-begun c w are =
    let v : World = record w { transactions = take c.min-numbered.result c.args.transactions.now } in
    let few : length v.transactions ≤ length w.transactions = omega (arith, ap length are, length-take c.min-numbered.result c.args.transactions.now) in
    begun_among w v few c.least_numbered.result (c.least_numbered.ensures.begun v (λ i. v.transactions))
