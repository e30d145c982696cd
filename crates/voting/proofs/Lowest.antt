-- What `find` gives over the keys is the lowest that passes the test.
use Rattle.std.proofs.Common.{◌≡◌, ℕ, zero, suc, ◌+◌, Bool, Some, cond, refl, ap}
use Rattle.std.specs.List.{find, range_with_len}
use Rattle.rules.specs.Voting.{lowest_from}

pub find_is_lowest : (more k : ℕ) (test : ℕ → Bool) → find test (range_with_len k more) ≡ lowest_from more k test
find_is_lowest zero k test = refl
find_is_lowest (suc more) k test = ap (cond (test k) (Some k)) (find_is_lowest more (k + 1) test)
