-- All chains in one list: what a read and a write at an index mean.
use Rattle.std.proofs.Common.{◌≡◌, ℕ, ◌+◌, ◌*◌, ◌<◌, true, cond, List, length, get_or, set, replicate, Some, sym, ap, ◌∙◌, arith}
use mathlib.Core.Path.{fun_ext}
use Rattle.std.proofs.lemmas.List.{get_or-set_same, get_or-set_other, get_or-replicate}
use Rattle.std.proofs.lemmas.Bool.{cond-true}
use Rattle.std.proofs.lemmas.Bool.Decides.{nat_tests}
use Rattle.store.specs.Model.{Chain, in_range, with_chain, first_chain, fresh}
use Rattle.store.specs.Index.{listed, index_of}

-- What an index says of its node and key.
pub placed : (n k i : ℕ) → index_of n k ≡ Some i → (n < 8) × (k < 64) × (i ≡ n * 64 + k)
placed n k i e = (grind (arith, nat_tests), grind (arith, nat_tests), grind (arith, nat_tests))

pub placed_in : (n k i : ℕ) → index_of n k ≡ Some i → in_range n k ≡ true
placed_in n k i e = grind (arith, nat_tests)

listed_at : (cs : List Chain) (n k : ℕ) → n < 8 → k < 64 → listed cs n k ≡ get_or cs (n * 64 + k) first_chain
listed_at cs n k hn hk = grind (arith, nat_tests)

set_at : (cs : List Chain) (node key : ℕ) (c : Chain) → node < 8 → key < 64 → length cs ≡ 512 → (n k : ℕ) → listed (set cs (node * 64 + key) c) n k ≡ with_chain (listed cs) node key c n k
set_at cs node key c hn hk long n k =
    let same = get_or-set_same cs (node * 64 + key) c first_chain (omega arith) in
    let other = get_or-set_other cs (node * 64 + key) (n * 64 + k) c first_chain in
    grind (arith, nat_tests, same, other)

fresh_at : (n k : ℕ) → listed (replicate 512 first_chain) n k ≡ first_chain
fresh_at n k =
    let there = get_or-replicate 512 (n * 64 + k) first_chain first_chain in
    grind (arith, nat_tests, there)

pub listed_fresh : listed (replicate 512 first_chain) ≡ fresh
listed_fresh = fun_ext (λ n. fun_ext (λ k. fresh_at n k))

-- One chain of the list, at its index.
module _ (cs : List Chain) (node key i : ℕ) where
  pub read_is : (c : Chain) → index_of node key ≡ Some i → length cs ≡ 512 → get_or cs i first_chain ≡ c → listed cs node key ≡ c
  read_is c at long here = let p = placed node key i at in listed_at cs node key p.0 p.1 ∙ ap (λ j. get_or cs j first_chain) (sym p.2) ∙ here

  pub write_is : index_of node key ≡ Some i → length cs ≡ 512 → (c : Chain) → listed (set cs i c) ≡ cond (in_range node key) (with_chain (listed cs) node key c) (listed cs)
  write_is at long c =
      let p = placed node key i at in
      ap (λ j. listed (set cs j c)) p.2
      ∙ fun_ext (λ n. fun_ext (λ k. set_at cs node key c p.0 p.1 long n k))
      ∙ sym (cond-true (in_range node key) (with_chain (listed cs) node key c) (listed cs) (placed_in node key i at))
