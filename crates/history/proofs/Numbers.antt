-- The numbers: a node's frontier stays below the numbers of what is engaged there to write, and a committed update is applied at a write
-- node exactly when its stamp is at or below the frontier there.
use Rattle.std.proofs.Common.{◌≡◌, ℕ, ◌%◌, ◌<◌, ◌≤◌, true, ◌⊎◌, inl, inr, arith}
use Rattle.history.specs.Table.{update_at}
use Rattle.history.specs.Protocol.{Placement, Clock, Committed, State, fresh, status, wrote, stamp, counter, frontier, engaged, number, learned, applied, base_clock, Event, yes_write, yes_read, commit, WriteNode, next, MayCommit, Accepted}
use Rattle.history.proofs.Basics.{update_at₂, hit}
use Rattle.history.proofs.Locks.{Locks}

module _ (holds : Placement) (modulus : ℕ) where
  -- what a decision says of each slot of the commit clock
  pub commit_slot : (s : State) (t n : ℕ) (c : Clock) → MayCommit holds modulus s t n c → (q : ℕ) →
      (WriteNode holds s t q × (c q ≡ n) × (number s t q ≤ n) × (base_clock s t q < n)) ⊎ ((WriteNode holds s t q → ⊥) × (c q ≡ base_clock s t q))
  commit_slot s t n c ok q = elim (ok.slots q) [
    | inl h ↦ let m = (ok.stamped q h.0).has in inl (h.0, h.1, m.1 q h.0, m.2 q)
    | inr h ↦ inr h
  ]

  -- the commit clock is above the base clock
  pub commit_above : (s : State) (t n : ℕ) (c : Clock) → Accepted holds modulus s (commit t n c) → (q : ℕ) → base_clock s t q ≤ c q
  commit_above s t n c ok q = elim (commit_slot s t n c ok q) [ inl x ↦ let y = x.3 in let z = x.1 in omega arith | inr x ↦ let z = x.1 in omega arith ]

  abbrev pub Numbers : State → Type 0
  Numbers s = record {
    -- A number is given above the counter, and an update is applied only if its number is the least; so what stays engaged at a write node
    -- has a number above the frontier.  Numbers of different transactions leave different remainders, so they differ.
    engaged_number : (t p k : ℕ) → engaged s t p ≡ true → wrote s t k ≡ true → holds p k ≡ true →
        (frontier s p < number s t p) × (number s t p ≤ counter s p) × (number s t p % modulus ≡ t);
    -- The frontier is a number that was learned, and learning raises the counter.
    frontier_counted : (p : ℕ) → frontier s p ≤ counter s p;
    -- A stamp is not below the numbers that it replaces.
    number_stamp : (t p k : ℕ) → status s t ≡ Committed → wrote s t k ≡ true → holds p k ≡ true → engaged s t p ≡ true → number s t p ≤ stamp s t;
    -- The frontier never falls, and an apply sets it to the stamp.
    applied_stamp : (t p : ℕ) → applied s t p ≡ true → stamp s t ≤ frontier s p;
    -- The stamp of t leaves t.
    stamp_remainder : (t p k : ℕ) → status s t ≡ Committed → wrote s t k ≡ true → holds p k ≡ true → stamp s t % modulus ≡ t;
    -- At a write node that has learned the commit, the number is the stamp.
    learned_number : (t p k : ℕ) → status s t ≡ Committed → wrote s t k ≡ true → holds p k ≡ true → learned s t p ≡ true → number s t p ≡ stamp s t;
  }

  numbers_yes_write : (s : State) (t p n : ℕ) → Locks holds modulus s → Numbers s → Accepted holds modulus s (yes_write t p n) →
      Numbers (next holds s (yes_write t p n))
  numbers_yes_write s t p n l i ok = let m = ok.numbered.has in record {
    engaged_number = λ u q j e₁ e₂ e₃. elim (hit (engaged s) t p u q e₁) [
      | inr a ↦ let x = i.engaged_number u q j a e₂ e₃ in later u q x m.0 m.1
      | inl b ↦ let x = i.frontier_counted p in now u q b.0 b.1 x m.0 m.1
    ];
    frontier_counted = λ q. let x = i.frontier_counted q in grind arith;
    number_stamp = λ u q j e₁ e₂ e₃ e₄. let o = ok.vote.offered in grind arith;
    applied_stamp = i.applied_stamp;
    stamp_remainder = i.stamp_remainder;
    learned_number = λ u q j e₁ e₂ e₃ e₄. let o = ok.vote.offered in grind arith;
  }
    where
      Numbered : ℕ → ℕ → Type 0
      Numbered u q = (frontier s q < update_at₂ (number s) t p n u q) × (update_at₂ (number s) t p n u q ≤ update_at (counter s) p n q) × (update_at₂ (number s) t p n u q % modulus ≡ u)

      later : (u q : ℕ) → (frontier s q < number s u q) × (number s u q ≤ counter s q) × (number s u q % modulus ≡ u) → counter s p < n →
          n % modulus ≡ t → Numbered u q
      later u q x a b = (grind arith, grind arith, grind arith)

      now : (u q : ℕ) → u ≡ t → q ≡ p → frontier s p ≤ counter s p → counter s p < n → n % modulus ≡ t → Numbered u q
      now u q d e x a b = (grind arith, grind arith, grind arith)

  numbers_yes_read : (s : State) (t p : ℕ) → Locks holds modulus s → Numbers s → Accepted holds modulus s (yes_read t p) →
      Numbers (next holds s (yes_read t p))
  numbers_yes_read s t p l i ok = record {
    engaged_number = λ u q j e₁ e₂ e₃. elim (hit (engaged s) t p u q e₁) [ inr a ↦ i.engaged_number u q j a e₂ e₃ | inl b ↦ absurd (ok.only_read (j, (rw b.0 at e₂), (rw b.1 at e₃))) ];
    frontier_counted = i.frontier_counted;
    number_stamp = λ u q j e₁ e₂ e₃ e₄. let o = ok.vote.offered in grind arith;
    applied_stamp = i.applied_stamp;
    stamp_remainder = i.stamp_remainder;
    learned_number = i.learned_number;
  }

  numbers_commit : (s : State) (t n : ℕ) (c : Clock) → Locks holds modulus s → Numbers s → Accepted holds modulus s (commit t n c) →
      Numbers (next holds s (commit t n c))
  numbers_commit s t n c l i ok = record {
    engaged_number = i.engaged_number;
    frontier_counted = i.frontier_counted;
    number_stamp = λ u q j e₁ e₂ e₃ e₄. let m = stamped u q j e₂ e₃ in let x = i.number_stamp u q j in grind arith;
    applied_stamp = λ u q e. grind arith;
    stamp_remainder = λ u q j e₁ e₂ e₃. let m = stamped u q j e₂ e₃ in let x = i.stamp_remainder u q j in grind arith;
    learned_number = λ u q j e₁ e₂ e₃ e₄. grind arith;
  }
    where
      stamped : (u q j : ℕ) → wrote s u j ≡ true → holds q j ≡ true → u ≡ t → (n % modulus ≡ u) × (number s u q ≤ n)
      stamped u q j w g e = let m = (ok.stamped q (j, rw e at w, g)).has in rw e (m.0, m.1 q (j, rw e at w, g))

  pub numbers : (s : State) (e : Event) → Locks holds modulus s → Numbers s → Accepted holds modulus s e → Numbers (next holds s e)
  numbers s (yes_write t p n) l i ok = numbers_yes_write s t p n l i ok
  numbers s (yes_read t p) l i ok = numbers_yes_read s t p l i ok
  numbers s (commit t n c) l i ok = numbers_commit s t n c l i ok
  numbers s e l i ok = grind arith

  pub numbers_fresh : Numbers fresh
  numbers_fresh = grind arith
