-- The numbers that the calls give are the least with their property, and the update that apply takes has the least number.
use Rattle.std.proofs.Common.{◌≡◌, ℕ, zero, suc, ◌+◌, ◌-◌, ◌%◌, ◌<◌, ◌≤◌, max, Bool, true, false, ◌&&◌, nat_lt, ◌⊎◌, List, length, Some, None, fold, Option, sym, refl, ap, ◌∙◌, subst, inl, inr, ⊎_elim, arith}
use Rattle.std.specs.List.{range_with_len}
use Rattle.std.proofs.lemmas.Bool.{cases_Bool, cases_eq, cond-true, cond-false, and_parts, and_cases, both_ways, ltb-true, ltb-false}
use Rattle.std.proofs.lemmas.Bool.Decides.{nat_tests}
use Rattle.clock.proofs.Least.{least_leaving, highest_above, highest_below}
use Rattle.clock.specs.Clocks.{slot}
use Rattle.clock.specs.Numbers.{first_leaving, next_number, highest, stamp_number}
use Rattle.history.specs.Protocol.{Least, NextNumber}
use Rattle.rules.specs.World.{World}
use Rattle.rules.specs.Voting.{lowest_from}
use Rattle.rules.specs.Applying.{waits, number_at, sooner, least_waiting}

leaving : (n t : ℕ) → t < 256 → Least (λ m. (n ≤ m) × (m % 256 ≡ t)) (first_leaving 256 t 256 n)
leaving n t l = let found = least_leaving 256 t n l in record { has = found.has; least = found.least }

-- The next number is the least above the counter that leaves t.
pub next_number_least : (c t : ℕ) → t < 256 → NextNumber 256 c t (next_number 256 c t)
next_number_least c t l =
    let found = leaving (c + 1) t l in
    record { has = (omega (arith, found.has.0), found.has.1); least = λ m p. found.least m (omega (arith, p.0), p.1) }

-- The stamp is the least number that leaves t, is not below any of t's numbers, and is above every slot of the base.
pub stamp_number_least : (numbers base : List ℕ) (t : ℕ) → t < 256 →
    Least (λ m. (m % 256 ≡ t) × ((p : ℕ) → slot numbers p ≤ m) × ((q : ℕ) → slot base q < m)) (stamp_number 256 numbers base t)
stamp_number_least numbers base t l =
    let found = leaving (max (highest numbers) (highest base + 1)) t l in
    record {
      has = (found.has.1, (λ p. omega (arith, highest_above numbers p, found.has.0)), (λ q. omega (arith, highest_above base q, found.has.0)));
      least =
          λ m p.
          let above = p.2 0 in
          let numbered = highest_below numbers m (λ i _. p.1 i) in
          let based = highest_below base (m - 1) (λ i _. omega (arith, p.2 i)) in
          found.least m (omega arith, p.0);
    }

-- What a fold over a stretch of transactions finds, from the best so far.
module _ (w : World) (p : ℕ) where
  abbrev SoonerThan : ℕ → ℕ → ℕ → Type 0
  SoonerThan a n t = (u : ℕ) → a ≤ u → u < a + n → waits w p u ≡ true → number_at w p t ≤ number_at w p u

  sooner_too : (a n t : ℕ) → (waits w p a ≡ true → number_at w p t ≤ number_at w p a) → SoonerThan (a + 1) n t → SoonerThan a (suc n) t
  sooner_too a n t first rest u l m h = grind (arith, nat_tests)

  -- From a best so far, one that waits comes out.
  pub record FromBest (a n b : ℕ) (o : Option ℕ) : Type 0 where
    pub best : ℕ
    pub is : o ≡ Some best
    pub waiting : waits w p best ≡ true
    pub no_later : number_at w p best ≤ number_at w p b
    pub least : SoonerThan a n best
    pub among : (best ≡ b) ⊎ ((a ≤ best) × (best < a + n))

  from_best : (n a b : ℕ) → waits w p b ≡ true → FromBest a n b (fold (sooner w p) (Some b) (range_with_len a n))
  from_best zero a b h = record { best = b; is = refl; waiting = h; no_later = omega arith; least = λ u l m _. absurd (omega arith); among = inl refl }
  from_best (suc n) a b h =
      let test : Bool = waits w p a && nat_lt (number_at w p a) (number_at w p b) in
      ⊎_elim
      (λ (better : test ≡ true).
      let parts = and_parts (waits w p a) (nat_lt (number_at w p a) (number_at w p b)) better in
      let lower = ltb-true (number_at w p a) (number_at w p b) parts.1 in
      let rest = from_best n (a + 1) a parts.0 in
      let later = rest.no_later in
      record {
        best = rest.best;
        is = ap (λ o. fold (sooner w p) o (range_with_len (a + 1) n)) (cond-true test (Some a) (Some b) better) ∙ rest.is;
        waiting = rest.waiting;
        no_later = omega arith;
        least = sooner_too a n rest.best (λ _. later) rest.least;
        among = ⊎_elim (λ (e : rest.best ≡ a). inr (omega arith, omega arith)) (λ (e : (a + 1 ≤ rest.best) × (rest.best < (a + 1) + n)). inr (omega arith, omega arith)) rest.among;
      })
      (λ (worse : test ≡ false).
      let rest = from_best n (a + 1) b h in
      let later = rest.no_later in
      record {
        best = rest.best;
        is = ap (λ o. fold (sooner w p) o (range_with_len (a + 1) n)) (cond-false test (Some a) (Some b) worse) ∙ rest.is;
        waiting = rest.waiting;
        no_later = later;
        least =
            sooner_too a n rest.best
            (λ here.
            ⊎_elim
            (λ (no : waits w p a ≡ false). absurd (both_ways (waits w p a) no here))
            (λ (no : nat_lt (number_at w p a) (number_at w p b) ≡ false). let c = ltb-false (number_at w p a) (number_at w p b) no in omega arith)
            (and_cases (waits w p a) (nat_lt (number_at w p a) (number_at w p b)) worse))
            rest.least;
        among = ⊎_elim (λ (e : rest.best ≡ b). inl e) (λ (e : (a + 1 ≤ rest.best) × (rest.best < (a + 1) + n)). inr (omega arith, omega arith)) rest.among;
      })
      (cases_Bool test)

  -- From none, one comes out that waits with the least number, or none where none waits.
  abbrev FromNone : ℕ → ℕ → Option ℕ → Type 0
  FromNone a n None = (u : ℕ) → a ≤ u → u < a + n → waits w p u ≡ false
  FromNone a n (Some t) = (waits w p t ≡ true) × (a ≤ t) × (t < a + n) × SoonerThan a n t

  passed_by : (n a : ℕ) → waits w p a ≡ false → (o : Option ℕ) → FromNone (a + 1) n o → FromNone a (suc n) o
  passed_by n a e1 o e2 = grind (arith, nat_tests)

  from_none : (n a : ℕ) → FromNone a n (fold (sooner w p) None (range_with_len a n))
  from_none zero a = λ u l m. absurd (omega arith)
  from_none (suc n) a =
      ⊎_elim
      (λ (here : waits w p a ≡ true).
      let rest = from_best n (a + 1) a here in
      let later = rest.no_later in
      subst (FromNone a (suc n)) (sym (ap (λ o. fold (sooner w p) o (range_with_len (a + 1) n)) (cond-true (waits w p a) (Some a) None here) ∙ rest.is)) (
        rest.waiting,
        ⊎_elim (λ (e : rest.best ≡ a). omega arith) (λ (e : (a + 1 ≤ rest.best) × (rest.best < (a + 1) + n)). omega arith) rest.among,
        ⊎_elim (λ (e : rest.best ≡ a). omega arith) (λ (e : (a + 1 ≤ rest.best) × (rest.best < (a + 1) + n)). omega arith) rest.among,
        sooner_too a n rest.best (λ _. later) rest.least,
      ))
      (λ (away : waits w p a ≡ false).
      subst (FromNone a (suc n)) (sym (ap (λ o. fold (sooner w p) o (range_with_len (a + 1) n)) (cond-false (waits w p a) (Some a) None away)))
      (passed_by n a away (fold (sooner w p) None (range_with_len (a + 1) n)) (from_none n (a + 1))))
      (cases_Bool (waits w p a))

  -- The update that apply takes waits, and none that waits has a lower number.
  pub least_waiting_is : (t : ℕ) → least_waiting w p ≡ Some t → (waits w p t ≡ true) × (1 ≤ t) × (t < 1 + length w.transactions) × SoonerThan 1 (length w.transactions) t
  unfolding least_waiting
  least_waiting_is t e = subst (FromNone 1 (length w.transactions)) e (from_none (length w.transactions) 1)

  -- Where it takes none, none waits.
  pub none_waiting : least_waiting w p ≡ None → (u : ℕ) → 1 ≤ u → u < 1 + length w.transactions → waits w p u ≡ false
  unfolding least_waiting
  none_waiting e = subst (FromNone 1 (length w.transactions)) e (from_none (length w.transactions) 1)

-- The lowest key of a stretch that passes a test.
pub lowest_passes : (n a : ℕ) (test : ℕ → Bool) (k : ℕ) → lowest_from n a test ≡ Some k → (test k ≡ true) × ((j : ℕ) → a ≤ j → j < k → test j ≡ false)
lowest_passes zero a test k e = absurd cc
lowest_passes (suc n) a test k e =
    ⊎_elim
    (λ (here : test a ≡ true).
    let found : Some a ≡ Some k = sym (cond-true (test a) (Some a) (lowest_from n (a + 1) test) here) ∙ e in
    let same : a ≡ k = cc in
    (subst (λ (i : ℕ). test i ≡ true) same here, λ j l m. absurd (omega arith)))
    (λ (away : test a ≡ false).
    let rest = lowest_passes n (a + 1) test k (sym (cond-false (test a) (Some a) (lowest_from n (a + 1) test) away) ∙ e) in (
      rest.0,
      λ j l m. ⊎_elim (λ (e : a ≡ j). subst (λ (i : ℕ). test i ≡ false) e away) (λ (e : a ≡ j → ⊥). rest.1 j (omega arith) m) (cases_eq a j),
    ))
    (cases_Bool (test a))

pub none_passes : (n a : ℕ) (test : ℕ → Bool) → lowest_from n a test ≡ None → (j : ℕ) → a ≤ j → j < a + n → test j ≡ false
none_passes zero a test e j l m = absurd (omega arith)
none_passes (suc n) a test e j l m =
    ⊎_elim
    (λ (here : test a ≡ true).
    let found : Some a ≡ None = sym (cond-true (test a) (Some a) (lowest_from n (a + 1) test) here) ∙ e in
    absurd cc)
    (λ (away : test a ≡ false).
    ⊎_elim (λ (same : a ≡ j). subst (λ (i : ℕ). test i ≡ false) same away)
    (λ (other : a ≡ j → ⊥). none_passes n (a + 1) test (sym (cond-false (test a) (Some a) (lowest_from n (a + 1) test) away) ∙ e) j (omega arith) (omega arith))
    (cases_eq a j))
    (cases_Bool (test a))
