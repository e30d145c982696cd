-- The clock of a transaction after a read: which commit clocks pass, and what their join is.
use Rattle.std.proofs.Common.{◌≡◌, ℕ, zero, suc, ◌+◌, ◌-◌, ◌<◌, ◌≤◌, max, Bool, true, false, cond, ◌&&◌, ◌⊎◌, List, [], ◌∷◌, length, slice_index_or, Decides, fold, sym, refl, ap, ◌∙◌, subst, inl, inr, ⊎_elim, arith, ◌==◌}
use Rattle.std.proofs.lemmas.Bool.{and_parts, and_from, cases_lt, cases_Bool, both_ways, cond-false}
use Rattle.std.proofs.lemmas.Bool.Decides.{nat_tests}
use Rattle.std.proofs.lemmas.Grind.{common_steps}
use Rattle.clock.proofs.Joins.{length-join, slot_past}
use Rattle.clock.proofs.Passing.{passes_decides}
use Rattle.clock.specs.Clocks.{slot, join, marked, passes}
use Rattle.history.specs.Protocol as protocol
use Rattle.rules.specs.declared.records.Kind.TheVariants.{Search}
use Rattle.rules.specs.declared.records.Transaction.{Transaction}
use Rattle.rules.specs.World.{World, is_begun, transaction, zero_clock, new_transaction}
use Rattle.rules.specs.Reading.{commit_clock, clock_after}
use Rattle.rules.proofs.View.{view}
use Rattle.rules.proofs.Invariant.{Invariant}
use Rattle.rules.proofs.Views.{view_begun, participation_begun, begun_place}

-- ── Clocks that pass ──

-- Only nodes below 8 are marked.
pub marked_below : (row : List Bool) (q : ℕ) → length row ≡ 8 → marked row q ≡ true → q < 8
marked_below row q wide e = grind (arith, nat_tests, common_steps)

pub pass_decides : (read : List Bool) (commit clock : List ℕ) → length read ≡ 8 → Decides (passes read commit clock) ((q : ℕ) → marked read q ≡ true → slot commit q ≤ slot clock q)
pass_decides read commit clock wide =
    let below = passes_decides read commit clock in
    (λ e q m. below.0 e q (marked_below read q wide m) m, λ h. below.1 (λ q l m. h q m))

-- ── A join of many clocks ──

module _ (test : Transaction → Bool) where
  -- The clocks of those that pass the test, joined to a clock.
  abbrev pub joined_by : List ℕ → Transaction → List ℕ
  joined_by joined u = cond (test u) (join joined u.commit) joined

  pub joined_length : (joined : List ℕ) (us : List Transaction) → length joined ≡ 8 → length (fold joined_by joined us) ≡ 8
  joined_length joined [] wide = wide
  joined_length joined (u ∷ us) wide =
      joined_length (joined_by joined u) us
      (⊎_elim (λ (e : test u ≡ true). rw e (length-join joined u.commit)) (λ (e : test u ≡ false). rw e wide) (cases_Bool (test u)))

  -- One more is joined in, or not.
  one_joined : (joined : List ℕ) (u : Transaction) (q : ℕ) → q < 8 → slot (joined_by joined u) q ≡ cond (test u) (max (slot joined q) (slot u.commit q)) (slot joined q)
  one_joined joined u q l = grind (arith, nat_tests)

  pub joined_above : (joined : List ℕ) (us : List Transaction) (q : ℕ) → q < 8 → slot joined q ≤ slot (fold joined_by joined us) q
  joined_above joined [] q l = omega arith
  joined_above joined (u ∷ us) q l =
      let rest = joined_above (joined_by joined u) us q l in
      let here = one_joined joined u q l in
      ⊎_elim (λ (e : test u ≡ true). let now : slot (joined_by joined u) q ≡ max (slot joined q) (slot u.commit q) = here ∙ rw e refl in omega arith)
      (λ (e : test u ≡ false). let now : slot (joined_by joined u) q ≡ slot joined q = here ∙ rw e refl in omega arith) (cases_Bool (test u))

  pub joined_takes : (joined : List ℕ) (us : List Transaction) (i q : ℕ) (d : Transaction) → q < 8 → i < length us → test (slice_index_or us i d) ≡ true →
      slot (slice_index_or us i d).commit q ≤ slot (fold joined_by joined us) q
  joined_takes joined [] i q d l below e = absurd (omega arith)
  joined_takes joined (u ∷ us) zero q d l below e =
      let rest = joined_above (joined_by joined u) us q l in
      let now : slot (joined_by joined u) q ≡ max (slot joined q) (slot u.commit q) = one_joined joined u q l ∙ rw e refl in
      omega arith
  joined_takes joined (u ∷ us) (suc i) q d l below e = joined_takes (joined_by joined u) us i q d l (omega arith) e

  pub joined_least : (joined : List ℕ) (us : List Transaction) (q : ℕ) (d : Transaction) → q < 8 →
      (slot (fold joined_by joined us) q ≡ slot joined q)
      ⊎ ((i : ℕ) × (i < length us) × (test (slice_index_or us i d) ≡ true) × (slot (fold joined_by joined us) q ≡ slot (slice_index_or us i d).commit q))
  joined_least joined [] q d l = inl refl
  joined_least joined (u ∷ us) q d l =
      ⊎_elim
      (λ (e : slot (fold joined_by (joined_by joined u) us) q ≡ slot (joined_by joined u) q).
      ⊎_elim
      (λ (h : test u ≡ true).
      let now : slot (joined_by joined u) q ≡ max (slot joined q) (slot u.commit q) = one_joined joined u q l ∙ rw h refl in
      ⊎_elim (λ (m : slot joined q < slot u.commit q). inr (0, omega arith, h, omega arith)) (λ (m : slot u.commit q ≤ slot joined q). inl (omega arith)) (cases_lt (slot joined q) (slot u.commit q)))
      (λ (h : test u ≡ false). inl (e ∙ one_joined joined u q l ∙ rw h refl))
      (cases_Bool (test u)))
      (λ (f : (i : ℕ) × (i < length us) × (test (slice_index_or us i d) ≡ true) × (slot (fold joined_by (joined_by joined u) us) q ≡ slot (slice_index_or us i d).commit q)).
      inr (suc f.0, omega (arith, f.1), f.2, f.3))
      (joined_least (joined_by joined u) us q d l)

-- ── In a world ──

begun_commit : (w : World) (u : ℕ) → is_begun w u ≡ true → commit_clock w u ≡ (transaction w u).commit
begun_commit w u b = cond-false (u == 0) zero_clock (transaction w u).commit (grind (arith, nat_tests))

-- The commit clock of any writer, begun or not.
pub commit_seen : (w : World) (u q : ℕ) → protocol.commit_clock (view w) u q ≡ slot (commit_clock w u) q
commit_seen w u q = grind (arith, nat_tests, common_steps)

pub applied_seen : (w : World) (u p : ℕ) → protocol.applied (view w) u p ≡ true → (is_begun w u ≡ true) × (marked (transaction w u).applied p ≡ true)
applied_seen w u p e = grind (arith, nat_tests)

module _ (w : World) (t p : ℕ) (now : Invariant w) (begun : is_begun w t ≡ true) where
  pub clock_seen : (q : ℕ) → protocol.clock (view w) t q ≡ slot (transaction w t).clock q
  clock_seen q = ap (λ (x : protocol.Transaction). x.reading.clock q) (view_begun w t begun)

  pub read_seen : (q : ℕ) → protocol.read_at (view w) t q ≡ marked (transaction w t).read q
  read_seen q = ap (λ (x : protocol.Transaction). x.reading.read_at q) (view_begun w t begun)

  -- What u wrote passes for t, in both languages.
  visible_from : (u : ℕ) → is_begun w u ≡ true → passes (transaction w t).read (transaction w u).commit (transaction w t).clock ≡ true → protocol.Visible (view w) u t
  visible_from u b e q m =
      let h : slot (transaction w u).commit q ≤ slot (transaction w t).clock q =
      (pass_decides (transaction w t).read (transaction w u).commit (transaction w t).clock (now.shaped t begun).read).0 e q (sym (read_seen q) ∙ m) in
      rw (commit_seen w u q, begun_commit w u b, clock_seen q) h

  visible_to : (u : ℕ) → is_begun w u ≡ true → protocol.Visible (view w) u t → passes (transaction w t).read (transaction w u).commit (transaction w t).clock ≡ true
  visible_to u b h =
      (pass_decides (transaction w t).read (transaction w u).commit (transaction w t).clock (now.shaped t begun).read).1
      (λ q m. rw (commit_seen w u q, begun_commit w u b, clock_seen q) at (h q (read_seen q ∙ m)))

  -- The transactions that are applied at p and pass for t.
  abbrev joins_in : Transaction → Bool
  joins_in u = marked u.applied p && passes (transaction w t).read u.commit (transaction w t).clock

  abbrev joined_clock : List ℕ
  joined_clock = fold (joined_by joins_in) (transaction w t).clock w.transactions

  after_first : marked (transaction w t).read p ≡ false → clock_after w (transaction w t) p ≡ joined_clock
  unfolding clock_after
  after_first e = rw e refl

  after_again : marked (transaction w t).read p ≡ true → clock_after w (transaction w t) p ≡ (transaction w t).clock
  unfolding clock_after
  after_again e = rw e refl

  pub after_length : length (clock_after w (transaction w t) p) ≡ 8
  after_length =
      ⊎_elim (λ (e : marked (transaction w t).read p ≡ true). rw (after_again e) (now.shaped t begun).clock)
      (λ (e : marked (transaction w t).read p ≡ false). rw (after_first e) (joined_length joins_in (transaction w t).clock w.transactions (now.shaped t begun).clock))
      (cases_Bool (marked (transaction w t).read p))

  above_joined : (q : ℕ) → slot (transaction w t).clock q ≤ slot joined_clock q
  above_joined q =
      ⊎_elim (λ (l : q < 8). joined_above joins_in (transaction w t).clock w.transactions q l)
      (λ (l : 8 ≤ q). omega (arith, slot_past (transaction w t).clock q (now.shaped t begun).clock l)) (cases_lt q 8)

  takes_joined : (u : ℕ) → is_begun w u ≡ true → joins_in (transaction w u) ≡ true → (q : ℕ) → slot (transaction w u).commit q ≤ slot joined_clock q
  takes_joined u b e q =
      ⊎_elim (λ (l : q < 8). joined_takes joins_in (transaction w t).clock w.transactions (u - 1) q (new_transaction Search) l (begun_place w u b).1 e)
      (λ (l : 8 ≤ q). omega (arith, slot_past (transaction w u).commit q (now.shaped u b).commit l)) (cases_lt q 8)

  least_joined : (q : ℕ) →
      (slot joined_clock q ≡ slot (transaction w t).clock q)
      ⊎ ((u : ℕ) × (is_begun w u ≡ true) × (joins_in (transaction w u) ≡ true) × (slot joined_clock q ≡ slot (transaction w u).commit q))
  least_joined q =
      ⊎_elim
      (λ (l : q < 8).
      ⊎_elim inl
      (λ (f : (i : ℕ) × (i < length w.transactions) × (joins_in (slice_index_or w.transactions i (new_transaction Search)) ≡ true) × (slot joined_clock q ≡ slot (slice_index_or w.transactions i (new_transaction Search)).commit q)).
      let below = f.1 in
      let e : f.0 + 1 - 1 ≡ f.0 = omega arith in
      inr (
        f.0 + 1,
        grind (arith, nat_tests),
        subst (λ (i : ℕ). joins_in (slice_index_or w.transactions i (new_transaction Search)) ≡ true) (sym e) f.2,
        subst (λ (i : ℕ). slot joined_clock q ≡ slot (slice_index_or w.transactions i (new_transaction Search)).commit q) (sym e) f.3,
      ))
      (joined_least joins_in (transaction w t).clock w.transactions q (new_transaction Search) l))
      (λ (l : 8 ≤ q). inl (slot_past joined_clock q (joined_length joins_in (transaction w t).clock w.transactions (now.shaped t begun).clock) l ∙ sym (slot_past (transaction w t).clock q (now.shaped t begun).clock l)))
      (cases_lt q 8)

  -- The clock after a read is the join that the protocol asks for.
  pub after_joined : protocol.Joined (view w) t p (λ q. slot (clock_after w (transaction w t) p) q)
  after_joined =
      ⊎_elim
      (λ (e : marked (transaction w t).read p ≡ true).
      rw (after_again e)
      (record {
        above = λ q. omega (arith, clock_seen q);
        takes = λ u first. absurd (both_ways (marked (transaction w t).read p) (sym (read_seen p) ∙ first) e);
        least = λ q. inl (sym (clock_seen q));
      }))
      (λ (e : marked (transaction w t).read p ≡ false).
      rw (after_first e)
      (record {
        above = λ q. omega (arith, clock_seen q, above_joined q);
        takes = λ u first applied visible q.
            let a = applied_seen w u p applied in
            let h = takes_joined u a.0 (and_from (marked (transaction w u).applied p) (passes (transaction w t).read (transaction w u).commit (transaction w t).clock) a.1 (visible_to u a.0 visible)) q in
            rw (commit_seen w u q, begun_commit w u a.0) h;
        least = λ q.
            ⊎_elim (λ (h : slot joined_clock q ≡ slot (transaction w t).clock q). inl (h ∙ sym (clock_seen q)))
            (λ (f : (u : ℕ) × (is_begun w u ≡ true) × (joins_in (transaction w u) ≡ true) × (slot joined_clock q ≡ slot (transaction w u).commit q)).
            let parts = and_parts (marked (transaction w f.0).applied p) (passes (transaction w t).read (transaction w f.0).commit (transaction w t).clock) f.2 in
            inr (
              f.0,
              read_seen p ∙ e,
              ap (λ (x : protocol.Participation). x.applied) (participation_begun w f.0 p f.1) ∙ parts.0,
              visible_from f.0 f.1 parts.1,
              f.3 ∙ ap (λ (c : List ℕ). slot c q) (sym (begun_commit w f.0 f.1)) ∙ sym (commit_seen w f.0 q),
            ))
            (least_joined q);
      }))
      (cases_Bool (marked (transaction w t).read p))
