-- Every history stands: the remaining statements, and all of them together.
use Rattle.std.proofs.Common.{◌≡◌, ℕ, ◌%◌, ◌<◌, Bool, true, false, ◌&&◌, ◌||◌, List, [], ◌∷◌, sym, refl, ap, ◌∙◌, inl, inr, arith, ◌==◌}
use Rattle.std.proofs.lemmas.Bool.{cases_Bool, cases_lt, or_cases, both_ways, and_parts}
use Rattle.history.specs.Table.{Version, version, selected, newest}
use Rattle.history.specs.Protocol.{Placement, Clock, State, clock, read_at, wrote, value, stamp, commit_clock, frontier, engaged, applied, chain, Event, Passes, NewestPassing, WriteNode, MayRead}
use Rattle.history.specs.History.{decisions, applied_at}
use Rattle.history.specs.Statements.{WritesAt, YetToApply, BehindExactly, FirstReadCurrent, StampsFollowDecisions, HistoriesStand}
use Rattle.history.proofs.Basics.{later_first, later_second}
use Rattle.history.proofs.Scripts.{Scripts}
use Rattle.history.proofs.Bounds.{numbers_bounded}
use Rattle.history.proofs.Invariants.{Invariants, invariants}
use Rattle.history.proofs.Serial.{decisions_answered, same_writers, chains_list, uncommitted_placed, conflict_by_record}

head_passes : (v : ℕ → Bool) (f : ℕ → ℕ) (l : List ℕ) (x : Version) (m : List Version) → selected v (λ u. version (f u) u) l ≡ x ∷ m →
    v x.writer ≡ true
head_passes v f [] x m e = absurd cc
head_passes v f (y ∷ l) x m e = grind (arith, head_passes v f l x m)

module _ (holds : Placement) (modulus : ℕ) where
  -- an update that writes at p, by its record and by its script
  writes_by_script : (h : List Event) (s : State) → Scripts holds modulus h s → (u p : ℕ) → WriteNode holds s u p → WritesAt holds h u p
  writes_by_script h s i u p w = (w.0, i.script_wrote u w.0 ∙ w.1, w.2)

  writes_by_record : (h : List Event) (s : State) → Scripts holds modulus h s → (u p : ℕ) → WritesAt holds h u p → WriteNode holds s u p
  writes_by_record h s i u p w = (w.0, sym (i.script_wrote u w.0) ∙ w.1, w.2)

  -- a slot above the frontier is the stamp of a committed update that writes there, and what is applied there has a stamp at or below the
  -- frontier; what is not applied there is engaged there, with a number above the frontier and not above its stamp
  behind : (h : List Event) (s : State) → Invariants holds modulus h s → BehindExactly holds h s
  behind h s i t p = (lacks, ahead)
    where
      lacks : frontier s p < clock s t p → YetToApply holds h s t p
      lacks lt = elim (i.stamps.clock_stamped t p) [
        | inl e ↦ absurd (omega arith)
        | inr w ↦ record {
          update = w.0;
          committed = grind arith;
          writes_there = writes_by_script h s i.scripts w.0 p w.2;
          unapplied = λ m. grind arith;
          not_above = omega (arith, w.3);
        }
      ]

      ahead : YetToApply holds h s t p → frontier s p < clock s t p
      ahead y =
          let u = y.update in
          let g = i.ground in
          let done = g.decisions_ordered.decided_committed u y.committed in
          let w = writes_by_record h s i.scripts u p y.writes_there in
          let e : engaged s u p ≡ true = elim (or_cases (engaged s u p) (applied s u p) (g.locks.writer_kept u p w.0 done w.1 w.2)) [
            | inl e ↦ e
            | inr e ↦ absurd (y.unapplied (g.chains.applied_history u p e))
          ] in
          let a = g.numbers.engaged_number u p w.0 e w.1 w.2 in
          let b = g.numbers.number_stamp u p w.0 done w.1 w.2 e in
          let c = y.not_above in
          omega arith

  -- where nothing was read every version passes
  first_current : (h : List Event) (s : State) → Invariants holds modulus h s → FirstReadCurrent holds h s
  first_current h s i t p none = (
    (let e = i.stamps.unread_zero t p unread in omega arith),
    λ k a c ok. go k a c ok (chain s p k) refl ok.answer ∙ ap newest (i.ground.chains.lists_history p k ok.held ∙ same_writers holds modulus h s i.scripts k (applied_at h p)),
  )
    where
      unread : (q : ℕ) → read_at s t q ≡ false
      unread q = elim (cases_Bool (read_at s t q)) [
        | inl e ↦ let r = i.snapshots.read_got t q e in absurd (none r.0 q r.1 r.2)
        | inr e ↦ e
      ]

      passes : (k : ℕ) (a : Version) (c : Clock) → MayRead holds s t k p a c → (x : Version) (l : List Version) → chain s p k ≡ x ∷ l →
          Passes (commit_clock s x.writer) (λ q. (p == q) || read_at s t q) c
      passes k a c ok x l e q r =
          let v = head_passes (λ u. wrote s u k && applied s u p) (λ u. value s u k) (decisions h) x l (sym (i.ground.chains.lists_applied p k ok.held) ∙ e) in
          ok.joined.takes x.writer (unread p) ((and_parts (wrote s x.writer k) (applied s x.writer p) v).1) (λ z rz. absurd (both_ways (read_at s t z) (unread z) rz)) q

      go : (k : ℕ) (a : Version) (c : Clock) → MayRead holds s t k p a c → (l : List Version) → chain s p k ≡ l →
          NewestPassing s (λ q. (p == q) || read_at s t q) c l a → a ≡ newest (chain s p k)
      go k a c ok [] e f = f ∙ ap newest (sym e)
      go k a c ok (x ∷ l) e (inl f) = f.1 ∙ ap newest (sym e)
      go k a c ok (x ∷ l) e (inr f) = absurd (f.0 (passes k a c ok x l e))

  -- the earlier one's stamp is a slot of its commit clock, which is below the later one's commit clock and so at or below its stamp; and the
  -- two stamps leave different remainders
  stamps_ordered : (h : List Event) (s : State) → Invariants holds modulus h s → StampsFollowDecisions h s
  stamps_ordered h s i t u k b e pt pu =
      let wt : (j : ℕ) × (wrote s t j ≡ true) = (pt.0, sym (i.scripts.script_wrote t pt.0) ∙ pt.1) in
      let wu : (j : ℕ) × (wrote s u j ≡ true) = (pu.0, sym (i.scripts.script_wrote u pu.0) ∙ pu.1) in
      let g = i.ground in
      let ct = g.decisions_ordered.decided_committed t (later_first t u (decisions h) b) in
      let cu = g.decisions_ordered.decided_committed u (later_second t u (decisions h) b) in
      let holder_u = g.clocks.written_placed u wu.0 wu.1 in
      let holder_t = g.clocks.written_placed t wt.0 wt.1 in
      let p = holder_u.0 in
      let q = holder_t.0 in
      let a = g.clocks.write_slot u p wu.0 cu wu.1 holder_u.1 in
      let c = g.clocks.conflict_ordered t u k b (conflict_by_record holds modulus h s i.scripts u t k cu ct e) p in
      let d = g.clocks.below_stamp t q wt.0 p ct wt.1 holder_t.1 in
      let ru = g.numbers.stamp_remainder u p wu.0 cu wu.1 holder_u.1 in
      let rt = g.numbers.stamp_remainder t q wt.0 ct wt.1 holder_t.1 in
      elim (cases_lt (stamp s u) (stamp s t)) [
        | inl lt ↦ lt
        | inr le ↦
            let same_stamp : stamp s u ≡ stamp s t = omega arith in
            let tu : t ≡ u = sym rt ∙ ap (λ (x : ℕ). x % modulus) (sym same_stamp) ∙ ru in
            absurd (g.decisions_ordered.decided_once u (rw tu at b))
      ]

pub histories_stand : HistoriesStand
histories_stand holds modulus nodes positive small h s r =
    let i = invariants holds modulus r in
    let dd = i.ground.decisions_ordered in
    record {
      decision_order_serial = record { all = dd.committed_decided; only = dd.decided_committed; once = dd.decided_once; answered = decisions_answered holds modulus r };
      chains_list_writers = chains_list holds modulus h s i.scripts i.ground.chains;
      uncommitted_has_a_place = uncommitted_placed holds modulus r nodes small;
      behind_exactly = behind holds modulus h s i;
      first_read_current = first_current holds modulus h s i;
      stamps_follow_decisions = stamps_ordered holds modulus h s i;
      numbers_bounded = numbers_bounded holds modulus nodes positive small r;
    }
