-- Decide: an offered update is committed or aborted.
use Rattle.std.proofs.Common.{◌≡◌, ℕ, ◌<◌, ◌≤◌, max, Bool, true, false, cond, not, ◌||◌, ◌⊎◌, length, sym, refl, ap, ◌∙◌, subst, inl, inr, ⊎_elim, arith}
use Rattle.std.proofs.lemmas.List.{get_or_past}
use Rattle.std.proofs.lemmas.Bool.{cases_Bool, cases_lt, cond-true, cond-false, both_ways, false≢true, or_cases, not_from_true}
use Rattle.std.proofs.lemmas.Bool.Decides.{nat_tests}
use Rattle.std.proofs.lemmas.Grind.{common_steps}
use Rattle.clock.proofs.Joins.{length-join, slot_join}
use Rattle.calls.specs.declared.answer.Answer.TheVariants.{Committed as answered_commit, Aborted as answered_abort}
use Rattle.calls.specs.declared.refusal.Refusal.TheVariants.{NoSuchTransaction, WrongState, VotesOutstanding}
use Rattle.calls.specs.Requests.{decide}
use Rattle.clock.specs.Clocks.{slot, marked}
use Rattle.clock.specs.Numbers.{stamp_number}
use Rattle.store.specs.Model.{FreeRule}
use Rattle.history.specs.Protocol as protocol
use Rattle.rules.specs.declared.records.State.TheVariants.{Offered, Aborted}
use Rattle.rules.specs.declared.records.Event.TheVariants.{Decide}
use Rattle.rules.specs.declared.records.Transaction.{Transaction}
use Rattle.rules.specs.World.{World, is_begun, holds, transaction, with_transaction, bit, some_below, is_write_node}
use Rattle.rules.specs.Changes.{may, becomes, is_committed, is_open, is_offered}
use Rattle.rules.specs.Deciding.{all_voted, base_clock, stamp_of, stamped, decide_by}
use Rattle.rules.proofs.View.{view, placed, status_of}
use Rattle.rules.proofs.Invariant.{Invariant, GoodStep}
use Rattle.rules.proofs.Checks.{GoodOutcome, good_step, checked}
use Rattle.rules.proofs.Views.{begun_place, view_begun, participation_begun, view_change}
use Rattle.rules.proofs.States.{offered_is, some_has, some_from, all_has, write_node_has}
use Rattle.rules.proofs.Keeping.{fits, keeps_transaction}
use Rattle.rules.proofs.Later.{Later, later_fits}
use Rattle.rules.proofs.Least.{stamp_number_least}
use Rattle.rules.proofs.MoreViews.{touched_view, write_node_view, write_node_world, no_write_node_view}

module _ (w : World) (inv : Invariant w) (t : ℕ) (begun : is_begun w t ≡ true) (offered : (transaction w t).state ≡ Offered) where
  abbrev x : Transaction
  x = transaction w t

  status_offered : protocol.status (view w) t ≡ protocol.Offered
  status_offered = ap (λ (a : protocol.Transaction). a.status) (view_begun w t begun) ∙ ap status_of offered

  -- ── Abort ──

  aborted_later : Later w x (becomes Aborted x)
  aborted_later = grind (arith, nat_tests)

  abort_good : x.refused ≡ true → GoodOutcome w (decide t) (answered_abort, with_transaction w t (becomes Aborted x))
  abort_good refused =
      record {
        same_placement = refl;
        keeps = keeps_transaction w t (becomes Aborted x) inv begun (later_fits w x (becomes Aborted x) (fits w t inv begun) aborted_later) (λ p k. refl);
        refines =
            inr (
              protocol.abort t,
              (status_offered, ap (λ (a : protocol.Transaction). a.outcome.refused) (view_begun w t begun) ∙ refused),
              view_change w t (becomes Aborted x) (protocol.becomes protocol.Aborted) begun (λ a. refl) refl (λ q. refl),
              refl,
            );
      }

  -- ── Commit ──

  base_view : (q : ℕ) → protocol.base_clock (view w) t q ≡ slot (base_clock x) q
  base_view q =
      ap (λ (a : protocol.Transaction). max (a.reading.clock q) (a.outcome.vote_clock q)) (view_begun w t begun)
      ∙ sym (slot_join x.clock x.votes q (inv.shaped t begun).clock (inv.shaped t begun).votes)

  number_view : (p : ℕ) → protocol.number (view w) t p ≡ slot x.numbers p
  number_view p = ap (λ (a : protocol.Participation). a.number) (participation_begun w t p begun)

  holder_below : (p k : ℕ) → holds w p k ≡ true → p < 8
  holder_below p k h = let a = (inv.holders p k h).0 in let b = inv.few_nodes in omega arith

  write_node_below : (p : ℕ) → is_write_node w x p ≡ true → p < 8
  write_node_below p h = let r = write_node_has w x p h in holder_below p r.0 r.3

  -- All nodes that the protocol says are polled have voted.
  complete : all_voted x ≡ true → (p : ℕ) → protocol.Polled (placed w.placement) (view w) t p → protocol.voted (view w) t p ≡ true
  unfolding all_voted
  complete all p polled =
      let byte = inv.polled_all t p polled.0 begun offered (sym (touched_view w inv t begun polled.0) ∙ polled.1) polled.2 in
      ap (λ (a : protocol.Participation). a.voted) (participation_begun w t p begun)
      ∙ ⊎_elim
      (λ (no : not (bit x.polled p) ≡ true). absurd (both_ways (not (bit x.polled p)) (not_from_true (bit x.polled p) byte) no))
      (λ (yes : marked x.voted p ≡ true). yes)
      (or_cases (not (bit x.polled p)) (marked x.voted p) (all_has 8 (λ q. not (bit x.polled q) || marked x.voted q) p all (holder_below p polled.0 polled.2)))

  stamp_least : protocol.LeastStamp (placed w.placement) 256 (view w) t (stamp_number 256 x.numbers (base_clock x) t)
  stamp_least =
      let place = begun_place w t begun in
      let few = inv.few_transactions in
      let below = place.2 in
      let found = stamp_number_least x.numbers (base_clock x) t (omega arith) in
      record {
        has = (found.has.0, (λ p _. let e = number_view p in let l = found.has.1 p in omega arith), (λ q. let e = base_view q in let l = found.has.2 q in omega arith));
        least =
            λ m h.
            found.least m (
              h.0,
              (λ p.
                  ⊎_elim
                  (λ (writes : is_write_node w x p ≡ true). let e = number_view p in let l = h.1 p (write_node_view w inv t begun p writes) in omega arith)
                  (λ (none : is_write_node w x p ≡ false). let e = inv.numbers_there t p begun none in omega arith)
                  (cases_Bool (is_write_node w x p))),
              (λ q. let e = base_view q in let l = h.2 q in omega arith),
            );
      }

  stamp_stands : (p : ℕ) → protocol.WriteNode (placed w.placement) (view w) t p → protocol.LeastStamp (placed w.placement) 256 (view w) t (stamp_of w t x)
  stamp_stands p writes =
      let here = write_node_world w inv t begun p writes in
      subst (λ (n : ℕ). protocol.LeastStamp (placed w.placement) 256 (view w) t n)
      (sym (cond-true (some_below 8 (is_write_node w x)) (stamp_number 256 x.numbers (base_clock x) t) 0 (some_from 8 (is_write_node w x) p (write_node_below p here) here)))
      stamp_least

  no_stamp : ((p : ℕ) → protocol.WriteNode (placed w.placement) (view w) t p → ⊥) → stamp_of w t x ≡ 0
  no_stamp none =
      ⊎_elim
      (λ (some : some_below 8 (is_write_node w x) ≡ true). let r = some_has 8 (is_write_node w x) some in absurd (none r.0 (write_node_view w inv t begun r.0 r.2)))
      (λ (no : some_below 8 (is_write_node w x) ≡ false). cond-false (some_below 8 (is_write_node w x)) (stamp_number 256 x.numbers (base_clock x) t) 0 no)
      (cases_Bool (some_below 8 (is_write_node w x)))

  length_stamped : (n : ℕ) → length (stamped w x n) ≡ 8
  unfolding stamped
  length_stamped n = grind (arith, nat_tests)

  slot_stamped : (n q : ℕ) → q < 8 → slot (stamped w x n) q ≡ cond (is_write_node w x q) n (slot (base_clock x) q)
  unfolding stamped
  slot_stamped n q l = grind (arith, nat_tests)

  slots : (n q : ℕ) →
      (protocol.WriteNode (placed w.placement) (view w) t q × (slot (stamped w x n) q ≡ n))
      ⊎ ((protocol.WriteNode (placed w.placement) (view w) t q → ⊥) × (slot (stamped w x n) q ≡ protocol.base_clock (view w) t q))
  slots n q =
      ⊎_elim
      (λ (writes : is_write_node w x q ≡ true). inl (write_node_view w inv t begun q writes, slot_stamped n q (write_node_below q writes) ∙ cond-true (is_write_node w x q) n (slot (base_clock x) q) writes))
      (λ (none : is_write_node w x q ≡ false).
      inr (
        no_write_node_view w inv t begun q none,
        ⊎_elim
            (λ (l : q < 8). slot_stamped n q l ∙ cond-false (is_write_node w x q) n (slot (base_clock x) q) none)
            (λ (l : 8 ≤ q).
            let a = length_stamped n in
            let b = length-join x.clock x.votes in
            get_or_past (stamped w x n) q 0 (omega arith) ∙ sym (get_or_past (base_clock x) q 0 (omega arith)))
            (cases_lt q 8)
            ∙ sym (base_view q),
      ))
      (cases_Bool (is_write_node w x q))

  committed_later : (n : ℕ) → Later w x (is_committed n (stamped w x n) x)
  committed_later n =
      let s = inv.shaped t begun in
      record {
        shaped = record { clock = s.clock; read = s.read; noted = s.noted; written = s.written; voted = s.voted; engaged = s.engaged; numbers = s.numbers; votes = s.votes; learned = s.learned; applied = s.applied; commit = length_stamped n };
        noted_same = refl;
        written_same = refl;
        polled_same = refl;
        offered = λ e. absurd (false≢true (ap is_offered e));
        closed = λ e. false≢true (ap is_open e);
        numbers = λ p h. inv.numbers_there t p begun h;
        voted = λ p h. inv.engaged_voted t p begun h;
      }

  commit_good : x.refused ≡ false → all_voted x ≡ true → (n : ℕ) → n ≡ stamp_of w t x → GoodOutcome w (decide t) (answered_commit n, with_transaction w t (is_committed n (stamped w x n) x))
  commit_good agreed all n n_is =
      record {
        same_placement = refl;
        keeps = keeps_transaction w t (is_committed n (stamped w x n) x) inv begun (later_fits w x (is_committed n (stamped w x n) x) (fits w t inv begun) (committed_later n)) (λ p k. refl);
        refines =
            inr (
              protocol.commit t n (λ q. slot (stamped w x n) q),
              record {
                offered = status_offered;
                agreed = grind (arith, nat_tests, common_steps);
                complete = complete all;
                stamped = λ p h. subst (λ (m : ℕ). protocol.LeastStamp (placed w.placement) 256 (view w) t m) (sym n_is) (stamp_stands p h);
                unwritten = λ none. n_is ∙ no_stamp none;
                slots = slots n;
              },
              view_change w t (is_committed n (stamped w x n) x) (protocol.commits n (λ q. slot (stamped w x n) q)) begun (λ a. refl) refl (λ q. refl),
              refl,
            );
      }

  -- ── Either ──

  decided : (refused : Bool) → x.refused ≡ refused → GoodOutcome w (decide t) (decide_by w t x refused)
  decided true e = abort_good e
  decided false e = checked (all_voted x) w (decide t) VotesOutstanding _ inv (λ all. commit_good e all (stamp_of w t x) refl)

pub decide_good : (free : FreeRule) (w : World) (t : ℕ) → Invariant w → GoodStep free w (decide t)
decide_good free w t inv =
    good_step free w (decide t)
    (checked (is_begun w t) w (decide t) NoSuchTransaction _ inv
    (λ begun.
    checked (may Decide (transaction w t)) w (decide t) WrongState _ inv
    (λ allowed. decided w inv t begun (offered_is (transaction w t).state allowed) (transaction w t).refused refl)))
