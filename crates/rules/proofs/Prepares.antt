-- Prepare: a node votes on an offered update.
use Rattle.std.proofs.Common.{◌≡◌, ℕ, ◌+◌, ◌-◌, ◌<◌, ◌≤◌, max, Bool, true, false, cond, not, ◌&&◌, ◌||◌, [], ◌∷◌, ◌++◌, map, length, slice_set, Some, None, Ok, Err, Option, Result, sym, refl, ap, ◌∙◌, subst, inr, ⊎_elim, arith, ◌==◌}
use Rattle.std.proofs.lemmas.List.{length-set}
use Rattle.std.proofs.lemmas.Bool.{cases_lt, cond-false, both_ways, false≢true, and_parts, ltb-true, not-true, not_from_false, ne_eqb}
use Rattle.std.proofs.lemmas.Bool.Decides.{nat_tests}
use Rattle.std.proofs.lemmas.Grind.{common_steps}
use Rattle.clock.proofs.Joins.{slot_join}
use Rattle.calls.specs.declared.answer.Answer.TheVariants.{Yes, NoOvertaken, NoPlace}
use Rattle.calls.specs.declared.refusal.Refusal.TheVariants.{NoSuchTransaction, NoSuchNode, WrongState, NotPolled, AlreadyDone, Busy}
use Rattle.calls.specs.Requests.{prepare}
use Rattle.clock.specs.Clocks.{slot, marked, join}
use Rattle.clock.specs.Numbers.{next_number}
use Rattle.store.specs.Model.{FreeRule, Meaning, first_version}
use Rattle.store.specs.Batch.{all_aside, first_refused}
use Rattle.history.specs.Table.{newest}
use Rattle.history.specs.Protocol as protocol
use Rattle.rules.specs.declared.records.State.TheVariants.{Open, Offered}
use Rattle.rules.specs.declared.records.Event.TheVariants.{Prepare}
use Rattle.rules.specs.declared.records.Transaction.{Transaction}
use Rattle.rules.specs.World.{World, is_begun, is_node, holds, node, transaction, with_transaction, with_node, with_store, bit, some_below, noted, wrote, is_write_node, written_at}
use Rattle.rules.specs.Changes.{may, has_no, has_yes, is_numbered, is_open}
use Rattle.rules.specs.Voting.{conflict_at, blocks, busy, overtaken_at, overtaken_key, counted, yes, vote_by_places, vote}
use Rattle.rules.proofs.View.{view, placed, transaction_of, kind_of, status_of, version_of, without_last}
use Rattle.rules.proofs.Invariant.{Invariant, Shaped, GoodStep}
use Rattle.rules.proofs.Checks.{GoodOutcome, good_step, checked}
use Rattle.rules.proofs.Views.{begun_place, marked_set, slot_set, view_begun, view_node}
use Rattle.rules.proofs.States.{offered_is}
use Rattle.rules.proofs.Keeping.{fits, keeps_transaction, keeps_change}
use Rattle.rules.proofs.Later.{Later, later_fits}
use Rattle.rules.proofs.Sets.{none_from, written_members}
use Rattle.rules.proofs.Least.{next_number_least, lowest_passes, none_passes}
use Rattle.rules.proofs.Places.{aside_balance, refused_member}
use Rattle.rules.proofs.MoreViews.{view_changed, wrote_view, write_node_view, no_write_node_view, polled_view, engaged_begun, seen_after, below_eight}

module _ (w : World) (inv : Invariant w) (t p : ℕ) (begun : is_begun w t ≡ true) (there : is_node w p ≡ true) (offered : (transaction w t).state ≡ Offered) (polled : bit (transaction w t).polled p ≡ true) (unvoted : marked (transaction w t).voted p ≡ false) (free_there : busy w t p ≡ false) where
  abbrev x : Transaction
  x = transaction w t

  shape : Shaped x
  shape = inv.shaped t begun

  below : p < 8
  below = below_eight w inv t p begun there

  closed : x.state ≡ Open → ⊥
  closed e = false≢true (ap is_open (sym offered ∙ e))

  key_below : (k : ℕ) → holds w p k ≡ true → k < 64
  key_below k held = let a = (inv.holders p k held).1 in let b = inv.few_keys in omega arith

  -- ── p may vote ──

  -- No other update that is engaged at p conflicts with t at a key that p holds.
  no_conflict : (u k : ℕ) → is_begun w u ≡ true → marked (transaction w u).engaged p ≡ true → (u ≡ t → ⊥) → holds w p k ≡ true →
      ((wrote (transaction w u) k && (noted x k || wrote x k)) || (noted (transaction w u) k && wrote x k)) ≡ false
  unfolding busy
  no_conflict u k u_begun engaged other held =
      let place = begun_place w u u_begun in
      let first = place.0 in
      let at : blocks w t p u ≡ false = subst (λ (i : ℕ). blocks w t p i ≡ false) (omega arith) (none_from (λ i. blocks w t p (i + 1)) (length w.transactions) free_there (u - 1) place.1) in
      let conflicts : some_below 64 (conflict_at w x (transaction w u) p) ≡ false =
      behind (marked (transaction w u).engaged p) (some_below 64 (conflict_at w x (transaction w u) p)) engaged
      (behind (not (u == t)) (marked (transaction w u).engaged p && some_below 64 (conflict_at w x (transaction w u) p)) (not_from_false (u == t) (ne_eqb u t other)) at) in
      behind (holds w p k) ((wrote (transaction w u) k && (noted x k || wrote x k)) || (noted (transaction w u) k && wrote x k)) held
      (none_from (conflict_at w x (transaction w u) p) 64 conflicts k (key_below k held))
    where
      behind : (a b : Bool) → a ≡ true → (a && b) ≡ false → b ≡ false
      behind a b e1 e2 = grind (arith, nat_tests)

  conflict_view : (u k : ℕ) → is_begun w u ≡ true →
      protocol.conflict (view w) u t k ≡ ((wrote (transaction w u) k && (noted x k || wrote x k)) || (noted (transaction w u) k && wrote x k))
  conflict_view u k u_begun = grind (arith, nat_tests)

  may_vote : protocol.MayVote (placed w.placement) (view w) t p
  may_vote =
      record {
        offered = grind (arith, nat_tests, common_steps);
        polled = polled_view w inv t begun p polled;
        unvoted = grind (arith, nat_tests, common_steps);
        not_busy =
            λ u k engaged other held.
            let r = engaged_begun w inv u p engaged in
            conflict_view u k r.0 ∙ no_conflict u k r.0 r.1 other held;
      }

  -- ── What is overtaken ──

  overtaken_view : (k : ℕ) → overtaken_at w x p k ≡ true → protocol.Overtaken (placed w.placement) (view w) t p k
  overtaken_view k h = grind (arith, nat_tests)

  current_at : (k : ℕ) → overtaken_at w x p k ≡ false → holds w p k ≡ true → protocol.noted (view w) t k ≡ true →
      protocol.noted_writer (view w) t k ≡ (newest (protocol.chain (view w) p k)).writer
  current_at k h held was_noted = grind (arith, nat_tests)

  current : overtaken_key w x p ≡ None → protocol.Current (placed w.placement) (view w) t p
  unfolding overtaken_key
  current e k held was_noted = current_at k (none_passes 64 0 (overtaken_at w x p) e k (omega arith) (key_below k held)) held was_noted

  lowest_overtaken : (k : ℕ) → overtaken_key w x p ≡ Some k → protocol.Least (protocol.Overtaken (placed w.placement) (view w) t p) k
  unfolding overtaken_key
  lowest_overtaken k e =
      let found = lowest_passes 64 0 (overtaken_at w x p) k e in
      record {
        has = overtaken_view k found.0;
        least =
            λ m h.
            ⊎_elim
            (λ (l : m < k). absurd (h.2 (current_at m (found.1 m (omega arith) l) h.0 h.1)))
            (λ (l : k ≤ m). l)
            (cases_lt m k);
      }

  -- ── A no ──

  refused_later : Later w x (has_no p x)
  refused_later =
      record {
        shaped = grind (arith, nat_tests, common_steps);
        noted_same = refl;
        written_same = refl;
        polled_same = refl;
        offered = λ e. e;
        closed = closed;
        numbers = λ q h. inv.numbers_there t q begun h;
        voted = λ q h. grind (arith, nat_tests, common_steps);
      }

  no_keeps : Invariant (with_transaction w t (has_no p x))
  no_keeps = keeps_transaction w t (has_no p x) inv begun (later_fits w x (has_no p x) (fits w t inv begun) refused_later) (λ q k. refl)

  no_view : view (with_transaction w t (has_no p x)) ≡ protocol.change_participation t p protocol.votes_no (protocol.change_transaction t protocol.is_refused (view w))
  no_view =
      view_changed w w.nodes t (has_no p x) w.store begun protocol.is_refused p protocol.votes_no (view w).node (view w).chain
      (λ a. refl) refl (λ a. refl)
      (λ q.
      let voted : marked (slice_set x.voted p true) q ≡ cond (p == q) true (marked x.voted q) = marked_set x.voted p q true (let l = shape.voted in let b = below in omega arith) in
      λ i. record { voted = voted i; engaged = marked x.engaged q; number = slot x.numbers q; learned = marked x.learned q; applied = marked x.applied q })
      (λ q. refl) (λ q k. refl)

  overtaken_good : (k : ℕ) → overtaken_key w x p ≡ Some k → GoodOutcome w (prepare t p) (NoOvertaken k, with_transaction w t (has_no p x))
  overtaken_good k e =
      record { same_placement = refl; keeps = no_keeps; refines = inr (protocol.no_overtaken t p k, (may_vote, lowest_overtaken k e), no_view, refl) }

  no_place_good : (free : FreeRule) (k : ℕ) → overtaken_key w x p ≡ None → first_refused free w.store p (written_at w x p) ≡ Err k →
      GoodOutcome w (prepare t p) (NoPlace k, with_transaction w t (has_no p x))
  no_place_good free k e r =
      let member = refused_member free p (λ j. (wrote x j && holds w p j) ≡ true) w.store (written_at w x p) k (written_members w x p) r in
      let parts = and_parts (wrote x k) (holds w p k) member in
      record { same_placement = refl; keeps = no_keeps; refines = inr (protocol.no_place t p k, (may_vote, current e, wrote_view w inv t begun k ∙ parts.0, parts.1), no_view, refl) }

  -- ── A yes ──

  -- t was not engaged at p, since p had not voted on it.
  idle : marked x.engaged p ≡ false
  idle = grind (arith, nat_tests)

  abbrev agreed : Transaction
  agreed = has_yes p (node w p).seen x

  seen_long : length (node w p).seen ≡ 8
  seen_long = inv.seen p (ltb-true p (length w.nodes) there)

  abbrev store_then : Meaning
  store_then = all_aside w.store p (written_at w x p)

  voted_row : (q : ℕ) → marked (slice_set x.voted p true) q ≡ cond (p == q) true (marked x.voted q)
  voted_row q = marked_set x.voted p q true (let l = shape.voted in let b = below in omega arith)

  engaged_row : (q : ℕ) → marked (slice_set x.engaged p true) q ≡ cond (p == q) true (marked x.engaged q)
  engaged_row q = marked_set x.engaged p q true (let l = shape.engaged in let b = below in omega arith)

  voted_then : (q : ℕ) → marked (slice_set x.engaged p true) q ≡ true → marked (slice_set x.voted p true) q ≡ true
  voted_then q h = grind (arith, nat_tests, common_steps)

  votes_view : (q : ℕ) → slot (join x.votes (node w p).seen) q ≡ protocol.join (protocol.vote_clock (view w) t) (protocol.seen (view w) p) q
  votes_view q =
      slot_join x.votes (node w p).seen q shape.votes seen_long
      ∙ ap (λ (a : protocol.Transaction). max (a.outcome.vote_clock q) (slot (node w p).seen q)) (sym (view_begun w t begun))

  -- What a yes changes of t but its number.
  agreed_view : transaction_of agreed ≡ protocol.joins_votes (protocol.join (protocol.vote_clock (view w) t) (protocol.seen (view w) p)) true (transaction_of x)
  agreed_view =
      λ i.
      record {
        kind = kind_of x.kind;
        status = status_of x.state;
        reading = (transaction_of x).reading;
        writing = (transaction_of x).writing;
        outcome = record { refused = x.refused; vote_clock = λ q. votes_view q i; stamp = x.stamp; commit_clock = λ q. slot x.commit q };
      }

  first_last_then : (q k : ℕ) → without_last (store_then q k).versions ++ first_version ∷ [] ≡ (store_then q k).versions
  first_last_then q k = grind (arith, nat_tests)

  chains_view : (q k : ℕ) → map version_of (without_last (store_then q k).versions) ≡ (view w).chain q k
  chains_view q k = grind (arith, nat_tests)

  -- At a node that only read.
  agreed_later : Later w x agreed
  agreed_later =
      record {
        shaped = grind (arith, nat_tests, common_steps);
        noted_same = refl;
        written_same = refl;
        polled_same = refl;
        offered = λ e. e;
        closed = closed;
        numbers = λ q h. inv.numbers_there t q begun h;
        voted = voted_then;
      }

  read_good : overtaken_key w x p ≡ None → is_write_node w x p ≡ false → GoodOutcome w (prepare t p) (yes w t p x store_then false)
  read_good e none =
      record {
        same_placement = refl;
        keeps =
            keeps_change w w.nodes t agreed store_then inv begun refl inv.seen (later_fits w x agreed (fits w t inv begun) agreed_later) first_last_then
            (aside_balance w inv t p begun (let l = shape.engaged in let b = below in omega arith) idle);
        refines =
            inr (
              protocol.yes_read t p,
              record { vote = may_vote; current = current e; only_read = no_write_node_view w inv t begun p none },
              view_changed w w.nodes t agreed store_then begun (protocol.joins_votes (protocol.join (protocol.vote_clock (view w) t) (protocol.seen (view w) p))) p protocol.votes_yes (view w).node (view w).chain
                  (λ a. refl) agreed_view (λ a. refl)
                  (λ q i. record { voted = voted_row q i; engaged = engaged_row q i; number = slot x.numbers q; learned = marked x.learned q; applied = marked x.applied q })
                  (λ q. refl) chains_view,
              refl,
            );
      }

  -- At a write node, with a number.
  module _ (n : ℕ) (numbered : n ≡ next_number 256 (node w p).counter t) where
    abbrev given : Transaction
    given = is_numbered p n agreed

    given_later : is_write_node w x p ≡ true → Later w x given
    given_later writes =
        record {
          shaped = grind (arith, nat_tests, common_steps);
          noted_same = refl;
          written_same = refl;
          polled_same = refl;
          offered = λ e. e;
          closed = closed;
          numbers =
              λ q h.
              slot_set x.numbers p q n (let l = shape.numbers in let b = below in omega arith)
              ∙ cond-false (p == q) n (slot x.numbers q) (ne_eqb p q (λ e. both_ways (is_write_node w x q) h (subst (λ (r : ℕ). is_write_node w x r ≡ true) e writes)))
              ∙ inv.numbers_there t q begun h;
          voted = voted_then;
        }

    next_least : protocol.NextNumber 256 (protocol.counter (view w) p) t n
    next_least =
        let few = inv.few_transactions in
        let place = (begun_place w t begun).2 in
        subst (λ (m : ℕ). protocol.NextNumber 256 (node w p).counter t m) (sym numbered) (next_number_least (node w p).counter t (omega arith))

    write_good : overtaken_key w x p ≡ None → is_write_node w x p ≡ true →
        GoodOutcome w (prepare t p) (Yes n, with_store (with_node (with_transaction w t given) p (counted n (node w p))) store_then)
    write_good e writes =
        record {
          same_placement = refl;
          keeps =
              keeps_change w (slice_set w.nodes p (counted n (node w p))) t given store_then inv begun (length-set w.nodes p (counted n (node w p)))
              (seen_after w p (counted n (node w p)) inv there seen_long) (later_fits w x given (fits w t inv begun) (given_later writes)) first_last_then
              (aside_balance w inv t p begun (let l = shape.engaged in let b = below in omega arith) idle);
          refines =
              inr (
                protocol.yes_write t p n,
                record { vote = may_vote; current = current e; write_node = write_node_view w inv t begun p writes; numbered = next_least },
                view_changed w (slice_set w.nodes p (counted n (node w p))) t given store_then begun
                    (protocol.joins_votes (protocol.join (protocol.vote_clock (view w) t) (protocol.seen (view w) p))) p (λ here a. protocol.takes_number n here (protocol.votes_yes here a))
                    (λ q. protocol.counts n (p == q) ((view w).node q)) (view w).chain
                    (λ a. refl) agreed_view (λ a. refl)
                    (λ q.
                    let number : slot (slice_set x.numbers p n) q ≡ cond (p == q) n (slot x.numbers q) = slot_set x.numbers p q n (let l = shape.numbers in let b = below in omega arith) in
                    λ i. record { voted = voted_row q i; engaged = engaged_row q i; number = number i; learned = marked x.learned q; applied = marked x.applied q })
                    (view_node w p (counted n (node w p)) (protocol.counts n) there (λ a. refl) refl) chains_view,
                refl,
              );
        }

  -- ── Any vote ──

  yes_good : overtaken_key w x p ≡ None → (writes : Bool) → is_write_node w x p ≡ writes → GoodOutcome w (prepare t p) (yes w t p x store_then writes)
  yes_good e true writes = write_good (next_number 256 (node w p).counter t) refl e writes
  yes_good e false none = read_good e none

  places_good : (free : FreeRule) → overtaken_key w x p ≡ None → (r : Result (Unit {0}) ℕ) → first_refused free w.store p (written_at w x p) ≡ r →
      GoodOutcome w (prepare t p) (vote_by_places w t p x r)
  places_good free e (Ok done) r = yes_good e (is_write_node w x p) refl
  places_good free e (Err key) r = no_place_good free key e r

  vote_good : (free : FreeRule) (o : Option ℕ) → overtaken_key w x p ≡ o → GoodOutcome w (prepare t p) (vote free w t p x o)
  vote_good free (Some key) e = overtaken_good key e
  vote_good free None e = places_good free e (first_refused free w.store p (written_at w x p)) refl

pub prepare_good : (free : FreeRule) (w : World) (t p : ℕ) → Invariant w → GoodStep free w (prepare t p)
prepare_good free w t p inv =
    good_step free w (prepare t p)
    (checked (is_begun w t) w (prepare t p) NoSuchTransaction _ inv
    (λ begun.
    checked (is_node w p) w (prepare t p) NoSuchNode _ inv
    (λ there.
    checked (may Prepare (transaction w t)) w (prepare t p) WrongState _ inv
    (λ allowed.
    checked (bit (transaction w t).polled p) w (prepare t p) NotPolled _ inv
    (λ polled.
    checked (not (marked (transaction w t).voted p)) w (prepare t p) AlreadyDone _ inv
    (λ unvoted.
    checked (not (busy w t p)) w (prepare t p) Busy _ inv
    (λ free_there.
    vote_good w inv t p begun there (offered_is (transaction w t).state allowed) polled (not-true (marked (transaction w t).voted p) unvoted) (not-true (busy w t p) free_there)
    free (overtaken_key w (transaction w t) p) refl)))))))
