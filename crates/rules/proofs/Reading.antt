-- Reading: the answer is the newest version that passes.
use Rattle.std.proofs.Common.{◌≡◌, ℕ, ◌<◌, ◌≤◌, Bool, true, false, cond, ◌||◌, nat_le, List, [], ◌∷◌, ◌++◌, map, length, slice_index_or, slice_set, Some, None, Decides, Option, sym, refl, ap, ◌∙◌, subst, inl, inr, ⊎_elim, arith, ◌==◌}
use Rattle.std.proofs.lemmas.List.{length-set}
use Rattle.std.proofs.lemmas.Bool.{ltb-true, leb-true, cases_Bool}
use Rattle.std.proofs.lemmas.Bool.Decides.{not_from_Decides, nat_tests}
use Rattle.std.proofs.lemmas.Grind.{common_steps}
use Rattle.std.specs.Option.{is_some, unwrap_or}
use Rattle.calls.specs.declared.answer.Answer.TheVariants.{Found}
use Rattle.calls.specs.declared.refusal.Refusal.TheVariants.{NoSuchTransaction, NoSuchNode, NoSuchKey, KeyNotHeld, WrongState, NotYet, Overtaken, TooManyKeysRead}
use Rattle.calls.specs.Requests.{read}
use Rattle.clock.specs.Clocks.{slot, marked}
use Rattle.store.specs.declared.Version.{Version as Stored}
use Rattle.store.specs.Model.{FreeRule, first_version}
use Rattle.history.specs.Table.{Version, version, newest}
use Rattle.history.specs.Protocol as protocol
use Rattle.rules.specs.declared.records.Kind.{Kind}
use Rattle.rules.specs.declared.records.Kind.TheVariants.{Search, Update}
use Rattle.rules.specs.declared.records.State.TheVariants.{Open}
use Rattle.rules.specs.declared.records.Event.TheVariants.{Read}
use Rattle.rules.specs.declared.records.Transaction.{Transaction}
use Rattle.rules.specs.World.{World, is_begun, is_node, is_key, holds, node, transaction, with_transaction, noted, wrote, is_write_node}
use Rattle.rules.specs.Changes.{may, has_read, has_noted}
use Rattle.rules.specs.Reading.{commit_clock, clock_after, version_passes, newest_passing, newest_passes, visible, can_note, read_by, read_open}
use Rattle.rules.proofs.View.{view, placed, status_of, kind_of, transaction_of, version_of, without_last}
use Rattle.rules.proofs.Invariant.{Invariant, GoodStep}
use Rattle.rules.proofs.Checks.{GoodOutcome, good_step, checked}
use Rattle.rules.proofs.Views.{view_change, view_begun, marked_set}
use Rattle.rules.proofs.Keeping.{Fits, fits, keeps_transaction}
use Rattle.rules.proofs.States.{open_is}
use Rattle.rules.proofs.Writes.{status_seen, kind_seen}
use Rattle.rules.proofs.Joins.{pass_decides, commit_seen, read_seen, after_length, after_joined}

-- ── The newest version that passes ──

only_first : (v : Stored) → first_version ∷ [] ≡ v ∷ [] → v ≡ first_version
only_first v e = cc

rest_first : (v u : Stored) (older : List Stored) → without_last (v ∷ u ∷ older) ++ first_version ∷ [] ≡ v ∷ u ∷ older → without_last (u ∷ older) ++ first_version ∷ [] ≡ u ∷ older
rest_first v u older e = cc

module _ (s : protocol.State) (read_at : ℕ → Bool) (clock : protocol.Clock) (test : Stored → Bool)
    (decides : (v : Stored) → Decides (test v) (protocol.Passes (protocol.commit_clock s v.writer) read_at clock)) where
  pub newest_seen : (vs : List Stored) → without_last vs ++ first_version ∷ [] ≡ vs →
      protocol.NewestPassing s read_at clock (map version_of (without_last vs)) (version_of (newest_passing test vs))
  unfolding newest_passing
  newest_seen [] first = refl
  newest_seen (v ∷ []) first =
      let e : v ≡ first_version = only_first v first in
      ⊎_elim (λ (h : test v ≡ true). rw h (ap (λ (x : Stored). version_of x) e)) (λ (h : test v ≡ false). rw h refl) (cases_Bool (test v))
  newest_seen (v ∷ u ∷ older) first =
      ⊎_elim
      (λ (h : test v ≡ true). inl ((decides v).0 h, rw h refl))
      (λ (h : test v ≡ false). inr (not_from_Decides (test v) (decides v) h, rw h (newest_seen (u ∷ older) (rest_first v u older first))))
      (cases_Bool (test v))

-- Where the newest version passes, it is the answer.
newest_writer_seen : (test : Stored → Bool) (vs : List Stored) → without_last vs ++ first_version ∷ [] ≡ vs → newest_passes test vs ≡ true →
    (newest_passing test vs).writer ≡ (newest (map version_of (without_last vs))).writer
unfolding newest_passing
newest_writer_seen test vs e1 e2 = grind (arith, nat_tests)

-- ── The transaction after ──

read_row : (row : List Bool) (p q : ℕ) → p < length row → marked (slice_set row p true) q ≡ (p == q || marked row q)
read_row row p q l = marked_set row p q true l ∙ grind arith

has_read_seen : (x : Transaction) (p : ℕ) (clock : List ℕ) → p < length x.read →
    transaction_of (has_read p clock x) ≡ protocol.reads p (λ q. slot clock q) true (transaction_of x)
has_read_seen x p clock l = grind (arith, nat_tests, common_steps)

module _ (x : Transaction) (k writer : ℕ) (room : k < length x.noted) where
  noted_after : (j : ℕ) → noted (has_noted k writer x) j ≡ cond (k == j) true (noted x j)
  noted_after j = grind (arith, nat_tests, common_steps)

  noted_writer_after : (j : ℕ) → unwrap_or (slice_index_or (has_noted k writer x).noted j None) 0 ≡ cond (k == j) (cond (noted x k) (unwrap_or (slice_index_or x.noted k None) 0) writer) (unwrap_or (slice_index_or x.noted j None) 0)
  noted_writer_after j = grind (arith, nat_tests, common_steps)

  has_noted_seen : transaction_of (has_noted k writer x) ≡ protocol.notes k (cond (noted x k) (unwrap_or (slice_index_or x.noted k None) 0) writer) true (transaction_of x)
  has_noted_seen = λ i. record {
    kind = kind_of x.kind;
    status = status_of x.state;
    reading = record { clock = (transaction_of x).reading.clock; read_at = (transaction_of x).reading.read_at; noted = λ j. noted_after j i; noted_writer = λ j. noted_writer_after j i };
    writing = (transaction_of x).writing;
    outcome = (transaction_of x).outcome;
  }

fits_read : (w : World) (x : Transaction) (p : ℕ) (clock : List ℕ) → length clock ≡ 8 → Fits w x → Fits w (has_read p clock x)
unfolding is_write_node
fits_read w x p clock wide f = grind (arith, nat_tests, common_steps)

module _ (w : World) (x : Transaction) (k writer : ℕ) (key : k < length w.placement) (room : k < length x.noted) (open_now : x.state ≡ Open) (f : Fits w x) where
  touched_still : (j : ℕ) → (noted x j || wrote x j) ≡ true → (noted (has_noted k writer x) j || wrote x j) ≡ true
  touched_still j e = grind (arith, nat_tests, common_steps)

  touched_key : (j : ℕ) → (noted (has_noted k writer x) j || wrote x j) ≡ true → j < length w.placement
  touched_key j e = grind (arith, nat_tests, common_steps)

  fits_noted : Fits w (has_noted k writer x)
  unfolding is_write_node
  fits_noted = record {
    shaped = grind (arith, nat_tests, common_steps);
    keys_only = touched_key;
    polled_sound = λ p e. let found = f.polled_sound p e in (found.0, touched_still found.0 found.1, found.2);
    polled_all = λ p j e. grind (arith, nat_tests, common_steps);
    numbers_there = f.numbers_there;
    open_idle = f.open_idle;
    engaged_voted = f.engaged_voted;
  }

-- ── A read ──

module _ (w : World) (t k p : ℕ) (now : Invariant w) (begun : is_begun w t ≡ true) (there : is_node w p ≡ true) (key : is_key w k ≡ true) (held : holds w p k ≡ true)
    (may_read_lem : may Read (transaction w t) ≡ true) where
  abbrev reader : Transaction
  reader = transaction w t

  abbrev seen_version : Version
  seen_version = version_of (visible w reader k p)

  abbrev clock_then : ℕ → ℕ
  clock_then q = slot (clock_after w reader p) q

  reader_open : reader.state ≡ Open
  reader_open = open_is reader.state may_read_lem

  key_below : k < length w.placement
  key_below = ltb-true k (length w.placement) key

  read_room : p < length reader.read
  read_room = omega (arith, (now.shaped t begun).read, ltb-true p (length w.nodes) there, now.few_nodes)

  note_room : k < length reader.noted
  note_room = omega (arith, (now.shaped t begun).noted, key_below, now.few_keys)

  -- A version passes after the read, in both languages.
  version_decides : (v : Stored) → Decides (version_passes w reader p v) (protocol.Passes (protocol.commit_clock (view w) v.writer) (λ q. (p == q) || protocol.read_at (view w) t q) clock_then)
  version_decides v =
      let row : (q : ℕ) → marked (slice_set reader.read p true) q ≡ (p == q || protocol.read_at (view w) t q) =
      λ q. read_row reader.read p q read_room ∙ ap (λ (b : Bool). (p == q) || b) (sym (read_seen w t p now begun q)) in
      let both = pass_decides (slice_set reader.read p true) (commit_clock w v.writer) (clock_after w reader p) (length-set reader.read p true ∙ (now.shaped t begun).read) in (
        λ e q m. subst (λ (n : ℕ). n ≤ slot (clock_after w reader p) q) (sym (commit_seen w v.writer q)) (both.0 e q (row q ∙ m)),
        λ h. both.1 (λ q m. subst (λ (n : ℕ). n ≤ slot (clock_after w reader p) q) (commit_seen w v.writer q) (h q (sym (row q) ∙ m))),
      )

  reads : wrote reader k ≡ false → slot reader.clock p ≤ (node w p).frontier → protocol.MayRead (placed w.placement) (view w) t k p seen_version clock_then
  reads unwritten settled = record {
    open_now = status_seen w t now begun Open reader_open;
    unwritten = grind (arith, nat_tests, common_steps);
    held = held;
    settled = grind (arith, nat_tests, common_steps);
    joined = after_joined w t p now begun;
    answer = newest_seen (view w) (λ q. (p == q) || protocol.read_at (view w) t q) clock_then (version_passes w reader p) version_decides (w.store p k).versions (now.first_last p k);
  }

  fits_then : Fits w (has_read p (clock_after w reader p) reader)
  fits_then = fits_read w reader p (clock_after w reader p) (after_length w t p now begun) (fits w t now begun)

  search_read : wrote reader k ≡ false → slot reader.clock p ≤ (node w p).frontier → reader.kind ≡ Search → GoodOutcome w (read t k p) (read_by w t k p reader Search)
  search_read unwritten settled kind = record {
    same_placement = refl;
    keeps = keeps_transaction w t (has_read p (clock_after w reader p) reader) now begun fits_then (λ q j. refl);
    refines = inr (
      protocol.read_search t k p seen_version clock_then,
      (reads unwritten settled, kind_seen w t now begun Search kind),
      view_change w t (has_read p (clock_after w reader p) reader) (protocol.reads p clock_then) begun (λ a. refl) (has_read_seen reader p (clock_after w reader p) read_room) (λ q. refl),
      refl,
    );
  }

  abbrev updated : Transaction
  updated = has_noted k (visible w reader k p).writer (has_read p (clock_after w reader p) reader)

  -- The writer that it has noted then.
  note_seen : protocol.first_noted (view w) t k (visible w reader k p).writer ≡ cond (noted reader k) (unwrap_or (slice_index_or reader.noted k None) 0) (visible w reader k p).writer
  note_seen = grind (arith, nat_tests)

  updated_seen : transaction_of updated
      ≡ protocol.notes k (protocol.first_noted (view w) t k (visible w reader k p).writer) true (protocol.reads p clock_then true (transaction_of reader))
  updated_seen =
      has_noted_seen (has_read p (clock_after w reader p) reader) k (visible w reader k p).writer note_room
      ∙ ap (λ (n : ℕ). protocol.notes k n true (transaction_of (has_read p (clock_after w reader p) reader))) (sym note_seen)
      ∙ ap (λ (a : protocol.Transaction). protocol.notes k (protocol.first_noted (view w) t k (visible w reader k p).writer) true a) (has_read_seen reader p (clock_after w reader p) read_room)

  update_read : wrote reader k ≡ false → slot reader.clock p ≤ (node w p).frontier → reader.kind ≡ Update →
      newest_passes (version_passes w reader p) (w.store p k).versions ≡ true →
      GoodOutcome w (read t k p) (Found (visible w reader k p).value (visible w reader k p).writer, with_transaction w t updated)
  update_read unwritten settled kind newest_one = record {
    same_placement = refl;
    keeps = keeps_transaction w t updated now begun (fits_noted w (has_read p (clock_after w reader p) reader) k (visible w reader k p).writer key_below note_room reader_open fits_then) (λ q j. refl);
    refines = inr (
      protocol.read_update t k p seen_version clock_then,
      (reads unwritten settled, kind_seen w t now begun Update kind, newest_writer_seen (version_passes w reader p) (w.store p k).versions (now.first_last p k) newest_one),
      view_change w t updated
          (λ (here : Bool) (a : protocol.Transaction). protocol.notes k (protocol.first_noted (view w) t k (visible w reader k p).writer) here (protocol.reads p clock_then here a))
          begun (λ a. refl) updated_seen (λ q. refl),
      refl,
    );
  }

  read_kind : wrote reader k ≡ false → slot reader.clock p ≤ (node w p).frontier → (kind : Kind) → reader.kind ≡ kind → GoodOutcome w (read t k p) (read_by w t k p reader kind)
  read_kind unwritten settled Search e = search_read unwritten settled e
  read_kind unwritten settled Update e =
      checked (newest_passes (version_passes w reader p) (w.store p k).versions) w (read t k p) Overtaken _ now
      (λ newest_one. checked (can_note reader k) w (read t k p) TooManyKeysRead _ now (λ room. update_read unwritten settled e newest_one))

  read_now : (value : Option ℕ) → slice_index_or reader.written k None ≡ value → GoodOutcome w (read t k p) (read_open w t k p reader value)
  read_now (Some value) e = record {
    same_placement = refl;
    keeps = now;
    refines = inr (
      protocol.read_own t k (version value t),
      (
        status_seen w t now begun Open reader_open,
        ap (λ (a : protocol.Transaction). a.writing.wrote k) (view_begun w t begun) ∙ ap (λ (o : Option ℕ). is_some o) e,
        ap (λ (n : ℕ). version n t) (sym (ap (λ (a : protocol.Transaction). a.writing.value k) (view_begun w t begun) ∙ ap (λ (o : Option ℕ). unwrap_or o 0) e)),
      ),
      refl,
      refl,
    );
  }
  read_now None e =
      checked (nat_le (slot reader.clock p) (node w p).frontier) w (read t k p) NotYet _ now
      (λ settled. read_kind (ap (λ (o : Option ℕ). is_some o) e) (leb-true (slot reader.clock p) (node w p).frontier settled) reader.kind refl)

pub read_good : (free : FreeRule) (w : World) (t k p : ℕ) → Invariant w → GoodStep free w (read t k p)
read_good free w t k p now =
    good_step free w (read t k p)
    (checked (is_begun w t) w (read t k p) NoSuchTransaction _ now
    (λ begun. checked (is_node w p) w (read t k p) NoSuchNode _ now
    (λ there. checked (is_key w k) w (read t k p) NoSuchKey _ now
    (λ key. checked (holds w p k) w (read t k p) KeyNotHeld _ now
    (λ held. checked (may Read (transaction w t)) w (read t k p) WrongState _ now
    (λ may_read_lem. read_now w t k p now begun there key held may_read_lem (slice_index_or (transaction w t).written k None) refl))))))
