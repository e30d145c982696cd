-- Writing, offering, cancelling and finishing.
use Rattle.std.proofs.Common.{◌≡◌, ℕ, zero, suc, ◌+◌, ◌/◌, ◌%◌, ◌^◌, ◌<◌, ◌≤◌, max, Bool, true, false, cond, ◌&&◌, ◌||◌, nat_lt, ◌⊎◌, List, length, slice_index_or, slice_set, Some, None, fold, Option, sym, refl, ap, ◌∙◌, inl, inr, ⊎_elim, arith, ◌==◌}
use lib.Bits.{bit_or, or_step}
use Rattle.std.specs.List.{range_with_len}
use Rattle.std.proofs.lemmas.Nat.{or_shr}
use Rattle.std.proofs.lemmas.Bool.{and_parts, or_cases, or_left, or_right, ltb-true, cases_Bool, cases_eq, both_ways}
use Rattle.std.proofs.lemmas.Bool.Decides.{nat_tests}
use Rattle.std.proofs.lemmas.Grind.{common_steps}
use Rattle.std.specs.Option.{is_some}
use Rattle.calls.specs.declared.answer.Answer.TheVariants.{Done, Polled}
use Rattle.calls.specs.declared.refusal.Refusal.TheVariants.{NoSuchTransaction, NoSuchKey, WrongState, TooManyKeysWritten}
use Rattle.calls.specs.Requests.{make, write, offer, cancel, finish}
use Rattle.store.specs.Model.{FreeRule}
use Rattle.history.specs.Protocol as protocol
use Rattle.rules.specs.declared.records.Kind.{Kind}
use Rattle.rules.specs.declared.records.Kind.TheVariants.{Search, Update}
use Rattle.rules.specs.declared.records.State.{State}
use Rattle.rules.specs.declared.records.State.TheVariants.{Open, Offered, Aborted, Finished}
use Rattle.rules.specs.declared.records.Event.TheVariants.{Write, Offer, Cancel, Finish}
use Rattle.rules.specs.declared.records.Transaction.{Transaction}
use Rattle.rules.specs.World.{World, is_begun, is_key, holds, transaction, with_transaction, bit, noted, wrote, how_many, is_write_node}
use Rattle.rules.specs.Changes.{may, is_open, is_offered, is_update, is_search, becomes, has_written, is_now_offered}
use Rattle.rules.specs.Deciding.{polled_byte, nodes_of}
use Rattle.rules.proofs.View.{view, status_of, kind_of, transaction_of}
use Rattle.rules.proofs.Invariant.{Invariant, GoodStep}
use Rattle.rules.proofs.Checks.{GoodOutcome, good_step, checked}
use Rattle.rules.proofs.Views.{view_change, view_begun, engaged_writer}
use Rattle.rules.proofs.Keeping.{Fits, fits, keeps_transaction}
use Rattle.rules.proofs.States.{open_is, offered_is, update_is, search_is, write_node_less, bit_zero}

pub make_good : (free : FreeRule) (w : World) (n k : ℕ) (placement : List ℕ) → Invariant w → GoodStep free w (make n k placement)
make_good free w n k placement now = grind (arith, nat_tests)

-- ── A change of state ──

-- A transaction that is decided or finished.
fits_over : (w : World) (x : Transaction) (state : State) → Fits w x → is_open state ≡ false → is_offered state ≡ false → Fits w (becomes state x)
unfolding is_write_node
fits_over w x state f not_open not_offered = grind (arith, nat_tests)

becomes_view : (w : World) (t : ℕ) (state : State) → is_begun w t ≡ true →
    view (with_transaction w t (becomes state (transaction w t))) ≡ protocol.change_transaction t (protocol.becomes (status_of state)) (view w)
becomes_view w t state begun = view_change w t (becomes state (transaction w t)) (protocol.becomes (status_of state)) begun (λ x. refl) refl (λ q. refl)

module _ (w : World) (t : ℕ) (now : Invariant w) (begun : is_begun w t ≡ true) where
  pub status_seen : (state : State) → (transaction w t).state ≡ state → protocol.status (view w) t ≡ status_of state
  status_seen state e = ap (λ (x : protocol.Transaction). x.status) (view_begun w t begun) ∙ ap status_of e

  pub kind_seen : (kind : Kind) → (transaction w t).kind ≡ kind → protocol.kind (view w) t ≡ kind_of kind
  kind_seen kind e = ap (λ (x : protocol.Transaction). x.kind) (view_begun w t begun) ∙ ap kind_of e

  cancelled : may Cancel (transaction w t) ≡ true → GoodOutcome w (cancel t) (Done, with_transaction w t (becomes Aborted (transaction w t)))
  cancelled may_cancel =
      let parts = and_parts (is_update (transaction w t).kind) (is_open (transaction w t).state || is_offered (transaction w t).state) may_cancel in
      record {
        same_placement = refl;
        keeps = keeps_transaction w t (becomes Aborted (transaction w t)) now begun (fits_over w (transaction w t) Aborted (fits w t now begun) refl refl) (λ p k. refl);
        refines = inr (
          protocol.cancel t,
          (
            kind_seen Update (update_is (transaction w t).kind parts.0),
            ⊎_elim (λ o. inl (status_seen Open (open_is (transaction w t).state o))) (λ o. inr (status_seen Offered (offered_is (transaction w t).state o)))
                (or_cases (is_open (transaction w t).state) (is_offered (transaction w t).state) parts.1),
          ),
          becomes_view w t Aborted begun,
          refl,
        );
      }

  finished : may Finish (transaction w t) ≡ true → GoodOutcome w (finish t) (Done, with_transaction w t (becomes Finished (transaction w t)))
  finished may_finish =
      let parts = and_parts (is_search (transaction w t).kind) (is_open (transaction w t).state) may_finish in
      record {
        same_placement = refl;
        keeps = keeps_transaction w t (becomes Finished (transaction w t)) now begun (fits_over w (transaction w t) Finished (fits w t now begun) refl refl) (λ p k. refl);
        refines = inr (
          protocol.finish t,
          (status_seen Open (open_is (transaction w t).state parts.1), kind_seen Search (search_is (transaction w t).kind parts.0)),
          becomes_view w t Finished begun,
          refl,
        );
      }

pub cancel_good : (free : FreeRule) (w : World) (t : ℕ) → Invariant w → GoodStep free w (cancel t)
cancel_good free w t now =
    good_step free w (cancel t)
    (checked (is_begun w t) w (cancel t) NoSuchTransaction _ now
    (λ begun. checked (may Cancel (transaction w t)) w (cancel t) WrongState _ now (cancelled w t now begun)))

pub finish_good : (free : FreeRule) (w : World) (t : ℕ) → Invariant w → GoodStep free w (finish t)
finish_good free w t now =
    good_step free w (finish t)
    (checked (is_begun w t) w (finish t) NoSuchTransaction _ now
    (λ begun. checked (may Finish (transaction w t)) w (finish t) WrongState _ now (finished w t now begun)))

-- ── A write ──

-- A row of options with one place filled.
pub there_set : (row : List (Option ℕ)) (k j value : ℕ) → k < length row → is_some (slice_index_or (slice_set row k (Some value)) j None) ≡ cond (k == j) true (is_some (slice_index_or row j None))
there_set row k j value l = grind (arith, nat_tests, common_steps)

module _ (w : World) (x : Transaction) (k value : ℕ) (key : k < length w.placement) (room : k < length x.written) (open_now : x.state ≡ Open) (fit : Fits w x) where
  wrote_after : (j : ℕ) → wrote (has_written k value x) j ≡ cond (k == j) true (wrote x j)
  wrote_after j = there_set x.written k j value room

  wrote_still : (j : ℕ) → wrote x j ≡ true → wrote (has_written k value x) j ≡ true
  wrote_still j e = rw (wrote_after j, e) (grind arith)

  touched_key : (j : ℕ) → (noted x j || wrote (has_written k value x) j) ≡ true → j < length w.placement
  touched_key j e = grind (arith, nat_tests, common_steps)

  fits_written : Fits w (has_written k value x)
  fits_written = record {
    shaped = grind (arith, nat_tests, common_steps);
    keys_only = touched_key;
    polled_sound = λ p e. grind (arith, nat_tests, common_steps);
    polled_all = λ p j e. grind (arith, nat_tests, common_steps);
    numbers_there = λ p e. fit.numbers_there p (write_node_less w x (has_written k value x) p wrote_still e);
    open_idle = fit.open_idle;
    engaged_voted = fit.engaged_voted;
  }

  written_seen : transaction_of (has_written k value x) ≡ protocol.writes k value true (transaction_of x)
  written_seen = grind (arith, nat_tests, common_steps)

  idle_writer : (p j : ℕ) → engaged_writer w p j (has_written k value x) ≡ engaged_writer w p j x
  idle_writer p j = rw (fit.open_idle p open_now) refl

written : (w : World) (t k value : ℕ) → Invariant w → is_begun w t ≡ true → is_key w k ≡ true → may Write (transaction w t) ≡ true →
    GoodOutcome w (write t k value) (Done, with_transaction w t (has_written k value (transaction w t)))
written w t k value now begun key may_write_lem =
    let x : Transaction = transaction w t in
    let below : k < length w.placement = ltb-true k (length w.placement) key in
    let fit : Fits w x = fits w t now begun in
    let room : k < length x.written = omega (arith, fit.shaped.written, now.few_keys) in
    let parts = and_parts (is_update x.kind) (is_open x.state) may_write_lem in
    let open_now : x.state ≡ Open = open_is x.state parts.1 in
    record {
      same_placement = refl;
      keeps = keeps_transaction w t (has_written k value x) now begun (fits_written w x k value below room open_now fit) (idle_writer w x k value below room open_now fit);
      refines = inr (
        protocol.write t k value,
        (status_seen w t now begun Open open_now, kind_seen w t now begun Update (update_is x.kind parts.0), now.has_holder k below),
        view_change w t (has_written k value x) (protocol.writes k value) begun (λ a. refl) (written_seen w x k value below room open_now fit) (λ q. refl),
        refl,
      );
    }

pub write_good : (free : FreeRule) (w : World) (t k value : ℕ) → Invariant w → GoodStep free w (write t k value)
write_good free w t k value now =
    good_step free w (write t k value)
    (checked (is_begun w t) w (write t k value) NoSuchTransaction _ now
    (λ begun. checked (is_key w k) w (write t k value) NoSuchKey _ now
    (λ key. checked (may Write (transaction w t)) w (write t k value) WrongState _ now
    (λ may_write_lem. checked (wrote (transaction w t) k || nat_lt (how_many (transaction w t).written) 8) w (write t k value) TooManyKeysWritten _ now
    (λ few. written w t k value now begun key may_write_lem)))))

-- ── An offer ──

-- A bit of a byte that two bytes are joined in.
pub bit-bit_or : (a b h : ℕ) → bit (bit_or a b) h ≡ (bit a h || bit b h)
bit-bit_or a b h =
    let e : bit_or a b / 2 ^ h ≡ bit_or (a / 2 ^ h) (b / 2 ^ h) = or_shr a b h in
    let s : bit_or a b / 2 ^ h % 2 ≡ max (a / 2 ^ h % 2) (b / 2 ^ h % 2) = ap (λ (x : ℕ). x % 2) e ∙ omega (arith, or_step (a / 2 ^ h) (b / 2 ^ h)) in
    grind (arith, nat_tests)

-- The byte of the holders of the keys that pass a test.
abbrev holders_byte : (ℕ → Bool) → List ℕ → ℕ → ℕ → ℕ → ℕ
holders_byte test placement byte k n = fold (λ (byte k : ℕ). cond (test k) (bit_or byte (slice_index_or placement k 0)) byte) byte (range_with_len k n)

module _ (test : ℕ → Bool) (placement : List ℕ) (p : ℕ) where
  one_more : (byte k : ℕ) → bit (cond (test k) (bit_or byte (slice_index_or placement k 0)) byte) p ≡ (bit byte p || (test k && bit (slice_index_or placement k 0) p))
  one_more byte k = ⊎_elim (λ (e : test k ≡ true). rw (e) (bit-bit_or byte (slice_index_or placement k 0) p)) (λ (e : test k ≡ false). rw (e) (grind arith)) (cases_Bool (test k))

  byte_has : (n byte k : ℕ) → bit (holders_byte test placement byte k n) p ≡ true → (bit byte p ≡ true) ⊎ ((j : ℕ) × (test j ≡ true) × (bit (slice_index_or placement j 0) p ≡ true))
  byte_has zero byte k e = inl e
  byte_has (suc n) byte k e =
      ⊎_elim
      (λ (h : bit (cond (test k) (bit_or byte (slice_index_or placement k 0)) byte) p ≡ true).
      ⊎_elim inl (λ (g : (test k && bit (slice_index_or placement k 0) p) ≡ true). inr (k, (and_parts (test k) (bit (slice_index_or placement k 0) p) g).0, (and_parts (test k) (bit (slice_index_or placement k 0) p) g).1))
      (or_cases (bit byte p) (test k && bit (slice_index_or placement k 0) p) (sym (one_more byte k) ∙ h)))
      inr (byte_has n (cond (test k) (bit_or byte (slice_index_or placement k 0)) byte) (k + 1) e)

  byte_keeps : (n byte k : ℕ) → bit byte p ≡ true → bit (holders_byte test placement byte k n) p ≡ true
  byte_keeps zero byte k e = e
  byte_keeps (suc n) byte k e = byte_keeps n (cond (test k) (bit_or byte (slice_index_or placement k 0)) byte) (k + 1) (one_more byte k ∙ or_left (bit byte p) (test k && bit (slice_index_or placement k 0) p) e)

  byte_takes : (n byte k j : ℕ) → k ≤ j → j < k + n → test j ≡ true → bit (slice_index_or placement j 0) p ≡ true → bit (holders_byte test placement byte k n) p ≡ true
  byte_takes zero byte k j from below a b = absurd (omega arith)
  byte_takes (suc n) byte k j from below a b =
      ⊎_elim
      (λ (e : k ≡ j). byte_keeps n (cond (test k) (bit_or byte (slice_index_or placement k 0)) byte) (k + 1) (one_more byte k ∙ rw (e, a, b) (or_right (bit byte p) true refl)))
      (λ (h : k ≡ j → ⊥). byte_takes n (cond (test k) (bit_or byte (slice_index_or placement k 0)) byte) (k + 1) j (omega arith) (omega arith) a b)
      (cases_eq k j)

pub polled_has : (w : World) (x : Transaction) (p : ℕ) → bit (polled_byte w x) p ≡ true → (k : ℕ) × ((noted x k || wrote x k) ≡ true) × (holds w p k ≡ true)
unfolding polled_byte
polled_has w x p e =
    ⊎_elim (λ (h : bit 0 p ≡ true). absurd (both_ways (bit 0 p) (bit_zero p) h)) (λ f. f) (byte_has (λ k. noted x k || wrote x k) w.placement p 64 0 0 e)

pub polled_takes : (w : World) (x : Transaction) (p k : ℕ) → k < 64 → (noted x k || wrote x k) ≡ true → holds w p k ≡ true → bit (polled_byte w x) p ≡ true
unfolding polled_byte
polled_takes w x p k l a b = byte_takes (λ k. noted x k || wrote x k) w.placement p 64 0 0 k (omega arith) (omega arith) a b

fits_offered : (w : World) (x : Transaction) → length w.placement ≤ 64 → Fits w x → Fits w (is_now_offered (polled_byte w x) x)
unfolding is_write_node
fits_offered w x few f = record {
  shaped = grind (arith, nat_tests, common_steps);
  keys_only = f.keys_only;
  polled_sound = λ p e. polled_has w x p e;
  polled_all = λ p k e a b. polled_takes w x p k (omega (arith, f.keys_only k a)) a b;
  numbers_there = f.numbers_there;
  open_idle = λ p e. absurd (both_ways false refl (ap is_open e));
  engaged_voted = f.engaged_voted;
}

offered : (w : World) (t : ℕ) → Invariant w → is_begun w t ≡ true → may Offer (transaction w t) ≡ true →
    GoodOutcome w (offer t) (Polled (length (nodes_of (polled_byte w (transaction w t)))), with_transaction w t (is_now_offered (polled_byte w (transaction w t)) (transaction w t)))
offered w t now begun may_offer =
    let x : Transaction = transaction w t in
    let parts = and_parts (is_update x.kind) (is_open x.state) may_offer in
    record {
      same_placement = refl;
      keeps = keeps_transaction w t (is_now_offered (polled_byte w x) x) now begun (fits_offered w x now.few_keys (fits w t now begun)) (λ p k. refl);
      refines = inr (
        protocol.offer t,
        (status_seen w t now begun Open (open_is x.state parts.1), kind_seen w t now begun Update (update_is x.kind parts.0)),
        view_change w t (is_now_offered (polled_byte w x) x) (protocol.becomes protocol.Offered) begun (λ a. refl) refl (λ q. refl),
        refl,
      );
    }

pub offer_good : (free : FreeRule) (w : World) (t : ℕ) → Invariant w → GoodStep free w (offer t)
offer_good free w t now =
    good_step free w (offer t)
    (checked (is_begun w t) w (offer t) NoSuchTransaction _ now
    (λ begun. checked (may Offer (transaction w t)) w (offer t) WrongState _ now (offered w t now begun)))
