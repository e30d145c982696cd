-- Beginning a transaction.
use Rattle.std.proofs.Common.{◌≡◌, ℕ, zero, suc, ◌+◌, ◌<◌, Bool, true, false, cond, ◌&&◌, ◌||◌, nat_lt, List, [], ◌∷◌, ◌++◌, length, slice_index_or, replicate, None, Option, sym, refl, ap, ◌∙◌, subst, inr, ⊎_elim, arith, ◌==◌}
use Rattle.std.proofs.lemmas.List.{length-append}
use Rattle.std.proofs.lemmas.Bool.{or_from, eq-eqb, cases_Bool, both_ways, ltb-true, cond-false}
use Rattle.std.proofs.lemmas.Bool.Decides.{nat_tests}
use Rattle.std.proofs.lemmas.Grind.{common_steps}
use Rattle.std.specs.Option.{is_some, unwrap_or}
use Rattle.calls.specs.declared.answer.Answer.TheVariants.{Begun}
use Rattle.calls.specs.declared.refusal.Refusal.TheVariants.{NumbersUsedUp, BadRecord}
use Rattle.calls.specs.Requests.{begin}
use Rattle.clock.specs.Clocks.{marked}
use Rattle.store.specs.Model.{FreeRule}
use Rattle.history.specs.Protocol as protocol
use Rattle.rules.specs.declared.records.Kind.{Kind}
use Rattle.rules.specs.declared.records.Kind.TheVariants.{Search, Update}
use Rattle.rules.specs.declared.records.Transaction.{Transaction}
use Rattle.rules.specs.World.{World, is_begun, holds, transaction, new_transaction, no_marks, bit, noted, wrote, is_write_node}
use Rattle.rules.specs.Changes.{is_offered}
use Rattle.rules.specs.Deciding.{begin_call}
use Rattle.rules.proofs.View.{view, kind_of, transaction_of, participation_of}
use Rattle.rules.proofs.Invariant.{Invariant, GoodStep, engaged_writers}
use Rattle.rules.proofs.Checks.{GoodOutcome, good_step, refused, checked}
use Rattle.rules.proofs.Views.{same_state, engaged_writers_placement}
use Rattle.rules.proofs.Keeping.{Fits, fits}
use Rattle.rules.proofs.States.{bit_zero}

-- A row that holds its default everywhere.
pub get_or-blank : {X : Type 0} (n i : ℕ) (d : X) → slice_index_or (replicate n d) i d ≡ d
get_or-blank zero i d = refl
get_or-blank (suc n) zero d = refl
get_or-blank (suc n) (suc i) d = get_or-blank n i d

-- ── A transaction as it begins ──

module _ (kind : Kind) where
  unnoted : (k : ℕ) → noted (new_transaction kind) k ≡ false
  unnoted k = ap (λ (o : Option ℕ). is_some o) (get_or-blank {X = Option ℕ} 64 k None)

  unwritten : (k : ℕ) → wrote (new_transaction kind) k ≡ false
  unwritten k = ap (λ (o : Option ℕ). is_some o) (get_or-blank {X = Option ℕ} 64 k None)

  no_value : (k : ℕ) → unwrap_or (slice_index_or (replicate {A = Option ℕ} 64 None) k None) 0 ≡ 0
  no_value k = ap (λ (o : Option ℕ). unwrap_or o 0) (get_or-blank {X = Option ℕ} 64 k None)

  untouched : (k : ℕ) → (noted (new_transaction kind) k || wrote (new_transaction kind) k) ≡ true → ⊥
  untouched k e = both_ways (noted (new_transaction kind) k || wrote (new_transaction kind) k) (or_from (noted (new_transaction kind) k) (wrote (new_transaction kind) k) (unnoted k) (unwritten k)) e

  fits_new : (w : World) → Fits w (new_transaction kind)
  fits_new w = record {
    shaped = record { clock = refl; read = refl; noted = refl; written = refl; voted = refl; engaged = refl; numbers = refl; votes = refl; learned = refl; applied = refl; commit = refl };
    keys_only = λ k e. absurd (untouched k e);
    polled_sound = λ p e. absurd (both_ways (bit 0 p) (bit_zero p) e);
    polled_all = λ p k e. absurd (both_ways false refl (ap is_offered e));
    numbers_there = λ p e. get_or-blank 8 p 0;
    open_idle = λ p e. get_or-blank 8 p false;
    engaged_voted = λ p e. absurd (both_ways (marked no_marks p) (get_or-blank 8 p false) e);
  }

  new_seen : transaction_of (new_transaction kind) ≡ protocol.begins (kind_of kind) true ((protocol.fresh).transaction 0)
  new_seen = λ i. record {
    kind = kind_of kind;
    status = protocol.Open;
    reading = record { clock = λ q. get_or-blank 8 q 0 i; read_at = λ q. get_or-blank 8 q false i; noted = λ k. unnoted k i; noted_writer = λ k. no_value k i };
    writing = record { wrote = λ k. unwritten k i; value = λ k. no_value k i };
    outcome = record { refused = false; vote_clock = λ q. get_or-blank 8 q 0 i; stamp = 0; commit_clock = λ q. get_or-blank 8 q 0 i };
  }

  new_participation : (q : ℕ) → participation_of (new_transaction kind) q ≡ (protocol.fresh).participation 0 q
  new_participation q = grind (arith, nat_tests)

-- ── The world after ──

abbrev pub begun_world : World → Kind → World
begun_world w kind = record { nodes = w.nodes; transactions = w.transactions ++ new_transaction kind ∷ []; placement = w.placement; store = w.store }

module _ (w : World) (kind : Kind) where
  count : length (w.transactions ++ new_transaction kind ∷ []) ≡ length w.transactions + 1
  count = length-append w.transactions (new_transaction kind ∷ [])

  -- It is the new one.
  pub begun_here : (u : ℕ) → ((length w.transactions + 1) == u) ≡ true →
      (is_begun w u ≡ false) × (is_begun (begun_world w kind) u ≡ true) × (transaction (begun_world w kind) u ≡ new_transaction kind)
  begun_here u e = grind (arith, nat_tests, common_steps)

  -- It is another.
  pub begun_there : (u : ℕ) → ((length w.transactions + 1) == u) ≡ false →
      (is_begun (begun_world w kind) u ≡ is_begun w u) × (is_begun w u ≡ true → transaction (begun_world w kind) u ≡ transaction w u)
  begun_there u e = grind (arith, nat_tests, common_steps)

  begun_seen : {A : Type 0} (v : Transaction → A) (d : A) (f : Bool → A → A) → ((a : A) → f false a ≡ a) → v (new_transaction kind) ≡ f true d → (u : ℕ) →
      cond (is_begun (begun_world w kind) u) (v (transaction (begun_world w kind) u)) d ≡ f ((length w.transactions + 1) == u) (cond (is_begun w u) (v (transaction w u)) d)
  begun_seen v d f rest e u = grind (arith, nat_tests, common_steps)

  begun_view : view (begun_world w kind) ≡ protocol.change_transaction (length w.transactions + 1) (protocol.begins (kind_of kind)) (view w)
  begun_view =
      same_state (view (begun_world w kind)) (protocol.change_transaction (length w.transactions + 1) (protocol.begins (kind_of kind)) (view w))
      (λ u. begun_seen transaction_of ((protocol.fresh).transaction u) (protocol.begins (kind_of kind)) (λ a. refl) (new_seen kind) u)
      (λ p. refl)
      (λ u q. begun_seen (λ (x : Transaction). participation_of x q) ((protocol.fresh).participation u q) (λ (c : Bool) (a : protocol.Participation). a) (λ a. refl) (new_participation kind q) u)
      (λ p k. refl)

  fits_all : Invariant w → (u : ℕ) → is_begun (begun_world w kind) u ≡ true → Fits w (transaction (begun_world w kind) u)
  fits_all now u b =
      ⊎_elim
      (λ (e : ((length w.transactions + 1) == u) ≡ true). subst (λ (x : Transaction). Fits w x) (sym (begun_here u e).2) (fits_new kind w))
      (λ (e : ((length w.transactions + 1) == u) ≡ false).
      let before : is_begun w u ≡ true = sym (begun_there u e).0 ∙ b in
      subst (λ (x : Transaction). Fits w x) (sym ((begun_there u e).1 before)) (fits w u now before))
      (cases_Bool ((length w.transactions + 1) == u))

  -- The new one is engaged nowhere.
  writers_more : (p k : ℕ) (xs : List Transaction) → engaged_writers w p k (xs ++ new_transaction kind ∷ []) ≡ engaged_writers w p k xs
  writers_more p k [] = rw (get_or-blank 8 p false) refl
  writers_more p k (x ∷ xs) = ap (λ (n : ℕ). cond (marked x.engaged p && (wrote x k && holds w p k)) 1 0 + n) (writers_more p k xs)

  begun_keeps : Invariant w → length w.transactions < 255 → Invariant (begun_world w kind)
  unfolding is_write_node
  begun_keeps now room = record {
    some_nodes = now.some_nodes;
    few_nodes = now.few_nodes;
    few_keys = now.few_keys;
    few_transactions = omega (arith, count);
    has_holder = now.has_holder;
    holders = now.holders;
    seen = now.seen;
    shaped = λ u b. (fits_all now u b).shaped;
    keys_only = λ u k b. (fits_all now u b).keys_only k;
    polled_sound = λ u p b. (fits_all now u b).polled_sound p;
    polled_all = λ u p k b. (fits_all now u b).polled_all p k;
    numbers_there = λ u p b. (fits_all now u b).numbers_there p;
    first_last = now.first_last;
    places = λ p k. now.places p k ∙ sym (writers_more p k w.transactions) ∙ engaged_writers_placement w (begun_world w kind) p k (w.transactions ++ new_transaction kind ∷ []) refl;
    open_idle = λ u p b. (fits_all now u b).open_idle p;
    engaged_voted = λ u p b. (fits_all now u b).engaged_voted p;
  }

  begun_now : (mode : ℕ) → Invariant w → GoodOutcome w (begin mode) (begin_call w kind)
  begun_now mode now =
      checked (nat_lt (length w.transactions) 255) w (begin mode) NumbersUsedUp (Begun (length w.transactions + 1), begun_world w kind) now
      (λ room. record {
        same_placement = refl;
        keeps = begun_keeps now (ltb-true (length w.transactions) 255 room);
        refines = inr (
          protocol.begin (length w.transactions + 1) (kind_of kind),
          (
            ap (λ (a : protocol.Transaction). a.status)
                (cond-false (is_begun w (length w.transactions + 1)) (transaction_of (transaction w (length w.transactions + 1))) ((protocol.fresh).transaction 0)
                (begun_here (length w.transactions + 1) (eq-eqb (length w.transactions + 1) (length w.transactions + 1) refl)).0),
            omega arith,
          ),
          begun_view,
          refl,
        );
      })

pub begin_good : (free : FreeRule) (w : World) (mode : ℕ) → Invariant w → GoodStep free w (begin mode)
begin_good free w zero now = good_step free w (begin zero) (begun_now w Search zero now)
begin_good free w (suc zero) now = good_step free w (begin (suc zero)) (begun_now w Update (suc zero) now)
begin_good free w (suc (suc mode)) now = good_step free w (begin (suc (suc mode))) (refused w (begin (suc (suc mode))) BadRecord now)
