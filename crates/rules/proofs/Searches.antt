-- What begins as a search stays one, and is open until a finish of it is accepted.
use Rattle.std.proofs.Common.{◌≡◌, ℕ, zero, ◌+◌, ◌-◌, Bool, true, false, not, ◌&&◌, ◌||◌, nat_lt, nat_le, ◌⊎◌, List, [], ◌∷◌, length, slice_index_or, slice_set, Some, None, Ok, Err, Option, Result, sym, refl, ap, ◌∙◌, subst, inl, inr, arith}
use Rattle.std.proofs.lemmas.Bool.{both_ways}
use Rattle.std.proofs.lemmas.Bool.Decides.{nat_tests}
use Rattle.std.proofs.lemmas.Grind.{common_steps}
use Rattle.rules.proofs.Begins.{begun_world}
use Rattle.rules.proofs.Views.{begun_place}
use Rattle.calls.specs.declared.answer.Answer.{Answer}
use Rattle.calls.specs.declared.answer.Answer.TheVariants.{Done, Begun, Found, Polled, Yes, NoOvertaken, NoPlace, Committed, Aborted, Applied}
use Rattle.calls.specs.declared.refusal.Refusal.{Refusal}
use Rattle.calls.specs.declared.refusal.Refusal.TheVariants.{NoSuchTransaction, NoSuchNode, NoSuchKey, KeyNotHeld, MakeOutOfOrder, NumbersUsedUp, WrongState, NotYet, Overtaken, TooManyKeysRead, TooManyKeysWritten, NotPolled, AlreadyDone, Busy, VotesOutstanding, NothingToApply, NotLearned}
use Rattle.calls.specs.Requests.{Request, make, begin, read, write, offer, prepare, decide, cancel, learn, apply, finish}
use Rattle.clock.specs.Clocks.{slot, marked}
use Rattle.store.specs.Model.{FreeRule, Meaning}
use Rattle.store.specs.Batch.{all_aside, first_refused}
use Rattle.rules.specs.declared.records.Kind.{Kind}
use Rattle.rules.specs.declared.records.Kind.TheVariants.{Search, Update}
use Rattle.rules.specs.declared.records.State.{State}
use Rattle.rules.specs.declared.records.State.TheVariants.{Open, Offered, Committed as is_committed, Aborted as is_aborted, Finished}
use Rattle.rules.specs.declared.records.Event.TheVariants.{Read, Write, Offer, Prepare, Decide, Cancel, Learn, Finish}
use Rattle.rules.specs.declared.records.Transaction.{Transaction}
use Rattle.rules.specs.World.{World, Outcome, check, refuse, new_transaction, is_begun, is_node, is_key, holds, node, transaction, bit, wrote, how_many, written_at, is_write_node}
use Rattle.rules.specs.Changes.{may, is_update, is_offered}
use Rattle.rules.specs.Reading.{version_passes, newest_passes, can_note, read_by, read_open}
use Rattle.rules.specs.Voting.{busy, vote, vote_by_places, yes, overtaken_key}
use Rattle.rules.specs.Deciding.{all_voted, decide_by}
use Rattle.rules.specs.Applying.{learn_by, learn_commit, apply_least, least_waiting}
use Rattle.rules.specs.Steps.{begin_mode, step, world_after}
use Rattle.rules.specs.Transcript.{Transcript, transcript_on}
use Rattle.rules.specs.Promises.{Answered, IsSearch}

not_offered : (s : State) → s ≡ Open → is_offered s ≡ true → ⊥
not_offered s e f = both_ways (is_offered s) (ap is_offered e) f

-- a search t in a world, and what is left of it after a call
module _ (w : World) (t : ℕ) (begun : is_begun w t ≡ true) (search : (transaction w t).kind ≡ Search) where
  record Still (request : Request) (o : Outcome) : Type 0 where
    begun_after : is_begun o.1 t ≡ true
    search_after : (transaction o.1 t).kind ≡ Search
    open_after : (transaction w t).state ≡ Open → ((transaction o.1 t).state ≡ Open) ⊎ ((request ≡ finish t) × (o.0 ≡ Done))

  refused : (request : Request) (refusal : Refusal) → Still request (refuse w refusal)
  refused request refusal = record { begun_after = begun; search_after = search; open_after = λ e. inl e }

  checked : {request : Request} (passed : Bool) (refusal : Refusal) (rest : Outcome) → (passed ≡ true → Still request rest) → Still request (check passed w refusal rest)
  checked passed refusal rest e1 = grind (arith, nat_tests)

  -- the transaction of a call is changed
  module _ (request : Request) (answer : Answer) (after : World) (u : ℕ) (y : Transaction) (is : after.transactions ≡ slice_set w.transactions (u - 1) y) where
    changed : (u - 1 ≡ t - 1 → y.kind ≡ Search) → (u - 1 ≡ t - 1 → (transaction w t).state ≡ Open → (y.state ≡ Open) ⊎ ((request ≡ finish t) × (answer ≡ Done))) → Still request (answer, after)
    changed kind_kept state_kept = grind (arith, nat_tests, common_steps)

    -- neither its kind nor its state changes
    kept : y.kind ≡ (transaction w u).kind → y.state ≡ (transaction w u).state → Still request (answer, after)
    kept kind state = grind (arith, nat_tests, common_steps)

  one_number : (u : ℕ) → is_begun w u ≡ true → u - 1 ≡ t - 1 → u ≡ t
  one_number u b e = let x = (begun_place w u b).0 in let y = (begun_place w t begun).0 in omega arith

  -- a search changes by no offer, cancel or decision of an update
  at_same : (u : ℕ) → u - 1 ≡ t - 1 → transaction w u ≡ transaction w t
  at_same u e = ap (λ (i : ℕ). slice_index_or w.transactions i (new_transaction Search)) e

  read_by_still : (u k p : ℕ) (kind : Kind) → Still (read u k p) (read_by w u k p (transaction w u) kind)
  read_by_still u k p Search = kept (read u k p) (Found _ _) _ u _ refl refl refl
  read_by_still u k p Update =
      checked (newest_passes (version_passes w (transaction w u) p) (w.store p k).versions) Overtaken _ (λ a.
      checked (can_note (transaction w u) k) TooManyKeysRead _ (λ b.
      kept (read u k p) (Found _ _) _ u _ refl refl refl))

  read_open_still : (u k p : ℕ) (own : Option ℕ) → Still (read u k p) (read_open w u k p (transaction w u) own)
  read_open_still u k p (Some value) = record { begun_after = begun; search_after = search; open_after = λ e. inl e }
  read_open_still u k p None = checked (nat_le (slot (transaction w u).clock p) (node w p).frontier) NotYet _ (λ a. read_by_still u k p (transaction w u).kind)

  yes_still : (u p : ℕ) (store : Meaning) (writes : Bool) → Still (prepare u p) (yes w u p (transaction w u) store writes)
  yes_still u p store true = kept (prepare u p) (Yes _) _ u _ refl refl refl
  yes_still u p store false = kept (prepare u p) (Yes 0) _ u _ refl refl refl

  vote_by_places_still : (u p : ℕ) (places : Result (Unit {0}) ℕ) → Still (prepare u p) (vote_by_places w u p (transaction w u) places)
  vote_by_places_still u p (Ok done) = yes_still u p (all_aside w.store p (written_at w (transaction w u) p)) (is_write_node w (transaction w u) p)
  vote_by_places_still u p (Err key) = kept (prepare u p) (NoPlace key) _ u _ refl refl refl

  vote_still : (free : FreeRule) (u p : ℕ) (key : Option ℕ) → Still (prepare u p) (vote free w u p (transaction w u) key)
  vote_still free u p (Some key) = kept (prepare u p) (NoOvertaken key) _ u _ refl refl refl
  vote_still free u p None = vote_by_places_still u p (first_refused free w.store p (written_at w (transaction w u) p))

  decide_still : (u : ℕ) → is_offered (transaction w u).state ≡ true → (no : Bool) → Still (decide u) (decide_by w u (transaction w u) no)
  decide_still u offered true = changed (decide u) Aborted _ u _ refl
      (λ e. ap (λ (z : Transaction). z.kind) (at_same u e) ∙ search) (λ e o. absurd (not_offered (transaction w u).state (ap (λ (z : Transaction). z.state) (at_same u e) ∙ o) offered))
  decide_still u offered false = checked (all_voted (transaction w u)) VotesOutstanding _ (λ a. changed (decide u) (Committed _) _ u _ refl
      (λ e. ap (λ (z : Transaction). z.kind) (at_same u e) ∙ search) (λ e o. absurd (not_offered (transaction w u).state (ap (λ (z : Transaction). z.state) (at_same u e) ∙ o) offered)))

  learn_still : (u p : ℕ) (state : State) → Still (learn u p) (learn_by w u p (transaction w u) state)
  learn_still u p Open = refused (learn u p) WrongState
  learn_still u p Offered = refused (learn u p) WrongState
  learn_still u p is_committed = by (is_write_node w (transaction w u) p)
    where
      by : (writes : Bool) → Still (learn u p) (Done, learn_commit w u p (transaction w u) writes)
      by true = kept (learn u p) Done _ u _ refl refl refl
      by false = kept (learn u p) Done _ u _ refl refl refl
  learn_still u p is_aborted = kept (learn u p) Done _ u _ refl refl refl
  learn_still u p Finished = refused (learn u p) WrongState

  apply_still : (p : ℕ) (least : Option ℕ) → Still (apply p) (apply_least w p least)
  apply_still p None = refused (apply p) NothingToApply
  apply_still p (Some u) = checked (marked (transaction w u).learned p) NotLearned _ (λ a. kept (apply p) (Applied u) _ u _ refl refl refl)

  -- only updates are offered and cancelled
  gone : (request : Request) (answer : Answer) (after : World) (u : ℕ) (y : Transaction) (b : Bool) → after.transactions ≡ slice_set w.transactions (u - 1) y →
      (is_update (transaction w u).kind && b) ≡ true → Still request (answer, after)
  gone request answer after u y b is e = grind (arith, nat_tests, common_steps)

  begin_still : (mode : ℕ) → Still (begin mode) (begin_mode w mode)
  begin_still mode = grind (arith, nat_tests, common_steps)

  still : (free : FreeRule) (request : Request) → Still request (step free w request)
  still free (make nodes keys placement) = refused (make nodes keys placement) MakeOutOfOrder
  still free (begin mode) = begin_still mode
  still free (read u k p) =
      checked (is_begun w u) NoSuchTransaction _ (λ a. checked (is_node w p) NoSuchNode _ (λ b. checked (is_key w k) NoSuchKey _ (λ c. checked (holds w p k) KeyNotHeld _ (λ d. checked (may Read (transaction w u)) WrongState _ (λ e. read_open_still u k p (slice_index_or (transaction w u).written k None))))))
  still free (write u k value) =
      checked (is_begun w u) NoSuchTransaction _ (λ a. checked (is_key w k) NoSuchKey _ (λ b. checked (may Write (transaction w u)) WrongState _ (λ c. checked (wrote (transaction w u) k || nat_lt (how_many (transaction w u).written) 8) TooManyKeysWritten _ (λ d. kept (write u k value) Done _ u _ refl refl refl))))
  still free (offer u) = checked (is_begun w u) NoSuchTransaction _ (λ a. checked (may Offer (transaction w u)) WrongState _ (λ b. gone (offer u) (Polled _) _ u _ _ refl b))
  still free (prepare u p) =
      checked (is_begun w u) NoSuchTransaction _ (λ a. checked (is_node w p) NoSuchNode _ (λ b. checked (may Prepare (transaction w u)) WrongState _ (λ c. checked (bit (transaction w u).polled p) NotPolled _ (λ d. checked (not (marked (transaction w u).voted p)) AlreadyDone _ (λ e. checked (not (busy w u p)) Busy _ (λ f. vote_still free u p (overtaken_key w (transaction w u) p)))))))
  still free (decide u) = checked (is_begun w u) NoSuchTransaction _ (λ a. checked (may Decide (transaction w u)) WrongState _ (λ b. decide_still u b (transaction w u).refused))
  still free (cancel u) = checked (is_begun w u) NoSuchTransaction _ (λ a. checked (may Cancel (transaction w u)) WrongState _ (λ b. gone (cancel u) Done _ u _ _ refl b))
  still free (learn u p) =
      checked (is_begun w u) NoSuchTransaction _ (λ a. checked (is_node w p) NoSuchNode _ (λ b. checked (may Learn (transaction w u)) WrongState _ (λ c. checked (bit (transaction w u).polled p) NotPolled _ (λ d. checked (not (marked (transaction w u).learned p)) AlreadyDone _ (λ e. learn_still u p (transaction w u).state)))))
  still free (apply p) = checked (is_node w p) NoSuchNode _ (λ a. apply_still p (least_waiting w p))
  still free (finish u) =
      checked (is_begun w u) NoSuchTransaction _ (λ a. checked (may Finish (transaction w u)) WrongState _ (λ b. changed (finish u) Done _ u _ refl (λ e. ap (λ (z : Transaction). z.kind) (at_same u e) ∙ search) (λ e o. inr (ap finish (one_number u a e), refl))))

-- a search as it begins
record Starts (t : ℕ) (o : Outcome) : Type 0 where
  starts : o.0 ≡ Begun t → (is_begun o.1 t ≡ true) × ((transaction o.1 t).kind ≡ Search) × ((transaction o.1 t).state ≡ Open)

begin_starts : (w : World) (t : ℕ) → Starts t (begin_mode w zero)
begin_starts w t = go (nat_lt (length w.transactions) 255)
  where
    go : (b : Bool) → Starts t (check b w NumbersUsedUp (Begun (length w.transactions + 1), begun_world w Search))
    go b = grind (arith, nat_tests, common_steps)

-- what the calls tell of every search
pub record Searched (calls : Transcript) (w : World) (t : ℕ) : Type 0 where
  pub begun : is_begun w t ≡ true
  pub search : (transaction w t).kind ≡ Search
  pub state : ((transaction w t).state ≡ Open) ⊎ Answered (finish t) Done calls

one_call : (free : FreeRule) (calls : Transcript) (w : World) (request : Request) → ((t : ℕ) → IsSearch calls t → Searched calls w t) →
    (t : ℕ) → IsSearch ((request, (step free w request).0) ∷ calls) t → Searched ((request, (step free w request).0) ∷ calls) (step free w request).1 t
one_call free calls w request all t (inl now) =
    let o : step free w request ≡ begin_mode w zero = ap (λ (r : Request). step free w r) now.0 in
    let f = (begin_starts w t).starts (ap (λ (x : Outcome). x.0) (sym o) ∙ now.1) in
    let g = subst (λ (x : Outcome). (is_begun x.1 t ≡ true) × ((transaction x.1 t).kind ≡ Search) × ((transaction x.1 t).state ≡ Open)) (sym o) f in
    record { begun = g.0; search = g.1; state = inl g.2 }
one_call free calls w request all t (inr before) =
    let x = all t before in
    let y = still w t x.begun x.search free request in
    record { begun = y.begun_after; search = y.search_after; state = go x.state y.open_after }
  where
    go : {A : Type 0} → ((transaction w t).state ≡ Open) ⊎ A → ((transaction w t).state ≡ Open → ((transaction (step free w request).1 t).state ≡ Open) ⊎ ((request ≡ finish t) × ((step free w request).0 ≡ Done))) →
        ((transaction (step free w request).1 t).state ≡ Open) ⊎ (((request ≡ finish t) × ((step free w request).0 ≡ Done)) ⊎ A)
    go e1 e2 = grind (arith, nat_tests)

pub searches_on : (free : FreeRule) (calls : Transcript) (w : World) (requests : List Request) → ((t : ℕ) → IsSearch calls t → Searched calls w t) →
    (t : ℕ) → IsSearch (transcript_on free w requests calls) t → Searched (transcript_on free w requests calls) (world_after free w requests) t
unfolding transcript_on world_after
searches_on free calls w [] all = all
searches_on free calls w (request ∷ requests) all =
    searches_on free ((request, (step free w request).0) ∷ calls) (step free w request).1 requests (one_call free calls w request all)
