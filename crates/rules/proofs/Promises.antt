-- The promises follow from what holds of histories.
use Rattle.std.proofs.Common.{◌≡◌, ℕ, zero, suc, ◌+◌, ◌-◌, ◌*◌, ◌<◌, ◌≤◌, Bool, true, false, cond, ◌&&◌, nat_le, List, [], ◌∷◌, ◌++◌, length, slice_index_or, slice_set, Some, None, Option, sym, refl, ap, ◌∙◌, subst, inl, inr, ⊎_elim, arith, lit<, ◌==◌}
use mathlib.Core.List.{Perm}
use Rattle.std.proofs.lemmas.Bool.{cases_Bool, both_ways, leb-false, lt-leb, and_from, ltb-true, lt-ltb, eqb-true}
use Rattle.std.proofs.lemmas.Bool.Decides.{nat_tests}
use Rattle.std.proofs.lemmas.Grind.{common_steps}
use Rattle.std.specs.Option.{is_some}
use Rattle.rules.proofs.Views.{view_begun as shown}
use Rattle.calls.specs.declared.answer.Answer.{Answer}
use Rattle.calls.specs.declared.answer.Answer.TheVariants.{Found, Refused}
use Rattle.calls.specs.declared.refusal.Refusal.{Refusal}
use Rattle.calls.specs.declared.refusal.Refusal.TheVariants.{NoSuchTransaction, NoSuchNode, NoSuchKey, KeyNotHeld, WrongState, NotYet, Overtaken, TooManyKeysRead}
use Rattle.calls.specs.Requests.{Request, read}
use Rattle.clock.specs.Clocks.{slot, marked}
use Rattle.store.specs.Model.{FreeRule, aside_there}
use Rattle.history.specs.Table.{Version, version, first_version, first_table, Operation, after, puts, scripts_conflict, play_all, AllAnswered, Member, listed, Later, selected, newest}
use Rattle.history.specs.Protocol as protocol
use Rattle.history.specs.Protocol.{State, Event}
use Rattle.history.specs.History as history
use Rattle.history.specs.Statements as statements
use Rattle.history.specs.Statements.{HistoryStands}
use Rattle.history.proofs.Basics.{is_begun as is_under_way, frozen, one_kind}
use Rattle.history.proofs.Invariants.{invariants}
use Rattle.history.proofs.Final.{histories_stand}
use Rattle.rules.specs.declared.records.Kind.{Kind}
use Rattle.rules.specs.declared.records.Kind.TheVariants.{Search, Update}
use Rattle.rules.specs.declared.records.State.TheVariants.{Open}
use Rattle.rules.specs.declared.records.Event.TheVariants.{Read}
use Rattle.rules.specs.declared.records.Transaction.{Transaction}
use Rattle.rules.specs.World.{World, Outcome, check, new_transaction, is_begun, is_node, is_key, holds, node, transaction, with_transaction, wrote}
use Rattle.rules.specs.Changes.{may, is_open, has_read, has_noted}
use Rattle.rules.specs.Reading.{clock_after, version_passes, newest_passes, can_note, visible, read_by, read_open, read_call}
use Rattle.rules.specs.Steps.{can_make, made_world, step, world_after}
use Rattle.rules.specs.Transcript.{Transcript, Told, began, got, put_value, decided_commit, applied_there, nothing, told, transcript, script, answers_got, decisions, applied_at}
use Rattle.rules.specs.Promises.{stays, OrderAnswered, table_after, HasAPlace, chain_of, writers, ListsWriters, newest_applied, IsSearch, IsOpenSearch, YetToApply, reads_own_only, NumbersWithin, Promises, PromisesKept}
use Rattle.rules.proofs.View.{view, placed, told_by, kind_of, transaction_of}
use Rattle.rules.proofs.Invariant.{Invariant, GoodStep, engaged_writers}
use Rattle.rules.proofs.Told.{same_scripts, same_answers, same_decisions, same_applications}
use Rattle.rules.proofs.Tied.{Tied, tied, ComesTo, view_begun}
use Rattle.rules.proofs.Readers.{own_only, writers_update}
use Rattle.rules.proofs.Searches.{Searched, searches_on}
use Rattle.rules.proofs.Unchanged.{unchanged_if_refused}

-- the versions of writers, over any scripts
abbrev versions_by : (ℕ → List Operation) → ℕ → List ℕ → List Version
versions_by f k order = selected (λ u. puts (f u) k) (λ u. after u (f u) first_table k) order

-- a search that is open, by its record
abbrev OpenSearch : World → ℕ → Type 0
OpenSearch w t = (is_begun w t ≡ true) × ((transaction w t).kind ≡ Search) × ((transaction w t).state ≡ Open)

-- a check that fails, and one that is passed on the way to an answer
fails : (b : Bool) (w : World) (refusal : Refusal) (o : Outcome) → b ≡ false → (check b w refusal o).0 ≡ Refused refusal
fails b w refusal o e1 = grind (arith, nat_tests)

refused_there : (b : Bool) (w after : World) (refusal r : Refusal) (value writer : ℕ) → (check b w refusal (Found value writer, after)).0 ≡ Refused r → b ≡ false
refused_there b w after refusal r value writer e1 = grind (arith, nat_tests)

is_none : (o : Option ℕ) → is_some o ≡ false → o ≡ None
is_none o e1 = grind (arith, nat_tests)

-- a read that no refusal before the eleventh meets
read_reaches : (w : World) (t k p : ℕ) → is_begun w t ≡ true → is_node w p ≡ true → is_key w k ≡ true → holds w p k ≡ true → may Read (transaction w t) ≡ true →
    read_call w t k p ≡ read_open w t k p (transaction w t) (slice_index_or (transaction w t).written k None)
read_reaches w t k p begun there key held may_read_lem = grind (arith, nat_tests)

-- a writer that is engaged there is counted
counted_there : (w : World) (p k : ℕ) (xs : List Transaction) (i : ℕ) (d : Transaction) → i < length xs →
    (marked (slice_index_or xs i d).engaged p && (wrote (slice_index_or xs i d) k && holds w p k)) ≡ true → 0 < engaged_writers w p k xs
counted_there w p k [] i d l e = absurd (omega arith)
counted_there w p k (x ∷ xs) zero d l e = rw e (omega arith)
counted_there w p k (x ∷ xs) (suc i) d l e = let r = counted_there w p k xs i d (omega arith) e in omega arith

-- an accepted read of a key that was not written marks the node as read at
record Marks (t p value writer : ℕ) (o : Outcome) : Type 0 where
  at_node : o.0 ≡ Found value writer → marked (transaction o.1 t).read p ≡ true

checked : {t p value writer : ℕ} (passed : Bool) (w : World) (refusal : Refusal) (rest : Outcome) → (passed ≡ true → Marks t p value writer rest) →
    Marks t p value writer (check passed w refusal rest)
checked passed w refusal rest e1 = grind (arith, nat_tests)

module _ (w : World) (t k p value writer : ℕ) (few : length w.nodes ≤ 8) (rows : is_begun w t ≡ true → length (transaction w t).read ≡ 8) where
  there_after : is_begun w t ≡ true → p < length w.nodes → (x : Transaction) → x.read ≡ slice_set (transaction w t).read p true → marked (transaction (with_transaction w t x) t).read p ≡ true
  there_after begun l x e = grind (arith, nat_tests, common_steps)

  abbrev noted_after : Transaction
  noted_after = has_noted k (visible w (transaction w t) k p).writer (has_read p (clock_after w (transaction w t) p) (transaction w t))

  read_by_marks : is_begun w t ≡ true → p < length w.nodes → (kind : Kind) → Marks t p value writer (read_by w t k p (transaction w t) kind)
  read_by_marks begun l Search = record { at_node = λ e. there_after begun l (has_read p (clock_after w (transaction w t) p) (transaction w t)) refl }
  read_by_marks begun l Update =
      checked (newest_passes (version_passes w (transaction w t) p) (w.store p k).versions) w Overtaken
      (check (can_note (transaction w t) k) w TooManyKeysRead (Found (visible w (transaction w t) k p).value (visible w (transaction w t) k p).writer, with_transaction w t noted_after))
      (λ f. checked (can_note (transaction w t) k) w TooManyKeysRead (Found (visible w (transaction w t) k p).value (visible w (transaction w t) k p).writer, with_transaction w t noted_after)
      (λ g. record { at_node = λ e. there_after begun l noted_after refl }))

  read_open_marks : is_begun w t ≡ true → p < length w.nodes → (own : Option ℕ) → own ≡ None → Marks t p value writer (read_open w t k p (transaction w t) own)
  read_open_marks begun l None e = checked (nat_le (slot (transaction w t).clock p) (node w p).frontier) w NotYet (read_by w t k p (transaction w t) (transaction w t).kind) (λ f. read_by_marks begun l (transaction w t).kind)
  read_open_marks begun l (Some x) e = absurd cc

  read_marks : (is_begun w t ≡ true → wrote (transaction w t) k ≡ false) → Marks t p value writer (read_call w t k p)
  read_marks not_written =
      checked (is_begun w t) w NoSuchTransaction _ (λ begun.
      checked (is_node w p) w NoSuchNode _ (λ there.
      checked (is_key w k) w NoSuchKey _ (λ key.
      checked (holds w p k) w KeyNotHeld _ (λ held.
      checked (may Read (transaction w t)) w WrongState _ (λ m.
      read_open_marks begun (ltb-true p (length w.nodes) there) (slice_index_or (transaction w t).written k None) (is_none (slice_index_or (transaction w t).written k None) (not_written begun)))))))

only_there : (b c before : Bool) → before ≡ false → cond (b && c) true before ≡ true → c ≡ true
only_there b c before e1 e2 = grind (arith, nat_tests)

-- only a read tells that something was got
abbrev is_got : Told → Bool
is_got (began u) = false
is_got (got u k a) = true
is_got (put_value u k v) = false
is_got (decided_commit u) = false
is_got (applied_there u q) = false
is_got nothing = false

no_read : {A : Type 0} (x : Told) (t k : ℕ) (a : Version) → is_got x ≡ false → got t k a ≡ x → A
no_read x t k a e f = absurd (both_ways (is_got x) e (ap is_got (sym f)))

module _ (placement : List ℕ) (calls : Transcript) (w : World) (tie : Tied placement calls w) where
  abbrev h : List Event
  h = tie.history

  same_holders : (p k : ℕ) → holds w p k ≡ placed placement p k
  same_holders p k = ap (λ (l : List ℕ). placed l p k) tie.same_placement

  few_holders : (p k : ℕ) → placed placement p k ≡ true → p < 8
  few_holders p k e = grind (arith, nat_tests)

  stands : HistoryStands (placed placement) 256 8 h (view w)
  stands = histories_stand (placed placement) 256 8 (lit< tt) few_holders h (view w) tie.reachable

  scripts_same : history.script h ≡ script calls
  scripts_same = same_scripts tie.matches

  answers_same : history.got h ≡ answers_got calls
  answers_same = same_answers tie.matches

  decisions_same : history.decisions h ≡ decisions calls
  decisions_same = same_decisions tie.matches

  applied_same : history.applied_at h ≡ applied_at calls
  applied_same = same_applications tie.matches

  -- what runs on one table
  order_answered : (order : List ℕ) → statements.OrderAnswered h order → OrderAnswered calls order
  order_answered order a =
      subst (λ (f : ℕ → List Operation). AllAnswered f (stays calls) (answers_got calls) order first_table) scripts_same
      (subst (λ (g : ℕ → List Version). AllAnswered (history.script h) (stays calls) g order first_table) answers_same
      (subst (λ (d : List ℕ). AllAnswered (history.script h) (λ u. listed u d) (history.got h) order first_table) decisions_same a))

  table_same : (order : List ℕ) → statements.table_after h order ≡ table_after calls order
  table_same order =
      ap (λ (d : List ℕ). play_all (history.script h) (λ u. listed u d) order first_table) decisions_same
      ∙ ap (λ (f : ℕ → List Operation). play_all f (stays calls) order first_table) scripts_same

  member_back : (u : ℕ) → Member u (decisions calls) → Member u (history.decisions h)
  member_back u m = subst (λ (d : List ℕ). Member u d) (sym decisions_same) m

  has_a_place : (t : ℕ) → (Member t (decisions calls) → ⊥) → HasAPlace calls t
  has_a_place t out =
      let found = stands.uncommitted_has_a_place t (λ m. out (subst (λ (d : List ℕ). Member t d) decisions_same m)) in
      record {
        earlier = found.earlier;
        later = found.later;
        reordered = subst (λ (d : List ℕ). Perm (found.later ++ found.earlier) d) decisions_same found.reordered;
        answered = order_answered (found.later ++ (t ∷ found.earlier)) found.answered;
        same_table =
            sym (table_same (found.later ++ (t ∷ found.earlier))) ∙ found.same_table ∙ table_same (history.decisions h)
            ∙ ap (λ (d : List ℕ). table_after calls d) decisions_same;
      }

  -- chains
  writers_same : (k : ℕ) (order : List ℕ) → statements.writers h k order ≡ writers calls k order
  writers_same k order = ap (λ (f : ℕ → List Operation). versions_by f k order) scripts_same

  chain_ends : (p k : ℕ) → chain_of w p k ≡ protocol.chain (view w) p k ++ first_version ∷ []
  chain_ends p k = grind (arith, nat_tests, common_steps)

  lists_writers : (p k : ℕ) → holds w p k ≡ true → ListsWriters calls w p k
  lists_writers p k e = ⊎_elim
      (λ (whole : protocol.chain (view w) p k ≡ statements.writers h k (history.decisions h)). inl (chain_ends p k ∙ ap (λ (l : List Version). l ++ first_version ∷ []) (whole ∙ same)))
      (λ (short : (last : Version) × (statements.writers h k (history.decisions h) ≡ last ∷ protocol.chain (view w) p k)). inr (short.0, protocol.chain (view w) p k, sym same ∙ short.1, chain_ends p k))
      (stands.chains_list_writers p k (sym (same_holders p k) ∙ e))
    where
      same : statements.writers h k (history.decisions h) ≡ writers calls k (decisions calls)
      same = writers_same k (history.decisions h) ∙ ap (λ (d : List ℕ). writers calls k d) decisions_same

  committed_begun : (u : ℕ) → Member u (decisions calls) → is_begun w u ≡ true
  committed_begun u m = sym (view_begun w u) ∙ ap is_under_way (stands.decision_order_serial.only u (member_back u m))

  searches_uncommitted : (t : ℕ) → is_begun w t ≡ true → (transaction w t).kind ≡ Search → Member t (decisions calls) → ⊥
  searches_uncommitted t b e m =
      one_kind (protocol.kind (view w) t) (ap (λ (x : protocol.Transaction). x.kind) (shown w t b) ∙ ap kind_of e)
      ((invariants (placed placement) 256 tie.reachable).scripts.offered_update t (ap frozen (stands.decision_order_serial.only t (member_back t m))))

  -- numbers
  begun_few : (8 + 1) * length (history.begun h) * 256 ≤ 587775
  begun_few = grind (arith, nat_tests)

  small : (n : ℕ) → n ≤ (8 + 1) * length (history.begun h) * 256 → n ≤ 587775
  small n l = let a = begun_few in omega arith

  small_shown : (f : protocol.Transaction → ℕ) (t : ℕ) → is_begun w t ≡ true → f ((view w).transaction t) ≤ (8 + 1) * length (history.begun h) * 256 → f (transaction_of (transaction w t)) ≤ 587775
  small_shown f t b l = grind (arith, nat_tests)

  numbers_small : NumbersWithin 587775 w
  numbers_small =
      let n = stands.numbers_bounded in
      record {
        counters = λ p. small (node w p).counter (n.counters p);
        frontiers = λ p. small (node w p).frontier (n.frontiers p);
        seen_clocks = λ p q. grind (arith, nat_tests, common_steps);
        stamps = λ t b. grind (arith, nat_tests, common_steps);
        numbers = grind (arith, nat_tests, common_steps);
        clocks = λ t q b. small_shown (λ (x : protocol.Transaction). x.reading.clock q) t b (n.clocks t q);
        vote_clocks = λ t q b. small_shown (λ (x : protocol.Transaction). x.outcome.vote_clock q) t b (n.vote_clocks t q);
        commit_clocks = λ t q b. small_shown (λ (x : protocol.Transaction). x.outcome.commit_clock q) t b (n.commit_clocks t q);
      }

  -- stamps
  stamp_shown : (u : ℕ) → Member u (decisions calls) → protocol.stamp (view w) u ≡ (transaction w u).stamp
  stamp_shown u m = ap (λ (x : protocol.Transaction). x.outcome.stamp) (shown w u (committed_begun u m))

  later_first : (t u : ℕ) (l : List ℕ) → Later t u l → Member t l × Member u l
  later_first t u [] m = absurd m
  later_first t u (y ∷ l) (inl m) = (inl m.0, inr m.1)
  later_first t u (y ∷ l) (inr m) = (inr (later_first t u l m).0, inr (later_first t u l m).1)

  stamps_ordered : (t u k : ℕ) → Later t u (decisions calls) → scripts_conflict (script calls u) (script calls t) k ≡ true → ((j : ℕ) × (puts (script calls t) j ≡ true)) →
      ((j : ℕ) × (puts (script calls u) j ≡ true)) → (transaction w u).stamp < (transaction w t).stamp
  stamps_ordered t u k l c a b =
      let m = later_first t u (decisions calls) l in
      let x = stamp_shown t m.0 in
      let y = stamp_shown u m.1 in
      let z = stands.stamps_follow_decisions t u k (subst (λ (d : List ℕ). Later t u d) (sym decisions_same) l)
      (subst (λ (f : ℕ → List Operation). scripts_conflict (f u) (f t) k ≡ true) (sym scripts_same) c)
      (subst (λ (f : ℕ → List Operation). (j : ℕ) × (puts (f t) j ≡ true)) (sym scripts_same) a)
      (subst (λ (f : ℕ → List Operation). (j : ℕ) × (puts (f u) j ≡ true)) (sym scripts_same) b) in
      omega arith

  -- a node that is behind
  yet_to_apply : (t p : ℕ) → is_begun w t ≡ true → statements.YetToApply (placed placement) h (view w) t p → YetToApply calls w t p
  yet_to_apply t p b y =
      let m : Member y.update (decisions calls) = subst (λ (d : List ℕ). Member y.update d) decisions_same y.committed in
      let x = stamp_shown y.update m in
      let c = ap (λ (z : protocol.Transaction). z.reading.clock p) (shown w t b) in
      let l = y.not_above in
      record {
        update = y.update;
        committed = m;
        writes_there = (y.writes_there.0, ap (λ (f : ℕ → List Operation). puts (f y.update) y.writes_there.0) (sym scripts_same) ∙ y.writes_there.1, same_holders p y.writes_there.0 ∙ y.writes_there.2);
        unapplied = λ n. y.unapplied (subst (λ (f : ℕ → List ℕ). Member y.update (f p)) (sym applied_same) n);
        not_above = omega arith;
      }

  behind : (t p : ℕ) → is_begun w t ≡ true → YetToApply calls w t p → statements.YetToApply (placed placement) h (view w) t p
  behind t p b y =
      let x = stamp_shown y.update y.committed in
      let c = ap (λ (z : protocol.Transaction). z.reading.clock p) (shown w t b) in
      let l = y.not_above in
      record {
        update = y.update;
        committed = member_back y.update y.committed;
        writes_there = (y.writes_there.0, ap (λ (f : ℕ → List Operation). puts (f y.update) y.writes_there.0) scripts_same ∙ y.writes_there.1, sym (same_holders p y.writes_there.0) ∙ y.writes_there.2);
        unapplied = λ n. y.unapplied (subst (λ (f : ℕ → List ℕ). Member y.update (f p)) applied_same n);
        not_above = omega arith;
      }

  unwritten : (t k : ℕ) → is_begun w t ≡ true → (transaction w t).kind ≡ Search → wrote (transaction w t) k ≡ false
  unwritten t k b e = ⊎_elim
      (λ (x : wrote (transaction w t) k ≡ true).
      absurd (one_kind {A = ⊥} (protocol.kind (view w) t) (ap (λ (x : protocol.Transaction). x.kind) (shown w t b) ∙ ap kind_of e)
      (writers_update (placed placement) 256 tie.reachable t k (ap (λ (x : protocol.Transaction). x.writing.wrote k) (shown w t b) ∙ x))))
      (λ (x : wrote (transaction w t) k ≡ false). x)
      (cases_Bool (wrote (transaction w t) k))

  search_read : (free : FreeRule) (t k p : ℕ) → OpenSearch w t → holds w p k ≡ true →
      step free w (read t k p) ≡ check (nat_le (slot (transaction w t).clock p) (node w p).frontier) w NotYet (read_by w t k p (transaction w t) Search)
  search_read free t k p o held =
      let place = tie.invariant.holders p k held in
      read_reaches w t k p o.0 (lt-ltb p (length w.nodes) place.0) (lt-ltb k (length w.placement) place.1) held (ap is_open o.2)
      ∙ ap (λ (x : Option ℕ). read_open w t k p (transaction w t) x) (is_none (slice_index_or (transaction w t).written k None) (unwritten t k o.0 o.1))
      ∙ ap (λ (x : Kind). check (nat_le (slot (transaction w t).clock p) (node w p).frontier) w NotYet (read_by w t k p (transaction w t) x)) o.1

  refused_if_behind : (free : FreeRule) (t k p : ℕ) → OpenSearch w t → holds w p k ≡ true → YetToApply calls w t p → (step free w (read t k p)).0 ≡ Refused NotYet
  refused_if_behind free t k p o held y =
      let lt : (node w p).frontier < protocol.clock (view w) t p = (stands.behind_exactly t p).1 (behind t p o.0 y) in
      let c : protocol.clock (view w) t p ≡ slot (transaction w t).clock p = ap (λ (z : protocol.Transaction). z.reading.clock p) (shown w t o.0) in
      ap (λ (x : Outcome). x.0) (search_read free t k p o held)
      ∙ fails (nat_le (slot (transaction w t).clock p) (node w p).frontier) w NotYet (read_by w t k p (transaction w t) Search) (lt-leb (slot (transaction w t).clock p) (node w p).frontier (omega arith))

  refused_only_if_behind : (free : FreeRule) (t k p : ℕ) → OpenSearch w t → holds w p k ≡ true → (r : Refusal) → (step free w (read t k p)).0 ≡ Refused r → YetToApply calls w t p
  refused_only_if_behind free t k p o held r e =
      let f : nat_le (slot (transaction w t).clock p) (node w p).frontier ≡ false =
      refused_there (nat_le (slot (transaction w t).clock p) (node w p).frontier) w (with_transaction w t (has_read p (clock_after w (transaction w t) p) (transaction w t))) NotYet r (visible w (transaction w t) k p).value (visible w (transaction w t) k p).writer
      (ap (λ (x : Outcome). x.0) (sym (search_read free t k p o held)) ∙ e) in
      let lt : (node w p).frontier < slot (transaction w t).clock p = leb-false (slot (transaction w t).clock p) (node w p).frontier f in
      let c : protocol.clock (view w) t p ≡ slot (transaction w t).clock p = ap (λ (z : protocol.Transaction). z.reading.clock p) (shown w t o.0) in
      yet_to_apply t p o.0 ((stands.behind_exactly t p).0 (omega arith))

  places_kept : (t p k : ℕ) → is_begun w t ≡ true → marked (transaction w t).engaged p ≡ true → wrote (transaction w t) k ≡ true → holds w p k ≡ true → aside_there w.store p k ≡ true
  places_kept t p k b e x held =
      let i : t - 1 < length w.transactions = grind (arith, nat_tests) in
      let c = counted_there w p k w.transactions (t - 1) (new_transaction Search) i (and_from _ _ e (and_from _ _ x held)) in
      let a = tie.invariant.places p k in
      let place = tie.invariant.holders p k held in
      let n = tie.invariant.few_nodes in
      let m = tie.invariant.few_keys in
      and_from _ _ (and_from _ _ (lt-ltb p 8 (omega arith)) (lt-ltb k 64 (omega arith))) (lt-ltb 0 (w.store p k).aside (omega arith))

  -- a transaction's first read
  module _ (t k p value writer : ℕ) (own : reads_own_only (script calls t) ≡ true) (not_put : puts (script calls t) k ≡ false) where
    none : (j q : ℕ) (a : Version) → history.WasRead h t j q a → ⊥
    none = own_only (placed placement) 256 tie.reachable t (ap (λ (f : ℕ → List Operation). reads_own_only (f t)) scripts_same ∙ own)

    unread : (q : ℕ) → protocol.read_at (view w) t q ≡ false
    unread q = ⊎_elim
        (λ (e : protocol.read_at (view w) t q ≡ true). let r = (invariants (placed placement) 256 tie.reachable).snapshots.read_got t q e in absurd (none r.0 q r.1 r.2))
        (λ (e : protocol.read_at (view w) t q ≡ false). e)
        (cases_Bool (protocol.read_at (view w) t q))

    not_wrote : protocol.wrote (view w) t k ≡ false
    not_wrote = sym ((invariants (placed placement) 256 tie.reachable).scripts.script_wrote t k) ∙ ap (λ (f : ℕ → List Operation). puts (f t) k) scripts_same ∙ not_put

    newest_same : statements.newest_applied h p k ≡ newest_applied calls p k
    newest_same =
        ap newest (writers_same k (history.applied_at h p)) ∙ ap (λ (f : ℕ → List ℕ). newest (writers calls k (f p))) applied_same

    settle : (u j q : ℕ) (a : Version) (c : protocol.Clock) → t ≡ u → k ≡ j → p ≡ q → version value writer ≡ a → protocol.MayRead (placed placement) (view w) u j q a c →
        version value writer ≡ newest_applied calls p k
    settle u j q a c tu kj pq va reads =
        (stands.first_read_current t p none).1 k (version value writer) c
        (subst (λ (x : ℕ). protocol.MayRead (placed placement) (view w) x k p (version value writer) c) (sym tu)
        (subst (λ (x : ℕ). protocol.MayRead (placed placement) (view w) u x p (version value writer) c) (sym kj)
        (subst (λ (x : ℕ). protocol.MayRead (placed placement) (view w) u j x (version value writer) c) (sym pq)
        (subst (λ (x : Version). protocol.MayRead (placed placement) (view w) u j q x c) (sym va) reads))))
        ∙ newest_same

    -- the node that the event read at is the node of the call: no other is marked
    there : (w' : World) (e : Event) → view w' ≡ protocol.next (placed placement) (view w) e → protocol.status (view w) t ≡ protocol.Open →
        marked (transaction w' t).read p ≡ true → protocol.read_at (protocol.next (placed placement) (view w) e) t p ≡ true
    there w' e v o m = grind (arith, nat_tests, common_steps)

    at_event : (w' : World) (e : Event) → protocol.Accepted (placed placement) 256 (view w) e → view w' ≡ protocol.next (placed placement) (view w) e →
        got t k (version value writer) ≡ told_by (history.mark e) → marked (transaction w' t).read p ≡ true → version value writer ≡ newest_applied calls p k
    at_event w' (protocol.read_own u j a) ok v g m =
        let tu : t ≡ u = cc in
        let kj : k ≡ j = cc in
        absurd (both_ways (protocol.wrote (view w) t k) not_wrote (ap (λ (x : ℕ). protocol.wrote (view w) x k) tu ∙ ap (λ (x : ℕ). protocol.wrote (view w) u x) kj ∙ ok.1))
    at_event w' (protocol.read_search u j q a c) ok v g m =
        let tu : t ≡ u = cc in
        let kj : k ≡ j = cc in
        let va : version value writer ≡ a = cc in
        let o : protocol.status (view w) t ≡ protocol.Open = ap (λ (x : ℕ). protocol.status (view w) x) tu ∙ ok.0.open_now in
        let r = there w' (protocol.read_search u j q a c) v o m in
        settle u j q a c tu kj (sym (eqb-true q p (only_there (u == t) (q == p) (protocol.read_at (view w) t p) (unread p) r))) va ok.0
    at_event w' (protocol.read_update u j q a c) ok v g m =
        let tu : t ≡ u = cc in
        let kj : k ≡ j = cc in
        let va : version value writer ≡ a = cc in
        let o : protocol.status (view w) t ≡ protocol.Open = ap (λ (x : ℕ). protocol.status (view w) x) tu ∙ ok.0.open_now in
        let r = there w' (protocol.read_update u j q a c) v o m in
        settle u j q a c tu kj (sym (eqb-true q p (only_there (u == t) (q == p) (protocol.read_at (view w) t p) (unread p) r))) va ok.0
    at_event w' e ok v g m = no_read _ t k (version value writer) refl g

    at_outcome : (o : Outcome) → ComesTo placement calls w (read t k p) tie o placement → o.0 ≡ Found value writer → marked (transaction o.1 t).read p ≡ true →
        version value writer ≡ newest_applied calls p k
    at_outcome o (inl (unchanged, untold)) e m =
        no_read nothing t k (version value writer) refl (ap (λ (a : Answer). told (read t k p) a) (sym e) ∙ untold)
    at_outcome o (inr (event, ok, v, tells)) e m = at_event o.1 event ok v (ap (λ (a : Answer). told (read t k p) a) (sym e) ∙ tells) m

    first_read : (free : FreeRule) → GoodStep free w (read t k p) → (step free w (read t k p)).0 ≡ Found value writer → version value writer ≡ newest_applied calls p k
    first_read free good e =
        at_outcome (step free w (read t k p))
        (subst (λ (places : List ℕ). ComesTo placement calls w (read t k p) tie (step free w (read t k p)) places) tie.same_placement good.refines) e
        ((read_marks w t k p value writer tie.invariant.few_nodes (λ b. (tie.invariant.shaped t b).read) (λ b. ap (λ (x : protocol.Transaction). x.writing.wrote k) (sym (shown w t b)) ∙ not_wrote)).at_node e)

  -- all of them
  pub promises : (free : FreeRule) → ((request : Request) → GoodStep free w request) → ((t : ℕ) → IsSearch calls t → Searched calls w t) → Promises free calls w
  promises free good searches = record {
    decided_once = subst (λ (d : List ℕ). (u : ℕ) → Later u u d → ⊥) decisions_same stands.decision_order_serial.once;
    decided_answered = order_answered (decisions calls) (subst (λ (d : List ℕ). statements.OrderAnswered h d) decisions_same stands.decision_order_serial.answered);
    chains_list_writers = lists_writers;
    searches_uncommitted = λ t s. searches_uncommitted t (searches t s).begun (searches t s).search;
    uncommitted_has_a_place = has_a_place;
    refused_if_behind = λ t k p o. refused_if_behind free t k p (open_there t o);
    refused_only_if_behind = λ t k p o. refused_only_if_behind free t k p (open_there t o);
    first_read_current = λ t k p value writer own not_put e. first_read t k p value writer own not_put free (good (read t k p)) e;
    stamps_follow_decisions = stamps_ordered;
    numbers_small = numbers_small;
    refused_unchanged = unchanged_if_refused w free;
    places_kept = places_kept;
  }
    where
      open_there : (t : ℕ) → IsOpenSearch calls t → OpenSearch w t
      open_there t o = grind (arith, nat_tests)

-- every call keeps the invariant and refines the protocol, and a made world is where it starts
module _ (good : (free : FreeRule) (w : World) (request : Request) → Invariant w → GoodStep free w request)
    (made : (n : ℕ) (placement : List ℕ) → can_make n (length placement) placement ≡ true → Invariant (made_world n placement) × (view (made_world n placement) ≡ protocol.fresh)) where
  pub promises_kept : PromisesKept
  promises_kept free n placement ok requests =
      let w = made_world n placement in
      let tie = tied good made free n placement ok requests in
      promises placement (transcript free w requests) (world_after free w requests) tie free
      (λ request. good free (world_after free w requests) request tie.invariant) (searches_on free [] w requests (λ t none. absurd none))
