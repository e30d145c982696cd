-- From the calls one by one to any list of calls: the accepted ones are a history of the protocol.
use Rattle.std.proofs.Common.{◌≡◌, ℕ, suc, ◌<◌, ◌≤◌, Bool, true, false, cond, ◌⊎◌, List, [], ◌∷◌, length, sym, refl, ap, ◌∙◌, subst, inl, inr, ⊎_elim, arith}
use Rattle.std.proofs.lemmas.Bool.{cases_lt, eq-eqb}
use Rattle.std.proofs.lemmas.Bool.Decides.{nat_tests}
use Rattle.std.proofs.lemmas.Grind.{common_steps}
use Rattle.calls.specs.Requests.{Request}
use Rattle.store.specs.Model.{FreeRule}
use Rattle.history.specs.Protocol.{Placement, State, Status, Unbegun, Open, Offered, Committed, Aborted, Finished, fresh, status, Event, begin, read_own, read_search, read_update, write, offer, yes_write, yes_read, no_overtaken, no_place, commit, abort, cancel, learn_abort, learn_write, learn_read, apply, finish, Accepted, next, Reachable, start, then}
use Rattle.history.specs.Protocol as protocol
use Rattle.history.specs.History.{mark, begun}
use Rattle.history.proofs.Basics.{is_begun as is_under_way}
use Rattle.rules.specs.World as world
use Rattle.rules.specs.World.{World, Outcome}
use Rattle.rules.specs.Steps.{can_make, made_world, step, world_after}
use Rattle.rules.specs.Transcript.{Transcript, transcript, transcript_on, told, nothing}
use Rattle.rules.proofs.View.{view, placed, told_by, Matches, none, skip, event}
use Rattle.rules.proofs.Invariant.{Invariant, GoodStep}

-- What is known of a world and of the calls that led to it.
pub record Tied (placement : List ℕ) (calls : Transcript) (w : World) : Type 0 where
  pub history : List Event
  pub reachable : Reachable (placed placement) 256 history (view w)
  pub matches : Matches history calls
  pub invariant : Invariant w
  pub same_placement : w.placement ≡ placement
  pub few_begun : length (begun history) ≤ length w.transactions

-- no event undoes a begin
pub stays_begun : (holds : Placement) (s : State) (e : Event) (u : ℕ) → is_under_way (status s u) ≡ true → is_under_way (status (next holds s e) u) ≡ true
stays_begun holds s e u e1 = grind (arith, nat_tests)

pub view_begun : (w : World) (t : ℕ) → is_under_way (status (view w) t) ≡ world.is_begun w t
view_begun w t = grind (arith, nat_tests)

begun_bounds : (w : World) (t : ℕ) → world.is_begun w t ≡ true → t ≤ length w.transactions
begun_bounds w t b = grind (arith, nat_tests)

unbegun_bounds : (w : World) (t : ℕ) → world.is_begun w t ≡ false → 0 < t → length w.transactions < t
unbegun_bounds w t b p = grind (arith, nat_tests)

last_begun : (w : World) → 0 < length w.transactions → world.is_begun w (length w.transactions) ≡ true
last_begun w p = grind (arith, nat_tests)

-- a world that shows what it did has no fewer transactions, and one more after a begin
module _ (placement : List ℕ) (w w' : World) where
  grows : (e : Event) → view w' ≡ next (placed placement) (view w) e → length w.transactions ≤ length w'.transactions
  grows e v = ⊎_elim (λ (p : 0 < length w.transactions). there p) (λ (z : length w.transactions ≤ 0). omega arith) (cases_lt 0 (length w.transactions))
    where
      there : 0 < length w.transactions → length w.transactions ≤ length w'.transactions
      there p =
          let n = length w.transactions in
          let a : is_under_way (status (view w) n) ≡ true = view_begun w n ∙ last_begun w p in
          let b : is_under_way (status (next (placed placement) (view w) e) n) ≡ true = stays_begun (placed placement) (view w) e n a in
          let c : is_under_way (status (view w') n) ≡ true = ap (λ (s : State). is_under_way (status s n)) v ∙ b in
          begun_bounds w' n (sym (view_begun w' n) ∙ c)

  begin_grows : (t : ℕ) (a : protocol.Kind) → view w' ≡ next (placed placement) (view w) (begin t a) → status (view w) t ≡ Unbegun → 0 < t →
      suc (length w.transactions) ≤ length w'.transactions
  begin_grows t a v o p =
      let b : world.is_begun w t ≡ false = sym (view_begun w t) ∙ ap is_under_way o in
      let c : is_under_way (status (view w') t) ≡ true = ap (λ (s : State). is_under_way (status s t)) v ∙ ap (λ (here : Bool). is_under_way (cond here Open (status (view w) t))) (eq-eqb t t refl) in
      let d = begun_bounds w' t (sym (view_begun w' t) ∙ c) in
      let f = unbegun_bounds w t b p in
      omega arith

  few : (h : List Event) (e : Event) → Accepted (placed placement) 256 (view w) e → view w' ≡ next (placed placement) (view w) e →
      length (begun h) ≤ length w.transactions → length (begun (e ∷ h)) ≤ length w'.transactions
  few h (begin t a) ok v l = omega (arith, begin_grows t a v ok.0 ok.1)
  few h e ok v l = omega (arith, grows e v)

-- one call more, given what came of it
module _ (placement : List ℕ) (calls : Transcript) (w : World) (request : Request) (tie : Tied placement calls w) where
  abbrev pub ComesTo : Outcome → List ℕ → Type 0
  ComesTo o places =
      ((o.1 ≡ w) × (told request o.0 ≡ nothing))
      ⊎ ((e : Event) × Accepted (placed places) 256 (view w) e × (view o.1 ≡ next (placed places) (view w) e) × (told request o.0 ≡ told_by (mark e)))

  after_outcome : (o : Outcome) → o.1.placement ≡ placement → Invariant o.1 → ComesTo o placement → Tied placement ((request, o.0) ∷ calls) o.1
  after_outcome o same keeps (inl (unchanged, untold)) = record {
    history = tie.history;
    reachable = grind (arith, nat_tests, common_steps);
    matches = skip request o.0 untold tie.matches;
    invariant = keeps;
    same_placement = same;
    few_begun = grind (arith, nat_tests, common_steps);
  }
  after_outcome o same keeps (inr (e, ok, v, tells)) = record {
    history = e ∷ tie.history;
    reachable = subst (λ (s : State). Reachable (placed placement) 256 (e ∷ tie.history) s) (sym v) (then e tie.reachable ok);
    matches = event e request o.0 tells tie.matches;
    invariant = keeps;
    same_placement = same;
    few_begun = few placement w o.1 tie.history e ok v tie.few_begun;
  }

  tied_step : (free : FreeRule) → GoodStep free w request → Tied placement ((request, (step free w request).0) ∷ calls) (step free w request).1
  tied_step free good =
      after_outcome (step free w request) (good.same_placement ∙ tie.same_placement) good.keeps
      (subst (λ (places : List ℕ). ComesTo (step free w request) places) tie.same_placement good.refines)

-- any list of calls
module _ (good : (free : FreeRule) (w : World) (request : Request) → Invariant w → GoodStep free w request) where
  tied_on : (free : FreeRule) (placement : List ℕ) (calls : Transcript) (w : World) (requests : List Request) → Tied placement calls w →
      Tied placement (transcript_on free w requests calls) (world_after free w requests)
  unfolding transcript_on world_after
  tied_on free placement calls w [] tie = tie
  tied_on free placement calls w (request ∷ requests) tie =
      tied_on free placement ((request, (step free w request).0) ∷ calls) (step free w request).1 requests
      (tied_step placement calls w request tie free (good free w request tie.invariant))

  -- from a make on
  module _ (made : (n : ℕ) (placement : List ℕ) → can_make n (length placement) placement ≡ true → Invariant (made_world n placement) × (view (made_world n placement) ≡ fresh)) where
    pub tied : (free : FreeRule) (n : ℕ) (placement : List ℕ) → can_make n (length placement) placement ≡ true → (requests : List Request) →
        Tied placement (transcript free (made_world n placement) requests) (world_after free (made_world n placement) requests)
    tied free n placement ok requests = tied_on free placement [] (made_world n placement) requests record {
      history = [];
      reachable = subst (λ (s : State). Reachable (placed placement) 256 [] s) (sym (made n placement ok).1) start;
      matches = none;
      invariant = (made n placement ok).0;
      same_placement = refl;
      few_begun = omega arith;
    }
