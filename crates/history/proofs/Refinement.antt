-- For a representation that is viewed as a state: when two states are the same, and when one entry of a table was changed.
use Rattle.std.proofs.Common.{◌≡◌, ℕ, Bool, true, false, ◌&&◌, ◌==◌, List, ◌∷◌, sym, refl, ◌∙◌, subst, inl, inr, arith}
use Rattle.std.proofs.lemmas.Bool.{cases_eq, cases_Bool, eq-eqb, ne_eqb}
use Rattle.history.specs.Protocol.{Placement, State, Event, next, Accepted, Reachable, then}

-- states are the same when they are the same place by place
pub same_state : (s r : State) →
    ((t : ℕ) → s.transaction t ≡ r.transaction t) → ((p : ℕ) → s.node p ≡ r.node p) →
    ((t p : ℕ) → s.participation t p ≡ r.participation t p) → ((p k : ℕ) → s.chain p k ≡ r.chain p k) → s ≡ r
same_state s r a b c d = λ i. record { transaction = λ t. a t i; node = λ p. b p i; participation = λ t p. c t p i; chain = λ p k. d p k i }

-- a table in which one entry was changed: to use with a named change f, of which f false leaves every record alone
pub entry_changed : {A : Type 0} (f : Bool → A → A) → ((x : A) → f false x ≡ x) → (old new : ℕ → A) (t : ℕ) →
    new t ≡ f true (old t) → ((u : ℕ) → (u ≡ t → ⊥) → new u ≡ old u) → (u : ℕ) → new u ≡ f (t == u) (old u)
entry_changed f idle old new t here others u = elim (cases_eq u t) [
  | inl e ↦ rw (e, eq-eqb t t refl) here
  | inr d ↦ rw (ne_eqb t u (λ e. d (sym e))) (others u d ∙ sym (idle (old u)))
]

pub place_changed : {A : Type 0} (f : Bool → A → A) → ((x : A) → f false x ≡ x) → (old new : ℕ → ℕ → A) (t p : ℕ) →
    new t p ≡ f true (old t p) → ((u q : ℕ) → ((u ≡ t) × (q ≡ p) → ⊥) → new u q ≡ old u q) → (u q : ℕ) → new u q ≡ f (t == u && p == q) (old u q)
place_changed f idle old new t p here others u q = elim (cases_Bool (t == u && p == q)) [
  | inl e ↦ let a = both t u p q e in rw (e, ← a.0, ← a.1) here
  | inr e ↦ rw e (others u q (λ a. neither t u p q e a) ∙ sym (idle (old u q)))
]
  where
    both : (t u p q : ℕ) → (t == u && p == q) ≡ true → (t ≡ u) × (p ≡ q)
    both t u p q e = (grind arith, grind arith)

    neither : (t u p q : ℕ) → (t == u && p == q) ≡ false → (u ≡ t) × (q ≡ p) → ⊥
    neither t u p q e a = grind arith

-- an accepted event leads to whatever view is the same as the next state
pub reach_view : (holds : Placement) (modulus : ℕ) {h : List Event} {s : State} (e : Event) (r : State) →
    Reachable holds modulus h s → Accepted holds modulus s e → next holds s e ≡ r → Reachable holds modulus (e ∷ h) r
reach_view holds modulus {h} {s} e r x ok a = subst (λ (y : State). Reachable holds modulus (e ∷ h) y) a (then e x ok)
