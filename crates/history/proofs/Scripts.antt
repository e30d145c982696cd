-- The scripts: the script of a transaction in the history says what it has read and written.
use Rattle.std.proofs.Common.{◌≡◌, ℕ, true, cond, List, [], ◌∷◌, refl, ◌∙◌, inl, inr, arith, ◌==◌}
use Rattle.history.specs.Table.{Version, version, Table, Operation, get, after, answers, gets, puts}
use Rattle.history.specs.Protocol.{Placement, Clock, Update, Unbegun, State, kind, status, wrote, value, touched, Event, read_search, read_update, next, Accepted}
use Rattle.history.specs.History.{script, got, WasRead}
use Rattle.history.proofs.Basics.{frozen}

get_answers : (x t k : ℕ) (a : Version) (s : List Operation) (g : List Version) (tb : Table) → (x ≡ t → after x s tb k ≡ a) → answers x s tb ≡ g →
    answers x (cond (t == x) (get k ∷ s) s) tb ≡ cond (t == x) (a ∷ g) g
get_answers x t k a s g tb f e = grind arith

module _ (holds : Placement) (modulus : ℕ) where
  abbrev pub Scripts : List Event → State → Type 0
  Scripts h s = record {
    -- After its script, a transaction finds its last writes where it wrote, and what it started from elsewhere.
    after_script : (t k : ℕ) (tb : Table) → after t (script h t) tb k ≡ cond (wrote s t k) (version (value s t k) t) (tb k);
    -- On a table that has what a transaction got from the nodes, its script gets its answers; those of its own values it always gets.
    script_answers : (t : ℕ) (tb : Table) → ((k p : ℕ) (a : Version) → WasRead h t k p a → tb k ≡ a) → answers t (script h t) tb ≡ got h t;
    -- The script writes what the transaction wrote, and what an update's script reads it noted or wrote.
    script_wrote : (t k : ℕ) → puts (script h t) k ≡ wrote s t k;
    read_touched : (t k : ℕ) → kind s t ≡ Update → gets (script h t) k ≡ true → touched s t k ≡ true;
    -- What has not begun has done nothing, and only updates are offered.
    unbegun_empty : (t : ℕ) → status s t ≡ Unbegun → script h t ≡ [];
    offered_update : (t : ℕ) → frozen (status s t) ≡ true → kind s t ≡ Update;
  }

  scripts_read_search : (h : List Event) (s : State) (t k p : ℕ) (a : Version) (c : Clock) → Scripts h s →
      Accepted holds modulus s (read_search t k p a c) → Scripts (read_search t k p a c ∷ h) (next holds s (read_search t k p a c))
  scripts_read_search h s t k p a c i ok = record {
    after_script = λ x j tb. grind arith;
    script_answers = λ x tb f. get_answers x t k a (script h x) (got h x) tb (λ d. i.after_script x k tb ∙ rw (d, ok.0.unwritten) (f k p a (inl (d, refl, refl, refl)))) (i.script_answers x tb (λ j q b g. f j q b (inr g)));
    script_wrote = λ x j. grind arith;
    read_touched = λ x j e f. grind arith;
    unbegun_empty = λ x e. grind arith;
    offered_update = i.offered_update;
  }

  scripts_read_update : (h : List Event) (s : State) (t k p : ℕ) (a : Version) (c : Clock) → Scripts h s →
      Accepted holds modulus s (read_update t k p a c) → Scripts (read_update t k p a c ∷ h) (next holds s (read_update t k p a c))
  scripts_read_update h s t k p a c i ok = record {
    after_script = λ x j tb. grind arith;
    script_answers = λ x tb f. get_answers x t k a (script h x) (got h x) tb (λ d. i.after_script x k tb ∙ rw (d, ok.0.unwritten) (f k p a (inl (d, refl, refl, refl)))) (i.script_answers x tb (λ j q b g. f j q b (inr g)));
    script_wrote = λ x j. grind arith;
    read_touched = λ x j e f. grind arith;
    unbegun_empty = λ x e. grind arith;
    offered_update = i.offered_update;
  }

  pub scripts : (h : List Event) (s : State) (e : Event) → Scripts h s → Accepted holds modulus s e → Scripts (e ∷ h) (next holds s e)
  scripts h s (read_search t k p a c) i ok = scripts_read_search h s t k p a c i ok
  scripts h s (read_update t k p a c) i ok = scripts_read_update h s t k p a c i ok
  scripts h s e i ok = grind arith
