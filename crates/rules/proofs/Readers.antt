-- Two facts of every history: who wrote is an update, and who reads its own values only has read at no node.
use Rattle.std.proofs.Common.{◌≡◌, ℕ, Bool, true, false, cond, ◌&&◌, ◌⊎◌, List, ◌∷◌, sym, ap, ◌∙◌, inl, inr, arith, ◌==◌}
use Rattle.std.proofs.lemmas.Bool.{both_ways, eq-eqb, false≢true}
use Rattle.std.proofs.lemmas.Bool.Decides.{nat_tests}
use Rattle.history.specs.Table.{Version, Operation, get, put, puts}
use Rattle.history.specs.Protocol.{Placement, Kind, Update, State, kind, wrote, status, Event, begin, read_own, read_search, read_update, write, Accepted, next, Reachable, start, then}
use Rattle.history.specs.History.{script, WasRead}
use Rattle.history.proofs.Invariants.{invariants}
use Rattle.rules.specs.Promises.{reads_own_only}

-- what is left where a script's last operation is taken off
own_get : (here : Bool) (k : ℕ) (l : List Operation) → reads_own_only (cond here (get k ∷ l) l) ≡ true → reads_own_only l ≡ true
own_get here k l e1 = grind (arith, nat_tests)

own_put : (here : Bool) (k v : ℕ) (l : List Operation) → reads_own_only (cond here (put k v ∷ l) l) ≡ true → reads_own_only l ≡ true
own_put here k v l e1 = grind (arith, nat_tests)

own_last : (here : Bool) (k : ℕ) (l : List Operation) → here ≡ true → reads_own_only (cond here (get k ∷ l) l) ≡ true → puts l k ≡ true
own_last here k l e1 e2 = grind (arith, nat_tests)

module _ (holds : Placement) (modulus : ℕ) where
  -- a read at a node of a key that is not written
  none_read : {h : List Event} {s : State} → Reachable holds modulus h s → (u t j p k q : ℕ) (a b : Version) → wrote s u j ≡ false →
      (reads_own_only (script h t) ≡ true → WasRead h t k q a → ⊥) → reads_own_only (cond (u == t) (get j ∷ script h t) (script h t)) ≡ true →
      ((t ≡ u) × (k ≡ j) × (q ≡ p) × (a ≡ b)) ⊎ WasRead h t k q a → ⊥
  none_read {h} {s} r u t j p k q a b unwritten earlier own (inl here) =
      both_ways (wrote s u j) unwritten
      (sym ((invariants holds modulus r).scripts.script_wrote u j) ∙ ap (λ (x : ℕ). puts (script h x) j) (sym here.0) ∙ own_last (u == t) j (script h t) (eq-eqb u t (sym here.0)) own)
  none_read {h} {s} r u t j p k q a b unwritten earlier own (inr before) = earlier (own_get (u == t) j (script h t) own) before

  own_after : {h : List Event} {s : State} → Reachable holds modulus h s → (e : Event) → Accepted holds modulus s e → (t k q : ℕ) (a : Version) →
      (reads_own_only (script h t) ≡ true → WasRead h t k q a → ⊥) → reads_own_only (script (e ∷ h) t) ≡ true → WasRead (e ∷ h) t k q a → ⊥
  own_after {h} r (read_own u j b) ok t k q a earlier own read = earlier (own_get (u == t) j (script h t) own) read
  own_after r (read_search u j p b c) ok t k q a earlier own read = none_read r u t j p k q a b ok.0.unwritten earlier own read
  own_after r (read_update u j p b c) ok t k q a earlier own read = none_read r u t j p k q a b ok.0.unwritten earlier own read
  own_after {h} r (write u j v) ok t k q a earlier own read = earlier (own_put (u == t) j v (script h t) own) read
  own_after r e ok t k q a earlier own read = earlier own read

  -- who reads its own values only has read at no node
  pub own_only : {h : List Event} {s : State} → Reachable holds modulus h s → (t : ℕ) → reads_own_only (script h t) ≡ true → (k q : ℕ) (a : Version) → WasRead h t k q a → ⊥
  own_only start t own k q a read = read
  own_only (then e r ok) t own k q a read = own_after r e ok t k q a (λ o w. own_only r t o k q a w) own read

  -- a begin makes nobody a search that has written, and only updates write
  begin_writers : (t u k : ℕ) (x y : Kind) (b : Bool) → (u ≡ t → b ≡ false) → (b ≡ true → y ≡ Update) → b ≡ true → cond (t == u) x y ≡ Update
  begin_writers t u k x y b f g e = grind (arith, nat_tests)

  write_writers : (t u j k : ℕ) (y : ℕ → Kind) (b : Bool) → y t ≡ Update → (b ≡ true → y u ≡ Update) → cond (t == u && j == k) true b ≡ true → y u ≡ Update
  write_writers t u j k y b f g e = grind (arith, nat_tests)

  writers_after : {h : List Event} {s : State} → Reachable holds modulus h s → (e : Event) → Accepted holds modulus s e →
      ((t k : ℕ) → wrote s t k ≡ true → kind s t ≡ Update) → (t k : ℕ) → wrote (next holds s e) t k ≡ true → kind (next holds s e) t ≡ Update
  writers_after {h} {s} r (begin u x) ok i t k e =
      begin_writers u t k x (kind s t) (wrote s t k)
      (λ d. sym ((invariants holds modulus r).scripts.script_wrote t k) ∙ ap (λ (l : List Operation). puts l k) ((invariants holds modulus r).scripts.unbegun_empty t (ap (status s) d ∙ ok.0))) (i t k) e
  writers_after {h} {s} r (write u j v) ok i t k e = write_writers u t j k (kind s) (wrote s t k) ok.1 (i t k) e
  writers_after r v ok i t k e = i t k e

  -- who wrote is an update
  pub writers_update : {h : List Event} {s : State} → Reachable holds modulus h s → (t k : ℕ) → wrote s t k ≡ true → kind s t ≡ Update
  writers_update start t k e = absurd (false≢true e)
  writers_update (then e r ok) t k w = writers_after r e ok (writers_update r) t k w
