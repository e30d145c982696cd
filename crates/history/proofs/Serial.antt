-- The serial orders: that of decision for the committed updates, and one with a place for whoever has not committed.
use Rattle.std.proofs.Common.{◌≡◌, ℕ, zero, suc, ◌<◌, ◌≤◌, Bool, true, false, not, ◌&&◌, ◌||◌, nat_le, ◌⊎◌, List, [], ◌∷◌, ◌++◌, sym, refl, ap, ◌∙◌, subst, inl, inr, le_trans, arith, filter}
use mathlib.Core.Path.{fun_ext}
use Rattle.std.proofs.lemmas.Bool.{cases_Bool, or_left, and_from, both_ways, false≢true, and_parts}
use Rattle.std.proofs.lemmas.Bool.Decides.{Decides-below_and, leb_tells, nat_tests}
use Rattle.history.specs.Table.{Version, first_version, Table, first_table, Operation, play_all, AllAnswered, Member, listed, Later, selected, newest, scripts_conflict}
use Rattle.history.specs.Protocol.{Placement, Clock, Offered, Committed, State, status, clock, read_at, noted, wrote, commit_clock, engaged, applied, chain, conflict, written_version, Event, commit, Visible, NewestPassing, next, Accepted, Reachable, start, then}
use Rattle.history.specs.History.{mark, add_operation, script, add_answer, got, decisions, WasRead}
use Rattle.history.specs.Statements.{stays, OrderAnswered, writers, ChainsListWriters, UncommittedHasAPlace}
use Rattle.history.proofs.Basics.{is_committed, differ, not_committed, uncommitted, later_first, later_second, later_asymmetric, selected_same, listed_member, member_listed}
use Rattle.history.proofs.Table.{Apart, kept_member, parted_permutes, part, insert, play_all_same, answered_same}
use Rattle.history.proofs.Locks.{all_engaged}
use Rattle.history.proofs.Clocks.{Decisions}
use Rattle.history.proofs.Chains.{Chains}
use Rattle.history.proofs.Snapshots.{newest_selected, Snapshot, nobody}
use Rattle.history.proofs.Stamps.{Stamps}
use Rattle.history.proofs.Scripts.{Scripts}
use Rattle.history.proofs.Invariants.{Invariants, invariants}

-- all writers but the last are applied, so what is applied lacks at most the last
all_but_last : (w a : ℕ → Bool) (f : ℕ → Version) (l : List ℕ) → ((x u : ℕ) → Later x u l → w u ≡ true → w x ≡ true → a u ≡ true) →
    (selected (λ u. w u && a u) f l ≡ selected w f l) ⊎ ((c : Version) × (selected w f l ≡ c ∷ selected (λ u. w u && a u) f l))
all_but_last w a f [] h = inl refl
all_but_last w a f (y ∷ l) h = elim (cases_Bool (w y)) [
  | inr e ↦ rw e (all_but_last w a f l (λ x u b. h x u (inr b)))
  | inl e ↦
      let rest : selected (λ u. w u && a u) f l ≡ selected w f l = selected_same _ _ _ _ l (λ u m. (settled u (λ wu. h y u (inl (refl, m)) wu e), refl)) in
      elim (cases_Bool (a y)) [ inl g ↦ inl (rw (e, g, rest)) | inr g ↦ inr (f y, rw (e, g, rest)) ]
]
  where
    settled : (u : ℕ) → (w u ≡ true → a u ≡ true) → (w u && a u) ≡ w u
    settled u g = grind arith

selected_kept : (w v : ℕ → Bool) (f : ℕ → Version) (l : List ℕ) → selected w f (filter v l) ≡ selected (λ u. v u && w u) f l
selected_kept w v f [] = refl
selected_kept w v f (y ∷ l) = grind (arith, selected_kept w v f l)

-- a writer of a key that an engaged update has noted is applied, since it is not engaged beside it
writer_applied : (s : State) (u t p k : ℕ) → (wrote s u k ≡ true → (engaged s u p || applied s u p) ≡ true) →
    (engaged s u p ≡ true → conflict s u t k ≡ false) →
    noted s t k ≡ true → (wrote s u k && applied s u p) ≡ wrote s u k
writer_applied s u t p k f g e = grind arith

-- ── The statements, read off the state ──

-- what is committed, what a run leaves and answers, and who writes, as the state has it
abbrev committed : State → ℕ → Bool
committed s u = is_committed (status s u)

abbrev Answered : List Event → State → List ℕ → Type 0
Answered h s order = AllAnswered (script h) (committed s) (got h) order first_table

abbrev table_of : List Event → State → List ℕ → Table
table_of h s order = play_all (script h) (committed s) order first_table

abbrev pub writers_of : State → ℕ → List ℕ → List Version
writers_of s k order = selected (λ u. wrote s u k) (written_version s k) order

-- ── The newest of an order ──

-- the newest version of those that pass: the first version, or that of a member with no later one
abbrev Picks : State → ℕ → (ℕ → Bool) → List ℕ → Version → Type 0
Picks s k v l a = ((a ≡ first_version) ⊎ (Member a.writer l × (v a.writer ≡ true) × (a ≡ written_version s k a.writer))) × ((u : ℕ) → Member u l → v u ≡ true → (u ≡ a.writer) ⊎ Later a.writer u l)

picks : (s : State) (k : ℕ) (v : ℕ → Bool) (l : List ℕ) → Picks s k v l (newest (selected v (written_version s k) l))
picks s k v l =
    let n = newest_selected s (λ q. false) (λ q. 0) v k l (newest (selected v (written_version s k) l)) (at (selected v (written_version s k) l)) in (
      elim n.0 [ inl e ↦ inl e | inr h ↦ inr (h.0, h.1, h.2) ],
      λ u m vu. n.1 u m vu (λ q e. absurd (false≢true e)),
    )
  where
    at : (c : List Version) → NewestPassing s (λ q. false) (λ q. 0) c (newest c)
    at c = grind arith

module _ (holds : Placement) (modulus : ℕ) where
  -- ── What the committed did remains ──

  nothing_added : (s : State) (e : Event) → Accepted holds modulus s e → (u : ℕ) → status s u ≡ Committed → (x : List Operation) (y : List Version) →
      (x ≡ add_operation (mark e) u x) × (y ≡ add_answer (mark e) u y)
  nothing_added s e e1 u e2 x y = grind arith

  module _ (h : List Event) (s : State) (e : Event) (i : Invariants holds modulus h s) (ok : Accepted holds modulus s e) where
    unmoved : (u : ℕ) → Member u (decisions h) → (script h u ≡ script (e ∷ h) u) × (committed s u ≡ committed (next holds s e) u)
    unmoved u m = grind arith

    still_table : table_of h s (decisions h) ≡ table_of (e ∷ h) (next holds s e) (decisions h)
    still_table = play_all_same _ _ _ _ (decisions h) first_table unmoved

    still_answered : Answered h s (decisions h) → Answered (e ∷ h) (next holds s e) (decisions h)
    still_answered p = answered_same _ _ _ _ (got h) (got (e ∷ h)) (decisions h) first_table unmoved (λ u m. (nothing_added s e ok u (i.ground.decisions_ordered.decided_committed u m) (script h u) (got h u)).1) p

  -- ── The order of decision ──

  -- the table after an order of committed updates has the version of the last writer
  last_write : (h : List Event) (s : State) → Scripts holds modulus h s → (k : ℕ) (l : List ℕ) → ((u : ℕ) → Member u l → status s u ≡ Committed) →
      table_of h s l k ≡ newest (writers_of s k l)
  last_write h s i k [] c = refl
  last_write h s i k (x ∷ l) c =
      let r = last_write h s i k l (λ u m. c u (inr m)) in
      let a = i.after_script x k (table_of h s l) in
      rw (c x (inl refl)) (grind arith)

  -- two versions of committed writers, or of nobody, with one writer are one
  same_writer : (h : List Event) (s : State) → Decisions holds modulus h s → (k : ℕ) (a b : Version) →
      ((a ≡ first_version) ⊎ ((status s a.writer ≡ Committed) × (a ≡ written_version s k a.writer))) →
      ((b ≡ first_version) ⊎ ((status s b.writer ≡ Committed) × (b ≡ written_version s k b.writer))) → a.writer ≡ b.writer → a ≡ b
  same_writer h s dd k a b x y e = grind arith

  -- when t is decided, what it read is what the table has: the newest version at a holder is that of the last committed writer, for every
  -- committed writer is applied there, being engaged there no more
  read_is_last : (h : List Event) (s : State) (t n : ℕ) (c : Clock) → Invariants holds modulus h s →
      Accepted holds modulus s (commit t n c) → (k p : ℕ) (a : Version) → WasRead h t k p a → table_of h s (decisions h) k ≡ a
  read_is_last h s t n c i ok k p a r =
      let g = i.ground in
      let snap = i.snapshots.snapshot t k p a r (not_committed (status s t) Offered ok.offered refl) in
      let note = i.snapshots.note_answers t k p a r (i.scripts.offered_update t (rw ok.offered refl)) in
      let et = all_engaged holds modulus s t n c g.locks ok p k (or_left (noted s t k) (wrote s t k) note.0) snap.held in
      let complete : chain s p k ≡ writers_of s k (decisions h) = g.chains.lists_applied p k snap.held ∙ selected_same _ _ _ _ (decisions h) (λ u m. (everywhere u m snap.held et note.0, refl)) in
      let w : a.writer ≡ (newest (writers_of s k (decisions h))).writer = note.1 ∙ g.chains.note_current t p k et ok.offered note.0 snap.held ∙ ap (λ (l : List Version). (newest l).writer) complete in
      let x = picks s k (λ u. wrote s u k) (decisions h) in
      let eq : a ≡ newest (writers_of s k (decisions h)) = same_writer h s g.decisions_ordered k a (newest (writers_of s k (decisions h)))
      (elim snap.origin [ inl e ↦ inl e | inr o ↦ inr (o.0, o.2) ])
      (elim x.0 [ inl e ↦ inl e | inr o ↦ inr (g.decisions_ordered.decided_committed _ o.0, o.2) ]) w in
      last_write h s i.scripts k (decisions h) g.decisions_ordered.decided_committed ∙ sym eq
    where
      everywhere : (u : ℕ) → Member u (decisions h) → holds p k ≡ true → engaged s t p ≡ true → noted s t k ≡ true →
          (wrote s u k && applied s u p) ≡ wrote s u k
      everywhere u m hp et e =
          let l = i.ground.locks in
          let cu = i.ground.decisions_ordered.decided_committed u m in
          writer_applied s u t p k (λ wu. l.writer_kept u p k cu wu hp) (λ eu. l.engaged_compatible u t p k eu et (differ (status s) t u Offered ok.offered refl cu) hp) e

  answered_next : (h : List Event) (s : State) (e : Event) → Invariants holds modulus h s → Accepted holds modulus s e →
      Answered h s (decisions h) → Answered (e ∷ h) (next holds s e) (decisions (e ∷ h))
  answered_next h s (commit t n c) i ok p = (
    i.scripts.script_answers t _ (λ k q a g. ap (λ (f : Table). f k) (sym (still_table h s (commit t n c) i ok)) ∙ read_is_last h s t n c i ok k q a g),
    still_answered h s (commit t n c) i ok p,
  )
  answered_next h s e i ok p = still_answered h s e i ok p

  state_answered : {h : List Event} {s : State} → Reachable holds modulus h s → Answered h s (decisions h)
  state_answered start = tt
  state_answered (then {h = h} {s = s} e r ok) = answered_next h s e (invariants holds modulus r) ok (state_answered r)

  -- the history says who is committed
  same_committed : (h : List Event) (s : State) → Decisions holds modulus h s → committed s ≡ stays h
  same_committed h s dd = fun_ext at
    where
      at : (u : ℕ) → committed s u ≡ listed u (decisions h)
      at u = elim (cases_Bool (listed u (decisions h))) [
        | inl e ↦ rw (e, dd.decided_committed u (listed_member u (decisions h) e)) refl
        | inr e ↦ rw e (uncommitted (status s u) (λ c. both_ways (listed u (decisions h)) e (member_listed u (decisions h) (dd.committed_decided u c))))
      ]

  pub decisions_answered : {h : List Event} {s : State} → Reachable holds modulus h s → OrderAnswered h (decisions h)
  decisions_answered {h} {s} r =
      subst (λ (f : ℕ → Bool). AllAnswered (script h) f (got h) (decisions h) first_table)
      (same_committed h s (invariants holds modulus r).ground.decisions_ordered) (state_answered r)

  -- and who writes what
  pub same_writers : (h : List Event) (s : State) → Scripts holds modulus h s → (k : ℕ) (order : List ℕ) → writers_of s k order ≡ writers h k order
  same_writers h s i k order = grind arith

  pub chains_list : (h : List Event) (s : State) → Scripts holds modulus h s → Chains holds modulus h s → ChainsListWriters holds h s
  chains_list h s x i p k hp =
      let same : writers_of s k (decisions h) ≡ writers h k (decisions h) = same_writers h s x k (decisions h) in
      elim (all_but_last (λ u. wrote s u k) (λ u. applied s u p) (written_version s k) (decisions h) (λ x u b wu wx. i.earlier_applied x u p k b wu wx hp)) [
        | inl e ↦ inl (i.lists_applied p k hp ∙ e ∙ same)
        | inr e ↦ inr (e.0, sym same ∙ e.1 ∙ ap (λ (t : List Version). e.0 ∷ t) (sym (i.lists_applied p k hp)))
      ]

  -- ── A place for whoever has not committed ──

  -- committed updates without conflict have scripts without conflict
  -- scripts that conflict belong to updates that conflict
  pub conflict_by_record : (h : List Event) (s : State) → Scripts holds modulus h s → (u t k : ℕ) → status s u ≡ Committed → status s t ≡ Committed →
      scripts_conflict (script h u) (script h t) k ≡ true → conflict s u t k ≡ true
  conflict_by_record h s i u t k cu ct e = grind arith

  apart : (h : List Event) (s : State) → Scripts holds modulus h s → (u x : ℕ) → status s u ≡ Committed → status s x ≡ Committed →
      ((k : ℕ) → conflict s u x k ≡ false) → Apart (script h u) (script h x)
  apart h s i u x cu cx n k = grind arith

  -- the order: what is visible to t, then t, then the rest, each part in the order of decision; v tests visibility
  module _ (h : List Event) (s : State) (i : Invariants holds modulus h s) (t : ℕ) (undecided : status s t ≡ Committed → ⊥) (v : ℕ → Bool)
      (test : (u : ℕ) → Member u (decisions h) → (v u ≡ true → Visible s u t) × (Visible s u t → v u ≡ true)) where
    -- what is visible is closed: an earlier update that conflicts with a visible one has a lower commit clock, so it is visible too
    closed : (u x : ℕ) → Later x u (decisions h) → v u ≡ false → v x ≡ true → Apart (script h u) (script h x)
    closed u x b vu vx =
        let mu = later_second x u (decisions h) b in
        let mx = later_first x u (decisions h) b in
        let dd = i.ground.decisions_ordered in
        apart h s i.scripts u x (dd.decided_committed u mu) (dd.decided_committed x mx) (λ k. elim (cases_Bool (conflict s u x k)) [
          | inr e ↦ e
          | inl e ↦ absurd (both_ways (v u) vu ((test u mu).1 (λ q r. le_trans (i.ground.clocks.conflict_ordered x u k b e q) ((test x mx).0 vx q r))))
        ])

    -- what t read is what the visible updates leave on the table
    read_is_visible : (k p : ℕ) (a : Version) → WasRead h t k p a → table_of h s (filter v (decisions h)) k ≡ a
    read_is_visible k p a r =
        last_write h s i.scripts k (filter v (decisions h)) (λ u m. dd.decided_committed u (kept_member v (decisions h) u m).0)
        ∙ ap newest (selected_kept (λ u. wrote s u k) v (written_version s k) (decisions h)) ∙ sym eq
      where
        dd : Decisions holds modulus h s
        dd = i.ground.decisions_ordered

        pass : ℕ → Bool
        pass u = v u && wrote s u k

        b : Version
        b = newest (selected pass (written_version s k) (decisions h))

        x : Picks s k pass (decisions h) b
        x = picks s k pass (decisions h)

        n : Snapshot holds modulus h s t k p a
        n = i.snapshots.snapshot t k p a r undecided

        latest : Member b.writer (decisions h) → pass b.writer ≡ true → (b.writer ≡ a.writer) ⊎ Later a.writer b.writer (decisions h)
        latest m e = n.latest b.writer (dd.decided_committed _ m) ((and_parts (v b.writer) (wrote s b.writer k) e).1) ((test _ m).0 ((and_parts (v b.writer) (wrote s b.writer k) e).0))

        eq : a ≡ b
        eq = elim n.origin [
          | inl e ↦ elim x.0 [
            | inl f ↦ e ∙ sym f
            | inr f ↦ absurd (nobody holds modulus h s dd a e b.writer (dd.decided_committed _ f.0) (latest f.0 f.1))
          ]
          | inr o ↦
              let m = dd.committed_decided a.writer o.0 in
              let newer = x.1 a.writer m (and_from (v a.writer) (wrote s a.writer k) ((test _ m).1 (λ q r. o.3 q)) o.1) in
              elim x.0 [
                | inl f ↦ absurd (nobody holds modulus h s dd b f a.writer o.0 newer)
                | inr f ↦ elim newer [
                  | inl e ↦ o.2 ∙ ap (written_version s k) e ∙ sym f.2
                  | inr c ↦ elim (latest f.0 f.1) [
                    | inl e ↦ o.2 ∙ ap (written_version s k) (sym e) ∙ sym f.2
                    | inr d ↦ absurd (later_asymmetric (decisions h) dd.decided_once b.writer a.writer c d)
                  ]
                ]
              ]
        ]

    pub placed : Answered h s (decisions h) →
        Answered h s (filter (λ u. not (v u)) (decisions h) ++ (t ∷ filter v (decisions h)))
        × (table_of h s (filter (λ u. not (v u)) (decisions h) ++ (t ∷ filter v (decisions h))) ≡ table_of h s (decisions h))
    placed p =
        let q = part (script h) (committed s) (got h) v (decisions h) first_table closed p in
        let r = insert (script h) (committed s) (got h) t (filter (λ u. not (v u)) (decisions h)) (filter v (decisions h)) first_table (uncommitted (status s t) undecided)
        (i.scripts.script_answers t _ read_is_visible) q.0 in
        (r.0, r.1 ∙ q.1)

  -- ── Visibility is a test, for finitely many nodes ──

  abbrev sees_at : State → ℕ → ℕ → ℕ → Bool
  sees_at s u t q = not (read_at s t q) || nat_le (commit_clock s u q) (clock s t q)

  abbrev sees_below : ℕ → State → ℕ → ℕ → Bool
  sees_below zero s u t = true
  sees_below (suc n) s u t = sees_at s u t n && sees_below n s u t

  sees_tests : (h : List Event) (s : State) → Stamps holds modulus s → (nodes : ℕ) → ((p k : ℕ) → holds p k ≡ true → p < nodes) → (u t : ℕ) →
      (sees_below nodes s u t ≡ true → Visible s u t) × (Visible s u t → sees_below nodes s u t ≡ true)
  sees_tests h s i nodes small u t =
      let d = Decides-below_and (λ q. sees_at s u t q) (λ q. read_at s t q ≡ true → commit_clock s u q ≤ clock s t q) (λ n. sees_below n s u t) each refl (λ n. refl) nodes in
      ((λ e q r. let w = i.read_held t q r in d.0 e q (small q w.0 w.1) r), (λ v. d.1 (λ q lt r. v q r)))
    where
      each : (q : ℕ) →
          (sees_at s u t q ≡ true → read_at s t q ≡ true → commit_clock s u q ≤ clock s t q) × ((read_at s t q ≡ true → commit_clock s u q ≤ clock s t q) → sees_at s u t q ≡ true)
      each q = (λ e r. grind (arith, nat_tests), λ f. go (read_at s t q) (leb_tells (commit_clock s u q) (clock s t q)) f)
        where
          go : (b : Bool) →
              ((nat_le (commit_clock s u q) (clock s t q) ≡ true) × (commit_clock s u q ≤ clock s t q)) ⊎ ((nat_le (commit_clock s u q) (clock s t q) ≡ false) × (clock s t q < commit_clock s u q)) →
              (b ≡ true → commit_clock s u q ≤ clock s t q) → (not b || nat_le (commit_clock s u q) (clock s t q)) ≡ true
          go b e1 e2 = grind arith

  pub uncommitted_placed : {h : List Event} {s : State} → Reachable holds modulus h s → (nodes : ℕ) → ((p k : ℕ) → holds p k ≡ true → p < nodes) →
      UncommittedHasAPlace h
  uncommitted_placed {h} {s} r nodes small t undecided =
      let i = invariants holds modulus r in
      let dd = i.ground.decisions_ordered in
      let v = λ (u : ℕ). sees_below nodes s u t in
      let q = placed h s i t (λ c. undecided (dd.committed_decided t c)) v (λ u m. sees_tests h s i.stamps nodes small u t) (state_answered r) in
      let order = filter (λ (u : ℕ). not (v u)) (decisions h) ++ (t ∷ filter v (decisions h)) in
      let same : committed s ≡ stays h = same_committed h s dd in
      record {
        earlier = filter v (decisions h);
        later = filter (λ u. not (v u)) (decisions h);
        reordered = ∣ parted_permutes v (decisions h) ∣₁;
        answered = grind arith;
        same_table = grind arith;
      }
