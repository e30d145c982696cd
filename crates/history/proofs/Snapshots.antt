-- The snapshots: what a transaction that has not committed has read is one state of the committed updates.
use Rattle.std.proofs.Common.{◌≡◌, ℕ, ◌≤◌, Bool, true, false, cond, ◌&&◌, ◌||◌, ◌⊎◌, List, [], ◌∷◌, sym, refl, ap, ◌∙◌, subst, inl, inr, le_trans, arith, ◌==◌}
use Rattle.std.proofs.lemmas.Bool.{cases_eq, cases_Bool, or_right, and_from, both_ways, and_parts}
use Rattle.history.specs.Table.{Version, first_version, update_at, Member, Later, selected}
use Rattle.history.specs.Protocol.{Placement, Clock, Kind, Update, Status, Open, Offered, Committed, Aborted, State, kind, status, clock, read_at, noted, noted_writer, wrote, commit_clock, frontier, engaged, applied, written_version, first_noted, becomes, change_transaction, Event, begin, read_search, read_update, commit, cancel, Passes, Visible, Joined, NewestPassing, MayRead, next, Accepted}
use Rattle.history.specs.History.{decisions, WasRead}
use Rattle.history.proofs.Basics.{update_at₂, same, other, slot, hit, set_true, is_begun, differ, not_committed, committed_after, later_first, later_asymmetric, or_second}
use Rattle.history.proofs.Locks.{Locks, all_engaged, Moves, cancel_moves}
use Rattle.history.proofs.Numbers.{commit_slot, Numbers}
use Rattle.history.proofs.Clocks.{Decisions, slot_kept, Clocks, settled_after}
use Rattle.history.proofs.Chains.{Chains}

-- what holds of a read holds of what says the same
read_alike : (F : ℕ → ℕ → ℕ → Version → Type 0) {x j q t k p : ℕ} {b a : Version} → (x ≡ t) × (j ≡ k) × (q ≡ p) × (b ≡ a) → F t k p a → F x j q b
read_alike F f y = rw (f.0, f.1, f.2, f.3) y

-- ── The newest version that passes ──

-- of a selected chain: it is the first version or that of a member that passes, and no later member passes
pub newest_selected : (s : State) (at : ℕ → Bool) (c : Clock) (v : ℕ → Bool) (k : ℕ) (l : List ℕ) (a : Version) →
    NewestPassing s at c (selected v (written_version s k) l) a →
    ((a ≡ first_version) ⊎ (Member a.writer l × (v a.writer ≡ true) × (a ≡ written_version s k a.writer) × Passes (commit_clock s a.writer) at c))
    × ((u : ℕ) → Member u l → v u ≡ true → Passes (commit_clock s u) at c → (u ≡ a.writer) ⊎ Later a.writer u l)
newest_selected s at c v k [] a n = (inl n, λ u m. absurd m)
newest_selected s at c v k (x ∷ l) a n = go (newest_selected s at c v k l a) (v x) refl n
  where
    Result : List ℕ → Type 0
    Result l = ((a ≡ first_version) ⊎ (Member a.writer l × (v a.writer ≡ true) × (a ≡ written_version s k a.writer) × Passes (commit_clock s a.writer) at c))
        × ((u : ℕ) → Member u l → v u ≡ true → Passes (commit_clock s u) at c → (u ≡ a.writer) ⊎ Later a.writer u l)

    deeper : Result l → (v x ≡ true → Passes (commit_clock s x) at c → ⊥) → Result (x ∷ l)
    deeper r no_x = (
      elim r.0 [ inl e ↦ inl e | inr h ↦ inr (inr h.0, h.1, h.2, h.3) ],
      λ u m vu su. elim m [
        | inl e ↦ absurd (no_x (rw e at vu) (rw e at su))
        | inr m' ↦ elim (r.1 u m' vu su) [ inl e ↦ inl e | inr b ↦ inr (inr b) ]
      ],
    )

    go : (NewestPassing s at c (selected v (written_version s k) l) a → Result l) → (b : Bool) → v x ≡ b →
        NewestPassing s at c (cond b (written_version s k x ∷ selected v (written_version s k) l) (selected v (written_version s k) l)) a → Result (x ∷ l)
    go ih true e (inl h) =
        let w : a.writer ≡ x = ap (λ (y : Version). y.writer) h.1 in (
          inr (inl w, (rw w e), h.1 ∙ ap (written_version s k) (sym w), (rw w h.0)),
          λ u m vu su. elim m [ inl f ↦ inl (f ∙ sym w) | inr m' ↦ inr (inl (w, m')) ],
        )
    go ih true e (inr h) = deeper (ih h.1) (λ _. h.0)
    go ih false e n = deeper (ih n) (λ f. absurd (both_ways (v x) e f))

-- ── What a read changes ──

here_too : (r : ℕ → ℕ → Bool) (t p : ℕ) → (p == p || r t p) ≡ true
here_too r t p = grind arith

-- what passes after a read
passes_now : (s : State) (t p : ℕ) (c x : Clock) → Passes x (update_at₂ (read_at s) t p true t) (update_at (clock s) t c t) →
    Passes x (λ q. (p == q) || read_at s t q) c
passes_now s t p c x v q r = grind arith

clock_grows : (s : State) (t p : ℕ) (c : Clock) → Joined s t p c → (u q : ℕ) → clock s u q ≤ update_at (clock s) t c u q
clock_grows s t p c j u q = grind arith

-- visibility only shrinks: what passes after a read passed before it
passed_before : (s : State) (t p : ℕ) (c : Clock) → Joined s t p c → (u : ℕ) (x : Clock) →
    Passes x (update_at₂ (read_at s) t p true u) (update_at (clock s) t c u) → Passes x (read_at s u) (clock s u)
passed_before s t p c j u x v q r = grind arith

-- a note is made once
note_kept : (s : State) (t k w x j : ℕ) → noted s x j ≡ true →
    noted_writer s x j ≡ update_at₂ (noted_writer s) t k (first_noted s t k w) x j
note_kept s t k w x j e = grind arith

note_new : (s : State) (t k w x j : ℕ) → x ≡ t → j ≡ k → noted s t k ≡ false →
    w ≡ update_at₂ (noted_writer s) t k (first_noted s t k w) x j
note_new s t k w x j e f g = grind arith

noted_now : (s : State) (t k : ℕ) → update_at₂ (noted s) t k true t k ≡ true
noted_now s t k = grind arith

module _ (holds : Placement) (modulus : ℕ) where
  -- the groups of invariants that stand by themselves
  abbrev pub Ground : List Event → State → Type 0
  Ground h s = record {
    locks : Locks holds modulus s;
    numbers : Numbers holds modulus s;
    decisions_ordered : Decisions holds modulus h s;
    clocks : Clocks holds modulus h s;
    chains : Chains holds modulus h s;
  }

  -- where an answer comes from: it is the first version, or that of a committed writer whose whole commit clock is within the reader's clock
  abbrev pub Origin : State → ℕ → ℕ → Version → Type 0
  Origin s t k a = (a ≡ first_version) ⊎ ((status s a.writer ≡ Committed) × (wrote s a.writer k ≡ true) × (a ≡ written_version s k a.writer) × ((q : ℕ) → commit_clock s a.writer q ≤ clock s t q))

  -- no committed writer of k that is visible to t is later than that of a
  abbrev pub Latest : List Event → State → ℕ → ℕ → Version → Type 0
  Latest h s t k a = (u : ℕ) → status s u ≡ Committed → wrote s u k ≡ true → Visible s u t → (u ≡ a.writer) ⊎ Later a.writer u (decisions h)

  abbrev pub Snapshot : List Event → State → ℕ → ℕ → ℕ → Version → Type 0
  Snapshot h s t k p a = record { at : read_at s t p ≡ true; held : holds p k ≡ true; origin : Origin s t k a; latest : Latest h s t k a }

  abbrev pub Within : State → Type 0
  Within s = (t p u : ℕ) → read_at s t p ≡ true → applied s u p ≡ true → Visible s u t → (q : ℕ) → commit_clock s u q ≤ clock s t q

  abbrev pub Snapshots : List Event → State → Type 0
  Snapshots h s = record {
    -- What is applied at a node that t has read at, and visible to t, is within t's clock in every slot: the first read there took it in, and what
    -- is applied there later has a stamp above the frontier, so it is not visible.
    within : Within s;
    -- Every answer is that of the last committed writer of the key that is visible.  When it is read, each visible writer is applied there,
    -- since its slot there is settled; a later first read elsewhere leaves the slots that were read, so visibility only shrinks; and what is decided later and
    -- writes the key is engaged at p and not applied, so it is not visible.
    snapshot : (t k p : ℕ) (a : Version) → WasRead h t k p a → (status s t ≡ Committed → ⊥) → Snapshot h s t k p a;
    -- All reads of a key by an update got the writer that it noted, since all of them got the last visible one.
    note_answers : (t k p : ℕ) (a : Version) → WasRead h t k p a → kind s t ≡ Update → (noted s t k ≡ true) × (a.writer ≡ noted_writer s t k);
    note_read : (t k : ℕ) → noted s t k ≡ true → (p : ℕ) × (a : Version) × WasRead h t k p a × (a.writer ≡ noted_writer s t k);
    -- A node that t has read at has answered it.
    read_got : (t p : ℕ) → read_at s t p ≡ true → (k : ℕ) × (a : Version) × WasRead h t k p a;
    -- Only what has begun reads.
    reader_begun : (t k p : ℕ) (a : Version) → WasRead h t k p a → is_begun (status s t) ≡ true;
  }

  -- the first version's writer is nobody
  pub nobody : (h : List Event) (s : State) → Decisions holds modulus h s → (a : Version) → a ≡ first_version → (u : ℕ) → status s u ≡ Committed →
      (u ≡ a.writer) ⊎ Later a.writer u (decisions h) → ⊥
  nobody h s dd a e u cu x =
      let w : a.writer ≡ 0 = ap (λ (y : Version). y.writer) e in
      elim x [
        | inl f ↦ let z = dd.begun_positive u (rw cu refl) in omega arith
        | inr b ↦ let z = dd.begun_positive a.writer (rw (dd.decided_committed a.writer (later_first a.writer u (decisions h) b)) refl) in omega arith
      ]

  -- two reads of one key answer alike
  pub agree : (h : List Event) (s : State) (t k p p' : ℕ) (a a' : Version) → Decisions holds modulus h s → Snapshot h s t k p a →
      Snapshot h s t k p' a' → a ≡ a'
  agree h s t k p p' a a' dd x y = elim x.origin [
    | inl e ↦ elim y.origin [
      | inl f ↦ e ∙ sym f
      | inr w ↦ absurd (nobody h s dd a e a'.writer w.0 (x.latest a'.writer w.0 w.1 (λ q _. w.3 q)))
    ]
    | inr v ↦ elim y.origin [
      | inl f ↦ absurd (nobody h s dd a' f a.writer v.0 (y.latest a.writer v.0 v.1 (λ q _. v.3 q)))
      | inr w ↦ elim (x.latest a'.writer w.0 w.1 (λ q _. w.3 q)) [
        | inl e ↦ v.2 ∙ ap (written_version s k) (sym e) ∙ sym w.2
        | inr b ↦ elim (y.latest a.writer v.0 v.1 (λ q _. v.3 q)) [
          | inl e ↦ v.2 ∙ ap (written_version s k) e ∙ sym w.2
          | inr b' ↦ absurd (later_asymmetric (decisions h) dd.decided_once a.writer a'.writer b b')
        ]
      ]
    ]
  ]

  -- a committed writer of k whose slot for p is at or below the frontier of p is applied at p
  visible_applied : (h : List Event) (s : State) → Ground h s → (u p k x : ℕ) → status s u ≡ Committed → wrote s u k ≡ true → holds p k ≡ true →
      commit_clock s u p ≤ x → x ≤ frontier s p → applied s u p ≡ true
  visible_applied h s g u p k x cu wu b le₁ le₂ = or_second (engaged s u p) (applied s u p) (g.locks.writer_kept u p k cu wu b) (λ e.
      let a = g.numbers.engaged_number u p k e wu b in let z = g.numbers.number_stamp u p k cu wu b e in let d = g.clocks.write_slot u p k cu wu b in omega arith)

  read_snapshot : (h : List Event) (s : State) (t k p : ℕ) (a : Version) (c : Clock) → Ground h s → Within s →
      MayRead holds s t k p a c → Snapshot h (next holds s (read_search t k p a c)) t k p a
  read_snapshot h s t k p a c g inside ok = record {
    at = grind arith;
    held = ok.held;
    origin = elim n.0 [
      | inl e ↦ inl e
      | inr x ↦ inr (g.decisions_ordered.decided_committed a.writer x.0, (and_parts (wrote s a.writer k) (applied s a.writer p) x.1).0, x.2, λ q. rw (ap (λ (f : Clock). f q) (same (clock s) t c)) (bound a.writer ((and_parts (wrote s a.writer k) (applied s a.writer p) x.1).1) x.3 q))
    ];
    latest = λ u cu wu v.
        let v' = passes_now s t p c (commit_clock s u) v in
        n.1 u (g.decisions_ordered.committed_decided u cu) (and_from (wrote s u k) (applied s u p) wu (visible_applied h s g u p k (c p) cu wu ok.held (v' p (here_too (read_at s) t p)) (settled_after holds modulus h s t k p a c g.locks g.numbers g.clocks ok))) v';
  }
    where
      pass : ℕ → Bool
      pass u = wrote s u k && applied s u p

      at' : ℕ → Bool
      at' q = (p == q) || read_at s t q

      n : ((a ≡ first_version) ⊎ (Member a.writer (decisions h) × (pass a.writer ≡ true) × (a ≡ written_version s k a.writer) × Passes (commit_clock s a.writer) at' c))
          × ((u : ℕ) → Member u (decisions h) → pass u ≡ true → Passes (commit_clock s u) at' c → (u ≡ a.writer) ⊎ Later a.writer u (decisions h))
      n = newest_selected s at' c pass k (decisions h) a (subst (λ (x : List Version). NewestPassing s at' c x a) (g.chains.lists_applied p k ok.held) ok.answer)

      bound : (w : ℕ) → applied s w p ≡ true → Passes (commit_clock s w) at' c → (q : ℕ) → commit_clock s w q ≤ c q
      bound w aw v q =
          let vis : Visible s w t = λ z r. le_trans (v z (or_right (p == z) (read_at s t z) r)) (slot_kept s t p c ok.joined z r) in
          elim (cases_Bool (read_at s t p)) [
            | inl r ↦ le_trans (inside t p w r aw vis q) (ok.joined.above q)
            | inr r ↦ ok.joined.takes w r aw vis q
          ]

  read_within : (s : State) (t k p : ℕ) (a : Version) (c : Clock) → Within s → Joined s t p c → Within (next holds s (read_search t k p a c))
  read_within s t k p a c inside j x q u r au v z = elim (hit (read_at s) t p x q r) [
    | inr r' ↦ le_trans (inside x q u r' au vis z) (clock_grows s t p c j x z)
    | inl b ↦ elim (cases_Bool (read_at s t p)) [
      | inl r' ↦ le_trans (inside x q u (rw (b.0, b.1) r') au vis z) (clock_grows s t p c j x z)
      | inr r' ↦ rw (b.0, ap (λ (f : Clock). f z) (same (clock s) t c)) (j.takes u r' (rw b.1 at au) (rw b.0 at vis) z)
    ]
  ]
    where
      vis : Visible s u x
      vis = passed_before s t p c j x (commit_clock s u) v

  read_keeps : (h : List Event) (s : State) (t k p : ℕ) (a : Version) (c : Clock) → Joined s t p c → (x j q : ℕ) (b : Version) →
      Snapshot h s x j q b → Snapshot h (next holds s (read_search t k p a c)) x j q b
  read_keeps h s t k p a c jo x j q b n = grind arith

  move_keeps : (h : List Event) (s : State) (t : ℕ) (y : Status) → Moves holds modulus s t y → (u j q : ℕ) (b : Version) → Snapshot h s u j q b →
      Snapshot h (change_transaction t (becomes y) s) u j q b
  move_keeps h s t y m u j q b n = grind arith

  commit_keeps : (h : List Event) (s : State) (t m : ℕ) (c : Clock) → Ground h s → Accepted holds modulus s (commit t m c) →
      (u j q : ℕ) (b : Version) → Snapshot h s u j q b → Snapshot (commit t m c ∷ h) (next holds s (commit t m c)) u j q b
  commit_keeps h s t m c g ok u j q b n = record {
    at = n.at;
    held = n.held;
    origin = grind arith;
    latest = λ w cw ww v. elim (cases_eq w t) [
      | inl e ↦ absurd (hidden w e ww v)
      | inr d ↦ elim (n.latest w (sym (other (status s) t Committed w d) ∙ cw) ww (λ z r. rw (slot (commit_clock s) t c w z d) at (v z r)))
          [ inl f ↦ inl f | inr f ↦ inr (inr f) ]
    ];
  }
    where
      -- what is decided now and writes the key is engaged at q, so its number there is above the frontier
      hidden : (w : ℕ) → w ≡ t → wrote s w j ≡ true → Passes (update_at (commit_clock s) t c w) (read_at s u) (clock s u) → ⊥
      hidden w e ww v =
          let wt : wrote s t j ≡ true = rw e at ww in
          let et = all_engaged holds modulus s t m c g.locks ok q j (or_right (noted s t j) (wrote s t j) wt) n.held in
          let a = g.numbers.engaged_number t q j et wt n.held in
          let x : c q ≤ clock s u q = rw (e, ap (λ (f : Clock). f q) (same (commit_clock s) t c)) at (v q n.at) in
          let y = g.clocks.read_settled u q n.at in
          elim (commit_slot holds modulus s t m c ok q) [ inl z ↦ omega (arith, z.1, z.2) | inr z ↦ z.0 (j, wt, n.held) ]

  commit_within : (s : State) (t m : ℕ) (c : Clock) → Locks holds modulus s → Within s → Accepted holds modulus s (commit t m c) →
      Within (next holds s (commit t m c))
  commit_within s t m c l inside ok x q u r au v z =
      let d = differ (status s) t u Offered ok.offered refl (l.applied_released u q au).0 in
      rw (slot (commit_clock s) t c u z d) (inside x q u r au (λ y ry. rw (slot (commit_clock s) t c u y d) at (v y ry)) z)

  read_note_answers : (h : List Event) (s : State) (t k p : ℕ) (a : Version) (c : Clock) → Ground h s → Snapshots h s →
      Accepted holds modulus s (read_update t k p a c) →
      a.writer ≡ update_at₂ (noted_writer s) t k (first_noted s t k a.writer) t k
  read_note_answers h s t k p a c g i ok = elim (cases_Bool (noted s t k)) [
    | inr e ↦ note_new s t k a.writer t k refl refl e
    | inl e ↦
        let r = i.note_read t k e in
        let old = read_keeps h s t k p a c ok.0.joined t k r.0 r.1 (i.snapshot t k r.0 r.1 r.2 (not_committed (status s t) Open ok.0.open_now refl)) in
        let new = read_snapshot h s t k p a c g i.within ok.0 in
        ap (λ (y : Version). y.writer) (agree h (next holds s (read_search t k p a c)) t k p r.0 a r.1 g.decisions_ordered new old) ∙ r.3 ∙ note_kept s t k a.writer t k e
  ]

  read_note_read : (h : List Event) (s : State) (t k p : ℕ) (a : Version) (c : Clock) → Snapshots h s → (x j : ℕ) →
      update_at₂ (noted s) t k true x j ≡ true →
      (q : ℕ) × (b : Version) × WasRead (read_update t k p a c ∷ h) x j q b × (b.writer ≡ update_at₂ (noted_writer s) t k (first_noted s t k a.writer) x j)
  read_note_read h s t k p a c i x j e = elim (hit (noted s) t k x j e) [
    | inr f ↦ old f
    | inl f ↦ elim (cases_Bool (noted s t k)) [
      | inl g ↦ old (rw (f.0, f.1) g)
      | inr g ↦ (p, a, inl (f.0, f.1, refl, refl), note_new s t k a.writer x j f.0 f.1 g)
    ]
  ]
    where
      old : noted s x j ≡ true →
          (q : ℕ) × (b : Version) × WasRead (read_update t k p a c ∷ h) x j q b × (b.writer ≡ update_at₂ (noted_writer s) t k (first_noted s t k a.writer) x j)
      old f = let r = i.note_read x j f in (r.0, r.1, inr r.2, r.3 ∙ note_kept s t k a.writer x j f)

  snapshots_move : (h : List Event) (s : State) (t : ℕ) (y : Status) → Moves holds modulus s t y → is_begun y ≡ true → Snapshots h s →
      Snapshots h (change_transaction t (becomes y) s)
  snapshots_move h s t y m b i = record {
    within = i.within;
    snapshot = λ x j q a w nc. move_keeps h s t y m x j q a (i.snapshot x j q a w (λ e. nc (committed_after (status s) t y x m.from e)));
    note_answers = i.note_answers;
    note_read = i.note_read;
    read_got = i.read_got;
    reader_begun = λ x j q a w. grind arith;
  }

  snapshots_begin : (h : List Event) (s : State) (t : ℕ) (a : Kind) → Snapshots h s → Accepted holds modulus s (begin t a) →
      Snapshots h (next holds s (begin t a))
  snapshots_begin h s t a i ok = grind arith

  snapshots_read_search : (h : List Event) (s : State) (t k p : ℕ) (a : Version) (c : Clock) → Ground h s → Snapshots h s →
      Accepted holds modulus s (read_search t k p a c) → Snapshots (read_search t k p a c ∷ h) (next holds s (read_search t k p a c))
  snapshots_read_search h s t k p a c g i ok = record {
    within = read_within s t k p a c i.within ok.0.joined;
    snapshot = λ x j q b w nc. elim w [
      | inl f ↦ read_alike (Snapshot h (next holds s (read_search t k p a c))) f (read_snapshot h s t k p a c g i.within ok.0)
      | inr w ↦ read_keeps h s t k p a c ok.0.joined x j q b (i.snapshot x j q b w nc)
    ];
    note_answers = λ x j q b w e. grind arith;
    note_read = λ x j e. grind arith;
    read_got = λ x q e. elim (hit (read_at s) t p x q e) [ inl f ↦ (k, a, inl (f.0, refl, f.1, refl)) | inr f ↦ let r = i.read_got x q f in (r.0, r.1, inr r.2) ];
    reader_begun = λ x j q b w. grind arith;
  }

  snapshots_read_update : (h : List Event) (s : State) (t k p : ℕ) (a : Version) (c : Clock) → Ground h s → Snapshots h s →
      Accepted holds modulus s (read_update t k p a c) → Snapshots (read_update t k p a c ∷ h) (next holds s (read_update t k p a c))
  snapshots_read_update h s t k p a c g i ok = record {
    within = read_within s t k p a c i.within ok.0.joined;
    snapshot = λ x j q b w nc. elim w [
      | inl f ↦ read_alike (Snapshot h (next holds s (read_search t k p a c))) f (read_snapshot h s t k p a c g i.within ok.0)
      | inr w ↦ read_keeps h s t k p a c ok.0.joined x j q b (i.snapshot x j q b w nc)
    ];
    note_answers = λ x j q b w e. elim w [
      | inl f ↦ read_alike (λ x j q b. (update_at₂ (noted s) t k true x j ≡ true) × (b.writer ≡ update_at₂ (noted_writer s) t k (first_noted s t k a.writer) x j)) f (noted_now s t k, read_note_answers h s t k p a c g i ok)
      | inr w ↦ let r = i.note_answers x j q b w e in (set_true (noted s) t k x j r.0, r.1 ∙ note_kept s t k a.writer x j r.0)
    ];
    note_read = read_note_read h s t k p a c i;
    read_got = λ x q e. elim (hit (read_at s) t p x q e) [ inl f ↦ (k, a, inl (f.0, refl, f.1, refl)) | inr f ↦ let r = i.read_got x q f in (r.0, r.1, inr r.2) ];
    reader_begun = λ x j q b w. grind arith;
  }

  snapshots_commit : (h : List Event) (s : State) (t n : ℕ) (c : Clock) → Ground h s → Snapshots h s → Accepted holds modulus s (commit t n c) →
      Snapshots (commit t n c ∷ h) (next holds s (commit t n c))
  snapshots_commit h s t n c g i ok = record {
    within = commit_within s t n c g.locks i.within ok;
    snapshot = λ x j q b w nc. commit_keeps h s t n c g ok x j q b (i.snapshot x j q b w (λ e. nc (committed_after (status s) t Committed x (not_committed (status s t) Offered ok.offered refl) e)));
    note_answers = i.note_answers;
    note_read = i.note_read;
    read_got = i.read_got;
    reader_begun = λ x j q b w. grind arith;
  }

  pub snapshots : (h : List Event) (s : State) (e : Event) → Ground h s → Snapshots h s → Accepted holds modulus s e →
      Snapshots (e ∷ h) (next holds s e)
  snapshots h s (begin t b) g i ok = snapshots_begin h s t b i ok
  snapshots h s (read_search t k p a c) g i ok = snapshots_read_search h s t k p a c g i ok
  snapshots h s (read_update t k p a c) g i ok = snapshots_read_update h s t k p a c g i ok
  snapshots h s (commit t n c) g i ok = snapshots_commit h s t n c g i ok
  snapshots h s (cancel t) g i ok = snapshots_move h s t Aborted (cancel_moves holds modulus s t ok) refl i
  snapshots h s e g i ok = grind arith
