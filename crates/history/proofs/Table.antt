-- On one table, two neighbours without conflict may be exchanged; so an order may be parted stably.
use Rattle.std.proofs.Common.{◌≡◌, ℕ, Bool, true, false, cond, not, ◌⊎◌, List, [], ◌∷◌, ◌++◌, sym, refl, ap, ◌∙◌, inl, inr, arith, filter, ◌==◌}
use mathlib.Core.Path.{fun_ext}
use mathlib.Core.List.Permᴰ
use mathlib.Core.List.{Permᴰ}
use Rattle.std.proofs.lemmas.Bool.{or_right, or_parts, eq-eqb, not-true}
use Rattle.history.specs.Table.{Version, Table, Operation, get, put, after, answers, gets, puts, scripts_conflict, play, play_all, AllAnswered, Member, Later}

-- two scripts do not conflict
abbrev pub Apart : List Operation → List Operation → Type 0
Apart a b = (k : ℕ) → scripts_conflict a b k ≡ false

one_writes : (a b : List Operation) → Apart a b → (k : ℕ) → (puts a k ≡ false) ⊎ (puts b k ≡ false)
one_writes a b h k = let c = h k in grind arith

unread_left : (a b : List Operation) → Apart a b → (k : ℕ) → gets b k ≡ true → puts a k ≡ false
unread_left a b h k e = let c = h k in grind arith

unread_right : (a b : List Operation) → Apart a b → (k : ℕ) → gets a k ≡ true → puts b k ≡ false
unread_right a b h k e = let c = h k in grind arith

-- ── One script ──

-- what it leaves at a key depends on the table there only, and what it does not write it leaves alone
after_local : (t : ℕ) (s : List Operation) (f g : Table) (k : ℕ) → f k ≡ g k → after t s f k ≡ after t s g k
after_local t [] f g k e = e
after_local t (get j ∷ s) f g k e = after_local t s f g k e
after_local t (put j v ∷ s) f g k e = rw (after_local t s f g k e)

after_out : (t : ℕ) (s : List Operation) (f : Table) (k : ℕ) → puts s k ≡ false → after t s f k ≡ f k
after_out t [] f k e = refl
after_out t (get j ∷ s) f k e = after_out t s f k e
after_out t (put j v ∷ s) f k e =
    let h = or_parts (j == k) (puts s k) e in
    rw h.0 (after_out t s f k h.1)

-- its answers depend on the keys that it reads only
answers_local : (t : ℕ) (s : List Operation) (f g : Table) → ((k : ℕ) → gets s k ≡ true → f k ≡ g k) → answers t s f ≡ answers t s g
answers_local t [] f g h = refl
answers_local t (get j ∷ s) f g h =
    let here = after_local t s f g j (h j (rw (eq-eqb j j refl))) in
    let rest = answers_local t s f g (λ k e. h k (or_right (j == k) (gets s k) e)) in
    cc
answers_local t (put j v ∷ s) f g h = answers_local t s f g h

-- ── Orders ──

-- the stable partition: those that pass come first, then the others, each part in the order that it had
abbrev pub parted : (ℕ → Bool) → List ℕ → List ℕ
parted v l = filter (λ x. not (v x)) l ++ filter v l

pub kept_member : (v : ℕ → Bool) (l : List ℕ) (x : ℕ) → Member x (filter v l) → Member x l × (v x ≡ true)
kept_member v [] x m = absurd m
kept_member v (y ∷ l) x m = go (λ n. let r = kept_member v l x n in (inr r.0, r.1)) (v y) refl m
  where
    go : (Member x (filter v l) → Member x (y ∷ l) × (v x ≡ true)) → (b : Bool) → v y ≡ b → Member x (cond b (y ∷ filter v l) (filter v l)) →
        Member x (y ∷ l) × (v x ≡ true)
    go e1 b e2 e3 = grind arith

pub parted_permutes : (v : ℕ → Bool) (l : List ℕ) → Permᴰ (parted v l) l
parted_permutes v [] = Permᴰ.nil
parted_permutes v (x ∷ l) = go (v x) (parted_permutes v l)
  where
    n : ℕ → Bool
    n y = not (v y)

    go : (b : Bool) → Permᴰ (parted v l) l → Permᴰ (cond (not b) (x ∷ filter n l) (filter n l) ++ cond b (x ∷ filter v l) (filter v l)) (x ∷ l)
    go true r = Permᴰ.trans (Permᴰ.middle x (filter n l) (filter v l)) (Permᴰ.cons refl r)
    go false r = Permᴰ.cons refl r

module _ (script : ℕ → List Operation) (stays : ℕ → Bool) where
  play_local : (u : ℕ) (f g : Table) (k : ℕ) → f k ≡ g k → play script stays u f k ≡ play script stays u g k
  play_local u f g k e = elim (stays u) as (λ b. cond b (after u (script u) f) f k ≡ cond b (after u (script u) g) g k) [
    | true ↦ after_local u (script u) f g k e
    | false ↦ e
  ]

  play_out : (u : ℕ) (f : Table) (k : ℕ) → puts (script u) k ≡ false → play script stays u f k ≡ f k
  play_out u f k e = elim (stays u) as (λ b. cond b (after u (script u) f) f k ≡ f k) [
    | true ↦ after_out u (script u) f k e
    | false ↦ refl
  ]

  swap_table : (u x : ℕ) (f : Table) → Apart (script u) (script x) →
      play script stays x (play script stays u f) ≡ play script stays u (play script stays x f)
  swap_table u x f h = fun_ext at
    where
      at : (k : ℕ) → play script stays x (play script stays u f) k ≡ play script stays u (play script stays x f) k
      at k = elim (one_writes (script u) (script x) h k) [
        | inl e ↦ play_local x (play script stays u f) f k (play_out u f k e) ∙ sym (play_out u (play script stays x f) k e)
        | inr e ↦ play_out x (play script stays u f) k e ∙ sym (play_local u (play script stays x f) f k (play_out x f k e))
      ]

  module _ (got : ℕ → List Version) where
    -- two neighbours without conflict are exchanged
    pub swap : (x u : ℕ) (l : List ℕ) (f : Table) → Apart (script u) (script x) →
        AllAnswered script stays got (x ∷ u ∷ l) f → AllAnswered script stays got (u ∷ x ∷ l) f
    swap x u l f h p =
        let g = play_all script stays l f in (
          answers_local u (script u) (play script stays x g) g (λ k e. play_out x g k (unread_right (script u) (script x) h k e)) ∙ p.1.0,
          (
            answers_local x (script x) g (play script stays u g) (λ k e. sym (play_out u g k (unread_left (script u) (script x) h k e))) ∙ p.0,
            p.1.1,
          ),
        )

    -- the last moves before a row of others
    move_before_table : (x : ℕ) (a l : List ℕ) (f : Table) → ((u : ℕ) → Member u a → Apart (script u) (script x)) →
        play_all script stays (a ++ (x ∷ l)) f ≡ play_all script stays (x ∷ (a ++ l)) f
    move_before_table x [] l f h = refl
    move_before_table x (u ∷ a) l f h =
        ap (play script stays u) (move_before_table x a l f (λ y m. h y (inr m))) ∙ sym (swap_table u x (play_all script stays (a ++ l) f) (h u (inl refl)))

    move_before : (x : ℕ) (a l : List ℕ) (f : Table) → ((u : ℕ) → Member u a → Apart (script u) (script x)) →
        AllAnswered script stays got (x ∷ (a ++ l)) f → AllAnswered script stays got (a ++ (x ∷ l)) f
    move_before x [] l f h p = p
    move_before x (u ∷ a) l f h p =
        let q = swap x u (a ++ l) f (h u (inl refl)) p in
        let rest = λ (y : ℕ) (m : Member y a). h y (inr m) in
        (ap (answers u (script u)) (move_before_table x a l f rest) ∙ q.0, move_before x a l f rest q.1)

    -- where no member that passes conflicts with an earlier one that does not, an order may be parted
    pub part : (v : ℕ → Bool) (l : List ℕ) (f : Table) →
        ((u x : ℕ) → Later x u l → v u ≡ false → v x ≡ true → Apart (script u) (script x)) →
        AllAnswered script stays got l f →
        AllAnswered script stays got (parted v l) f × (play_all script stays (parted v l) f ≡ play_all script stays l f)
    part v [] f h p = (tt, refl)
    part v (x ∷ l) f h p = go (part v l f (λ u y b. h u y (inr b)) p.1) (v x) refl
      where
        n : ℕ → Bool
        n y = not (v y)

        go : AllAnswered script stays got (parted v l) f × (play_all script stays (parted v l) f ≡ play_all script stays l f) →
            (b : Bool) → v x ≡ b →
            AllAnswered script stays got (cond (not b) (x ∷ filter n l) (filter n l) ++ cond b (x ∷ filter v l) (filter v l)) f
            × (play_all script stays (cond (not b) (x ∷ filter n l) (filter n l) ++ cond b (x ∷ filter v l) (filter v l)) f ≡ play_all script stays (x ∷ l) f)
        go rest false e = ((ap (answers x (script x)) rest.1 ∙ p.0, rest.0), ap (play script stays x) rest.1)
        go rest true e =
            let apart : (u : ℕ) → Member u (filter n l) → Apart (script u) (script x) = λ u m. let r = kept_member n l u m in h u x (inl (refl, r.0)) (not-true (v u) r.1) e in (
              move_before x (filter n l) (filter v l) f apart (ap (answers x (script x)) rest.1 ∙ p.0, rest.0),
              move_before_table x (filter n l) (filter v l) f apart ∙ ap (play script stays x) rest.1,
            )

    -- one whose writes do not stay may run anywhere
    pub insert : (t : ℕ) (a l : List ℕ) (f : Table) → stays t ≡ false → answers t (script t) (play_all script stays l f) ≡ got t →
        AllAnswered script stays got (a ++ l) f →
        AllAnswered script stays got (a ++ (t ∷ l)) f × (play_all script stays (a ++ (t ∷ l)) f ≡ play_all script stays (a ++ l) f)
    insert t [] l f s e p = ((e, p), rw s)
    insert t (u ∷ a) l f s e p =
        let r = insert t a l f s e p.1 in
        ((ap (answers u (script u)) r.1 ∙ p.0, r.0), ap (play script stays u) r.1)

-- ── Orders of the same transactions ──

pub play_all_same : (f g : ℕ → List Operation) (v w : ℕ → Bool) (l : List ℕ) (tb : Table) → ((u : ℕ) → Member u l → (f u ≡ g u) × (v u ≡ w u)) →
    play_all f v l tb ≡ play_all g w l tb
play_all_same f g v w [] tb h = refl
play_all_same f g v w (x ∷ l) tb h =
    let a = h x (inl refl) in
    let r = play_all_same f g v w l tb (λ u m. h u (inr m)) in
    rw (a.0, a.1, r)

pub answered_same : (f g : ℕ → List Operation) (v w : ℕ → Bool) (a b : ℕ → List Version) (l : List ℕ) (tb : Table) →
    ((u : ℕ) → Member u l → (f u ≡ g u) × (v u ≡ w u)) → ((u : ℕ) → Member u l → a u ≡ b u) → AllAnswered f v a l tb → AllAnswered g w b l tb
answered_same f g v w a b [] tb h k p = tt
answered_same f g v w a b (x ∷ l) tb h k p =
    let r = play_all_same f g v w l tb (λ u m. h u (inr m)) in
    let q : answers x (g x) (play_all g w l tb) ≡ b x = rw (← r, ← (h x (inl refl)).0, ← (k x (inl refl))) p.0 in
    (q, answered_same f g v w a b l tb (λ u m. h u (inr m)) (λ u m. k u (inr m)) p.1)
