-- Functions changed at one place, the statuses, and the order of a list.
use Rattle.std.proofs.Common.{◌≡◌, ℕ, Bool, true, false, cond, ◌&&◌, ◌⊎◌, List, [], ◌∷◌, sym, refl, ap, inl, inr, arith, ◌||◌, ◌==◌}
use Rattle.std.proofs.lemmas.Bool.{or_right, or_left, or_cases, eqb-true, eq-eqb, false≢true}
use Rattle.history.specs.Table.{Version, update_at, Member, listed, Later, selected}
use Rattle.history.specs.Protocol.{Kind, Search, Update, Status, Unbegun, Offered, Committed, Aborted, State, touched, conflict}

abbrev pub update_at₂ : {A : Type 0} → (ℕ → ℕ → A) → ℕ → ℕ → A → ℕ → ℕ → A
update_at₂ f t p a u q = cond (t == u && p == q) a (f u q)

pub same : {A : Type 0} (f : ℕ → A) (t : ℕ) (a : A) → update_at f t a t ≡ a
same f t a = grind arith

pub other : {A : Type 0} (f : ℕ → A) (t : ℕ) (a : A) (u : ℕ) → (u ≡ t → ⊥) → update_at f t a u ≡ f u
other f t a u d = grind arith

pub other₂ : {A : Type 0} (f : ℕ → ℕ → A) (t p : ℕ) (a : A) (u q : ℕ) → (u ≡ t → ⊥) → update_at₂ f t p a u q ≡ f u q
other₂ f t p a u q d = grind arith

-- a clock of another
pub slot : (f : ℕ → ℕ → ℕ) (t : ℕ) (c : ℕ → ℕ) (u q : ℕ) → (u ≡ t → ⊥) → update_at f t c u q ≡ f u q
slot f t c u q d = ap (λ (g : ℕ → ℕ). g q) (other f t c u d)

-- what is true after a place was set was set there or true before
pub hit : (f : ℕ → ℕ → Bool) (t p u q : ℕ) → update_at₂ f t p true u q ≡ true → ((u ≡ t) × (q ≡ p)) ⊎ (f u q ≡ true)
hit f t p u q e = grind arith

pub drop : (f : ℕ → ℕ → Bool) (t p u q : ℕ) → update_at₂ f t p false u q ≡ true → f u q ≡ true
drop f t p u q e = grind arith

pub set_true : (f : ℕ → ℕ → Bool) (t k u j : ℕ) → f u j ≡ true → update_at₂ f t k true u j ≡ true
set_true f t k u j e = grind arith

-- ── Statuses ──

abbrev pub is_begun : Status → Bool
is_begun Unbegun = false
is_begun x = true

-- offered, and from then on: what was noted and written changes no more
abbrev pub frozen : Status → Bool
frozen Offered = true
frozen Committed = true
frozen Aborted = true
frozen x = false

abbrev pub is_committed : Status → Bool
is_committed Committed = true
is_committed x = false

-- decided
abbrev pub over : Status → Bool
over Committed = true
over Aborted = true
over x = false

-- the other of two, where the first is not so
pub or_second : (a b : Bool) → (a || b) ≡ true → (a ≡ true → ⊥) → b ≡ true
or_second a b e n = grind arith

pub one_kind : {A : Type 0} (x : Kind) → x ≡ Search → x ≡ Update → A
one_kind x p q = absurd cc

-- what is not decided is none of the committed
pub differ : (f : ℕ → Status) (t u : ℕ) (x : Status) → f t ≡ x → over x ≡ false → f u ≡ Committed → u ≡ t → ⊥
differ f t u x p o q e = grind arith

pub not_committed : (x y : Status) → x ≡ y → is_committed y ≡ false → x ≡ Committed → ⊥
not_committed x y e f g = grind arith

pub uncommitted : (x : Status) → (x ≡ Committed → ⊥) → is_committed x ≡ false
uncommitted x n = grind arith

pub committed_after : (f : ℕ → Status) (x : ℕ) (y : Status) (u : ℕ) → (f x ≡ Committed → ⊥) → f u ≡ Committed → update_at f x y u ≡ Committed
committed_after f x y u n e = grind arith

-- ── Conflicts ──

pub conflict_left : (s : State) (u t k : ℕ) → conflict s u t k ≡ true → touched s u k ≡ true
conflict_left s u t k e = grind arith

pub conflict_right : (s : State) (u t k : ℕ) → conflict s u t k ≡ true → touched s t k ≡ true
conflict_right s u t k e = grind arith

-- ── The order of a list ──

pub later_first : (u x : ℕ) (l : List ℕ) → Later u x l → Member u l
later_first u x [] b = b
later_first u x (y ∷ l) (inl h) = inl h.0
later_first u x (y ∷ l) (inr h) = inr (later_first u x l h)

pub later_second : (u x : ℕ) (l : List ℕ) → Later u x l → Member x l
later_second u x [] b = b
later_second u x (y ∷ l) (inl h) = inr h.1
later_second u x (y ∷ l) (inr h) = inr (later_second u x l h)

-- in a list without repetition, of two members one is the later
pub later_asymmetric : (l : List ℕ) → ((u : ℕ) → Later u u l → ⊥) → (x y : ℕ) → Later x y l → Later y x l → ⊥
later_asymmetric [] n x y b c = b
later_asymmetric (z ∷ l) n x y (inl b) (inl c) = n z (inl (refl, (rw c.0 at b.1)))
later_asymmetric (z ∷ l) n x y (inl b) (inr c) = n z (inl (refl, (rw b.0 at (later_second y x l c))))
later_asymmetric (z ∷ l) n x y (inr b) (inl c) = n z (inl (refl, (rw c.0 at (later_second x y l b))))
later_asymmetric (z ∷ l) n x y (inr b) (inr c) = later_asymmetric l (λ u h. n u (inr h)) x y b c

-- ── Versions selected from an order ──

pub selected_same : (v w : ℕ → Bool) (f g : ℕ → Version) (l : List ℕ) → ((u : ℕ) → Member u l → (v u ≡ w u) × (f u ≡ g u)) →
    selected v f l ≡ selected w g l
selected_same v w f g [] h = refl
selected_same v w f g (x ∷ l) h =
    let a = h x (inl refl) in
    let r = selected_same v w f g l (λ u m. h u (inr m)) in
    rw (a.0, a.1, r)

-- one more passes, and none that is later does
pub selected_more : (v w : ℕ → Bool) (f : ℕ → Version) (t : ℕ) (l : List ℕ) → Member t l → w t ≡ true → v t ≡ false →
    ((u : ℕ) → (u ≡ t → ⊥) → w u ≡ v u) →
    ((u : ℕ) → Later u t l → v u ≡ false) → (Later t t l → ⊥) → selected w f l ≡ f t ∷ selected v f l
selected_more v w f t [] m wt vt o b n = absurd m
selected_more v w f t (y ∷ l) (inl e) wt vt o b n =
    let r : selected w f l ≡ selected v f l = selected_same w v f f l (λ u mu. (o u (λ z. n (inl (e, (rw z at mu)))), refl)) in
    rw (← e, wt, vt, r)
selected_more v w f t (y ∷ l) (inr m) wt vt o b n =
    rw (o y (λ z. n (inl (sym z, m))), b y (inl (refl, m))) (selected_more v w f t l m wt vt o (λ u h. b u (inr h)) (λ h. n (inr h)))

-- ── The test of membership ──

pub listed_member : (x : ℕ) (l : List ℕ) → listed x l ≡ true → Member x l
listed_member x [] e = absurd (false≢true e)
listed_member x (y ∷ l) e = elim (or_cases (x == y) (listed x l) e) [ inl a ↦ inl (eqb-true x y a) | inr a ↦ inr (listed_member x l a) ]

pub member_listed : (x : ℕ) (l : List ℕ) → Member x l → listed x l ≡ true
member_listed x [] m = absurd m
member_listed x (y ∷ l) (inl e) = or_left (x == y) (listed x l) (eq-eqb x y e)
member_listed x (y ∷ l) (inr m) = or_right (x == y) (listed x l) (member_listed x l m)
