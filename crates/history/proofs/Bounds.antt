-- The bound: the numbers grow only at a yes of a write node and at a commit, by at most the modulus each time; and a transaction gets at
-- most one vote from each node and one decision.
use Rattle.std.proofs.Common.{◌≡◌, ℕ, zero, suc, ◌+◌, ◌-◌, ◌*◌, ◌%◌, ◌<◌, ◌≤◌, Bool, true, false, cond, List, [], ◌∷◌, length, sym, refl, ap, ◌∙◌, inl, inr, zero-le, mul_comm, mul-le-mul_left, arith, ◌==◌}
use native.Mathlib.Nat.{add-mod_right}
use Rattle.std.proofs.lemmas.Bool.{cases_eq, cases_lt, both_ways, false≢true, cond_both}
use Rattle.std.proofs.Math.Nat.{max-le}
use Rattle.history.specs.Table.{Version, update_at, Member, Later}
use Rattle.history.specs.Protocol.{Placement, Clock, join, Least, Kind, Unbegun, Offered, Committed, State, status, clock, vote_clock, commit_clock, counter, seen, voted, number, base_clock, sees, change_node, Event, begin, read_search, read_update, yes_write, yes_read, no_overtaken, no_place, commit, learn_read, apply, Joined, WriteNode, MayVote, next, Accepted, Reachable, start, then}
use Rattle.history.specs.History.{begun}
use Rattle.history.specs.Statements.{NumbersWithin}
use Rattle.history.proofs.Basics.{update_at₂, same, other, other₂, is_begun, is_committed}

-- ── The least number is near ──

-- what is at least the modulus above b has a smaller number with its remainder that is above b too
pub least_near : (m : ℕ) → 0 < m → (P : ℕ → Type 0) (b n : ℕ) → ((x : ℕ) → b < x → x % m ≡ n % m → P x) → Least P n → n ≤ b + m
least_near m pos P b n f l = elim (cases_lt (b + m) n) [
  | inr h ↦ h
  | inl h ↦
      let e : n ≡ (n - m) + m = omega arith in
      let same_remainder : (n - m) % m ≡ n % m = sym (add-mod_right (n - m) m) ∙ ap (λ (x : ℕ). x % m) (sym e) in
      let z = l.least (n - m) (f (n - m) (omega arith) same_remainder) in
      absurd (omega arith)
]

-- ── Counts and sums ──

-- how many numbers below n pass a test
abbrev count : ℕ → (ℕ → Bool) → ℕ
count zero f = 0
count (suc n) f = cond (f n) 1 0 + count n f

abbrev sum : (ℕ → ℕ) → List ℕ → ℕ
sum f [] = 0
sum f (x ∷ l) = f x + sum f l

count_same : (n : ℕ) (f g : ℕ → Bool) → ((q : ℕ) → f q ≡ g q) → count n f ≡ count n g
count_same zero f g h = refl
count_same (suc n) f g h = grind (arith, count_same n f g h, h n)

count_bound : (n : ℕ) (f : ℕ → Bool) → count n f ≤ n
count_bound zero f = omega arith
count_bound (suc n) f = let r = count_bound n f in grind arith

count_more : (n p : ℕ) (f g : ℕ → Bool) → p < n → f p ≡ false → g p ≡ true → ((q : ℕ) → (q ≡ p → ⊥) → f q ≡ g q) → count n g ≡ suc (count n f)
count_more zero p f g lt a b h = absurd (omega arith)
count_more (suc n) p f g lt a b h = elim (cases_eq n p) [
  | inl e ↦ let r : count n f ≡ count n g = below n p f g (λ q d. h q d) (omega arith) in rw (e, a, b, ← e, r) (omega arith)
  | inr d ↦ let r = count_more n p f g (omega arith) a b h in rw (h n d) (omega arith)
]
  where
    below : (n p : ℕ) (f g : ℕ → Bool) → ((q : ℕ) → (q ≡ p → ⊥) → f q ≡ g q) → n ≤ p → count n f ≡ count n g
    below zero p f g h le = refl
    below (suc n) p f g h le = let r = below n p f g h (omega arith) in rw (h n (λ e. omega arith), r)

sum_same : (f g : ℕ → ℕ) (l : List ℕ) → ((u : ℕ) → Member u l → f u ≡ g u) → sum f l ≡ sum g l
sum_same f g [] h = refl
sum_same f g (x ∷ l) h = let r = sum_same f g l (λ u m. h u (inr m)) in rw (h x (inl refl), r)

sum_more : (f g : ℕ → ℕ) (t : ℕ) (l : List ℕ) → Member t l → (Later t t l → ⊥) → g t ≡ suc (f t) → ((u : ℕ) → (u ≡ t → ⊥) → f u ≡ g u) →
    sum g l ≡ suc (sum f l)
sum_more f g t [] m n e h = absurd m
sum_more f g t (x ∷ l) (inl d) n e h =
    let r = sum_same f g l (λ u m. h u (λ z. n (inl (d, (rw z at m))))) in
    rw (← d, e, r) (omega arith)
sum_more f g t (x ∷ l) (inr m) n e h =
    let r = sum_more f g t l m (λ b. n (inr b)) e h in
    let s = h x (λ z. n (inl (sym z, m))) in
    omega arith

sum_bound : (f : ℕ → ℕ) (b : ℕ) (l : List ℕ) → ((u : ℕ) → f u ≤ b) → sum f l ≤ b * length l
sum_bound f b [] h = omega arith
sum_bound f b (x ∷ l) h = let r = sum_bound f b l h in let y = h x in omega arith

-- ── The votes and decisions so far ──

-- those that let the numbers grow
abbrev grows : Event → Bool
grows (yes_write t p n) = true
grows (commit t n c) = true
grows e = false

raise : (f : ℕ → Clock) (b t : ℕ) (c : Clock) → ((x q : ℕ) → f x q ≤ b) → ((q : ℕ) → c q ≤ b) → (x q : ℕ) → update_at f t c x q ≤ b
raise f b t c g h x q = cond_both (t == x) c (f x) (λ y. y q ≤ b) (λ _. h q) (λ _. g x q)

loosen : (a b : ℕ) (s : State) → a ≤ b → NumbersWithin a s → NumbersWithin b s
loosen a b s h i = grind arith

module _ (holds : Placement) (modulus nodes : ℕ) (positive : 0 < modulus) (small : (p k : ℕ) → holds p k ≡ true → p < nodes) where
  -- the votes cast on u, and one for its commit
  abbrev spent : State → ℕ → ℕ
  spent s u = cond (is_committed (status s u)) 1 0 + count nodes (voted s u)

  abbrev spent_all : List Event → State → ℕ
  spent_all h s = sum (spent s) (begun h)

  -- ── Each event and the numbers ──

  commit_near : (b : ℕ) (s : State) (t n : ℕ) (c : Clock) → NumbersWithin b s → Accepted holds modulus s (commit t n c) →
      (n ≤ b + modulus) × ((q : ℕ) → c q ≤ b + modulus)
  commit_near b s t n c i ok = (bound, λ q. let x = i.vote_clocks t q in let y = i.clocks t q in let z = bound in elim (ok.slots q) [ inl e ↦ omega (arith, e.1) | inr e ↦ omega (arith, e.1) ])
    where
      written : (p : ℕ) → WriteNode holds s t p → n ≤ b + modulus
      written p w = let m = ok.stamped p w in
          least_near modulus positive (λ x. (x % modulus ≡ t) × ((p : ℕ) → WriteNode holds s t p → number s t p ≤ x) × ((q : ℕ) → base_clock s t q < x)) b n
          (λ x lt e. (e ∙ m.has.0, (λ q v. let y = i.numbers t q in omega arith), λ q. let y = i.vote_clocks t q in let z = i.clocks t q in omega arith)) m

      bound : n ≤ b + modulus
      bound = elim (cases_lt (b + modulus) n) [
        | inr h ↦ h
        | inl h ↦ let z = ok.unwritten (λ p w. let y = written p w in omega arith) in omega arith
      ]

  read_within : (b : ℕ) (s : State) (t k p : ℕ) (a : Version) (c : Clock) → NumbersWithin b s → Joined s t p c →
      NumbersWithin b (next holds s (read_search t k p a c))
  read_within b s t k p a c i j = record {
    counters = i.counters;
    numbers = i.numbers;
    stamps = i.stamps;
    frontiers = i.frontiers;
    clocks = raise (clock s) b t c i.clocks (λ q. elim (j.least q) [ inl e ↦ rw e (i.clocks t q) | inr x ↦ rw x.4 (i.commit_clocks x.0 q) ]);
    vote_clocks = i.vote_clocks;
    commit_clocks = i.commit_clocks;
    seen_clocks = i.seen_clocks;
  }

  yes_within : (b : ℕ) (s : State) (t p : ℕ) → NumbersWithin b s → NumbersWithin b (next holds s (yes_read t p))
  yes_within b s t p i = record {
    counters = i.counters;
    numbers = i.numbers;
    stamps = i.stamps;
    frontiers = i.frontiers;
    clocks = i.clocks;
    vote_clocks = raise (vote_clock s) b t (join (vote_clock s t) (seen s p)) i.vote_clocks (λ q. max-le (i.vote_clocks t q) (i.seen_clocks p q));
    commit_clocks = i.commit_clocks;
    seen_clocks = i.seen_clocks;
  }

  release_within : (b : ℕ) (s : State) (t p : ℕ) → NumbersWithin b s → NumbersWithin b (change_node p (sees (join (seen s p) (commit_clock s t))) s)
  release_within b s t p i = record {
    counters = i.counters;
    numbers = i.numbers;
    stamps = i.stamps;
    frontiers = i.frontiers;
    clocks = i.clocks;
    vote_clocks = i.vote_clocks;
    commit_clocks = i.commit_clocks;
    seen_clocks = raise (seen s) b p (join (seen s p) (commit_clock s t)) i.seen_clocks (λ q. max-le (i.seen_clocks p q) (i.commit_clocks t q));
  }

  within : (b : ℕ) (s : State) (e : Event) → NumbersWithin b s → Accepted holds modulus s e →
      NumbersWithin (cond (grows e) (b + modulus) b) (next holds s e)
  within b s (read_search t k p a c) i ok = read_within b s t k p a c i ok.0.joined
  within b s (read_update t k p a c) i ok = read_within b s t k p a c i ok.0.joined
  within b s (yes_write t p n) i ok =
      let j = yes_within (b + modulus) s t p (loosen b (b + modulus) s (omega arith) i) in
      let m = ok.numbered in
      let near : n ≤ b + modulus = (let c = i.counters p in let d = least_near modulus positive (λ x. (counter s p < x) × (x % modulus ≡ t)) (counter s p) n (λ x lt e. (lt, e ∙ m.has.1)) m in omega arith) in
      record {
        counters = grind arith;
        numbers = grind arith;
        stamps = j.stamps;
        frontiers = j.frontiers;
        clocks = j.clocks;
        vote_clocks = j.vote_clocks;
        commit_clocks = j.commit_clocks;
        seen_clocks = j.seen_clocks;
      }
  within b s (yes_read t p) i ok = yes_within b s t p i
  within b s (commit t n c) i ok =
      let j = loosen b (b + modulus) s (omega arith) i in
      let near = commit_near b s t n c i ok in
      record {
        counters = j.counters;
        numbers = j.numbers;
        stamps = grind arith;
        frontiers = j.frontiers;
        clocks = j.clocks;
        vote_clocks = j.vote_clocks;
        commit_clocks = raise (commit_clock s) (b + modulus) t c j.commit_clocks near.1;
        seen_clocks = j.seen_clocks;
      }
  within b s (learn_read t p) i ok = release_within b s t p i
  within b s (apply t p) i ok = let j = release_within b s t p i in record {
    counters = j.counters;
    numbers = j.numbers;
    stamps = j.stamps;
    frontiers = grind arith;
    clocks = j.clocks;
    vote_clocks = j.vote_clocks;
    commit_clocks = j.commit_clocks;
    seen_clocks = j.seen_clocks;
  }
  within b s e i ok = grind arith

  -- ── Who has begun ──

  abbrev Begun : List Event → State → Type 0
  Begun h s = record {
    -- The begun are those of the history, each once, since only what has not begun begins.
    begun_listed : (u : ℕ) → is_begun (status s u) ≡ true → Member u (begun h);
    listed_begun : (u : ℕ) → Member u (begun h) → is_begun (status s u) ≡ true;
    begun_once : (u : ℕ) → Later u u (begun h) → ⊥;
  }

  begun_begin : (h : List Event) (s : State) (t : ℕ) (a : Kind) → Begun h s → status s t ≡ Unbegun → Begun (begin t a ∷ h) (next holds s (begin t a))
  begun_begin h s t a i o = record {
    begun_listed = λ u e. grind arith;
    listed_begun = λ u m. grind arith;
    begun_once = λ u m. elim m [ inr m ↦ i.begun_once u m | inl d ↦ both_ways (is_begun (status s u)) (rw (d.0, o) refl) (i.listed_begun u d.1) ];
  }

  begun_stands : (h : List Event) (s : State) (e : Event) → Begun h s → Accepted holds modulus s e → Begun (e ∷ h) (next holds s e)
  begun_stands h s (begin t a) i ok = begun_begin h s t a i ok.0
  begun_stands h s e i ok = grind arith

  -- ── Each event and what is spent ──

  -- a vote is counted once
  vote_spends : (h : List Event) (s r : State) (t p : ℕ) → Begun h s → MayVote holds s t p → ((u : ℕ) → status r u ≡ status s u) →
      ((u q : ℕ) → voted r u q ≡ update_at₂ (voted s) t p true u q) → suc (spent_all h s) ≤ spent_all h r
  vote_spends h s r t p i ok st vo =
      let w = ok.polled in
      let at_t : spent r t ≡ suc (spent s t) = rw (st t, count_more nodes p (voted s t) (voted r t) (small p w.0 w.2) ok.unvoted (vo t p ∙ hit_now (voted s)) (λ q d. sym (vo t q ∙ elsewhere (voted s) q d))) (omega arith) in
      let all_others : (u : ℕ) → (u ≡ t → ⊥) → spent s u ≡ spent r u = λ u d. rw (st u, count_same nodes (voted r u) (voted s u) (λ q. vo u q ∙ other₂ (voted s) t p true u q d)) in
      let e = sum_more (spent s) (spent r) t (begun h) (i.begun_listed t (rw ok.offered refl)) (i.begun_once t) at_t all_others in
      omega arith
    where
      hit_now : (f : ℕ → ℕ → Bool) → update_at₂ f t p true t p ≡ true
      hit_now f = grind arith

      elsewhere : (f : ℕ → ℕ → Bool) (q : ℕ) → (q ≡ p → ⊥) → update_at₂ f t p true t q ≡ f t q
      elsewhere f q d = grind arith

  commit_spends : (h : List Event) (s : State) (t n : ℕ) (c : Clock) → Begun h s → status s t ≡ Offered →
      suc (spent_all h s) ≤ spent_all h (next holds s (commit t n c))
  commit_spends h s t n c i o =
      let e = sum_more (spent s) (spent (next holds s (commit t n c))) t (begun h) (i.begun_listed t (rw o refl)) (i.begun_once t) (rw (same (status s) t Committed, o) (omega arith)) (λ u d. rw (other (status s) t Committed u d)) in
      omega arith

  spends : (h : List Event) (s : State) (e : Event) → Begun h s → Accepted holds modulus s e →
      cond (grows e) (suc (spent_all h s)) (spent_all h s) ≤ spent_all (e ∷ h) (next holds s e)
  spends h s (yes_write t p n) i ok = vote_spends h s (next holds s (yes_write t p n)) t p i ok.vote (λ u. refl) (λ u q. refl)
  spends h s (yes_read t p) i ok = (let r = vote_spends h s (next holds s (yes_read t p)) t p i ok.vote (λ u. refl) (λ u q. refl) in omega arith)
  spends h s (no_overtaken t p k) i ok = (let r = vote_spends h s (next holds s (no_overtaken t p k)) t p i ok.0 (λ u. refl) (λ u q. refl) in omega arith)
  spends h s (no_place t p k) i ok = (let r = vote_spends h s (next holds s (no_place t p k)) t p i ok.0 (λ u. refl) (λ u q. refl) in omega arith)
  spends h s (commit t n c) i ok = commit_spends h s t n c i ok.offered
  spends h s e i ok = grind arith

  -- ── The bound ──

  all_begun : {h : List Event} {s : State} → Reachable holds modulus h s → Begun h s
  all_begun start = record { begun_listed = λ u e. absurd (false≢true e); listed_begun = λ u m. absurd m; begun_once = λ u m. m }
  all_begun (then {h = h} {s = s} e r ok) = begun_stands h s e (all_begun r) ok

  times : (b : Bool) (x y : ℕ) → cond b (suc x) x ≤ y → cond b (modulus * x + modulus) (modulus * x) ≤ modulus * y
  times true x y h = (let z = mul-le-mul_left modulus h in omega arith)
  times false x y h = mul-le-mul_left modulus h

  bounded : {h : List Event} {s : State} → Reachable holds modulus h s → NumbersWithin (modulus * spent_all h s) s
  bounded start = record { counters = λ p. zero-le; numbers = λ t p. zero-le; stamps = λ t. zero-le; frontiers = λ p. zero-le; clocks = λ t p. zero-le; vote_clocks = λ t p. zero-le; commit_clocks = λ t p. zero-le; seen_clocks = λ t p. zero-le }
  bounded (then {h = h} {s = s} e r ok) =
      loosen (cond (grows e) (modulus * spent_all h s + modulus) (modulus * spent_all h s)) (modulus * spent_all (e ∷ h) (next holds s e)) (next holds s e)
      (times (grows e) (spent_all h s) (spent_all (e ∷ h) (next holds s e)) (spends h s e (all_begun r) ok)) (within (modulus * spent_all h s) s e (bounded r) ok)

  spent_bound : (s : State) (u : ℕ) → spent s u ≤ nodes + 1
  spent_bound s u = let r = count_bound nodes (voted s u) in grind arith

  pub numbers_bounded : {h : List Event} {s : State} → Reachable holds modulus h s → NumbersWithin ((nodes + 1) * length (begun h) * modulus) s
  numbers_bounded {h} {s} r =
      loosen (modulus * spent_all h s) ((nodes + 1) * length (begun h) * modulus) s
      (rw (mul_comm ((nodes + 1) * length (begun h)) modulus) (mul-le-mul_left modulus (sum_bound (spent s) (nodes + 1) (begun h) (spent_bound s)))) (bounded r)
