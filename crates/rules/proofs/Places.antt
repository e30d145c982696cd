-- The places set aside in the store, one for each engaged update that writes there: how they follow a vote, a release and an apply.
use Rattle.std.proofs.Common.{◌≡◌, ℕ, zero, suc, ◌+◌, ◌-◌, ◌<◌, ◌≤◌, Bool, true, false, cond, ◌&&◌, eqb, ltb, List, [], ◌∷◌, length, get_or, set, Err, Result, sym, refl, ap, ◌∙◌, subst, ⊎_elim, arith}
use Rattle.std.proofs.lemmas.List.{get_or-set_same, get_or-set_other}
use Rattle.std.proofs.lemmas.Bool.{cases_Bool, cases_eq, cond-true, cond-false, and_parts, and_from, and_left, eq-eqb, ne_eqb, lt-ltb}
use Rattle.std.proofs.lemmas.Bool.Decides.{nat_tests}
use Rattle.std.specs.List.{AllByRecursion}
use Rattle.clock.specs.Clocks.{marked}
use Rattle.store.specs.declared.Version.{Version}
use Rattle.store.specs.Model.{Chain, Meaning, FreeRule, aside_granted, aside_after, in_range, with_chain, aside_there, back_after, put_after, one_put, one_back}
use Rattle.store.specs.Batch.{asked, all_aside, all_back, first_refused}
use Rattle.rules.specs.declared.records.Transaction.{Transaction}
use Rattle.rules.specs.declared.records.Kind.TheVariants.{Search}
use Rattle.rules.specs.World.{World, new_transaction, is_begun, holds, transaction, wrote, written_value, written_at}
use Rattle.rules.specs.Applying.{put_all}
use Rattle.rules.proofs.Invariant.{Invariant, engaged_writers}
use Rattle.rules.proofs.Views.{begun_place, engaged_writer}
use Rattle.rules.proofs.Sets.{asked_written}

-- ── Setting aside and giving back ──

versions_kept : (b : Bool) (c : Chain) (a : ℕ) → (cond b (record { versions = c.versions; aside = a }) c).versions ≡ c.versions
versions_kept true c a = refl
versions_kept false c a = refl

pub back_versions : (m : Meaning) (p : ℕ) (ks : List ℕ) (q k : ℕ) → (all_back m p ks q k).versions ≡ (m q k).versions
back_versions m p ks q k = versions_kept (eqb q p && in_range q k) (m q k) ((m q k).aside - asked ks k)

-- The key for which no place is left is one of those asked for.
pub refused_member : (free : FreeRule) (p : ℕ) (P : ℕ → Type 0) (m : Meaning) (ks : List ℕ) (k : ℕ) → AllByRecursion P ks → first_refused free m p ks ≡ Err k → P k
unfolding first_refused
refused_member free p P m [] k all e = let z : ◌≡◌ {A = ℕ} 0 1 = cc in absurd (omega arith)
refused_member free p P m (j ∷ js) k all e =
    ⊎_elim
    (λ (granted : aside_granted free m p j ≡ true).
    refused_member free p P (aside_after free m p j) js k all.1 (sym (cond-true (aside_granted free m p j) (first_refused free (aside_after free m p j) p js) (Err j) granted) ∙ e))
    (λ (refused : aside_granted free m p j ≡ false).
    let here : ◌≡◌ {A = Result (Unit {0}) ℕ} (Err j) (Err k) = sym (cond-false (aside_granted free m p j) (first_refused free (aside_after free m p j) p js) (Err j) refused) ∙ e in
    let same : j ≡ k = cc in
    subst P same all.0)
    (cases_Bool (aside_granted free m p j))

-- ── Putting ──

abbrev version_by : ℕ → Transaction → ℕ → Version
version_by t x k = record { value = written_value x k; writer = t }

abbrev PutSteps : Meaning → ℕ → ℕ → ℕ → ℕ → ℕ → (ℕ → Version) → Type 0
PutSteps m p j q k a f =
    cond (eqb p q && ltb 0 a) (one_put (f k) (with_chain m p j (one_put (f j) (m p j)) q k)) (with_chain m p j (one_put (f j) (m p j)) q k)
    ≡ cond (eqb p q && ltb 0 (cond (eqb j k) (1 + a) a)) (one_put (f k) (m q k)) (m q k)

-- A put of j, and then perhaps of k, at p.
put_step : (m : Meaning) (p j q k a : ℕ) (f : ℕ → Version) → cond (eqb j k) (1 + a) a ≤ 1 → PutSteps m p j q k a f
put_step m p j q k a f most =
    ⊎_elim
    (λ (same : p ≡ q).
    ⊎_elim
    (λ (here : j ≡ k). subst (λ (r : ℕ). PutSteps m p j r k a f) same (subst (λ (i : ℕ). PutSteps m p j p i a f) here (let none : a ≡ 0 = grind (arith, nat_tests) in grind (arith, nat_tests))))
    (λ (other : j ≡ k → ⊥). grind (arith, nat_tests))
    (cases_eq j k))
    (λ (apart : p ≡ q → ⊥). grind (arith, nat_tests))
    (cases_eq p q)

-- Every put of a list of keys is granted by the store, one after the other; and so is every giving back.
abbrev pub PutsGranted : Meaning → ℕ → ℕ → Transaction → List ℕ → Type 0
PutsGranted m p t x [] = Unit {0}
PutsGranted m p t x (k ∷ ks) = (aside_there m p k ≡ true) × PutsGranted (put_after m p k (version_by t x k)) p t x ks

abbrev pub BacksGranted : Meaning → ℕ → List ℕ → Type 0
BacksGranted m p [] = Unit {0}
BacksGranted m p (k ∷ ks) = (aside_there m p k ≡ true) × BacksGranted (back_after m p k) p ks

-- One place is used at the key of a put, and the other chains stay.
module _ (p : ℕ) where
  -- Enough places are set aside for a list of distinct keys.
  pub record Enough (m : Meaning) (ks : List ℕ) : Type 0 where
    pub once : (j : ℕ) → asked ks j ≤ 1
    pub there : (j : ℕ) → asked ks j ≤ (m p j).aside
    pub inside : (j : ℕ) → 0 < asked ks j → in_range p j ≡ true

  first_asked : (j : ℕ) (js : List ℕ) → asked (j ∷ js) j ≡ 1 + asked js j
  unfolding asked
  first_asked j js = cond-true (eqb j j) (1 + asked js j) (asked js j) (eq-eqb j j refl)

  other_asked : (j : ℕ) (js : List ℕ) (i : ℕ) → (j ≡ i → ⊥) → asked (j ∷ js) i ≡ asked js i
  unfolding asked
  other_asked j js i n = cond-false (eqb j i) (1 + asked js i) (asked js i) (ne_eqb j i n)

  asked_fewer : (j : ℕ) (js : List ℕ) (i : ℕ) → asked js i ≤ asked (j ∷ js) i
  unfolding asked
  asked_fewer j js i = grind (arith, nat_tests)

  pub granted_first : (m : Meaning) (j : ℕ) (js : List ℕ) → Enough m (j ∷ js) → aside_there m p j ≡ true
  granted_first m j js e =
      let one = first_asked j js in
      let there = e.there j in
      and_from (in_range p j) (ltb 0 (m p j).aside) (e.inside j (omega arith)) (lt-ltb 0 (m p j).aside (omega arith))

  -- What is enough for a list is enough for what is left of it, where only the first key's chain has changed.
  enough_rest : (m n : Meaning) (j : ℕ) (js : List ℕ) → Enough m (j ∷ js) → ((i : ℕ) → (j ≡ i → ⊥) → n p i ≡ m p i) → Enough n js
  enough_rest m n j js e same =
      record {
        once = λ i. let fewer = asked_fewer j js i in let most = e.once i in omega arith;
        there =
            λ i.
            ⊎_elim
            (λ (here : j ≡ i). let one = subst (λ (k : ℕ). asked (j ∷ js) k ≡ 1 + asked js k) here (first_asked j js) in let most = e.once i in omega arith)
            (λ (other : j ≡ i → ⊥). let more = other_asked j js i other in let there = e.there i in let c = ap (λ (d : Chain). d.aside) (same i other) in omega arith)
            (cases_eq j i);
        inside = λ i l. let fewer = asked_fewer j js i in e.inside i (omega arith);
      }

  -- A chain that is replaced at p and j.
  with_other : (m : Meaning) (j : ℕ) (c : Chain) (i : ℕ) → (j ≡ i → ⊥) → with_chain m p j c p i ≡ m p i
  with_other m j c i n = cond-false (eqb p p && eqb i j) c (m p i) (grind (arith, nat_tests))

  rest_after : (m : Meaning) (j : ℕ) (js : List ℕ) (c : Chain) → Enough m (j ∷ js) → Enough (cond (aside_there m p j) (with_chain m p j c) m) js
  rest_after m j js c e =
      subst (λ (n : Meaning). Enough n js) (sym (cond-true (aside_there m p j) (with_chain m p j c) m (granted_first m j js e)))
      (enough_rest m (with_chain m p j c) j js e (λ i n. with_other m j c i n))

  -- So each put of a list of keys is granted in its turn, and so is each giving back.
  pub puts_granted : (t : ℕ) (x : Transaction) (m : Meaning) (ks : List ℕ) → Enough m ks → PutsGranted m p t x ks
  puts_granted t x m [] e = tt
  puts_granted t x m (k ∷ ks) e = (granted_first m k ks e, puts_granted t x (put_after m p k (version_by t x k)) ks (rest_after m k ks (one_put (version_by t x k) (m p k)) e))

  pub backs_granted : (m : Meaning) (ks : List ℕ) → Enough m ks → BacksGranted m p ks
  backs_granted m [] e = tt
  backs_granted m (k ∷ ks) e = (granted_first m k ks e, backs_granted (back_after m p k) ks (rest_after m k ks (one_back (m p k)) e))

  -- What the puts leave.
  pub put_all_at : (t : ℕ) (x : Transaction) (m : Meaning) (ks : List ℕ) → Enough m ks → (q k : ℕ) →
      put_all m p t x ks q k ≡ cond (eqb p q && ltb 0 (asked ks k)) (one_put (version_by t x k) (m q k)) (m q k)
  unfolding put_all asked
  put_all_at t x m [] e q k = sym (cond-false (eqb p q && ltb 0 0) (one_put (version_by t x k) (m q k)) (m q k) (grind (arith, nat_tests)))
  put_all_at t x m (j ∷ js) e q k =
      let c : Chain = one_put (version_by t x j) (m p j) in
      let n : Meaning = with_chain m p j c in
      let most = e.once k in
      ap (λ (o : Meaning). put_all o p t x js q k) (cond-true (aside_there m p j) n m (granted_first m j js e))
      ∙ put_all_at t x n js (enough_rest m n j js e (λ i d. with_other m j c i d)) q k
      ∙ put_step m p j q k (asked js k) (version_by t x) most

-- ── The places of a world ──

once_at : {a : ℕ} (b : Bool) → a ≡ cond b 1 0 → a ≤ 1
once_at true e = omega arith
once_at false e = omega arith

there_at : {a c e : ℕ} (g b r : Bool) → g ≡ true → a ≡ cond (b && r) 1 0 → cond (g && b) 1 0 ≤ c → e ≡ c → a ≤ e
there_at g b r engaged is counted places = grind (arith, nat_tests)

inside_at : {a : ℕ} (b r : Bool) → 0 < a → a ≡ cond (b && r) 1 0 → b ≡ true
inside_at b r l is = grind (arith, nat_tests)

-- One of a list is counted.
pub one_counted : (w : World) (p k : ℕ) (xs : List Transaction) (i : ℕ) (d : Transaction) → i < length xs → cond (engaged_writer w p k (get_or xs i d)) 1 0 ≤ engaged_writers w p k xs
one_counted w p k [] i d l = absurd (omega arith)
one_counted w p k (x ∷ xs) zero d l = omega arith
one_counted w p k (x ∷ xs) (suc i) d l = let rest = one_counted w p k xs i d (omega arith) in omega arith

-- The count at one place before and after, told by its tests: `g` and `g'`, engaged there before and after; `b`, writes there; `r`, in range;
-- `l`, within the keys.
aside_here : (c : Chain) (a : ℕ) (s r g g' b l : Bool) → s ≡ true → g ≡ false → g' ≡ true → a ≡ cond (b && l) 1 0 → (b ≡ true → r ≡ true) → (b ≡ true → l ≡ true) →
    (cond (s && r) (record { versions = c.versions; aside = c.aside + a }) c).aside + cond (g && b) 1 0 ≡ c.aside + cond (g' && b) 1 0
aside_here c a s r g g' true l es eg eg' ea er el = rw (es, er refl, eg, eg') (let e = el refl in grind (arith, nat_tests))
aside_here c a s true g g' false l es eg eg' ea er el = rw (es, eg, eg') (omega arith)
aside_here c a s false g g' false l es eg eg' ea er el = rw (es, eg, eg') (omega arith)

back_here : (c : Chain) (a : ℕ) (s r g g' b l : Bool) → s ≡ true → g ≡ true → g' ≡ false → a ≡ cond (b && l) 1 0 → (b ≡ true → r ≡ true) → (b ≡ true → l ≡ true) → a ≤ c.aside →
    (cond (s && r) (record { versions = c.versions; aside = c.aside - a }) c).aside + cond (g && b) 1 0 ≡ c.aside + cond (g' && b) 1 0
back_here c a s r g g' true l es eg eg' ea er el m = rw (es, er refl, eg, eg') (let e = el refl in grind (arith, nat_tests))
back_here c a s true g g' false l es eg eg' ea er el m = rw (es, eg, eg') (omega arith)
back_here c a s false g g' false l es eg eg' ea er el m = rw (es, eg, eg') (omega arith)

put_here : (c : Chain) (v : Version) (a : ℕ) (s g g' b l : Bool) → s ≡ true → g ≡ true → g' ≡ false → a ≡ cond (b && l) 1 0 → (b ≡ true → l ≡ true) → a ≤ c.aside →
    (cond (s && ltb 0 a) (one_put v c) c).aside + cond (g && b) 1 0 ≡ c.aside + cond (g' && b) 1 0
put_here c v a s g g' true l es eg eg' ea el m = let e = el refl in let one : a ≡ 1 = grind (arith, nat_tests) in rw (es, eg, eg', one) (omega arith)
put_here c v a s g g' false l es eg eg' ea el m = let none : a ≡ 0 = omega arith in rw (es, eg, eg', none) (omega arith)

elsewhere : (c d : Chain) (s r g g' b : Bool) → s ≡ false → g ≡ g' → (cond (s && r) d c).aside + cond (g && b) 1 0 ≡ c.aside + cond (g' && b) 1 0
elsewhere c d s r g g' b es eg = rw (es, eg) refl

module _ (w : World) (inv : Invariant w) (t p : ℕ) (begun : is_begun w t ≡ true) where
  -- A written key that p holds is in range.
  held_inside : (k : ℕ) → (wrote (transaction w t) k && holds w p k) ≡ true → in_range p k ≡ true
  held_inside k h =
      let parts = and_parts (wrote (transaction w t) k) (holds w p k) h in
      let there = inv.holders p k parts.1 in
      let nodes = inv.few_nodes in
      let keys = inv.few_keys in
      let a = there.0 in
      let b = there.1 in
      and_from (ltb p 8) (ltb k 64) (lt-ltb p 8 (omega arith)) (lt-ltb k 64 (omega arith))

  -- Where t is engaged at p, a place is set aside for each key that it writes there.
  pub enough : marked (transaction w t).engaged p ≡ true → Enough p w.store (written_at w (transaction w t) p)
  enough engaged =
      record {
        once = λ j. once_at ((wrote (transaction w t) j && holds w p j) && ltb j 64) (asked_written w (transaction w t) p j);
        there =
            λ j.
            there_at (marked (transaction w t).engaged p) (wrote (transaction w t) j && holds w p j) (ltb j 64) engaged (asked_written w (transaction w t) p j)
            (one_counted w p j w.transactions (t - 1) (new_transaction Search) (begun_place w t begun).1) (inv.places p j);
        inside = λ j l. held_inside j (inside_at (wrote (transaction w t) j && holds w p j) (ltb j 64) l (asked_written w (transaction w t) p j));
      }

  keys_inside : (k : ℕ) → (wrote (transaction w t) k && holds w p k) ≡ true → ltb k 64 ≡ true
  keys_inside k h = (and_parts (ltb p 8) (ltb k 64) (held_inside k h)).1

  -- What a yes sets aside is what the count gains.
  pub aside_balance : p < length (transaction w t).engaged → marked (transaction w t).engaged p ≡ false → (q k : ℕ) →
      (all_aside w.store p (written_at w (transaction w t) p) q k).aside + cond (marked (transaction w t).engaged q && (wrote (transaction w t) k && holds w q k)) 1 0
      ≡ (w.store q k).aside + cond (marked (set (transaction w t).engaged p true) q && (wrote (transaction w t) k && holds w q k)) 1 0
  aside_balance l idle q k =
      ⊎_elim
      (λ (same : p ≡ q).
      subst
      (λ (r : ℕ).
      (all_aside w.store p (written_at w (transaction w t) p) r k).aside + cond (marked (transaction w t).engaged r && (wrote (transaction w t) k && holds w r k)) 1 0
      ≡ (w.store r k).aside + cond (marked (set (transaction w t).engaged p true) r && (wrote (transaction w t) k && holds w r k)) 1 0)
      same
      (aside_here (w.store p k) (asked (written_at w (transaction w t) p) k) (eqb p p) (in_range p k) (marked (transaction w t).engaged p) (marked (set (transaction w t).engaged p true) p)
      (wrote (transaction w t) k && holds w p k) (ltb k 64) (eq-eqb p p refl) idle (get_or-set_same (transaction w t).engaged p true false l)
      (asked_written w (transaction w t) p k) (held_inside k) (keys_inside k)))
      (λ (apart : p ≡ q → ⊥).
      elsewhere (w.store q k) (record { versions = (w.store q k).versions; aside = (w.store q k).aside + asked (written_at w (transaction w t) p) k }) (eqb q p) (in_range q k) (marked (transaction w t).engaged q) (marked (set (transaction w t).engaged p true) q) (wrote (transaction w t) k && holds w q k)
      (ne_eqb q p (λ e. apart (sym e))) (sym (get_or-set_other (transaction w t).engaged p q true false (λ e. apart (sym e)))))
      (cases_eq p q)

  -- What is given back is what the count loses, and so is what is put.
  pub back_balance : p < length (transaction w t).engaged → marked (transaction w t).engaged p ≡ true → (q k : ℕ) →
      (all_back w.store p (written_at w (transaction w t) p) q k).aside + cond (marked (transaction w t).engaged q && (wrote (transaction w t) k && holds w q k)) 1 0
      ≡ (w.store q k).aside + cond (marked (set (transaction w t).engaged p false) q && (wrote (transaction w t) k && holds w q k)) 1 0
  back_balance l engaged q k =
      ⊎_elim
      (λ (same : p ≡ q).
      subst
      (λ (r : ℕ).
      (all_back w.store p (written_at w (transaction w t) p) r k).aside + cond (marked (transaction w t).engaged r && (wrote (transaction w t) k && holds w r k)) 1 0
      ≡ (w.store r k).aside + cond (marked (set (transaction w t).engaged p false) r && (wrote (transaction w t) k && holds w r k)) 1 0)
      same
      (back_here (w.store p k) (asked (written_at w (transaction w t) p) k) (eqb p p) (in_range p k) (marked (transaction w t).engaged p) (marked (set (transaction w t).engaged p false) p)
      (wrote (transaction w t) k && holds w p k) (ltb k 64) (eq-eqb p p refl) engaged (get_or-set_same (transaction w t).engaged p false false l)
      (asked_written w (transaction w t) p k) (held_inside k) (keys_inside k) ((enough engaged).there k)))
      (λ (apart : p ≡ q → ⊥).
      elsewhere (w.store q k) (record { versions = (w.store q k).versions; aside = (w.store q k).aside - asked (written_at w (transaction w t) p) k }) (eqb q p) (in_range q k) (marked (transaction w t).engaged q) (marked (set (transaction w t).engaged p false) q) (wrote (transaction w t) k && holds w q k)
      (ne_eqb q p (λ e. apart (sym e))) (sym (get_or-set_other (transaction w t).engaged p q false false (λ e. apart (sym e)))))
      (cases_eq p q)

  pub put_balance : p < length (transaction w t).engaged → marked (transaction w t).engaged p ≡ true → (q k : ℕ) →
      (put_all w.store p t (transaction w t) (written_at w (transaction w t) p) q k).aside + cond (marked (transaction w t).engaged q && (wrote (transaction w t) k && holds w q k)) 1 0
      ≡ (w.store q k).aside + cond (marked (set (transaction w t).engaged p false) q && (wrote (transaction w t) k && holds w q k)) 1 0
  put_balance l engaged q k =
      ap (λ (c : Chain). c.aside + cond (marked (transaction w t).engaged q && (wrote (transaction w t) k && holds w q k)) 1 0)
      (put_all_at p t (transaction w t) w.store (written_at w (transaction w t) p) (enough engaged) q k)
      ∙ ⊎_elim
      (λ (same : p ≡ q).
      subst
      (λ (r : ℕ).
      (cond (eqb p r && ltb 0 (asked (written_at w (transaction w t) p) k)) (one_put (version_by t (transaction w t) k) (w.store r k)) (w.store r k)).aside
      + cond (marked (transaction w t).engaged r && (wrote (transaction w t) k && holds w r k)) 1 0
      ≡ (w.store r k).aside + cond (marked (set (transaction w t).engaged p false) r && (wrote (transaction w t) k && holds w r k)) 1 0)
      same
      (put_here (w.store p k) (version_by t (transaction w t) k) (asked (written_at w (transaction w t) p) k) (eqb p p) (marked (transaction w t).engaged p) (marked (set (transaction w t).engaged p false) p)
      (wrote (transaction w t) k && holds w p k) (ltb k 64) (eq-eqb p p refl) engaged (get_or-set_same (transaction w t).engaged p false false l)
      (asked_written w (transaction w t) p k) (keys_inside k) ((enough engaged).there k)))
      (λ (apart : p ≡ q → ⊥).
      elsewhere (w.store q k) (one_put (version_by t (transaction w t) k) (w.store q k)) (eqb p q) (ltb 0 (asked (written_at w (transaction w t) p) k)) (marked (transaction w t).engaged q) (marked (set (transaction w t).engaged p false) q) (wrote (transaction w t) k && holds w q k)
      (ne_eqb p q apart) (sym (get_or-set_other (transaction w t).engaged p q false false (λ e. apart (sym e)))))
      (cases_eq p q)

  -- A release where t is not engaged, or where it writes nothing, changes no count.
  pub idle_balance : p < length (transaction w t).engaged → ((k : ℕ) → (marked (transaction w t).engaged p && (wrote (transaction w t) k && holds w p k)) ≡ false) → (q k : ℕ) →
      (w.store q k).aside + cond (marked (transaction w t).engaged q && (wrote (transaction w t) k && holds w q k)) 1 0
      ≡ (w.store q k).aside + cond (marked (set (transaction w t).engaged p false) q && (wrote (transaction w t) k && holds w q k)) 1 0
  idle_balance l idle q k =
      ap (λ (b : Bool). (w.store q k).aside + cond b 1 0)
      (⊎_elim
      (λ (same : p ≡ q).
      subst (λ (r : ℕ). (marked (transaction w t).engaged r && (wrote (transaction w t) k && holds w r k)) ≡ (marked (set (transaction w t).engaged p false) r && (wrote (transaction w t) k && holds w r k))) same
      (idle k ∙ sym (and_left (marked (set (transaction w t).engaged p false) p) (wrote (transaction w t) k && holds w p k) (get_or-set_same (transaction w t).engaged p false false l))))
      (λ (apart : p ≡ q → ⊥). ap (λ (b : Bool). b && (wrote (transaction w t) k && holds w q k)) (sym (get_or-set_other (transaction w t).engaged p q false false (λ e. apart (sym e)))))
      (cases_eq p q))

  -- No put and no giving back of the calls is refused by the store.
  pub no_put_refused : marked (transaction w t).engaged p ≡ true → PutsGranted w.store p t (transaction w t) (written_at w (transaction w t) p)
  no_put_refused engaged = puts_granted p t (transaction w t) w.store (written_at w (transaction w t) p) (enough engaged)

  pub no_giving_back_refused : marked (transaction w t).engaged p ≡ true → BacksGranted w.store p (written_at w (transaction w t) p)
  no_giving_back_refused engaged = backs_granted p w.store (written_at w (transaction w t) p) (enough engaged)
