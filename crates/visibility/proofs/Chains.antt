-- Walking a chain from its newest version on.
use Rattle.std.proofs.Common.{◌≡◌, ℕ, zero, suc, ◌+◌, ◌<◌, Bool, true, false, cond, eqb, List, [], ◌∷◌, length, drop, Some, None, sym, refl, ap, ◌∙◌, add-one, arith}
use Rattle.std.proofs.lemmas.Bool.{cond-true, cond-false}
use Rattle.std.proofs.lemmas.Bool.Decides.{nat_tests}
use Rattle.store.specs.declared.Version.{Version}
use Rattle.store.specs.Model.{Meaning, first_version, in_range, nth_of, nth_answer}
use Rattle.clock.specs.Clocks.{passes}
use Rattle.rules.specs.World.{World}
use Rattle.rules.specs.Reading.{commit_clock, newest_passing, newest_passes}

-- The chain that a store answers from: none past the last node or the last key.
abbrev pub chain : Meaning → ℕ → ℕ → List Version
chain m p k = cond (in_range p k) (m p k).versions []

pub from_chain : (m : Meaning) (p k steps : ℕ) → nth_answer m p k steps ≡ nth_of (chain m p k) steps
from_chain m p k steps = go (in_range p k)
  where
    go : (inside : Bool) → cond inside (nth_of (m p k).versions steps) None ≡ nth_of (cond inside (m p k).versions []) steps
    go true = refl
    go false = refl

pub chain_there : (m : Meaning) (p k : ℕ) → p < 8 → k < 64 → chain m p k ≡ (m p k).versions
chain_there m p k node key = let inside : in_range p k ≡ true = grind (arith, nat_tests) in cond-true (in_range p k) (m p k).versions [] inside

-- It is no longer than the store's.
pub chain_short : (m : Meaning) (p k bound : ℕ) → length (m p k).versions < bound → length (chain m p k) < bound
chain_short m p k bound short = go (in_range p k)
  where
    go : (inside : Bool) → length (cond inside (m p k).versions []) < bound
    go true = short
    go false = omega arith

abbrev version : ℕ → ℕ → Version
version value writer = record { value = value; writer = writer }

-- What is left of a chain after so many steps begins with the version that stands there.
found : (vs : List Version) (i value writer : ℕ) → Some (value, writer) ≡ nth_of vs i → (i < length vs) × (drop i vs ≡ version value writer ∷ drop (suc i) vs)
found [] i value writer e = let never : ◌≡◌ {A = ℕ} 0 1 = cc in absurd (omega arith)
found (v ∷ vs) zero value writer e =
    let same : ◌≡◌ {A = ℕ × ℕ} (v.value, v.writer) (value, writer) = cc in
    (omega arith, ap (λ (pair : ℕ × ℕ). version pair.0 pair.1 ∷ vs) same)
found (v ∷ vs) (suc i) value writer e = let rest = found vs i value writer e in (omega (arith, rest.0), rest.1)

pub within : (m : Meaning) (p k i value writer : ℕ) → Some (value, writer) ≡ nth_answer m p k i → i < length (chain m p k)
within m p k i value writer e = (found (chain m p k) i value writer (e ∙ from_chain m p k i)).0

-- No version of the chain before this place passes.
abbrev pub Walked : (Version → Bool) → List Version → ℕ → Type 0
Walked test vs i = (newest_passing test (drop i vs) ≡ newest_passing test vs) × (0 < i → newest_passes test vs ≡ false)

module _ (test : Version → Bool) where
  -- The newest version was the first that was looked at.
  older : (vs : List Version) (i : ℕ) → (0 < suc i → newest_passes test vs ≡ false) → eqb (suc i) 0 ≡ newest_passes test vs
  older vs i none = let some : eqb (suc i) 0 ≡ false = grind (arith, nat_tests) in some ∙ sym (none (omega arith))

  first_test : (vs : List Version) (value writer : ℕ) → Some (value, writer) ≡ nth_of vs 0 → newest_passes test vs ≡ test (version value writer)
  first_test [] value writer e = let never : ◌≡◌ {A = ℕ} 0 1 = cc in absurd (omega arith)
  first_test (v ∷ vs) value writer e =
      let same : ◌≡◌ {A = ℕ × ℕ} (v.value, v.writer) (value, writer) = cc in
      ap (λ (pair : ℕ × ℕ). test (version pair.0 pair.1)) same

  newest_here : (vs : List Version) (i value writer : ℕ) → Some (value, writer) ≡ nth_of vs i → test (version value writer) ≡ true → (0 < i → newest_passes test vs ≡ false) → eqb i 0 ≡ newest_passes test vs
  newest_here vs zero value writer e good none = sym (first_test vs value writer e ∙ good)
  newest_here vs (suc i) value writer e good none = older vs i none

  newest_older : (vs : List Version) (i value writer : ℕ) → Some (value, writer) ≡ nth_of vs i → test (version value writer) ≡ false → (0 < i → newest_passes test vs ≡ false) → newest_passes test vs ≡ false
  newest_older vs zero value writer e bad none = first_test vs value writer e ∙ bad
  newest_older vs (suc i) value writer e bad none = none (omega arith)

  newest_none : (vs : List Version) (i : ℕ) → None ≡ nth_of vs i → (0 < i → newest_passes test vs ≡ false) → eqb i 0 ≡ newest_passes test vs
  newest_none [] zero e none = refl
  newest_none (v ∷ vs) zero e none = let never : ◌≡◌ {A = ℕ} 0 1 = cc in absurd (omega arith)
  newest_none vs (suc i) e none = older vs i none

  none_left : (vs : List Version) (i : ℕ) → None ≡ nth_of vs i → newest_passing test (drop i vs) ≡ first_version
  unfolding newest_passing
  none_left [] zero e = refl
  none_left [] (suc i) e = refl
  none_left (v ∷ vs) zero e = let never : ◌≡◌ {A = ℕ} 0 1 = cc in absurd (omega arith)
  none_left (v ∷ vs) (suc i) e = none_left vs i e

-- A walk along the chain that a store answers from: a version that passes, one that does not, and the end.
module _ (m : Meaning) (w : World) (read : List Bool) (clock : List ℕ) (p k i : ℕ) where
  abbrev test : Version → Bool
  test = λ v. passes read (commit_clock w v.writer) clock

  module _ (so_far : Walked test (chain m p k) i) where
    module _ (value writer : ℕ) (e : Some (value, writer) ≡ nth_answer m p k i) (good : Bool) (commit : List ℕ) (told : good ≡ passes read commit clock) (is_commit : commit ≡ commit_clock w writer) where
      answer : test (version value writer) ≡ good
      answer = sym (told ∙ ap (λ (c : List ℕ). passes read c clock) is_commit)

      rest : drop i (chain m p k) ≡ version value writer ∷ drop (suc i) (chain m p k)
      rest = (found (chain m p k) i value writer (e ∙ from_chain m p k i)).1

      pub passing_here : good ≡ true → (v : Version) → v ≡ version value writer → v ≡ newest_passing test (chain m p k)
      unfolding newest_passing
      passing_here passed v is = is ∙ sym (ap (newest_passing test) rest ∙ cond-true (test (version value writer)) _ _ (answer ∙ passed)) ∙ so_far.0

      pub newest_if_first : good ≡ true → (b : Bool) → b ≡ eqb i 0 → b ≡ newest_passes test (chain m p k)
      newest_if_first passed b is = is ∙ newest_here test (chain m p k) i value writer (e ∙ from_chain m p k i) (answer ∙ passed) so_far.1

      pub walked_on : good ≡ false → Walked test (chain m p k) (i + 1)
      unfolding newest_passing
      walked_on failed = (
        sym (ap (newest_passing test) rest ∙ cond-false (test (version value writer)) _ _ (answer ∙ failed) ∙ rw add-one refl) ∙ so_far.0,
        λ more. newest_older test (chain m p k) i value writer (e ∙ from_chain m p k i) (answer ∙ failed) so_far.1,
      )

    module _ (e : None ≡ nth_answer m p k i) where
      pub passing_none : (v : Version) → v ≡ first_version → v ≡ newest_passing test (chain m p k)
      passing_none v is = is ∙ sym (none_left test (chain m p k) i (e ∙ from_chain m p k i)) ∙ so_far.0

      pub newest_if_none : (b : Bool) → b ≡ eqb i 0 → b ≡ newest_passes test (chain m p k)
      newest_if_none b is = is ∙ newest_none test (chain m p k) i (e ∙ from_chain m p k i) so_far.1

-- What is seen, with the marks and the clock that a read has.
pub seen_of : {A : Type 0} (found : (Version → Bool) → List Version → A) (row : List Bool) (read : List Bool) (clock after : List ℕ) (w : World) (m : Meaning) (p k : ℕ) (r : A) → p < 8 → k < 64 → w.store ≡ m → read ≡ row → clock ≡ after → r ≡ found (λ v. passes read (commit_clock w v.writer) clock) (chain m p k) → r ≡ found (λ v. passes row (commit_clock w v.writer) after) (w.store p k).versions
seen_of found row read clock after w m p k r node key holds rows clocks is =
    is
    ∙ ap (λ (marks : List Bool). found (λ v. passes marks (commit_clock w v.writer) clock) (chain m p k)) rows
    ∙ ap (λ (c : List ℕ). found (λ v. passes row (commit_clock w v.writer) c) (chain m p k)) clocks
    ∙ ap (found (λ v. passes row (commit_clock w v.writer) after)) (chain_there m p k node key ∙ ap (λ (held : Meaning). (held p k).versions) (sym holds))

-- The same with the clock that was given, over the chain that the store answers from.
pub seen_by : {A : Type 0} (found : (Version → Bool) → List Version → A) (row : List Bool) (read : List Bool) (clock : List ℕ) (w : World) (m : Meaning) (p k : ℕ) (r : A) → read ≡ row → r ≡ found (λ v. passes read (commit_clock w v.writer) clock) (chain m p k) → r ≡ found (λ v. passes row (commit_clock w v.writer) clock) (chain m p k)
seen_by found row read clock w m p k r rows is = is ∙ ap (λ (marks : List Bool). found (λ v. passes marks (commit_clock w v.writer) clock) (chain m p k)) rows
