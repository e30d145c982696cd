-- Any list of calls on a new store.
use Rattle.std.proofs.Common.{◌≡◌, ℕ, ◌+◌, true, false, List, [], ◌∷◌, ◌++◌, sym, refl, ap, ◌∙◌, ⊎_elim, append_assoc, arith}
use Rattle.std.proofs.lemmas.Bool.{cases_Bool, cond-true, cond-false}
use Rattle.std.proofs.lemmas.Bool.Decides.{nat_tests}
use Rattle.store.specs.declared.Version.{Version}
use Rattle.store.specs.Model.{Meaning, FreeRule, fresh}
use Rattle.store.specs.Runs.{StoreCall, SetAside, GiveBack, Put, granted, after, after_all, granted_of, version_at, put_at, sets_at, uses_at, count, StoresRemember}

-- What one granted call does to a chain, and that a refused call does nothing.
module _ (free : FreeRule) (m : Meaning) (n k : ℕ) where
  versions_step : (c : StoreCall) → granted free m c ≡ true → (after free m c n k).versions ≡ version_at n k c ++ (m n k).versions
  versions_step (SetAside i j) g = grind (arith, nat_tests)
  versions_step (GiveBack i j) g = grind (arith, nat_tests)
  versions_step (Put i j v) g = grind (arith, nat_tests)

  places_step : (c : StoreCall) → granted free m c ≡ true → (after free m c n k).aside + uses_at n k c ≡ (m n k).aside + sets_at n k c
  places_step (SetAside i j) g = grind (arith, nat_tests)
  places_step (GiveBack i j) g = grind (arith, nat_tests)
  places_step (Put i j v) g = grind (arith, nat_tests)

refused_step : (free : FreeRule) (m : Meaning) (c : StoreCall) → granted free m c ≡ false → after free m c ≡ m
refused_step free m (SetAside i j) g = rw g refl
refused_step free m (GiveBack i j) g = rw g refl
refused_step free m (Put i j v) g = rw g refl

module _ (free : FreeRule) where
  -- The granted calls of a list, by its first call.
  first_granted : (m : Meaning) (c : StoreCall) (cs : List StoreCall) → granted free m c ≡ true → granted_of free m (c ∷ cs) ≡ c ∷ granted_of free (after free m c) cs
  unfolding granted_of
  first_granted m c cs g = cond-true (granted free m c) _ _ g

  first_refused : (m : Meaning) (c : StoreCall) (cs : List StoreCall) → granted free m c ≡ false → granted_of free m (c ∷ cs) ≡ granted_of free (after free m c) cs
  unfolding granted_of
  first_refused m c cs g = cond-false (granted free m c) _ _ g

  versions_all : (m : Meaning) (n k : ℕ) (cs : List StoreCall) → (after_all free m cs n k).versions ≡ put_at n k (granted_of free m cs) ++ (m n k).versions
  unfolding after_all granted_of put_at
  versions_all m n k [] = refl
  versions_all m n k (c ∷ cs) =
      let w : Meaning = after free m c in
      let later : List Version = put_at n k (granted_of free w cs) in
      versions_all w n k cs
      ∙ ⊎_elim
      (λ (g : granted free m c ≡ true).
      ap (λ vs. later ++ vs) (versions_step free m n k c g) ∙ sym (append_assoc later (version_at n k c) (m n k).versions)
      ∙ ap (λ l. put_at n k l ++ (m n k).versions) (sym (first_granted m c cs g)))
      (λ (g : granted free m c ≡ false).
      ap (λ x. later ++ (x n k).versions) (refused_step free m c g) ∙ ap (λ l. put_at n k l ++ (m n k).versions) (sym (first_refused m c cs g)))
      (cases_Bool (granted free m c))

  places_all : (m : Meaning) (n k : ℕ) (cs : List StoreCall) → (after_all free m cs n k).aside + count (uses_at n k) (granted_of free m cs) ≡ (m n k).aside + count (sets_at n k) (granted_of free m cs)
  unfolding after_all granted_of count
  places_all m n k [] = refl
  places_all m n k (c ∷ cs) =
      let w : Meaning = after free m c in
      let rest = places_all w n k cs in
      ⊎_elim
      (λ (g : granted free m c ≡ true).
      let one = places_step free m n k c g in
      let uses = ap (count (uses_at n k)) (first_granted m c cs g) in
      let sets = ap (count (sets_at n k)) (first_granted m c cs g) in
      omega arith)
      (λ (g : granted free m c ≡ false).
      let one = ap (λ (x : Meaning). (x n k).aside) (refused_step free m c g) in
      let uses = ap (count (uses_at n k)) (first_refused m c cs g) in
      let sets = ap (count (sets_at n k)) (first_refused m c cs g) in
      omega arith)
      (cases_Bool (granted free m c))

  refused_all : (m : Meaning) (cs : List StoreCall) → after_all free m cs ≡ after_all free m (granted_of free m cs)
  unfolding after_all granted_of
  refused_all m [] = refl
  refused_all m (c ∷ cs) =
      refused_all (after free m c) cs
      ∙ ⊎_elim
      (λ (g : granted free m c ≡ true). ap (after_all free m) (sym (first_granted m c cs g)))
      (λ (g : granted free m c ≡ false).
      ap (λ x. after_all free x (granted_of free (after free m c) cs)) (refused_step free m c g) ∙ ap (after_all free m) (sym (first_refused m c cs g)))
      (cases_Bool (granted free m c))

pub stores_remember : StoresRemember
stores_remember free calls =
    record {
      versions = λ n k. versions_all free fresh n k calls;
      places = λ n k. let all = places_all free fresh n k calls in omega arith;
      refused = refused_all free fresh calls;
    }
