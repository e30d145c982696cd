-- Several keys of one node at once: places for all of them, or for none.
use Rattle.std.specs.Prelude.{ℕ, ◌+◌, ◌-◌, cond, ◌&&◌, List, [], ◌∷◌, Ok, Err, Result, ◌==◌}
use Rattle.store.specs.Model.{Meaning, FreeRule, in_range, aside_granted, aside_after}

-- How many places a list of keys asks for at the key k: as many as it has k.
unfoldable pub asked : List ℕ → ℕ → ℕ
asked [] k = 0
asked (j ∷ js) k = cond (j == k) (1 + asked js k) (asked js k)

-- The places that the keys ask for are set aside at their node; all else is as it was.
abbrev pub all_aside : Meaning → ℕ → List ℕ → Meaning
all_aside m node keys =
    λ n k. cond (n == node && in_range n k) (record (m n k) { aside = (m n k).aside + asked keys k }) (m n k)

-- The places that the keys ask for are given back at their node, as far as they are set aside there; all else is as it was.
abbrev pub all_back : Meaning → ℕ → List ℕ → Meaning
all_back m node keys =
    λ n k. cond (n == node && in_range n k) (record (m n k) { aside = (m n k).aside - asked keys k }) (m n k)

-- The first key for which no place is left after those before it in the list.
unfoldable pub first_refused : FreeRule → Meaning → ℕ → List ℕ → Result (Unit {0}) ℕ
first_refused free m n [] = Ok tt
first_refused free m n (k ∷ ks) = cond (aside_granted free m n k) (first_refused free (aside_after free m n k) n ks) (Err k)

-- All or nothing.
abbrev pub if_ok : {X : Type 0} → Result (Unit {0}) ℕ → X → X → X
if_ok (Ok done) after before = after
if_ok (Err key) after before = before
