-- The numbers that nodes give to updates, and the stamps of commits. Each leaves the number of its transaction when it is divided by the
-- modulus, so that no two transactions ever have the same.
use Rattle.std.specs.Prelude.{◌≡◌, ℕ, zero, suc, ◌+◌, ◌%◌, ◌^◌, ◌<◌, ◌≤◌, max, cond, List, [], ◌∷◌, length, Some, None, Option, ◌==◌, nat_lt, slice_index}

-- Looking upwards from n, at so many numbers: the first that leaves t.
unfoldable pub first_leaving : ℕ → ℕ → ℕ → ℕ → ℕ
first_leaving modulus t zero n = n
first_leaving modulus t (suc more) n = cond (n % modulus == t) n (first_leaving modulus t more (n + 1))

-- The next number for t after c: the least above c that leaves t.
abbrev pub next_number : ℕ → ℕ → ℕ → ℕ
next_number modulus c t = first_leaving modulus t modulus (c + 1)

abbrev pub highest : List ℕ → ℕ
highest [] = 0
highest (x ∷ xs) = max x (highest xs)

-- The stamp of t: the least number that leaves t, is not below any of t's numbers, and is above every slot of the base.
abbrev pub stamp_number : ℕ → List ℕ → List ℕ → ℕ → ℕ
stamp_number modulus numbers base t = first_leaving modulus t modulus (max (highest numbers) (highest base + 1))

-- A number that 32 bits hold, or nothing.
abbrev pub if_fits : ℕ → Option ℕ
if_fits n = cond (nat_lt n (2 ^ 32)) (Some n) None

-- n is the least number with a property.
pub record Least (P : ℕ → Type 0) (n : ℕ) : Type 0 where
  pub has : P n
  pub least : (m : ℕ) → P m → n ≤ m

abbrev pub Next : ℕ → ℕ → ℕ → ℕ → Type 0
Next modulus c t n = Least (λ m. (c < m) × (m % modulus ≡ t)) n

abbrev pub Stamp : ℕ → List ℕ → List ℕ → ℕ → ℕ → Type 0
Stamp modulus numbers base t n =
    Least
    (λ m. (m % modulus ≡ t) × ((i : ℕ) → i < length numbers → slice_index numbers i ≤ m) × ((q : ℕ) → q < length base → slice_index base q < m))
    n

-- The next number and the stamp are what they are meant to be, for every modulus and every transaction below it (the
-- first has the number 1).
pub record NumbersAreLeast : Type 0 where
  pub next : (modulus c t : ℕ) → t < modulus → Next modulus c t (next_number modulus c t)
  pub stamp : (modulus : ℕ) (numbers base : List ℕ) (t : ℕ) → 0 < t → t < modulus → Stamp modulus numbers base t (stamp_number modulus numbers base t)
