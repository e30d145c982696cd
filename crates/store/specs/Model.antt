-- What a version store means, and what each of its calls answers and does.
use Rattle.std.specs.Prelude.{ℕ, zero, suc, ◌+◌, ◌-◌, Bool, cond, ◌&&◌, List, [], ◌∷◌, length, Some, None, Option, ◌==◌, nat_lt}
use Rattle.store.specs.declared.Version.{Version}

-- For one node and key: the versions, the newest first, and how many places are set aside.
pub record Chain : Type 0 where
  pub versions : List Version
  pub aside : ℕ

-- A store means a chain for each node and key.
abbrev pub Meaning : Type 0
Meaning = ℕ → ℕ → Chain

-- The version that every chain begins with. It takes no place.
abbrev pub first_version : Version
first_version = record { value = 0; writer = 0 }

abbrev pub first_chain : Chain
first_chain = record { versions = first_version ∷ []; aside = 0 }

-- How many places the versions of a chain take: one each, but for the first.
abbrev pub stored : Chain → ℕ
stored c = length c.versions - 1

abbrev pub set_aside : Chain → ℕ
set_aside c = c.aside

-- A new store: each chain holds the first version alone, and nothing is set aside.
abbrev pub fresh : Meaning
fresh = λ n k. first_chain

-- There are nodes 0 to 7 and keys 0 to 63.
abbrev pub in_range : ℕ → ℕ → Bool
in_range n k = nat_lt n 8 && nat_lt k 64

-- The version that stands so many steps below the newest, as value and writer; nothing past the oldest.
abbrev pub nth_of : List Version → ℕ → Option (ℕ × ℕ)
nth_of [] steps = None
nth_of (v ∷ vs) zero = Some (v.value, v.writer)
nth_of (v ∷ vs) (suc steps) = nth_of vs steps

abbrev pub nth_answer : Meaning → ℕ → ℕ → ℕ → Option (ℕ × ℕ)
nth_answer m n k steps = cond (in_range n k) (nth_of (m n k).versions steps) None

-- One chain is replaced, and every other stays.
abbrev pub with_chain : Meaning → ℕ → ℕ → Chain → Meaning
with_chain m node key c = λ n k. cond (n == node && k == key) c (m n k)

-- How many places are free for a node and key, worked out from the whole meaning. Each store has its own rule.
abbrev pub FreeRule : Type 0
FreeRule = Meaning → ℕ → ℕ → ℕ

-- Setting a place aside is granted exactly where a place is free.
abbrev pub aside_granted : FreeRule → Meaning → ℕ → ℕ → Bool
aside_granted free m n k = in_range n k && nat_lt 0 (free m n k)

abbrev pub one_aside : Chain → Chain
one_aside c = record c { aside = c.aside + 1 }

abbrev pub aside_after : FreeRule → Meaning → ℕ → ℕ → Meaning
aside_after free m n k = cond (aside_granted free m n k) (with_chain m n k (one_aside (m n k))) m

-- Giving a place back, and putting a version, are granted exactly where a place is set aside there.
abbrev pub aside_there : Meaning → ℕ → ℕ → Bool
aside_there m n k = in_range n k && nat_lt 0 (m n k).aside

abbrev pub one_back : Chain → Chain
one_back c = record c { aside = c.aside - 1 }

abbrev pub back_after : Meaning → ℕ → ℕ → Meaning
back_after m n k = cond (aside_there m n k) (with_chain m n k (one_back (m n k))) m

-- A put turns one place set aside into the newest version.
abbrev pub one_put : Version → Chain → Chain
one_put v c = record { versions = v ∷ c.versions; aside = c.aside - 1 }

abbrev pub put_after : Meaning → ℕ → ℕ → Version → Meaning
put_after m n k v = cond (aside_there m n k) (with_chain m n k (one_put v (m n k))) m
