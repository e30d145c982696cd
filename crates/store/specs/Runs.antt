-- What becomes of a new store under any list of calls, whichever of them are refused.
use Rattle.std.specs.Prelude.{◌≡◌, ℕ, ◌+◌, Bool, cond, ◌&&◌, List, [], ◌∷◌, ◌++◌, ◌==◌}
use Rattle.store.specs.declared.Version.{Version}
use Rattle.store.specs.Model.{Meaning, FreeRule, fresh, first_version, aside_granted, aside_after, aside_there, back_after, put_after}

-- The calls that change a store, each with its node and key.
pub data StoreCall : Type 0 where
  SetAside : ℕ → ℕ → StoreCall
  GiveBack : ℕ → ℕ → StoreCall
  Put : ℕ → ℕ → Version → StoreCall

abbrev pub granted : FreeRule → Meaning → StoreCall → Bool
granted free m (SetAside n k) = aside_granted free m n k
granted free m (GiveBack n k) = aside_there m n k
granted free m (Put n k v) = aside_there m n k

abbrev pub after : FreeRule → Meaning → StoreCall → Meaning
after free m (SetAside n k) = aside_after free m n k
after free m (GiveBack n k) = back_after m n k
after free m (Put n k v) = put_after m n k v

-- What a store means after all of the calls, in their order.
unfoldable pub after_all : FreeRule → Meaning → List StoreCall → Meaning
after_all free m [] = m
after_all free m (c ∷ cs) = after_all free (after free m c) cs

-- Those of the calls that were granted, in their order.
unfoldable pub granted_of : FreeRule → Meaning → List StoreCall → List StoreCall
granted_of free m [] = []
granted_of free m (c ∷ cs) = cond (granted free m c) (c ∷ granted_of free (after free m c) cs) (granted_of free (after free m c) cs)

-- The versions that the calls put at a node and key, the newest first.
abbrev pub version_at : ℕ → ℕ → StoreCall → List Version
version_at n k (SetAside i j) = []
version_at n k (GiveBack i j) = []
version_at n k (Put i j v) = cond (n == i && k == j) (v ∷ []) []

unfoldable pub put_at : ℕ → ℕ → List StoreCall → List Version
put_at n k [] = []
put_at n k (c ∷ cs) = put_at n k cs ++ version_at n k c

-- How many of the calls set a place aside at a node and key, and how many used one up there, by a put or by giving it back.
abbrev pub sets_at : ℕ → ℕ → StoreCall → ℕ
sets_at n k (SetAside i j) = cond (n == i && k == j) 1 0
sets_at n k (GiveBack i j) = 0
sets_at n k (Put i j v) = 0

abbrev pub uses_at : ℕ → ℕ → StoreCall → ℕ
uses_at n k (SetAside i j) = 0
uses_at n k (GiveBack i j) = cond (n == i && k == j) 1 0
uses_at n k (Put i j v) = cond (n == i && k == j) 1 0

unfoldable pub count : (StoreCall → ℕ) → List StoreCall → ℕ
count f [] = 0
count f (c ∷ cs) = f c + count f cs

-- Of every store, after any calls on a new one:
pub record Remembers (free : FreeRule) (calls : List StoreCall) : Type 0 where
  -- a chain lists what was put there, the newest first, above the first version;
  pub versions : (n k : ℕ) → (after_all free fresh calls n k).versions ≡ put_at n k (granted_of free fresh calls) ++ first_version ∷ []
  -- the places set aside there are those that were granted and not used up since;
  pub places : (n k : ℕ) → (after_all free fresh calls n k).aside + count (uses_at n k) (granted_of free fresh calls) ≡ count (sets_at n k) (granted_of free fresh calls)
  -- and the refused calls might as well not have been made.
  pub refused : after_all free fresh calls ≡ after_all free fresh (granted_of free fresh calls)

abbrev pub StoresRemember : Type 0
StoresRemember = (free : FreeRule) (calls : List StoreCall) → Remembers free calls
