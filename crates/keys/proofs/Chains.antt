-- A chain that tests numbers or bytes, as the definitions of the rules test them.
use Rattle.std.proofs.Common.{◌≡◌, ℕ, zero, suc, ◌+◌, ◌<◌, Bool, true, false, ◌^◌, ◌||◌, ◌&&◌, List, [], ◌∷◌, ◌++◌, cond, fold, filter, Some, None, Option, nat_lt, ltb, refl, sym, ap, ◌∙◌, arith, length}
use Rattle.std.specs.Fn.{Called, CalledAt}
use Rattle.std.specs.Iterator.{Yields, YieldsThen}
use Rattle.std.specs.Iterator.Adapters.{filter_callee, filter_source, filter_steps}
use Rattle.std.specs.declared.iter.Filter.{Filter}
use Rattle.std.specs.List.{FoldsTo, list_any, list_all, range_with_len}
use Rattle.std.specs.Option.{MatchOption}
use Rattle.std.proofs.iter.Yields.{nat_range_steps}
use Rattle.std.specs.declared.ops.Range.{Range}
use Rattle.std.proofs.lemmas.List.{map-id}
use Rattle.std.proofs.lemmas.Iterator.{YieldsList, YieldsList-from_range}
use Rattle.std.proofs.lemmas.Iterator.Consumers.{YieldsList-from_filter, YieldsList-turn, YieldsList-end}
use Rattle.std.proofs.lemmas.Iterator.Search.{any_from_yields_List}
use Rattle.std.proofs.lemmas.List.Folds.{list_any-append}
use Rattle.std.proofs.lemmas.List.FromFn.{length-range_with_len}
use Rattle.std.proofs.lemmas.List.Sums.{length-filter, count_by-le-length}
use denote.Param.Members.{Mut}
use denote.Ref.{Bor}
use lib.Bits.{bit_or}
use Rattle.rules.specs.World.{bit, some_below}
use Rattle.rules.specs.Steps.{all_placed}
use Rattle.rules.proofs.Writes.{bit-bit_or}
use Rattle.rules.proofs.States.{some_has, some_from}
use Rattle.std.proofs.lemmas.Bool.{agree_below_at, and_parts, and_from}

-- Counting one further.
pub counting_more : (a n : ℕ) → range_with_len a (suc n) ≡ range_with_len a n ++ (a + n) ∷ []
counting_more a zero = ap (λ (x : ℕ). x ∷ []) (omega arith)
counting_more a (suc n) = ap (λ l. a ∷ l) (counting_more (a + 1) n ∙ ap (λ (x : ℕ). range_with_len (a + 1) n ++ x ∷ []) (omega arith))

last_first : (a b : Bool) → (a || (b || false)) ≡ (b || a)
last_first true true = refl
last_first true false = refl
last_first false true = refl
last_first false false = refl

pub any_is : (n : ℕ) (test : ℕ → Bool) → list_any test (range_with_len 0 n) ≡ some_below n test
any_is zero test = refl
any_is (suc n) test =
    ap (list_any test) (counting_more 0 n ∙ ap (λ (x : ℕ). range_with_len 0 n ++ x ∷ []) (omega arith))
    ∙ list_any-append test (range_with_len 0 n) (n ∷ [])
    ∙ last_first (list_any test (range_with_len 0 n)) (test n)
    ∙ ap (λ (b : Bool). test n || b) (any_is n test)

-- What `(0..n).any(..)` answers, where the closure computes a test.
pub any_below : {F : Type 0} {g : Mut F (ℕ × Unit {0}) Bool} (n : ℕ) (test : ℕ → Bool) {u : Range ℕ} {f : F} {r : Bool} → (xs : List ℕ) × (o : Option ℕ) × (j : F) × YieldsThen nat_range_steps (record { start = 0; end = n }) xs o u × FoldsTo (λ p x q. Called g p (x, tt) false q) f xs j × MatchOption o (r ≡ false) (λ x. (r ≡ true) × ((h : F) × Called g j (x, tt) true h)) → ((x : ℕ) (b : Bool) (q : F) → Called g f (x, tt) b q → (q ≡ f) × (b ≡ test x)) → r ≡ some_below n test
any_below n test ran closure = any_from_yields_List test _ _ _ ran (YieldsList-from_range 0 n n refl (omega arith)) closure ∙ any_is n test

-- What `all` answers over the bytes of a placement.
pub all_is_placed : (nodes : ℕ) (placement : List ℕ) → list_all (λ byte. nat_lt 0 byte && nat_lt byte (2 ^ nodes)) placement ≡ all_placed nodes placement
all_is_placed nodes [] = refl
all_is_placed nodes (byte ∷ bytes) = ap (λ (b : Bool). (nat_lt 0 byte && nat_lt byte (2 ^ nodes)) && b) (all_is_placed nodes bytes)

-- A fold over what a filter lets through is one that leaves out the others.
pub fold-filter : {A B : Type 0} (f : B → A → B) (test : A → Bool) (b : B) (xs : List A) → fold f b (filter test xs) ≡ fold (λ c x. cond (test x) (f c x) c) b xs
fold-filter f test b [] = refl
fold-filter {A} {B} f test b (x ∷ xs) = go (test x) (λ c. fold-filter f test c xs)
  where
    go : (kept : Bool) → ((c : B) → fold f c (filter test xs) ≡ fold (λ d y. cond (test y) (f d y) d) c xs) → fold f b (cond kept (x ∷ filter test xs) (filter test xs)) ≡ fold (λ c y. cond (test y) (f c y) c) (cond kept (f b x) b) xs
    go true rest = rest (f b x)
    go false rest = rest b

abbrev Computes : {F : Type 0} → Mut F (Bor ℕ × Unit {0}) Bool → F → (ℕ → Bool) → Type 0
Computes {F} g f test = (x : ℕ) (b : Bool) (q : F) → CalledAt g f x b q → (q ≡ f) × (b ≡ test x)

-- A loop over the keys that a filter lets through, which has been given xs of them.
module _ {F : Type 0} {g : Mut F (Bor ℕ × Unit {0}) Bool} {f : F} (test : ℕ → Bool) where
  keys_kept : {made s : Filter (Range ℕ) F} → s ≡ made → filter_source made ≡ record { start = 0; end = 64 } → filter_callee made ≡ f → Computes g f test → YieldsList (filter_steps nat_range_steps g) (λ x. x) s (filter test (range_with_len 0 64))
  keys_kept moved source callee computes =
      YieldsList-from_filter g test (YieldsList-from_range 0 64 64 (ap filter_source moved ∙ source) refl) (ap filter_callee moved ∙ callee) computes

  -- Of 64 keys at most 64 are kept, so there is room for the next.
  pub room_for_next : {made s t : Filter (Range ℕ) F} {r : Option ℕ} {k : ℕ} (u : Filter (Range ℕ) F) (xs : List ℕ) → s ≡ made → filter_source made ≡ record { start = 0; end = 64 } → filter_callee made ≡ f → Yields (filter_steps nat_range_steps g) s xs t → filter_steps nat_range_steps g t r u → r ≡ Some k → Computes g f test → length xs < 64
  room_for_next {k = k} u xs moved source callee given next is computes =
      let turn = YieldsList-turn (keys_kept moved source callee computes) xs _ given _ _ k is next in
      omega (arith, turn.0, length-filter test (range_with_len 0 64), count_by-le-length test (range_with_len 0 64), length-range_with_len 0 64)

  pub all_given : {made s t : Filter (Range ℕ) F} {r : Option ℕ} (u : Filter (Range ℕ) F) (xs : List ℕ) → s ≡ made → filter_source made ≡ record { start = 0; end = 64 } → filter_callee made ≡ f → Yields (filter_steps nat_range_steps g) s xs t → filter_steps nat_range_steps g t r u → r ≡ None → Computes g f test → xs ≡ filter test (range_with_len 0 64)
  all_given u xs moved source callee given next is computes = sym (map-id xs) ∙ (YieldsList-end (keys_kept moved source callee computes) xs _ given _ _ is next).0

or_apart : (a b c : Bool) → ((a || b) || c) ≡ (a || (b || c))
or_apart true b c = refl
or_apart false b c = refl

-- A bit of the byte that a fold makes of bytes: some byte that passes the test has it, or the fold began with it.
pub bit-fold : (test : ℕ → Bool) (byte_at : ℕ → ℕ) (p byte : ℕ) (ks : List ℕ) → bit (fold (λ b k. cond (test k) (bit_or b (byte_at k)) b) byte ks) p ≡ (bit byte p || list_any (λ k. test k && bit (byte_at k) p) ks)
bit-fold test byte_at p byte [] = grind arith
bit-fold test byte_at p byte (k ∷ ks) = go (test k) (λ b. bit-fold test byte_at p b ks)
  where
    rest : Bool
    rest = list_any (λ j. test j && bit (byte_at j) p) ks

    go : (kept : Bool) → ((b : ℕ) → bit (fold (λ c j. cond (test j) (bit_or c (byte_at j)) c) b ks) p ≡ (bit b p || rest)) → bit (fold (λ c j. cond (test j) (bit_or c (byte_at j)) c) (cond kept (bit_or byte (byte_at k)) byte) ks) p ≡ (bit byte p || ((kept && bit (byte_at k) p) || rest))
    go true more = more (bit_or byte (byte_at k)) ∙ ap (λ (b : Bool). b || rest) (bit-bit_or byte (byte_at k) p) ∙ or_apart (bit byte p) (bit (byte_at k) p) rest
    go false more = more byte

-- A byte that is not 0 has one of its eight bits.
pub some_bit : (byte : ℕ) → byte < 256 → ltb 0 byte ≡ some_below 8 (bit byte)
some_bit byte small = agree_below_at (λ (b : ℕ). ltb 0 b) (λ (b : ℕ). some_below 8 (bit b)) 256 byte refl small

same_answer : (a b : Bool) → (a ≡ true → b ≡ true) → (b ≡ true → a ≡ true) → a ≡ b
same_answer true b there back = sym (there refl)
same_answer false true there back = back refl
same_answer false false there back = refl

-- Of two searches, one in the other, either can be the outer one.
pub some_of_some : (n m : ℕ) (test : ℕ → Bool) (within : ℕ → ℕ → Bool) → some_below n (λ k. test k && some_below m (within k)) ≡ some_below m (λ p. some_below n (λ k. test k && within k p))
some_of_some n m test within =
    same_answer (some_below n (λ k. test k && some_below m (within k))) (some_below m (λ p. some_below n (λ k. test k && within k p)))
    (λ some.
    let k = some_has n (λ k. test k && some_below m (within k)) some in
    let both = and_parts (test k.0) (some_below m (within k.0)) k.2 in
    let p = some_has m (within k.0) both.1 in
    some_from m (λ p. some_below n (λ k. test k && within k p)) p.0 p.1
    (some_from n (λ j. test j && within j p.0) k.0 k.1 (and_from (test k.0) (within k.0 p.0) both.0 p.2)))
    (λ some.
    let p = some_has m (λ p. some_below n (λ k. test k && within k p)) some in
    let k = some_has n (λ j. test j && within j p.0) p.2 in
    let both = and_parts (test k.0) (within k.0 p.0) k.2 in
    some_from n (λ k. test k && some_below m (within k)) k.0 k.1
    (and_from (test k.0) (some_below m (within k.0)) both.0 (some_from m (within k.0) p.0 p.1 both.1)))
