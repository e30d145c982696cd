-- The versions of a chain, as the links lead through them.
use Rattle.std.proofs.Common.{◌≡◌, ℕ, zero, suc, ◌+◌, ◌<◌, ◌≤◌, Bool, true, false, cond, ◌&&◌, ◌==◌, List, [], ◌∷◌, ◌++◌, length, take, drop, get_or, slice_get, Some, None, Option, option_map, refl, sym, ap, subst, ◌∙◌, append_assoc, length-append, length-drop, arith}
use Rattle.std.proofs.lemmas.Bool.{cond-true, cond-false}
use Rattle.std.proofs.lemmas.Bool.Decides.{nat_tests}
use Rattle.std.proofs.lemmas.List.{append-nil, take-append-le, take-take, get_or-take, length-take}
use Rattle.std.proofs.lemmas.List.Sums.{fold_push}
use Rattle.std.proofs.lemmas.Option.{slice_get_read, slice_get_past}
use Rattle.std.proofs.Math.Seq.{take-append_seam, take-length}
use Rattle.store.specs.declared.Version.{Version}
use Rattle.store.specs.Model.{nth_of, first_version}
use Rattle.roll.specs.Entries.{versions_of, with_entry}
use Rattle.roll.specs.Links.{last_from, newest_place, LinksNameOlder}
use Rattle.roll.specs.declared.entry.Entry.{Entry}
use Rattle.roll.proofs.Links.{read_before, read_last}

drop_next : {A : Type 0} (s : ℕ) (xs : List A) (x : A) (ys : List A) → drop s xs ≡ x ∷ ys → drop (s + 1) xs ≡ ys
drop_next zero [] x ys is = cc
drop_next zero (w ∷ xs) x ys is = cc
drop_next (suc s) [] x ys is = cc
drop_next (suc s) (w ∷ xs) x ys is =
    let more : suc s + 1 ≡ suc (s + 1) = omega arith in
    ap (λ j. drop j (w ∷ xs)) more ∙ drop_next s xs x ys is

get_dropped : {A : Type 0} (s : ℕ) (xs : List A) (x : A) (ys : List A) → drop s xs ≡ x ∷ ys → slice_get xs s ≡ Some x
get_dropped zero [] x ys is = cc
get_dropped zero (w ∷ xs) x ys is = cc
get_dropped (suc s) [] x ys is = cc
get_dropped (suc s) (w ∷ xs) x ys is = get_dropped s xs x ys is

get_past : {A : Type 0} (s t : ℕ) (xs : List A) (x : A) → drop s xs ≡ x ∷ [] → s < t → slice_get xs t ≡ None
get_past s t xs x is after =
    let count = ap length is in
    slice_get_past xs t (omega (arith, length-drop s xs, count))

pub nth_is : (vs : List Version) (s : ℕ) → nth_of vs s ≡ option_map (λ v. (v.value, v.writer)) (slice_get vs s)
nth_is [] s = refl
nth_is (v ∷ vs) zero = refl
nth_is (v ∷ vs) (suc s) = nth_is vs s

-- What a place says of the entries: nothing but the first version is in the chain where it is none, and otherwise the entry
-- there is the chain's newest, and the rest of the chain lies among the entries before it.
abbrev Tied : ℕ → ℕ → List Entry → Option ℕ → Type 0
Tied n k es None = versions_of n k es ≡ first_version ∷ []
Tied n k es (Some i) =
    (i < length es)
    × ((e : Entry) → slice_get es i ≡ Some e → (e.node ≡ n) × (e.key ≡ k) × (versions_of n k es ≡ e.version ∷ versions_of n k (take i es)))

versions_push : (n k : ℕ) (es : List Entry) (e : Entry) → versions_of n k (es ++ e ∷ []) ≡ cond (n == e.node && k == e.key) (e.version ∷ versions_of n k es) (versions_of n k es)
versions_push n k es e = fold_push (with_entry n k) (first_version ∷ []) es e

node_of : (n k i j : ℕ) → (n == i && k == j) ≡ true → (i ≡ n) × (j ≡ k)
node_of n k i j is = (grind (arith, nat_tests), grind (arith, nat_tests))

tied_push : (n k : ℕ) (es : List Entry) (e : Entry) (p : Option ℕ) (b : Bool) → (n == e.node && k == e.key) ≡ b → Tied n k es p → Tied n k (es ++ e ∷ []) (cond b (Some (length es)) p)
tied_push n k es e p true is tied = (
  omega (arith, length-append es (e ∷ [])),
  λ x read.
      let same : x ≡ e = read_last es e (length es) x read refl in
      let own = node_of n k e.node e.key is in (
        ap (λ (y : Entry). y.node) same ∙ own.0,
        ap (λ (y : Entry). y.key) same ∙ own.1,
        versions_push n k es e ∙ cond-true _ _ _ is ∙ ap (λ (y : Entry). y.version ∷ versions_of n k es) (sym same)
            ∙ ap (λ l. x.version ∷ versions_of n k l) (sym (take-append_seam es (e ∷ []))),
      ),
)
tied_push n k es e None false is tied = versions_push n k es e ∙ cond-false _ _ _ is ∙ tied
tied_push n k es e (Some i) false is tied = (
  omega (arith, length-append es (e ∷ []), tied.0),
  λ x read.
      let was = tied.1 x (read_before es e i x read tied.0) in (
        was.0,
        was.1,
        versions_push n k es e ∙ cond-false _ _ _ is ∙ was.2
            ∙ ap (λ l. x.version ∷ versions_of n k l) (sym (take-append-le i es (e ∷ []) (omega (arith, tied.0)))),
      ),
)

tied_from : (n k : ℕ) (ds es : List Entry) (i : ℕ) (p : Option ℕ) → i ≡ length ds → Tied n k ds p → Tied n k (ds ++ es) (last_from n k i p es)
tied_from n k ds [] i p long tied = subst (λ l. Tied n k l p) (sym (append-nil ds)) tied
tied_from n k ds (e ∷ es) i p long tied =
    let b : Bool = n == e.node && k == e.key in
    let one = tied_push n k ds e p b refl tied in
    let at : Tied n k (ds ++ e ∷ []) (cond b (Some i) p) = subst (λ j. Tied n k (ds ++ e ∷ []) (cond b (Some j) p)) (sym long) one in
    let rest = tied_from n k (ds ++ e ∷ []) es (i + 1) (cond b (Some i) p) (omega (arith, length-append ds (e ∷ []))) at in
    subst (λ l. Tied n k l (last_from n k (i + 1) (cond b (Some i) p) es)) (append_assoc ds (e ∷ []) es) rest

tied : (n k : ℕ) (es : List Entry) → Tied n k es (newest_place n k es)
unfolding newest_place
tied n k es = tied_from n k [] es 0 None refl refl

-- What a walk has reached after so many links: the newest entry of the chain among the entries below some place, whose
-- versions are those that are left.
pub record Reached (n k : ℕ) (es : List Entry) (place : Option ℕ) (steps : ℕ) : Type 0 where
  pub bound : ℕ
  pub place_is : place ≡ newest_place n k (take bound es)
  pub left : drop steps (versions_of n k es) ≡ versions_of n k (take bound es)

pub reached_first : (n k : ℕ) (es : List Entry) (place : Option ℕ) → place ≡ newest_place n k es → Reached n k es place 0
reached_first n k es place is =
    record {
      bound = length es;
      place_is = is ∙ ap (newest_place n k) (sym (take-length es));
      left = ap (versions_of n k) (sym (take-length es));
    }

module _ (n k : ℕ) (es : List Entry) (place : Option ℕ) (steps : ℕ) (reached : Reached n k es place steps) where
  here : Tied n k (take reached.bound es) place
  here = subst (Tied n k (take reached.bound es)) (sym reached.place_is) (tied n k (take reached.bound es))

  left_none : place ≡ None → drop steps (versions_of n k es) ≡ first_version ∷ []
  left_none none = reached.left ∙ subst (Tied n k (take reached.bound es)) none here

  -- At the end of the chain stands the first version, and nothing past it.
  pub answer_first : place ≡ None → slice_get (versions_of n k es) steps ≡ Some first_version
  answer_first none = get_dropped steps (versions_of n k es) first_version [] (left_none none)

  pub answer_none : (s : ℕ) → place ≡ None → steps < s → slice_get (versions_of n k es) s ≡ None
  answer_none s none more = get_past steps s (versions_of n k es) first_version (left_none none) more

  module _ (i : ℕ) (some : place ≡ Some i) where
    there : Tied n k (take reached.bound es) (Some i)
    there = subst (Tied n k (take reached.bound es)) some here

    short : length (take reached.bound es) ≤ length es
    short = omega (arith, length-take reached.bound es)

    under : i < reached.bound
    under = let below = there.0 in omega (arith, length-take reached.bound es)

    pub within : i < length es
    within = let below = there.0 in let few = short in omega arith

    module _ (e : Entry) (raw : e ≡ get_or es i e) where
      held : slice_get (take reached.bound es) i ≡ Some e
      held = slice_get_read (take reached.bound es) (length (take reached.bound es)) i e refl there.0 (raw ∙ sym (get_or-take reached.bound es i e under))

      before : take i (take reached.bound es) ≡ take i es
      before = take-take i reached.bound es (let u = under in omega arith)

      left_some : drop steps (versions_of n k es) ≡ e.version ∷ versions_of n k (take i es)
      left_some = reached.left ∙ (there.1 e held).2 ∙ ap (λ l. e.version ∷ versions_of n k l) before

      pub answer_here : slice_get (versions_of n k es) steps ≡ Some e.version
      answer_here = get_dropped steps (versions_of n k es) e.version (versions_of n k (take i es)) left_some

      pub reached_next : LinksNameOlder es → Reached n k es e.older (steps + 1)
      reached_next linked =
          let at = slice_get_read es (length es) i e refl within raw in
          let own = there.1 e held in
          record {
            bound = i;
            place_is = linked i e at ∙ ap (λ j. newest_place j e.key (take i es)) own.0 ∙ ap (λ j. newest_place n j (take i es)) own.1;
            left = drop_next steps (versions_of n k es) e.version (versions_of n k (take i es)) left_some;
          }
