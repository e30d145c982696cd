-- Lemmas on several keys of one node.
use Rattle.std.proofs.Common.{◌≡◌, ℕ, ◌+◌, ◌-◌, ◌<◌, Bool, true, false, cond, ◌&&◌, eqb, List, [], ◌∷◌, ◌++◌, length, get_or, take, drop, Ok, Err, Result, sym, refl, ap, ◌∙◌, arith}
use mathlib.Core.Path.{fun_ext}
use Rattle.std.proofs.lemmas.List.{take_more, drop_more, take-append-drop}
use Rattle.std.proofs.lemmas.Bool.Decides.{nat_tests}
use Rattle.std.proofs.lemmas.Bool.{cond-true, cond-false}
use Rattle.store.specs.Model.{Chain, Meaning, FreeRule, in_range, with_chain, one_aside, aside_granted, aside_after, back_after}
use Rattle.store.specs.Batch.{asked, all_aside, all_back, first_refused}

-- A chain with another number of places set aside.
abbrev holding : Chain → ℕ → Chain
holding c a = record { versions = c.versions; aside = a }

pub asked_push : (ks : List ℕ) (k j : ℕ) → asked (ks ++ k ∷ []) j ≡ asked ks j + cond (eqb k j) 1 0
unfolding asked
asked_push [] k j = grind (arith, nat_tests)
asked_push (i ∷ is) k j = let rest = asked_push is k j in grind (arith, nat_tests)

-- No keys change nothing.
none_at : (b : Bool) (c : Chain) (a : ℕ) → a ≡ c.aside → cond b (holding c a) c ≡ c
none_at true c a e = ap (holding c) e
none_at false c a e = refl

pub aside_none : (m : Meaning) (node : ℕ) → all_aside m node [] ≡ m
unfolding asked
aside_none m node = fun_ext (λ n. fun_ext (λ k. none_at (eqb n node && in_range n k) (m n k) ((m n k).aside + 0) (omega arith)))

pub back_none : (m : Meaning) (node : ℕ) → all_back m node [] ≡ m
unfolding asked
back_none m node = fun_ext (λ n. fun_ext (λ k. none_at (eqb n node && in_range n k) (m n k) ((m n k).aside - 0) (omega arith)))

-- What was set aside for the keys and is given back for them leaves the meaning as it was.
undone_at : (b : Bool) (c : Chain) (a : ℕ) → cond b (holding (cond b (holding c (c.aside + a)) c) ((cond b (holding c (c.aside + a)) c).aside - a)) (cond b (holding c (c.aside + a)) c) ≡ c
undone_at true c a = ap (holding c) (omega arith)
undone_at false c a = refl

pub undone : (m : Meaning) (node : ℕ) (ks : List ℕ) → all_back (all_aside m node ks) node ks ≡ m
undone m node ks = fun_ext (λ n. fun_ext (λ k. undone_at (eqb n node && in_range n k) (m n k) (asked ks k)))

-- One key more at the end of the list, given back.
back_push_at : (m : Meaning) (node : ℕ) (ks : List ℕ) (key n k : ℕ) → back_after (all_back m node ks) node key n k ≡ all_back m node (ks ++ key ∷ []) n k
back_push_at m node ks key n k = let more = asked_push ks key k in grind (arith, nat_tests)

pub back_push : (m : Meaning) (node : ℕ) (ks : List ℕ) (key : ℕ) → back_after (all_back m node ks) node key ≡ all_back m node (ks ++ key ∷ [])
back_push m node ks key = fun_ext (λ n. fun_ext (λ k. back_push_at m node ks key n k))

-- A turn of the loop that gives back.
pub back_more : (m : Meaning) (node : ℕ) (ks : List ℕ) (i : ℕ) → i < length ks → back_after (all_back m node (take i ks)) node (get_or ks i 0) ≡ all_back m node (take (i + 1) ks)
back_more m node ks i within = back_push m node (take i ks) (get_or ks i 0) ∙ ap (all_back m node) (sym (take_more ks i 0 within))

-- One key more at the end of the list, set aside.
aside_push_at : (m : Meaning) (node : ℕ) (ks : List ℕ) (key : ℕ) → in_range node key ≡ true → (n k : ℕ) → with_chain (all_aside m node ks) node key (one_aside (all_aside m node ks node key)) n k ≡ all_aside m node (ks ++ key ∷ []) n k
aside_push_at m node ks key r n k = let more = asked_push ks key k in grind (arith, nat_tests)

-- One key more in front of the list.
aside_cons_at : (m : Meaning) (node key : ℕ) (ks : List ℕ) → in_range node key ≡ true → (n k : ℕ) → all_aside (with_chain m node key (one_aside (m node key))) node ks n k ≡ all_aside m node (key ∷ ks) n k
unfolding asked
aside_cons_at m node key ks r n k = grind (arith, nat_tests)

ok_parts : (b : Bool) (x : Result (Unit {0}) ℕ) (e : ℕ) → cond b x (Err e) ≡ Ok tt → (b ≡ true) × (x ≡ Ok tt)
ok_parts true x e h = (refl, h)
ok_parts false x e h = let z : ◌≡◌ {A = ℕ} 0 1 = cc in absurd (omega arith)

module _ (free : FreeRule) (node : ℕ) where
  within : (m : Meaning) (key : ℕ) → aside_granted free m node key ≡ true → in_range node key ≡ true
  within m key granted = grind (arith, nat_tests)

  aside_cons : (m : Meaning) (key : ℕ) (ks : List ℕ) → aside_granted free m node key ≡ true → all_aside (aside_after free m node key) node ks ≡ all_aside m node (key ∷ ks)
  aside_cons m key ks granted =
      ap (λ w. all_aside w node ks) (cond-true (aside_granted free m node key) (with_chain m node key (one_aside (m node key))) m granted)
      ∙ fun_ext (λ n. fun_ext (λ k. aside_cons_at m node key ks (within m key granted) n k))

  aside_push : (m : Meaning) (ks : List ℕ) (key : ℕ) → aside_granted free (all_aside m node ks) node key ≡ true → aside_after free (all_aside m node ks) node key ≡ all_aside m node (ks ++ key ∷ [])
  aside_push m ks key granted =
      let w : Meaning = all_aside m node ks in
      cond-true (aside_granted free w node key) (with_chain w node key (one_aside (w node key))) w granted
      ∙ fun_ext (λ n. fun_ext (λ k. aside_push_at m node ks key (within w key granted) n k))

  -- Where the keys before are granted, the answer is that of the keys after them.
  refused_on : (m : Meaning) (ks : List ℕ) (key : ℕ) (rest : List ℕ) → first_refused free m node ks ≡ Ok tt → first_refused free m node (ks ++ key ∷ rest) ≡ cond (aside_granted free (all_aside m node ks) node key) (first_refused free (aside_after free (all_aside m node ks) node key) node rest) (Err key)
  unfolding first_refused
  refused_on m [] key rest so_far =
      ap (λ w. cond (aside_granted free w node key) (first_refused free (aside_after free w node key) node rest) (Err key)) (sym (aside_none m node))
  refused_on m (j ∷ js) key rest so_far =
      let p = ok_parts (aside_granted free m node j) (first_refused free (aside_after free m node j) node js) j so_far in
      cond-true (aside_granted free m node j) (first_refused free (aside_after free m node j) node (js ++ key ∷ rest)) (Err j) p.0
      ∙ refused_on (aside_after free m node j) js key rest p.1
      ∙ ap (λ w. cond (aside_granted free w node key) (first_refused free (aside_after free w node key) node rest) (Err key)) (aside_cons m j js p.0)

split_at : (ks : List ℕ) (i : ℕ) → i < length ks → ks ≡ take i ks ++ get_or ks i 0 ∷ drop (i + 1) ks
split_at ks i within = sym (take-append-drop i ks) ∙ ap (λ r. take i ks ++ r) (drop_more ks i 0 within)

-- A turn of the loop that sets aside.
module _ (free : FreeRule) (node : ℕ) (m w : Meaning) (ks : List ℕ) (i : ℕ) (inside : i < length ks) (w_is : w ≡ all_aside m node (take i ks)) (so_far : first_refused free m node (take i ks) ≡ Ok tt) where
  here : (rest : List ℕ) → first_refused free m node (take i ks ++ get_or ks i 0 ∷ rest) ≡ cond (aside_granted free w node (get_or ks i 0)) (first_refused free (aside_after free w node (get_or ks i 0)) node rest) (Err (get_or ks i 0))
  here rest =
      refused_on free node m (take i ks) (get_or ks i 0) rest so_far
      ∙ ap (λ v. cond (aside_granted free v node (get_or ks i 0)) (first_refused free (aside_after free v node (get_or ks i 0)) node rest) (Err (get_or ks i 0))) (sym w_is)

  pub aside_more : aside_granted free w node (get_or ks i 0) ≡ true → aside_after free w node (get_or ks i 0) ≡ all_aside m node (take (i + 1) ks)
  aside_more granted =
      ap (λ v. aside_after free v node (get_or ks i 0)) w_is
      ∙ aside_push free node m (take i ks) (get_or ks i 0) (ap (λ v. aside_granted free v node (get_or ks i 0)) (sym w_is) ∙ granted)
      ∙ ap (all_aside m node) (sym (take_more ks i 0 inside))

  pub granted_more : aside_granted free w node (get_or ks i 0) ≡ true → first_refused free m node (take (i + 1) ks) ≡ Ok tt
  unfolding first_refused
  granted_more granted =
      ap (first_refused free m node) (take_more ks i 0 inside) ∙ here []
      ∙ cond-true (aside_granted free w node (get_or ks i 0)) (Ok tt) (Err (get_or ks i 0)) granted

  pub refused_here : aside_granted free w node (get_or ks i 0) ≡ false → first_refused free m node ks ≡ Err (get_or ks i 0)
  refused_here refused =
      ap (first_refused free m node) (split_at ks i inside) ∙ here (drop (i + 1) ks)
      ∙ cond-false (aside_granted free w node (get_or ks i 0)) (first_refused free (aside_after free w node (get_or ks i 0)) node (drop (i + 1) ks)) (Err (get_or ks i 0)) refused

  -- After a refusal, what was set aside is given back.
  pub as_before : (v : Meaning) → aside_granted free w node (get_or ks i 0) ≡ false → v ≡ aside_after free w node (get_or ks i 0) → all_back v node (take i ks) ≡ m
  as_before v refused v_is =
      ap (λ x. all_back x node (take i ks)) (v_is ∙ cond-false (aside_granted free w node (get_or ks i 0)) (with_chain w node (get_or ks i 0) (one_aside (w node (get_or ks i 0)))) w refused ∙ w_is)
      ∙ undone m node (take i ks)

-- What the loop that sets aside needs of a turn.
pub ruleset aside_turn = (aside_more, granted_more, refused_here, as_before)
