-- Whether a tape has room, as the room is taken up record by record.
use Rattle.std.proofs.Common.{◌≡◌, ℕ, ◌+◌, ◌<◌, ◌≤◌, nat_le, List, [], ◌∷◌, map, length, Option, Some, None, is_some, sym, refl, ap, subst, arith, Bor}
use Rattle.std.proofs.lemmas.Bool.{le-leb, lt-leb}
use Rattle.std.proofs.lemmas.List.{length-append}
use Rattle.std.specs.Fn.{Called}
use Rattle.std.specs.Option.{MatchOption}
use Rattle.std.specs.List.{FoldsTo}
use Rattle.std.specs.Iterator.{AlwaysYields, Yields, TryFoldTurn, TryFoldsItems}
use Rattle.std.specs.ControlFlow.{continue_value}
use Rattle.std.specs.declared.ops.ControlFlow.{ControlFlow}
use denote.Param.Members.{Mut}
use Rattle.std.proofs.lemmas.Iterator.{YieldsList}
use Rattle.calls.specs.declared.call.Call.{Call}
use Rattle.calls.specs.Requests.{request}
use Rattle.tape.specs.Layout.{record_of, tape_of}

abbrev size : Call → ℕ
size call = length (record_of (request call))

abbrev total : List Call → ℕ
total calls = length (tape_of (map request calls))

total_more : (call : Call) (calls : List Call) → total (call ∷ calls) ≡ size call + total calls
total_more call calls = length-append (record_of (request call)) (tape_of (map request calls))

-- r is what is left of a room behind the tape of some calls, if it has room
abbrev Left : Option ℕ → ℕ → List Call → Type 0
Left r room calls = MatchOption r (room < total calls) (λ _. total calls ≤ room)

left_more : (r : Option ℕ) (room rest : ℕ) (call : Call) (calls : List Call) → rest + size call ≡ room → Left r rest calls → Left r room (call ∷ calls)
left_more None room rest call calls e h = omega (arith, total_more call calls, e, h)
left_more (Some b) room rest call calls e h = omega (arith, total_more call calls, e, h)

module _ {S F : Type 0} (E : Type 0) (steps : S → Option (Bor Call) → S → Type 0) (g : Mut F (ℕ × (Bor Call × Unit {0})) (Option ℕ)) (f : F)
    (takes : (a : ℕ) (x : Bor Call) (v : Option ℕ) (h : F) → Called g f (a, (x, tt)) v h → (h ≡ f) × MatchOption v (a < size x.now) (λ b. b + size x.now ≡ a)) where
  taken : (calls : List Call) (xs : List (Bor Call)) (o : Option (Bor Call)) (s t u : S) (p q : F × ℕ) (r : Option ℕ)
      → p.0 ≡ f → AlwaysYields steps (λ y. y.now) s calls → Yields steps s xs t → steps t o u
      → FoldsTo {P = F × ℕ} (TryFoldTurn g (λ v (c : ControlFlow E ℕ). v ≡ continue_value c)) p xs q
      → MatchOption o (r ≡ Some q.1) (λ x. (v : Option ℕ) × (h : F) × (e : E) × Called g q.0 (q.1, (x, tt)) v h × (v ≡ None) × (r ≡ None))
      → Left r p.1 calls
  taken [] [] None s t u p q r k e y w d m = subst (λ x. Left x p.1 []) (sym m) (omega arith)
  taken [] [] (Some x) s t u p q r k e y w d m = absurd (e x u (subst (λ i. steps i (Some x) u) (sym y) w))
  taken [] (x ∷ xs) o s t u p q r k e y w d m = absurd (e x y.0 y.1)
  taken (call ∷ calls) [] None s t u p q r k e y w d m = absurd (e.0 u (subst (λ i. steps i None u) (sym y) w))
  taken (call ∷ calls) [] (Some x) s t u p q r k e y w d m =
      let here = e.1 x u (subst (λ i. steps i (Some x) u) (sym y) w) in
      let stopped : Called g f (p.1, (x, tt)) m.0 m.1 =
      subst (λ i. Called g i (p.1, (x, tt)) m.0 m.1) k (subst (λ (i : F × ℕ). Called g i.0 (i.1, (x, tt)) m.0 m.1) (sym d) m.3) in
      let small : p.1 < size x.now = subst (λ v. MatchOption v (p.1 < size x.now) (λ b. b + size x.now ≡ p.1)) m.4 (takes p.1 x m.0 m.1 stopped).1 in
      subst (λ v. Left v p.1 (call ∷ calls)) (sym m.5) (omega (arith, small, ap size here.0, total_more call calls))
  taken (call ∷ calls) (x ∷ xs) o s t u p q r k e y w d m =
      let here = e.1 x y.0 y.1 in
      let turn = d.1 in
      let one = takes p.1 x turn.0 d.0.0 (subst (λ i. Called g i (p.1, (x, tt)) turn.0 d.0.0) k turn.1) in
      let fits : d.0.1 + size x.now ≡ p.1 = subst (λ v. MatchOption v (p.1 < size x.now) (λ b. b + size x.now ≡ p.1)) turn.2 one.1 in
      left_more r p.1 d.0.1 call calls (omega (arith, fits, ap size here.0)) (taken calls xs o y.0 t u d.0 q r one.0 here.1 y.2 w d.2 m)

decided : (r : Option ℕ) (room : ℕ) (calls : List Call) → Left r room calls → is_some r ≡ nat_le (total calls) room
decided None room calls h = sym (lt-leb (total calls) room h)
decided (Some b) room calls h = sym (le-leb (total calls) room h)

-- `try_fold` over some calls, each of which takes what is left down by its record
module _ {S F : Type 0} (E : Type 0) (steps : S → Option (Bor Call) → S → Type 0) (g : Mut F (ℕ × (Bor Call × Unit {0})) (Option ℕ)) (f : F) where
  pub room_from_try_fold : (s u : S) (room : ℕ) (r : Option ℕ) (calls : List Call)
      → TryFoldsItems steps g (λ v (c : ControlFlow E ℕ). v ≡ continue_value c) (λ _ v. v ≡ None) s f room r u → YieldsList steps (λ y. y.now) s calls
      → ((a : ℕ) (x : Bor Call) (v : Option ℕ) (h : F) → Called g f (a, (x, tt)) v h → (h ≡ f) × MatchOption v (a < size x.now) (λ b. b + size x.now ≡ a))
      → is_some r ≡ nat_le (total calls) room
  room_from_try_fold s u room r calls d e takes =
      decided r room calls (taken E steps g f takes calls d.0 d.1 s d.4.0 u (f, room) (d.2, d.3) r refl e.runs d.4.1 d.4.2 d.5 d.6)
