-- The stamp of a commit and the commit clock, and how high they can be.
use Rattle.std.proofs.Common.{◌≡◌, ℕ, zero, suc, ◌+◌, ◌^◌, ◌<◌, ◌≤◌, max, Bool, true, cond, ltb, List, [], map, get_or, Some, None, Option, sym, refl, ap, ◌∙◌, subst, arith, ⊎_elim}
use Rattle.std.proofs.lemmas.List.FromFn.{fill_by_all}
use Rattle.std.proofs.lemmas.Bool.{cases_eq, cond-true, cond_both, lt-ltb}
use Rattle.std.specs.Array.{IsFromFnResult, IsFromFnResultFrom}
use Rattle.std.specs.Fn.{Called}
use Rattle.std.specs.List.{range_with_len}
use denote.Param.Members.{Mut}
use Rattle.clock.specs.Clocks.{slot}
use Rattle.clock.specs.Numbers.{highest, stamp_number, if_fits}
use Rattle.clock.proofs.Least.{highest_below, some_leaves, least_leaving}
use Rattle.store.specs.Model.{fresh}
use Rattle.rules.specs.declared.records.Transaction.{Transaction}
use Rattle.rules.specs.World.{World, bit, is_write_node, some_below}
use Rattle.rules.specs.Changes.{is_committed}
use Rattle.rules.specs.Deciding.{base_clock, stamp_of, stamped}
use Rattle.records.specs.Bounds.{ClockWithin}
use Rattle.records.proofs.Bounded.{made_within, join_within}

-- The stamp is less than 256 above the highest number that it has to pass.
stamp_within : (b : ℕ) (numbers base : List ℕ) (t : ℕ) → t < 256 → ClockWithin b numbers → ClockWithin b base → stamp_number 256 numbers base t ≤ b + 256
stamp_within b numbers base t small low high =
    let from : ℕ = max (highest numbers) (highest base + 1) in
    let some = some_leaves 256 t from small in
    let least = (least_leaving 256 t from small).least some.0 (some.1, some.3) in
    let near = some.2 in
    let p = highest_below numbers b (λ i l. low i) in
    let q = highest_below base b (λ i l. high i) in
    omega arith

-- The commit clock is made so.
stamped_within : (w : World) (x : Transaction) (number b : ℕ) → number ≤ b → ClockWithin b x.clock → ClockWithin b x.votes → ClockWithin b (stamped w x number)
unfolding stamped
stamped_within w x number b low clock votes =
    let base : ClockWithin b (base_clock x) = join_within b x.clock x.votes clock votes in
    made_within b (λ q. cond (is_write_node w x q) number (slot (base_clock x) q))
    (λ q. cond_both (is_write_node w x q) number (slot (base_clock x) q) (λ (n : ℕ). n ≤ b) (λ e. low) (λ e. base q))

module _ (w : World) (t : ℕ) (x : Transaction) where
  -- The update, committed.
  abbrev committed : Transaction
  committed = is_committed (stamp_of w t x) (stamped w x (stamp_of w t x)) x

  -- Under a bound on the numbers of the update it fits.
  module _ (b : ℕ) (small : t < 256) (clock : ClockWithin b x.clock) (numbers : ClockWithin b x.numbers) (votes : ClockWithin b x.votes) where
    stamp_low : stamp_of w t x ≤ b + 256
    stamp_low =
        cond_both (some_below 8 (is_write_node w x)) (stamp_number 256 x.numbers (base_clock x) t) 0 (λ (n : ℕ). n ≤ b + 256)
        (λ e. stamp_within b x.numbers (base_clock x) t small numbers (join_within b x.clock x.votes clock votes)) (λ e. omega arith)

    fits : b + 256 < 2 ^ 32 → ltb (stamp_of w t x) (2 ^ 32) ≡ true
    fits room = let low = stamp_low in lt-ltb (stamp_of w t x) (2 ^ 32) (omega arith)

    pub stamp_there : (o : Option ℕ) → b + 256 < 2 ^ 32 → o ≡ if_fits (stamp_of w t x) → (o ≡ Some (stamp_of w t x)) × (stamp_of w t x ≤ b + 256)
    stamp_there o room told = (told ∙ cond-true (ltb (stamp_of w t x) (2 ^ 32)) (Some (stamp_of w t x)) None (fits room), stamp_low)

    pub committed_there : (o : Option ℕ) (y : Transaction) → b + 256 < 2 ^ 32 → o ≡ if_fits (stamp_of w t x) → y ≡ cond (ltb (stamp_of w t x) (2 ^ 32)) committed x → (o ≡ Some (stamp_of w t x)) × (y ≡ committed) × (stamp_of w t x ≤ b + 256) × ((q : ℕ) → slot (stamped w x (stamp_of w t x)) q ≤ b + 256)
    committed_there o y room told is = (
      (stamp_there o room told).0,
      is ∙ cond-true (ltb (stamp_of w t x) (2 ^ 32)) committed x (fits room),
      stamp_low,
      stamped_within w x (stamp_of w t x) (b + 256) stamp_low (λ q. let l = clock q in omega arith) (λ q. let l = votes q in omega arith),
    )

-- What an array is whose elements a closure computes from their places.
made_by : {F : Type 0} {g : Mut F (ℕ × Unit {0}) ℕ} {f : F} (h : ℕ → ℕ) (ys : List ℕ) (d n i : ℕ) → IsFromFnResultFrom g f ys i n → ((k y : ℕ) (q : F) → k < i + n → Called g f (k, tt) y q → (q ≡ f) × (y ≡ h k)) → (k : ℕ) → i ≤ k → k < i + n → get_or ys k d ≡ h k
made_by h ys d zero i made computes k low high = absurd (omega arith)
made_by {F} {g} {f} h ys d (suc n) i (q, y, here, called, rest) computes k low high =
    let first = computes i y q (omega arith) called in
    ⊎_elim
    (λ (e : i ≡ k). rw (← e) (here.1 d ∙ first.1))
    (λ (ne : i ≡ k → ⊥).
    made_by {g = g} h ys d n (i + 1) (subst (λ (p : F). IsFromFnResultFrom g p ys (i + 1) n) first.0 rest) (λ j z p l c. computes j z p (omega arith) c) k (omega arith) (omega arith))
    (cases_eq i k)

made_all : {F : Type 0} {g : Mut F (ℕ × Unit {0}) ℕ} {f : F} (h : ℕ → ℕ) (ys : List ℕ) → IsFromFnResult g f ys 8 → ((k y : ℕ) (q : F) → k < 8 → Called g f (k, tt) y q → (q ≡ f) × (y ≡ h k)) → ys ≡ map h (range_with_len 0 8)
made_all {g = g} h ys made computes =
    fill_by_all h ys 8 0 made.long (λ k l. made_by {g = g} h ys 0 8 0 made.each computes k (omega arith) l)

-- The commit clock, where a closure computes its slots from the byte of the write nodes and from the base.
pub stamped_by : {F : Type 0} {g : Mut F (ℕ × Unit {0}) ℕ} {f : F} (w : World) (x : Transaction) (number nodes : ℕ) (base commit : List ℕ) → ((q : ℕ) → bit nodes q ≡ is_write_node w x q) → base ≡ base_clock x → IsFromFnResult g f commit 8 → ((k y : ℕ) (q : F) → k < 8 → Called g f (k, tt) y q → (q ≡ f) × (y ≡ cond (bit nodes k) number (slot base k))) → commit ≡ stamped w x number
unfolding stamped
stamped_by {g = g} w x number nodes base commit named is made computes =
    made_all {g = g} (λ k. cond (is_write_node w x k) number (slot (base_clock x) k)) commit made
    (λ k y q l called.
    let slots = computes k y q l called in (
      slots.0,
      slots.1 ∙ ap (λ (b : Bool). cond b number (slot base k)) (named k) ∙ ap (λ (clock : List ℕ). cond (is_write_node w x k) number (slot clock k)) is,
    ))

-- A world with this placement, and nothing else.
abbrev placed : List ℕ → World
placed placement = record { nodes = []; transactions = []; placement = placement; store = fresh }

pub commit_within : (placement : List ℕ) (x : Transaction) (number : ℕ) (commit : List ℕ) → ((w : World) → w.placement ≡ placement → commit ≡ stamped w x number) → (b : ℕ) → number ≤ b → ClockWithin b x.clock → ClockWithin b x.votes → (q : ℕ) → slot commit q ≤ b
commit_within placement x number commit is b low clock votes =
    subst (ClockWithin b) (sym (is (placed placement) refl)) (stamped_within (placed placement) x number b low clock votes)
