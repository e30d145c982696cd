use Rattle.std.proofs.Common.{◌≡◌, ℕ, ◌+◌, ◌-◌, ◌<◌, List, [], ◌∷◌, map, slice_index_or, sym, refl, ap, ◌∙◌, arith, lit<}
use Rattle.std.specs.List.{range_with_len}
use Rattle.std.proofs.lemmas.List.FromFn.{get_or-range_with_len}
use Rattle.std.proofs.lemmas.List.{get_or-map}
use Rattle.calls.specs.declared.refusal.Refusal.{Refusal}
use Rattle.calls.specs.declared.refusal.Refusal.TheVariants.{MakeOutOfBounds, NoSuchTransaction, NoSuchNode, NoSuchKey, KeyNotHeld, UnreadableTape, BadRecord, MakeOutOfOrder, TapeFull, NumbersUsedUp, WrongState, NotYet, Overtaken, TooManyKeysRead, TooManyKeysWritten, NotPolled, AlreadyDone, Busy, VotesOutstanding, NothingToApply, NotLearned}
use Rattle.calls.specs.Refusals.{number, NumbersPairOff}

-- the refusals in the order of their numbers
abbrev ranked : List Refusal
ranked =
    MakeOutOfBounds ∷ NoSuchTransaction ∷ NoSuchNode ∷ NoSuchKey ∷ KeyNotHeld
    ∷ UnreadableTape ∷ BadRecord ∷ MakeOutOfOrder ∷ TapeFull ∷ NumbersUsedUp
    ∷ WrongState ∷ NotYet ∷ Overtaken ∷ TooManyKeysRead ∷ TooManyKeysWritten
    ∷ NotPolled ∷ AlreadyDone ∷ Busy ∷ VotesOutstanding ∷ NothingToApply
    ∷ NotLearned ∷ []

abbrev at : ℕ → Refusal
at i = slice_index_or ranked i MakeOutOfBounds

-- each refusal stands in that list one place below its number
standing : (a : Refusal) → (i : ℕ) × (i < 21) × (at i ≡ a) × (number a ≡ i + 1)
standing MakeOutOfBounds = (0, lit< tt, refl, refl)
standing NoSuchTransaction = (1, lit< tt, refl, refl)
standing NoSuchNode = (2, lit< tt, refl, refl)
standing NoSuchKey = (3, lit< tt, refl, refl)
standing KeyNotHeld = (4, lit< tt, refl, refl)
standing UnreadableTape = (5, lit< tt, refl, refl)
standing BadRecord = (6, lit< tt, refl, refl)
standing MakeOutOfOrder = (7, lit< tt, refl, refl)
standing TapeFull = (8, lit< tt, refl, refl)
standing NumbersUsedUp = (9, lit< tt, refl, refl)
standing WrongState = (10, lit< tt, refl, refl)
standing NotYet = (11, lit< tt, refl, refl)
standing Overtaken = (12, lit< tt, refl, refl)
standing TooManyKeysRead = (13, lit< tt, refl, refl)
standing TooManyKeysWritten = (14, lit< tt, refl, refl)
standing NotPolled = (15, lit< tt, refl, refl)
standing AlreadyDone = (16, lit< tt, refl, refl)
standing Busy = (17, lit< tt, refl, refl)
standing VotesOutstanding = (18, lit< tt, refl, refl)
standing NothingToApply = (19, lit< tt, refl, refl)
standing NotLearned = (20, lit< tt, refl, refl)

in_order : map number ranked ≡ range_with_len 1 21
in_order = refl

number_at : (i : ℕ) → i < 21 → number (at i) ≡ 1 + i
number_at i h = sym (get_or-map number ranked i MakeOutOfBounds 0 h) ∙ ap (λ xs. slice_index_or xs i 0) in_order ∙ get_or-range_with_len 1 21 i 0 h

pub numbers_pair_off : NumbersPairOff
numbers_pair_off = record {
  within = λ a. let s = standing a in (omega (arith, s.1, s.3), omega (arith, s.1, s.3));
  apart = λ a b e.
      let s = standing a in
      let t = standing b in
      let same : s.0 ≡ t.0 = omega (arith, s.3, t.3, e) in
      sym s.2 ∙ ap at same ∙ t.2;
  every = λ n low high. (at (n - 1), number_at (n - 1) (omega arith) ∙ omega arith);
}
