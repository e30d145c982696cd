-- The run with a move that is half applied, step by step.
use Rattle.std.proofs.Common.{◌≡◌, ℕ, ◌<◌, true, List, [], ◌∷◌, refl, ap, inl, inr, le_refl, arith, lit<, lit≤}
use Rattle.history.specs.Table.{Version, version, newest}
use Rattle.history.specs.Protocol.{Search, Update, noted, noted_writer, chain, Event, begin, read_search, read_update, write, offer, yes_write, commit, learn_write, apply, Accepted, Reachable, start, then}
use Rattle.history.specs.Example.{two_nodes, slots, state_after, move_run, MoveHalfApplied}

-- the histories that it goes through
abbrev h₄ : List Event
h₄ = offer 1 ∷ write 1 1 71 ∷ write 1 0 70 ∷ begin 1 Update ∷ []

abbrev h₅ : List Event
h₅ = yes_write 1 0 1 ∷ h₄

abbrev h₆ : List Event
h₆ = yes_write 1 1 1 ∷ h₅

abbrev h₇ : List Event
h₇ = commit 1 1 (slots 1 1) ∷ h₆

abbrev h₈ : List Event
h₈ = learn_write 1 0 ∷ h₇

abbrev h₁₀ : List Event
h₁₀ = begin 2 Search ∷ apply 1 0 ∷ h₈

abbrev h₁₂ : List Event
h₁₂ = begin 3 Update ∷ read_search 2 0 0 (version 70 1) (slots 1 1) ∷ h₁₀

abbrev h₁₅ : List Event
h₁₅ = offer 3 ∷ write 3 0 80 ∷ read_update 3 0 0 (version 70 1) (slots 1 1) ∷ h₁₂

abbrev h₁₆ : List Event
h₁₆ = yes_write 3 0 3 ∷ h₁₅

abbrev h₁₇ : List Event
h₁₇ = commit 3 3 (slots 3 1) ∷ h₁₆

abbrev h₁₈ : List Event
h₁₈ = learn_write 3 0 ∷ h₁₇

abbrev h₁₉ : List Event
h₁₉ = apply 3 0 ∷ h₁₈

ok₅ : Accepted two_nodes 10 (state_after h₄) (yes_write 1 0 1)
ok₅ = grind arith

ok₆ : Accepted two_nodes 10 (state_after h₅) (yes_write 1 1 1)
ok₆ = grind arith

ok₇ : Accepted two_nodes 10 (state_after h₆) (commit 1 1 (slots 1 1))
ok₇ = record {
  offered = refl;
  agreed = refl;
  complete = λ p w. let a = w.1 in let b = w.2 in grind arith;
  stamped = λ p w. grind arith;
  unwritten = λ n. absurd (n 0 (0, refl, refl));
  slots = λ q. grind arith;
}

ok₉ : Accepted two_nodes 10 (state_after h₈) (apply 1 0)
ok₉ = grind arith

ok₁₁ : Accepted two_nodes 10 (state_after h₁₀) (read_search 2 0 0 (version 70 1) (slots 1 1))
ok₁₁ = grind arith

ok₁₃ : Accepted two_nodes 10 (state_after h₁₂) (read_update 3 0 0 (version 70 1) (slots 1 1))
ok₁₃ = grind arith

ok₁₆ : Accepted two_nodes 10 (state_after h₁₅) (yes_write 3 0 3)
ok₁₆ = record {
  vote = grind arith;
  current = λ k h e. noted_zero k e;
  write_node = (0, refl, refl);
  numbered = grind arith;
}
  where
    noted_zero : (k : ℕ) → noted (state_after h₁₅) 3 k ≡ true → noted_writer (state_after h₁₅) 3 k ≡ (newest (chain (state_after h₁₅) 0 k)).writer
    noted_zero k e = grind arith

ok₁₇ : Accepted two_nodes 10 (state_after h₁₆) (commit 3 3 (slots 3 1))
ok₁₇ = record {
  offered = refl;
  agreed = refl;
  complete = λ p w. let a = w.1 in let b = w.2 in grind arith;
  stamped = λ p w. grind arith;
  unwritten = λ n. absurd (n 0 (0, refl, refl));
  slots = λ q. grind arith;
}

ok₁₉ : Accepted two_nodes 10 (state_after h₁₈) (apply 3 0)
ok₁₉ = grind arith

-- the search reads again: what the second update wrote does not pass, so it gets the older version
ok₂₀ : Accepted two_nodes 10 (state_after h₁₉) (read_search 2 0 0 (version 70 1) (slots 1 1))
ok₂₀ = (
  record {
    open_now = refl;
    unwritten = refl;
    held = refl;
    settled = lit≤ tt;
    joined = grind arith;
    answer = inr ((λ v. let a = v 0 refl in absurd (omega arith)), inl ((λ q e. le_refl (slots 1 1 q)), refl));
  },
  refl,
)

run_accepted : Reachable two_nodes 10 move_run (state_after move_run)
run_accepted =
    then (read_search 2 0 0 (version 70 1) (slots 1 1))
    (then (apply 3 0)
    (then (learn_write 3 0)
    (then (commit 3 3 (slots 3 1))
    (then (yes_write 3 0 3)
    (then (offer 3)
    (then (write 3 0 80)
    (then (read_update 3 0 0 (version 70 1) (slots 1 1))
    (then (begin 3 Update)
    (then (read_search 2 0 0 (version 70 1) (slots 1 1))
    (then (begin 2 Search)
    (then (apply 1 0)
    (then (learn_write 1 0)
    (then (commit 1 1 (slots 1 1))
    (then (yes_write 1 1 1)
    (then (yes_write 1 0 1)
    (then (offer 1)
    (then (write 1 1 71)
    (then (write 1 0 70)
    (then (begin 1 Update) start
    (refl, lit< tt))
    (refl, refl, (0, refl)))
    (refl, refl, (1, refl)))
    (refl, refl))
    ok₅)
    ok₆)
    ok₇)
    (record { decided = refl; polled = (0, refl, refl); unlearned = refl }, (0, refl, refl)))
    ok₉)
    (refl, lit< tt))
    ok₁₁)
    (refl, lit< tt))
    ok₁₃)
    (refl, refl, (0, refl)))
    (refl, refl))
    ok₁₆)
    ok₁₇)
    (record { decided = refl; polled = (0, refl, refl); unlearned = refl }, (0, refl, refl)))
    ok₁₉)
    ok₂₀

-- node 1 applies the first update, and the search reads there
ok₂₂ : Accepted two_nodes 10 (state_after (learn_write 1 1 ∷ move_run)) (apply 1 1)
ok₂₂ = grind arith

ok₂₃ : Accepted two_nodes 10 (state_after (apply 1 1 ∷ learn_write 1 1 ∷ move_run)) (read_search 2 1 1 (version 71 1) (slots 1 1))
ok₂₃ = grind arith

pub move_half_applied : MoveHalfApplied
move_half_applied = record {
  accepted = run_accepted;
  both_committed = refl;
  conflicting = refl;
  chain_grew = refl;
  search_got = refl;
  between = (refl, (refl, (refl, tt)));
  not_first = λ p. below 0 (ap head_value p.1.1.0) (lit< tt);
  not_last = λ p. above 80 (ap head_value p.0) (lit< tt);
  behind = lit< tt;
  lacking = grind arith;
  put_off = λ k a c r. let e = r.settled in absurd (omega arith);
  other_half =
      then (read_search 2 1 1 (version 71 1) (slots 1 1))
      (then (apply 1 1)
      (then (learn_write 1 1) run_accepted (record { decided = refl; polled = (1, refl, refl); unlearned = refl }, (1, refl, refl)))
      ok₂₂)
      ok₂₃;
}
  where
    head_value : List Version → ℕ
    head_value [] = 0
    head_value (x ∷ l) = x.value

    below : (n : ℕ) → n ≡ 70 → n < 70 → ⊥
    below n e l = omega arith

    above : (n : ℕ) → n ≡ 70 → 70 < n → ⊥
    above n e l = omega arith
