-- The stamps in the clocks: clocks are only ever joined whole, so every slot of a clock names a committed update that is within it.
use Rattle.std.proofs.Common.{◌≡◌, ℕ, ◌≤◌, max, true, false, ◌⊎◌, sym, ap, ◌∙◌, inl, inr, arith, ◌==◌}
use Rattle.std.proofs.lemmas.Bool.{cases_eq, cases_lt, both_ways, cond_both}
use Rattle.history.specs.Table.{Version, update_at}
use Rattle.history.specs.Protocol.{Placement, Clock, join, Offered, Committed, State, status, clock, read_at, wrote, vote_clock, stamp, commit_clock, seen, base_clock, sees, change_node, Event, read_search, read_update, yes_write, yes_read, commit, learn_read, apply, Joined, WriteNode, MayRead, next, Accepted, Status, becomes, change_transaction}
use Rattle.history.proofs.Basics.{update_at₂, same, other₂, slot}
use Rattle.history.proofs.Locks.{Locks, Moves}
use Rattle.history.proofs.Numbers.{commit_above}

each_clock : (Q : Clock → Type 0) (f : ℕ → Clock) (t : ℕ) (c : Clock) → ((x : ℕ) → Q (f x)) → Q c → (x : ℕ) → Q (update_at f t c x)
each_clock Q f t c g h x = cond_both (t == x) c (f x) Q (λ _. h) (λ _. g x)

max_either : (a b : ℕ) → (max a b ≡ a) ⊎ (max a b ≡ b)
max_either a b = elim (cases_lt a b) [ inl h ↦ inr (omega arith) | inr h ↦ inl (omega arith) ]

module _ (holds : Placement) (modulus : ℕ) where
  -- every slot of the clock is 0, or the stamp of a committed update that writes there and whose whole commit clock is below the clock
  abbrev pub Stamped : State → Clock → Type 0
  Stamped s x = (q : ℕ) → (x q ≡ 0) ⊎ ((u : ℕ) × (status s u ≡ Committed) × WriteNode holds s u q × (x q ≡ stamp s u) × ((r : ℕ) → commit_clock s u r ≤ x r))

  abbrev pub Stamps : State → Type 0
  Stamps s = record {
    -- A clock starts at 0 and is joined with other such clocks; a commit clock moreover has its own stamp at its write nodes.
    -- Old versions may be dropped because of this: a version whose commit clock is at or below every frontier passes for all that begin later.
    clock_stamped : (t : ℕ) → Stamped s (clock s t);
    seen_stamped : (p : ℕ) → Stamped s (seen s p);
    vote_stamped : (t : ℕ) → Stamped s (vote_clock s t);
    commit_stamped : (u : ℕ) → Stamped s (commit_clock s u);
    -- Only a read raises a transaction's clock, and it reads at a holder.
    unread_zero : (t q : ℕ) → ((p : ℕ) → read_at s t p ≡ false) → clock s t q ≡ 0;
    read_held : (t q : ℕ) → read_at s t q ≡ true → (k : ℕ) × (holds q k ≡ true);
  }

  stamped_join : (s : State) (x y : Clock) → Stamped s x → Stamped s y → Stamped s (join x y)
  stamped_join s x y f g q = elim (max_either (x q) (y q)) [
    | inl e ↦ elim (f q) [
      | inl z ↦ inl (e ∙ z)
      | inr w ↦ inr (w.0, w.1, w.2, e ∙ w.3, λ r. let a = w.4 r in omega arith)
    ]
    | inr e ↦ elim (g q) [
      | inl z ↦ inl (e ∙ z)
      | inr w ↦ inr (w.0, w.1, w.2, e ∙ w.3, λ r. let a = w.4 r in omega arith)
    ]
  ]

  -- a slot that a clock takes over from one below it
  stamped_above : (s : State) (x y : Clock) (q : ℕ) → ((r : ℕ) → x r ≤ y r) → y q ≡ x q →
      ((x q ≡ 0) ⊎ ((u : ℕ) × (status s u ≡ Committed) × WriteNode holds s u q × (x q ≡ stamp s u) × ((r : ℕ) → commit_clock s u r ≤ x r))) →
      (y q ≡ 0) ⊎ ((u : ℕ) × (status s u ≡ Committed) × WriteNode holds s u q × (y q ≡ stamp s u) × ((r : ℕ) → commit_clock s u r ≤ y r))
  stamped_above s x y q le e f = grind arith

  -- the committed stay as they are
  abbrev Keeps : State → State → Type 0
  Keeps s r = (u : ℕ) → status s u ≡ Committed →
      (status r u ≡ Committed) × (stamp s u ≡ stamp r u) × ((q : ℕ) → commit_clock r u q ≡ commit_clock s u q) × ((k : ℕ) → wrote s u k ≡ true → wrote r u k ≡ true)

  stamped_kept : (s r : State) (x : Clock) → Keeps s r → Stamped s x → Stamped r x
  stamped_kept s r x f g q = grind arith

  move_keeps : (s : State) (t : ℕ) (y : Status) → Moves holds modulus s t y → Keeps s (change_transaction t (becomes y) s)
  move_keeps s t y m u c = grind arith

  commit_keeps : (s : State) (t n : ℕ) (c : Clock) → status s t ≡ Offered → Keeps s (next holds s (commit t n c))
  commit_keeps s t n c o u e = grind arith

  commit_new : (s : State) (t n : ℕ) (c : Clock) → Stamps s → Accepted holds modulus s (commit t n c) → Stamped (next holds s (commit t n c)) c
  commit_new s t n c i ok q = elim (ok.slots q) [
    | inl x ↦ inr (t, same (status s) t Committed, x.0, x.1 ∙ sym (same (stamp s) t n), λ r. let e = ap (λ (f : Clock). f r) (same (commit_clock s) t c) in omega arith)
    | inr x ↦ stamped_above (next holds s (commit t n c)) (base_clock s t) c q (commit_above holds modulus s t n c ok) x.1
        (stamped_kept s (next holds s (commit t n c)) (base_clock s t) (commit_keeps s t n c ok.offered) (stamped_join s (clock s t) (vote_clock s t) (i.clock_stamped t) (i.vote_stamped t)) q)
  ]

  read_stamped : (s : State) (t p : ℕ) (c : Clock) → Stamps s → Joined s t p c → Stamped s c
  read_stamped s t p c i j q = grind arith

  read_unread_zero : (s : State) (t p : ℕ) (c : Clock) → Stamps s → (x q : ℕ) → ((z : ℕ) → update_at₂ (read_at s) t p true x z ≡ false) →
      update_at (clock s) t c x q ≡ 0
  read_unread_zero s t p c i x q n = elim (cases_eq x t) [
    | inl e ↦ absurd (both_ways (update_at₂ (read_at s) t p true x p) (n p) (at_last e))
    | inr d ↦ slot (clock s) t c x q d ∙ i.unread_zero x q (λ z. sym (other₂ (read_at s) t p true x z d) ∙ n z)
  ]
    where
      at_last : x ≡ t → update_at₂ (read_at s) t p true x p ≡ true
      at_last e = grind arith

  stamps_move : (s : State) (t : ℕ) (y : Status) → Moves holds modulus s t y → Stamps s → Stamps (change_transaction t (becomes y) s)
  stamps_move s t y m i = grind arith

  stamps_read : (s : State) (t k p : ℕ) (a : Version) (c : Clock) → Stamps s → MayRead holds s t k p a c → Stamps (next holds s (read_search t k p a c))
  stamps_read s t k p a c i ok = record {
    clock_stamped = each_clock (Stamped s) (clock s) t c i.clock_stamped (read_stamped s t p c i ok.joined);
    seen_stamped = i.seen_stamped;
    vote_stamped = i.vote_stamped;
    commit_stamped = i.commit_stamped;
    unread_zero = read_unread_zero s t p c i;
    read_held = λ x q r. grind arith;
  }

  stamps_yes : (s : State) (t p : ℕ) → Stamps s → Stamps (next holds s (yes_read t p))
  stamps_yes s t p i = record {
    clock_stamped = i.clock_stamped;
    seen_stamped = i.seen_stamped;
    vote_stamped = each_clock (Stamped s) (vote_clock s) t (join (vote_clock s t) (seen s p)) i.vote_stamped (stamped_join s (vote_clock s t) (seen s p) (i.vote_stamped t) (i.seen_stamped p));
    commit_stamped = i.commit_stamped;
    unread_zero = i.unread_zero;
    read_held = i.read_held;
  }

  stamps_commit : (s : State) (t n : ℕ) (c : Clock) → Stamps s → Accepted holds modulus s (commit t n c) → Stamps (next holds s (commit t n c))
  stamps_commit s t n c i ok = let f = λ (x : Clock) (g : Stamped s x). stamped_kept s (next holds s (commit t n c)) x (commit_keeps s t n c ok.offered) g in record {
    clock_stamped = λ u. f (clock s u) (i.clock_stamped u);
    seen_stamped = λ p. f (seen s p) (i.seen_stamped p);
    vote_stamped = λ u. f (vote_clock s u) (i.vote_stamped u);
    commit_stamped = each_clock (Stamped (next holds s (commit t n c))) (commit_clock s) t c (λ u. f (commit_clock s u) (i.commit_stamped u)) (commit_new s t n c i ok);
    unread_zero = i.unread_zero;
    read_held = i.read_held;
  }

  -- a release of t at p takes its commit clock into the seen clock
  stamps_release : (s : State) (t p : ℕ) → Stamps s → Stamps (change_node p (sees (join (seen s p) (commit_clock s t))) s)
  stamps_release s t p i = record {
    clock_stamped = i.clock_stamped;
    seen_stamped = each_clock (Stamped s) (seen s) p (join (seen s p) (commit_clock s t)) i.seen_stamped (stamped_join s (seen s p) (commit_clock s t) (i.seen_stamped p) (i.commit_stamped t));
    vote_stamped = i.vote_stamped;
    commit_stamped = i.commit_stamped;
    unread_zero = i.unread_zero;
    read_held = i.read_held;
  }

  pub stamps : (s : State) (e : Event) → Locks holds modulus s → Stamps s → Accepted holds modulus s e → Stamps (next holds s e)
  stamps s (read_search t k p a c) l i ok = stamps_read s t k p a c i ok.0
  stamps s (read_update t k p a c) l i ok = stamps_read s t k p a c i ok.0
  stamps s (yes_write t p n) l i ok = stamps_yes s t p i
  stamps s (yes_read t p) l i ok = stamps_yes s t p i
  stamps s (commit t n c) l i ok = stamps_commit s t n c i ok
  stamps s (learn_read t p) l i ok = stamps_release s t p i
  stamps s (apply t p) l i ok = stamps_release s t p i
  stamps s e l i ok = grind arith
