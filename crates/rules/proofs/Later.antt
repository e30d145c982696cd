-- What is kept where a transaction that is offered or decided changes its state, votes or numbers; and a chain with one version more.
use Rattle.std.proofs.Common.{◌≡◌, ℕ, true, false, ◌||◌, sym, refl, ap, ◌∙◌, arith}
use Rattle.std.proofs.lemmas.Bool.Decides.{nat_tests}
use Rattle.std.proofs.lemmas.Grind.{common_steps}
use Rattle.clock.specs.Clocks.{slot, marked}
use Rattle.rules.specs.declared.records.State.TheVariants.{Open, Offered}
use Rattle.rules.specs.declared.records.Transaction.{Transaction}
use Rattle.rules.specs.World.{World, bit, noted, wrote, is_write_node}
use Rattle.rules.proofs.Invariant.{Shaped}
use Rattle.rules.proofs.Keeping.{Fits}

-- The write nodes depend on the placement and on what is written, alone.
pub write_node_same : (w v : World) (x y : Transaction) (p : ℕ) → w.placement ≡ v.placement → x.written ≡ y.written → is_write_node w x p ≡ is_write_node v y p
unfolding is_write_node
write_node_same w v x y p a b = grind (arith, nat_tests)

-- What the changes of an offered or decided transaction leave as it was.
pub record Later (w : World) (x y : Transaction) : Type 0 where
  pub shaped : Shaped y
  pub noted_same : y.noted ≡ x.noted
  pub written_same : y.written ≡ x.written
  pub polled_same : y.polled ≡ x.polled
  pub offered : y.state ≡ Offered → x.state ≡ Offered
  pub closed : y.state ≡ Open → ⊥
  pub numbers : (p : ℕ) → is_write_node w x p ≡ false → slot y.numbers p ≡ 0
  pub voted : (p : ℕ) → marked y.engaged p ≡ true → marked y.voted p ≡ true

touched_same : (x y : Transaction) (k : ℕ) → y.noted ≡ x.noted → y.written ≡ x.written → (noted y k || wrote y k) ≡ (noted x k || wrote x k)
touched_same x y k a b = grind (arith, nat_tests)

pub later_fits : (w : World) (x y : Transaction) → Fits w x → Later w x y → Fits w y
later_fits w x y fit later =
    let same : (k : ℕ) → (noted y k || wrote y k) ≡ (noted x k || wrote x k) = λ k. touched_same x y k later.noted_same later.written_same in
    let poll : (p : ℕ) → bit y.polled p ≡ bit x.polled p = λ p. ap (λ (byte : ℕ). bit byte p) later.polled_same in
    record {
      shaped = later.shaped;
      keys_only = λ k h. fit.keys_only k (sym (same k) ∙ h);
      polled_sound = λ p h. grind (arith, nat_tests, common_steps);
      polled_all = λ p k s h held. grind (arith, nat_tests, common_steps);
      numbers_there = λ p h. later.numbers p (write_node_same w w x y p refl (sym later.written_same) ∙ h);
      open_idle = λ p s. absurd (later.closed s);
      engaged_voted = λ p h. later.voted p h;
    }
