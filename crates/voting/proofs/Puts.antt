-- A loop that puts versions.
use Rattle.std.proofs.Common.{◌≡◌, ℕ, ◌+◌, ◌<◌, List, [], ◌∷◌, ◌++◌, length, get_or, take, sym, refl, ap, ◌∙◌}
use Rattle.std.proofs.lemmas.List.{take_more}
use Rattle.store.specs.Model.{Meaning, put_after}
use Rattle.rules.specs.declared.records.Transaction.{Transaction}
use Rattle.rules.specs.World.{written_value}
use Rattle.rules.specs.Applying.{put_all}

module _ (p t : ℕ) (x : Transaction) where
  -- One key more at the end of the list.
  put_push : (m : Meaning) (ks : List ℕ) (k : ℕ) → put_all m p t x (ks ++ k ∷ []) ≡ put_after (put_all m p t x ks) p k (record { value = written_value x k; writer = t })
  unfolding put_all
  put_push m [] k = refl
  put_push m (j ∷ js) k = put_push (put_after m p j (record { value = written_value x j; writer = t })) js k

  pub put_none : (m : Meaning) → put_all m p t x [] ≡ m
  unfolding put_all
  put_none m = refl

  pub put_more : (m w : Meaning) (ks : List ℕ) (i : ℕ) → i < length ks → w ≡ put_all m p t x (take i ks) → put_after w p (get_or ks i 0) (record { value = written_value x (get_or ks i 0); writer = t }) ≡ put_all m p t x (take (i + 1) ks)
  put_more m w ks i inside so_far =
      ap (λ (v : Meaning). put_after v p (get_or ks i 0) (record { value = written_value x (get_or ks i 0); writer = t })) so_far
      ∙ sym (ap (put_all m p t x) (take_more ks i 0 inside) ∙ put_push m (take i ks) (get_or ks i 0))
