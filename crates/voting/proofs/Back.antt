-- What an engaged update gives back.
use Rattle.std.proofs.Common.{◌≡◌, ℕ, Bool, true, cond, List, sym, ap, ◌∙◌}
use Rattle.std.proofs.lemmas.Bool.{cond-true}
use Rattle.store.specs.Model.{Meaning}
use Rattle.store.specs.Batch.{all_back}

pub back_if : (engaged : Bool) (m after : Meaning) (p : ℕ) (given keys : List ℕ) → engaged ≡ true → given ≡ keys → after ≡ all_back m p given → after ≡ cond engaged (all_back m p keys) m
back_if engaged m after p given keys is same gave = gave ∙ ap (all_back m p) same ∙ sym (cond-true engaged _ _ is)
