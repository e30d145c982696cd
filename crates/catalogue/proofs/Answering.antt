-- What holds of an answer that a test grants.
use Rattle.std.proofs.Common.{◌≡◌, Bool, true, false, cond, IfOk, Ok, Err, Result, sym, refl, subst}
use Rattle.calls.specs.declared.refusal.Refusal.{Refusal}
use Rattle.rules.specs.declared.records.Transaction.{Transaction}
use Rattle.catalogue.specs.Recorded.{lent}

pub if_granted : {A E : Type 0} (P : A → Type 0) (b : Bool) (x : A) (e : E) (r : Result A E) → r ≡ cond b (Ok x) (Err e) → (b ≡ true → P x) → IfOk r P
if_granted {A} {E} P true x e r is holds = subst (λ (s : Result A E). IfOk s P) (sym is) (holds refl)
if_granted {A} {E} P false x e r is holds = subst (λ (s : Result A E). IfOk s P) (sym is) tt

-- The same of a record that is lent.
pub if_lent : {R : Type 0} (now : R → Transaction) (P : Transaction → Type 0) (b : Bool) (x : Transaction) (e : Refusal) (r : Result R Refusal) → lent now r ≡ cond b (Ok x) (Err e) → (b ≡ true → P x) → IfOk r (λ y. P (now y))
if_lent now P b x e (Ok y) is holds = if_granted P b x e (Ok (now y)) is holds
if_lent now P b x e (Err refusal) is holds = tt
