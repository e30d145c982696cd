-- What a history tells of each transaction is what a transcript that matches it tells.
use Rattle.std.proofs.Common.{◌≡◌, ℕ, List, sym, refl, ap, ◌∙◌, arith}
use Rattle.std.proofs.lemmas.Bool.Decides.{nat_tests}
use mathlib.Core.Path.{fun_ext}
use Rattle.history.specs.Table.{Version, Operation}
use Rattle.history.specs.Protocol.{Event}
use Rattle.history.specs.History as history
use Rattle.history.specs.History.{Mark, mark, began, got_own, got_from, put_value, decided_commit, applied_there, nothing}
use Rattle.rules.specs.Transcript as transcript
use Rattle.rules.specs.Transcript.{Transcript, Told}
use Rattle.rules.proofs.View.{told_by, Matches, none, skip, event}

same_operation : (m : Mark) (t : ℕ) (l : List Operation) → history.add_operation m t l ≡ transcript.add_operation (told_by m) t l
same_operation m t l = grind (arith, nat_tests)

same_answer : (m : Mark) (t : ℕ) (l : List Version) → history.add_answer m t l ≡ transcript.add_answer (told_by m) t l
same_answer m t l = grind (arith, nat_tests)

same_decision : (m : Mark) (l : List ℕ) → history.add_decision m l ≡ transcript.add_decision (told_by m) l
same_decision m l = grind (arith, nat_tests)

same_applied : (m : Mark) (p : ℕ) (l : List ℕ) → history.add_applied m p l ≡ transcript.add_applied (told_by m) p l
same_applied m p l = grind (arith, nat_tests)

script_at : {h : List Event} {calls : Transcript} → Matches h calls → (t : ℕ) → history.script h t ≡ transcript.script calls t
script_at none t = refl
script_at {h} (skip {earlier} request answer e m) t =
    script_at m t ∙ ap (λ (x : Told). transcript.add_operation x t (transcript.script earlier t)) (sym e)
script_at (event {h} {earlier} v request answer e m) t =
    same_operation (mark v) t (history.script h t)
    ∙ ap (λ (l : List Operation). transcript.add_operation (told_by (mark v)) t l) (script_at m t)
    ∙ ap (λ (x : Told). transcript.add_operation x t (transcript.script earlier t)) (sym e)

answers_at : {h : List Event} {calls : Transcript} → Matches h calls → (t : ℕ) → history.got h t ≡ transcript.answers_got calls t
answers_at none t = refl
answers_at (skip {h} {earlier} request answer e m) t =
    answers_at m t ∙ ap (λ (x : Told). transcript.add_answer x t (transcript.answers_got earlier t)) (sym e)
answers_at (event {h} {earlier} v request answer e m) t =
    same_answer (mark v) t (history.got h t)
    ∙ ap (λ (l : List Version). transcript.add_answer (told_by (mark v)) t l) (answers_at m t)
    ∙ ap (λ (x : Told). transcript.add_answer x t (transcript.answers_got earlier t)) (sym e)

pub same_decisions : {h : List Event} {calls : Transcript} → Matches h calls → history.decisions h ≡ transcript.decisions calls
same_decisions none = refl
same_decisions (skip {h} {earlier} request answer e m) =
    same_decisions m ∙ ap (λ (x : Told). transcript.add_decision x (transcript.decisions earlier)) (sym e)
same_decisions (event {h} {earlier} v request answer e m) =
    same_decision (mark v) (history.decisions h)
    ∙ ap (λ (l : List ℕ). transcript.add_decision (told_by (mark v)) l) (same_decisions m)
    ∙ ap (λ (x : Told). transcript.add_decision x (transcript.decisions earlier)) (sym e)

applied_there_at : {h : List Event} {calls : Transcript} → Matches h calls → (p : ℕ) → history.applied_at h p ≡ transcript.applied_at calls p
applied_there_at none p = refl
applied_there_at (skip {h} {earlier} request answer e m) p =
    applied_there_at m p ∙ ap (λ (x : Told). transcript.add_applied x p (transcript.applied_at earlier p)) (sym e)
applied_there_at (event {h} {earlier} v request answer e m) p =
    same_applied (mark v) p (history.applied_at h p)
    ∙ ap (λ (l : List ℕ). transcript.add_applied (told_by (mark v)) p l) (applied_there_at m p)
    ∙ ap (λ (x : Told). transcript.add_applied x p (transcript.applied_at earlier p)) (sym e)

-- the same of all transactions and nodes at once
pub same_scripts : {h : List Event} {calls : Transcript} → Matches h calls → history.script h ≡ transcript.script calls
same_scripts m = fun_ext (script_at m)

pub same_answers : {h : List Event} {calls : Transcript} → Matches h calls → history.got h ≡ transcript.answers_got calls
same_answers m = fun_ext (answers_at m)

pub same_applications : {h : List Event} {calls : Transcript} → Matches h calls → history.applied_at h ≡ transcript.applied_at calls
same_applications m = fun_ext (applied_there_at m)
