-- A list of calls, carried out one after the other.
use Rattle.std.proofs.Common.{◌≡◌, ℕ, ◌+◌, ◌<◌, true, List, [], ◌∷◌, ◌++◌, map, length, slice_index_or, take, sym, refl, ap, ◌∙◌, subst, arith}
use Rattle.std.proofs.lemmas.Bool.Decides.{nat_tests}
use Rattle.std.proofs.lemmas.List.{take_more, map_push}
use Rattle.calls.specs.declared.answer.Answer.{Answer}
use Rattle.calls.specs.declared.call.Call.{Call}
use Rattle.calls.specs.declared.call.Call.TheVariants.{Make}
use Rattle.calls.specs.Requests.{Request}
use Rattle.store.specs.Model.{FreeRule}
use Rattle.rules.specs.World.{World}
use Rattle.rules.specs.Steps.{can_make, made_world, step, answers_of, world_after}
use Rattle.rules.specs.Transcript.{Transcript, transcript, with_answers}
use Rattle.rules.specs.Promises.{Promises}
use Rattle.rules.proofs.Answered.{answers_told}
use Rattle.rules.proofs.Good.{promises_kept}
use Rattle.catalogue.specs.Runs.{Performed, Ran}

answers_push : (free : FreeRule) (w : World) (rs : List Request) (r : Request) → answers_of free w (rs ++ r ∷ []) ≡ answers_of free w rs ++ (step free (world_after free w rs) r).0 ∷ []
unfolding answers_of world_after
answers_push free w [] r = refl
answers_push free w (q ∷ rs) r = ap (λ l. (step free w q).0 ∷ l) (answers_push free (step free w q).1 rs r)

world_push : (free : FreeRule) (w : World) (rs : List Request) (r : Request) → world_after free w (rs ++ r ∷ []) ≡ (step free (world_after free w rs) r).1
unfolding world_after
world_push free w [] r = refl
world_push free w (q ∷ rs) r = world_push free (step free w q).1 rs r

pub performed_none : (free : FreeRule) (w : World) (answers : List Answer) → answers ≡ [] → Performed free w [] answers w
unfolding answers_of world_after
performed_none free w answers none = record { answered = none; world = refl }

-- One call more.
module _ (free : FreeRule) (w now after : World) (rs : List Request) (answers : List Answer) (so_far : Performed free w rs answers now) where
  pub performed_more : (r : Request) (a : Answer) (more : List Answer) → more ≡ answers ++ a ∷ [] → (a, after) ≡ step free now r → Performed free w (rs ++ r ∷ []) more after
  performed_more r a more pushed is =
      let there : step free now r ≡ step free (world_after free w rs) r = ap (λ v. step free v r) so_far.world in
      record {
        answered = pushed ∙ (ap (λ l. l ++ a ∷ []) so_far.answered ∙ (ap (λ (o : Answer × World). answers_of free w rs ++ o.0 ∷ []) (is ∙ there) ∙ sym (answers_push free w rs r)));
        world = ap (λ (o : Answer × World). o.1) (is ∙ there) ∙ sym (world_push free w rs r);
      }

-- What stands past the end of a list of calls, to the prover.
abbrev pub no_call : Call
no_call = Make 0 0 (record { ref_ptr = (0, 0); now = [] })

-- What is told of the first entries of a list, and of one more.
pub taken_more : {A B : Type 0} (f : A → B) (xs : List A) (i : ℕ) (d : A) → i < length xs → map f (take i xs) ++ f (slice_index_or xs i d) ∷ [] ≡ map f (take (i + 1) xs)
taken_more f xs i d inside = sym (ap (map f) (take_more xs i d inside) ∙ map_push f (take i xs) (slice_index_or xs i d))

-- A whole run: what was promised of the rules holds of it.
pub ran : (free rule : FreeRule) (nodes keys : ℕ) (placement : List ℕ) (w after : World) (requests : List Request) (answers : List Answer)
    → can_make nodes keys placement ≡ true → w ≡ made_world nodes placement → rule ≡ free → Performed free w requests answers after → Ran rule nodes keys placement requests answers after
ran free rule nodes keys placement w after requests answers ok made same done =
    let fits : can_make nodes (length placement) placement ≡ true = grind (arith, nat_tests) in
    let done' : Performed rule (made_world nodes placement) requests answers after =
    subst (λ (v : World). Performed rule v requests answers after) made (subst (λ (f : FreeRule). Performed f w requests answers after) (sym same) done) in
    record {
      made = ok;
      performed = done';
      promises = subst (λ (v : World). Promises rule (transcript rule (made_world nodes placement) requests) v) (sym done'.world) (promises_kept rule nodes placement fits requests);
    }

-- Its promises are kept of the calls with the answers that were given: they are those of the rules.
pub told : (free : FreeRule) (nodes keys : ℕ) (placement : List ℕ) (requests : List Request) (answers : List Answer) (after : World)
    → Ran free nodes keys placement requests answers after → Promises free (with_answers requests answers []) after
told free nodes keys placement requests answers after run =
    let given = ap (λ (l : List Answer). with_answers requests l []) run.performed.answered ∙ answers_told free (made_world nodes placement) requests [] in
    subst (λ (calls : Transcript). Promises free calls after) (sym given) run.promises
