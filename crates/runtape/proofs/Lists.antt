-- The first bytes of an input say what the whole of it says, if a byte more of them is read than a tape may have.
use Rattle.std.proofs.Common.{◌≡◌, ℕ, ◌<◌, List, [], ◌++◌, length, take, Some, None, Option, IfSome, sym, ap, ◌∙◌, subst, arith, ⊎_elim}
use Rattle.std.specs.Option.{option_map}
use Rattle.std.proofs.lemmas.Bool.{cond-true, cases_lt, lt-ltb}
use Rattle.std.proofs.lemmas.List.{take_all, length-take-le}
use Rattle.listing.specs.declared.line.Line.{Line}
use Rattle.listing.specs.Text.{lines as text_of}
use Rattle.store.specs.Model.{FreeRule}
use Rattle.tape.specs.Layout.{longest}
use Rattle.tape.specs.Reading.{Entry, read_tape}
use Rattle.rules.specs.World.{World}
use Rattle.runner.specs.Running.{CountsBy, RecordsRun, Kept, Told, TapeRun, TapeTold, made_by, listed_calls}
use Rattle.runtape.specs.Listed.{Listed}

too_long : (tape : List ℕ) → longest < length tape → read_tape tape ≡ read_tape (take 32769 tape)
too_long tape long =
    let taken = length-take-le 32769 tape (omega arith) in
    cond-true _ _ _ (lt-ltb longest (length tape) long) ∙ sym (cond-true _ _ _ (lt-ltb longest (length (take 32769 tape)) (omega arith)))

first_bytes : (tape : List ℕ) → read_tape tape ≡ read_tape (take 32769 tape)
first_bytes tape =
    ⊎_elim (too_long tape) (λ short. ap read_tape (sym (take_all 32769 tape (omega arith)))) (cases_lt longest (length tape))

-- What was read through a limit, of an input whose bytes are known.
pub of_take : {R : Type 0} (remaining : R → Option (List ℕ)) (limit : ℕ) (inner input : R) (before after items : List ℕ) → limit ≡ 32769 → inner ≡ input → before ≡ [] → items ≡ after → IfSome (option_map (take limit) (remaining inner)) (λ xs. after ≡ before ++ xs) → IfSome (option_map (take 32769) (remaining input)) (λ xs. items ≡ xs)
of_take {R} remaining limit inner input before after items to of none same read =
    let limited = subst (λ (n : ℕ). IfSome (option_map (take n) (remaining inner)) (λ xs. after ≡ before ++ xs)) to read in
    let whole = subst (λ (r : R). IfSome (option_map (take 32769) (remaining r)) (λ xs. after ≡ before ++ xs)) of limited in
    let alone = subst (λ (b : List ℕ). IfSome (option_map (take 32769) (remaining input)) (λ xs. after ≡ b ++ xs)) none whole in
    subst (λ (l : List ℕ). IfSome (option_map (take 32769) (remaining input)) (λ xs. l ≡ xs)) (sym same) alone

module _ {C : Type 0} (world : C → World) (rule : C → FreeRule) (lines : List Line) (unit : Option C) (text : List ℕ) (listed : text ≡ text_of lines) where
  pub of_entries : (tape items : List ℕ) → read_tape items ≡ read_tape tape → ((free : FreeRule) → CountsBy rule free unit → TapeRun free items lines (option_map world unit)) → ((free : FreeRule) → CountsBy rule free unit → TapeTold free items lines) → Listed world rule tape text
  of_entries tape items same ran told =
      record {
        lines = lines;
        unit = unit;
        ran = λ free counts. record {
          run = subst (λ (es : List Entry). RecordsRun free es lines (option_map world unit)) same (ran free counts).run;
          kept = subst (λ (es : List Entry). Kept free (made_by es) (option_map world unit)) same (ran free counts).kept;
        };
        told = λ free counts. subst (λ (es : List Entry). Told free (made_by es) (listed_calls es lines)) same (told free counts);
        listed = listed;
      }

  pub of_input : (input : Option (List ℕ)) (items : List ℕ) → IfSome (option_map (take 32769) input) (λ xs. items ≡ xs) → ((free : FreeRule) → CountsBy rule free unit → TapeRun free items lines (option_map world unit)) → ((free : FreeRule) → CountsBy rule free unit → TapeTold free items lines) → IfSome input (λ tape. Listed world rule tape text)
  of_input None items are ran told = tt
  of_input (Some tape) items are ran told = of_entries tape items (ap read_tape are ∙ sym (first_bytes tape)) ran told
