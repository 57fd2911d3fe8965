-- The report of an error in a run is of the inputs that were read, or of why they were not.
use Rattle.bp_commands.proofs.Common.{◌≡◌, ℕ, List, Option, Result, Ok, Err, inl, inr, true, None, Some, IfOk, Vec, ◌∙◌, subst, arith, Writes, Error, AnswerRule, IsEndOf, AreReadOr, IsSaid, IsSaidOfRead, IsTold, IsConcluded, IsObjectRead, IsReported, IsSaidFor, IsTextOf, IsFlushed, Inputs, Held, IsFinished}
use Rattle.std.specs.declared.alloc.AllocError.{AllocError}
use Rattle.std.specs.declared.alloc.Global.{Global}
use Rattle.bp_advice.specs.declared.explanations.Explanation.{Explanation}
use Rattle.bp_source.specs.declared.tasks.ErrorFormat.{ErrorFormat}
use Rattle.bp_source.specs.declared.tasks.ErrorFormat.TheVariants as format
use Rattle.bp_source.specs.ErrorFormats.{is_explained}
use Rattle.bp_commands.specs.declared.run_ends.Explained.{Explained}
use Rattle.bp_commands.specs.declared.run_ends.RunEnd.{RunEnd}

module _ {X R : Type 0} (inputs : Inputs X) (given : X) where
  module _ (Explains : X → Error → Explanation → Type 0) where
    tells : (kind : ErrorFormat) (done final : Result R Error) (held now : Option (List ℕ)) (e : Explained) (old new : Option (List ℕ))
        → AreReadOr inputs given done → IsFlushed done held final now
        → IsTold kind (λ f. IsSaid (Explains given f)) final e old new → IsTold kind (IsSaidOfRead inputs Explains) final e old new
    tells kind done final held now e old new given1 given2 given3 = grind (arith)

  concluded_read : (IsObject : X → Explained → Error → List ℕ → Type 0) (Explains : X → Error → Explanation → Type 0)
      (rule : AnswerRule R) (kind : ErrorFormat) (done final : Result R Error) (held now : Option (List ℕ)) (e : RunEnd) (old new : Option (List ℕ))
      → AreReadOr inputs given done → IsFlushed done held final now
      → IsConcluded rule kind (IsObject given) (λ f. IsSaid (Explains given f)) final e old new
      → IsConcluded rule kind (IsObjectRead inputs IsObject) (IsSaidOfRead inputs Explains) final e old new
  concluded_read IsObject Explains rule kind done final held now e old new given1 given2 given3 = grind (arith)

  -- so a run is finished as one of the inputs that were read
  pub finished_read : (IsObject : X → Explained → Error → List ℕ → Type 0) (Explains : X → Error → Explanation → Type 0)
      (rule : AnswerRule R) (kind : ErrorFormat) (done : Result R Error) (before after : Held) (e : RunEnd) → AreReadOr inputs given done
      → IsFinished rule kind (IsObject given) (λ f. IsSaid (Explains given f)) done before after e
      → IsFinished rule kind (IsObjectRead inputs IsObject) (IsSaidOfRead inputs Explains) done before after e
  finished_read IsObject Explains rule kind done before after e read end = record {
    final = end.final;
    flushed = end.flushed;
    concluded = concluded_read IsObject Explains rule kind done end.final _ _ e _ _ read end.flushed end.concluded;
  }

-- The report of an error explains it.

-- the text on an error, if its lines were made or memory for them was refused
pub says : (Explains : Explanation → Type 0) (e : Explained) (r : Result (Option (Vec ℕ Global)) AllocError) (said : List ℕ)
    → IfOk r (IsTextOf true Explains) → IsSaidFor r e said → IsSaid Explains e said
says Explains e (Ok (Some lines)) said (x, is, lines_are) (made, same) = inl (made, inl (x, is, same ∙ lines_are))
says Explains e (Ok None) said none (made, sentence) = inl (made, inr (none, sentence))
says Explains e (Err x) said made (refused, sentence) = inr (refused, sentence)

-- a run whose refusal is explained by lines is concluded by its end and by the text then
module _ {R : Type 0} (rule : AnswerRule R) (IsObject : Explained → Error → List ℕ → Type 0) (Explains : Error → Explanation → Type 0)
    (e : RunEnd) (old between new : Option (List ℕ)) where
  pub by_lines : (x : Explained) (f : Error) (kind : ErrorFormat) (done : Result R Error) → is_explained kind ≡ true → done ≡ Err f
      → IsEndOf rule (IsReported kind (IsObject e.explained)) done e old between
      → (said : List ℕ) × IsSaid (Explains f) x said × Writes between new said x.told
      → IsConcluded rule kind IsObject (λ g. IsSaid (Explains g)) done (record { status = e.status; told = e.told; explained = x }) old new
  by_lines x f format.Explained (Err g) on is ends (said, saying, written) =
      let same : f ≡ g = cc in
      (between, ends, (said, subst (λ h. IsSaid (Explains h) x said) same saying, written))
  by_lines x f format.Explained (Ok r) on is ends said = cc
  by_lines x f format.Line done on is ends said = cc
  by_lines x f format.Json done on is ends said = cc
