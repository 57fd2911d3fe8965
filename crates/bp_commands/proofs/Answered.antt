-- The answer of a command that refuses, and of the inputs that it read.
use Rattle.bp_commands.proofs.Common.{refl, inl, inr, ℕ, List, Option, Result, Ok, Err, Keeps-refl, AppendsPart, Error, Write, Answers, AnswersOf, Command, IsNotDone, IsRefusedWith, Inputs}

module _ {X R : Type 0} (command : Command X R) (given : X) (old : Option (List ℕ)) where
  pub refused_with : (f : Error) → command.Refuses given f → IsRefusedWith command old old given f
  refused_with f why = inl (Keeps-refl old, why)

  pub cut_short : (new : Option (List ℕ)) (text : List ℕ) → command.Writes given text → AppendsPart old new text → IsRefusedWith command old new given Write
  cut_short new text writes part = inr (inl (refl, record { text = text; writes = writes; written = part }))

  module _ (inputs : Inputs X) (read : inputs.Holds given) where
    pub refused : (f : Error) → command.Refuses given f → IsNotDone command old old inputs f
    refused f why = inr (record { given = given; read = read; refused = refused_with f why })

    pub answered : (new : Option (List ℕ)) (r : Result R Error) → AnswersOf command given old new r → Answers command inputs old new r
    answered new (Ok report) done = record { given = given; read = read; done = done }
    answered new (Err f) why = inr (record { given = given; read = read; refused = why })
