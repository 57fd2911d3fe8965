-- The result of an exploration that searches for a run which makes listed steps in their order.
use Rattle.std.specs.Prelude.{◌≡◌, ◌+◌, ℕ, List, [], ◌∷◌, ◌++◌, ◌<◌, Option, Some}
use Rattle.bp_syntax.specs.Ast.{Program}
use Rattle.bp_flat.specs.Moves.{Configuration, Moves}
use Rattle.bp_flat.specs.Flat.{Flat}
use Rattle.bp_machine.specs.declared.calls.Call.{Call}
use Rattle.bp_machine.specs.Histories.{configuration_after, granted_calls}
use Rattle.bp_machine.specs.Sessions.{Stands}
use Rattle.bp_machine.specs.Setups.{SetupOf}
use Rattle.bp_explore.specs.declared.explorations.RunThrough.{RunThrough}
use Rattle.bp_explore.specs.declared.explorations.ThroughEnding.{ThroughEnding}
use Rattle.bp_explore.specs.declared.explorations.ThroughEnding.TheVariants.{Found, Unplayed, Missing, MissingWithin, Unfinished}
use Rattle.bp_explore.specs.Explorations.{IsTooLong, setup_of_run, ListedSteps, IsMade, MakesInOrder, CanMake, IsInBound}

-- The finding of a search for listed steps: a run that makes them in their order, with any other
-- steps between them.

-- the run of these steps makes all listed steps in order, the last of them with its last step
pub record EndsInLast
    (t : Program) (s : SetupOf) (o : ListedSteps) (steps : List Call) (d : Configuration)
    : Type 0 where
  pub before : List Call
  pub last : Call
  pub whole : steps ≡ before ++ last ∷ []
  pub number : ℕ
  pub count : number + 1 ≡ o.count
  pub at : Configuration
  pub makes : MakesInOrder t s o before number at
  pub moves : Moves t at last.thread last.bit d
  pub made : IsMade o number at last.thread d

-- The session is in the setup of the run's trace, and stands after the run's history. Each attempt
-- of the history is a granted step, and it makes all listed steps.
pub record IsRunThrough
    (c : Flat) (t : Program) (s : SetupOf) (o : ListedSteps) (r : RunThrough)
    : Type 0 where
  pub code : r.session.code ≡ c
  pub setup : r.session.setup ≡ setup_of_run s r.contexts r.history.items
  pub stands : Stands t r.session r.history.items
  pub granted : granted_calls r.history.items ≡ r.history.items
  pub made : let end = configuration_after t r.session.setup r.history.items in
      EndsInLast t s o r.history.items end

-- the ending if a run within k contexts makes all listed steps
abbrev pub IsPlayedThrough : Flat → Program → SetupOf → ListedSteps → ℕ → ThroughEnding → Type 0
IsPlayedThrough c t s o k (Found r) = (r.contexts ≡ k) × IsRunThrough c t s o r
IsPlayedThrough c t s o k (Unplayed contexts calls) =
    (contexts ≡ k) × IsTooLong contexts calls
IsPlayedThrough c t s o k (Missing last made) = ⊥
IsPlayedThrough c t s o k (MissingWithin contexts made) = ⊥
IsPlayedThrough c t s o k (Unfinished contexts reason) = ⊥

module _ (t : Program) (s : SetupOf) (o : ListedSteps) where
  -- no run within fewer contexts makes all listed steps
  abbrev pub CannotMakeBelow : ℕ → Type 0
  CannotMakeBelow k = (m : ℕ) → m < k → CanMake t s o m o.count → ⊥

-- the result for a code that stands for the program, with this bound on contexts
module _ (c : Flat) (t : Program) (s : SetupOf) (o : ListedSteps) (bound : Option ℕ) where
  abbrev pub IsThrough : ThroughEnding → Type 0
  IsThrough (Found r) =
      CannotMakeBelow t s o r.contexts
      × CanMake t s o r.contexts o.count
      × IsRunThrough c t s o r
      × IsInBound bound r.contexts
  IsThrough (Unplayed contexts calls) =
      CannotMakeBelow t s o contexts
      × IsTooLong contexts calls
      × IsInBound bound contexts
  IsThrough (Missing last made) =
      (made < o.count)
      × CanMake t s o last made
      × ((k : ℕ) → CanMake t s o k (made + 1) → ⊥)
  IsThrough (MissingWithin contexts made) =
      (bound ≡ Some contexts)
      × (made < o.count)
      × CanMake t s o contexts made
      × (CanMake t s o contexts (made + 1) → ⊥)
  IsThrough (Unfinished contexts reason) =
      CannotMakeBelow t s o contexts × IsInBound bound contexts
