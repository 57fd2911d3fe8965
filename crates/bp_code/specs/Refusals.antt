-- How a program is refused: by the least of its errors.
use Rattle.std.specs.Prelude.{◌≡◌, ◌⊎◌, ℕ, ◌<◌, ◌≤◌, ◌≢◌}
use Rattle.bp_syntax.specs.Ast.{Program}
use Rattle.bp_syntax.specs.Errors.{check_error_number, IsError, IsWellFormed}
use Rattle.bp_syntax.specs.declared.errors.CheckError.{CheckError}
use Rattle.bp_syntax.specs.declared.errors.CheckError.TheVariants.{Memory}

-- The least of a set of errors: by place, and at one place by number.

-- the error f at its place does not come after the error g at another
abbrev pub IsNotAfter : CheckError → ℕ → CheckError → ℕ → Type 0
IsNotAfter f at g place =
    (at < place) ⊎ ((at ≡ place) × (check_error_number f ≤ check_error_number g))

-- the error at this place is in the set, and does not come after any other of the set
pub record IsLeast (Is : CheckError → ℕ → Type 0) (f : CheckError) (at : ℕ) : Type 0 where
  pub within : Is f at
  pub first : (g : CheckError) (place : ℕ) → Is g place → IsNotAfter f at g place

-- How a program is refused.

-- a refusal reports the least error of the program; it does not say when memory is refused
abbrev pub IsRefusal : Program → CheckError → ℕ → Type 0
IsRefusal p Memory at = at ≡ 0
IsRefusal p f at = IsLeast (IsError p) f at

-- The number of refusals of a program.

-- a program has at most one refusal, memory aside
abbrev pub OneRefusal : Type 0
OneRefusal =
    (p : Program) (f g : CheckError) (at place : ℕ)
    → f ≢ Memory
    → g ≢ Memory
    → IsRefusal p f at
    → IsRefusal p g place
    → (f ≡ g) × (at ≡ place)

-- a well-formed program has no refusal, memory aside
abbrev pub NoRefusalOfWellFormed : Type 0
NoRefusalOfWellFormed =
    (p : Program) (f : CheckError) (at : ℕ)
    → IsWellFormed p
    → IsRefusal p f at
    → f ≡ Memory
