-- A device: the lines of a text of steps. Most lines with the same text are kept once.
use Rattle.std.specs.Prelude.{◌≡◌, ◌<◌, ◌≤◌, ◌++◌, ℕ, List, [], length, map, get_or}
use Rattle.std.specs.List.{AllByRecursion}
use Rattle.bp_text.specs.Formats.{IsAt}
use Rattle.bp_confirm.specs.declared.kept_lines.KeptLine.{KeptLine}
use Rattle.bp_confirm.specs.declared.step_lines.Location.TheVariants.{End}
use Rattle.bp_confirm.specs.Steps.{StepLineOf, step_line}

abbrev pub kept_lines : List KeptLine → List StepLineOf
kept_lines kept = map (λ x. x.line) kept

-- a default if no line is kept
abbrev pub no_line : StepLineOf
no_line = record { thread = 0; location = End; values = [] }

-- the lines at these places
abbrev pub lines_at : List StepLineOf → List ℕ → List StepLineOf
lines_at lines places = map (λ k. get_or lines k no_line) places

-- a line is kept at each of these places
abbrev pub AreWithin : List StepLineOf → List ℕ → Type 0
AreWithin lines places = AllByRecursion (λ k. k < length lines) places

-- the line has this text
pub record IsKeptLine (x : KeptLine) : Type 0 where
  pub at : IsAt step_line x.text.now x.line []

-- one line more is kept, or none
abbrev pub GrowsByOne : List KeptLine → List KeptLine → Type 0
GrowsByOne old new = (more : List KeptLine) × (new ≡ old ++ more) × (length more ≤ 1)

-- the line at this place begins the text
pub record IsStepThere (lines : List StepLineOf) (place : ℕ) (text rest : List ℕ) : Type 0 where
  pub within : place < length lines
  pub at : IsAt step_line text (get_or lines place no_line) rest
