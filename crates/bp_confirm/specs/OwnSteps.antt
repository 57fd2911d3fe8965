-- The steps of a run, and the lists that it makes in order.
use Rattle.std.specs.Prelude.{◌≡◌, ℕ, List, [], ◌∷◌, Option, None, Some, option_map, if◌then◌else◌, flat_map, map, ◌==◌, ◌&&◌, Bool, true, false, MatchOption, length, slice_get}
use Rattle.std.specs.List.{list_all}
use Rattle.std.specs.Option.{option_map_or}
use Rattle.bp_text.specs.declared.lines.Position.{Position}
use Rattle.bp_text.specs.Lines.{position_at}
use Rattle.bp_syntax.specs.Ast.{Program}
use Rattle.bp_flat.specs.Moves.{Frame, Configuration, Moves, Valuation}
use Rattle.bp_flat.specs.StandsFor.{start_of_block, valuation_of}
use Rattle.bp_flat.specs.InstrEffects.{bits_of}
use Rattle.bp_machine.specs.declared.calls.Call.{Call}
use Rattle.bp_machine.specs.Histories.{stack_of, configuration_after_call, granted_calls, IsLegal, is_granted, IsReport}
use Rattle.bp_machine.specs.declared.calls.Report.{Report}
use Rattle.bp_machine.specs.Setups.{SetupOf, start}
use Rattle.bp_machine.specs.declared.tops.Top.{Top}
use Rattle.bp_machine.specs.Runs.{IsTop}
use Rattle.bp_explore.specs.Explorations.{ListedSteps}
use Rattle.bp_trace.specs.declared.traces.Version.{Version}
use Rattle.bp_trace.specs.Replays.{IsTrace}
use Rattle.bp_confirm.specs.declared.step_lines.Location.{Location}
use Rattle.bp_confirm.specs.declared.step_lines.Location.TheVariants.{End, Column}
use Rattle.bp_text.specs.Formats.{text_of}
use Rattle.bp_confirm.specs.Steps.{StepLineOf, step_line, steps_text, stands_at, StepOf, value_seen, steps_of}
use Rattle.bp_confirm.specs.declared.noted_steps.OwnStep.{OwnStep}

-- The lines of a run's own steps, each with its column.

-- the line and column of the statement that begins there, or a procedure's end
abbrev pub location_at : Option Position → Location
location_at None = End
location_at (Some p) = Column p.line p.column

-- the location of the statement that begins at this offset of a text
abbrev pub exact_location : List ℕ → Option ℕ → Location
exact_location text start = location_at (option_map (position_at text) start)

-- the offset at which the topmost frame continues
abbrev pub next_start : List Frame → Option ℕ
next_start [] = None
next_start (f ∷ fs) = start_of_block f.left

-- the line has the thread's location before the attempt, and no values
pub record IsOwnLine (text : List ℕ) (c : Configuration) (call : Call) (x : StepLineOf)
    : Type 0 where
  pub thread : x.thread ≡ call.thread
  pub location : x.location ≡ exact_location text (next_start (stack_of c call.thread))
  pub values : x.values ≡ []

-- these are the lines of the steps from c on
abbrev pub AreOwnLines
    : List ℕ → Program → Configuration → List Call → List StepLineOf → Type 0
AreOwnLines text t c [] [] = Unit {0}
AreOwnLines text t c (call ∷ calls) (x ∷ xs) =
    IsOwnLine text c call x
    × ((next : Configuration)
    × Moves t c call.thread call.bit next
    × AreOwnLines text t next calls xs)
AreOwnLines text t c calls xs = ⊥

-- The steps that a history makes, and the text of their lines.

-- the step of an attempt that is made in c
abbrev pub own_step : List ℕ → Configuration → Call → OwnStep
own_step text c call = record {
  thread = call.thread;
  position = option_map (position_at text) (next_start (stack_of c call.thread));
}

-- the steps of these attempts from c on; a refused attempt makes none
abbrev pub own_steps_from : List ℕ → Program → Configuration → List Call → List OwnStep
own_steps_from text t c [] = []
own_steps_from text t c (call ∷ calls) =
    let next = configuration_after_call t c call.thread call.bit call.reply in
    let rest = own_steps_from text t next calls in
    if is_granted call.reply then own_step text c call ∷ rest else rest

abbrev pub own_steps : List ℕ → Program → SetupOf → List Call → List OwnStep
own_steps text t s h = own_steps_from text t (start t s) h

-- a step as written, without values
abbrev pub line_of_step : OwnStep → StepLineOf
line_of_step x = record { thread = x.thread; location = location_at x.position; values = [] }

abbrev pub lines_of_steps : List OwnStep → List StepLineOf
lines_of_steps xs = map line_of_step xs

abbrev pub own_line : OwnStep → List ℕ
own_line x = text_of step_line (line_of_step x)

-- a line for each step
abbrev pub own_steps_text : List OwnStep → List ℕ
own_steps_text xs = flat_map own_line xs

-- the text is the trace of a history that makes these steps, and this is its report
pub record AreStepsOfTrace
    (text : List ℕ) (t : Program) (trace : List ℕ) (steps : List OwnStep) (r : Report)
    : Type 0 where
  pub version : Version
  pub setup : SetupOf
  pub history : List Call
  pub is : IsTrace t version setup history trace
  pub steps_are : steps ≡ own_steps text t setup history
  pub report : IsReport setup history r

-- law: the lines are the own lines of the run of the granted attempts
abbrev pub StepsAreOfTheRun : Type 0
StepsAreOfTheRun =
    (text : List ℕ) (t : Program) (s : SetupOf) (h : List Call)
    → IsLegal t s h
    → AreOwnLines text t (start t s) (granted_calls h) (lines_of_steps (own_steps text t s h))

-- law: their text is that of these lines
abbrev pub TextIsOfLines : Type 0
TextIsOfLines = (xs : List OwnStep) → own_steps_text xs ≡ steps_text (lines_of_steps xs)

-- Reported steps that a run makes in their order, with any other steps between them.

-- the variable is seen with this value
abbrev pub is_value : Option Bool → Bool → Bool
is_value None bit = false
is_value (Some true) bit = bit
is_value (Some false) true = false
is_value (Some false) false = true

-- thread i sees these values
abbrev pub sees_values : Configuration → ℕ → Valuation → Bool
sees_values c i vs = list_all (λ v. is_value (value_seen c.globals (stack_of c i) v.0) v.1) vs

-- a step of thread i from c to d is the reported step x: the thread is at its place before it, and
-- sees its values after it
abbrev pub is_step : StepOf → Configuration → ℕ → Configuration → Bool
is_step x c i d =
    (i == x.thread && stands_at x.place (stack_of c i)) && sees_values d i x.values

-- the steps of these lines, of the program of a text
abbrev pub listed_steps : Program → (text : List ℕ) → List StepLineOf → ListedSteps
listed_steps program text lines = record {
  count = length lines;
  makes = λ n c i d.
      option_map_or (λ x. is_step x c i d) (slice_get (steps_of text lines) n) false;
  is_of = λ t. t ≡ program;
}

-- A device: these are the top of thread i, if it has one, and the globals.
pub record AreShown (t : Program) (c : Configuration) (i : ℕ) (top : Option Top) (globals : ℕ)
    : Type 0 where
  pub tops : MatchOption top (stack_of c i ≡ []) (IsTop t c i)
  pub globals_are : c.globals ≡ valuation_of t.globals (bits_of globals)
