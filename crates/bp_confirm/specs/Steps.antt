-- Reported steps: places, steps, their lines and their text.
use Rattle.std.proofs.Common.{inl, inr, refl}
use Rattle.std.specs.Prelude.{ℕ, Bool, true, false, ◌&&◌, ◌||◌, ◌==◌, List, [], ◌∷◌, Option, None, Some, option_map, if◌then◌else◌, slice_get, take, ◌≢◌, ◌≡◌, ◌++◌, ◌⊎◌, map, ◌^◌, codes}
use Rattle.std.specs.Option.{option_or}
use Rattle.bp_text.specs.declared.lines.Position.{Position}
use Rattle.bp_text.specs.Lines.{position_at}
use Rattle.bp_syntax.specs.Ast.{Program}
use Rattle.bp_flat.specs.Moves.{Frame, Configuration, Valuation, lookup}
use Rattle.bp_flat.specs.StandsFor.{start_of_block}
use Rattle.bp_machine.specs.declared.calls.Call.{Call}
use Rattle.bp_machine.specs.Histories.{stack_of, configuration_after, IsAllowed, is_granted}
use Rattle.bp_machine.specs.Setups.{SetupOf}
use Rattle.bp_text.specs.Formats.{AreAll, bit, Format, IsBad, text_of}
use Rattle.bp_text.specs.Formats.Format.{After, As, Before, Either, Many, Number, Span, Then, Word}
use Rattle.bp_source.specs.Names.{qualified}
use Rattle.bp_confirm.specs.declared.fields.NameState.{NameState}
use Rattle.bp_confirm.specs.declared.fields.NameState.TheVariants.{Start, Outside, Inside}
use Rattle.bp_confirm.specs.declared.step_lines.Location.{Location}
use Rattle.bp_confirm.specs.declared.step_lines.Location.TheVariants.{End, Line, Column}
use Rattle.bp_confirm.specs.declared.step_lines.SeenValue.{SeenValue}

-- Places, at which threads stand.

-- a test of the next statement, which begins at this offset, or of a procedure's end
abbrev pub Place : Type 0
Place = Option ℕ → Bool

-- a thread with this stack is at the place: its topmost frame continues there
abbrev pub stands_at : Place → List Frame → Bool
stands_at p [] = false
stands_at p (f ∷ fs) = p (start_of_block f.left)

-- a statement that begins at this position, or a procedure's end, is at the location
abbrev pub is_at : Location → Option Position → Bool
is_at End None = true
is_at End (Some p) = false
is_at (Line n) None = false
is_at (Line n) (Some p) = p.line == n
is_at (Column n m) None = false
is_at (Column n m) (Some p) = p.line == n && p.column == m

-- the place for the location in a text
abbrev pub place_of : List ℕ → Location → Place
place_of text x = λ start. is_at x (option_map (position_at text) start)

-- Reported steps, and the histories that take them.

-- a reported step: its thread, the thread's place before it, and the values that some variables
-- have after it
pub record StepOf : Type 0 where
  pub thread : ℕ
  pub place : Place
  pub values : Valuation

-- these variables, each by its name after that of a procedure and a dot
abbrev pub qualified_values : (procedure : List ℕ) → Valuation → Valuation
qualified_values p vs = map (λ v. (qualified p v.0, v.1)) vs

-- the value of a local of a procedure by its name, or by its name after the procedure's and a dot
abbrev pub own_value : (procedure : List ℕ) → Valuation → List ℕ → Option Bool
own_value p locals x = option_or (lookup locals x) (lookup (qualified_values p locals) x)

-- the value of a local as the topmost frame of a stack sees it, if it has one of this name
abbrev pub local_seen : List Frame → List ℕ → Option Bool
local_seen [] x = None
local_seen (f ∷ fs) x = own_value f.procedure.name.text f.locals x

-- the value of a variable: a local hides a global of its name; None if there is neither
abbrev pub value_seen : Valuation → List Frame → List ℕ → Option Bool
value_seen globals stack x = option_or (local_seen stack x) (lookup globals x)

-- thread i sees these values
abbrev pub SeesValues : Configuration → ℕ → Valuation → Type 0
SeesValues c i [] = Unit {0}
SeesValues c i (v ∷ vs) =
    (value_seen c.globals (stack_of c i) v.0 ≡ Some v.1) × SeesValues c i vs

-- Value n of these, from 0, is the first that thread i does not see: it sees this one instead, or
-- no variable of its name.
pub record IsFirstMismatch
    (c : Configuration) (i : ℕ) (vs : Valuation) (n : ℕ) (seen : Option Bool) : Type 0 where
  pub value : List ℕ × Bool
  pub at : slice_get vs n ≡ Some value
  pub first : SeesValues c i (take n vs)
  pub is_seen : seen ≡ value_seen c.globals (stack_of c i) value.0
  pub differs : seen ≢ Some value.1

-- the attempt takes the step after the history h: it may follow h, the thread is at the place
-- before it, the machine grants it, and the thread sees the values after it
pub record IsStepOf (t : Program) (s : SetupOf) (h : List Call) (x : StepOf) (call : Call)
    : Type 0 where
  pub thread : call.thread ≡ x.thread
  pub allowed : IsAllowed t s h call
  pub granted : is_granted call.reply ≡ true
  pub at : stands_at x.place (stack_of (configuration_after t s h) x.thread) ≡ true
  pub values : SeesValues (configuration_after t s (h ++ call ∷ [])) x.thread x.values

-- the attempts take the steps after the history h, one attempt for each step
abbrev pub TakeAfter : Program → SetupOf → List Call → List StepOf → List Call → Type 0
TakeAfter t s h [] [] = Unit {0}
TakeAfter t s h (x ∷ xs) (call ∷ calls) =
    IsStepOf t s h x call × TakeAfter t s (h ++ call ∷ []) xs calls
TakeAfter t s h xs calls = ⊥

-- the history takes the steps
abbrev pub Takes : Program → SetupOf → List StepOf → List Call → Type 0
Takes t s steps h = TakeAfter t s [] steps h

-- the place of thread i before its next step
abbrev pub next_place : ℕ → List StepOf → Option Place
next_place i [] = None
next_place i (x ∷ xs) = if x.thread == i then Some x.place else next_place i xs

-- The lines of reported steps, and their meaning in the text of a program.

-- a variable's name and value
abbrev pub value_of : SeenValue → List ℕ × Bool
value_of v = (v.name.now, v.bit)

-- a step as written: its thread, its location before the step, and the values after it
pub record StepLineOf : Type 0 where
  pub thread : ℕ
  pub location : Location
  pub values : Valuation

-- the step of the line in the text of a program
abbrev pub step_of : List ℕ → StepLineOf → StepOf
step_of text x = record {
  thread = x.thread;
  place = place_of text x.location;
  values = x.values;
}

abbrev pub steps_of : List ℕ → List StepLineOf → List StepOf
steps_of text xs = map (step_of text) xs

-- the location of thread i before its next step
abbrev pub next_location : ℕ → List StepLineOf → Option Location
next_location i [] = None
next_location i (x ∷ xs) = if x.thread == i then Some x.location else next_location i xs

-- the location of the line of this number, from 0, if there is one
abbrev pub location_in : List StepLineOf → ℕ → Option Location
location_in xs n = option_map (λ x. x.location) (slice_get xs n)

-- for each line the location of its thread before the thread's next step
abbrev pub next_locations : List StepLineOf → List (Option Location)
next_locations [] = []
next_locations (x ∷ xs) = next_location x.thread xs ∷ next_locations xs

-- The text of reported steps: a line for each, T PLACE and then any number of NAME=BIT.

-- a name has no line feed, and outside braces neither a space nor =
abbrev pub outside_braces : ℕ → Option NameState
outside_braces b =
    if b == 10 || b == 32 || b == 61 then None else if b == 123 then Some Inside else Some Outside

abbrev pub after_byte : NameState → ℕ → Option NameState
after_byte Start b = outside_braces b
after_byte Outside b = outside_braces b
after_byte Inside b = if b == 10 then None else if b == 125 then Some Outside else Some Inside

-- a name may end: it is not empty, and its braces are closed
abbrev pub may_end : NameState → Bool
may_end Start = false
may_end Outside = true
may_end Inside = false

abbrev pub name : Format (List ℕ)
name = Span after_byte may_end Start

abbrev pub value : Format (List ℕ × Bool)
value = After (codes " ") (Then (Before name (codes "=")) bit)

-- a number of 32 bits
abbrev pub short : Format ℕ
short = Number (2 ^ 32)

-- a dash for the end of a procedure, a line, or a line and a column with a colon between them
abbrev pub LocationParts : Type 0
LocationParts = Unit {0} ⊎ (ℕ × (ℕ ⊎ Unit {0}))

abbrev pub parts_of_location : Location → LocationParts
parts_of_location End = inl tt
parts_of_location (Line n) = inr (n, inr tt)
parts_of_location (Column n m) = inr (n, inl m)

abbrev pub location_of_parts : LocationParts → Location
location_of_parts (inl x) = End
location_of_parts (inr (n, inr x)) = Line n
location_of_parts (inr (n, inl m)) = Column n m

abbrev pub location_again : (x : Location) → location_of_parts (parts_of_location x) ≡ x
location_again End = refl
location_again (Line n) = refl
location_again (Column n m) = refl

abbrev pub location : Format Location
location =
    As parts_of_location location_of_parts location_again
    (Either (Word (codes "-")) (Then short (Either (After (codes ":") short) (Word (codes "")))))

-- a line of a step, with its line feed
abbrev pub step_line : Format StepLineOf
step_line =
    As (λ x. (x.thread, (x.location, x.values)))
    (λ p. record { thread = p.0; location = p.1.0; values = p.1.1 }) (λ x. refl)
    (Then short (After (codes " ") (Then location (Before (Many value) (codes "\n")))))

-- the text of these lines
abbrev pub steps_text : List StepLineOf → List ℕ
steps_text xs = text_of (Many step_line) xs

-- the text has these lines
abbrev pub HasLines : List ℕ → List StepLineOf → Type 0
HasLines text xs = AreAll step_line text xs

-- line n, from 1, is the first that is malformed
abbrev pub IsBadLine : List ℕ → ℕ → Type 0
IsBadLine text n = IsBad step_line text n
