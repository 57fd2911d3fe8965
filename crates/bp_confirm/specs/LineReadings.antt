-- Values on the lines of reported steps, and why a text is not read as lines.
use Rattle.std.specs.Prelude.{◌≡◌, ◌-◌, ◌∷◌, ◌++◌, ◌==◌, ℕ, zero, suc, Bool, List, [], Option, None, Some, option_map, slice_get}
use Rattle.bp_text.specs.Formats.{AreAll}
use Rattle.bp_flat.specs.Moves.{Valuation}
use Rattle.bp_confirm.specs.declared.fields.NameState.{NameState}
use Rattle.bp_confirm.specs.declared.fields.NameState.TheVariants.{Start}
use Rattle.bp_confirm.specs.declared.kept_lines.StepsError.{StepsError}
use Rattle.bp_confirm.specs.declared.kept_lines.StepsError.TheVariants as error
use Rattle.bp_confirm.specs.Steps.{StepLineOf, HasLines, IsBadLine, after_byte, value}

-- the first malformed line; it does not say when memory is refused
abbrev pub IsUnreadable : List ℕ → StepsError → Type 0
IsUnreadable text (error.Line n) = IsBadLine text n
IsUnreadable text error.Memory = Unit {0}

-- the value of number k, from 0, of a line
abbrev pub value_in : Option StepLineOf → (k : ℕ) → Option (List ℕ × Bool)
value_in None k = None
value_in (Some x) k = slice_get x.values k

-- the value of number k, from 0, of line n, from 1; there is no line 0
abbrev pub value_on_line : List StepLineOf → (n k : ℕ) → Option (List ℕ × Bool)
value_on_line lines zero k = None
value_on_line lines (suc n) k = value_in (slice_get lines n) k

-- the value is that of a text of steps, if the text has lines
abbrev pub IsValueOnLine : (text : List ℕ) → (n k : ℕ) → Option (List ℕ × Bool) → Type 0
IsValueOnLine text n k value =
    (lines : List StepLineOf) → HasLines text lines → value ≡ value_on_line lines n k

-- A device: this is line n of the text, if it has lines.
abbrev pub IsStepOnLine : (text : List ℕ) → (n : ℕ) → Option StepLineOf → Type 0
IsStepOnLine text n step =
    (lines : List StepLineOf) → HasLines text lines → step ≡ slice_get lines (n - 1)

-- The values in a part of a line, as its bytes are read one after the other.

-- the kind of the next byte: a space, one more of a name or the equals sign after it, or its bit
pub data Reading : Type 0 where
  Space : Reading
  Name : (front : List ℕ) → (state : NameState) → Reading
  Bit : (name : List ℕ) → Reading

-- a name continues, or the byte was the equals sign after it
abbrev pub after_name : List ℕ → ℕ → Option NameState → Reading
after_name front c None = Bit front
after_name front c (Some state) = Name (front ++ c ∷ []) state

abbrev pub values_from : Reading → List ℕ → Valuation
values_from reading [] = []
values_from Space (c ∷ cs) = values_from (Name [] Start) cs
values_from (Name front state) (c ∷ cs) = values_from (after_name front c (after_byte state c)) cs
values_from (Bit name) (c ∷ cs) = (name, c == 49) ∷ values_from Space cs

-- the values of the text, if it lists values
abbrev pub values_in : List ℕ → Valuation
values_in text = values_from Space text

-- the text lists these values
abbrev pub SaysValues : List ℕ → Type 0
SaysValues text = AreAll value text (values_in text)

-- the value at this place, from 0, has this name
abbrev pub IsNameIn : List ℕ → ℕ → List ℕ → Type 0
IsNameIn text place name = option_map (λ v. v.0) (slice_get (values_in text) place) ≡ Some name
