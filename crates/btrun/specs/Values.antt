-- The names of the commands, and the values of arguments: numbers, bits, names.
use Rattle.std.specs.Prelude.{◌≡◌, codes, if◌then◌else◌, ◌^◌, ◌==◌, ◌&&◌, ◌||◌, ℕ, Bool, false, true, not, List, [], ◌∷◌, Option, Some, None, map, nat_lt, option_and_then, unwrap_or, is_some, bytes_eq}
use Rattle.clap.specs.Walk.{Text, Row, all_of, first_of, one_of}
use Rattle.std.specs.List.{list_all}
use Rattle.std.specs.Option.{option_map_or}
use Rattle.std.specs.Str.Parse.{digits_value, without_leading_plus}
use Rattle.clap.specs.ValueTests.{is_numeral}
use Rattle.bp_machine.specs.Setups.{StartOf, start_with}
use Rattle.bp_machine.specs.declared.limits.TheConstants.{DEFAULT_CALLS}
use Rattle.bp_source.specs.NamedBits.{NamedBitOf, are_named_bits, gives_names, named_bits}
use Rattle.bp_source.specs.declared.tasks.Verdict.{Verdict}
use Rattle.bp_source.specs.declared.tasks.Verdict.TheVariants as verdict
use Rattle.bp_source.specs.declared.tasks.Explaining.{Explaining}
use Rattle.btrun.specs.declared.arguments.table.Named.{Named}
use Rattle.btrun.specs.declared.arguments.table.Named.TheVariants.{Check, Code, Drive, Confirm, Run, Test, Explore, Replay, Show, Migrate, Shrink}

-- The names of the commands.

abbrev pub command_name : Named → Text
command_name Check = codes "check"
command_name Code = codes "code"
command_name Drive = codes "drive"
command_name Confirm = codes "confirm"
command_name Run = codes "run"
command_name Test = codes "test"
command_name Explore = codes "explore"
command_name Replay = codes "replay"
command_name Show = codes "show"
command_name Migrate = codes "migrate"
command_name Shrink = codes "shrink"

-- the name of a command
abbrev pub IsNamed : Text → Type 0
IsNamed name = (command : Named) × (name ≡ command_name command)

-- The values of arguments: numbers, bits, names.

-- the value of an argument, or an empty text if it has none
abbrev pub value_of : Text → List Row → Text
value_of id rows = unwrap_or (first_of id rows) []

abbrev pub number_of : Text → ℕ
number_of text = digits_value 10 (without_leading_plus text)

-- the text is a number of `bits` bits
abbrev pub is_number_text : ℕ → Text → Bool
is_number_text bits text =
    is_numeral (without_leading_plus text) && nat_lt (number_of text) (2 ^ bits)

-- the number of a text, if it is one of `bits` bits
abbrev pub number_in : ℕ → Text → Option ℕ
number_in bits text = if is_number_text bits text then Some (number_of text) else None

-- the number of an option, if its value is one of `bits` bits
abbrev pub given_number : ℕ → Text → List Row → Option ℕ
given_number bits name rows = option_and_then (number_in bits) (one_of name rows)

-- the number of an option, or this default if there is none
abbrev pub number_or : (default : ℕ) → ℕ → Text → List Row → ℕ
number_or default bits name rows = unwrap_or (given_number bits name rows) default

-- a flag is up if it is given; `clap` has a text for either
abbrev pub IsFlagOf : Option Text → Bool → Type 0
IsFlagOf text flag =
    (text ≡ Some (codes "true") → flag ≡ true)
    × (text ≡ Some (codes "false") → flag ≡ false)
    × (text ≡ None → flag ≡ false)

-- each character is 0 or 1
abbrev pub is_bits : Text → Bool
is_bits text = list_all (λ b. b == 48 || b == 49) text

abbrev pub bits_in : Text → List Bool
bits_in text = map (λ b. b == 49) text

-- the entries, which are `main` if none are given
abbrev pub entries_in : List Row → List Text
entries_in rows = unwrap_or (all_of (codes "ENTRY") rows) (codes "main" ∷ [])

-- the bits that a text gives in order of declaration, unless it gives them by name
abbrev pub bits_given : Text → Option (List Bool)
bits_given text = if gives_names text then None else Some (bits_in text)

-- the globals to which a text gives bits by name
abbrev pub names_given : Text → List NamedBitOf
names_given text = if gives_names text then named_bits text else []

-- a text is bits, or gives names bits
abbrev pub is_init : Text → Bool
is_init text = if gives_names text then are_named_bits text else is_bits text

-- the initial bits, if they are given in order of declaration
abbrev pub init_in : List Row → Option (List Bool)
init_in rows = option_and_then bits_given (first_of (codes "init") rows)

-- the globals whose initial bits are given by name
abbrev pub named_in : List Row → List NamedBitOf
named_in rows = option_map_or names_given (first_of (codes "init") rows) []

-- the start of a run, with this number of contexts if no other is given
abbrev pub start_in : (contexts : ℕ) → List Row → StartOf
start_in contexts rows =
    start_with (entries_in rows) (init_in rows) (number_or contexts 32 (codes "contexts") rows)
    (number_or DEFAULT_CALLS 32 (codes "calls") rows)

-- the initial bits are neither bits nor names with bits
abbrev pub has_bad_init : List Row → Bool
has_bad_init rows = option_map_or (λ t. not (is_init t)) (first_of (codes "init") rows) false

-- the verdict that a text names
abbrev pub verdict_named : Text → Option Verdict
verdict_named text =
    if bytes_eq text (codes "failure") then Some verdict.Failure
    else if bytes_eq text (codes "deadlock") then Some verdict.Deadlock
    else if bytes_eq text (codes "run") then Some verdict.Run
    else None

-- the verdict that is expected, if one is given
abbrev pub expected_in : List Row → Option Verdict
expected_in rows = option_and_then verdict_named (first_of (codes "expect") rows)

-- the expected verdict is not a verdict
abbrev pub has_bad_verdict : List Row → Bool
has_bad_verdict rows =
    option_map_or (λ t. not (is_some (verdict_named t))) (first_of (codes "expect") rows) false

-- When an error is explained.

-- the options on explanations are those of the arguments
pub record IsExplainingOf (rows : List Row) (x : Explaining) : Type 0 where
  pub always : IsFlagOf (one_of (codes "explain") rows) x.always
  pub never : IsFlagOf (one_of (codes "no-explain") rows) x.never
