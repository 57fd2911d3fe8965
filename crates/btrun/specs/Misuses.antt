-- Errors in options that `clap` accepts one by one.
use Rattle.std.specs.Prelude.{if◌then◌else◌, ◌&&◌, ℕ, Bool, true, false, List, [], ◌∷◌, ◌++◌, Option, Some, None, codes, map, nat_lt, find, option_and_then}
use Rattle.std.specs.Option.{option_map_or}
use Rattle.std.specs.Str.{bytes_eq}
use Rattle.clap.specs.Kinds.{Kinds}
use Rattle.clap.specs.Walk.{Row, Text}
use Rattle.clap.specs.declared.error.kind.ErrorKind.{ErrorKind}
use Rattle.clap.specs.declared.error.kind.ErrorKind.TheVariants.{ArgumentConflict, InvalidValue}
use Rattle.clap.specs.declared.parser.matches.ValueSource.{ValueSource}
use Rattle.clap.specs.declared.parser.matches.ValueSource.TheVariants.{CommandLine, DefaultValue}
use Rattle.btrun.specs.Values.{has_bad_init, has_bad_verdict, given_number}
use Rattle.btrun.specs.declared.arguments.misuses.Misuse.{Misuse}
use Rattle.btrun.specs.declared.arguments.misuses.Misuse.TheVariants.{BadInit, BadVerdict, Together, Backwards}
use Rattle.btrun.specs.declared.arguments.misuses.OptionName.{OptionName}
use Rattle.btrun.specs.declared.arguments.misuses.OptionName.TheVariants as option

abbrev pub option_name : OptionName → Text
option_name option.At = codes "at"
option_name option.Contexts = codes "contexts"
option_name option.Steps = codes "steps"
option_name option.Valid = codes "valid"
option_name option.Through = codes "through"
option_name option.Deadlock = codes "deadlock"
option_name option.Thread = codes "thread"
option_name option.Last = codes "last"
option_name option.From = codes "from"
option_name option.To = codes "to"
option_name option.Watch = codes "watch"
option_name option.Fold = codes "fold"
option_name option.State = codes "state"
option_name option.Brief = codes "brief"
option_name option.Json = codes "json"
option_name option.Explain = codes "explain"
option_name option.NoExplain = codes "no-explain"

abbrev pub is_from_line : Option ValueSource → Bool
is_from_line (Some CommandLine) = true
is_from_line (Some DefaultValue) = false
is_from_line None = false

-- the arguments gave the option; a default does not count
abbrev pub is_on_line : List Row → OptionName → Bool
is_on_line rows o =
    let row = find (λ r. bytes_eq r.id (option_name o)) rows in
    is_from_line (option_and_then (λ r. r.source) row)

abbrev pub are_on_line : List Row → OptionName × OptionName → Bool
are_on_line rows pair = is_on_line rows pair.0 && is_on_line rows pair.1

-- the options that choose attempts, or that change their lines
abbrev pub on_calls : List OptionName
on_calls =
    option.Thread
    ∷ option.Last
    ∷ option.From
    ∷ option.To
    ∷ option.Watch
    ∷ option.Fold
    ∷ option.State
    ∷ option.Brief
    ∷ []

abbrev pub pairs_of : OptionName → List OptionName → List (OptionName × OptionName)
pairs_of first others = map (λ other. (first, other)) others

-- With the first option of a pair, the second has no effect. A view in place of the attempts
-- clashes with other views, and with the options on attempts. Steps have no line that says that a
-- trace is refused. A run through steps need not end in a deadlock.
abbrev pub clashes : List (OptionName × OptionName)
clashes =
    pairs_of option.At (option.Contexts ∷ option.Steps ∷ on_calls)
    ++ pairs_of option.Contexts (option.Steps ∷ on_calls)
    ++ pairs_of option.Steps on_calls
    ++ (option.Steps, option.Valid)
    ∷ (option.Through, option.Deadlock)
    ∷ (option.Json, option.Fold)
    ∷ (option.Explain, option.NoExplain)
    ∷ []

-- the first pair of which both were given
abbrev pub clash_in : List Row → Option (OptionName × OptionName)
clash_in rows = find (are_on_line rows) clashes

-- the numbers if the first is the greater one
abbrev pub descending : Option ℕ → Option ℕ → Option (ℕ × ℕ)
descending (Some m) (Some n) = if nat_lt n m then Some (m, n) else None
descending _ _ = None

abbrev pub backwards_in : List Row → Option (ℕ × ℕ)
backwards_in rows =
    descending (given_number 64 (codes "from") rows) (given_number 64 (codes "to") rows)

-- the error in two options, or in the attempts from one to another
abbrev pub pair_misuse : Option (OptionName × OptionName) → Option (ℕ × ℕ) → Option Misuse
pair_misuse (Some pair) backwards = Some (Together pair.0 pair.1)
pair_misuse None (Some calls) = Some (Backwards calls.0 calls.1)
pair_misuse None None = None

-- the error in the options of a command: the first that applies
abbrev pub misuse_in : List Row → Option Misuse
misuse_in rows =
    if has_bad_init rows then Some BadInit
    else if has_bad_verdict rows then Some BadVerdict
    else pair_misuse (clash_in rows) (backwards_in rows)

abbrev pub misuse_of : Option (Text × List Row) → Option Misuse
misuse_of command = option_and_then (λ c. misuse_in c.1) command

-- two options that clash are a conflict; else a value is wrong
abbrev pub misuse_kind : Misuse → ErrorKind
misuse_kind (Together first second) = ArgumentConflict
misuse_kind _ = InvalidValue

-- the kind of error of options that `clap` accepts one by one
abbrev pub misuse_kinds : Option (Text × List Row) → Kinds
misuse_kinds command = option_map_or (λ m. misuse_kind m ∷ []) (misuse_of command) []
