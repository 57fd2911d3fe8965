-- The answer to arguments that ask for no task.
use Rattle.std.specs.Prelude.{if◌then◌else◌, Bool, true, false, List, [], ◌∷◌, codes, ◌≡◌, ◌⊎◌, Result, MatchResult}
use Rattle.std.specs.Str.{bytes_eq}
use Rattle.clap.specs.Walk.{Text}
use Rattle.clap.specs.Kinds.{Kinds}
use Rattle.clap.specs.declared.error.kind.ErrorKind.{ErrorKind}
use Rattle.clap.specs.declared.error.kind.ErrorKind.TheVariants.{OutOfMemory, DisplayHelp, DisplayVersion}
use Rattle.btrun.specs.declared.arguments.no_tasks.NoTask.{NoTask}
use Rattle.btrun.specs.declared.arguments.no_tasks.NoTask.TheVariants.{Memory, Printed, Refused}

-- The kind of answer to arguments that are refused.

-- a word asks for JSON; after a word `--` none does
abbrev pub asks_for_json : List Text → Bool
asks_for_json [] = false
asks_for_json (word ∷ arguments) =
    if bytes_eq word (codes "--") then false
    else if bytes_eq word (codes "--json") then true
    else asks_for_json arguments

-- the arguments ask for help or the version
abbrev pub IsPrinted : NoTask → Type 0
IsPrinted (Printed text) = Unit {0}
IsPrinted _ = ⊥

-- the arguments are refused
abbrev pub IsRefused : NoTask → Type 0
IsRefused (Refused refusal) = Unit {0}
IsRefused _ = ⊥

-- the answer to an error of `clap` of this kind
abbrev pub IsOfKind : ErrorKind → NoTask → Type 0
IsOfKind OutOfMemory none = none ≡ Memory
IsOfKind DisplayHelp none = IsPrinted none
IsOfKind DisplayVersion none = IsPrinted none
IsOfKind _ none = IsRefused none

-- the answer is for one of these kinds
abbrev pub IsOfOne : Kinds → NoTask → Type 0
IsOfOne [] none = ⊥
IsOfOne (k ∷ ks) none = IsOfKind k none ⊎ IsOfOne ks none

-- A task is the result only without kinds. Otherwise an answer is for one of them or for memory.
abbrev pub EndsBy : {T : Type 0} → Kinds → Result T NoTask → Type 0
EndsBy kinds r =
    MatchResult r (λ _. kinds ≡ []) (λ none. (none ≡ Memory) ⊎ IsOfOne kinds none)
