-- The start of a session, and when a setup is refused.
use Rattle.std.specs.Prelude.{if◌then◌else◌, ◌≡◌, ℕ, ◌+◌, ◌<◌, ◌≤◌, ◌==◌, Bool, false, not, ◌||◌, nat_lt, List, [], ◌∷◌, Option, None, Some, length, replicate, codes}
use Rattle.std.specs.Option.{option_or}
use Rattle.bp_syntax.specs.Ast.{Procedure, Program}
use Rattle.bp_syntax.specs.declared.limits.TheConstants.{MAX_GLOBALS}
use Rattle.bp_flat.specs.Moves.{Configuration, procedure_named, start_of}
use Rattle.bp_machine.specs.declared.limits.TheConstants.{MAX_THREADS, MAX_CONTEXTS, MAX_CALLS, DEFAULT_CONTEXTS, DEFAULT_CALLS}
use Rattle.bp_machine.specs.declared.setup_errors.SetupError.{SetupError}
use Rattle.bp_machine.specs.declared.setup_errors.SetupError.TheVariants.{Threads, UnknownEntry, EntryHasFormals, InitLength, OutOfRange, Memory}

-- an entry procedure for each thread, a bit for each global, the contexts and the attempts of a
-- thread that are allowed, and the seed of the choice bits
pub record SetupOf : Type 0 where
  pub entries : List (List ℕ)
  pub init : List Bool
  pub contexts : ℕ
  pub calls : ℕ
  pub seed : Option ℕ

abbrev pub setup_of : List (List ℕ) → List Bool → ℕ → ℕ → Option ℕ → SetupOf
setup_of entries init contexts calls seed = record {
  entries = entries;
  init = init;
  contexts = contexts;
  calls = calls;
  seed = seed;
}

-- the initial bits of n globals: all are 0 if none are given
abbrev pub initial_bits : Option (List Bool) → ℕ → List Bool
initial_bits None n = replicate n false
initial_bits (Some bits) n = bits

abbrev pub threads : SetupOf → ℕ
threads s = length s.entries

-- the configuration at the start
abbrev pub start : Program → SetupOf → Configuration
start t s = start_of t s.entries s.init

-- an entry is a procedure without formals
abbrev pub entry_error : ℕ → Option Procedure → Option SetupError
entry_error k None = Some (UnknownEntry k)
entry_error k (Some p) = if length p.formals == 0 then None else Some (EntryHasFormals k)

-- the first error of the entries from thread k on
abbrev pub entries_error : Program → ℕ → List (List ℕ) → Option SetupError
entries_error t k [] = None
entries_error t k (e ∷ es) =
    option_or (entry_error k (procedure_named t.procedures e)) (entries_error t (k + 1) es)

-- there are no threads, or too many
abbrev pub has_bad_threads : SetupOf → Bool
has_bad_threads s = threads s == 0 || nat_lt MAX_THREADS (threads s)

abbrev pub is_out_of_range : SetupOf → Bool
is_out_of_range s =
    nat_lt MAX_CONTEXTS s.contexts || (s.calls == 0 || nat_lt MAX_CALLS s.calls)

abbrev pub error_if : Bool → SetupError → Option SetupError
error_if b f = if b then Some f else None

abbrev pub first_of : List (Option SetupError) → Option SetupError
first_of [] = None
first_of (o ∷ os) = option_or o (first_of os)

-- the errors of the initial bits and of the numbers
abbrev pub number_errors : Program → SetupOf → List (Option SetupError)
number_errors t s =
    error_if (not (length s.init == length t.globals)) InitLength
    ∷ error_if (is_out_of_range s) OutOfRange
    ∷ []

-- the first error of a setup for a program
abbrev pub setup_error : Program → SetupOf → Option SetupError
setup_error t s = first_of (
    error_if (has_bad_threads s) Threads
    ∷ entries_error t 0 s.entries
    ∷ number_errors t s)

-- why a setup is refused for a program: its first error, or memory if it has none
abbrev pub IsSetupRefusal : Program → SetupOf → SetupError → Type 0
IsSetupRefusal t s Memory = setup_error t s ≡ None
IsSetupRefusal t s f = setup_error t s ≡ Some f

-- the setup fits the program: each entry is a procedure of it without formals, and there is a bit
-- for each global
pub record Fits (t : Program) (s : SetupOf) : Type 0 where
  pub entries : entries_error t 0 s.entries ≡ None
  pub init : length s.init ≡ length t.globals

-- the numbers are within their limits, and there are no more bits than a program may have globals
pub record IsInRange (s : SetupOf) : Type 0 where
  pub some : 0 < threads s
  pub few : threads s ≤ MAX_THREADS
  pub bits : length s.init ≤ MAX_GLOBALS
  pub contexts : s.contexts ≤ MAX_CONTEXTS
  pub one : 0 < s.calls
  pub calls : s.calls ≤ MAX_CALLS

-- The start of a run of a program, and its setup.

-- each thread's entry procedure, the initial bits of the globals if given, and the contexts and the
-- attempts of a thread that are allowed
pub record StartOf : Type 0 where
  pub entries : List (List ℕ)
  pub init : Option (List Bool)
  pub contexts : ℕ
  pub calls : ℕ

abbrev pub start_with : List (List ℕ) → Option (List Bool) → ℕ → ℕ → StartOf
start_with entries init contexts calls = record {
  entries = entries;
  init = init;
  contexts = contexts;
  calls = calls;
}

-- one thread begins with `main`, all globals are 0, and few contexts and attempts are allowed
abbrev pub default_start : StartOf
default_start = start_with (codes "main" ∷ []) None DEFAULT_CONTEXTS DEFAULT_CALLS

-- the setup of a program: all globals begin with 0 if no bits are given
abbrev pub setup_from : StartOf → Option ℕ → Program → SetupOf
setup_from start seed t =
    let bits = initial_bits start.init (length t.globals) in
    setup_of start.entries bits start.contexts start.calls seed
