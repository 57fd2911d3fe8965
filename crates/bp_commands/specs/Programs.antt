-- The commands `check` and `code`, and programs with a setup whose globals have bits by name.
use Rattle.std.specs.Prelude.{if◌then◌else◌, ◌≡◌, ℕ, Bool, List, [], ◌∷◌, length, codes, decimal, ◌⊎◌, None}
use Rattle.std.specs.List.{concat}
use Rattle.bp_syntax.specs.Ast.{Program}
use Rattle.bp_machine.specs.declared.setup_errors.SetupError.{SetupError}
use Rattle.bp_machine.specs.Setups.{IsSetupRefusal, SetupOf, StartOf, setup_error, setup_from}
use Rattle.bp_code.specs.WellFormedTexts.{IsWellFormedText, IsProgramRefusal, IsCodeRefusal}
use Rattle.bp_code.specs.declared.texts.ProgramError.{ProgramError}
use Rattle.bp_code.specs.CompiledCode.{flat_of}
use Rattle.bp_code.specs.Listing.{listing_text}
use Rattle.bp_code.specs.declared.texts.CodeError.{CodeError}
use Rattle.bp_source.specs.Listings.{program_object, IsCodeInJson, IsSourcedListing}
use Rattle.bp_source.specs.NamedBits.{NamedBitOf, start_by_names, AreGlobals, IsUnknown}
use Rattle.bp_source.specs.declared.tasks.ListingForm.{ListingForm}
use Rattle.bp_source.specs.declared.tasks.ListingForm.TheVariants.{Lines, Sourced, Json}
use Rattle.bp_messages.specs.declared.errors.Error.{Error}
use Rattle.bp_messages.specs.ErrorTable.{error_of_program, error_of_code, error_of_setup}
use Rattle.bp_messages.specs.declared.errors.Error.TheVariants.{Memory, NoVariable}
use Rattle.bp_commands.specs.Commands.{Command}

-- The command `check`.

-- `ok`, the number of procedures, and the number of globals
abbrev pub check_line : Program → List ℕ
check_line p = concat (
    codes "ok " ∷ decimal (length p.procedures)
    ∷ codes " " ∷ decimal (length p.globals)
    ∷ codes "\n" ∷ [])

-- the text is that of a well-formed program, and this is written of it
pub record IsOfProgram (text_of : Program → List ℕ) (text written : List ℕ) : Type 0 where
  pub program : Program
  pub well_formed : IsWellFormedText text program
  pub is : written ≡ text_of program

-- the text is not that of a well-formed program
pub record IsIllFormed (text : List ℕ) (f : Error) : Type 0 where
  pub cause : ProgramError
  pub why : IsProgramRefusal text cause
  pub is : f ≡ error_of_program cause

-- the text written of a program, as JSON or not
abbrev pub check_text : (json : Bool) → Program → List ℕ
check_text json t = if json then program_object t else check_line t

-- the command writes the numbers of procedures and globals, or their names as JSON
abbrev pub checks : (json : Bool) → Command (List ℕ) (Unit {0})
checks json = record {
  Writes = IsOfProgram (check_text json);
  Reports = λ text written _. IsOfProgram (check_text json) text written;
  Refuses = IsIllFormed;
  Spoils = λ _ _ _. ⊥;
}

-- The command `code`.

-- the listing of the code of a program
abbrev pub listing_of : Program → List ℕ
listing_of p = listing_text (flat_of p)

-- this is the listing of a program's code, the one with the source of each instruction, or the one
-- in JSON
abbrev pub IsListingText : ListingForm → (text : List ℕ) → Program → List ℕ → Type 0
IsListingText Lines text t written = written ≡ listing_of t
IsListingText Sourced text t written = IsSourcedListing text t (listing_of t) written
IsListingText Json text t written = IsCodeInJson text t (flat_of t) written

-- the text is that of a well-formed program, and this is its listing
pub record IsListed (form : ListingForm) (text written : List ℕ) : Type 0 where
  pub program : Program
  pub well_formed : IsWellFormedText text program
  pub is : IsListingText form text program written

-- the text has no code
pub record HasNoCode (text : List ℕ) (f : Error) : Type 0 where
  pub cause : CodeError
  pub why : IsCodeRefusal text cause
  pub is : f ≡ error_of_code cause

-- the command writes the listing of the program's code in this form
abbrev pub lists : ListingForm → Command (List ℕ) (Unit {0})
lists form = record {
  Writes = IsListed form;
  Reports = λ text written _. IsListed form text written;
  Refuses = HasNoCode;
  Spoils = λ _ _ _. ⊥;
}

-- The start of a run, in which globals may have their initial bits by name.

-- the start in which these globals have their bits, if any are named
abbrev pub start_asked : StartOf → List NamedBitOf → Program → StartOf
start_asked start [] t = start
start_asked start (n ∷ ns) t = start_by_names start (n ∷ ns) t

-- The program of a text is run from this start, in which these globals have their bits by name.
module _ (start : StartOf) (named : List NamedBitOf) (text : List ℕ) where
  -- the text is that of this well-formed program, which has these globals
  pub record IsProgramWith (t : Program) : Type 0 where
    pub well_formed : IsWellFormedText text t
    pub known : AreGlobals t named

  -- the program accepts this setup
  pub record IsOpened (t : Program) (s : SetupOf) : Type 0 where
    pub of : IsProgramWith t
    pub setup : s ≡ setup_from (start_asked start named t) None t
    pub fine : setup_error t s ≡ None

  -- it does not accept its setup
  pub record IsSetupRefused (f : Error) : Type 0 where
    pub program : Program
    pub of : IsProgramWith program
    pub cause : SetupError
    pub why :
        let asked = start_asked start named program in
        IsSetupRefusal program (setup_from asked None program) cause
    pub is : f ≡ error_of_setup cause

  -- the text is that of a well-formed program, and the name of this number is the first of no
  -- global
  pub record HasNoGlobal (f : Error) : Type 0 where
    pub program : Program
    pub well_formed : IsWellFormedText text program
    pub number : ℕ
    pub unknown : IsUnknown program named number
    pub is : f ≡ NoVariable number

  -- the text is that of a well-formed program, and memory was refused
  pub record LacksMemory (f : Error) : Type 0 where
    pub program : Program
    pub well_formed : IsWellFormedText text program
    pub is : f ≡ Memory

  -- why there is no such setup
  abbrev pub IsNotOpened : Error → Type 0
  IsNotOpened f = HasNoCode text f ⊎ (HasNoGlobal f ⊎ (IsSetupRefused f ⊎ LacksMemory f))
