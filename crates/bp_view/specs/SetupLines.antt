-- The head of a view: the setup of its history.
use Rattle.std.specs.Prelude.{◌≡◌, ℕ, List, [], ◌∷◌, codes, max, if◌then◌else◌, suc, ◌++◌, Option, None, Some, decimal, flat_map}
use Rattle.std.specs.List.{concat}
use Rattle.bp_text.specs.Pieces.{at_left, at_right, key_text, list_text, number_or_null}
use Rattle.bp_syntax.specs.Ast.{Name}
use Rattle.bp_flat.specs.Moves.{Valuation, binding}
use Rattle.bp_machine.specs.Setups.{SetupOf}
use Rattle.bp_source.specs.Listings.{string_item}
use Rattle.bp_source.specs.declared.options.ViewFormat.{ViewFormat}
use Rattle.bp_source.specs.declared.options.ViewFormat.TheVariants.{Columns, Json}
use Rattle.bp_source.specs.declared.options.ViewOptions.{ViewOptions}
use Rattle.bp_view.specs.declared.view_contexts.Widths.{Widths}
use Rattle.bp_view.specs.Lines.{variables_text, AreWidths, Extent}

-- The headings over the columns of a view.

-- each column is at least as wide as its heading
abbrev pub under_headings : Widths → Widths
under_headings w =
    record w {
      number = max 4 w.number;
      thread = max 6 w.thread;
      context = max 7 w.context;
      place = max 5 w.place;
    }

-- the widths of the columns of a view with headings
pub record AreHeaded (s : SetupOf) (e : Extent) (w : Widths) : Type 0 where
  pub plain : Widths
  pub are : AreWidths s e plain
  pub is : w ≡ under_headings plain

-- the headings of columns of these widths
abbrev pub headings_line : Widths → List ℕ
headings_line w =
    concat (
    codes " " ∷ at_right w.number (codes "call")
    ∷ codes " " ∷ at_right w.thread (codes "thread")
    ∷ codes " " ∷ at_right w.context (codes "context")
    ∷ codes " " ∷ at_left w.place (codes "place")
    ∷ codes "  statement\n" ∷ [])

-- the headings in this format; objects have none
abbrev pub headings_in : ViewFormat → Widths → List ℕ
headings_in Columns w = headings_line w
headings_in Json w = []

-- the number of a thread, and the procedure in which it begins
abbrev pub thread_line : ℕ → List ℕ → List ℕ
thread_line i entry =
    concat (codes "thread " ∷ decimal i ∷ codes " begins in " ∷ entry ∷ codes "\n" ∷ [])

-- a line for each of these entries, whose first is that of thread i
abbrev pub thread_lines : ℕ → List (List ℕ) → List ℕ
thread_lines i [] = []
thread_lines i (e ∷ es) = thread_line i e ++ thread_lines (suc i) es

-- the values of the globals, or no line if there are none
abbrev pub globals_line : Valuation → List ℕ
globals_line [] = []
globals_line (x ∷ xs) =
    codes "globals" ++ variables_text Columns None (x ∷ xs) ++ codes "\n"

abbrev pub seed_line : Option ℕ → List ℕ
seed_line None = codes "seed none\n"
seed_line (Some n) = concat (codes "seed " ∷ decimal n ∷ codes "\n" ∷ [])

abbrev pub limit_lines : SetupOf → List ℕ
limit_lines s =
    concat (
    codes "contexts at most " ∷ decimal s.contexts ∷ codes "\n"
    ∷ codes "calls of a thread at most " ∷ decimal s.calls ∷ codes "\n" ∷ [])

-- the entries of the threads, the globals with their initial values, the limits and the seed, and
-- an empty line
abbrev pub head_lines : List Name → SetupOf → List ℕ
head_lines globals s =
    concat (
    thread_lines 0 s.entries
    ∷ globals_line (binding globals s.init)
    ∷ limit_lines s ∷ seed_line s.seed ∷ codes "\n" ∷ [])

-- the setup as an object of JSON, with the version of the format
abbrev pub head_object : List Name → SetupOf → List ℕ
head_object globals s =
    concat (
    codes "{\"kind\":\"setup\",\"version\":2"
    ∷ key_text (codes "threads") ∷ list_text (flat_map string_item s.entries)
    ∷ key_text (codes "globals")
    ∷ list_text (variables_text Json None (binding globals s.init))
    ∷ key_text (codes "max_contexts") ∷ decimal s.contexts
    ∷ key_text (codes "max_calls") ∷ decimal s.calls
    ∷ key_text (codes "seed") ∷ number_or_null s.seed
    ∷ codes "}\n" ∷ [])

-- the setup in this format
abbrev pub head_in : ViewFormat → List Name → SetupOf → List ℕ
head_in Columns globals s = head_lines globals s
head_in Json globals s = head_object globals s

-- the setup, which a brief view leaves out
abbrev pub setup_head : ViewOptions → List Name → SetupOf → List ℕ
setup_head o globals s = if o.is_brief then [] else head_in o.format globals s

-- the head of a view: the setup, and the headings over columns of these widths
abbrev pub view_head : ViewOptions → List Name → SetupOf → Widths → List ℕ
view_head o globals s w = setup_head o globals s ++ headings_in o.format w
