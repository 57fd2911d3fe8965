-- The line of an attempt in columns, its object in JSON, and the parts of both.
use Rattle.std.specs.Prelude.{if◌then◌else◌, ℕ, Bool, true, false, List, [], ◌∷◌, ◌++◌, codes, ◌-◌, Option, None, Some, length, max, min, nat_lt, take, flat_map, map, option_map, ◌*◌, decimal, ◌==◌, ◌≡◌, ◌+◌}
use Rattle.std.specs.List.{concat}
use Rattle.bp_text.specs.Pieces.{string_text, bit_text, key_text, string_or_null, at_left, at_right, spaces, bit_or_null, list_text, number_or_null, truth_text}
use Rattle.bp_syntax.specs.Ast.{Procedure}
use Rattle.bp_flat.specs.Moves.{Valuation}
use Rattle.bp_machine.specs.declared.calls.Reply.{Reply}
use Rattle.bp_machine.specs.declared.calls.Reply.TheVariants.{Failed, Stopped, Ended, NoContexts, Full, Blocked, Stepped}
use Rattle.bp_machine.specs.Setups.{SetupOf, threads}
use Rattle.bp_source.specs.Listings.{column_of, line_of}
use Rattle.bp_source.specs.declared.options.ViewFormat.{ViewFormat}
use Rattle.bp_source.specs.declared.options.ViewFormat.TheVariants.{Columns, Json}
use Rattle.bp_view.specs.CallFacts.{owned, Entry, choice_of, Next, ShownCall}
use Rattle.bp_view.specs.declared.prefixes.Colour.{Colour}
use Rattle.bp_view.specs.declared.prefixes.Colour.TheVariants.{Plain, Red, Yellow}
use Rattle.bp_view.specs.declared.statement_columns.TheConstants.{LEAST_STATEMENT, MAX_STATEMENT, OTHER_COLUMNS}
use Rattle.bp_view.specs.declared.view_contexts.TheConstants.{MAX_INDENTS}
use Rattle.bp_view.specs.declared.view_contexts.Widths.{Widths}
use Rattle.bp_view.specs.declared.prefixes.PrefixKey.{PrefixKey}
use Rattle.bp_view.specs.declared.view_contexts.ViewContext.{ViewContext}

-- The colours of a view's lines, for a terminal.

-- a failure is red, another step after one of another thread is yellow; all lines are plain if no
-- colours are wanted
abbrev pub colour_of : (wanted : Bool) → Reply → (switch : Bool) → Colour
colour_of false reply switch = Plain
colour_of true Failed switch = Red
colour_of true reply switch = if switch then Yellow else Plain

-- the escape sequence of a terminal with this code
abbrev pub sign : List ℕ → List ℕ
sign code = 27 ∷ 91 ∷ (code ++ codes "m")

abbrev pub opening : Colour → List ℕ
opening Red = sign (codes "31")
opening Yellow = sign (codes "33")
opening Plain = []

abbrev pub closing : Colour → List ℕ
closing Red = sign (codes "0")
closing Yellow = sign (codes "0")
closing Plain = []

-- The columns of a statement, and how a text is cut.

-- the most bytes of a statement: if a line has this number of columns, those that the other fields
-- and a note leave, from LEAST_STATEMENT to MAX_STATEMENT
abbrev pub statement_room : Option ℕ → ℕ
statement_room None = MAX_STATEMENT
statement_room (Some columns) = max LEAST_STATEMENT (min MAX_STATEMENT (columns - OTHER_COLUMNS))

-- at most `room` bytes: a longer text is cut, and ends with two dots
abbrev pub shortened : (room : ℕ) → List ℕ → List ℕ
shortened room statement =
    if nat_lt room (length statement) then take (room - 2) statement ++ codes ".." else statement

-- The texts of variables with their values.

-- the procedure of a local, and a dot; a global has none
abbrev pub owner_text : Option Procedure → List ℕ
owner_text None = []
owner_text (Some p) = concat (p.name.text ∷ codes "." ∷ [])

-- a variable with its value, for people
abbrev pub assignment_text : Option Procedure → List ℕ → Bool → List ℕ
assignment_text owner name value =
    concat (
    codes " " ∷ owner_text owner
    ∷ name ∷ codes "=" ∷ bit_text value ∷ [])

-- a variable as an object of JSON after a comma
abbrev pub variable_object : Option Procedure → List ℕ → Bool → List ℕ
variable_object owner name value =
    concat (
    codes ",{\"procedure\":" ∷ string_or_null (option_map (λ p. p.name.text) owner)
    ∷ key_text (codes "name") ∷ string_text name
    ∷ key_text (codes "value") ∷ bit_text value
    ∷ codes "}" ∷ [])

-- a variable in a view of this format
abbrev pub variable_text : ViewFormat → Option Procedure → List ℕ → Bool → List ℕ
variable_text Columns owner name value = assignment_text owner name value
variable_text Json owner name value = variable_object owner name value

-- an entry in this format, and several
abbrev pub entry_text : ViewFormat → Entry → List ℕ
entry_text format x = variable_text format x.owner x.name x.value

abbrev pub entries_text : ViewFormat → List Entry → List ℕ
entries_text format xs = flat_map (entry_text format) xs

-- the variables of an owner in this format
abbrev pub variables_text : ViewFormat → Option Procedure → Valuation → List ℕ
variables_text format owner values = entries_text format (owned owner values)

-- The line of an attempt in columns.

-- the note of a reply
abbrev pub reply_note : Reply → List ℕ
reply_note Stopped = codes " stopped"
reply_note Ended = codes " ended"
reply_note NoContexts = codes " out of contexts"
reply_note Full = codes " stack full"
reply_note Blocked = codes " waits"
reply_note Failed = codes " failed"
reply_note Stepped = []

-- the number of the context of a step, or a dash if an attempt made none
abbrev pub context_text : Option ℕ → List ℕ
context_text None = codes "-"
context_text (Some n) = decimal n

-- a sign before a step that follows another thread's
abbrev pub mark_text : Bool → List ℕ
mark_text switch = if switch then codes ">" else codes " "

-- the fields of an attempt before its place, in columns of these widths
abbrev pub field_texts : Widths → ShownCall → List (List ℕ)
field_texts w f =
    mark_text f.switch
    ∷ at_right w.number (decimal f.number) ∷ codes " "
    ∷ at_right w.thread (decimal f.call.thread) ∷ codes " "
    ∷ at_right w.context (context_text f.context) ∷ codes " " ∷ []

-- the text of a statement as its column of `room` bytes has it, after two columns for each frame of
-- a stack, for MAX_INDENTS frames at most
abbrev pub indented : (room depth : ℕ) → (statement : Option (List ℕ)) → List ℕ
indented room depth None = []
indented room depth (Some statement) =
    concat (spaces (2 * min depth MAX_INDENTS) ∷ shortened room statement ∷ [])

-- a choice bit, if one is shown
abbrev pub choice_text : Option Bool → List ℕ
choice_text None = []
choice_text (Some bit) = if bit then codes " ?=1" else codes " ?=0"

-- the number of attempts in a line, if there are several
abbrev pub times_text : ℕ → List ℕ
times_text calls =
    if nat_lt 1 calls then concat (codes " " ∷ decimal calls ∷ codes " times" ∷ []) else []

-- the note of an attempt: its choice bit, the note of its reply, the number of attempts in the
-- line, and its changes
abbrev pub note_text : ShownCall → (calls : ℕ) → List ℕ
note_text f calls =
    concat (
    choice_text (choice_of f)
    ∷ reply_note f.call.reply
    ∷ times_text calls
    ∷ entries_text Columns f.changes ∷ [])

-- a note after a lead; both are left out without a note
abbrev pub led : (lead note : List ℕ) → List ℕ
led lead [] = []
led lead (b ∷ bs) = lead ++ b ∷ bs

-- the place in its column, and the statement
abbrev pub standing_text : Widths → ShownCall → List ℕ
standing_text w f =
    at_left w.place f.next.place ++ indented w.statement f.next.depth f.next.text

-- the fields, the place, the statement, and after its column the note
abbrev pub call_text : Widths → ShownCall → (calls : ℕ) → List ℕ
call_text w f calls =
    let statement = indented w.statement f.next.depth f.next.text in
    concat (
    concat (field_texts w f)
    ∷ at_left w.place f.next.place
    ∷ statement
    ∷ led (spaces (w.notes - length statement)) (note_text f calls)
    ∷ [])

-- The text of an attempt in at most `columns` columns. The place and the statement have those that
-- the fields and the note leave, and are cut at their end: the statement first, and then the place.
-- The note is cut only if it has no room even then.
abbrev pub narrow_text : (columns : ℕ) → Widths → ShownCall → (calls : ℕ) → List ℕ
narrow_text columns w f calls =
    let fields = concat (field_texts w f) in
    let note = note_text f calls in
    let room = columns - length fields - length note in
    shortened columns (
    concat (fields ∷ at_left room (shortened room (standing_text w f)) ∷ note ∷ []))

-- the text of an attempt, in at most this number of columns
abbrev pub fitted_text : Option ℕ → Widths → ShownCall → (calls : ℕ) → List ℕ
fitted_text None w f calls = call_text w f calls
fitted_text (Some columns) w f calls =
    if nat_lt columns (length (call_text w f calls))
    then narrow_text columns w f calls
    else call_text w f calls

-- the line of an attempt, in a colour
abbrev pub line_text : Widths → Colour → ShownCall → (calls : ℕ) → List ℕ
line_text w colour f calls =
    concat (
    opening colour
    ∷ fitted_text w.line w f calls
    ∷ closing colour
    ∷ codes "\n" ∷ [])

-- the line of an attempt in the colour of its reply, if colours are wanted
abbrev pub column_line : (has_colour : Bool) → Widths → ShownCall → (calls : ℕ) → List ℕ
column_line has_colour w f calls =
    line_text w (colour_of has_colour f.call.reply f.switch) f calls

-- The object of an attempt in JSON.

-- the name of a reply
abbrev pub reply_name : Reply → List ℕ
reply_name Stopped = codes "stopped"
reply_name Ended = codes "ended"
reply_name NoContexts = codes "out_of_contexts"
reply_name Full = codes "stack_full"
reply_name Blocked = codes "waits"
reply_name Failed = codes "failed"
reply_name Stepped = codes "stepped"

-- the texts of the first members of an attempt
abbrev pub first_members : ShownCall → List (List ℕ)
first_members f =
    codes "{\"kind\":\"call\""
    ∷ key_text (codes "number") ∷ decimal f.number
    ∷ key_text (codes "thread") ∷ decimal f.call.thread
    ∷ key_text (codes "context") ∷ number_or_null f.context ∷ []

-- those of the others that have one value each: of the step, its thread's next statement, and the
-- reply
abbrev pub member_texts : ShownCall → List (List ℕ)
member_texts f =
    key_text (codes "switch") ∷ truth_text f.switch
    ∷ key_text (codes "line") ∷ number_or_null (line_of f.next.position)
    ∷ key_text (codes "column") ∷ number_or_null (column_of f.next.position)
    ∷ key_text (codes "procedure") ∷ string_or_null f.next.procedure
    ∷ key_text (codes "depth") ∷ decimal f.next.depth
    ∷ key_text (codes "statement") ∷ string_or_null f.next.text
    ∷ key_text (codes "choice") ∷ bit_or_null (choice_of f)
    ∷ key_text (codes "reply") ∷ string_text (reply_name f.call.reply)
    ∷ []

abbrev pub bit_item : Bool → List ℕ
bit_item bit = concat (codes "," ∷ bit_text bit ∷ [])

abbrev pub printed_text : Option (List Bool) → List ℕ
printed_text None = codes "null"
printed_text (Some values) = list_text (flat_map bit_item values)

-- an attempt: the members that have one value each, its changes and its printed values
abbrev pub call_object : ShownCall → (printed : Option (List Bool)) → List ℕ
call_object f printed =
    concat (
    concat (first_members f) ∷ concat (member_texts f)
    ∷ key_text (codes "changes") ∷ list_text (entries_text Json f.changes)
    ∷ key_text (codes "printed") ∷ printed_text printed
    ∷ codes "}\n" ∷ [])

-- A device: the fields of a line before its place, whose text is kept from line to line.

-- the digits of a number before its last, from a tenth of the number
abbrev pub tens_digits : ℕ → List ℕ
tens_digits tens = if tens == 0 then [] else decimal tens

-- those digits in the column of the number
abbrev pub tens_text : PrefixKey → List ℕ
tens_text k = at_right (k.number_width - 1) (tens_digits k.tens)

-- the fields of thread and context, with a space before, between and after them
abbrev pub turn_texts : PrefixKey → List (List ℕ)
turn_texts k =
    codes " "
    ∷ at_right k.thread_width (decimal k.thread) ∷ codes " "
    ∷ at_right k.context_width (context_text k.context) ∷ codes " " ∷ []

-- all of them, with this sign before them, and with this last digit of the number
abbrev pub prefix_text : PrefixKey → (mark digit : ℕ) → List ℕ
prefix_text k mark digit = mark ∷ (tens_text k ++ digit ∷ concat (turn_texts k))

-- A device: the members of a thread's next statement, ready to be added to an object.

-- those before its depth, with the key of that, and those after it
abbrev pub front_members : Next → List (List ℕ)
front_members n =
    key_text (codes "line") ∷ number_or_null (line_of n.position)
    ∷ key_text (codes "column") ∷ number_or_null (column_of n.position)
    ∷ key_text (codes "procedure") ∷ string_or_null n.procedure
    ∷ key_text (codes "depth") ∷ []

abbrev pub text_members : Next → List (List ℕ)
text_members n = key_text (codes "statement") ∷ string_or_null n.text ∷ []

pub record AreReady (n : Next) (front text : List ℕ) : Type 0 where
  pub front_is : front ≡ concat (front_members n)
  pub text_is : text ≡ concat (text_members n)

-- a view in columns has none
abbrev pub AreReadyIn : ViewFormat → Next → (front text : List ℕ) → Type 0
AreReadyIn Columns n front text = Unit {0}
AreReadyIn Json n front text = AreReady n front text

-- The widths of the columns of a view: one width of each for all its lines.

-- the length of the longest of these texts
abbrev pub longest : List (List ℕ) → ℕ
longest [] = 0
longest (x ∷ xs) = max (length x) (longest xs)

-- The quantities that determine the widths of a view: its number of attempts, the places and the
-- texts of the statements of its program, the number of its procedures, and the columns of a line.
pub record Extent : Type 0 where
  pub calls : ℕ
  pub places : List (List ℕ)
  pub statements : List (List ℕ)
  pub procedures : ℕ
  pub columns : Option ℕ

abbrev pub extent : ℕ → List (List ℕ) → List (List ℕ) → ℕ → Option ℕ → Extent
extent calls places statements procedures columns =
    record {
      calls = calls;
      places = places;
      statements = statements;
      procedures = procedures;
      columns = columns;
    }

-- The widths of a view: those of the greatest number of an attempt, of the number of threads, of
-- the limit of the contexts, and of the longest place. The notes begin after the longest statement
-- as its column has it, moved by two columns for each procedure, up to the maximum. Lines and
-- statements are cut if the columns of a line are limited.
pub record AreWidths (s : SetupOf) (e : Extent) (w : Widths) : Type 0 where
  pub number : w.number ≡ length (decimal e.calls)
  pub thread : w.thread ≡ length (decimal (threads s))
  pub context : w.context ≡ length (decimal s.contexts)
  pub place : w.place ≡ max 1 (longest e.places)
  pub notes :
      let room = statement_room e.columns in
      w.notes ≡ longest (map (shortened room) e.statements) + 2 * min e.procedures MAX_INDENTS
  pub statement : w.statement ≡ statement_room e.columns
  pub line : w.line ≡ e.columns

-- a device: the extent that the code reads from its context
abbrev pub extent_of : ViewContext → Extent
extent_of x =
    let places = map (λ s. s.place.items) x.program.statements.now in
    let statements = map (λ s. s.excerpt.text.items) x.program.statements.now in
    extent (length x.history.now) places statements (length x.program.procs.now) x.options.columns
