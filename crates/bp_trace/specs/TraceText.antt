-- The text of a trace: the setups that have one, its head, the lines of its attempts; schedules.
use Rattle.std.specs.Prelude.{◌≡◌, ◌≢◌, ◌<◌, ℕ, Bool, List, [], ◌∷◌, ◌++◌, map, flat_map, decimal, if◌then◌else◌, ◌==◌, Option, None, Some, length, codes, ◌^◌}
use Rattle.std.specs.List.{concat, AllByRecursion}
pub use Rattle.bp_text.specs.Formats.{bit_digit}
use Rattle.bp_machine.specs.declared.calls.Call.{Call}
use Rattle.bp_machine.specs.declared.calls.Reply.{Reply}
use Rattle.bp_machine.specs.Setups.{SetupOf}
use Rattle.bp_machine.specs.Histories.{live_threads, letter_of}
use Rattle.bp_trace.specs.declared.drives.ScheduleLine.{ScheduleLine}
use Rattle.bp_trace.specs.declared.traces.Version.{Version}
use Rattle.bp_trace.specs.declared.traces.Version.TheVariants.{One, Two}

-- Schedules: lines that give the thread of the next attempt, and its choice bit.

-- the thread, a space, the bit and a line feed
abbrev pub line_text : ScheduleLine → List ℕ
line_text x = decimal x.thread ++ 32 ∷ bit_digit x.bit ∷ 10 ∷ []

abbrev pub schedule_text : List ScheduleLine → List ℕ
schedule_text xs = flat_map line_text xs

-- the schedule line of an attempt
abbrev pub line_of_call : Call → ScheduleLine
line_of_call x = record { thread = x.thread; bit = x.bit }

abbrev pub lines_of_history : List Call → List ScheduleLine
lines_of_history h = map line_of_call h

-- this line of a thread below n begins the text
abbrev pub IsLineAt : ℕ → List ℕ → ScheduleLine → Type 0
IsLineAt n text x = (more : List ℕ) × (x.thread < n) × (text ≡ line_text x ++ more)

-- no line of a thread below n begins the text
abbrev pub HasNoLine : ℕ → List ℕ → Type 0
HasNoLine n text = (x : ScheduleLine) (more : List ℕ) → x.thread < n → text ≢ line_text x ++ more

-- The pieces of a history: the cut of its attempts into the fewest lists of one thread each.

-- a choice bit and the reply to it
pub record Symbol : Type 0 where
  pub bit : Bool
  pub reply : Reply

-- successive attempts of one thread, at least one
pub record Piece : Type 0 where
  pub thread : ℕ
  pub first : Symbol
  pub others : List Symbol

abbrev pub symbol_of : Call → Symbol
symbol_of x = record { bit = x.bit; reply = x.reply }

abbrev pub call_of : ℕ → Symbol → Call
call_of i symbol = record { thread = i; bit = symbol.bit; reply = symbol.reply }

abbrev pub calls_of_piece : Piece → List Call
calls_of_piece p = map (call_of p.thread) (p.first ∷ p.others)

abbrev pub calls_of_pieces : List Piece → List Call
calls_of_pieces ps = flat_map calls_of_piece ps

abbrev pub piece_of : Call → List Symbol → Piece
piece_of x others = record { thread = x.thread; first = symbol_of x; others = others }

-- an attempt, then the pieces: it joins the first piece if that is of its thread
abbrev pub with_call : Call → List Piece → List Piece
with_call x [] = piece_of x [] ∷ []
with_call x (p ∷ ps) =
    if x.thread == p.thread then piece_of x (p.first ∷ p.others) ∷ ps
    else piece_of x [] ∷ p ∷ ps

abbrev pub pieces_of : List Call → List Piece
pieces_of [] = []
pieces_of (x ∷ xs) = with_call x (pieces_of xs)

-- The texts of a trace: a setup and a history, in either version.

abbrev pub entry_line : List ℕ → List ℕ
entry_line name = codes "entry " ++ (name ++ codes "\n")

-- a digit for each global, or a dash if there is none
abbrev pub init_digits : List Bool → List ℕ
init_digits [] = codes "-"
init_digits (b ∷ bs) = map bit_digit (b ∷ bs)

abbrev pub seed_word : Option ℕ → List ℕ
seed_word None = codes "none"
seed_word (Some n) = decimal n

abbrev pub init_line : List Bool → List ℕ
init_line bs = codes "init " ++ (init_digits bs ++ codes "\n")

-- a word, its value, and a line feed
abbrev pub field_line : List ℕ → List ℕ → List ℕ
field_line word value = word ++ (value ++ codes "\n")

abbrev pub limit_lines : SetupOf → List (List ℕ)
limit_lines s =
    field_line (codes "contexts ") (decimal s.contexts)
    ∷ field_line (codes "calls ") (decimal s.calls)
    ∷ field_line (codes "seed ") (seed_word s.seed)
    ∷ []

-- the lines after the entries
abbrev pub setting_lines : SetupOf → List (List ℕ)
setting_lines s = init_line s.init ∷ limit_lines s

abbrev pub version_line : Version → List ℕ
version_line One = codes "btrace 1\n"
version_line Two = codes "btrace 2\n"

-- the lines of a head
abbrev pub head_lines : Version → SetupOf → List (List ℕ)
head_lines v s = version_line v ∷ (map entry_line s.entries ++ setting_lines s)

abbrev pub head_text : Version → SetupOf → List ℕ
head_text v s = concat (head_lines v s)

-- the thread, the choice bit and the letter of the reply
abbrev pub call_line : Call → List ℕ
call_line x = decimal x.thread ++ 32 ∷ bit_digit x.bit ∷ 32 ∷ letter_of x.reply ∷ 10 ∷ []

-- the number of attempts, and of the threads that are live
abbrev pub end_line : ℕ → ℕ → List ℕ
end_line calls left_live = concat (
    codes "end " ∷ decimal calls
    ∷ codes " " ∷ decimal left_live
    ∷ codes "\n" ∷ [])

-- the choice bit and the letter of the reply
abbrev pub symbol_text : Symbol → List ℕ
symbol_text x = bit_digit x.bit ∷ letter_of x.reply ∷ []

-- the thread, and its symbols with nothing between them
abbrev pub piece_line : Piece → List ℕ
piece_line p =
    decimal p.thread ++ 32 ∷ (flat_map symbol_text (p.first ∷ p.others) ++ codes "\n")

-- a line for each attempt, or one for each piece
abbrev pub calls_text : Version → List Call → List ℕ
calls_text One h = flat_map call_line h
calls_text Two h = flat_map piece_line (pieces_of h)

abbrev pub text_of : Version → SetupOf → List Call → List ℕ
text_of v s h = head_text v s ++ (calls_text v h ++ end_line (length h) (live_threads s h))

abbrev pub trace_text : SetupOf → List Call → List ℕ
trace_text s h = text_of One s h

abbrev pub trace_text_2 : SetupOf → List Call → List ℕ
trace_text_2 s h = text_of Two s h

-- The contents that the text of a trace can hold.

-- no byte of the text is this one
abbrev pub Without : ℕ → List ℕ → Type 0
Without byte text = AllByRecursion (λ b. b ≢ byte) text

-- the names have no line feed, and the numbers have 64 bits
pub record IsWritable (s : SetupOf) (h : List Call) : Type 0 where
  pub names : AllByRecursion (Without 10) s.entries
  pub contexts : s.contexts < 2 ^ 64
  pub calls : s.calls < 2 ^ 64
  pub seed : (n : ℕ) → s.seed ≡ Some n → n < 2 ^ 64
  pub threads : AllByRecursion (λ x. x.thread < 2 ^ 64) h

-- Setups that have a head.

-- a name that an entry line can hold
pub record IsEntryName (name : List ℕ) : Type 0 where
  pub some : name ≢ []
  pub line : Without 10 name

-- a head can hold the setup: each name is on its line, and the numbers have 64 bits
pub record HasHead (s : SetupOf) : Type 0 where
  pub names : AllByRecursion IsEntryName s.entries
  pub contexts : s.contexts < 2 ^ 64
  pub calls : s.calls < 2 ^ 64
  pub seed : (n : ℕ) → s.seed ≡ Some n → n < 2 ^ 64
