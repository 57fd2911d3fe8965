-- How the lines of traces are read and written: devices, except for heads.
use Rattle.std.proofs.Common.{refl}
use Rattle.std.specs.Char.{is_ascii_digit}
use Rattle.std.specs.Prelude.{if◌then◌else◌, ◌==◌, ℕ, Bool, true, false, List, [], ◌∷◌, ◌++◌, Option, None, Some, codes, decimal, ◌≡◌, ◌≢◌, ◌<◌, length, map, flat_map, ◌⊎◌, ◌+◌}
use Rattle.bp_machine.specs.declared.calls.Call.{Call}
use Rattle.bp_machine.specs.declared.calls.Reply.{Reply}
use Rattle.bp_machine.specs.Histories.{letter_of}
use Rattle.bp_machine.specs.Setups.{SetupOf, setup_of}
use Rattle.bp_text.specs.Formats.{bit, BreaksAt, Format}
use Rattle.bp_text.specs.Formats.Format.{After, As, Before, Number, Span, Then}
use Rattle.bp_trace.specs.HeadFormat.{head}
use Rattle.bp_trace.specs.TraceText.{symbol_of, symbol_text, bit_digit, call_line, HasHead, head_lines, head_text, Symbol, call_of, end_line}
use Rattle.bp_trace.specs.declared.drives.ScheduleLine.{ScheduleLine}
use Rattle.bp_trace.specs.declared.end_lines.DecimalState.{DecimalState}
use Rattle.bp_trace.specs.declared.end_lines.DecimalState.TheVariants.{Start, Zero, Digits}
use Rattle.bp_trace.specs.declared.heads.Head.{Head}
use Rattle.bp_trace.specs.declared.errors.ReplayError.{ReplayError}
use Rattle.bp_trace.specs.declared.errors.ReplayError.TheVariants as error
use Rattle.bp_trace.specs.declared.traces.Version.{Version}
use Rattle.bp_trace.specs.Replays.{IsBodyLine, IsEndLine, HasOtherEnd, HasMoreAfter}
use Rattle.bp_trace.specs.declared.errors.EndCounts.{EndCounts}

-- The text of the pieces of a history, attempt by attempt: a device of the writer, which no public
-- clause names.

-- the thread of a line, after the end of the line before it
abbrev pub line_start : Bool → ℕ → List ℕ
line_start is_first i =
    (if is_first then [] else codes "\n") ++ (decimal i ++ codes " ")

-- the text before an attempt that follows one of this thread, or none
abbrev pub opening : Option ℕ → ℕ → List ℕ
opening None i = line_start true i
opening (Some l) i = if l == i then [] else line_start false i

abbrev pub symbol_after : Option ℕ → Call → List ℕ
symbol_after last x = opening last x.thread ++ symbol_text (symbol_of x)

-- the attempts after one of this thread, without the end of the last line
abbrev pub symbols_after : Option ℕ → List Call → List ℕ
symbols_after last [] = []
symbols_after last (x ∷ xs) = symbol_after last x ++ symbols_after (Some x.thread) xs

-- How a line of attempts is read: a device of the reader, which no public clause names.

-- the thread of a line, which is below n, and a space
abbrev pub thread_field : (n : ℕ) → Format ℕ
thread_field n = Before (Number n) (codes " ")

-- a line of a schedule, of a thread below n
abbrev pub schedule_line : (n : ℕ) → Format ScheduleLine
schedule_line n =
    As (λ x. (x.thread, x.bit)) (λ p. record { thread = p.0; bit = p.1 }) (λ x. refl)
    (Then (thread_field n) (Before bit (codes "\n")))

-- this bit, a space, the letter of this reply and a line feed begin the text
abbrev pub IsTailAt : List ℕ → Bool × Reply → Type 0
IsTailAt text x =
    (more : List ℕ) × (text ≡ bit_digit x.0 ∷ 32 ∷ letter_of x.1 ∷ 10 ∷ more)

abbrev pub HasNoTail : List ℕ → Type 0
HasNoTail text =
    (b : Bool) (r : Reply) (more : List ℕ) → text ≢ bit_digit b ∷ 32 ∷ letter_of r ∷ 10 ∷ more

-- the line of this attempt of a thread below n begins the text
abbrev pub IsCallAt : ℕ → List ℕ → Call → Type 0
IsCallAt n text x = (more : List ℕ) × (x.thread < n) × (text ≡ call_line x ++ more)

-- the line of no attempt of a thread below n begins the text
abbrev pub HasNoCall : ℕ → List ℕ → Type 0
HasNoCall n text = (x : Call) (more : List ℕ) → x.thread < n → text ≢ call_line x ++ more

-- How the head of a trace is read.

-- the setup that a head describes
abbrev pub setup_of_head : Head → SetupOf
setup_of_head head =
    setup_of (map (λ n. n.now) head.entries.items)
    head.init.items head.contexts head.calls head.seed

-- the head begins the text, and has this number of bytes and lines
pub record IsHeadOf (text : List ℕ) (read : Head) : Type 0 where
  pub has : HasHead (setup_of_head read)
  pub rest : List ℕ
  pub parts : text ≡ head_text read.version (setup_of_head read) ++ rest
  pub size : read.size ≡ length (head_text read.version (setup_of_head read))
  pub lines : read.lines ≡ length (head_lines read.version (setup_of_head read))

-- the line that is malformed or missing; it does not say when memory is refused
abbrev pub IsHeadRefusal : List ℕ → ReplayError → Type 0
IsHeadRefusal text (error.Head k) = BreaksAt head text k
IsHeadRefusal text error.Memory = Unit {0}
IsHeadRefusal text f = ⊥

-- How a line of attempts is read, in either version: a device of the reader, which no public clause
-- names.

-- this bit and the letter of this reply begin the text
abbrev pub IsSymbolAt : List ℕ → Bool × Reply → Type 0
IsSymbolAt text x = (more : List ℕ) × (text ≡ bit_digit x.0 ∷ letter_of x.1 ∷ more)

-- no bit and letter of a reply begin the text
abbrev pub HasNoSymbol : List ℕ → Type 0
HasNoSymbol text = (b : Bool) (r : Reply) (more : List ℕ) → text ≢ bit_digit b ∷ letter_of r ∷ more

-- the text begins with symbols of this size, and no other follows them; their attempts of this
-- thread were added
pub record HasSymbols (i : ℕ) (text : List ℕ) (old new : List Call) (size : ℕ) : Type 0 where
  pub symbols : List Symbol
  pub more : List ℕ
  pub added : new ≡ old ++ map (call_of i) symbols
  pub begins : text ≡ flat_map symbol_text symbols ++ more
  pub size_is : size ≡ length (flat_map symbol_text symbols)
  pub ends : HasNoSymbol more

-- a line of attempts of this size begins the text, and these are its attempts
pub record IsBodyLineAt
    (v : Version) (n : ℕ) (last : Option ℕ) (text : List ℕ) (calls : List Call) (size : ℕ)
    : Type 0 where
  pub line : List ℕ
  pub more : List ℕ
  pub is_line : IsBodyLine n last line calls v
  pub begins : text ≡ line ++ more
  pub size_is : size ≡ length line

-- no line of attempts begins the text
abbrev pub HasNoBodyLine : Version → ℕ → Option ℕ → List ℕ → Type 0
HasNoBodyLine v n last text =
    (line : List ℕ) (calls : List Call) (more : List ℕ)
    → IsBodyLine n last line calls v
    → text ≢ line ++ more

-- How the line that ends a trace is read: a device of the reader, which no public clause names.

-- the state of reading a decimal after one more byte, if a decimal may begin with these bytes
abbrev pub more_digits : ℕ → Option DecimalState
more_digits byte = if is_ascii_digit byte then Some Digits else None

abbrev pub after_digit : DecimalState → ℕ → Option DecimalState
after_digit Start byte = if byte == 48 then Some Zero else more_digits byte
after_digit Zero byte = None
after_digit Digits byte = more_digits byte

abbrev pub is_whole : DecimalState → Bool
is_whole Start = false
is_whole Zero = true
is_whole Digits = true

-- a decimal of any length is a zero, or has digits of which the first is not 0
abbrev pub any_decimal : Format (List ℕ)
any_decimal = Span after_digit is_whole Start

-- an end line, by its two decimals
abbrev pub end_numbers : Format (List ℕ × List ℕ)
end_numbers =
    After (codes "end ") (Then (Before any_decimal (codes " ")) (Before any_decimal (codes "\n")))

-- an end line of this size begins the text
pub record IsEndAt (text : List ℕ) (size : ℕ) : Type 0 where
  pub line : List ℕ
  pub more : List ℕ
  pub is_end : IsEndLine line
  pub begins : text ≡ line ++ more
  pub size_is : size ≡ length line

-- no end line begins the text
abbrev pub HasNoEnd : List ℕ → Type 0
HasNoEnd text = (line more : List ℕ) → IsEndLine line → text ≢ line ++ more

-- something, but no end line, begins the text
pub record HasOtherLine (text : List ℕ) : Type 0 where
  pub some : text ≢ []
  pub ends : HasNoEnd text

-- the counts of an end
abbrev pub counts : ℕ → ℕ → EndCounts
counts calls left_live = record { calls = calls; left_live = left_live }

-- Why the text after the attempts of a trace is refused at line n: it is not the end line of these
-- counts of attempts and live threads alone.
module _ (rest : List ℕ) (calls left_live n : ℕ) where
  abbrev own : List ℕ
  own = end_line calls left_live

  abbrev pub IsEndRefusal : ReplayError → Type 0
  IsEndRefusal (error.NoEnd c) = (rest ≡ []) × (c ≡ counts calls left_live)
  IsEndRefusal (error.EndCount m c) = (m ≡ n) × (c ≡ counts calls left_live) × HasOtherEnd own rest
  IsEndRefusal (error.Line m) =
      ((m ≡ n) × HasOtherLine rest) ⊎ ((m ≡ n + 1) × HasMoreAfter own rest)
  IsEndRefusal f = ⊥
