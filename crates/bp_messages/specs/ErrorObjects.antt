-- The object of an error in JSON.
use Rattle.std.specs.Prelude.{◌≡◌, ℕ, List, [], ◌∷◌, Bool, true, false, Option, None, Some, codes, option_map, decimal, ◌-◌, ◌++◌}
use Rattle.std.specs.List.{concat}
use Rattle.std.specs.Borrow.{Bor}
use Rattle.bp_text.specs.Pieces.{bit_or_null, key_text, number_or_null, string_or_null, truth_text, string_text, list_text}
use Rattle.bp_text.specs.Lines.{position_at}
use Rattle.bp_text.specs.declared.lines.Position.{Position}
use Rattle.bp_machine.specs.Histories.{letter_of}
use Rattle.bp_confirm.specs.declared.confirmations.StepReason.{StepReason}
use Rattle.bp_confirm.specs.declared.confirmations.StepReason.TheVariants.{Refused, Differs}
use Rattle.bp_confirm.specs.declared.confirmations.StepRefusal.{StepRefusal}
use Rattle.bp_confirm.specs.declared.step_lines.Location.{Location}
use Rattle.bp_confirm.specs.declared.step_lines.Location.TheVariants as location
use Rattle.bp_confirm.specs.declared.step_lines.ThreadPlace.{ThreadPlace}
use Rattle.bp_confirm.specs.declared.step_lines.ThreadPlace.TheVariants as thread_place
use Rattle.bp_confirm.specs.LineReadings.{IsValueOnLine}
use Rattle.bp_messages.specs.declared.error_table.Detail.{Detail}
use Rattle.bp_messages.specs.declared.error_table.Detail.TheVariants.{Step, Byte, Thread, Line, ThreadOn, Wanted}
use Rattle.bp_messages.specs.declared.step_objects.VerdictFacts.{VerdictFacts}
use Rattle.bp_messages.specs.declared.errors.Error.{Error}
use Rattle.bp_messages.specs.ErrorTable.{error_row, RowOf}

-- The object of an error on a step that is not taken.

-- the line and the column that a location names: the end of a procedure names neither
abbrev pub place_named : Location → Option ℕ × Option ℕ
place_named location.End = (None, None)
place_named (location.Line n) = (Some n, None)
place_named (location.Column n m) = (Some n, Some m)

-- the position of the statement at which a thread is
abbrev pub position_of_thread_place : ThreadPlace → Option Position
position_of_thread_place (thread_place.Statement position) = Some position
position_of_thread_place other = None

abbrev pub has_ended : ThreadPlace → Bool
has_ended thread_place.Ended = true
has_ended other = false

-- the letter of the reply that is not a step
abbrev pub reply_text : StepReason → Option (List ℕ)
reply_text (Refused r) = Some (letter_of r ∷ [])
reply_text reason = None

-- the bit that the thread sees instead of a value
abbrev pub seen_in : StepReason → Option Bool
seen_in (Differs d) = d.seen
seen_in reason = None

-- the line of the last step that changed the thread's view of the variable of the value
abbrev pub changed_in : StepReason → Option ℕ
changed_in (Differs d) = d.changed
changed_in reason = None

-- the name and the bit of a value of a line
abbrev pub name_of_value : Option (List ℕ × Bool) → Option (List ℕ)
name_of_value value = option_map (λ v. v.0) value

abbrev pub bit_in : Option (List ℕ × Bool) → Option Bool
bit_in value = option_map (λ v. v.1) value

-- the value on line n of these steps that the reason is about, if any
abbrev pub IsValueFor : (steps : List ℕ) → (n : ℕ) → StepReason → Option (List ℕ × Bool) → Type 0
IsValueFor steps n (Differs d) value = IsValueOnLine steps n d.place value
IsValueFor steps n reason value = value ≡ None

-- the value on a line of these steps that an error names, if any
abbrev pub IsValueIn : (steps : List ℕ) → Detail → Option (List ℕ × Bool) → Type 0
IsValueIn steps (Step r) value = IsValueFor steps r.line r.reason value
IsValueIn steps d value = value ≡ None

-- the member of a step that is not taken: the place that its line names, its thread's own place,
-- and the reply or the value that refuses it
abbrev pub step_object : StepRefusal → Option (List ℕ × Bool) → List ℕ
step_object r value =
    let named = place_named r.location in
    let position = position_of_thread_place r.thread_place in
    concat (
    codes ",\"step\":{\"expected\":{\"line\":" ∷ number_or_null named.0
    ∷ key_text (codes "column") ∷ number_or_null named.1
    ∷ codes "},\"stands\":{\"line\":" ∷ number_or_null (option_map (λ p. p.line) position)
    ∷ key_text (codes "column") ∷ number_or_null (option_map (λ p. p.column) position)
    ∷ key_text (codes "ended") ∷ truth_text (has_ended r.thread_place)
    ∷ codes "},\"reply\":" ∷ string_or_null (reply_text r.reason)
    ∷ key_text (codes "variable") ∷ string_or_null (name_of_value value)
    ∷ key_text (codes "value") ∷ bit_or_null (bit_in value)
    ∷ key_text (codes "seen") ∷ bit_or_null (seen_in r.reason)
    ∷ key_text (codes "changed") ∷ number_or_null (changed_in r.reason)
    ∷ codes "}" ∷ [])

-- the member of the step that an error names; null if it names none
abbrev pub step_text : Detail → Option (List ℕ × Bool) → List ℕ
step_text (Step r) value = step_object r value
step_text d value = codes ",\"step\":null"

-- The object of the verdict on reported steps.

-- The shown facts of a verdict: its word, the number of steps that a run makes, and the contexts
-- that they use if all are confirmed; the assertion that failed, the threads that wait in a
-- deadlock, and the last bits on which it depends.
pub record ShownVerdict : Type 0 where
  pub word : List ℕ
  pub steps : ℕ
  pub contexts : Option ℕ
  pub failure : List ℕ
  pub waits : List ℕ
  pub choices : List ℕ

-- the facts of the values of src/
abbrev pub shown_verdict : VerdictFacts → ShownVerdict
shown_verdict x = record {
  word = x.verdict.now;
  steps = x.steps;
  contexts = x.contexts;
  failure = x.failure.now;
  waits = x.waits.now;
  choices = x.choices.now;
}

abbrev pub verdict_object : ShownVerdict → List ℕ
verdict_object x =
    concat (
    codes "{\"kind\":\"confirm\",\"version\":1"
    ∷ key_text (codes "verdict") ∷ string_text x.word
    ∷ key_text (codes "steps") ∷ decimal x.steps
    ∷ key_text (codes "contexts") ∷ number_or_null x.contexts
    ∷ key_text (codes "failure") ∷ x.failure
    ∷ key_text (codes "deadlock") ∷ list_text x.waits
    ∷ key_text (codes "choices") ∷ list_text x.choices
    ∷ codes "}\n" ∷ [])

-- a run makes this number of steps, and no run makes the next one as well
abbrev pub refuted_after : ℕ → ShownVerdict
refuted_after n = record {
  word = codes "refuted";
  steps = n;
  contexts = None;
  failure = codes "null";
  waits = [];
  choices = [];
}

-- the byte of the program text that an error names
abbrev pub byte_of : Detail → Option ℕ
byte_of (Byte at) = Some at
byte_of d = None

-- the line and the column that an error names: those of its byte in this text, or the line of a
-- schedule, of steps or of a trace
abbrev pub place_in : (text : List ℕ) → Detail → Option ℕ × Option ℕ
place_in text (Byte at) = let p = position_at text at in (Some p.line, Some p.column)
place_in text (Line n) = (Some n, None)
place_in text (ThreadOn n k) = (Some n, None)
place_in text (Step r) = (Some r.line, None)
place_in text (Wanted n r) = (Some n, None)
place_in text d = (None, None)

-- the guest thread that an error names
abbrev pub thread_of : Detail → Option ℕ
thread_of (Thread k) = Some k
thread_of (ThreadOn n k) = Some k
thread_of (Step r) = Some r.thread
thread_of d = None

-- the letter of the expected reply
abbrev pub letter_text : Detail → Option (List ℕ)
letter_text (Wanted n r) = Some (letter_of r ∷ [])
letter_text d = None

-- a name, if there is one
abbrev pub name_in : Option (Bor (List ℕ)) → Option (List ℕ)
name_in name = option_map (λ text. text.now) name

-- the facts of a row of the table: those of the error's line, its file, and its place in the
-- program text
abbrev pub facts_text : RowOf → Option (List ℕ) → (text : List ℕ) → List ℕ
facts_text r file text =
    let place = place_in text r.detail in
    concat (
    codes "{\"kind\":\"fault\",\"version\":1"
    ∷ key_text (codes "number") ∷ decimal r.number
    ∷ key_text (codes "name") ∷ string_text r.name
    ∷ key_text (codes "file") ∷ string_or_null file
    ∷ key_text (codes "offset") ∷ number_or_null (byte_of r.detail)
    ∷ key_text (codes "line") ∷ number_or_null place.0
    ∷ key_text (codes "column") ∷ number_or_null place.1
    ∷ key_text (codes "thread") ∷ number_or_null (thread_of r.detail)
    ∷ key_text (codes "wanted") ∷ string_or_null (letter_text r.detail)
    ∷ [])

-- the sentence that ends an object
abbrev pub message_text : (message : List ℕ) → List ℕ
message_text message = concat (key_text (codes "message") ∷ string_text message ∷ codes "}\n" ∷ [])

-- the object of the verdict on steps, if an error refutes them
abbrev pub refutation_text : Detail → List ℕ
refutation_text (Step r) = verdict_object (refuted_after (r.line - 1))
refutation_text d = []

-- the object of an error in this file, or in none: the facts of its row of the table, its step and
-- a sentence; that of a verdict comes before it
abbrev pub error_object
    : Error → Option (List ℕ) → (text : List ℕ) → Option (List ℕ × Bool) → (message : List ℕ)
    → List ℕ
error_object f file text value message =
    let row = error_row f in
    refutation_text row.detail
    ++ (facts_text row file text ++ (step_text row.detail value ++ message_text message))
