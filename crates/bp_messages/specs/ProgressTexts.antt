-- The progress of a test or an exploration, as a user reads it on a terminal.
use Rattle.std.specs.Prelude.{ℕ, Option, None, Some, List, [], ◌∷◌, ◌*◌, ◌-◌, ◌/◌, ◌^◌, min, max, codes, decimal}
use Rattle.std.specs.List.{concat}
use Rattle.bp_messages.specs.Summaries.{limit_text, of_word}

-- the text that moves the cursor of a terminal to the beginning of the line and clears it
abbrev pub cleared : List ℕ
cleared = 13 ∷ 27 ∷ codes "[K"

-- the number of runs made in a second, at the rate so far
abbrev pub rate_of : (done millis : ℕ) → ℕ
rate_of done millis = min (done * 1000) (2 ^ 64 - 1) / max millis 1

-- the number of seconds that the other runs take at a rate
abbrev pub seconds_left : (done runs rate : ℕ) → ℕ
seconds_left done runs rate = (runs - done) / max rate 1

-- these seconds, and no more than are left if the time is limited
abbrev pub within_time : (millis : ℕ) → (seconds : Option ℕ) → ℕ → ℕ
within_time millis None left = left
within_time millis (Some seconds) left = min left (seconds - millis / 1000)

-- a line over the one before
abbrev pub progress_text : (done runs millis : ℕ) → (seconds : Option ℕ) → List ℕ
progress_text done runs millis seconds =
    let rate = rate_of done millis in
    let left = within_time millis seconds (seconds_left done runs rate) in
    concat (
    cleared ∷ decimal done
    ∷ of_word runs ∷ limit_text runs
    ∷ codes " runs, " ∷ decimal rate
    ∷ codes " a second, " ∷ decimal left
    ∷ codes " s left" ∷ [])

-- the progress of an exploration: the number of contexts that it explores, and of its states
abbrev pub exploration_progress_text : (contexts states millis : ℕ) → List ℕ
exploration_progress_text contexts states millis =
    let rate = rate_of states millis in
    concat (
    cleared ∷ codes "within " ∷ decimal contexts
    ∷ codes " contexts: " ∷ decimal states
    ∷ codes " states, " ∷ decimal rate
    ∷ codes " a second" ∷ [])
