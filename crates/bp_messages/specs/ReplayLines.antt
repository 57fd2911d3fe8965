-- The lines that show a replay.
use Rattle.std.specs.Prelude.{ℕ, List, [], ◌∷◌, ◌++◌, codes, decimal, flat_map}
use Rattle.std.specs.List.{concat}
use Rattle.bp_text.specs.Pieces.{bit_text}
use Rattle.bp_machine.specs.Runs.{PrintedRow}
use Rattle.bp_machine.specs.declared.calls.Outcome.{Outcome}
use Rattle.bp_machine.specs.declared.calls.Outcome.TheVariants.{Clean, Failed}
use Rattle.bp_trace.specs.declared.judgements.Printed.{Printed}
use Rattle.bp_trace.specs.Replays.{row_of}

-- `print`, the thread, and a digit for each value
abbrev pub row_line : PrintedRow → List ℕ
row_line r =
    concat (codes "print " ∷ decimal r.thread ∷ codes " " ∷ [])
    ++ (flat_map bit_text r.values ++ codes "\n")

-- the line of a row of a replay's result
abbrev pub printed_line : Printed → List ℕ
printed_line p = row_line (row_of p)

-- whether an assertion failed, and of which thread
abbrev pub outcome_line : Outcome → List ℕ
outcome_line Clean = codes "outcome clean\n"
outcome_line (Failed thread) =
    concat (codes "outcome failed " ∷ decimal thread ∷ codes "\n" ∷ [])

-- a line for each row, and the outcome
abbrev pub shown_text : List PrintedRow → Outcome → List ℕ
shown_text rows outcome = flat_map row_line rows ++ outcome_line outcome
