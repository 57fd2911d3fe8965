-- The listing of a code: a line for each procedure, and one for each of its instructions.
use Rattle.std.specs.Prelude.{ℕ, ◌+◌, ◌-◌, List, [], ◌∷◌, ◌++◌, length, take, drop, flat_map, codes, decimal}
use Rattle.std.specs.List.{concat}
use Rattle.bp_flat.specs.Flat.{Instruction, Skip, Goto, Return, Assign, If, While, Assert, Assume, Print, Call, Heading, Flat}

-- a space and a number
abbrev pub number_field : ℕ → List ℕ
number_field n = concat (codes " " ∷ decimal n ∷ [])

-- a line with numbers after its front
abbrev pub line : List ℕ → List ℕ → List ℕ
line front numbers = front ++ (flat_map number_field numbers ++ codes "\n")

-- the procedure's name, and its numbers of formals and of declared locals
abbrev pub heading_line : Heading → List ℕ
heading_line h = line (codes "proc " ++ h.name) (h.formals ∷ h.locals ∷ [])

-- the operation of an instruction
abbrev pub instruction_word : Instruction → List ℕ
instruction_word (Skip m) = codes "skip"
instruction_word (Goto m) = codes "goto"
instruction_word Return = codes "return"
instruction_word (Assign targets values m) = codes "assign"
instruction_word (If test m e) = codes "if"
instruction_word (While test m e) = codes "while"
instruction_word (Assert test m) = codes "assert"
instruction_word (Assume test m) = codes "assume"
instruction_word (Print values m) = codes "print"
instruction_word (Call c arguments m) = codes "call"

-- the number of the procedure that it calls, and those of its successors
abbrev pub successors : Instruction → List ℕ
successors (Skip m) = m ∷ []
successors (Goto m) = m ∷ []
successors Return = []
successors (Assign targets values m) = m ∷ []
successors (If test m e) = m ∷ e ∷ []
successors (While test m e) = m ∷ e ∷ []
successors (Assert test m) = m ∷ []
successors (Assume test m) = m ∷ []
successors (Print values m) = m ∷ []
successors (Call c arguments m) = c ∷ m ∷ []

-- the instruction's number, its operation, and the numbers of its successors
abbrev pub instruction_line : ℕ → Instruction → List ℕ
instruction_line n i = line (decimal n ++ (codes " " ++ instruction_word i)) (successors i)

-- the lines of instructions, the first of which has the number n
abbrev pub instruction_lines : ℕ → List Instruction → List ℕ
instruction_lines n [] = []
instruction_lines n (i ∷ is) = instruction_line n i ++ instruction_lines (n + 1) is

module _ (instructions : List Instruction) where
  -- the lines of the instructions from one number to before another
  abbrev pub lines_between : ℕ → ℕ → List ℕ
  lines_between n end = instruction_lines n (take (end - n) (drop n instructions))

  -- the end of the instructions of a procedure: the entry of the next one, or the end of the code
  abbrev pub end_before : List Heading → ℕ
  end_before [] = length instructions
  end_before (next ∷ later) = next.entry

  -- each procedure's line, and those of its instructions
  abbrev pub procedure_lines : List Heading → List ℕ
  procedure_lines [] = []
  procedure_lines (h ∷ hs) =
      heading_line h ++ (lines_between h.entry (end_before hs) ++ procedure_lines hs)

abbrev pub listing_text : Flat → List ℕ
listing_text code = procedure_lines code.instructions code.headings
