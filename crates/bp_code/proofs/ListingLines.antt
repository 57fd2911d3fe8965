-- The lines of a listing from one number on.
use Rattle.bp_code.proofs.Common.{◌≡◌, ℕ, ◌+◌, map, List, [], ◌∷◌, refl, ap, ◌∙◌, zero, suc, ◌-◌, ◌<◌, ◌≤◌, ◌++◌, length, take, drop, get_or, rules, Name, Procedure, Heading, Instruction, drop_item, dropped_all, block_size, headings_from, heading_line, instruction_line, instruction_lines, lines_between, end_before, procedure_lines}

-- The names of headings.

-- headings have the names of their procedures, in order
pub names_of_headings : (n : ℕ) (ps : List Procedure)
    → map (λ (h : Heading). h.name) (headings_from n ps)
    ≡ map (λ (m : Name). m.text) (map (λ (p : Procedure). p.name) ps)
names_of_headings n [] = refl
names_of_headings n (p ∷ ps) = ap (λ ns. p.name.text ∷ ns) (names_of_headings (n + block_size p.body + 1) ps)

take_one : (is : List Instruction) (n k : ℕ) (i : Instruction)
    → instruction_lines n (take (suc k) (i ∷ is)) ≡ instruction_line n i ++ instruction_lines (n + 1) (take k is)
take_one is n k i = refl

-- the line of the n-th, and those behind it
pub lines_next : (is : List Instruction) (n end : ℕ) (i : Instruction) → n < end → n < length is → i ≡ get_or is n i
    → lines_between is n end ≡ instruction_line n i ++ lines_between is (n + 1) end
lines_next is n end i given1 given2 given3 = search (rules, drop_item, take_one)

take_none : (n k : ℕ) → instruction_lines n (take k []) ≡ []
take_none n k = take_cases k
  where
    take_cases : (k : ℕ) → instruction_lines n (take k []) ≡ []
    take_cases zero = refl
    take_cases (suc k) = refl

-- behind the last one there is none
pub lines_past : (is : List Instruction) (n end : ℕ) → length is ≤ n → lines_between is n end ≡ []
lines_past is n end past = ap (λ xs. instruction_lines n (take (end - n) xs)) (dropped_all is n past) ∙ take_none n (end - n)

pub lines_beyond : (is : List Instruction) (n end : ℕ) → length is ≤ n → lines_between is n end ≡ lines_between is (n + 1) end
lines_beyond is n end given1 = search (rules, lines_past)

-- the lines of the n-th procedure, and those behind it
pub procedures_next : (is : List Instruction) (hs : List Heading) (n : ℕ) (h : Heading) → n < length hs → h ≡ get_or hs n h
    → procedure_lines is (drop n hs) ≡ heading_line h ++ (lines_between is h.entry (end_before is (drop (n + 1) hs)) ++ procedure_lines is (drop (n + 1) hs))
procedures_next is hs n h within has = ap (procedure_lines is) (drop_item hs n h within has)
