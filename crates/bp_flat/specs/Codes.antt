-- Encodings of the data of Flat, for the models of types in src/. No contract names them.
use Rattle.std.specs.Coded.{Coded, code_by, coded×, coded⊎, coded_ℕ, coded_bool, coded_list, coded_option}
use Rattle.std.proofs.Common.{ap, inl, inr, ◌≡◌, ℕ, ◌+◌, max, List, [], ◌∷◌, refl, if◌then◌else◌, ◌⊎◌, zero, suc, Bool, true, false, Option}
use Rattle.bp_syntax.specs.Ast.{Program, Name, Expression, Constant, Variable, Negation, Operation}
use Rattle.bp_syntax.specs.Codes.{coded_expression, coded_program}
use Rattle.bp_flat.specs.declared.slots.Slot.{Slot}
use Rattle.bp_flat.specs.declared.slots.Slot.TheVariants.{Global, Local}
use Rattle.bp_flat.specs.Flat.{Formula, Bit, At, Inverse, Joined, Instruction, Skip, Goto, Return, Assign, If, While, Assert, Assume, Print, Call, Heading, Flat}

-- Heights and encodings of formulas, for the models of types in src/: a formula is coded as the
-- expression of its form, in which a slot is a name. No contract names them.

abbrev pub height : Formula → ℕ
height (Bit b) = 1
height (At s) = 1
height (Inverse f) = height f + 1
height (Joined op a b) = max (height a) (height b) + 1

abbrev pub name_of_slot : Slot → Name
name_of_slot (Global k) = record { text = []; at = k }
name_of_slot (Local k) = record { text = 0 ∷ []; at = k }

abbrev pub slot_of_name : List ℕ → ℕ → Slot
slot_of_name [] k = Global k
slot_of_name (x ∷ xs) k = Local k

abbrev pub form_of : Formula → Expression
form_of (Bit b) = Constant b
form_of (At s) = Variable (name_of_slot s)
form_of (Inverse f) = Negation (form_of f)
form_of (Joined op a b) = Operation op (form_of a) (form_of b)

abbrev pub formula_from : Expression → Formula
formula_from (Constant b) = Bit b
formula_from (Variable x) = At (slot_of_name x.text x.at)
formula_from (Negation e) = Inverse (formula_from e)
formula_from (Operation op a b) = Joined op (formula_from a) (formula_from b)

pub formula_again : (f : Formula) → formula_from (form_of f) ≡ f
formula_again (Bit b) = refl
formula_again (At (Global k)) = refl
formula_again (At (Local k)) = refl
formula_again (Inverse f) = ap Inverse (formula_again f)
formula_again (Joined op a b) = λ i. Joined op (formula_again a i) (formula_again b i)

abbrev pub coded_formula : Coded Formula
coded_formula = code_by Expression coded_expression form_of formula_from formula_again

abbrev pub coded_heading : Coded Heading
coded_heading =
    code_by ((List ℕ × ℕ) × (ℕ × ℕ))
    (coded× (coded× (coded_list coded_ℕ) coded_ℕ) (coded× coded_ℕ coded_ℕ))
    (λ h. ((h.name, h.formals), (h.locals, h.entry)))
    (λ p. record { name = p.0.0; formals = p.0.1; locals = p.1.0; entry = p.1.1 })
    (λ _. refl)

abbrev pub slot_parts : Slot → Bool × ℕ
slot_parts (Global k) = (true, k)
slot_parts (Local k) = (false, k)

abbrev pub slot_from : Bool → ℕ → Slot
slot_from true k = Global k
slot_from false k = Local k

pub slot_again : (s : Slot) → slot_from (slot_parts s).0 (slot_parts s).1 ≡ s
slot_again (Global k) = refl
slot_again (Local k) = refl

abbrev pub coded_slot : Coded Slot
coded_slot =
    code_by (Bool × ℕ) (coded× coded_bool coded_ℕ) slot_parts (λ p. slot_from p.0 p.1) slot_again

-- An instruction by its parts: a skip (0) or a jump (1) with its successor, an assignment; a branch
-- (true) or a loop (false), an assertion (true) or an assumption (false); a print, a call. A return
-- is 2.

abbrev pub Plain : Type 0
Plain = (ℕ × ℕ) ⊎ ((List Slot × List Formula) × ℕ)

abbrev pub Testing : Type 0
Testing = ((Bool × Option Formula) × (ℕ × ℕ)) ⊎ ((Bool × Option Formula) × ℕ)

abbrev pub Valued : Type 0
Valued = (List Formula × ℕ) ⊎ ((ℕ × List Formula) × ℕ)

abbrev pub InstructionParts : Type 0
InstructionParts = Plain ⊎ (Testing ⊎ Valued)

abbrev pub coded_test : Coded (Bool × Option Formula)
coded_test = coded× coded_bool (coded_option coded_formula)

abbrev pub coded_plain : Coded Plain
coded_plain =
    coded⊎ (coded× coded_ℕ coded_ℕ)
    (coded× (coded× (coded_list coded_slot) (coded_list coded_formula)) coded_ℕ)

abbrev pub coded_testing : Coded Testing
coded_testing = coded⊎ (coded× coded_test (coded× coded_ℕ coded_ℕ)) (coded× coded_test coded_ℕ)

abbrev pub coded_valued : Coded Valued
coded_valued =
    coded⊎ (coded× (coded_list coded_formula) coded_ℕ)
    (coded× (coded× coded_ℕ (coded_list coded_formula)) coded_ℕ)

abbrev pub coded_parts : Coded InstructionParts
coded_parts = coded⊎ coded_plain (coded⊎ coded_testing coded_valued)

abbrev pub instruction_parts : Instruction → InstructionParts
instruction_parts (Skip m) = inl (inl (0, m))
instruction_parts (Goto m) = inl (inl (1, m))
instruction_parts Return = inl (inl (2, 0))
instruction_parts (Assign slots fs m) = inl (inr ((slots, fs), m))
instruction_parts (If test m e) = inr (inl (inl ((true, test), (m, e))))
instruction_parts (While test m e) = inr (inl (inl ((false, test), (m, e))))
instruction_parts (Assert test m) = inr (inl (inr ((true, test), m)))
instruction_parts (Assume test m) = inr (inl (inr ((false, test), m)))
instruction_parts (Print fs m) = inr (inr (inl (fs, m)))
instruction_parts (Call c fs m) = inr (inr (inr ((c, fs), m)))

abbrev pub plain_from : ℕ → ℕ → Instruction
plain_from zero m = Skip m
plain_from (suc zero) m = Goto m
plain_from (suc (suc k)) m = Return

abbrev pub instruction_from : InstructionParts → Instruction
instruction_from (inl (inl p)) = plain_from p.0 p.1
instruction_from (inl (inr p)) = Assign p.0.0 p.0.1 p.1
instruction_from (inr (inl (inl p))) =
    if p.0.0 then If p.0.1 p.1.0 p.1.1 else While p.0.1 p.1.0 p.1.1
instruction_from (inr (inl (inr p))) = if p.0.0 then Assert p.0.1 p.1 else Assume p.0.1 p.1
instruction_from (inr (inr (inl p))) = Print p.0 p.1
instruction_from (inr (inr (inr p))) = Call p.0.0 p.0.1 p.1

pub instruction_again : (i : Instruction) → instruction_from (instruction_parts i) ≡ i
instruction_again (Skip m) = refl
instruction_again (Goto m) = refl
instruction_again Return = refl
instruction_again (Assign slots fs m) = refl
instruction_again (If test m e) = refl
instruction_again (While test m e) = refl
instruction_again (Assert test m) = refl
instruction_again (Assume test m) = refl
instruction_again (Print fs m) = refl
instruction_again (Call c fs m) = refl

abbrev pub coded_instruction : Coded Instruction
coded_instruction =
    code_by InstructionParts coded_parts instruction_parts instruction_from instruction_again

abbrev pub coded_flat : Coded Flat
coded_flat =
    code_by ((List Heading × ℕ) × (List Instruction × Program))
    (coded× (coded× (coded_list coded_heading) coded_ℕ)
    (coded× (coded_list coded_instruction) coded_program))
    (λ c. ((c.headings, c.globals), (c.instructions, c.tree)))
    (λ p. record { headings = p.0.0; globals = p.0.1; instructions = p.1.0; tree = p.1.1 })
    (λ _. refl)
