-- The effect of an instruction, with globals and locals as bits by their slots.
use Rattle.std.specs.Prelude.{if◌then◌else◌, ℕ, zero, suc, Bool, false, not, List, [], ◌∷◌, Option, None, Some, map, slice_get, slice_index_or}
use Rattle.bp_flat.specs.declared.slots.Slot.{Slot}
use Rattle.bp_flat.specs.declared.slots.Slot.TheVariants.{Global, Local}
use Rattle.bp_flat.specs.Flat.{Formula, Bit, At, Inverse, Joined, Instruction, Skip, Goto, Return, Assign, If, While, Assert, Assume, Print, Call}
use Rattle.bp_flat.specs.Moves.{Store, Effect, Leaves, Fails, Blocks, Misses, operation_value}

-- a bit for each slot
abbrev pub Bits : Type 0
Bits = ℕ → Bool

-- a call that has not returned: the number of its next instruction, and its locals
pub record Activation : Type 0 where
  pub number : ℕ
  pub locals : Bits

abbrev pub activation : ℕ → Bits → Activation
activation n locals = record { number = n; locals = locals }

-- the bits with another bit at a slot
abbrev pub with_bit : Bits → ℕ → Bool → Bits
with_bit f zero b zero = b
with_bit f zero b (suc j) = f (suc j)
with_bit f (suc k) b zero = f zero
with_bit f (suc k) b (suc j) = with_bit (λ i. f (suc i)) k b j

-- these bits from slot 0 on, then 0
abbrev pub bits_from : List Bool → Bits
bits_from bs k = slice_index_or bs k false

abbrev pub slot_bit : Store Bits → Slot → Bool
slot_bit store (Global k) = store.globals k
slot_bit store (Local k) = store.locals k

abbrev pub with_slot : Store Bits → Slot → Bool → Store Bits
with_slot store (Global k) b = record store { globals = with_bit store.globals k b }
with_slot store (Local k) b = record store { locals = with_bit store.locals k b }

-- each slot gets its bit, the first slot first
abbrev pub with_slots : Store Bits → List Slot → List Bool → Store Bits
with_slots store [] bs = store
with_slots store (s ∷ ss) [] = store
with_slots store (s ∷ ss) (b ∷ bs) = with_slots (with_slot store s b) ss bs

abbrev pub formula_value : Store Bits → Formula → Bool
formula_value store (Bit b) = b
formula_value store (At s) = slot_bit store s
formula_value store (Inverse f) = not (formula_value store f)
formula_value store (Joined op a b) =
    operation_value op (formula_value store a) (formula_value store b)

abbrev pub formula_values : Store Bits → List Formula → List Bool
formula_values store fs = map (formula_value store) fs

-- the value of a test; without a formula it is the choice bit
abbrev pub test_value : Store Bits → Bool → Option Formula → Bool
test_value store bit None = bit
test_value store bit (Some f) = formula_value store f

-- the effect of an instruction on its thread
abbrev pub InstructionEffect : Type 0
InstructionEffect = Effect Bits Activation

-- the step to the instruction n of the activation with this store
abbrev pub step_to : Store Bits → ℕ → List Activation → InstructionEffect
step_to store n below = Leaves store.globals (activation n store.locals ∷ below)

-- the effect of an instruction in the topmost activation, above the activations below
abbrev pub instruction_effect
    : Instruction → Store Bits → List Activation → Bool → InstructionEffect
instruction_effect (Skip m) store below bit = step_to store m below
instruction_effect (Goto m) store below bit = step_to store m below
instruction_effect Return store below bit = Leaves store.globals below
instruction_effect (Assign slots fs m) store below bit =
    step_to (with_slots store slots (formula_values store fs)) m below
instruction_effect (If test m e) store below bit =
    step_to store (if test_value store bit test then m else e) below
instruction_effect (While test m e) store below bit =
    step_to store (if test_value store bit test then m else e) below
instruction_effect (Assert test m) store below bit =
    if test_value store bit test then step_to store m below else Fails
instruction_effect (Assume test m) store below bit =
    if test_value store bit test then step_to store m below else Blocks
instruction_effect (Print fs m) store below bit = step_to store m below
instruction_effect (Call c fs m) store below bit =
    let new = activation c (bits_from (formula_values store fs)) in
    Leaves store.globals (new ∷ activation m store.locals ∷ below)

abbrev pub effect_at : Option Instruction → Store Bits → List Activation → Bool → InstructionEffect
effect_at None store below bit = Misses
effect_at (Some i) store below bit = instruction_effect i store below bit

-- the effect of the next step of the activation a above the activations below
abbrev pub step : List Instruction → Bits → Activation → List Activation → Bool → InstructionEffect
step code globals a below bit =
    effect_at (slice_get code a.number) (record { globals = globals; locals = a.locals }) below bit

-- The values that an instruction prints.

-- the values of a print that sees this store
abbrev pub printed_values : Store Bits → Instruction → Option (List Bool)
printed_values store (Print fs m) = Some (formula_values store fs)
printed_values store i = None
