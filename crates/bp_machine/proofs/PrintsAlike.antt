-- Code and program print alike, and a session prints as its thread's code does.
use Rattle.bp_machine.proofs.Common.{◌≡◌, ◌≢◌, ℕ, Bool, true, false, List, [], ◌∷◌, Option, None, Some, is_some, refl, ap, sym, ◌∙◌, slice_get, arith, rules, Block, Done, Then, Skips, GoesTo, Assigns, Branches, Loops, Asserts, Assumes, Prints, Calls, Procedure, Program, bits_of, Store, Valuation, Frame, Flat, Instruction, instruction_kind, Bits, Activation, printed_values, StandsFor, Place, Does, places_of, named_store, valuation_of, ShowsStack, Call, ActivationRecord, GuestThreadOf, top_of, State, StandsAfter, activations, stack_of, configuration_after, values_at, values_printed, SetupOf}
use Rattle.bp_syntax.specs.Ast.{Returns}
use Rattle.bp_flat.specs.declared.instrs.Kind.TheVariants as kind

-- the values that the instruction of a number prints
abbrev pub printed_at : Option Instruction → Store Bits → Option (List Bool)
printed_at (Some i) store = printed_values store i
printed_at None store = None

-- only an instruction of the kind of a print prints
pub print_prints : (i : Instruction) (w : Store Bits) → instruction_kind i ≡ kind.Print → true ≡ is_some (printed_values w i)
print_prints i w given1 = grind (arith)

pub other_prints_nothing : (i : Instruction) (w : Store Bits) → instruction_kind i ≢ kind.Print → false ≡ is_some (printed_values w i)
other_prints_nothing i w given1 = grind (arith)

-- the values that the next instruction of a stack prints
abbrev pub printed_here : List Instruction → Bits → List Activation → Option (List Bool)
printed_here code g [] = None
printed_here code g (a ∷ below) = printed_at (slice_get code a.number) (record { globals = g; locals = a.locals })

module _ (t : Program) (table : List Place) (p : Procedure) where
  print_alike : (left : Block) (i : Instruction) (w : Store Bits) → Does t table p left i → values_at (named_store t.globals p w) left ≡ printed_values w i
  print_alike Done i w is = rw is refl
  print_alike (Then label at Skips r) i w c = rw c.is refl
  print_alike (Then label at (GoesTo x) r) i w c = rw c.is refl
  print_alike (Then label at Returns r) i w is = rw is refl
  print_alike (Then label at (Assigns xs es) r) i w c = rw c.is refl
  print_alike (Then label at (Branches d a b) r) i w c = rw c.is refl
  print_alike (Then label at (Loops d a) r) i w c = rw c.is refl
  print_alike (Then label at (Asserts d) r) i w c = rw c.is refl
  print_alike (Then label at (Assumes d) r) i w c = rw c.is refl
  print_alike (Then label at (Prints es) r) i w c = rw c.is (ap Some (sym (c.values_are.equal w)))
  print_alike (Then label at (Calls x es) r) i w c = rw c.is refl

module _ (c : Flat) (t : Program) (st : StandsFor c t) where
  pub printed_alike : (g : Valuation) (bits : Bits) → g ≡ valuation_of t.globals bits
      → (acts : List Activation) (frames : List Frame) → ShowsStack t acts frames
      → values_printed g frames ≡ printed_here c.instructions bits acts
  printed_alike g bits is [] [] shown = refl
  printed_alike g bits is [] (f ∷ fs) shown = absurd shown
  printed_alike g bits is (a ∷ below) [] shown = absurd shown
  printed_alike g bits is (a ∷ below) (f ∷ fs) shown =
      let found = st.each a.number f.procedure f.left shown.0.left in
      rw (found.1, is, shown.0.locals) (print_alike t (places_of t.procedures) f.procedure f.left found.0
      (record { globals = bits; locals = a.locals }) found.2)

  module _ (s : SetupOf) (x : State) (h : List Call) (stands : StandsAfter t s x h) (i : ℕ) (guest : GuestThreadOf)
      (has : slice_get x.threads i ≡ Some guest) where
    printed : values_printed (configuration_after t s h).globals (stack_of (configuration_after t s h) i)
        ≡ printed_here c.instructions (bits_of x.globals) (activations guest.stack)
    printed = search (rules, printed_alike)

    without_top : (fs : List ActivationRecord) → top_of fs ≡ None → printed_here c.instructions (bits_of x.globals) (activations fs) ≡ None
    without_top fs given1 = grind (arith)

    with_top : (fs : List ActivationRecord) (f : ActivationRecord) → top_of fs ≡ Some f
        → printed_here c.instructions (bits_of x.globals) (activations fs)
        ≡ printed_at (slice_get c.instructions f.number) (record { globals = bits_of x.globals; locals = bits_of f.locals })
    with_top fs f given1 = grind (arith)

    -- a thread without a frame prints nothing
    pub nothing_printed : None ≡ top_of guest.stack → None ≡ values_printed (configuration_after t s h).globals (stack_of (configuration_after t s h) i)
    nothing_printed e = sym (printed ∙ without_top guest.stack (sym e))

    -- neither does one behind its code
    pub none_printed : (f : ActivationRecord) → Some f ≡ top_of guest.stack → None ≡ slice_get c.instructions f.number
        → None ≡ values_printed (configuration_after t s h).globals (stack_of (configuration_after t s h) i)
    none_printed f given1 given2 = search (rules, printed, with_top)

    -- else its next instruction prints
    pub instruction_printed : (f : ActivationRecord) → Some f ≡ top_of guest.stack → (instr : Instruction) → Some instr ≡ slice_get c.instructions f.number
        → printed_values (record { globals = bits_of x.globals; locals = bits_of f.locals }) instr
        ≡ values_printed (configuration_after t s h).globals (stack_of (configuration_after t s h) i)
    instruction_printed f given1 instr given2 = search (rules, printed, with_top)
