-- Each frame of each stack after a history continues at a place of its program.
use Rattle.bp_view.proofs.Common.{next_at, if◌then◌else◌, ◌≡◌, ℕ, zero, suc, Bool, true, false, List, [], ◌∷◌, Option, Some, map, ◌∙◌, drop, drop-cons, slice_get, ap, slice_index_or, slice_set, unwrap_or, arith, rules, slice_get_within, get_or_from_slice_get, Name, Block, Procedure, Program, Frame, Configuration, first_stack, procedure_named, StatementEffect, Leaves, after_effect, call_effect, effect, Valuation, Flat, Heading, Instruction, heading_named, Does, Place, Remains, StandsFor, places_of, place, SameHeading, heading_of_procedure, Call, Reply, configuration_after_call, configuration_after_step, stack_of, configuration_after, configuration_after_calls, is_granted, SetupOf, start, Top, IsTopOf, SourceStatement, IsSourceStatement, IsNextOf, AreFrameFacts, ShownFrame}

-- the frame continues at an instruction of the program
pub record IsPlaced (t : Program) (f : Frame) : Type 0 where
  pub number : ℕ
  pub at : Remains (places_of t.procedures) number f.procedure f.left

abbrev pub ArePlaced : Program → List Frame → Type 0
ArePlaced t [] = Unit {0}
ArePlaced t (f ∷ fs) = IsPlaced t f × ArePlaced t fs

-- each stack is placed
abbrev AllPlaced : Program → Configuration → Type 0
AllPlaced t c = (i : ℕ) → ArePlaced t (stack_of c i)

-- the stack that an effect leaves is placed
abbrev LeavesPlaced : Program → StatementEffect → Type 0
LeavesPlaced t (Leaves g stack) = ArePlaced t stack
LeavesPlaced t e = Unit {0}

set_placed : (t : Program) (stacks : List (List Frame)) (i j : ℕ) (stack : List Frame) → ArePlaced t stack
    → ((k : ℕ) → ArePlaced t (slice_index_or stacks k [])) → ArePlaced t (slice_index_or (slice_set stacks i stack) j [])
set_placed t [] i j stack placed all = all j
set_placed t (s ∷ stacks) zero zero stack placed all = placed
set_placed t (s ∷ stacks) zero (suc j) stack placed all = all (suc j)
set_placed t (s ∷ stacks) (suc i) zero stack placed all = all zero
set_placed t (s ∷ stacks) (suc i) (suc j) stack placed all = set_placed t stacks i j stack placed (λ k. all (suc k))

module _ (t : Program) (f : Frame) (fs : List Frame) (below : ArePlaced t fs) where
  abbrev table : List Place
  table = places_of t.procedures

  calls : (g : Valuation) (r : Block) (arguments : List Bool) (x : Name) (n m : ℕ) (p : Procedure)
      → Remains table n f.procedure r → Remains table m p p.body → (o : Option Procedure) → o ≡ Some p → LeavesPlaced t (call_effect g f fs r arguments o)
  calls g r arguments x n m p given1 given2 o given3 = grind (arith)

  effect_placed : (g : Valuation) (bit : Bool) (left : Block) (i : Instruction)
      → Does t table f.procedure left i → LeavesPlaced t (effect t.procedures left g f fs bit)
  effect_placed g bit left i given1 = grind (arith)

module _ (c : Flat) (t : Program) (is : StandsFor c t) where
  -- a step keeps it so
  after_effect_placed : (d : Configuration) (i : ℕ) → AllPlaced t d → (e : StatementEffect) → LeavesPlaced t e → AllPlaced t (unwrap_or (after_effect d i e) d)
  after_effect_placed d i given1 e given2 = search (rules, set_placed)

  step_placed : (d : Configuration) (i : ℕ) (bit : Bool) → AllPlaced t d → (stack : List Frame) → ArePlaced t stack
      → AllPlaced t (unwrap_or (configuration_after_step t d i bit stack) d)
  step_placed d i bit all [] placed = all
  step_placed d i bit all (f ∷ fs) (here, below) =
      let (instruction, found, does) = is.each here.number f.procedure f.left here.at in
      after_effect_placed d i all (effect t.procedures f.left d.globals f fs bit) (effect_placed t f fs below d.globals bit f.left instruction does)

  call_placed : (d : Configuration) (i : ℕ) (bit : Bool) (r : Reply) → AllPlaced t d → AllPlaced t (configuration_after_call t d i bit r)
  call_placed d i bit r all = by_reply (is_granted r)
    where
      by_reply : (b : Bool) → AllPlaced t (if b then unwrap_or (configuration_after_step t d i bit (stack_of d i)) d else d)
      by_reply true = step_placed d i bit all (stack_of d i) (all i)
      by_reply false = all

  calls_placed : (d : Configuration) → AllPlaced t d → (h : List Call) → AllPlaced t (configuration_after_calls t d h)
  calls_placed d all [] = all
  calls_placed d all (x ∷ xs) = search (rules, (calls_placed (configuration_after_call t d x.thread x.bit x.reply) (call_placed d x.thread x.bit x.reply all) xs), call_placed)

  -- it is so at the start
  first_placed : (h : Option Heading) (o : Option Procedure) → SameHeading (places_of t.procedures) h o → ArePlaced t (first_stack o)
  first_placed h o given1 = grind (arith)

  start_placed : (es : List (List ℕ)) (i : ℕ) → ArePlaced t (slice_index_or (map (λ e. first_stack (procedure_named t.procedures e)) es) i [])
  start_placed [] i = tt
  start_placed (e ∷ es) zero = first_placed (heading_named c.headings e) (procedure_named t.procedures e) (heading_of_procedure c t e is)
  start_placed (e ∷ es) (suc i) = start_placed es i

  pub stack_placed : (s : SetupOf) (h : List Call) (i : ℕ) → ArePlaced t (stack_of (configuration_after t s h) i)
  stack_placed s h i = calls_placed (start t s) (λ k. start_placed s.entries k) h i

-- The facts of a frame of a stack are those of the source statement of its instruction.

-- the rest of a stack begins with the frame at that place
pub from_here : (stack : List Frame) (n : ℕ) (f : Frame) → slice_get stack n ≡ Some f → drop n stack ≡ f ∷ drop (suc n) stack
from_here stack n f has = drop-cons stack n f (slice_get_within stack n f has) ∙ ap (λ y. y ∷ drop (suc n) stack) (get_or_from_slice_get stack n f f has)

-- the facts of a frame of this procedure, with these values
abbrev pub frame_with : (above : ℕ) → Procedure → Valuation → SourceStatement → ShownFrame
frame_with n p values statement =
    record {
      above = n;
      procedure = p;
      place = statement.place.items;
      position = statement.position;
      text = statement.excerpt.text.items;
      locals = values;
    }

pub frame_facts : (text : List ℕ) (ps : List Procedure) (n : ℕ) (f : Frame) (statement : SourceStatement)
    → IsSourceStatement text ps (place f.procedure f.left) statement
    → AreFrameFacts text n f (frame_with n f.procedure f.locals statement)
frame_facts text ps n f statement given1 = grind (arith)

module _
    (t : Program) (text : List ℕ) (c : Configuration) (frames : List Frame) (x : Top) (is : IsTopOf t c frames x)
    (statement : SourceStatement) (shows : IsSourceStatement text t.procedures (place is.frame.procedure is.frame.left) statement) where
  pub next_of_top : IsNextOf text frames (next_at t.procedures statement x)
  next_of_top = grind (arith)
