-- How a program runs: values, continuations, configurations, and one move of a thread.
use Rattle.std.specs.Prelude.{List, if◌then◌else◌, ℕ, Bool, true, false, not, ◌&&◌, ◌||◌, [], ◌∷◌, Option, None, Some, is_some, map, unwrap_or, bytes_eq, ◌++◌, ◌≡◌, slice_get, slice_set}
use Rattle.std.specs.Option.{option_or}
use Rattle.bp_syntax.specs.declared.exprs.Op.{Op}
use Rattle.bp_syntax.specs.declared.exprs.Op.TheVariants.{Equal, Differ, And, Xor, Or, Implies}
use Rattle.bp_syntax.specs.Ast.{Name, Expression, Constant, Variable, Negation, Operation, Decision, Choose, Decide, Block, Done, Then, Statement, Branches, Loops, Calls, Procedure, Program, Skips, GoesTo, Returns, Assigns, Asserts, Assumes, Prints}
pub use Rattle.bp_syntax.specs.Ast.{procedure_named}

-- The store that statements and instructions see, and the effect that they have.

-- the variables that a statement or an instruction sees: the globals, and the locals of its frame
pub record Store (Variables : Type 0) : Type 0 where
  pub globals : Variables
  pub locals : Variables

-- the effect of a statement or an instruction on its thread
pub data Effect (Variables Frame : Type 0) : Type 0 where
  -- the globals and the thread's stack after it
  Leaves : (globals : Variables) (stack : List Frame) → Effect Variables Frame
  -- an assertion of 0
  Fails : Effect Variables Frame
  -- an assumption of 0
  Blocks : Effect Variables Frame
  -- the target of a jump or a call, or the next instruction, does not exist
  Misses : Effect Variables Frame

-- The values of expressions and decisions, with globals and locals as maps from names to bits.

-- names with their bits; the first entry of a name counts
abbrev pub Valuation : Type 0
Valuation = List (List ℕ × Bool)

abbrev pub lookup : Valuation → List ℕ → Option Bool
lookup [] x = None
lookup (e ∷ m) x = if bytes_eq e.0 x then Some e.1 else lookup m x

-- the map with another bit for one of its names
abbrev pub update : Valuation → List ℕ → Bool → Valuation
update [] x b = []
update (e ∷ m) x b = if bytes_eq e.0 x then (e.0, b) ∷ m else e ∷ update m x b

-- the bit of a variable: a local hides a global of its name, and an undeclared name is 0
abbrev pub variable_value : Store Valuation → List ℕ → Bool
variable_value s x = unwrap_or (option_or (lookup s.locals x) (lookup s.globals x)) false

abbrev pub same_bit : Bool → Bool → Bool
same_bit true b = b
same_bit false b = not b

abbrev pub operation_value : Op → Bool → Bool → Bool
operation_value Equal a b = same_bit a b
operation_value Differ a b = not (same_bit a b)
operation_value And a b = a && b
operation_value Xor a b = not (same_bit a b)
operation_value Or a b = a || b
operation_value Implies a b = not a || b

abbrev pub expression_value : Store Valuation → Expression → Bool
expression_value s (Constant b) = b
expression_value s (Variable x) = variable_value s x.text
expression_value s (Negation e) = not (expression_value s e)
expression_value s (Operation op a b) =
    operation_value op (expression_value s a) (expression_value s b)

abbrev pub expression_values : Store Valuation → List Expression → List Bool
expression_values s es = map (expression_value s) es

-- the value of `?` is the attempt's choice bit
abbrev pub decision_value : Store Valuation → Bool → Decision → Bool
decision_value s bit Choose = bit
decision_value s bit (Decide e) = expression_value s e

-- the store with another bit for a variable: the local of this name if there is one, else the
-- global
abbrev pub after_write : Store Valuation → List ℕ → Bool → Store Valuation
after_write s x b =
    if is_some (lookup s.locals x)
    then record s { locals = update s.locals x b }
    else record s { globals = update s.globals x b }

-- the store after each target got its bit, the first target first
abbrev pub after_assignment : Store Valuation → List Name → List Bool → Store Valuation
after_assignment s [] bits = s
after_assignment s (x ∷ xs) [] = s
after_assignment s (x ∷ xs) (b ∷ bits) = after_assignment (after_write s x.text b) xs bits

-- the names bound to these bits, with 0 for the names past the last bit
abbrev pub binding : List Name → List Bool → Valuation
binding [] bits = []
binding (x ∷ xs) [] = (x.text, false) ∷ binding xs []
binding (x ∷ xs) (b ∷ bits) = (x.text, b) ∷ binding xs bits

-- The statements that remain: after a statement in the usual way, and after a jump to a label.

-- the statements of one block, then those of the other
abbrev pub chain : Block → Block → Block
chain Done r = r
chain (Then label at s t) r = Then label at s (chain t r)

abbrev pub has_label : Option Name → List ℕ → Bool
has_label None x = false
has_label (Some l) x = bytes_eq l.text x

-- The statements from this label on, if r follows the block: as if control had come there in the
-- usual way. In a branch the first part is searched first, then the second, then the statements
-- after the branch.
abbrev mutual
  pub from_label : Block → Block → List ℕ → Option Block
  from_label Done r x = None
  from_label (Then label at s t) r x =
      if has_label label x
      then Some (Then label at s (chain t r))
      else option_or (from_inside s label at (chain t r) x) (from_label t r x)

  -- also within one statement, if r remains after it
  pub from_inside : Statement → Option Name → ℕ → Block → List ℕ → Option Block
  from_inside (Branches d a b) label at r x = option_or (from_label a r x) (from_label b r x)
  from_inside (Loops d a) label at r x = from_label a (Then label at (Loops d a) r) x
  from_inside s label at r x = None

-- The configurations of a program: the variables that its threads share, and each thread's stack.

-- a call that has not returned: its procedure, its locals, and the statements that remain
pub record Frame : Type 0 where
  pub procedure : Procedure
  pub locals : Valuation
  pub left : Block

-- a stack for each thread, its top first; failed if an assertion has failed
pub record Configuration : Type 0 where
  pub globals : Valuation
  pub stacks : List (List Frame)
  pub failed : Bool

-- the frame of a new call: the formals have the arguments, the declared locals 0, and the whole
-- body remains
abbrev pub entry_frame : Procedure → List Bool → Frame
entry_frame p arguments =
    record {
      procedure = p;
      locals = binding p.formals arguments ++ binding p.locals [];
      left = p.body;
    }

-- the stack of a thread that begins with this procedure, or no frames if there is none
abbrev pub first_stack : Option Procedure → List Frame
first_stack None = []
first_stack (Some p) = entry_frame p [] ∷ []

-- the start: the globals have these bits, and each thread enters its entry procedure
abbrev pub start_of : Program → List (List ℕ) → List Bool → Configuration
start_of t entries init =
    record {
      globals = binding t.globals init;
      stacks = map (λ x. first_stack (procedure_named t.procedures x)) entries;
      failed = false;
    }

-- the next statement is a call
abbrev pub is_call : Block → Bool
is_call (Then label at (Calls x es) r) = true
is_call b = false

-- One move of a program: one thread carries out its next statement.

-- the effect of a statement on its thread
abbrev pub StatementEffect : Type 0
StatementEffect = Effect Valuation Frame

-- the frame with these statements left
abbrev pub with_left : Frame → Block → Frame
with_left f r = record f { left = r }

-- the store that the topmost frame sees
abbrev pub frame_store : Valuation → Frame → Store Valuation
frame_store g f = record { globals = g; locals = f.locals }

-- a jump to the place where r remains, or a miss if the label does not exist
abbrev pub jump_effect : Valuation → Frame → List Frame → Option Block → StatementEffect
jump_effect g f fs None = Misses
jump_effect g f fs (Some r) = Leaves g (with_left f r ∷ fs)

-- a call of a procedure, or a miss if it does not exist; r is left to the calling frame
abbrev pub call_effect
    : Valuation → Frame → List Frame → Block → List Bool → Option Procedure → StatementEffect
call_effect g f fs r arguments None = Misses
call_effect g f fs r arguments (Some p) = Leaves g (entry_frame p arguments ∷ with_left f r ∷ fs)

-- an assignment that leaves this store and r to the frame
abbrev pub assignment_effect : Store Valuation → Frame → List Frame → Block → StatementEffect
assignment_effect s f fs r = Leaves s.globals (record f { locals = s.locals; left = r } ∷ fs)

module _ (ps : List Procedure) (g : Valuation) (f : Frame) (fs : List Frame) (bit : Bool) where
  -- the effect of a statement with its label and place, if r remains after it
  abbrev pub statement_effect : Statement → Option Name → ℕ → Block → StatementEffect
  statement_effect Skips label at r = Leaves g (with_left f r ∷ fs)
  statement_effect (GoesTo x) label at r =
      jump_effect g f fs (from_label f.procedure.body Done x.text)
  statement_effect Returns label at r = Leaves g fs
  statement_effect (Assigns xs es) label at r =
      let now = frame_store g f in
      assignment_effect (after_assignment now xs (expression_values now es)) f fs r
  statement_effect (Branches d a b) label at r =
      let taken = if decision_value (frame_store g f) bit d then chain a r else chain b r in
      Leaves g (with_left f taken ∷ fs)
  statement_effect (Loops d a) label at r =
      let again = Then label at (Loops d a) r in
      let taken = if decision_value (frame_store g f) bit d then chain a again else r in
      Leaves g (with_left f taken ∷ fs)
  statement_effect (Asserts d) label at r =
      if decision_value (frame_store g f) bit d then Leaves g (with_left f r ∷ fs) else Fails
  statement_effect (Assumes d) label at r =
      if decision_value (frame_store g f) bit d then Leaves g (with_left f r ∷ fs) else Blocks
  statement_effect (Prints es) label at r = Leaves g (with_left f r ∷ fs)
  statement_effect (Calls x es) label at r =
      call_effect g f fs r (expression_values (frame_store g f) es) (procedure_named ps x.text)

-- the effect of the next step of the frame f above the frames fs: of its first statement, or of the
-- return at its procedure's end
abbrev pub effect : List Procedure → Block → Valuation → Frame → List Frame → Bool → StatementEffect
effect ps Done g f fs bit = Leaves g fs
effect ps (Then label at s r) g f fs bit = statement_effect ps g f fs bit s label at r

-- the configuration after an effect on thread i, or None if there is no move
abbrev pub after_effect : Configuration → ℕ → StatementEffect → Option Configuration
after_effect c i (Leaves g stack) =
    Some (record { globals = g; stacks = slice_set c.stacks i stack; failed = false })
after_effect c i Fails = Some (record c { failed = true })
after_effect c i Blocks = None
after_effect c i Misses = None

-- thread i moves from c to d with this choice bit
pub record Moves (t : Program) (c : Configuration) (i : ℕ) (bit : Bool) (d : Configuration)
    : Type 0 where
  pub frame : Frame
  pub below : List Frame
  pub runs : c.failed ≡ false
  pub has : slice_get c.stacks i ≡ Some (frame ∷ below)
  pub is : after_effect c i (effect t.procedures frame.left c.globals frame below bit)
      ≡ Some d
