-- A thread whose assertion failed is still at it, and its facts there are those of the failure.
use Rattle.bp_view.proofs.Common.{◌≡◌, ◌∙◌, ℕ, Bool, true, false, cond, List, [], ◌∷◌, ◌++◌, ap, refl, Some, drop, subst, sym, ◌&&◌, Option, unwrap_or, option_map, arith, rules, position_at, Program, Decision, Procedure, Name, Block, Done, Then, Statement, Skips, GoesTo, Returns, Assigns, Branches, Loops, Asserts, Assumes, Prints, Calls, Configuration, Fails, Leaves, effect, with_left, Frame, Store, frame_store, Valuation, is_call, procedure_named, from_label, StatementEffect, call_effect, jump_effect, statement_effect, decision_value, expression_values, place, start_of_block, Call, configuration_after_call, configuration_after_step, stack_of, configuration_after, configuration_after_calls, granted_threads, is_granted, IsAtFalseAssertion, IsRealFailure, is_full, reply_on_stack, reply_to_effect, SetupOf, Top, IsTop, finds_zero, is_blocked, waits, next_decision, variables_read, SourceStatement, IsSourceStatement, IsStatementAt, IsStatement, one_statement, Entry, named_entries, AreConditionFacts, AreStandingFacts, IsAtCondition, ShownCondition, AreAssertionFacts}
use Rattle.bp_text.specs.declared.lines.Position.{Position}
use Rattle.bp_machine.specs.declared.calls.Reply.TheVariants.{Failed, Full}

-- A thread whose assertion failed is at it until the end of the history.

-- the configuration, if an assertion failed in it
abbrev failed_in : Configuration → Configuration
failed_in c = record c { failed = true }

module _ (t : Program) where
  pub calls_append : (c : Configuration) (xs ys : List Call)
      → configuration_after_calls t c (xs ++ ys) ≡ configuration_after_calls t (configuration_after_calls t c xs) ys
  calls_append c [] ys = refl
  calls_append c (x ∷ xs) ys = calls_append (configuration_after_call t c x.thread x.bit x.reply) xs ys

  -- attempts without a step change nothing
  same_without_steps : (c : Configuration) (xs : List Call) → granted_threads xs ≡ [] → configuration_after_calls t c xs ≡ c
  same_without_steps c [] none = refl
  same_without_steps c (x ∷ xs) none =
      let next = unwrap_or (configuration_after_step t c x.thread x.bit (stack_of c x.thread)) c in
      (elim (is_granted x.reply)
      as (λ b. cond b (x.thread ∷ granted_threads xs) (granted_threads xs) ≡ [] → configuration_after_calls t (cond b next c) xs ≡ c) [
        | true ↦ λ e. absurd cc
        | false ↦ λ e. same_without_steps c xs e
      ]) none

  -- and a failed one nothing but that an assertion failed
  after_failure : (c : Configuration) (i : ℕ) (bit : Bool) → IsAtFalseAssertion c i bit → configuration_after_call t c i bit Failed ≡ failed_in c
  after_failure c i bit given1 = grind (arith)

  stays : (s : SetupOf) (h : List Call) (i : ℕ) (failure : IsRealFailure t s h i)
      → configuration_after t s h ≡ failed_in (configuration_after t s failure.before)
  stays s h i failure = search (rules, calls_append, same_without_steps, after_failure)

  module _ (s : SetupOf) (h : List Call) (i : ℕ) (failure : IsRealFailure t s h i) where
    pub stack_stays : stack_of (configuration_after t s h) i ≡ failure.stands.frame ∷ failure.stands.below
    stack_stays = ap (λ c. stack_of c i) (stays s h i failure) ∙ failure.stands.stack

    pub globals_stay : (configuration_after t s h).globals ≡ (configuration_after t s failure.before).globals
    globals_stay = ap (λ (c : Configuration). c.globals) (stays s h i failure)

-- The facts of the condition at which a thread is are those of the source statement of its top.

-- a condition has one set of facts
pub one_condition : (text : List ℕ) (at : ℕ) (d : Decision) (p : Procedure) (s : Store Valuation) (x y : ShownCondition) → x.thread ≡ y.thread
    → AreConditionFacts text at d p s x → AreConditionFacts text at d p s y → x ≡ y
one_condition text at d p s x y same a b =
    let own = (one_statement (drop at text) x.text y.text a.reads b.reads a.statement b.statement).0 in
    λ i. record {
      thread = same i;
      position = (a.position ∙ sym b.position) i;
      text = own i;
      values = (a.values ∙ sym b.values) i;
    }

-- an equal condition has the same facts
pub same_condition : (text : List ℕ) (at at' : ℕ) (d d' : Decision) (f f' : Frame) (g g' : Valuation) (x : ShownCondition) → at ≡ at' → d ≡ d' → f ≡ f' → g ≡ g'
    → AreConditionFacts text at d f.procedure (frame_store g f) x → AreConditionFacts text at' d' f'.procedure (frame_store g' f') x
same_condition text at at' d d' f f' g g' x given1 given2 given3 given4 given5 = grind (arith)

-- a thread is at one condition
module _ (c : Configuration) (i j : ℕ) (same : i ≡ j) (a : IsAtCondition c i) (b : IsAtCondition c j) where
  pub one_frame : a.frame ≡ b.frame
  one_frame = let one = sym a.stack ∙ ap (stack_of c) same ∙ b.stack in cc

  pub one_place : a.at ≡ b.at
  one_place = let starts = sym a.begins ∙ ap (λ (f : Frame). start_of_block f.left) one_frame ∙ b.begins in cc

  pub one_decision : a.decision ≡ b.decision
  one_decision = let decides = sym a.decides ∙ ap (λ (f : Frame). next_decision f.left) one_frame ∙ b.decides in cc

module _
    (t : Program) (text : List ℕ) (c : Configuration) (i : ℕ) (stands : IsAtCondition c i) (x : Top) (top : IsTop t c i x)
    (statement : SourceStatement) (shown : IsSourceStatement text t.procedures (place top.frame.procedure top.frame.left) statement) where
  frame_is : top.frame ≡ stands.frame
  frame_is = let own = top.stack in let same = stands.stack in cc

  begins : start_of_block top.frame.left ≡ Some stands.at
  begins = ap (λ (f : Frame). start_of_block f.left) frame_is ∙ stands.begins

  excerpt_is : IsStatement (drop stands.at text) statement.excerpt.text.items statement.excerpt.reads_choice
  excerpt_is = subst (λ at. IsStatementAt text top.frame.procedure at statement.excerpt.text.items statement.excerpt.reads_choice) begins shown.excerpt

  pub position_is : statement.position ≡ Some (position_at text stands.at)
  position_is = shown.position ∙ ap (option_map (position_at text)) begins

  pub decision_is : next_decision top.frame.left ≡ Some stands.decision
  decision_is = ap (λ (f : Frame). next_decision f.left) frame_is ∙ stands.decides

  pub standing_facts : (position : Position) (d : Decision) (values : List Entry) → statement.position ≡ Some position → next_decision top.frame.left ≡ Some d
      → values ≡ named_entries top.frame.procedure (frame_store c.globals top.frame) (variables_read d)
      → AreStandingFacts text c (record { thread = i; position = position; text = statement.excerpt.text.items; values = values })
  standing_facts position d values at decides read =
      let here : position ≡ position_at text stands.at = let own = position_is in cc in
      record {
        stands = record {
          frame = top.frame;
          below = top.below;
          stack = top.stack;
          at = stands.at;
          begins = begins;
          decision = d;
          decides = decides;
        };
        are = record { position = here; reads = statement.excerpt.reads_choice; statement = excerpt_is; values = read };
      }

module _ (t : Program) (s : SetupOf) (h : List Call) where
  pub at_assertion : (i : ℕ) → IsRealFailure t s h i → IsAtCondition (configuration_after t s h) i
  at_assertion i failure = record {
    frame = failure.stands.frame;
    below = failure.stands.below;
    stack = stack_stays t s h i failure;
    at = failure.stands.at;
    begins = ap start_of_block failure.stands.asserts;
    decision = failure.stands.decision;
    decides = ap next_decision failure.stands.asserts;
  }

  pub assertion_facts : (text : List ℕ) (x : ShownCondition) → IsRealFailure t s h x.thread → AreStandingFacts text (configuration_after t s h) x
      → AreAssertionFacts t text s h x
  unfolding at_assertion
  assertion_facts text x failure standing =
      let now = configuration_after t s h in
      let i = x.thread in
      let there = at_assertion i failure in
      let place = one_place now i i refl standing.stands there in
      let frame = one_frame now i i refl standing.stands there in
      let decision = one_decision now i i refl standing.stands there in
      record {
        failure = failure;
        are = same_condition text _ _ _ _ _ _ _ _ x place decision frame (globals_stay t s h i failure) standing.are;
      }

  -- and so one failure has one set of facts
  pub one_assertion : (text : List ℕ) (x y : ShownCondition) → x.thread ≡ y.thread → AreAssertionFacts t text s h x → AreAssertionFacts t text s h y → x ≡ y
  unfolding at_assertion
  one_assertion text x y same a b =
      let now = configuration_after t s h in
      let i = x.thread in
      let j = y.thread in
      let there = at_assertion i a.failure in
      let also = at_assertion j b.failure in
      let place = one_place now i j same there also in
      let decision = one_decision now i j same there also in
      let frame = one_frame now i j same there also in
      let globals = sym (globals_stay t s h i a.failure) ∙ globals_stay t s h j b.failure in
      one_condition text _ _ _ _ x y same (same_condition text _ _ _ _ _ _ _ _ x place decision frame globals a.are) b.are

-- A thread that waits is at an assumption.

abbrev blocks : StatementEffect → Bool
blocks e = is_blocked (reply_to_effect e)

-- the next statement begins there and has this decision
record IsDecided (b : Block) : Type 0 where
  at : ℕ
  begins : start_of_block b ≡ Some at
  decision : Decision
  decides : next_decision b ≡ Some decision

module _ (ps : List Procedure) (g : Valuation) (f : Frame) (fs : List Frame) (bit : Bool) where
  no_jump : (o : Option Block) (x : Block) → blocks (jump_effect g f fs o) ≡ true → IsDecided x
  no_jump o x given1 = grind (arith)

  no_call : (r : Block) (bits : List Bool) (o : Option Procedure) (x : Block) → blocks (call_effect g f fs r bits o) ≡ true → IsDecided x
  no_call r bits o x given1 = grind (arith)

  no_assertion : (b : Bool) (left : StatementEffect) (x : Block) → blocks left ≡ false → blocks (cond b left Fails) ≡ true → IsDecided x
  no_assertion b left x given1 given2 = grind (arith)

  in_statement : (s : Statement) (label : Option Name) (at : ℕ) (r : Block)
      → blocks (statement_effect ps g f fs bit s label at r) ≡ true → IsDecided (Then label at s r)
  in_statement Skips label at r e = absurd cc
  in_statement (GoesTo x) label at r e = no_jump (from_label f.procedure.body Done x.text) _ e
  in_statement Returns label at r e = absurd cc
  in_statement (Assigns xs es) label at r e = absurd cc
  in_statement (Branches d a b) label at r e = absurd cc
  in_statement (Loops d a) label at r e = absurd cc
  in_statement (Asserts d) label at r e = no_assertion (decision_value (frame_store g f) bit d) (Leaves g (with_left f r ∷ fs)) _ refl e
  in_statement (Assumes d) label at r e = record { at = at; begins = refl; decision = d; decides = refl }
  in_statement (Prints es) label at r e = absurd cc
  in_statement (Calls x es) label at r e = no_call r (expression_values (frame_store g f) es) (procedure_named ps x.text) _ e

  in_block : (b : Block) → blocks (effect ps b g f fs bit) ≡ true → IsDecided b
  in_block Done e = absurd cc
  in_block (Then label at s r) e = in_statement s label at r e

  with_room : (full : Bool) (b : Block) → is_blocked (cond full (Some Full) (reply_to_effect (effect ps b g f fs bit))) ≡ true → IsDecided b
  with_room full b given1 = search (rules, in_block)

left_of : (a b : Bool) → (a && b) ≡ true → a ≡ true
left_of a b given1 = grind (arith)

module _ (t : Program) (c : Configuration) (i : ℕ) where
  on_stack : (stack : List Frame) → stack_of c i ≡ stack → is_blocked (reply_on_stack t true c.globals stack false) ≡ true → IsAtCondition c i
  on_stack [] is e = absurd cc
  on_stack (f ∷ fs) is e =
      let decided = with_room t.procedures c.globals f fs false (is_call f.left && is_full (f ∷ fs)) f.left e in
      record { frame = f; below = fs; stack = is; at = decided.at; begins = decided.begins; decision = decided.decision; decides = decided.decides }

  pub at_assumption : waits t c i ≡ true → IsAtCondition c i
  at_assumption e = on_stack (stack_of c i) refl (left_of (finds_zero t c i false) (finds_zero t c i true) e)
