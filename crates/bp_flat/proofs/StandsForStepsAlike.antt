-- If a code stands for a program, they step alike.
use Rattle.bp_flat.proofs.Common.{◌≡◌, refl, sym, ap, subst, ◌∙◌, ℕ, Bool, false, cond, List, [], ◌∷◌, ◌++◌, Option, length, arith, length-map, Name, Block, Then, Statement, Skips, GoesTo, Returns, Assigns, Branches, Loops, Asserts, Assumes, Prints, Calls, Procedure, Program, binding, expression_value, expression_values, decision_value, after_assignment, chain, Frame, StatementEffect, effect, statement_effect, assignment_effect, Store, Leaves, Fails, Blocks, Instruction, Flat, Bits, Activation, InstructionEffect, bits_from, step_to, instruction_effect, step, with_slots, formula_values, StandsFor, Remains, Does, CarriesOut, valuation_of, places_of, variables, named_store, ShowsStack, SameEffect, StepsAlike}

-- the bits of a call's arguments show the new frame's locals
no_bits : (ys : List Name) → binding ys [] ≡ valuation_of ys (bits_from [])
no_bits [] = refl
no_bits (y ∷ ys) = ap (λ m. (y.text, false) ∷ m) (no_bits ys)

pub binding_is_valuation : (xs ys : List Name) (bs : List Bool) → length bs ≡ length xs
    → binding xs bs ++ binding ys [] ≡ valuation_of (xs ++ ys) (bits_from bs)
binding_is_valuation [] ys [] e = no_bits ys
binding_is_valuation [] ys (b ∷ bs) e = cc
binding_is_valuation (x ∷ xs) ys [] e = cc
binding_is_valuation (x ∷ xs) ys (b ∷ bs) e =
    let shorter : length bs ≡ length xs = cc in ap (λ m. (x.text, b) ∷ m) (binding_is_valuation xs ys bs shorter)

-- the frame that this store shows
abbrev framed : Procedure → Store Bits → Block → Frame
framed p w r = record { procedure = p; locals = valuation_of (variables p) w.locals; left = r }

module _ (t : Program) (p : Procedure) (w : Store Bits) (below : List Activation) (fs : List Frame) (stack : ShowsStack t below fs) where
  going : (m : ℕ) (r : Block) → Remains (places_of t.procedures) m p r
      → SameEffect t (step_to w m below) (Leaves (valuation_of t.globals w.globals) (framed p w r ∷ fs))
  going m r at = (refl, (record { left = at; locals = refl }, stack))

  chosen : (b : Bool) (m e : ℕ) (x y : Block) → Remains (places_of t.procedures) m p x → Remains (places_of t.procedures) e p y
      → Remains (places_of t.procedures) (cond b m e) p (cond b x y)
  chosen b m e x y given1 given2 = grind (arith)

  unless_failed : (b : Bool) (o : InstructionEffect) (e : StatementEffect) → SameEffect t o e → SameEffect t (cond b o Fails) (cond b e Fails)
  unless_failed b o e given1 = grind (arith)

  unless_blocked : (b : Bool) (o : InstructionEffect) (e : StatementEffect) → SameEffect t o e → SameEffect t (cond b o Blocks) (cond b e Blocks)
  unless_blocked b o e given1 = grind (arith)

  pub carried : (s : Statement) (label : Option Name) (at : ℕ) (r : Block) (bit : Bool) (i : Instruction)
      → CarriesOut t (places_of t.procedures) p s label at r i
      → SameEffect t (instruction_effect i w below bit)
      (statement_effect t.procedures (valuation_of t.globals w.globals) (framed p w (Then label at s r)) fs bit s label at r)
  carried Skips label at r bit i c = rw c.is (going c.next r c.next_is)
  carried (GoesTo x) label at r bit i c = rw (c.is, c.left_is) (going c.next c.left c.next_is)
  carried Returns label at r bit i is = rw is (refl, stack)
  carried (Assigns xs es) label at r bit i c =
      let now = named_store t.globals p w in
      let bits = formula_values w c.values in
      let after = with_slots w c.targets bits in
      let same : named_store t.globals p after ≡ after_assignment now xs (expression_values now es) =
      c.targets_are.equal w bits ∙ ap (after_assignment now xs) (c.values_are.equal w) in
      let frame = framed p w (Then label at (Assigns xs es) r) in
      rw c.is (subst (λ s. SameEffect t (step_to after c.next below) (assignment_effect s frame fs r)) same
      (refl, (record { left = c.next_is; locals = refl }, stack)))
  carried (Branches d a b) label at r bit i c =
      let v = decision_value (named_store t.globals p w) bit d in
      let goes_on = chosen v c.next c.else_next (chain a r) (chain b r) c.next_is c.else_is in
      rw (c.is, c.test_is.equal w bit) (going (cond v c.next c.else_next) (cond v (chain a r) (chain b r)) goes_on)
  carried (Loops d a) label at r bit i c =
      let v = decision_value (named_store t.globals p w) bit d in
      let body = chain a (Then label at (Loops d a) r) in
      let goes_on = chosen v c.next c.else_next body r c.next_is c.else_is in
      rw (c.is, c.test_is.equal w bit) (going (cond v c.next c.else_next) (cond v body r) goes_on)
  carried (Asserts d) label at r bit i c =
      rw (c.is, c.test_is.equal w bit) (unless_failed (decision_value (named_store t.globals p w) bit d) _ _ (going c.next r c.next_is))
  carried (Assumes d) label at r bit i c =
      rw (c.is, c.test_is.equal w bit) (unless_blocked (decision_value (named_store t.globals p w) bit d) _ _ (going c.next r c.next_is))
  carried (Prints es) label at r bit i c = rw c.is (going c.next r c.next_is)
  carried (Calls x es) label at r bit i c =
      let now = named_store t.globals p w in
      let bits = expression_values now es in
      let many : length bits ≡ length c.procedure.formals = length-map es (expression_value now) ∙ c.arity in
      let locals = binding_is_valuation c.procedure.formals c.procedure.locals bits many in
      rw (c.is, c.procedure_is, c.arguments_are.equal w)
      (refl, (record { left = c.callee_is; locals = locals }, (record { left = c.next_is; locals = refl }, stack)))

-- also for the statements that remain, if any
doing : (t : Program) (p : Procedure) (w : Store Bits) (below : List Activation) (fs : List Frame) (stack : ShowsStack t below fs)
    → (left : Block) (bit : Bool) (i : Instruction) → Does t (places_of t.procedures) p left i
    → SameEffect t (instruction_effect i w below bit) (effect t.procedures left (valuation_of t.globals w.globals) (framed p w left) fs bit)
doing t p w below fs stack left bit i given1 = grind (arith, carried)

pub steps_alike : (c : Flat) (t : Program) → StandsFor c t → StepsAlike c t
steps_alike c t st bits a below f fs bit shown stack =
    let found = st.each a.number f.procedure f.left shown.left in
    let w : Store Bits = record { globals = bits; locals = a.locals } in
    let same = doing t f.procedure w below fs stack f.left bit found.0 found.2 in
    subst (λ m. SameEffect t (step c.instructions bits a below bit)
    (effect t.procedures f.left (valuation_of t.globals bits) (record f { locals = m }) fs bit)) (sym shown.locals)
    (rw found.1 same)
