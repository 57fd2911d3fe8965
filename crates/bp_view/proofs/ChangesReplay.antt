-- The changes of an attempt lead from the values before it to those after it.
use Rattle.bp_view.proofs.Common.{if◌then◌else◌, inl, inr, zero, ◌≡◌, ◌≢◌, is_some, ◌∙◌, ◌==◌, ◌||◌, nat_lt, ℕ, suc, Bool, true, false, List, [], ◌∷◌, ◌++◌, Option, None, Some, bytes_eq, length, map, take, ap, ap₂, sym, refl, subst, arith, slice_get, slice_index_or, slice_set, unwrap_or, rules, list_any, take-append_seam, nat_tests, get_or-set_other, get_or-set_same, length-map, Name, Block, Done, Statement, Skips, GoesTo, Returns, Assigns, Branches, Loops, Asserts, Assumes, Prints, Calls, Procedure, Program, AreDistinct, HasDistinctNames, has, Among, entry_frame, first_stack, procedure_named, Frame, Configuration, from_label, Store, after_effect, call_effect, effect, frame_store, jump_effect, statement_effect, with_left, StatementEffect, Leaves, Fails, Blocks, Misses, after_assignment, after_write, binding, decision_value, expression_values, lookup, same_bit, update, Valuation, Call, Reply, configuration_after_call, configuration_after_step, stack_of, configuration_after, configuration_after_calls, is_granted, start, SetupOf, changes_by, changes_between, owned, stack_entries, Entry, changed}
use Rattle.std.proofs.lemmas.Slice.Eq.{bytes_eq-Decides}
use Rattle.bp_syntax.specs.Ast.{variables}
use Rattle.bp_view.specs.Laws.{globals_with, locals_in, locals_with, variables_of, AreReplayed, AreVariablesWith}
use Rattle.bp_view.proofs.NextConfigurations.{entered, stayed, there}
use Rattle.bp_view.proofs.FailedConditions.{calls_append}

-- the same names in the same order
abbrev Alike : Valuation → Valuation → Type 0
Alike [] [] = Unit {0}
Alike (v ∷ vs) (w ∷ ws) = (v.0 ≡ w.0) × Alike vs ws
Alike vs ws = ⊥

-- each variable is there once
abbrev IsEachOnce : Valuation → Type 0
IsEachOnce [] = Unit {0}
IsEachOnce (v ∷ vs) = (list_any (λ w. bytes_eq v.0 w.0) vs ≡ false) × IsEachOnce vs

any_alike : (x y : List ℕ) → x ≡ y → (m n : Valuation) → Alike m n → list_any (λ w. bytes_eq x w.0) m ≡ list_any (λ w. bytes_eq y w.0) n
any_alike x y same [] [] alike = refl
any_alike x y same [] (w ∷ ws) alike = elim alike [ ]
any_alike x y same (v ∷ vs) [] alike = elim alike [ ]
any_alike x y same (v ∷ vs) (w ∷ ws) alike = ap₂ (λ a b. a || b) (ap₂ bytes_eq same alike.0) (any_alike x y same vs ws alike.1)

once_alike : (m n : Valuation) → Alike m n → IsEachOnce m → IsEachOnce n
once_alike [] [] alike once = tt
once_alike [] (w ∷ ws) alike once = elim alike [ ]
once_alike (v ∷ vs) [] alike once = elim alike [ ]
once_alike (v ∷ vs) (w ∷ ws) alike once = (sym (any_alike v.0 w.0 alike.0 vs ws alike.1) ∙ once.0, once_alike vs ws alike.1 once.1)

alike_self : (m : Valuation) → Alike m m
alike_self [] = tt
alike_self (v ∷ vs) = (refl, alike_self vs)

alike_then : (a b c : Valuation) → Alike a b → Alike b c → Alike a c
alike_then [] [] [] p q = tt
alike_then (x ∷ a) (y ∷ b) (z ∷ c) p q = (p.0 ∙ q.0, alike_then a b c p.1 q.1)
alike_then [] (y ∷ b) c p q = elim p [ ]
alike_then [] [] (z ∷ c) p q = elim q [ ]
alike_then (x ∷ a) [] c p q = elim p [ ]
alike_then (x ∷ a) (y ∷ b) [] p q = elim q [ ]

alike_update : (m : Valuation) (x : List ℕ) (b : Bool) → Alike m (update m x b)
alike_update [] x b = tt
alike_update (v ∷ vs) x b = by_name (bytes_eq v.0 x) (alike_update vs x b)
  where
    by_name : (same : Bool) → Alike vs (update vs x b) → Alike (v ∷ vs) (if same then (v.0, b) ∷ vs else v ∷ update vs x b)
    by_name true rest = (refl, alike_self vs)
    by_name false rest = (refl, rest)

-- the values with these new ones
abbrev with_values : Valuation → Valuation → Valuation
with_values m [] = m
with_values m (v ∷ vs) = with_values (update m v.0 v.1) vs

-- a first variable that is not among them stays
first_stays : (v : List ℕ × Bool) (m vs : Valuation) → list_any (λ w. bytes_eq v.0 w.0) vs ≡ false → with_values (v ∷ m) vs ≡ v ∷ with_values m vs
first_stays v m [] none = refl
first_stays v m (w ∷ vs) none = by_name (bytes_eq v.0 w.0) (list_any (λ u. bytes_eq v.0 u.0) vs) refl none (first_stays v (update m w.0 w.1) vs)
  where
    by_name : (same others : Bool) → list_any (λ u. bytes_eq v.0 u.0) vs ≡ others → (same || others) ≡ false
        → (list_any (λ u. bytes_eq v.0 u.0) vs ≡ false → with_values (v ∷ update m w.0 w.1) vs ≡ v ∷ with_values (update m w.0 w.1) vs)
        → with_values (if same then (v.0, w.1) ∷ m else v ∷ update m w.0 w.1) vs ≡ v ∷ with_values (update m w.0 w.1) vs
    by_name true others is e rest = absurd cc
    by_name false others is e rest = rest (is ∙ e)

-- a name that is not among the names is not among the changes
not_changed : (x : List ℕ) (m n : Valuation) → Alike m n → list_any (λ w. bytes_eq x w.0) m ≡ false → list_any (λ w. bytes_eq x w.0) (changed m n) ≡ false
not_changed x [] n alike none = refl
not_changed x (v ∷ vs) [] alike none = refl
not_changed x (v ∷ vs) (w ∷ ws) alike none = by_name (bytes_eq x v.0) refl none (not_changed x vs ws alike.1)
  where
    by_bit : (same : Bool) → bytes_eq x w.0 ≡ false → list_any (λ u. bytes_eq x u.0) (changed vs ws) ≡ false
        → list_any (λ u. bytes_eq x u.0) (if same then changed vs ws else w ∷ changed vs ws) ≡ false
    by_bit true here others = others
    by_bit false here others = ap₂ (λ a b. a || b) here others

    by_name : (here : Bool) → bytes_eq x v.0 ≡ here → (here || list_any (λ u. bytes_eq x u.0) vs) ≡ false
        → (list_any (λ u. bytes_eq x u.0) vs ≡ false → list_any (λ u. bytes_eq x u.0) (changed vs ws) ≡ false)
        → list_any (λ u. bytes_eq x u.0) (changed (v ∷ vs) (w ∷ ws)) ≡ false
    by_name here given1 given2 given3 = grind (arith)

same_true : (p q : Bool) → same_bit p q ≡ true → p ≡ q
same_true p q given1 = grind (arith)

-- the values with the changes are the new ones
all_changed : (m n : Valuation) → Alike m n → IsEachOnce m → with_values m (changed m n) ≡ n
all_changed [] [] alike once = refl
all_changed [] (w ∷ ws) alike once = elim alike [ ]
all_changed (v ∷ vs) [] alike once = elim alike [ ]
all_changed (v ∷ vs) (w ∷ ws) alike once = by_bit (same_bit v.1 w.1) refl (all_changed vs ws alike.1 once.1)
  where
    rest : (u : List ℕ × Bool) → u.0 ≡ v.0 → with_values vs (changed vs ws) ≡ ws → with_values (u ∷ vs) (changed vs ws) ≡ u ∷ ws
    rest u same others =
        let none = ap (λ x. list_any (λ y. bytes_eq x y.0) vs) same ∙ once.0 in
        first_stays u vs (changed vs ws) (not_changed u.0 vs ws alike.1 none) ∙ ap (λ xs. u ∷ xs) others

    by_bit : (b : Bool) → same_bit v.1 w.1 ≡ b → with_values vs (changed vs ws) ≡ ws
        → with_values (v ∷ vs) (if b then changed vs ws else w ∷ changed vs ws) ≡ w ∷ ws
    by_bit true is others = rest v refl others ∙ (λ j. (alike.0 j, same_true v.1 w.1 is j) ∷ ws)
    by_bit false is others =
        let here : bytes_eq v.0 w.0 ≡ true = (bytes_eq-Decides v.0 w.0).1 alike.0 in
        let changed_here = ap (λ b. with_values (if b then (v.0, w.1) ∷ vs else v ∷ update vs w.0 w.1) (changed vs ws)) here in
        changed_here ∙ rest (v.0, w.1) refl others ∙ (λ j. (alike.0 j, w.1) ∷ ws)

-- changes of one owner, and then others
globals_first : (g vs : Valuation) (es : List Entry) → globals_with g (owned None vs ++ es) ≡ globals_with (with_values g vs) es
globals_first g [] es = refl
globals_first g (v ∷ vs) es = globals_first (update g v.0 v.1) vs es

locals_after : (l vs : Valuation) (es : List Entry) → locals_with l (owned None vs ++ es) ≡ locals_with l es
locals_after l [] es = refl
locals_after l (v ∷ vs) es = locals_after l vs es

locals_in_after : (vs : Valuation) (es : List Entry) → locals_in (owned None vs ++ es) ≡ locals_in es
locals_in_after [] es = refl
locals_in_after (v ∷ vs) es = locals_in_after vs es

module _ (p : Procedure) where
  globals_stay : (g vs : Valuation) → globals_with g (owned (Some p) vs) ≡ g
  globals_stay g [] = refl
  globals_stay g (v ∷ vs) = globals_stay g vs

  locals_changed : (l vs : Valuation) → locals_with l (owned (Some p) vs) ≡ with_values l vs
  locals_changed l [] = refl
  locals_changed l (v ∷ vs) = locals_changed (update l v.0 v.1) vs

  locals_of_owner : (vs : Valuation) → locals_in (owned (Some p) vs) ≡ vs
  locals_of_owner [] = refl
  locals_of_owner (v ∷ vs) = ap (λ xs. v ∷ xs) (locals_of_owner vs)

globals_of_stack : (g : Valuation) (a b : List Frame) → globals_with g (stack_entries a b) ≡ g
globals_of_stack g a b = search (rules, globals_stay)

-- the stack after a step: the frame at its top stays, with the same variables, or one is entered
-- above it, or it is left
data Turn (ps : List Procedure) (f : Frame) (fs : List Frame) : List Frame → Type 0 where
  keeps : (l : Frame) → l.procedure ≡ f.procedure → Alike f.locals l.locals → Turn ps f fs (l ∷ fs)
  enters : (x : List ℕ) (p : Procedure) (arguments : List Bool) (r : Block) → procedure_named ps x ≡ Some p
      → Turn ps f fs (entry_frame p arguments ∷ with_left f r ∷ fs)
  leaves : Turn ps f fs fs

length_binding : (xs : List Name) (bits : List Bool) → length (binding xs bits) ≡ length xs
length_binding [] bits = refl
length_binding (x ∷ xs) [] = ap suc (length_binding xs [])
length_binding (x ∷ xs) (b ∷ bits) = ap suc (length_binding xs bits)

module _ (ps : List Procedure) (f : Frame) (fs : List Frame) (vs : Valuation) (once : IsEachOnce f.locals) where
  abbrev deep : ℕ
  deep = length (variables_of (f ∷ fs))

  deep_is : deep ≡ suc (length fs)
  deep_is = ap suc (length-map fs (λ k. (k.procedure, k.locals)))

  own_variables : (after : List Frame) → Turn ps f fs after → AreVariablesWith (f ∷ fs) after (owned None vs ++ stack_entries (f ∷ fs) after)
  own_variables _ (keeps l procedure alike) = search (rules, nat_tests, deep_is, locals_after, stayed, locals_changed, all_changed)
  own_variables _ (enters x p arguments r named) = search (rules, nat_tests, deep_is, length_binding, take-append_seam, locals_in_after, entered, locals_of_owner)
  own_variables _ leaves = left fs refl
    where
      left : (ks : List Frame) → ks ≡ fs → AreVariablesWith (f ∷ fs) ks (owned None vs ++ stack_entries (f ∷ fs) ks)
      left [] same = sym same
      left (k ∷ ks) same =
          let deeper : nat_lt deep (suc (length ks)) ≡ false = grind (arith, nat_tests, deep_is, ap length same) in
          let level : (deep == suc (length ks)) ≡ false = grind (arith, nat_tests, deep_is, ap length same) in
          rw (deeper, level) (ap variables_of same)

-- an effect that leaves a stack keeps the names of the globals, and turns the stack so
abbrev Turns : List Procedure → Valuation → Frame → List Frame → StatementEffect → Type 0
Turns ps g f fs (Leaves h after) = Alike g h × Turn ps f fs after
Turns ps g f fs e = Unit {0}

module _ (ps : List Procedure) (g : Valuation) (f : Frame) (fs : List Frame) (bit : Bool) where
  goes_on : (r : Block) → Turns ps g f fs (Leaves g (with_left f r ∷ fs))
  goes_on r = (alike_self g, keeps (with_left f r) refl (alike_self f.locals))

  jumps : (r : Option Block) → Turns ps g f fs (jump_effect g f fs r)
  jumps r = search (rules, goes_on)

  calls : (r : Block) (arguments : List Bool) (x : List ℕ) (p : Option Procedure) → procedure_named ps x ≡ p
      → Turns ps g f fs (call_effect g f fs r arguments p)
  calls r arguments x p given1 = search (rules, alike_self, enters)

  tests : (r : Block) (other : StatementEffect) (b : Bool) → Turns ps g f fs other → Turns ps g f fs (if b then Leaves g (with_left f r ∷ fs) else other)
  tests r other b given1 = search (rules, goes_on)

  written : (s : Store Valuation) (x : List ℕ) (b : Bool) → Alike s.globals (after_write s x b).globals × Alike s.locals (after_write s x b).locals
  written s x b = by_local (is_some (lookup s.locals x))
    where
      by_local : (local : Bool)
          → Alike s.globals (if local then record s { locals = update s.locals x b } else record s { globals = update s.globals x b }).globals
          × Alike s.locals (if local then record s { locals = update s.locals x b } else record s { globals = update s.globals x b }).locals
      by_local true = (alike_self s.globals, alike_update s.locals x b)
      by_local false = (alike_update s.globals x b, alike_self s.locals)

  assigned : (s : Store Valuation) (xs : List Name) (bits : List Bool)
      → Alike s.globals (after_assignment s xs bits).globals × Alike s.locals (after_assignment s xs bits).locals
  assigned s [] bits = (alike_self s.globals, alike_self s.locals)
  assigned s (x ∷ xs) [] = (alike_self s.globals, alike_self s.locals)
  assigned s (x ∷ xs) (b ∷ bits) =
      let first = written s x.text b in
      let now = after_write s x.text b in
      let rest = assigned now xs bits in
      let last = after_assignment now xs bits in
      (alike_then s.globals now.globals last.globals first.0 rest.0, alike_then s.locals now.locals last.locals first.1 rest.1)

  statement_turns : (s : Statement) (label : Option Name) (at : ℕ) (r : Block) → Turns ps g f fs (statement_effect ps g f fs bit s label at r)
  statement_turns Skips label at r = goes_on r
  statement_turns (GoesTo x) label at r = jumps (from_label f.procedure.body Done x.text)
  statement_turns Returns label at r = (alike_self g, leaves)
  statement_turns (Assigns xs es) label at r =
      let done = assigned (frame_store g f) xs (expression_values (frame_store g f) es) in
      (done.0, keeps _ refl done.1)
  statement_turns (Branches d a b) label at r = goes_on _
  statement_turns (Loops d a) label at r = goes_on _
  statement_turns (Asserts d) label at r = tests r Fails (decision_value (frame_store g f) bit d) tt
  statement_turns (Assumes d) label at r = tests r Blocks (decision_value (frame_store g f) bit d) tt
  statement_turns (Prints es) label at r = goes_on r
  statement_turns (Calls x es) label at r = calls r (expression_values (frame_store g f) es) x.text (procedure_named ps x.text) refl

  effect_turns : (left : Block) → Turns ps g f fs (effect ps left g f fs bit)
  effect_turns left = search (rules, alike_self, leaves, statement_turns)

-- names that are distinct are each once, whatever their bits
none_later : (x : List ℕ) (xs : List Name) (bits : List Bool) → ((k : ℕ) (n : Name) → slice_get xs k ≡ Some n → bytes_eq x n.text ≡ false)
    → list_any (λ w. bytes_eq x w.0) (binding xs bits) ≡ false
none_later x [] bits none = refl
none_later x (y ∷ ys) [] none = ap₂ (λ a b. a || b) (none 0 y refl) (none_later x ys [] (λ k n at. none (suc k) n at))
none_later x (y ∷ ys) (b ∷ bits) none = ap₂ (λ a b. a || b) (none 0 y refl) (none_later x ys bits (λ k n at. none (suc k) n at))

both_false : (a b : Bool) → (a || b) ≡ false → (a ≡ false) × (b ≡ false)
both_false a b given1 = grind (arith)

first_differs : (x : Name) (xs : List Name) → AreDistinct (x ∷ xs) → (k : ℕ) (n : Name) → slice_get xs k ≡ Some n → bytes_eq x.text n.text ≡ false
first_differs x xs distinct k n at = (both_false (bytes_eq x.text n.text) (has (take k xs) n.text) (distinct (suc k) n at)).0

others_differ : (x : Name) (xs : List Name) → AreDistinct (x ∷ xs) → AreDistinct xs
others_differ x xs distinct k n at = (both_false (bytes_eq x.text n.text) (has (take k xs) n.text) (distinct (suc k) n at)).1

names_once : (xs : List Name) (bits : List Bool) → AreDistinct xs → IsEachOnce (binding xs bits)
names_once [] bits distinct = tt
names_once (x ∷ xs) [] distinct = (none_later x.text xs [] (first_differs x xs distinct), names_once xs [] (others_differ x xs distinct))
names_once (x ∷ xs) (b ∷ bits) distinct = (none_later x.text xs bits (first_differs x xs distinct), names_once xs bits (others_differ x xs distinct))

alike_entry : (xs ys : List Name) (bits : List Bool) → Alike (binding (xs ++ ys) []) (binding xs bits ++ binding ys [])
alike_entry [] ys bits = alike_self (binding ys [])
alike_entry (x ∷ xs) ys [] = (refl, alike_entry xs ys [])
alike_entry (x ∷ xs) ys (b ∷ bits) = (refl, alike_entry xs ys bits)

named_among : (ps : List Procedure) (x : List ℕ) (p : Procedure) → procedure_named ps x ≡ Some p → Among ps p
named_among [] x p named = absurd cc
named_among (q ∷ qs) x p named = by_name (bytes_eq q.name.text x) named (named_among qs x p)
  where
    by_name : (b : Bool) → (if b then Some q else procedure_named qs x) ≡ Some p → (procedure_named qs x ≡ Some p → Among qs p) → Among (q ∷ qs) p
    by_name true e rest = inl cc
    by_name false e rest = inr (rest e)

entry_once : (t : Program) → HasDistinctNames t → (x : List ℕ) (p : Procedure) → procedure_named t.procedures x ≡ Some p → (arguments : List Bool)
    → IsEachOnce (entry_frame p arguments).locals
entry_once t names x p named arguments =
    let own = names.own p (named_among t.procedures x p named) in
    once_alike _ _ (alike_entry p.formals p.locals arguments) (names_once (variables p) [] own)

abbrev AreOnce : List Frame → Type 0
AreOnce [] = Unit {0}
AreOnce (f ∷ fs) = IsEachOnce f.locals × AreOnce fs

-- each global is once in a configuration, and each local of a frame
record IsOnce (c : Configuration) : Type 0 where
  globals : IsEachOnce c.globals
  stacks : (i : ℕ) → AreOnce (stack_of c i)

turn_once : (t : Program) → HasDistinctNames t → (f : Frame) (fs : List Frame) → AreOnce (f ∷ fs) → (after : List Frame) → Turn t.procedures f fs after
    → AreOnce after
turn_once t given1 f fs given2 after given3 = search (rules, keeps, once_alike, enters, entry_once, leaves)

set_once : (stacks : List (List Frame)) (i j : ℕ) (stack : List Frame) → AreOnce stack → ((k : ℕ) → AreOnce (slice_index_or stacks k []))
    → AreOnce (slice_index_or (slice_set stacks i stack) j [])
set_once [] i j stack once all = all j
set_once (s ∷ stacks) zero zero stack once all = once
set_once (s ∷ stacks) zero (suc j) stack once all = all (suc j)
set_once (s ∷ stacks) (suc i) zero stack once all = all zero
set_once (s ∷ stacks) (suc i) (suc j) stack once all = set_once stacks i j stack once (λ k. all (suc k))

module _ (t : Program) (c : Configuration) (i : ℕ) (bit : Bool) (once : IsOnce c) where
  all_globals : (d : Configuration) → Alike c.globals d.globals → d.globals ≡ globals_with c.globals (changes_between c d i)
  all_globals d alike =
      let vs = changed c.globals d.globals in
      let es = stack_entries (stack_of c i) (stack_of d i) in
      let of_stack = globals_of_stack (with_values c.globals vs) (stack_of c i) (stack_of d i) in
      sym (globals_first c.globals vs es ∙ of_stack ∙ all_changed c.globals d.globals alike once.globals)

  of_turn : (d : Configuration) (f : Frame) (fs : List Frame) → stack_of c i ≡ f ∷ fs → Alike c.globals d.globals → Turn t.procedures f fs (stack_of d i)
      → ((j : ℕ) → j ≢ i → stack_of d j ≡ stack_of c j) → AreReplayed c d i (changes_between c d i)
  of_turn d f fs is alike turn others =
      let vs = changed c.globals d.globals in
      let own = own_variables t.procedures f fs vs (subst AreOnce is (once.stacks i)).0 (stack_of d i) turn in
      record {
        globals = all_globals d alike;
        own = subst (λ stack. AreVariablesWith stack (stack_of d i) (owned None vs ++ stack_entries stack (stack_of d i))) (sym is) own;
        others = others;
      }

  -- nothing moved, but that an assertion may have failed
  unmoved : (failed : Bool) → AreReplayed c (record c { failed = failed }) i (changes_between c (record c { failed = failed }) i)
  unmoved failed = by_stack (stack_of c i) refl
    where
      by_stack : (stack : List Frame) → stack_of c i ≡ stack
          → AreReplayed c (record c { failed = failed }) i (changes_between c (record c { failed = failed }) i)
      by_stack [] is = record {
        globals = all_globals (record c { failed = failed }) (alike_self c.globals);
        own = subst (λ stack. AreVariablesWith stack (stack_of c i) (changes_between c (record c { failed = failed }) i)) (sym is) is;
        others = λ j other. refl;
      }
      by_stack (f ∷ fs) is =
          let turn = subst (Turn t.procedures f fs) (sym is) (keeps f refl (alike_self f.locals)) in
          of_turn (record c { failed = failed }) f fs is (alike_self c.globals) turn (λ j other. refl)

  of_effect : (f : Frame) (fs : List Frame) → stack_of c i ≡ f ∷ fs → (e : StatementEffect) → Turns t.procedures c.globals f fs e
      → AreReplayed c (unwrap_or (after_effect c i e) c) i (changes_between c (unwrap_or (after_effect c i e) c) i)
  of_effect f fs is (Leaves h after) turns =
      let d : Configuration = record { globals = h; stacks = slice_set c.stacks i after; failed = false } in
      let set : stack_of d i ≡ after = get_or-set_same c.stacks i after [] (there t c i bit f fs is) in
      of_turn d f fs is turns.0 (subst (Turn t.procedures f fs) (sym set) turns.1) (λ j other. get_or-set_other c.stacks i j after [] other)
  of_effect f fs is Fails turns = unmoved true
  of_effect f fs is Blocks turns = unmoved c.failed
  of_effect f fs is Misses turns = unmoved c.failed

  of_step : (stack : List Frame) → stack_of c i ≡ stack
      → AreReplayed c (unwrap_or (configuration_after_step t c i bit stack) c) i (changes_between c (unwrap_or (configuration_after_step t c i bit stack) c) i)
  of_step [] is = unmoved c.failed
  of_step (f ∷ fs) is = of_effect f fs is (effect t.procedures f.left c.globals f fs bit) (effect_turns t.procedures c.globals f fs bit f.left)

  of_call : (r : Reply) → AreReplayed c (configuration_after_call t c i bit r) i (changes_between c (configuration_after_call t c i bit r) i)
  of_call r = by_reply (is_granted r)
    where
      next : Configuration
      next = unwrap_or (configuration_after_step t c i bit (stack_of c i)) c

      by_reply : (b : Bool) → AreReplayed c (if b then next else c) i (changes_between c (if b then next else c) i)
      by_reply true = of_step (stack_of c i) refl
      by_reply false = unmoved c.failed

-- the values of a history's configurations occur once, if the names do
module _ (t : Program) (names : HasDistinctNames t) where
  effect_once : (c : Configuration) (i : ℕ) → IsOnce c → (f : Frame) (fs : List Frame) → AreOnce (f ∷ fs) → (e : StatementEffect)
      → Turns t.procedures c.globals f fs e
      → IsOnce (unwrap_or (after_effect c i e) c)
  effect_once c i once f fs stack (Leaves h after) turns = record {
    globals = once_alike c.globals h turns.0 once.globals;
    stacks = λ j. set_once c.stacks i j after (turn_once t names f fs stack after turns.1) once.stacks;
  }
  effect_once c i once f fs stack Fails turns = record { globals = once.globals; stacks = once.stacks }
  effect_once c i once f fs stack Blocks turns = once
  effect_once c i once f fs stack Misses turns = once

  step_once : (c : Configuration) (i : ℕ) (bit : Bool) → IsOnce c → (stack : List Frame) → AreOnce stack
      → IsOnce (unwrap_or (configuration_after_step t c i bit stack) c)
  step_once c i bit once [] own = once
  step_once c i bit once (f ∷ fs) own =
      effect_once c i once f fs own (effect t.procedures f.left c.globals f fs bit) (effect_turns t.procedures c.globals f fs bit f.left)

  call_once : (c : Configuration) (i : ℕ) (bit : Bool) (r : Reply) → IsOnce c → IsOnce (configuration_after_call t c i bit r)
  call_once c i bit r once = by_reply (is_granted r)
    where
      by_reply : (b : Bool) → IsOnce (if b then unwrap_or (configuration_after_step t c i bit (stack_of c i)) c else c)
      by_reply true = step_once c i bit once (stack_of c i) (once.stacks i)
      by_reply false = once

  calls_once : (c : Configuration) → IsOnce c → (h : List Call) → IsOnce (configuration_after_calls t c h)
  calls_once c once [] = once
  calls_once c once (x ∷ xs) = calls_once (configuration_after_call t c x.thread x.bit x.reply) (call_once c x.thread x.bit x.reply once) xs

  first_once : (x : List ℕ) (o : Option Procedure) → procedure_named t.procedures x ≡ o → AreOnce (first_stack o)
  first_once x o given1 = search (rules, entry_once)

  start_once : (xs : List (List ℕ)) (i : ℕ) → AreOnce (slice_index_or (map (λ x. first_stack (procedure_named t.procedures x)) xs) i [])
  start_once [] i = tt
  start_once (x ∷ xs) zero = first_once x (procedure_named t.procedures x) refl
  start_once (x ∷ xs) (suc i) = start_once xs i

  once_after : (s : SetupOf) (h : List Call) → IsOnce (configuration_after t s h)
  once_after s h = calls_once (start t s) (record { globals = names_once t.globals s.init names.globals; stacks = start_once s.entries }) h

pub changes_replay : (t : Program) (s : SetupOf) (h : List Call) (x : Call) → HasDistinctNames t
    → AreReplayed (configuration_after t s h) (configuration_after t s (h ++ x ∷ [])) x.thread (changes_by t s h x)
changes_replay t s h x given1 = search (rules, calls_append, of_call, once_after)
