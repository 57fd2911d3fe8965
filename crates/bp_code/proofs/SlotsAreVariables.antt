-- Slots are read and written like the variables for which they stand.
use Rattle.bp_code.proofs.Common.{◌≡◌, refl, sym, ap, ◌∙◌, ℕ, suc, ◌+◌, ◌<◌, true, false, cond, List, [], ◌∷◌, length, map, get_or, Option, None, Some, IsSome, option_map, unwrap_or, bytes_eq, arith, add-one, subst, Bool, not, slice_get, rules, option_and_then, option_or, length-map, slice_get-get_or, Name, Expression, Constant, Variable, Negation, Operation, Decision, Procedure, Program, first_index_from, first_index, EachName, NamesInExpression, NamesInExpressions, NamesInDecision, Heading, heading_named, lookup, update, variable_value, after_write, after_assignment, operation_value, expression_value, expression_values, Store, valuation_of, named_store, AreValues, IsTestOf, AreTargets, slot_of, Environment, slot_in, slots_in, formula_in, formulas_in, test_in}
use Rattle.bp_flat.specs.declared.slots.Slot.{Slot}
use Rattle.bp_flat.specs.declared.slots.Slot.TheVariants.{Global, Local}
use Rattle.bp_flat.specs.Steps.{Bits, with_bit, slot_bit, with_slot, with_slots, formula_value, formula_values}
use Rattle.bp_flat.specs.StandsFor.{variables}
use Rattle.bp_code.specs.CompiledCode.{HasSlot}

-- The first index of a name in a table is within the table, and finds the heading of that name.

-- an index that is counted from one place later
pub index_later : (n : ℕ) (ys : List Name) (x : List ℕ) → first_index_from (n + 1) ys x ≡ option_map suc (first_index_from n ys x)
index_later n [] x = refl
index_later n (y ∷ ys) x =
    elim (bytes_eq y.text x) as (λ b. cond b (Some (n + 1)) (first_index_from (n + 1 + 1) ys x)
    ≡ option_map suc (cond b (Some n) (first_index_from (n + 1) ys x))) [
      | true ↦ ap Some (add-one n)
      | false ↦ index_later (n + 1) ys x
    ]

module _ (x : List ℕ) where
  within_from : (i k : ℕ) (ns : List Name) → first_index_from i ns x ≡ Some k → k < i + length ns
  within_from i k [] e = cc
  within_from i k (n ∷ ns) e =
      (elim (bytes_eq n.text x) as (λ b. cond b (Some i) (first_index_from (i + 1) ns x) ≡ Some k → k < i + length (n ∷ ns)) [
        | true ↦ λ e. let is : i ≡ k = cc in omega arith
        | false ↦ λ e. let later = within_from (i + 1) k ns e in omega (arith, later)
      ]) e

  pub first_within : (k : ℕ) (ns : List Name) → first_index ns x ≡ Some k → k < length ns
  first_within k ns e = let found = within_from 0 k ns e in omega (arith, found)

  one_later : (h : Heading) (hs : List Heading) (o : Option ℕ) → option_and_then (slice_get hs) o ≡ option_and_then (slice_get (h ∷ hs)) (option_map suc o)
  one_later h hs o = grind (arith)

  -- headings of names in order: the first heading of a name is at the name's first index
  heading_first : (ns : List Name) (hs : List Heading) → map (λ (h : Heading). h.name) hs ≡ map (λ (n : Name). n.text) ns
      → heading_named hs x ≡ option_and_then (slice_get hs) (first_index ns x)
  heading_first [] [] same = refl
  heading_first [] (h ∷ hs) same = cc
  heading_first (n ∷ ns) [] same = cc
  heading_first (n ∷ ns) (h ∷ hs) same =
      let first : h.name ≡ n.text = cc in
      let others : map (λ (h : Heading). h.name) hs ≡ map (λ (n : Name). n.text) ns = cc in
      ap (λ (t : List ℕ). cond (bytes_eq t x) (Some h) (heading_named hs x)) first
      ∙ elim (bytes_eq n.text x) as (λ b. cond b (Some h) (heading_named hs x)
      ≡ option_and_then (slice_get (h ∷ hs)) (cond b (Some 0) (first_index_from 1 ns x))) [
        | true ↦ refl
        | false ↦ heading_first ns hs others ∙ one_later h hs (first_index ns x) ∙ ap (option_and_then (slice_get (h ∷ hs))) (sym (index_later 0 ns x))
      ]

  some_of_then : {X Y : Type 0} (f : X → Option Y) (o : Option X) → IsSome (option_and_then f o) → IsSome o
  some_of_then given1 = grind (arith)

  pub name_found : (ns : List Name) (hs : List Heading) → map (λ (h : Heading). h.name) hs ≡ map (λ (n : Name). n.text) ns
      → IsSome (heading_named hs x) → IsSome (first_index ns x)
  name_found ns hs same h = let there = rw (heading_first ns hs same) at h in some_of_then (slice_get hs) (first_index ns x) there

  pub heading_within : (k : ℕ) (ns : List Name) (hs : List Heading) → map (λ (h : Heading). h.name) hs ≡ map (λ (n : Name). n.text) ns
      → first_index ns x ≡ Some k → k < length hs
  heading_within k ns hs given1 given2 = search (rules, first_within, length-map)

  pub entry_of_first : (k : ℕ) (h : Heading) (ns : List Name) (hs : List Heading) → map (λ (h : Heading). h.name) hs ≡ map (λ (n : Name). n.text) ns
      → first_index ns x ≡ Some k → h ≡ get_or hs k h → h.entry ≡ unwrap_or (option_map (λ (h : Heading). h.entry) (heading_named hs x)) 0
  entry_of_first k h ns hs given1 given2 given3 = search (rules, heading_first, slice_get-get_or, heading_within)

pub some_is : {A : Type 0} (o : Option A) (d : A) → IsSome o → o ≡ Some (unwrap_or o d)
some_is given1 = grind (arith)

shifted : (bits : Bits) (o : Option ℕ) → option_map bits (option_map suc o) ≡ option_map (λ k. bits (suc k)) o
shifted bits o = grind (arith)

lookup_in_valuation : (ns : List Name) (bits : Bits) (x : List ℕ) → lookup (valuation_of ns bits) x ≡ option_map bits (first_index_from 0 ns x)
lookup_in_valuation [] bits x = refl
lookup_in_valuation (y ∷ ys) bits x =
    elim (bytes_eq y.text x) as (λ b. cond b (Some (bits 0)) (lookup (valuation_of ys (λ k. bits (suc k))) x)
    ≡ option_map bits (cond b (Some 0) (first_index_from 1 ys x))) [
      | true ↦ refl
      | false ↦ lookup_in_valuation ys (λ k. bits (suc k)) x ∙ sym (ap (option_map bits) (index_later 0 ys x) ∙ shifted bits (first_index_from 0 ys x))
    ]

-- a place after the first is one after another
before : (o : Option ℕ) (k : ℕ) → option_map suc o ≡ Some k → (j : ℕ) × (o ≡ Some j) × (k ≡ suc j)
before o k given1 = grind (arith)

-- one name, if the law holds of the names after it
update_first : (y : Name) (ys : List Name) (bits : Bits) (x : List ℕ) (c : Bool) (k : ℕ) (b : Bool)
    → ((j : ℕ) → first_index_from 0 ys x ≡ Some j → update (valuation_of ys (λ i. bits (suc i))) x b ≡ valuation_of ys (with_bit (λ i. bits (suc i)) j b))
    → cond c (Some 0) (first_index_from 1 ys x) ≡ Some k
    → cond c ((y.text, b) ∷ valuation_of ys (λ i. bits (suc i)))
    ((y.text, bits 0) ∷ update (valuation_of ys (λ i. bits (suc i))) x b) ≡ valuation_of (y ∷ ys) (with_bit bits k b)
update_first y ys bits x true k b rest e = grind (arith)
update_first y ys bits x false k b rest e =
    let at = before (first_index_from 0 ys x) k (sym (index_later 0 ys x) ∙ e) in
    rw at.2 (ap (λ m. (y.text, bits 0) ∷ m) (rest at.0 at.1))

update_in_valuation : (ns : List Name) (bits : Bits) (x : List ℕ) (k : ℕ) (b : Bool) → first_index_from 0 ns x ≡ Some k
    → update (valuation_of ns bits) x b ≡ valuation_of ns (with_bit bits k b)
update_in_valuation [] bits x k b e = cc
update_in_valuation (y ∷ ys) bits x k b e = update_first y ys bits x (bytes_eq y.text x) k b (λ j d. update_in_valuation ys (λ i. bits (suc i)) x j b d) e

read_at : (l g : Option ℕ) (w : Store Bits) (s : Slot) → option_or (option_map Local l) (option_map Global g) ≡ Some s
    → unwrap_or (option_or (option_map w.locals l) (option_map w.globals g)) false ≡ slot_bit w s
read_at l g w s given1 = grind (arith)

module _ (globals : List Name) (p : Procedure) (w : Store Bits) where
  pub slot_read : (x : List ℕ) (s : Slot) → slot_of globals p x ≡ Some s → slot_bit w s ≡ variable_value (named_store globals p w) x
  slot_read x s given1 = search (rules, lookup_in_valuation, read_at)

  after_write_at : (x : List ℕ) (b : Bool) (s : Slot) (l g : Option ℕ) → first_index_from 0 (variables p) x ≡ l → first_index_from 0 globals x ≡ g
      → option_or (option_map Local l) (option_map Global g) ≡ Some s
      → named_store globals p (with_slot w s b) ≡ after_write (named_store globals p w) x b
  after_write_at x b s (Some k) g el eg e =
      let is : Local k ≡ s = cc in
      subst (λ s. named_store globals p (with_slot w s b) ≡ after_write (named_store globals p w) x b) is
      (rw (lookup_in_valuation (variables p) w.locals x, el)
      (ap (λ m. record { globals = valuation_of globals w.globals; locals = m })
      (sym (update_in_valuation (variables p) w.locals x k b el))))
  after_write_at x b s None (Some k) el eg e =
      let is : Global k ≡ s = cc in
      subst (λ s. named_store globals p (with_slot w s b) ≡ after_write (named_store globals p w) x b) is
      (rw (lookup_in_valuation (variables p) w.locals x, el)
      (ap (λ m. record { globals = m; locals = valuation_of (variables p) w.locals })
      (sym (update_in_valuation globals w.globals x k b eg))))
  after_write_at x b s None None el eg e = cc

  pub slot_after_write : (x : List ℕ) (b : Bool) (s : Slot) → slot_of globals p x ≡ Some s
      → named_store globals p (with_slot w s b) ≡ after_write (named_store globals p w) x b
  slot_after_write x b s e = after_write_at x b s (first_index_from 0 (variables p) x) (first_index_from 0 globals x) refl refl e

module _ (t : Program) (p : Procedure) (environment : Environment) (same : environment.globals ≡ t.globals) (own : environment.procedure ≡ p) where
  slot_is : (x : List ℕ) → IsSome (slot_of t.globals p x) → slot_of t.globals p x ≡ Some (slot_in environment x)
  slot_is x h = rw (same, own) (some_is (slot_of t.globals p x) (Global 0) h)

  formula_has_value : (e : Expression) → NamesInExpression (HasSlot t.globals p) e → (w : Store Bits)
      → formula_value w (formula_in environment e) ≡ expression_value (named_store t.globals p w) e
  formula_has_value (Constant b) h w = refl
  formula_has_value (Variable x) h w = slot_read t.globals p w x.text (slot_in environment x.text) (slot_is x.text h)
  formula_has_value (Negation e) h w = ap not (formula_has_value e h w)
  formula_has_value (Operation op a b) h w = λ i. operation_value op (formula_has_value a h.0 w i) (formula_has_value b h.1 w i)

  formulas_have_values : (es : List Expression) → NamesInExpressions (HasSlot t.globals p) es → (w : Store Bits)
      → formula_values w (formulas_in environment es) ≡ expression_values (named_store t.globals p w) es
  formulas_have_values [] h w = refl
  formulas_have_values (e ∷ es) h w = λ i. formula_has_value e h.0 w i ∷ formulas_have_values es h.1 w i

  pub are_values : (es : List Expression) → NamesInExpressions (HasSlot t.globals p) es → AreValues t p (formulas_in environment es) es
  are_values es h = record { equal = formulas_have_values es h }

  pub tests : (d : Decision) → NamesInDecision (HasSlot t.globals p) d → IsTestOf t p (test_in environment d) d
  tests d given1 = search (rules, formula_has_value)

  targets_equal : (xs : List Name) → EachName (HasSlot t.globals p) xs → (w : Store Bits) (bits : List Bool)
      → named_store t.globals p (with_slots w (slots_in environment xs) bits) ≡ after_assignment (named_store t.globals p w) xs bits
  targets_equal [] h w bits = refl
  targets_equal (x ∷ xs) h w [] = refl
  targets_equal (x ∷ xs) h w (b ∷ bits) =
      targets_equal xs h.1 (with_slot w (slot_in environment x.text) b) bits
      ∙ ap (λ s. after_assignment s xs bits) (slot_after_write t.globals p w x.text b (slot_in environment x.text) (slot_is x.text h.0))

  pub targets : (xs : List Name) → EachName (HasSlot t.globals p) xs → AreTargets t p (slots_in environment xs) xs
  targets xs h = record { equal = targets_equal xs h }
