-- The slot of a name has the value of its variable.
use Rattle.bp_flat.proofs.Common.{◌≡◌, ◌∙◌, ◌+◌, ℕ, suc, true, false, cond, List, [], ◌∷◌, ◌++◌, Option, None, Some, bytes_eq, length, ap, sym, refl, add-one, arith, zero, Bool, drop, slice_get, map, subst, if◌then◌else◌, option_map, MatchOption, option_or, slice_get-map, Name, Procedure, Program, valuation_of, StandsFor, Place, Heads, IsEntryOf, places_of, Bits, with_slot, with_slots, formula_value, formula_values, lookup, Store, procedure_named, formula_of, Flat, heading_named}
use Rattle.bp_syntax.specs.Errors.{first_index, first_index_from}
use Rattle.bp_flat.specs.declared.slots.Slot.{Slot}
use Rattle.bp_flat.specs.declared.exprs.SlotExpr.{SlotExpr}
use Rattle.bp_flat.specs.Flat.{Heading}

-- an index that is counted from one place later
index_later : (n : ℕ) (ys : List Name) (x : List ℕ) → first_index_from (n + 1) ys x ≡ option_map suc (first_index_from n ys x)
index_later n [] x = refl
index_later n (y ∷ ys) x =
    elim (bytes_eq y.text x) as (λ b. cond b (Some (n + 1)) (first_index_from (n + 1 + 1) ys x)
    ≡ option_map suc (cond b (Some n) (first_index_from (n + 1) ys x))) [
      | true ↦ ap Some (add-one n)
      | false ↦ index_later (n + 1) ys x
    ]

shifted : (bits : Bits) (o : Option ℕ) → option_map bits (option_map suc o) ≡ option_map (λ k. bits (suc k)) o
shifted bits o = grind (arith)

pub value_of_slot : (ns : List Name) (bits : Bits) (x : List ℕ) → option_map bits (first_index ns x) ≡ lookup (valuation_of ns bits) x
value_of_slot [] bits x = refl
value_of_slot (y ∷ ys) bits x =
    elim (bytes_eq y.text x) as (λ b. option_map bits (cond b (Some 0) (first_index_from 1 ys x))
    ≡ cond b (Some (bits 0)) (lookup (valuation_of ys (λ k. bits (suc k))) x)) [
      | true ↦ refl
      | false ↦ ap (option_map bits) (index_later 0 ys x) ∙ shifted bits (first_index ys x) ∙ value_of_slot ys (λ k. bits (suc k)) x
    ]

-- among the names of two lists: in the first, else in the second
abbrev pub index_after : ℕ → Option ℕ → Option ℕ
index_after n None = None
index_after n (Some k) = Some (n + k)

later_index : (n : ℕ) (o : Option ℕ) (l : Option ℕ) → option_map suc (option_or o (index_after n l)) ≡ option_or (option_map suc o) (index_after (suc n) l)
later_index n o l = grind (arith)

pub index_append : (xs ys : List Name) (x : List ℕ) → first_index (xs ++ ys) x ≡ option_or (first_index xs x) (index_after (length xs) (first_index ys x))
index_append [] ys x = of_none (first_index ys x)
  where
    of_none : (o : Option ℕ) → o ≡ index_after 0 o
    of_none None = refl
    of_none (Some k) = ap Some (omega arith)
index_append (z ∷ zs) ys x =
    elim (bytes_eq z.text x) as (λ b. cond b (Some 0) (first_index_from 1 (zs ++ ys) x)
    ≡ option_or (cond b (Some 0) (first_index_from 1 zs x)) (index_after (length (z ∷ zs)) (first_index ys x))) [
      | true ↦ refl
      | false ↦
          index_later 0 (zs ++ ys) x
          ∙ ap (option_map suc) (index_append zs ys x)
          ∙ later_index (length zs) (first_index zs x) (first_index ys x)
          ∙ ap (λ o. option_or o (index_after (length (z ∷ zs)) (first_index ys x))) (sym (index_later 0 zs x))
    ]

-- Slots are written one after the other, and each gets the value of its expression.

-- the i-th slot gets the i-th bit
pub with_slots_at : (w : Store Bits) (ss : List Slot) (bs : List Bool) (i : ℕ) (s : Slot) (b : Bool) → slice_get ss i ≡ Some s → slice_get bs i ≡ Some b
    → with_slots (with_slot w s b) (drop (i + 1) ss) (drop (i + 1) bs) ≡ with_slots w (drop i ss) (drop i bs)
with_slots_at w ss bs i s b e d = rw add-one (at ss bs i e d)
  where
    at : (ss : List Slot) (bs : List Bool) (i : ℕ) → slice_get ss i ≡ Some s → slice_get bs i ≡ Some b
        → with_slots (with_slot w s b) (drop (suc i) ss) (drop (suc i) bs) ≡ with_slots w (drop i ss) (drop i bs)
    at [] bs i e d = cc
    at (x ∷ ss) [] i e d = cc
    at (x ∷ ss) (y ∷ bs) zero e d = let p : x ≡ s = cc in let q : y ≡ b = cc in rw (p, q) refl
    at (x ∷ ss) (y ∷ bs) (suc i) e d = at ss bs i e d

-- the i-th expression's value is the i-th of the values
pub value_at : (w : Store Bits) (items : List SlotExpr) (i : ℕ) (x : SlotExpr) (b : Bool) → slice_get items i ≡ Some x → b ≡ formula_value w (formula_of x)
    → slice_get (formula_values w (map formula_of items)) i ≡ Some b
value_at w items i x b given1 given2 = grind (arith, slice_get-map)

-- The headings of a code that stands for a program are those of its procedures, in order; so a name
-- finds the heading of the procedure that it finds in the program.

-- no heading and no procedure, or the heading of the procedure
abbrev pub SameHeading : List Place → Option Heading → Option Procedure → Type 0
SameHeading table None o = o ≡ None
SameHeading table (Some h) o = (p : Procedure) × (o ≡ Some p) × Heads table p h

module _ (table : List Place) (x : List ℕ) where
  choice : (b : Bool) (h : Heading) (p : Procedure) (rest : Option Heading) (others : Option Procedure) → Heads table p h
      → SameHeading table rest others → SameHeading table (if b then Some h else rest) (if b then Some p else others)
  choice b h p rest others given1 given2 = grind (arith)

  named : (hs : List Heading) (ps : List Procedure) → length hs ≡ length ps
      → ((k : ℕ) (p : Procedure) → slice_get ps k ≡ Some p → (h : Heading) × (slice_get hs k ≡ Some h) × Heads table p h)
      → SameHeading table (heading_named hs x) (procedure_named ps x)
  named [] [] size each = refl
  named [] (p ∷ ps) size each = absurd (omega (arith, size))
  named (h ∷ hs) [] size each = absurd (omega (arith, size))
  named (h ∷ hs) (p ∷ ps) size each =
      let (first, found, heads) = each 0 p refl in
      let is : first ≡ h = cc in
      let own = subst (λ (k : Heading). Heads table p k) is heads in
      let rest = named hs ps (omega (arith, size)) (λ k q at. each (suc k) q at) in
      subst (λ n. SameHeading table (if bytes_eq n x then Some h else heading_named hs x)
      (if bytes_eq p.name.text x then Some p else procedure_named ps x)) (sym own.name)
      (choice (bytes_eq p.name.text x) h p (heading_named hs x) (procedure_named ps x) own rest)

pub heading_of_procedure : (c : Flat) (t : Program) (x : List ℕ) → StandsFor c t
    → SameHeading (places_of t.procedures) (heading_named c.headings x) (procedure_named t.procedures x)
heading_of_procedure c t x is = named (places_of t.procedures) x c.headings t.procedures is.procedures is.headed

module _ (table : List Place) where
  formals_alike : (h : Option Heading) (o : Option Procedure) → SameHeading table h o
      → option_map (λ (k : Heading). k.formals) h ≡ option_map (λ (p : Procedure). length p.formals) o
  formals_alike h o given1 = grind (arith)

entry_alike : (t : Program) (h : Option Heading) (o : Option Procedure) → SameHeading (places_of t.procedures) h o
    → MatchOption (option_map (λ (k : Heading). k.entry) h) (o ≡ None) (IsEntryOf t o)
entry_alike t h o given1 = grind (arith)

module _ (c : Flat) (t : Program) (x : List ℕ) (is : StandsFor c t) where
  -- the number of formals
  pub formals_of_procedure : option_map (λ (k : Heading). k.formals) (heading_named c.headings x)
      ≡ option_map (λ (p : Procedure). length p.formals) (procedure_named t.procedures x)
  formals_of_procedure = formals_alike (places_of t.procedures) _ _ (heading_of_procedure c t x is)

  -- the first instruction
  entry_of_procedure :
      MatchOption (option_map (λ (k : Heading). k.entry) (heading_named c.headings x)) (procedure_named t.procedures x ≡ None)
      (IsEntryOf t (procedure_named t.procedures x))
  entry_of_procedure = entry_alike t _ _ (heading_of_procedure c t x is)

  pub entry_found : (n : ℕ) → Some n ≡ option_map (λ (k : Heading). k.entry) (heading_named c.headings x) → IsEntryOf t (procedure_named t.procedures x) n
  entry_found n e = subst (λ o. MatchOption o (procedure_named t.procedures x ≡ None) (IsEntryOf t (procedure_named t.procedures x))) (sym e) entry_of_procedure

  pub entry_missing : None ≡ option_map (λ (k : Heading). k.entry) (heading_named c.headings x) → procedure_named t.procedures x ≡ None
  entry_missing e = subst (λ o. MatchOption o (procedure_named t.procedures x ≡ None) (IsEntryOf t (procedure_named t.procedures x))) (sym e) entry_of_procedure
