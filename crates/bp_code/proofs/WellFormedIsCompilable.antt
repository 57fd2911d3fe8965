-- Well-formed programs have a code: each name in them is declared.
use Rattle.bp_code.proofs.Common.{◌≡◌, refl, sym, ap, subst, ◌∙◌, ℕ, ◌+◌, ◌≤◌, true, false, cond, List, [], ◌∷◌, Option, Some, is_some, length, length-append, bytes_eq, arith, ◌⊎◌, ◌||◌, Bool, ◌++◌, IsSome, inl, inr, option_map, rules, option_or, option_to_list, Name, Block, Done, Then, Statement, Skips, GoesTo, Returns, Assigns, Branches, Loops, Asserts, Assumes, Prints, Calls, Procedure, Program, Expression, Constant, Variable, Negation, Operation, Decision, procedure_named, variables, has, Uses, SomeUses, DecisionUses, Mentions, Among, Labelled, statements, statements_inside, labels_of, HasFewNames, IsSound, HasSoundStatements, EachName, NamesInExpression, NamesInExpressions, NamesInDecision, chain, has_label, from_label, from_inside, Heading, heading_named, AllCompilableIn, HaveFew, HasNames, HasNamesIn, IsCompilableIn, IsCompilable, IsKnown, IsKnownIn, Environment, block_size, size, label_number, inner_number, headings_from, slot_of}
use Rattle.std.proofs.lemmas.List.Folds.{list_any-append}
use Rattle.bp_syntax.specs.Ast.{procedures_size}
use Rattle.bp_flat.specs.declared.limits.TheConstants.{SLOTS}
use Rattle.bp_flat.specs.Moves.{procedure_named}
use Rattle.bp_code.proofs.RepeatedNames.{first_has}
use Rattle.bp_code.specs.CompiledCode.{HasSlot}

-- Names that are declared in a program are known in the scopes of its procedures.

same_or : {A B : Type 0} (a b : Option A) (c d : Option B) → is_some a ≡ is_some c → is_some b ≡ is_some d → is_some (option_or a b) ≡ is_some (option_or c d)
same_or given1 given2 = grind (arith)

-- a label has a number if and only if it is found
mutual
  pub label_there : (l r : Block) (n : ℕ) (x : List ℕ) → is_some (label_number l n x) ≡ is_some (from_label l r x)
  label_there Done r n x = refl
  label_there (Then label at s t) r n x =
      elim (has_label label x) as (λ b. is_some
      (cond b (Some n) (option_or (inner_number s n x) (label_number t (n + size s) x)))
      ≡ is_some
      (cond b (Some (Then label at s (chain t r))) (option_or (from_inside s label at (chain t r) x) (from_label t r x)))) [
        | true ↦ refl
        | false ↦
            same_or (inner_number s n x) (label_number t (n + size s) x) (from_inside s label at (chain t r) x)
            (from_label t r x) (inner_there s label at (chain t r) n x) (label_there t r (n + size s) x)
      ]

  inner_there : (s : Statement) (label : Option Name) (at : ℕ) (r : Block) (n : ℕ) (x : List ℕ)
      → is_some (inner_number s n x) ≡ is_some (from_inside s label at r x)
  inner_there Skips label at r n x = refl
  inner_there (GoesTo y) label at r n x = refl
  inner_there Returns label at r n x = refl
  inner_there (Assigns xs es) label at r n x = refl
  inner_there (Branches d a b) label at r n x =
      same_or (label_number a (n + 1) x) (label_number b (n + 1 + block_size a) x) (from_label a r x) (from_label b r x)
      (label_there a r (n + 1) x) (label_there b r (n + 1 + block_size a) x)
  inner_there (Loops d a) label at r n x = label_there a (Then label at (Loops d a) r) (n + 1) x
  inner_there (Asserts d) label at r n x = refl
  inner_there (Assumes d) label at r n x = refl
  inner_there (Prints es) label at r n x = refl
  inner_there (Calls y es) label at r n x = refl

heading_there : (ps : List Procedure) (n : ℕ) (x : List ℕ) → is_some (heading_named (headings_from n ps) x) ≡ is_some (procedure_named ps x)
heading_there [] n x = refl
heading_there (p ∷ ps) n x =
    let later = n + block_size p.body + 1 in
    let heading : Heading = record { name = p.name.text; formals = length p.formals; locals = length p.locals; entry = n } in
    elim (bytes_eq p.name.text x) as (λ b. is_some (cond b (Some heading) (heading_named (headings_from later ps) x))
    ≡ is_some (cond b (Some p) (procedure_named ps x))) [
      | true ↦ refl
      | false ↦ heading_there ps later x
    ]

-- a procedure that a name finds has few formals
few_formals : (t : Program) (ps : List Procedure) (x : List ℕ) (q : Procedure) → AllCompilableIn t ps → procedure_named ps x ≡ Some q → length q.formals ≤ SLOTS
few_formals t [] x q able e = cc
few_formals t (p ∷ ps) x q able e =
    (elim (bytes_eq p.name.text x) as (λ b. cond b (Some p) (procedure_named ps x) ≡ Some q → length q.formals ≤ SLOTS) [
      | true ↦ λ e.
          let is : p ≡ q = cc in
          let few = able.0.few in
          let many : length p.formals ≤ SLOTS = omega (arith, length-append p.formals p.locals) in
          subst (λ q. length q.formals ≤ SLOTS) is many
      | false ↦ λ e. few_formals t ps x q able.1 e
    ]) e

pub all_few : (t : Program) (ps : List Procedure) → AllCompilableIn t ps → HaveFew ps
all_few t [] able = tt
all_few t (p ∷ ps) able = (able.0.few, all_few t ps able.1)

module _ (t : Program) (able : AllCompilableIn t t.procedures) (p : Procedure) (start : ℕ) where
  abbrev environment : Environment
  environment = record { globals = t.globals; procedure = p; start = start; headings = headings_from 0 t.procedures }

  mutual
    pub all_known : (l : Block) → HasNames t p l
        → IsKnown (record { globals = t.globals; procedure = p; start = start; headings = headings_from 0 t.procedures }) l
    all_known Done h = tt
    all_known (Then label at s l) h = (one_known s h.0, all_known l h.1)

    one_known : (s : Statement) → HasNamesIn t p s → IsKnownIn environment s
    one_known Skips h = tt
    one_known (GoesTo x) h = label_there p.body Done start x.text ∙ h
    one_known Returns h = tt
    one_known (Assigns xs es) h = h
    one_known (Branches d a b) h = (h.0, all_known a h.1, all_known b h.2)
    one_known (Loops d a) h = (h.0, all_known a h.1)
    one_known (Asserts d) h = h
    one_known (Assumes d) h = h
    one_known (Prints es) h = h
    one_known (Calls x es) h =
        let q = h.1.0 in
        let few = few_formals t t.procedures x.text q able h.1.1 in
        (h.0, (heading_there t.procedures 0 x.text ∙ ap is_some h.1.1, subst (λ n. n ≤ SLOTS) (sym h.1.2) few))

-- Names that are there have a place.

one_of : (a b : Bool) → (a || b) ≡ true → (a ≡ true) ⊎ (b ≡ true)
one_of a b given1 = grind (arith)

first_or_later : {X : Type 0} (b : Bool) (x : X) (o : Option X) → (b ≡ true) ⊎ IsSome o → IsSome (cond b (Some x) o)
first_or_later given1 = grind (arith)

some_map : {X Y : Type 0} (f : X → Y) (o : Option X) → IsSome o → IsSome (option_map f o)
some_map given1 = grind (arith)

some_or : {X : Type 0} (a b : Option X) → IsSome a ⊎ IsSome b → IsSome (option_or a b)
some_or given1 = grind (arith)

any_true : (b : Bool) → (b || true) ≡ true
any_true b = grind (arith)

among_front : {X : Type 0} (xs ys : List X) (x : X) → Among xs x → Among (xs ++ ys) x
among_front [] ys x m = absurd m
among_front (y ∷ xs) ys x (inl e) = inl e
among_front (y ∷ xs) ys x (inr m) = inr (among_front xs ys x m)

among_back : {X : Type 0} (xs ys : List X) (x : X) → Among ys x → Among (xs ++ ys) x
among_back [] ys x m = m
among_back (y ∷ xs) ys x m = inr (among_back xs ys x m)

module _ (t : Program) (p : Procedure) where
  slotted : (x : List ℕ) → has (variables p ++ t.globals) x ≡ true → IsSome (slot_of t.globals p x)
  slotted x given1 = search (rules, list_any-append, bytes_eq, some_or, one_of, some_map, first_has)

  in_expression : (e : Expression) → ((n : Name) → Uses e n → has (variables p ++ t.globals) n.text ≡ true) → NamesInExpression (HasSlot t.globals p) e
  in_expression (Constant b) h = tt
  in_expression (Variable x) h = slotted x.text (h x refl)
  in_expression (Negation e) h = in_expression e h
  in_expression (Operation op a b) h = (in_expression a (λ n u. h n (inl u)), in_expression b (λ n u. h n (inr u)))

  in_expressions : (es : List Expression) → ((n : Name) → SomeUses es n → has (variables p ++ t.globals) n.text ≡ true)
      → NamesInExpressions (HasSlot t.globals p) es
  in_expressions [] h = tt
  in_expressions (e ∷ es) h =
      (in_expression e (λ n u. h n (e, inl refl, u)), in_expressions es (λ n u. h n (u.0, inr u.1, u.2)))

  in_names : (ns : List Name) → ((n : Name) → Among ns n → has (variables p ++ t.globals) n.text ≡ true) → EachName (HasSlot t.globals p) ns
  in_names [] h = tt
  in_names (n ∷ ns) h = (slotted n.text (h n (inl refl)), in_names ns (λ m u. h m (inr u)))

  in_decision : (d : Decision) → ((n : Name) → DecisionUses d n → has (variables p ++ t.globals) n.text ≡ true) → NamesInDecision (HasSlot t.globals p) d
  in_decision d given1 = search (rules, in_expression)

  -- a label of a block is found there
  labels_append : (xs ys : List Labelled) (x : List ℕ) → has (labels_of (xs ++ ys)) x ≡ true → (has (labels_of xs) x ≡ true) ⊎ (has (labels_of ys) x ≡ true)
  labels_append [] ys x e = inr e
  labels_append (l ∷ xs) ys x e =
      let test = λ (n : Name). bytes_eq n.text x in
      let parts = sym (list_any-append test (option_to_list l.label) (labels_of (xs ++ ys))) ∙ e in
      elim (one_of (has (option_to_list l.label) x) (has (labels_of (xs ++ ys)) x) parts) [
        | inl here ↦ inl (list_any-append test (option_to_list l.label) (labels_of xs) ∙ ap (λ b. b || has (labels_of xs) x) here)
        | inr there ↦ elim (labels_append xs ys x there) [
          | inl a ↦
              inl (list_any-append test (option_to_list l.label) (labels_of xs)
              ∙ ap (λ b. has (option_to_list l.label) x || b) a ∙ any_true (has (option_to_list l.label) x))
          | inr b ↦ inr b
        ]
      ]

  own_label : (label : Option Name) (x : List ℕ) → has (option_to_list label) x ≡ true → has_label label x ≡ true
  own_label label x given1 = grind (arith)

  mutual
    found_in : (b r : Block) (x : List ℕ) → has (labels_of (statements b)) x ≡ true → IsSome (from_label b r x)
    found_in Done r x e = absurd cc
    found_in (Then label at s u) r x e =
        first_or_later (has_label label x) (Then label at s (chain u r)) _
        (elim (labels_append (record { label = label; statement = s } ∷ []) (statements_inside s ++ statements u) x e) [
          | inl own ↦
              inl (own_label label x
              (elim (one_of (has (option_to_list label) x) false
              (sym (list_any-append (λ (n : Name). bytes_eq n.text x) (option_to_list label) []) ∙ own)) [
                | inl h ↦ h
                | inr h ↦ absurd cc
              ]))
          | inr rest ↦ inr (some_or _ _ (elim (labels_append (statements_inside s) (statements u) x rest) [
            | inl a ↦ inl (found_inside s label at (chain u r) x a)
            | inr b ↦ inr (found_in u r x b)
          ]))
        ])

    found_inside : (s : Statement) (label : Option Name) (at : ℕ) (r : Block) (x : List ℕ)
        → has (labels_of (statements_inside s)) x ≡ true → IsSome (from_inside s label at r x)
    found_inside (Branches d a b) label at r x e =
        some_or _ _ (elim (labels_append (statements a) (statements b) x e) [ inl h ↦ inl (found_in a r x h) | inr h ↦ inr (found_in b r x h) ])
    found_inside (Loops d a) label at r x e = found_in a (Then label at (Loops d a) r) x e
    found_inside Skips label at r x e = absurd cc
    found_inside (GoesTo y) label at r x e = absurd cc
    found_inside Returns label at r x e = absurd cc
    found_inside (Assigns xs es) label at r x e = absurd cc
    found_inside (Asserts d) label at r x e = absurd cc
    found_inside (Assumes d) label at r x e = absurd cc
    found_inside (Prints es) label at r x e = absurd cc
    found_inside (Calls y es) label at r x e = absurd cc

  -- a sound statement, all of whose variables are declared
  pub record IsFine (s : Statement) : Type 0 where
    pub sound : IsSound t p s
    pub uses : (n : Name) → Mentions s n → has (variables p ++ t.globals) n.text ≡ true

  mutual
    in_block : (b : Block) → ((l : Labelled) → Among (statements b) l → IsFine l.statement) → HasNames t p b
    in_block Done fine = tt
    in_block (Then label at s u) fine = (
      in_statement s (fine (record { label = label; statement = s }) (inl refl))
          (λ l m. fine l (inr (among_front (statements_inside s) (statements u) l m))),
      in_block u (λ l m. fine l (inr (among_back (statements_inside s) (statements u) l m))),
    )

    in_statement : (s : Statement) → IsFine s → ((l : Labelled) → Among (statements_inside s) l → IsFine l.statement) → HasNamesIn t p s
    in_statement Skips fine inside = tt
    in_statement (GoesTo x) fine inside = found_in p.body Done x.text fine.sound
    in_statement Returns fine inside = tt
    in_statement (Assigns xs es) fine inside = (in_names xs (λ n u. fine.uses n (inl u)), in_expressions es (λ n u. fine.uses n (inr u)))
    in_statement (Branches d a b) fine inside = (
      in_decision d fine.uses,
      in_block a (λ l m. inside l (among_front (statements a) (statements b) l m)),
      in_block b (λ l m. inside l (among_back (statements a) (statements b) l m)),
    )
    in_statement (Loops d a) fine inside = (in_decision d fine.uses, in_block a inside)
    in_statement (Asserts d) fine inside = in_decision d fine.uses
    in_statement (Assumes d) fine inside = in_decision d fine.uses
    in_statement (Prints es) fine inside = in_expressions es fine.uses
    in_statement (Calls x es) fine inside =
        (in_expressions es fine.uses, fine.sound)

module _ (t : Program) (few : HasFewNames t) (sound : HasSoundStatements t) where
  compilable_in : (p : Procedure) → Among t.procedures p → IsCompilableIn t p
  compilable_in p given1 = search (rules, in_block, sound)

  all_in : (ps : List Procedure) → ((p : Procedure) → Among ps p → Among t.procedures p) → AllCompilableIn t ps
  all_in [] within = tt
  all_in (p ∷ ps) within = (compilable_in p (within p (inl refl)), all_in ps (λ q m. within q (inr m)))

  pub well_formed_compiles : procedures_size t.procedures ≤ 65536 → IsCompilable t
  well_formed_compiles given1 = search (rules, all_in)
