-- The code of a program stands for it.
use Rattle.bp_code.proofs.Common.{◌≡◌, refl, sym, ap, subst, ◌∙◌, ℕ, zero, suc, ◌+◌, true, false, cond, List, [], ◌∷◌, ◌++◌, Option, None, Some, IsSome, option_map, unwrap_or, length, length-append, slice_get, bytes_eq, arith, add-one, add-zero, rules, option_or, regrouped, Name, Block, Done, Then, Statement, Skips, GoesTo, Returns, Assigns, Branches, Loops, Asserts, Assumes, Prints, Calls, Procedure, Program, Instruction, Heading, heading_named, chain, has_label, from_label, from_inside, StandsFor, Place, place, places, places_in, places_of, Remains, Does, Heads, IsCompilable, AllCompilableIn, HasNames, HasNamesIn, Environment, block_size, size, label_number, inner_number, label_in, callee_in, block_entry, block_code, statement_code, headings_from, procedures_code, flat_of, test_in, formulas_in, slots_in}
use Rattle.bp_flat.specs.Moves.{procedure_named}
use Rattle.bp_code.proofs.SlotsAreVariables.{are_values, tests, targets}

-- ---- the place of a piece of the table

-- the table has these places from the number n on
abbrev pub StandsAt : List Place → ℕ → List Place → Type 0
StandsAt table n [] = Unit {0}
StandsAt table n (q ∷ qs) = (slice_get table n ≡ Some q) × StandsAt table (suc n) qs

pub stands_left : (table : List Place) (n : ℕ) (xs ys : List Place) → StandsAt table n (xs ++ ys) → StandsAt table n xs
stands_left table n [] ys h = tt
stands_left table n (x ∷ xs) ys h = (h.0, stands_left table (suc n) xs ys h.1)

pub stands_right : (table : List Place) (n : ℕ) (xs ys : List Place) → StandsAt table n (xs ++ ys) → StandsAt table (n + length xs) ys
stands_right table n [] ys h = rw add-zero h
stands_right table n (x ∷ xs) ys h =
    let moved : suc n + length xs ≡ n + suc (length xs) = omega arith in
    subst (λ m. StandsAt table m ys) moved (stands_right table (suc n) xs ys h.1)

at_seam : (pre : List Place) (q : Place) (qs : List Place) → slice_get (pre ++ q ∷ qs) (length pre) ≡ Some q
at_seam [] q qs = refl
at_seam (x ∷ pre) q qs = at_seam pre q qs

stands_after : (pre qs : List Place) → StandsAt (pre ++ qs) (length pre) qs
stands_after pre [] = tt
stands_after pre (q ∷ qs) =
    let longer : length (pre ++ q ∷ []) ≡ suc (length pre) = simp length-append (omega arith) in (
      at_seam pre q qs,
      subst (λ n. StandsAt (pre ++ q ∷ qs) n qs) longer
          (simp regrouped at (stands_after (pre ++ q ∷ []) qs)),
    )

pub stands_whole : (table : List Place) → StandsAt table 0 table
stands_whole table = stands_after [] table

-- ---- sizes

mutual
  pub places_length : (p : Procedure) (l r : Block) → length (places p l r) ≡ block_size l
  places_length p Done r = refl
  places_length p (Then label at s t) r =
      length-append (places_in p s label at (chain t r)) (places p t r) ∙ (λ i. places_in_length p s label at (chain t r) i + places_length p t r i)

  pub places_in_length : (p : Procedure) (s : Statement) (label : Option Name) (at : ℕ) (r : Block) → length (places_in p s label at r) ≡ size s
  places_in_length p Skips label at r = refl
  places_in_length p (GoesTo x) label at r = refl
  places_in_length p Returns label at r = refl
  places_in_length p (Assigns xs es) label at r = refl
  places_in_length p (Branches d a b) label at r =
      let one = places_length p a r in
      let two = places_length p b r in
      rw (length-append (places p a r) (places p b r), one, two) (omega arith)
  places_in_length p (Loops d a) label at r = let one = places_length p a (Then label at (Loops d a) r) in rw one (omega arith)
  places_in_length p (Asserts d) label at r = refl
  places_in_length p (Assumes d) label at r = refl
  places_in_length p (Prints es) label at r = refl
  places_in_length p (Calls x es) label at r = refl

-- ---- the first place of a statement, and of a block

module _ (table : List Place) (p : Procedure) where
  head_of : (s : Statement) (label : Option Name) (at : ℕ) (r : Block) (n : ℕ) → StandsAt table n (places_in p s label at r)
      → Remains table n p (Then label at s r)
  head_of s label at r n given1 = grind (arith)

  -- a block's first statement stands, and the statements after it
  pub one_stands : (s : Statement) (label : Option Name) (at : ℕ) (t r : Block) (n : ℕ) → StandsAt table n (places p (Then label at s t) r)
      → StandsAt table n (places_in p s label at (chain t r))
  one_stands s label at t r n h = stands_left table n (places_in p s label at (chain t r)) (places p t r) h

  pub rest_stands : (s : Statement) (label : Option Name) (at : ℕ) (t r : Block) (n : ℕ) → StandsAt table n (places p (Then label at s t) r)
      → StandsAt table (n + size s) (places p t r)
  rest_stands s label at t r n given1 = search (rules, places_in_length, stands_right)

  pub first_remains : (l r : Block) (n next : ℕ) → StandsAt table n (places p l r) → Remains table next p r → Remains table (block_entry l n next) p (chain l r)
  first_remains l r n next given1 given2 = grind (arith)

  -- the parts of a branch and the body of a loop
  yes_stands : (a b r : Block) (n : ℕ) → StandsAt table (suc n) (places p a r ++ places p b r) → StandsAt table (n + 1) (places p a r)
  yes_stands a b r n h = rw add-one (stands_left table (suc n) (places p a r) (places p b r) h)

  no_stands : (a b r : Block) (n : ℕ) → StandsAt table (suc n) (places p a r ++ places p b r) → StandsAt table (n + 1 + block_size a) (places p b r)
  no_stands a b r n given1 = search (rules, add-one, places_length, stands_right)

  body_stands : (a r : Block) (n : ℕ) → StandsAt table (suc n) (places p a r) → StandsAt table (n + 1) (places p a r)
  body_stands a r n h = rw add-one h

  -- ---- labels

  -- no number and nothing left, or a number at which this is left
  abbrev SameLabel : Option ℕ → Option Block → Type 0
  SameLabel None None = Unit {0}
  SameLabel (Some m) (Some left) = Remains table m p left
  SameLabel None (Some left) = ⊥
  SameLabel (Some m) None = ⊥

  same_or : (a b : Option ℕ) (c d : Option Block) → SameLabel a c → SameLabel b d → SameLabel (option_or a b) (option_or c d)
  same_or a b c d given1 given2 = grind (arith)

  mutual
    pub labels : (l r : Block) (n : ℕ) (x : List ℕ) → StandsAt table n (places p l r) → SameLabel (label_number l n x) (from_label l r x)
    labels Done r n x h = tt
    labels (Then label at s t) r n x h =
        elim (has_label label x) as (λ b. SameLabel
        (cond b (Some n) (option_or (inner_number s n x) (label_number t (n + size s) x)))
        (cond b (Some (Then label at s (chain t r)))
        (option_or (from_inside s label at (chain t r) x) (from_label t r x)))) [
          | true ↦ head_of s label at (chain t r) n (one_stands s label at t r n h)
          | false ↦ same_or (inner_number s n x) (label_number t (n + size s) x) (from_inside s label at (chain t r) x) (from_label t r x)
              (inner_labels s label at (chain t r) n x (one_stands s label at t r n h)) (labels t r (n + size s) x (rest_stands s label at t r n h))
        ]

    inner_labels : (s : Statement) (label : Option Name) (at : ℕ) (r : Block) (n : ℕ) (x : List ℕ) → StandsAt table n (places_in p s label at r)
        → SameLabel (inner_number s n x) (from_inside s label at r x)
    inner_labels Skips label at r n x h = tt
    inner_labels (GoesTo y) label at r n x h = tt
    inner_labels Returns label at r n x h = tt
    inner_labels (Assigns xs es) label at r n x h = tt
    inner_labels (Branches d a b) label at r n x h =
        same_or (label_number a (n + 1) x) (label_number b (n + 1 + block_size a) x) (from_label a r x) (from_label b r x)
        (labels a r (n + 1) x (yes_stands a b r n h.1)) (labels b r (n + 1 + block_size a) x (no_stands a b r n h.1))
    inner_labels (Loops d a) label at r n x h = labels a (Then label at (Loops d a) r) (n + 1) x (body_stands a (Then label at (Loops d a) r) n h.1)
    inner_labels (Asserts d) label at r n x h = tt
    inner_labels (Assumes d) label at r n x h = tt
    inner_labels (Prints es) label at r n x h = tt
    inner_labels (Calls y es) label at r n x h = tt

  -- a label of the block has a number
  pub label_found : (o : Option ℕ) (left : Option Block) → SameLabel o left → IsSome left → (r : Block) × (left ≡ Some r) × Remains table (unwrap_or o 0) p r
  label_found o left given1 given2 = grind (arith)

-- ---- procedures

chain_done : (l : Block) → chain l Done ≡ l
chain_done Done = refl
chain_done (Then label at s t) = ap (Then label at s) (chain_done t)

module _ (table : List Place) where
  -- a procedure's end, if its block is in the table and its end after it
  end_remains : (p : Procedure) (n : ℕ) (ps : List Place)
      → StandsAt table n (places p p.body Done ++ (place p Done ∷ ps)) → Remains table (n + block_size p.body) p Done
  end_remains p n ps given1 = search (rules, stands_right, places_length)

  more_stand : (p : Procedure) (n : ℕ) (ps : List Place)
      → StandsAt table n (places p p.body Done ++ (place p Done ∷ ps)) → StandsAt table (n + block_size p.body + 1) ps
  more_stand p n ps given1 = search (rules, stands_right, add-one, places_length)

  first_number : (l : Block) (n : ℕ) → block_entry l n (n + block_size l) ≡ n
  first_number l n = grind (arith)

  entry_remains : (p : Procedure) (n : ℕ) (ps : List Place) → StandsAt table n (places p p.body Done ++ (place p Done ∷ ps)) → Remains table n p p.body
  entry_remains p n ps given1 = search (rules, first_remains, stands_left, end_remains, first_number, chain_done)

  pub headed_at : (ps : List Procedure) (n k : ℕ) (p : Procedure) → StandsAt table n (places_of ps) → slice_get ps k ≡ Some p
      → (h : Heading) × (slice_get (headings_from n ps) k ≡ Some h) × Heads table p h
  headed_at [] n k p h e = cc
  headed_at (q ∷ ps) n zero p h e =
      let is : q ≡ p = cc in
      let heading : Heading = record { name = q.name.text; formals = length q.formals; locals = length q.locals; entry = n } in
      (heading, refl, subst (λ p. Heads table p heading) is (record { name = refl; formals = refl; locals = refl; entry = entry_remains q n (places_of ps) h }))
  headed_at (q ∷ ps) n (suc k) p h e = headed_at ps (n + block_size q.body + 1) k p (more_stand q n (places_of ps) h) e

  pub headings_length : (n : ℕ) (ps : List Procedure) → length (headings_from n ps) ≡ length ps
  headings_length n [] = refl
  headings_length n (p ∷ ps) = ap suc (headings_length (n + block_size p.body + 1) ps)

  -- the first procedure of a name has the first heading of that name
  pub callee_found : (ps : List Procedure) (n : ℕ) (x : List ℕ) (q : Procedure) → StandsAt table n (places_of ps) → procedure_named ps x ≡ Some q
      → (c : ℕ) × (option_map (λ h. h.entry) (heading_named (headings_from n ps) x) ≡ Some c) × Remains table c q q.body
  callee_found [] n x q h e = cc
  callee_found (p ∷ ps) n x q h e =
      let later = headings_from (n + block_size p.body + 1) ps in
      let heading : Heading = record { name = p.name.text; formals = length p.formals; locals = length p.locals; entry = n } in
      (elim (bytes_eq p.name.text x) as (λ b. cond b (Some p) (procedure_named ps x) ≡ Some q
      → (c : ℕ) × (option_map (λ h. h.entry) (cond b (Some heading) (heading_named later x)) ≡ Some c)
      × Remains table c q q.body) [
        | true ↦ λ e. let is : p ≡ q = cc in (n, refl, subst (λ q. Remains table n q q.body) is (entry_remains p n (places_of ps) h))
        | false ↦ λ e. callee_found ps (n + block_size p.body + 1) x q (more_stand p n (places_of ps) h) e
      ]) e

-- ---- each instruction meets its place

abbrev EachDoes : Program → List Place → List Place → List Instruction → Type 0
EachDoes t table [] [] = Unit {0}
EachDoes t table (q ∷ qs) (i ∷ is) = Does t table q.procedure q.left i × EachDoes t table qs is
EachDoes t table [] (i ∷ is) = ⊥
EachDoes t table (q ∷ qs) [] = ⊥

both_do : (t : Program) (table qs rs : List Place) (is js : List Instruction) → EachDoes t table qs is
    → EachDoes t table rs js → EachDoes t table (qs ++ rs) (is ++ js)
both_do t table [] rs [] js h k = k
both_do t table (q ∷ qs) rs (i ∷ is) js h k = (h.0, both_do t table qs rs is js h.1 k)
both_do t table [] rs (i ∷ is) js h k = absurd h
both_do t table (q ∷ qs) rs [] js h k = absurd h

as_many : (t : Program) (table qs : List Place) (is : List Instruction) → EachDoes t table qs is → length is ≡ length qs
as_many t table [] [] h = refl
as_many t table (q ∷ qs) (i ∷ is) h = ap suc (as_many t table qs is h.1)
as_many t table [] (i ∷ is) h = absurd h
as_many t table (q ∷ qs) [] h = absurd h

does_at : (t : Program) (table qs : List Place) (is : List Instruction) (n : ℕ) (p : Procedure) (r : Block)
    → EachDoes t table qs is → slice_get qs n ≡ Some (place p r)
    → (i : Instruction) × (slice_get is n ≡ Some i) × Does t table p r i
does_at t table [] is n p r h e = cc
does_at t table (q ∷ qs) (i ∷ is) zero p r h e = let same : q ≡ place p r = cc in (i, refl, subst (λ q. Does t table q.procedure q.left i) same h.0)
does_at t table (q ∷ qs) (i ∷ is) (suc n) p r h e = does_at t table qs is n p r h.1 e
does_at t table (q ∷ qs) [] n p r h e = absurd h

module _ (t : Program) (whole : StandsAt (places_of t.procedures) 0 (places_of t.procedures)) (p : Procedure) (start : ℕ)
    (begins : StandsAt (places_of t.procedures) start (places p p.body Done)) where
  abbrev environment : Environment
  environment = record { globals = t.globals; procedure = p; start = start; headings = headings_from 0 t.procedures }

  abbrev table : List Place
  table = places_of t.procedures

  mutual
    block_is_code : (l r : Block) (n next : ℕ) → HasNames t p l → StandsAt table n (places p l r) → Remains table next p r
        → EachDoes t table (places p l r) (block_code environment l n next)
    block_is_code Done r n next names h after = tt
    block_is_code (Then label at s l) r n next names h after =
        let rest = rest_stands table p s label at l r n h in
        both_do t table (places_in p s label at (chain l r)) (places p l r)
        (statement_code environment s n (block_entry l (n + size s) next))
        (block_code environment l (n + size s) next)
        (statement_does s label at (chain l r) n (block_entry l (n + size s) next) names.0
        (one_stands table p s label at l r n h) (first_remains table p l r (n + size s) next rest after))
        (block_is_code l r (n + size s) next names.1 rest after)

    statement_does : (s : Statement) (label : Option Name) (at : ℕ) (r : Block) (n next : ℕ) → HasNamesIn t p s
        → StandsAt table n (places_in p s label at r) → Remains table next p r
        → EachDoes t table (places_in p s label at r) (statement_code environment s n next)
    statement_does Skips label at r n next names h after = (record { next = next; is = refl; next_is = after }, tt)
    statement_does (GoesTo x) label at r n next names h after =
        let number = label_number p.body start x.text in
        let left = from_label p.body Done x.text in
        let found = label_found table p number left (labels table p p.body Done start x.text begins) names in (
          record { next = label_in environment x.text; left = found.0; is = refl; left_is = found.1; next_is = found.2 },
          tt,
        )
    statement_does Returns label at r n next names h after = (refl, tt)
    statement_does (Assigns xs es) label at r n next names h after = (
      record {
        targets = slots_in environment xs;
        values = formulas_in environment es;
        next = next;
        is = refl;
        targets_are = targets t p environment refl refl xs names.0;
        values_are = are_values t p environment refl refl es names.1;
        next_is = after;
      },
      tt,
    )
    statement_does (Branches d a b) label at r n next names h after =
        let one = yes_stands table p a b r n h.1 in
        let two = no_stands table p a b r n h.1 in (
          record {
            test = test_in environment d;
            next = block_entry a (n + 1) next;
            else_next = block_entry b (n + 1 + block_size a) next;
            is = refl;
            test_is = tests t p environment refl refl d names.0;
            next_is = first_remains table p a r (n + 1) next one after;
            else_is = first_remains table p b r (n + 1 + block_size a) next two after;
          },
          both_do t table (places p a r) (places p b r)
              (block_code environment a (n + 1) next) (block_code environment b (n + 1 + block_size a) next)
              (block_is_code a r (n + 1) next names.1 one after) (block_is_code b r (n + 1 + block_size a) next names.2 two after),
        )
    statement_does (Loops d a) label at r n next names h after =
        let again = Then label at (Loops d a) r in
        let body = body_stands table p a again n h.1 in (
          record {
            test = test_in environment d;
            next = block_entry a (n + 1) n;
            else_next = next;
            is = refl;
            test_is = tests t p environment refl refl d names.0;
            next_is = first_remains table p a again (n + 1) n body h.0;
            else_is = after;
          },
          block_is_code a again (n + 1) n names.1 body h.0,
        )
    statement_does (Asserts d) label at r n next names h after = (
      record {
        test = test_in environment d;
        next = next;
        is = refl;
        test_is = tests t p environment refl refl d names;
        next_is = after;
      },
      tt,
    )
    statement_does (Assumes d) label at r n next names h after = (
      record {
        test = test_in environment d;
        next = next;
        is = refl;
        test_is = tests t p environment refl refl d names;
        next_is = after;
      },
      tt,
    )
    statement_does (Prints es) label at r n next names h after = (
      record {
        values = formulas_in environment es;
        next = next;
        is = refl;
        values_are = are_values t p environment refl refl es names;
        next_is = after;
      },
      tt,
    )
    statement_does (Calls x es) label at r n next names h after =
        let callee = names.1 in
        let found = callee_found table t.procedures 0 x.text callee.0 whole callee.1 in
        let entry : callee_in environment x.text ≡ found.0 = ap (λ o. unwrap_or o 0) found.1 in (
          record {
            callee = callee_in environment x.text;
            arguments = formulas_in environment es;
            next = next;
            procedure = callee.0;
            is = refl;
            procedure_is = callee.1;
            arity = callee.2;
            arguments_are = are_values t p environment refl refl es names.0;
            callee_is = subst (λ c. Remains table c callee.0 callee.0.body) (sym entry) found.2;
            next_is = after;
          },
          tt,
        )

procedures_do : (t : Program) (whole : StandsAt (places_of t.procedures) 0 (places_of t.procedures)) (ps : List Procedure) (n : ℕ)
    → StandsAt (places_of t.procedures) n (places_of ps) → AllCompilableIn t ps
    → EachDoes t (places_of t.procedures) (places_of ps) (procedures_code t.globals (headings_from 0 t.procedures) n ps)
procedures_do t whole [] n h names = tt
procedures_do t whole (p ∷ ps) n h names =
    let table = places_of t.procedures in
    let begins = stands_left table n (places p p.body Done) (place p Done ∷ places_of ps) h in
    both_do t table (places p p.body Done) (place p Done ∷ places_of ps) _ _
    (block_is_code t whole p n begins p.body Done n (n + block_size p.body) names.0.names begins (end_remains table p n (places_of ps) h))
    (refl, procedures_do t whole ps (n + block_size p.body + 1) (more_stand table p n (places_of ps) h) names.1)

-- the main fact: the code of a program stands for it
pub flat_stands : (t : Program) → IsCompilable t → StandsFor (flat_of t) t
flat_stands t ok =
    let table = places_of t.procedures in
    let whole = stands_whole table in
    let all = procedures_do t whole t.procedures 0 whole ok.each in
    record {
      globals = refl;
      procedures = headings_length table 0 t.procedures;
      headed = λ k p e. headed_at table t.procedures 0 k p whole e;
      size = as_many t table table _ all;
      each = λ n p r e. does_at t table table _ n p r all e;
    }
