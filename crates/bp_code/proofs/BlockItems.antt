-- Items of blocks: the i-th statement and those after it, its depth, and the code that it adds.
use Rattle.bp_code.proofs.Common.{◌≡◌, refl, ap, ℕ, zero, suc, ◌+◌, ◌<◌, ◌≤◌, List, [], ◌∷◌, ◌++◌, length, drop, get_or, arith, sym, ◌∙◌, Bool, true, if◌then◌else◌, Option, None, Some, bytes_eq, ap₂, map, subst, length-append, append-nil, add-zero, drop-drop, drop_at, rules, option_or, regrouped, Stmt, block_of, statement_of, depth, statement_depth, Then, Block, Branches, Decision, Name, Done, Statement, Skips, GoesTo, Returns, Assigns, Loops, Asserts, Assumes, Prints, Calls, Procedure, Instruction, has_label, chain, Place, places, places_in, places_of, start_of_block, block_starts, inner_starts, drop_item, Environment, size, block_entry, block_code, statement_code, block_size, label_number, inner_number, block_sizes, inner_sizes, AreSizesAt}
use Rattle.std.proofs.lemmas.Slice.Eq.{bytes_eq-Decides}
use Rattle.bp_syntax.specs.Ast.{block_size, size}

-- the block from the i-th statement on
pub block_item : (items : List Stmt) (i : ℕ) (s : Stmt) → i < length items → s ≡ get_or items i s
    → block_of (drop i items) ≡ Then s.label s.at (statement_of s.form) (block_of (drop (i + 1) items))
block_item items i s h e = ap block_of (drop_item items i s h e)

pub item_depth : (items : List Stmt) (i : ℕ) (s : Stmt) → i < length items → s ≡ get_or items i s
    → statement_depth (statement_of s.form) ≤ depth (block_of items)
item_depth items i s h e =
    let tail = drop_depth items i in
    let here = rw (block_item items i s h e) at tail in
    omega arith
  where
    drop_depth : (items : List Stmt) (i : ℕ) → depth (block_of (drop i items)) ≤ depth (block_of items)
    drop_depth items zero = omega arith
    drop_depth [] (suc i) = omega arith
    drop_depth (x ∷ items) (suc i) = omega (arith, drop_depth items i)

-- the number at which control continues after the j-th statement
pub first_within : (items : List Stmt) (j after next : ℕ) → j < length items → after ≡ block_entry (block_of (drop j items)) after next
first_within [] j after next h = absurd (omega arith)
first_within (x ∷ items) zero after next h = refl
first_within (x ∷ items) (suc j) after next h = first_within items j after next (omega arith)

-- one more statement's instructions
pub code_more : (environment : Environment) (items : List Stmt) (i : ℕ) (s : Stmt) (old new all : List Instruction) (n m follows next : ℕ)
    → i < length items → s ≡ get_or items i s
    → follows ≡ block_entry (block_of (drop (i + 1) items)) (n + size (statement_of s.form)) next
    → new ≡ old ++ statement_code environment (statement_of s.form) n follows → m ≡ n + size (statement_of s.form)
    → old ++ block_code environment (block_of (drop i items)) n next ≡ all
    → new ++ block_code environment (block_of (drop (i + 1) items)) m next ≡ all
code_more environment items i s old new all n m follows next given1 given2 given3 given4 given5 given6 = search (rules, block_item, regrouped)

-- One more statement whose size and label are recorded: the records of all statements are the same.

or_choice : {X : Type 0} (old : Option X) (b : Bool) (x : X) (inside rest : Option X)
    → option_or (option_or old (if b then Some x else inside)) rest ≡ option_or old (if b then Some x else option_or inside rest)
or_choice = grind (arith)

-- a label is noted unless an earlier one is spelled so
pub noted : (key label : List ℕ) (n : ℕ) (old new : List ℕ → Option ℕ) → key ≡ label → None ≡ old key
    → ((text : List ℕ) → new text ≡ (if bytes_eq key text then Some n else old text))
    → (text : List ℕ) → new text ≡ option_or (old text) (if bytes_eq label text then Some n else None)
noted key label n old new is free put text =
    put text ∙ ap (λ (k : List ℕ). if bytes_eq k text then Some n else old text) is
    ∙ by_case (bytes_eq label text) (old text) (λ same. sym (free ∙ ap old (is ∙ spelled label text same)))
  where
    spelled : (a b : List ℕ) → bytes_eq a b ≡ true → a ≡ b
    spelled a b e = grind (arith, bytes_eq-Decides a b, e)

    by_case : (b : Bool) (o : Option ℕ) → (b ≡ true → o ≡ None) → (if b then Some n else o) ≡ option_or o (if b then Some n else None)
    by_case b o given1 = grind (arith)

module _ (items : List Stmt) (i : ℕ) (s : Stmt) (h : i < length items) (e : s ≡ get_or items i s) where
  pub sizes_more : (old new all : List ℕ) → new ≡ old ++ (size (statement_of s.form) ∷ inner_sizes (statement_of s.form))
      → old ++ block_sizes (block_of (drop i items)) ≡ all → new ++ block_sizes (block_of (drop (i + 1) items)) ≡ all
  sizes_more old new all given1 given2 = search (rules, noted, block_item, regrouped)

  pub labels_more : (x : List ℕ) (n m : ℕ) (old new all : Option ℕ)
      → new ≡ option_or old (if has_label s.label x then Some n else inner_number (statement_of s.form) n x) → m ≡ n + size (statement_of s.form)
      → option_or old (label_number (block_of (drop i items)) n x) ≡ all → option_or new (label_number (block_of (drop (i + 1) items)) m x) ≡ all
  labels_more x n m old new all given1 given2 given3 = search (rules, noted, block_item, or_choice)

-- the labels of both parts of a branch
pub labels_of_both : (d : Decision) (a b : Block) (x : List ℕ) (number first second : ℕ) (old one two : Option ℕ)
    → number + 1 ≡ first → number + 1 + block_size a ≡ second
    → one ≡ option_or old (label_number a first x) → two ≡ option_or one (label_number b second x)
    → two ≡ option_or old (inner_number (Branches d a b) number x)
labels_of_both d a b x number first second old one two given1 given2 given3 given4 = grind (arith)

-- The starts of a program's places are those of its statements, procedure by procedure.

abbrev pub starts : List Place → List (Option ℕ)
starts ps = map (λ p. start_of_block p.left) ps

pub starts-append : (ps qs : List Place) → starts (ps ++ qs) ≡ starts ps ++ starts qs
starts-append [] qs = refl
starts-append (p ∷ ps) qs = ap (λ xs. start_of_block p.left ∷ xs) (starts-append ps qs)

mutual
  pub starts_of_block : (p : Procedure) (b r : Block) → starts (places p b r) ≡ block_starts b
  starts_of_block p Done r = refl
  starts_of_block p (Then label at s t) r =
      starts-append (places_in p s label at (chain t r)) (places p t r)
      ∙ ap₂ (λ xs ys. xs ++ ys) (starts_of_statement p s label at (chain t r)) (starts_of_block p t r)

  pub starts_of_statement : (p : Procedure) (s : Statement) (label : Option Name) (at : ℕ) (r : Block)
      → starts (places_in p s label at r) ≡ Some at ∷ inner_starts s
  starts_of_statement p (Branches d a b) label at r =
      ap (λ xs. Some at ∷ xs)
      (starts-append (places p a r) (places p b r) ∙ ap₂ (λ xs ys. xs ++ ys) (starts_of_block p a r) (starts_of_block p b r))
  starts_of_statement p (Loops d a) label at r = ap (λ xs. Some at ∷ xs) (starts_of_block p a (Then label at (Loops d a) r))
  starts_of_statement p Skips label at r = refl
  starts_of_statement p (GoesTo x) label at r = refl
  starts_of_statement p Returns label at r = refl
  starts_of_statement p (Assigns xs es) label at r = refl
  starts_of_statement p (Asserts d) label at r = refl
  starts_of_statement p (Assumes d) label at r = refl
  starts_of_statement p (Prints es) label at r = refl
  starts_of_statement p (Calls x es) label at r = refl

pub starts_of_first : (p : Procedure) (ps : List Procedure) → starts (places_of (p ∷ ps)) ≡ block_starts p.body ++ (None ∷ starts (places_of ps))
starts_of_first p ps = search (rules, starts-append, starts_of_block)

-- one more statement whose start, and the starts inside it, are noted
module _ (items : List Stmt) (i : ℕ) (s : Stmt) (h : i < length items) (e : s ≡ get_or items i s) where
  pub starts_more : (old new all : List (Option ℕ)) → new ≡ (old ++ Some s.at ∷ []) ++ inner_starts (statement_of s.form)
      → old ++ block_starts (block_of (drop i items)) ≡ all → new ++ block_starts (block_of (drop (i + 1) items)) ≡ all
  starts_more old new all given1 given2 = search (rules, noted, block_item, regrouped)

-- one more procedure whose starts are noted, and its end
pub procs_more : (ps : List Procedure) (i : ℕ) (p : Procedure) → i < length ps → p ≡ get_or ps i p → (old mid new all : List (Option ℕ))
    → mid ≡ old ++ block_starts p.body → new ≡ mid ++ None ∷ [] → old ++ starts (places_of (drop i ps)) ≡ all
    → new ++ starts (places_of (drop (i + 1) ps)) ≡ all
procs_more ps i p given1 given2 old mid new all given3 given4 given5 = search (rules, noted, drop_item, starts_of_first, regrouped)

-- The places of the sizes of statements in the table of a layout: from a statement to those inside
-- it and to the next one.

mutual
  pub sizes_length : (l : Block) → length (block_sizes l) ≡ block_size l
  sizes_length Done = refl
  sizes_length (Then label at s t) =
      let one = inner_length s in
      let more = sizes_length t in
      rw (length-append (inner_sizes s) (block_sizes t)) (omega (arith, one, more))

  pub inner_length : (s : Statement) → length (inner_sizes s) + 1 ≡ size s
  inner_length Skips = refl
  inner_length (GoesTo x) = refl
  inner_length Returns = refl
  inner_length (Assigns xs es) = refl
  inner_length (Branches d a b) =
      let one = sizes_length a in
      let two = sizes_length b in
      rw (length-append (block_sizes a) (block_sizes b)) (omega (arith, one, two))
  inner_length (Loops d a) = let one = sizes_length a in omega (arith, one)
  inner_length (Asserts d) = refl
  inner_length (Assumes d) = refl
  inner_length (Prints es) = refl
  inner_length (Calls x es) = refl

module _ (table : List ℕ) (start : ℕ) where
  sizes_next : (n x : ℕ) (xs : List ℕ) → AreSizesAt table start n (x ∷ xs) → AreSizesAt table start (n + 1) xs
  sizes_next n x xs h = record {
    index = h.index + 1;
    number = omega (arith, h.number);
    rest = h.rest;
    are = sym (drop-drop 1 h.index table) ∙ ap (drop 1) h.are;
  }

  sizes_left : (n : ℕ) (xs ys : List ℕ) → AreSizesAt table start n (xs ++ ys) → AreSizesAt table start n xs
  sizes_left n xs ys h = record { index = h.index; number = h.number; rest = ys ++ h.rest; are = simp regrouped at h.are }

  sizes_right : (n : ℕ) (xs ys : List ℕ) → AreSizesAt table start n (xs ++ ys) → AreSizesAt table start (n + length xs) ys
  sizes_right n xs ys h = record {
    index = h.index + length xs;
    number = omega (arith, h.number);
    rest = h.rest;
    are = sym (drop-drop (length xs) h.index table) ∙ ap (drop (length xs)) (simp regrouped at h.are) ∙ drop_at xs (ys ++ h.rest) (length xs) refl;
  }

  -- the statements inside a statement, and those behind it
  pub inside : (n m : ℕ) (s : Statement) (t : List ℕ) → AreSizesAt table start n (m ∷ (inner_sizes s ++ t)) → AreSizesAt table start (n + 1) (inner_sizes s)
  inside n m s t h = sizes_left (n + 1) (inner_sizes s) t (sizes_next n m (inner_sizes s ++ t) h)

  pub behind : (n m : ℕ) (s : Statement) (t : List ℕ) → AreSizesAt table start n (m ∷ (inner_sizes s ++ t)) → AreSizesAt table start (n + size s) t
  behind n m s t h =
      let one = inner_length s in
      let moved : n + 1 + length (inner_sizes s) ≡ n + size s = omega (arith, one) in
      subst (λ k. AreSizesAt table start k t) moved (sizes_right (n + 1) (inner_sizes s) t (sizes_next n m (inner_sizes s ++ t) h))

  pub second_part : (n : ℕ) (a b : Block) → AreSizesAt table start n (block_sizes a ++ block_sizes b)
      → AreSizesAt table start (n + block_size a) (block_sizes b)
  second_part n a b h = subst (λ k. AreSizesAt table start (n + k) (block_sizes b)) (sizes_length a) (sizes_right n (block_sizes a) (block_sizes b) h)

-- the sizes of a whole table
pub whole_table : (sizes : List ℕ) (start : ℕ) → AreSizesAt sizes start start sizes
whole_table sizes start = record { index = 0; number = add-zero start; rest = []; are = sym (append-nil sizes) }
