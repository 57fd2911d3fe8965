-- One source statement more.
use Rattle.bp_source.proofs.Common.{◌≡◌, ◌∙◌, ◌<◌, ◌≤◌, ℕ, List, Option, None, Some, length, nat_lt, is_some, slice_get, get_or, ap, sym, arith, [], ◌∷◌, ◌++◌, zero, suc, unwrap_or, ◌+◌, take, refl, subst, map, drop, ap₂, append-nil, option_map, IfSome, rules, slice_get_past, slice_get-get_or, slice_get_within, get_or_from_slice_get, false≢true, take_more, length-append, Procedure, Name, Block, Done, Then, Statement, Skips, GoesTo, Returns, Assigns, Branches, Loops, Asserts, Assumes, Prints, Calls, block_size, size, procedures_size, Place, start_of_block, places, places_in, places_of, chain, starts, SourceStatement, AreSourceStatementsAt, IsSourceStatement, AreStatements, position_of, instruction_object, instruction_objects}
use Rattle.std.proofs.Common.{Bor}
use Rattle.bp_flat.specs.Flat.{Instruction}

-- The element of a list at a place.

-- the result is the n-th
pub got_item : {X : Type 0} (o : Option (Bor X)) (xs : List X) (n : ℕ) → is_some o ≡ nat_lt n (length xs) → IfSome o (λ x. x.now ≡ get_or xs n x.now)
    → option_map (λ x. x.now) o ≡ slice_get xs n
got_item given1 given2 = search (rules, slice_get_past, slice_get-get_or)

-- the place at which an instruction's statement begins
pub record PlaceAt (xs : List Place) (i : ℕ) (start : Option ℕ) : Type 0 where
  pub place : Place
  pub at : slice_get xs i ≡ Some place
  pub begins : start_of_block place.left ≡ start

own_place : (xs : List Place) (i : ℕ) (d start : Option ℕ) → i < length (starts xs) → get_or (starts xs) i d ≡ start → PlaceAt xs i start
own_place [] i d start within is = absurd (omega (arith, within))
own_place (x ∷ xs) zero d start within is = record { place = x; at = refl; begins = is }
own_place (x ∷ xs) (suc i) d start within is =
    let rest = own_place xs i d start (omega (arith, within)) is in
    record { place = rest.place; at = rest.at; begins = rest.begins }

pub place_at : (xs : List Place) (items : List (Option ℕ)) (i : ℕ) (d start : Option ℕ) → items ≡ starts xs
    → i < length items → get_or items i d ≡ start → PlaceAt xs i start
place_at xs items i d start given1 given2 given3 = search (rules, own_place)

module _ (text : List ℕ) (ps : List Procedure) where
  pub statements_then : (xs : List Place) (statements : List SourceStatement) (x : Place) (statement : SourceStatement)
      → AreSourceStatementsAt text ps xs statements → IsSourceStatement text ps x statement
      → AreSourceStatementsAt text ps (xs ++ x ∷ []) (statements ++ statement ∷ [])
  statements_then [] [] x statement are is = (is, tt)
  statements_then (y ∷ xs) (s ∷ statements) x statement are is = (are.0, statements_then xs statements x statement are.1 is)
  statements_then (y ∷ xs) [] x statement are is = elim are [ ]
  statements_then [] (s ∷ statements) x statement are is = elim are [ ]

  -- the source statement of the n-th
  pub record SourceStatementAt (x : Place) (statements : List SourceStatement) (n : ℕ) : Type 0 where
    pub statement : SourceStatement
    pub at : slice_get statements n ≡ Some statement
    pub is : IsSourceStatement text ps x statement

  pub source_statement_at : (xs : List Place) (statements : List SourceStatement) (n : ℕ) (x : Place)
      → AreSourceStatementsAt text ps xs statements → slice_get xs n ≡ Some x → SourceStatementAt x statements n
  source_statement_at [] [] n x are has = absurd (false≢true (ap is_some has))
  source_statement_at [] (s ∷ statements) n x are has = elim are [ ]
  source_statement_at (y ∷ xs) [] n x are has = elim are [ ]
  source_statement_at (y ∷ xs) (s ∷ statements) zero x are has = record {
    statement = s;
    at = refl;
    is = subst (λ o. IsSourceStatement text ps (unwrap_or o y) s) has are.0;
  }
  source_statement_at (y ∷ xs) (s ∷ statements) (suc n) x are has =
      let found = source_statement_at xs statements n x are.1 has in
      record { statement = found.statement; at = found.at; is = found.is }

  pub more_statements : (xs : List Place) (i : ℕ) (x : Place) (statements new : List SourceStatement) (statement : SourceStatement)
      → slice_get xs i ≡ Some x → AreSourceStatementsAt text ps (take i xs) statements
      → new ≡ statements ++ statement ∷ [] → IsSourceStatement text ps x statement → AreSourceStatementsAt text ps (take (i + 1) xs) new
  more_statements xs i x statements new statement at are e is =
      rw e (rw (take_more xs i x (slice_get_within xs i x at))
      (rw (get_or_from_slice_get xs i x x at) (statements_then (take i xs) statements x statement are is)))

-- The texts of the source statements of a program.

abbrev pub shown_texts : List SourceStatement → List (List ℕ)
shown_texts statements = map (λ s. s.excerpt.text.items) statements

-- the texts of the source statements are those of the statements
pub texts_are : (text : List ℕ) (ps : List Procedure) (xs : List Place) (statements : List SourceStatement)
    → AreSourceStatementsAt text ps xs statements → AreStatements text xs (shown_texts statements)
texts_are text ps [] [] are = tt
texts_are text ps [] (x ∷ statements) are = elim are [ ]
texts_are text ps (s ∷ xs) [] are = elim are [ ]
texts_are text ps (s ∷ xs) (x ∷ statements) are = ((x.excerpt.reads_choice, are.0.excerpt), texts_are text ps xs statements are.1)

-- The positions of source statements are those of their places.

pub positions_are : (text : List ℕ) (ps : List Procedure) (xs : List Place) (statements : List SourceStatement)
    → AreSourceStatementsAt text ps xs statements → map (λ s. s.position) statements ≡ map (position_of text) xs
positions_are text ps [] [] are = refl
positions_are text ps [] (s ∷ ss) are = absurd are
positions_are text ps (x ∷ xs) [] are = absurd are
positions_are text ps (x ∷ xs) (s ∷ ss) are =
    ap (λ p. p ∷ map (λ y. y.position) ss) are.0.position
    ∙ ap (λ ys. position_of text x ∷ ys) (positions_are text ps xs ss are.1)

-- The objects of a code's instructions, one more at a time; how many source statements a program has.

none_left : (is : List Instruction) (n : ℕ) → slice_get is n ≡ None → drop n is ≡ []
none_left [] zero none = refl
none_left [] (suc n) none = refl
none_left (i ∷ is) zero none = absurd (false≢true (sym (ap is_some none)))
none_left (i ∷ is) (suc n) none = none_left is n none

no_statement_left : (statements : List SourceStatement) (n : ℕ) → length statements ≤ n → drop n statements ≡ []
no_statement_left [] zero past = refl
no_statement_left [] (suc n) past = refl
no_statement_left (s ∷ statements) zero past = absurd (omega arith)
no_statement_left (s ∷ statements) (suc n) past = no_statement_left statements n (omega arith)

no_statements : (ps : List Procedure) (n : ℕ) (is : List Instruction) → instruction_objects ps n is [] ≡ []
no_statements ps n [] = refl
no_statements ps n (i ∷ is) = refl

-- the added text is all if no instruction is left
pub without_instruction : (ps : List Procedure) (n : ℕ) (is : List Instruction) (statements : List SourceStatement) (added whole : List ℕ)
    → slice_get is n ≡ None → added ++ instruction_objects ps n (drop n is) (drop n statements) ≡ whole → added ≡ whole
without_instruction ps n is statements added whole given1 given2 = search (rules, is, append-nil, none_left)

-- the added text is all if no source statement is left
pub without_statement : (ps : List Procedure) (n : ℕ) (is : List Instruction) (statements : List SourceStatement) (added whole : List ℕ)
    → length statements ≤ n → added ++ instruction_objects ps n (drop n is) (drop n statements) ≡ whole → added ≡ whole
without_statement ps n is statements added whole given1 given2 = search (rules, is, append-nil, no_statements, no_statement_left)

-- the object of the instruction with number n comes next
pub next_object : (ps : List Procedure) (k n : ℕ) (is : List Instruction) (statements : List SourceStatement) (i : Instruction) (statement : SourceStatement)
    → slice_get is n ≡ Some i → n < length statements → statement ≡ get_or statements n statement
    → instruction_objects ps k (drop n is) (drop n statements)
    ≡ instruction_object ps k i statement ++ instruction_objects ps (suc k) (drop (suc n) is) (drop (suc n) statements)
next_object ps k n [] statements i statement at within own = absurd (false≢true (ap is_some at))
next_object ps k n (j ∷ is) [] i statement at within own = absurd (omega arith)
next_object ps k zero (j ∷ is) (s ∷ statements) i statement at within own =
    ap₂ (λ x y. instruction_object ps k x y ++ instruction_objects ps (suc k) is statements) (ap (λ o. unwrap_or o j) at) (sym own)
next_object ps k (suc n) (j ∷ is) (s ∷ statements) i statement at within own =
    next_object ps k n is statements i statement at (omega arith) own

mutual
  block_places : (p : Procedure) (b r : Block) → length (places p b r) ≡ block_size b
  block_places p Done r = refl
  block_places p (Then label at s t) r =
      length-append (places_in p s label at (chain t r)) (places p t r)
      ∙ ap₂ (λ m n. m + n) (statement_places p s label at (chain t r)) (block_places p t r)

  statement_places : (p : Procedure) (s : Statement) (label : Option Name) (at : ℕ) (r : Block) → length (places_in p s label at r) ≡ size s
  statement_places p (Branches d a b) label at r =
      let first = block_places p a r in
      let second = block_places p b r in
      let both = length-append (places p a r) (places p b r) in
      omega (arith, first, second, both)
  statement_places p (Loops d a) label at r =
      let inside = block_places p a (Then label at (Loops d a) r) in
      omega (arith, inside)
  statement_places p Skips label at r = refl
  statement_places p (GoesTo x) label at r = refl
  statement_places p Returns label at r = refl
  statement_places p (Assigns xs es) label at r = refl
  statement_places p (Asserts d) label at r = refl
  statement_places p (Assumes d) label at r = refl
  statement_places p (Prints es) label at r = refl
  statement_places p (Calls x es) label at r = refl

-- a program has as many places as statements and ends of procedures
pub place_count : (ps : List Procedure) → length (places_of ps) ≡ procedures_size ps
place_count [] = refl
place_count (p ∷ ps) =
    let own = block_places p p.body Done in
    let rest = place_count ps in
    let all = length-append (places p p.body Done) (record { procedure = p; left = Done } ∷ places_of ps) in
    omega (arith, own, rest, all)

pub statement_count : (text : List ℕ) (ps : List Procedure) (xs : List Place) (statements : List SourceStatement)
    → AreSourceStatementsAt text ps xs statements → length statements ≡ length xs
statement_count text ps [] [] are = refl
statement_count text ps (x ∷ xs) (s ∷ statements) are = ap suc (statement_count text ps xs statements are.1)
statement_count text ps (x ∷ xs) [] are = elim are [ ]
statement_count text ps [] (s ∷ statements) are = elim are [ ]
