-- The errors of a program are those of its parts.
use Rattle.bp_code.proofs.Common.{◌≡◌, ◌⊎◌, ℕ, ◌<◌, ◌≤◌, ◌||◌, ◌&&◌, Bool, true, false, nat_lt, nat_eq, nat_le, cond, Option, None, Some, refl, inl, inr, arith, List, [], ◌∷◌, ◌++◌, sym, subst, map, Result, IfOk, zero, suc, ◌+◌, length, get_or, take, ap, ◌∙◌, rules, nat_tests, option_to_list, Bor, take_more, map-append, Procedure, Program, Name, Expression, Statement, Assigns, Calls, GoesTo, Stmt, block_of, statement_of, depth, statement_depth, CheckError, Among, Labelled, statements, IsError, IsUndeclared, IsUneven, HasTargetTwice, statements_inside, labels_of, TwiceGlobal, TwiceProcedure, TwiceLocal, TwiceLabel, UnknownVariable, UnknownProcedure, UnknownLabel, Arity, Lengths, TwiceTarget, Limit, Memory, MAX_GLOBALS, MAX_PROCEDURES, Among-front, Among-back, Among-split, Found, IsNotAfter, IsLeast, IsRefusal, Finds, is_not_after, least_of, IsStatementError, IsErrorOfNames, IsProcedureError, IsErrorOfProcedures, Only, IsMisuse, names_of, labelled_of, all_labelled}
use Rattle.std.proofs.lemmas.List.{append-nil}
use Rattle.bp_syntax.proofs.GrownLists.{regrouped}

-- The least error of two sets together is the lesser of their least errors.

first_is : (a b m n : ℕ) → (nat_lt a b || (nat_eq a b && nat_le m n)) ≡ true → (a < b) ⊎ ((a ≡ b) × (m ≤ n))
first_is a b m n h = grind (arith, nat_tests)

second_is : (a b m n : ℕ) → (nat_lt a b || (nat_eq a b && nat_le m n)) ≡ false → (b < a) ⊎ ((b ≡ a) × (n ≤ m))
second_is a b m n h = grind (arith, nat_tests)

then : (f h : Found) (g : CheckError) (at : ℕ) → IsNotAfter f.error f.at h.error h.at → IsNotAfter h.error h.at g at → IsNotAfter f.error f.at g at
then f h g at given1 given2 = grind (arith)

module _ (S T : CheckError → ℕ → Type 0) where
  chosen : (f h : Found) (b : Bool) → is_not_after f h ≡ b → IsLeast S f.error f.at → IsLeast T h.error h.at
      → Finds (λ g at. S g at ⊎ T g at) (cond b (Some f) (Some h))
  chosen f h true e s t = record {
    within = inl s.within;
    first = λ g at x. elim x [ inl y ↦ s.first g at y | inr y ↦ then f h g at (first_is _ _ _ _ e) (t.first g at y) ];
  }
  chosen f h false e s t = record {
    within = inr t.within;
    first = λ g at x. elim x [ inl y ↦ then h f g at (second_is _ _ _ _ e) (s.first g at y) | inr y ↦ t.first g at y ];
  }

  pub finds_both : (a b : Option Found) → Finds S a → Finds T b → Finds (λ g at. S g at ⊎ T g at) (least_of a b)
  finds_both None None s t = λ g at x. elim x [ inl y ↦ s g at y | inr y ↦ t g at y ]
  finds_both None (Some h) s t = grind (arith)
  finds_both (Some f) None s t = grind (arith)
  finds_both (Some f) (Some h) s t = chosen f h (is_not_after f h) refl s t

  -- two sets of the same errors
  pub finds_same : (a : Option Found) → ((g : CheckError) (at : ℕ) → S g at → T g at) → ((g : CheckError) (at : ℕ) → T g at → S g at) → Finds S a → Finds T a
  finds_same a given1 given2 given3 = grind (arith)

-- The errors of a list of things are those of each of them.

module _ {X : Type 0} (Is : X → CheckError → ℕ → Type 0) where
  abbrev pub OfSome : List X → CheckError → ℕ → Type 0
  OfSome xs g at = (x : X) × Among xs x × Is x g at

  pub one_of_more : (xs : List X) (x : X) (a b : Option Found) → Finds (OfSome xs) a → Finds (Is x) b → Finds (OfSome (xs ++ x ∷ [])) (least_of a b)
  one_of_more xs x a b h k =
      finds_same (λ g at. OfSome xs g at ⊎ Is x g at) (OfSome (xs ++ x ∷ [])) (least_of a b) to from (finds_both (OfSome xs) (Is x) a b h k)
    where
      to : (g : CheckError) (at : ℕ) → OfSome xs g at ⊎ Is x g at → OfSome (xs ++ x ∷ []) g at
      to g at (inl (y, m, u)) = (y, Among-front xs (x ∷ []) y m, u)
      to g at (inr u) = (x, Among-back xs (x ∷ []) x (inl refl), u)

      last : (y : X) → Among (x ∷ []) y → x ≡ y
      last y given1 = grind (arith)

      from : (g : CheckError) (at : ℕ) → OfSome (xs ++ x ∷ []) g at → OfSome xs g at ⊎ Is x g at
      from g at (y, m, u) =
          elim (Among-split xs (x ∷ []) y m) [ inl f ↦ inl (y, f, u) | inr l ↦ inr (subst (λ z. Is z g at) (sym (last y l)) u) ]

module _ (p : Program) where
  IsPart : CheckError → ℕ → Type 0
  IsPart g at =
      IsErrorOfNames TwiceGlobal MAX_GLOBALS p.globals g at
      ⊎ (IsErrorOfNames TwiceProcedure MAX_PROCEDURES (map (λ q. q.name) p.procedures) g at ⊎ IsErrorOfProcedures p.globals p.procedures p.procedures g at)

  moved : (g h : CheckError) (at : ℕ) → g ≡ h → IsError p h at → IsError p g at
  moved g h at e x = subst (λ (f : CheckError). IsError p f at) (sym e) x

  procedure_to : (q : Procedure) → Among p.procedures q → (g : CheckError) (at : ℕ) → IsProcedureError p.globals p.procedures q g at → IsError p g at
  procedure_to q given1 g at given2 = grind (arith)

  to : (g : CheckError) (at : ℕ) → IsPart g at → IsError p g at
  unfolding IsPart
  to g at (inl (inl x)) = moved g TwiceGlobal at x.0 x.1
  to g at (inl (inr x)) = moved g Limit at x.0 (inr (inl x.1))
  to g at (inr (inl (inl x))) = moved g TwiceProcedure at x.0 x.1
  to g at (inr (inl (inr x))) = moved g Limit at x.0 (inl x.1)
  to g at (inr (inr x)) = procedure_to x.0 x.1 g at x.2

  from : (g : CheckError) (at : ℕ) → IsError p g at → IsPart g at
  unfolding IsPart
  from TwiceGlobal at x = inl (inl (refl, x))
  from TwiceProcedure at x = inr (inl (inl (refl, x)))
  from TwiceLocal at x = inr (inr (x.0, x.1, inl (inl (refl, x.2))))
  from TwiceLabel at x = inr (inr (x.0, x.1, inr (inr (refl, x.2))))
  from UnknownVariable at x = inr (inr (x.0, x.2, inr (inl (x.1, x.3, x.4))))
  from UnknownProcedure at x = inr (inr (x.0, x.2, inr (inl (x.1, x.3, x.4))))
  from UnknownLabel at x = inr (inr (x.0, x.2, inr (inl (x.1, x.3, x.4))))
  from Arity at x = inr (inr (x.0, x.2, inr (inl (x.1, x.3, x.4))))
  from Lengths at x = inr (inr (x.0, x.2, inr (inl (x.1, x.3, x.4))))
  from TwiceTarget at x = inr (inr (x.0, x.2, inr (inl (x.1, x.3, x.4))))
  from Limit at (inl x) = inr (inl (inr (refl, x)))
  from Limit at (inr (inl x)) = inl (inr (refl, x))
  from Limit at (inr (inr x)) = inr (inr (x.0, x.1, inl (inr (refl, x.2))))
  from Memory at x = absurd x

  pub all_parts : (a b c : Option Found) → Finds (IsErrorOfNames TwiceGlobal MAX_GLOBALS p.globals) a
      → Finds (IsErrorOfNames TwiceProcedure MAX_PROCEDURES (map (λ q. q.name) p.procedures)) b
      → Finds (IsErrorOfProcedures p.globals p.procedures p.procedures) c
      → Finds (IsError p) (least_of a (least_of b c))
  unfolding IsPart
  all_parts a b c h k m =
      finds_same IsPart (IsError p) (least_of a (least_of b c)) to from
      (finds_both (IsErrorOfNames TwiceGlobal MAX_GLOBALS p.globals)
      (λ g at. IsErrorOfNames TwiceProcedure MAX_PROCEDURES (map (λ q. q.name) p.procedures) g at
      ⊎ IsErrorOfProcedures p.globals p.procedures p.procedures g at) a (least_of b c) h
      (finds_both (IsErrorOfNames TwiceProcedure MAX_PROCEDURES (map (λ q. q.name) p.procedures))
      (IsErrorOfProcedures p.globals p.procedures p.procedures) b c k m))

-- The errors of one statement.

-- An assignment's errors are those of its two sides.

pub both_sides : (ts : List Name) (vs : List Expression) (a b : Option Found) → Finds (Only Lengths (IsUneven (Assigns ts vs))) a
    → Finds (Only TwiceTarget (HasTargetTwice (Assigns ts vs))) b → Finds (IsMisuse [] [] (Assigns ts vs)) (least_of a b)
both_sides ts vs a b h k =
    finds_same
    (λ g at. Only Lengths (IsUneven (Assigns ts vs)) g at ⊎ Only TwiceTarget (HasTargetTwice (Assigns ts vs)) g at)
    (IsMisuse [] [] (Assigns ts vs)) (least_of a b) to from
    (finds_both (Only Lengths (IsUneven (Assigns ts vs))) (Only TwiceTarget (HasTargetTwice (Assigns ts vs))) a b h k)
  where
    to : (g : CheckError) (at : ℕ)
        → Only Lengths (IsUneven (Assigns ts vs)) g at ⊎ Only TwiceTarget (HasTargetTwice (Assigns ts vs)) g at
        → IsMisuse [] [] (Assigns ts vs) g at
    to g at (inl x) = subst (λ (f : CheckError). IsMisuse [] [] (Assigns ts vs) f at) (sym x.0) x.1
    to g at (inr x) = subst (λ (f : CheckError). IsMisuse [] [] (Assigns ts vs) f at) (sym x.0) x.1

    from : (g : CheckError) (at : ℕ) → IsMisuse [] [] (Assigns ts vs) g at
        → Only Lengths (IsUneven (Assigns ts vs)) g at ⊎ Only TwiceTarget (HasTargetTwice (Assigns ts vs)) g at
    from g at given1 = grind (arith)

module _ (qs : List Procedure) (ls : List Name) where
  pub sides_anywhere : (ts : List Name) (vs : List Expression) (o : Option Found)
      → Finds (IsMisuse [] [] (Assigns ts vs)) o → Finds (IsMisuse qs ls (Assigns ts vs)) o
  sides_anywhere ts vs o = finds_same (IsMisuse [] [] (Assigns ts vs)) (IsMisuse qs ls (Assigns ts vs)) o to from
    where
      to : (g : CheckError) (at : ℕ) → IsMisuse [] [] (Assigns ts vs) g at → IsMisuse qs ls (Assigns ts vs) g at
      to Lengths at x = x
      to _ at x = x

      from : (g : CheckError) (at : ℕ) → IsMisuse qs ls (Assigns ts vs) g at → IsMisuse [] [] (Assigns ts vs) g at
      from g at given1 = grind (arith)

  pub call_anywhere : (n : Name) (es : List Expression) (o : Option Found) → Finds (IsMisuse qs [] (Calls n es)) o → Finds (IsMisuse qs ls (Calls n es)) o
  call_anywhere n es o = finds_same (IsMisuse qs [] (Calls n es)) (IsMisuse qs ls (Calls n es)) o to from
    where
      to : (g : CheckError) (at : ℕ) → IsMisuse qs [] (Calls n es) g at → IsMisuse qs ls (Calls n es) g at
      to Lengths at x = x
      to _ at x = x

      from : (g : CheckError) (at : ℕ) → IsMisuse qs ls (Calls n es) g at → IsMisuse qs [] (Calls n es) g at
      from g at given1 = grind (arith)

  pub jump_anywhere : (n : Name) (o : Option Found) → Finds (IsMisuse [] ls (GoesTo n)) o → Finds (IsMisuse qs ls (GoesTo n)) o
  jump_anywhere n o = finds_same (IsMisuse [] ls (GoesTo n)) (IsMisuse qs ls (GoesTo n)) o to from
    where
      to : (g : CheckError) (at : ℕ) → IsMisuse [] ls (GoesTo n) g at → IsMisuse qs ls (GoesTo n) g at
      to UnknownLabel at x = x
      to _ at x = x

      from : (g : CheckError) (at : ℕ) → IsMisuse qs ls (GoesTo n) g at → IsMisuse [] ls (GoesTo n) g at
      from g at given1 = grind (arith)

  pub with_stray : (declared : List Name) (s : Statement) (a b : Option Found) → Finds (IsMisuse qs ls s) a
      → Finds (Only UnknownVariable (IsUndeclared declared s)) b → Finds (IsStatementError declared qs ls s) (least_of a b)
  with_stray declared s a b h k =
      finds_same (λ g at. IsMisuse qs ls s g at ⊎ Only UnknownVariable (IsUndeclared declared s) g at)
      (IsStatementError declared qs ls s) (least_of a b) to from
      (finds_both (IsMisuse qs ls s) (Only UnknownVariable (IsUndeclared declared s)) a b h k)
    where
      plain : (g : CheckError) (at : ℕ) → IsMisuse qs ls s g at → IsStatementError declared qs ls s g at
      plain UnknownVariable at x = absurd x
      plain _ at x = x

      to : (g : CheckError) (at : ℕ) → IsMisuse qs ls s g at ⊎ Only UnknownVariable (IsUndeclared declared s) g at → IsStatementError declared qs ls s g at
      to g at given1 = grind (arith)

      from : (g : CheckError) (at : ℕ) → IsStatementError declared qs ls s g at → IsMisuse qs ls s g at ⊎ Only UnknownVariable (IsUndeclared declared s) g at
      from g at given1 = grind (arith)

-- a consequence of the error in an `Ok`
pub ok_then : {E : Type 0} {P Q : Option Found → Type 0} (r : Result (Option Found) E) → ((o : Option Found) → P o → Q o) → IfOk r P → IfOk r Q
ok_then given1 given2 = grind (arith)

-- Walks over the statements of a block.

statements_more : (xs : List Stmt) (s : Stmt)
    → statements (block_of (xs ++ s ∷ [])) ≡ statements (block_of xs) ++ (labelled_of s ∷ statements_inside (statement_of s.form))
statements_more [] s = ap (λ ys. labelled_of s ∷ ys) (append-nil (statements_inside (statement_of s.form)))
statements_more (x ∷ xs) s =
    ap (λ ys. labelled_of x ∷ (statements_inside (statement_of x.form) ++ ys)) (statements_more xs s)
    ∙ simp regrouped

-- one more statement with those inside it
pub collect_more : (first : List Labelled) (old pushed grown : List (Bor Stmt)) (r : Bor Stmt) (stmts : List Stmt) (i : ℕ)
    → i < length stmts → r.now ≡ get_or stmts i r.now
    → all_labelled old ≡ first ++ statements (block_of (take i stmts)) → pushed ≡ old ++ r ∷ []
    → all_labelled grown ≡ all_labelled pushed ++ statements_inside (statement_of r.now.form)
    → all_labelled grown ≡ first ++ statements (block_of (take (i + 1) stmts))
collect_more first old pushed grown r stmts i within is so_far push inside =
    let front = take_more stmts i r.now within ∙ ap (λ x. take i stmts ++ x ∷ []) (sym is) in
    let more = ap (λ xs. statements (block_of xs)) front ∙ statements_more (take i stmts) r.now in
    let pushed_is = ap all_labelled push ∙ map-append (λ (s : Bor Stmt). labelled_of s.now) old (r ∷ []) in
    inside
    ∙ ap (λ xs. xs ++ statements_inside (statement_of r.now.form)) (pushed_is ∙ ap (λ xs. xs ++ labelled_of r.now ∷ []) so_far)
    ∙ rw more (simp regrouped)

pub inside_depth : (stmts : List Stmt) (i : ℕ) (s : Stmt) → i < length stmts → s ≡ get_or stmts i s
    → statement_depth (statement_of s.form) ≤ depth (block_of stmts)
inside_depth [] i s within is = absurd (omega arith)
inside_depth (x ∷ xs) zero s within is = omega (arith, ap (λ (y : Stmt). statement_depth (statement_of y.form)) is)
inside_depth (x ∷ xs) (suc i) s within is = omega (arith, inside_depth xs i s (omega arith) is)

labels_of-append : (xs ys : List Labelled) → labels_of (xs ++ ys) ≡ labels_of xs ++ labels_of ys
labels_of-append [] ys = refl
labels_of-append (x ∷ xs) ys =
    ap (λ zs. option_to_list x.label ++ zs) (labels_of-append xs ys) ∙ simp regrouped

-- one more statement of a list, labelled
pub labelled_more : (stmts : List (Bor Stmt)) (i : ℕ) (r : Bor Stmt) → i < length stmts → r ≡ get_or stmts i r
    → all_labelled (take (i + 1) stmts) ≡ all_labelled (take i stmts) ++ labelled_of r.now ∷ []
labelled_more stmts i r within is =
    ap all_labelled (take_more stmts i r within ∙ ap (λ x. take i stmts ++ x ∷ []) (sym is))
    ∙ map-append (λ (s : Bor Stmt). labelled_of s.now) (take i stmts) (r ∷ [])

-- one more statement whose label may have been appended
pub labels_more : (first : List Name) (old new : List (Bor Name)) (stmts : List (Bor Stmt)) (i : ℕ) (r : Bor Stmt) → i < length stmts → r ≡ get_or stmts i r
    → names_of old ≡ first ++ labels_of (all_labelled (take i stmts)) → names_of new ≡ names_of old ++ option_to_list r.now.label
    → names_of new ≡ first ++ labels_of (all_labelled (take (i + 1) stmts))
labels_more first old new stmts i r within is so_far grown =
    let more = ap labels_of (labelled_more stmts i r within is) ∙ labels_of-append (all_labelled (take i stmts)) (labelled_of r.now ∷ [])
    ∙ ap (λ xs. labels_of (all_labelled (take i stmts)) ++ xs) (append-nil (option_to_list r.now.label)) in
    grown
    ∙ ap (λ xs. xs ++ option_to_list r.now.label) so_far
    ∙ rw more (simp regrouped)

pub pushed_label : (old new : List (Bor Name)) (l : Bor Name) (label : Option Name) → Some l.now ≡ label
    → new ≡ old ++ l ∷ [] → names_of new ≡ names_of old ++ option_to_list label
pushed_label old new l label given1 given2 = search (rules, map-append)

pub no_label : (old new : List (Bor Name)) (label : Option Name) → None ≡ label → new ≡ old → names_of new ≡ names_of old ++ option_to_list label
no_label old new label is same = ap names_of same ∙ sym (append-nil (names_of old)) ∙ ap (λ o. names_of old ++ option_to_list o) is

-- The least error that was found is the refusal.

module _ (p : Program) where
  go : (f : CheckError) (at : ℕ) → IsError p f at → IsLeast (IsError p) f at → IsRefusal p f at
  go f at given1 given2 = grind (arith)

  pub refusal_of : (f : Found) → IsLeast (IsError p) f.error f.at → IsRefusal p f.error f.at
  refusal_of f least = go f.error f.at least.within least
