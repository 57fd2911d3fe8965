-- Properties of each well-formed program.
use Rattle.bp_syntax.proofs.Common.{◌⊎◌, List, [], ◌∷◌, ◌++◌, inl, inr, ◌≡◌, ℕ, ◌<◌, length, Option, refl, subst, arith, ◌≢◌, ◌≤◌, Bool, true, false, get_or, map, None, Some, rules, ∥∥₁_elim, le_prop, cases_lt, Name, Block, Statement, Assigns, Procedure, Program, Expression, Skips, GoesTo, Returns, Branches, Loops, Asserts, Assumes, Prints, Calls, variables, procedure_named, Token, IsNames, IsForm, skip, jump, returning, assignment, branch, loop, assertion, assumption, printing, call, IsStmt, labelled, unlabelled, IsStmts, one_stmt, more_stmts, proc, IsProcs, no_proc, more_procs, Derives, program, IsTextOf, HasText, MAX_PROCEDURES, MAX_GLOBALS, MAX_OWN_NAMES}
use Rattle.std.proofs.lemmas.List.{length-map}
use Rattle.std.proofs.lemmas.Option.{slice_get-get_or}
use Rattle.bp_syntax.specs.Errors.{Among, Labelled, statements, statements_inside, labels, IsTwice, IsPast, CallsNone, CallsWrongly, IsUneven, IsWellFormed, HasFewNames, AreDistinct, HasDistinctNames, IsSound, HasSoundStatements}
use Rattle.bp_syntax.specs.declared.errors.CheckError.TheVariants as error

-- The values among lists.

pub Among-front : {X : Type 0} (xs ys : List X) (x : X) → Among xs x → Among (xs ++ ys) x
Among-front [] ys x a = absurd a
Among-front (y ∷ xs) ys x (inl e) = inl e
Among-front (y ∷ xs) ys x (inr a) = inr (Among-front xs ys x a)

pub Among-back : {X : Type 0} (xs ys : List X) (x : X) → Among ys x → Among (xs ++ ys) x
Among-back [] ys x a = a
Among-back (y ∷ xs) ys x a = inr (Among-back xs ys x a)

pub Among-split : {X : Type 0} (xs ys : List X) (x : X) → Among (xs ++ ys) x → Among xs x ⊎ Among ys x
Among-split [] ys x a = inr a
Among-split (y ∷ xs) ys x (inl e) = inl (inl e)
Among-split (y ∷ xs) ys x (inr a) = elim (Among-split xs ys x a) [ inl b ↦ inl (inr b) | inr b ↦ inr b ]

-- Each assignment in the program of a text has targets.

-- the statement, if it is an assignment, has targets
abbrev pub HasTargets : Statement → Type 0
HasTargets (Assigns targets values) = 0 < length targets
HasTargets _ = Unit {0}

some_names : {ts : List Token} {ns : List Name} {r : List Token} → IsNames ts ns r → 0 < length ns
some_names given1 = grind (arith)

-- each of the statements has targets
abbrev AllHaveTargets : List Labelled → Type 0
AllHaveTargets ss = (s : Labelled) → Among ss s → HasTargets s.statement

in_both : (ss us : List Labelled) → AllHaveTargets ss → AllHaveTargets us → AllHaveTargets (ss ++ us)
in_both ss us a b s m = elim (Among-split ss us s m) [ inl f ↦ a s f | inr l ↦ b s l ]

with_inside : (l : Option Name) (w : Statement) → HasTargets w × AllHaveTargets (statements_inside w) → (ss : List Labelled) → AllHaveTargets ss
    → AllHaveTargets (record { label = l; statement = w } ∷ (statements_inside w ++ ss))
with_inside l w given1 ss given2 = search (rules, in_both)

mutual
  in_form : {ts : List Token} {w : Statement} {r : List Token} → IsForm ts w r → HasTargets w × AllHaveTargets (statements_inside w)
  in_form (skip a b) = (tt, λ s m. absurd m)
  in_form (jump a b c) = (tt, λ s m. absurd m)
  in_form (returning a b) = (tt, λ s m. absurd m)
  in_form (assignment targets a values b) = (some_names targets, λ s m. absurd m)
  in_form (branch {first = x} {second = y} a b c d e first f second g) =
      (tt, in_both (statements x) (statements y) (in_stmts first) (in_stmts second))
  in_form (loop a b c d e body f) = (tt, in_stmts body)
  in_form (assertion a b c d e) = (tt, λ s m. absurd m)
  in_form (assumption a b c d e) = (tt, λ s m. absurd m)
  in_form (printing a b c d e) = (tt, λ s m. absurd m)
  in_form (call a b c d e) = (tt, λ s m. absurd m)

  in_stmt : {ts : List Token} {l : Option Name} {at : ℕ} {w : Statement} {r : List Token} → IsStmt ts l at w r
      → HasTargets w × AllHaveTargets (statements_inside w)
  in_stmt (labelled a b form) = in_form form
  in_stmt (unlabelled form) = in_form form

  in_stmts : {ts : List Token} {b : Block} {r : List Token} → IsStmts ts b r → AllHaveTargets (statements b)
  in_stmts (one_stmt {label = l} {statement = w} stmt) = with_inside l w (in_stmt stmt) [] (λ s m. absurd m)
  in_stmts (more_stmts {label = l} {statement = w} {more = b} stmt more) = with_inside l w (in_stmt stmt) (statements b) (in_stmts more)

in_procs : {ts : List Token} {ps : List Procedure} {r : List Token} → IsProcs ts ps r → (q : Procedure) → Among ps q → AllHaveTargets (statements q.body)
in_procs no_proc q m = absurd m
in_procs (more_procs (proc a b c d e f body g) more) q (inl is) = subst (λ (z : Procedure). AllHaveTargets (statements z.body)) is (in_stmts body)
in_procs (more_procs p more) q (inr m) = in_procs more q m

in_program : {ts : List Token} {p : Program} → Derives ts p → (q : Procedure) → Among p.procedures q → AllHaveTargets (statements q.body)
in_program (program globals procedures) = in_procs procedures

one_proof : (w : Statement) (x y : HasTargets w) → x ≡ y
one_proof (Assigns targets values) x y = le_prop x y
one_proof _ x y = refl

-- each assignment of a tree has targets
pub have_targets : (p : Program) → HasText p → (q : Procedure) → Among p.procedures q → (s : Labelled) → Among (statements q.body) s → HasTargets s.statement
have_targets p of_some q mq s ms = ∥∥₁_elim of_some (one_proof s.statement) targets
  where
    targets : (text : List ℕ) × IsTextOf text p → HasTargets s.statement
    targets (text, is) = in_program is.derives q mq s ms

is_true : (b : Bool) → (b ≡ false → ⊥) → b ≡ true
is_true b given1 = grind (arith)

is_false : (b : Bool) → (b ≡ true → ⊥) → b ≡ false
is_false b given1 = grind (arith)

same_or_not : (m n : ℕ) → (m ≡ n) ⊎ (m ≢ n)
same_or_not m n = grind (arith)

-- a list without a name past the limit
few : (ns : List Name) (limit : ℕ) → ((at : ℕ) → IsPast limit ns at → ⊥) → length ns ≤ limit
few ns limit none = elim (cases_lt limit (length ns)) [ inl more ↦ absurd (past more) | inr few_enough ↦ few_enough ]
  where
    past : limit < length ns → ⊥
    past more =
        let n : Name = get_or ns limit (record { text = []; at = 0 }) in
        none n.at (n, record { stands = slice_get-get_or ns limit (record { text = []; at = 0 }) more; place = refl })

distinct : (ns : List Name) → ((at : ℕ) → IsTwice ns at → ⊥) → AreDistinct ns
distinct ns none k n stands = is_false _ (λ e. none n.at (k, n, record { stands = stands; place = refl }, e))

module _ (p : Program) (well_formed : IsWellFormed p) where
  pub few_names : HasFewNames p
  few_names = record {
    procedures =
        omega (
          arith,
          length-map p.procedures (λ (q : Procedure). q.name),
          few (map (λ q. q.name) p.procedures) MAX_PROCEDURES (λ at x. well_formed error.Limit at (inl x)),
        );
    globals = few p.globals MAX_GLOBALS (λ at x. well_formed error.Limit at (inr (inl x)));
    own = λ q m. few (variables q) MAX_OWN_NAMES (λ at x. well_formed error.Limit at (inr (inr (q, m, x))));
  }

  pub distinct_names : HasDistinctNames p
  distinct_names = record {
    procedures = distinct (map (λ q. q.name) p.procedures) (well_formed error.TwiceProcedure);
    globals = distinct p.globals (well_formed error.TwiceGlobal);
    own = λ q m. distinct (variables q) (λ at x. well_formed error.TwiceLocal at (q, m, x));
    labels_in = λ q m. distinct (labels q.body) (λ at x. well_formed error.TwiceLabel at (q, m, x));
  }

  found_callee : (q : Procedure) (x : Name) (es : List Expression) (o : Option Procedure) → procedure_named p.procedures x.text ≡ o
      → ((at : ℕ) → CallsNone p.procedures (Calls x es) at → ⊥) → ((at : ℕ) → CallsWrongly p.procedures (Calls x es) at → ⊥) → IsSound p q (Calls x es)
  found_callee q x es None is none wrong = absurd (none x.at (is, refl))
  found_callee q x es (Some r) is none wrong =
      elim (same_or_not (length es) (length r.formals)) [ inl same ↦ (r, is, same) | inr other ↦ absurd (wrong x.at (r, is, other, refl)) ]

  even : (xs : List Name) (es : List Expression) → ((at : ℕ) → IsUneven (Assigns xs es) at → ⊥) → 0 < length xs → length xs ≡ length es
  even xs es none some =
      let n : Name = get_or xs 0 (record { text = []; at = 0 }) in
      let first = slice_get-get_or xs 0 (record { text = []; at = 0 }) some in
      elim (same_or_not (length xs) (length es)) [ inl same ↦ same | inr other ↦ absurd (none n.at (other, n, record { stands = first; place = refl })) ]

  module _ (of_text : HasText p) (q : Procedure) (mq : Among p.procedures q) (label : Option Name) where
    sound_in : (w : Statement) → Among (statements q.body) (record { label = label; statement = w }) → IsSound p q w
    sound_in (GoesTo to) ms = is_true _ (λ e. well_formed error.UnknownLabel to.at (q, record { label = label; statement = GoesTo to }, mq, ms, (e, refl)))
    sound_in (Calls x es) ms =
        let s : Labelled = record { label = label; statement = Calls x es } in
        found_callee q x es (procedure_named p.procedures x.text) refl
        (λ at e. well_formed error.UnknownProcedure at (q, s, mq, ms, e))
        (λ at e. well_formed error.Arity at (q, s, mq, ms, e))
    sound_in (Assigns xs es) ms =
        let s : Labelled = record { label = label; statement = Assigns xs es } in
        let some : 0 < length xs = have_targets p of_text q mq s ms in
        (some, even xs es (λ at e. well_formed error.Lengths at (q, s, mq, ms, e)) some, distinct xs (λ at e. well_formed error.TwiceTarget at (q, s, mq, ms, e)))
    sound_in Skips ms = tt
    sound_in Returns ms = tt
    sound_in (Branches d a b) ms = tt
    sound_in (Loops d a) ms = tt
    sound_in (Asserts d) ms = tt
    sound_in (Assumes d) ms = tt
    sound_in (Prints es) ms = tt

  pub sound_statements : HasText p → HasSoundStatements p
  sound_statements of_text = record {
    sound = λ q s mq ms. sound_in of_text q mq s.label s.statement ms;
    declared = λ q s n mq ms u. is_true _ (λ e. well_formed error.UnknownVariable n.at (q, s, mq, ms, (n, u, e, refl)));
  }
