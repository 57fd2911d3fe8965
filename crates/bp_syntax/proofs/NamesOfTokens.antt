-- The names in a program are those of its tokens, and no token is longer than its text.
use Rattle.bp_syntax.proofs.Common.{◌≡◌, List, [], ◌∷◌, Option, None, Some, refl, ℕ, ◌≤◌, ◌++◌, length, arith, take, drop, subst, length-drop, length-take, rules, ∥∥₁_elim, le_prop, Name, Expression, Constant, Variable, Negation, Operation, Decision, Choose, Decide, Block, Done, Then, Statement, Skips, GoesTo, Returns, Assigns, Branches, Loops, Asserts, Assumes, Prints, Calls, Procedure, Program, EachName, NamesInExpression, NamesInExpressions, NamesInDecision, NamesInLabel, NamesInBlock, NamesInStatement, NamesInProcedure, NamesInProcedures, NamesInProgram, Token, kind_of, Lexeme, IsCut, ends, fit, open_brace, bad_byte, tokens_of, with_token, name_of, IsNames, one_name, more_names, IsAnyNames, IsExpr, of_or, implication, IsOr, of_xor, disjunction, IsXor, of_and, exclusion, IsAnd, of_eq, conjunction, IsEq, of_un, equality, difference, IsUn, negation, of_atom, IsAtom, constant_0, constant_1, variable, brackets, IsExprs, one_expr, more_exprs, IsAnyExprs, IsDecider, IsForm, skip, jump, returning, assignment, branch, loop, assertion, assumption, printing, call, IsStmt, labelled, unlabelled, IsStmts, one_stmt, more_stmts, decl, IsDecls, no_decl, more_decls, IsProc, proc, IsProcs, no_proc, more_procs, Derives, first_word, first_name, TokenKind, IsTextOf, HasText, TEXT_LIMIT}
use Rattle.bp_syntax.specs.declared.tokens.TokenKind.TheVariants as kind

-- If a fact of each name has one proof, so has that of all names of a program.

module _ (P : Name → Type 0) (one : (n : Name) (x y : P n) → x ≡ y) where
  one_each : (ns : List Name) (x y : EachName P ns) → x ≡ y
  one_each [] x y = refl
  one_each (n ∷ ns) x y = λ i. (one n x.0 y.0 i, one_each ns x.1 y.1 i)

  one_expression : (e : Expression) (x y : NamesInExpression P e) → x ≡ y
  one_expression (Constant b) x y = refl
  one_expression (Variable n) x y = one n x y
  one_expression (Negation e) x y = one_expression e x y
  one_expression (Operation o a b) x y = λ i. (one_expression a x.0 y.0 i, one_expression b x.1 y.1 i)

  one_expressions : (es : List Expression) (x y : NamesInExpressions P es) → x ≡ y
  one_expressions [] x y = refl
  one_expressions (e ∷ es) x y = λ i. (one_expression e x.0 y.0 i, one_expressions es x.1 y.1 i)

  one_decision : (d : Decision) (x y : NamesInDecision P d) → x ≡ y
  one_decision Choose x y = refl
  one_decision (Decide e) x y = one_expression e x y

  one_label : (l : Option Name) (x y : NamesInLabel P l) → x ≡ y
  one_label None x y = refl
  one_label (Some n) x y = one n x y

  mutual
    one_block : (b : Block) (x y : NamesInBlock P b) → x ≡ y
    one_block Done x y = refl
    one_block (Then l at s t) x y = λ i. (one_label l x.0 y.0 i, one_statement s x.1 y.1 i, one_block t x.2 y.2 i)

    one_statement : (s : Statement) (x y : NamesInStatement P s) → x ≡ y
    one_statement Skips x y = refl
    one_statement (GoesTo to) x y = one to x y
    one_statement Returns x y = refl
    one_statement (Assigns ns es) x y = λ i. (one_each ns x.0 y.0 i, one_expressions es x.1 y.1 i)
    one_statement (Branches d a b) x y = λ i. (one_decision d x.0 y.0 i, one_block a x.1 y.1 i, one_block b x.2 y.2 i)
    one_statement (Loops d a) x y = λ i. (one_decision d x.0 y.0 i, one_block a x.1 y.1 i)
    one_statement (Asserts d) x y = one_decision d x y
    one_statement (Assumes d) x y = one_decision d x y
    one_statement (Prints es) x y = one_expressions es x y
    one_statement (Calls n es) x y = λ i. (one n x.0 y.0 i, one_expressions es x.1 y.1 i)

  one_procedure : (p : Procedure) (x y : NamesInProcedure P p) → x ≡ y
  one_procedure p x y =
      λ i. (one p.name x.0 y.0 i, one_each p.formals x.1 y.1 i, one_each p.locals x.2 y.2 i, one_block p.body x.3 y.3 i)

  one_procedures : (ps : List Procedure) (x y : NamesInProcedures P ps) → x ≡ y
  one_procedures [] x y = refl
  one_procedures (p ∷ ps) x y = λ i. (one_procedure p x.0 y.0 i, one_procedures ps x.1 y.1 i)

  pub one_program : (p : Program) (x y : NamesInProgram P p) → x ≡ y
  one_program p x y = λ i. (one_each p.globals x.0 y.0 i, one_procedures p.procedures x.1 y.1 i)

module _ (P : Name → Type 0) where
  -- a property of the name of each token, if it is one
  abbrev pub EachNamed : List Token → Type 0
  EachNamed [] = Unit {0}
  EachNamed (x ∷ ts) = (x.kind ≡ kind.Name → P (name_of x)) × EachNamed ts

  both : (ns ms : List Name) → EachName P ns → EachName P ms → EachName P (ns ++ ms)
  both [] ms a b = b
  both (n ∷ ns) ms a b = (a.0, both ns ms a.1 b)

  in_names : {ts : List Token} {ns : List Name} {r : List Token} → IsNames ts ns r → EachNamed ts → EachName P ns × EachNamed r
  in_names (one_name (first_name h)) s = ((s.0 h, tt), s.1)
  in_names (more_names (first_name h) (first_word c) d) s = let f = in_names d s.1.1 in ((s.0 h, f.0), f.1)

  in_any_names : {ts : List Token} {ns : List Name} {r : List Token} → IsAnyNames ts ns r → EachNamed ts → EachName P ns × EachNamed r
  in_any_names given1 given2 = search (rules, in_names)

  mutual
    in_expr : {ts : List Token} {e : Expression} {r : List Token} → IsExpr ts e r → EachNamed ts → NamesInExpression P e × EachNamed r
    in_expr (of_or d) s = in_or d s
    in_expr (implication d (first_word h) f) s = let l = in_or d s in let m = in_expr f l.1.1 in ((l.0, m.0), m.1)

    in_or : {ts : List Token} {e : Expression} {r : List Token} → IsOr ts e r → EachNamed ts → NamesInExpression P e × EachNamed r
    in_or (of_xor d) s = in_xor d s
    in_or (disjunction d (first_word h) f) s = let l = in_or d s in let m = in_xor f l.1.1 in ((l.0, m.0), m.1)

    in_xor : {ts : List Token} {e : Expression} {r : List Token} → IsXor ts e r → EachNamed ts → NamesInExpression P e × EachNamed r
    in_xor (of_and d) s = in_and d s
    in_xor (exclusion d (first_word h) f) s = let l = in_xor d s in let m = in_and f l.1.1 in ((l.0, m.0), m.1)

    in_and : {ts : List Token} {e : Expression} {r : List Token} → IsAnd ts e r → EachNamed ts → NamesInExpression P e × EachNamed r
    in_and (of_eq d) s = in_eq d s
    in_and (conjunction d (first_word h) f) s = let l = in_and d s in let m = in_eq f l.1.1 in ((l.0, m.0), m.1)

    in_eq : {ts : List Token} {e : Expression} {r : List Token} → IsEq ts e r → EachNamed ts → NamesInExpression P e × EachNamed r
    in_eq (of_un d) s = in_un d s
    in_eq (equality d (first_word h) f) s = let l = in_eq d s in let m = in_un f l.1.1 in ((l.0, m.0), m.1)
    in_eq (difference d (first_word h) f) s = let l = in_eq d s in let m = in_un f l.1.1 in ((l.0, m.0), m.1)

    in_un : {ts : List Token} {e : Expression} {r : List Token} → IsUn ts e r → EachNamed ts → NamesInExpression P e × EachNamed r
    in_un (negation (first_word h) d) s = in_un d s.1
    in_un (of_atom d) s = in_atom d s

    in_atom : {ts : List Token} {e : Expression} {r : List Token} → IsAtom ts e r → EachNamed ts → NamesInExpression P e × EachNamed r
    in_atom (constant_0 (first_word h)) s = (tt, s.1)
    in_atom (constant_1 (first_word h)) s = (tt, s.1)
    in_atom (variable (first_name h)) s = (s.0 h, s.1)
    in_atom (brackets (first_word h) d (first_word c)) s = let f = in_expr d s.1 in (f.0, f.1.1)

  in_exprs : {ts : List Token} {es : List Expression} {r : List Token} → IsExprs ts es r → EachNamed ts → NamesInExpressions P es × EachNamed r
  in_exprs (one_expr d) s = let f = in_expr d s in ((f.0, tt), f.1)
  in_exprs (more_exprs d (first_word h) more) s = let f = in_expr d s in let g = in_exprs more f.1.1 in ((f.0, g.0), g.1)

  in_any_exprs : {ts : List Token} {es : List Expression} {r : List Token} → IsAnyExprs ts es r → EachNamed ts → NamesInExpressions P es × EachNamed r
  in_any_exprs given1 given2 = search (rules, in_exprs)

  in_decider : {ts : List Token} {d : Decision} {r : List Token} → IsDecider ts d r → EachNamed ts → NamesInDecision P d × EachNamed r
  in_decider given1 given2 = search (rules, in_expr)

  mutual
    in_form : {ts : List Token} {s : Statement} {r : List Token} → IsForm ts s r → EachNamed ts → NamesInStatement P s × EachNamed r
    in_form (skip (first_word h) (first_word c)) s = (tt, s.1.1)
    in_form (jump (first_word h) (first_name i) (first_word c)) s = (s.1.0 i, s.1.1.1)
    in_form (returning (first_word h) (first_word c)) s = (tt, s.1.1)
    in_form (assignment d (first_word b) f (first_word c)) s =
        let l = in_names d s in
        let m = in_exprs f l.1.1 in
        ((l.0, m.0), m.1.1)
    in_form (branch (first_word h) (first_word o) is (first_word c) (first_word i) body (first_word j) other (first_word g)) s =
        let l = in_decider is s.1.1 in
        let m = in_stmts body l.1.1.1 in
        let n = in_stmts other m.1.1 in
        ((l.0, m.0, n.0), n.1.1)
    in_form (loop (first_word h) (first_word o) is (first_word c) (first_word i) body (first_word g)) s =
        let l = in_decider is s.1.1 in
        let m = in_stmts body l.1.1.1 in
        ((l.0, m.0), m.1.1)
    in_form (assertion (first_word h) (first_word o) is (first_word c) (first_word g)) s = let l = in_decider is s.1.1 in (l.0, l.1.1.1)
    in_form (assumption (first_word h) (first_word o) is (first_word c) (first_word g)) s = let l = in_decider is s.1.1 in (l.0, l.1.1.1)
    in_form (printing (first_word h) (first_word o) are (first_word c) (first_word g)) s = let l = in_exprs are s.1.1 in (l.0, l.1.1.1)
    in_form (call (first_name h) (first_word o) are (first_word c) (first_word g)) s = let l = in_any_exprs are s.1.1 in ((s.0 h, l.0), l.1.1.1)

    in_stmt : {ts : List Token} {l : Option Name} {at : ℕ} {s : Statement} {r : List Token} → IsStmt ts l at s r
        → EachNamed ts → NamesInLabel P l × NamesInStatement P s × EachNamed r
    in_stmt (labelled (first_name h) (first_word c) d) p = let f = in_form d p.1.1 in (p.0 h, f.0, f.1)
    in_stmt (unlabelled d) p = let f = in_form d p in (tt, f.0, f.1)

    in_stmts : {ts : List Token} {b : Block} {r : List Token} → IsStmts ts b r → EachNamed ts → NamesInBlock P b × EachNamed r
    in_stmts (one_stmt d) p = let f = in_stmt d p in ((f.0, f.1, tt), f.2)
    in_stmts (more_stmts d more) p = let f = in_stmt d p in let g = in_stmts more f.2 in ((f.0, f.1, g.0), g.1)

  in_decls : {ts : List Token} {ns : List Name} {r : List Token} → IsDecls ts ns r → EachNamed ts → EachName P ns × EachNamed r
  in_decls no_decl s = (tt, s)
  in_decls (more_decls {names = ns} {more = ms} (decl (first_word h) d (first_word c)) more) s =
      let f = in_names d s.1 in
      let g = in_decls more f.1.1 in
      (both ns ms f.0 g.0, g.1)

  in_proc : {ts : List Token} {p : Procedure} {r : List Token} → IsProc ts p r → EachNamed ts → NamesInProcedure P p × EachNamed r
  in_proc (proc (first_name h) (first_word o) formals (first_word c) (first_word g) locals body (first_word e)) s =
      let f = in_any_names formals s.1.1 in
      let l = in_decls locals f.1.1.1 in
      let m = in_stmts body l.1 in
      ((s.0 h, f.0, l.0, m.0), m.1.1)

  in_procs : {ts : List Token} {ps : List Procedure} {r : List Token} → IsProcs ts ps r → EachNamed ts → NamesInProcedures P ps × EachNamed r
  in_procs no_proc s = (tt, s)
  in_procs (more_procs d more) s = let f = in_proc d s in let g = in_procs more f.1 in ((f.0, g.0), g.1)

  pub in_program : {ts : List Token} {p : Program} → Derives ts p → EachNamed ts → NamesInProgram P p
  in_program given1 given2 = search (rules, in_decls, in_procs)

-- a name of at most n bytes
abbrev pub IsShort : ℕ → Name → Type 0
IsShort n x = length x.text ≤ n

one_token : (k : Option TokenKind) (at n : ℕ) (bytes : List ℕ) (ts : List Token) → length bytes ≤ n
    → EachNamed (IsShort n) ts → EachNamed (IsShort n) (with_token k at bytes ts)
one_token k at n bytes ts given1 given2 = grind (arith)

pub longer : (n m : ℕ) (ts : List Token) → n ≤ m → EachNamed (IsShort n) ts → EachNamed (IsShort m) ts
longer n m [] h s = tt
longer n m (x ∷ ts) h s = (λ is. let l = s.0 is in omega (arith, l, h), longer n m ts h s.1)

-- no token is longer than its text
pub tokens_short : {at : ℕ} {text : List ℕ} {ps : List Lexeme} → IsCut at text ps → EachNamed (IsShort (length text)) (tokens_of ps)
tokens_short ends = tt
tokens_short (fit {at = at} {n = n} {text = s} {kind = lexeme} {more = ps} longest rest) =
    one_token (kind_of lexeme (take n s)) at (length s) (take n s) (tokens_of ps) (omega (arith, length-take n s))
    (longer (length (drop n s)) (length s) (tokens_of ps) (omega (arith, length-drop n s)) (tokens_short rest))
tokens_short (open_brace {b = b} {text = s} {more = ps} brace none rest) = longer (length s) (length (b ∷ s)) (tokens_of ps) (omega arith) (tokens_short rest)
tokens_short (bad_byte {b = b} {text = s} {more = ps} other none rest) = longer (length s) (length (b ∷ s)) (tokens_of ps) (omega arith) (tokens_short rest)

-- No name in a program is longer than a text.

of_text : (text : List ℕ) (p : Program) → IsTextOf text p → NamesInProgram (IsShort TEXT_LIMIT) p
of_text text p is =
    let scanned = is.scanned in
    let short = is.short in
    let here : EachNamed (IsShort (length text)) is.tokens = subst (EachNamed (IsShort (length text))) scanned.tokens (tokens_short scanned.cut) in
    in_program (IsShort TEXT_LIMIT) is.derives (longer (length text) TEXT_LIMIT is.tokens (omega (arith, short)) here)

pub short_names : (p : Program) → HasText p → NamesInProgram (λ n. length n.text ≤ TEXT_LIMIT) p
short_names p of_some = ∥∥₁_elim of_some (one_program (IsShort TEXT_LIMIT) (λ n. le_prop) p) short
  where
    short : (text : List ℕ) × IsTextOf text p → NamesInProgram (IsShort TEXT_LIMIT) p
    short (text, is) = of_text text p is
