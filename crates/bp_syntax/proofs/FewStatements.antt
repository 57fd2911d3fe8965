-- A program has no more statements than its text has bytes.
use Rattle.bp_syntax.proofs.Common.{ℕ, suc, ◌+◌, ◌<◌, ◌≤◌, List, length, Option, arith, take, length-drop, rules, Name, Expression, Decision, Block, Statement, Procedure, Program, block_size, size, procedures_size, Token, kind_of, Lexeme, IsCut, ends, fit, open_brace, bad_byte, tokens_of, with_token, TokenKind, IsNames, one_name, more_names, IsAnyNames, IsExpr, of_or, implication, IsOr, of_xor, disjunction, IsXor, of_and, exclusion, IsAnd, of_eq, conjunction, IsEq, of_un, equality, difference, IsUn, negation, of_atom, IsAtom, constant_0, constant_1, variable, brackets, IsExprs, one_expr, more_exprs, IsAnyExprs, IsDecider, IsForm, skip, jump, returning, assignment, branch, loop, assertion, assumption, printing, call, IsStmt, labelled, unlabelled, IsStmts, one_stmt, more_stmts, IsDecl, decl, IsDecls, no_decl, more_decls, IsProc, proc, IsProcs, no_proc, more_procs, Derives, program, first_word, first_name, IsTextOf, HasText, TEXT_LIMIT}
use Rattle.std.proofs.Math.Logic.{∥∥₁_elim}
use Rattle.std.specs.Coded.{le_prop}

names_some : {ts : List Token} {ns : List Name} {r : List Token} → IsNames ts ns r → length r < length ts
names_some (one_name (first_name h)) = omega arith
names_some (more_names (first_name h) (first_word k) is) = omega (arith, names_some is)

any_names_some : {ts : List Token} {ns : List Name} {r : List Token} → IsAnyNames ts ns r → length r ≤ length ts
any_names_some given1 = search (rules, names_some)

mutual
  expr_some : {ts : List Token} {e : Expression} {r : List Token} → IsExpr ts e r → length r < length ts
  expr_some (of_or d) = or_some d
  expr_some (implication d (first_word h) f) = omega (arith, or_some d, expr_some f)

  or_some : {ts : List Token} {e : Expression} {r : List Token} → IsOr ts e r → length r < length ts
  or_some (of_xor d) = xor_some d
  or_some (disjunction d (first_word h) f) = omega (arith, or_some d, xor_some f)

  xor_some : {ts : List Token} {e : Expression} {r : List Token} → IsXor ts e r → length r < length ts
  xor_some (of_and d) = and_some d
  xor_some (exclusion d (first_word h) f) = omega (arith, xor_some d, and_some f)

  and_some : {ts : List Token} {e : Expression} {r : List Token} → IsAnd ts e r → length r < length ts
  and_some (of_eq d) = eq_some d
  and_some (conjunction d (first_word h) f) = omega (arith, and_some d, eq_some f)

  eq_some : {ts : List Token} {e : Expression} {r : List Token} → IsEq ts e r → length r < length ts
  eq_some (of_un d) = un_some d
  eq_some (equality d (first_word h) f) = omega (arith, eq_some d, un_some f)
  eq_some (difference d (first_word h) f) = omega (arith, eq_some d, un_some f)

  un_some : {ts : List Token} {e : Expression} {r : List Token} → IsUn ts e r → length r < length ts
  un_some (negation (first_word h) is) = omega (arith, un_some is)
  un_some (of_atom is) = atom_some is

  atom_some : {ts : List Token} {e : Expression} {r : List Token} → IsAtom ts e r → length r < length ts
  atom_some (constant_0 (first_word h)) = omega arith
  atom_some (constant_1 (first_word h)) = omega arith
  atom_some (variable (first_name h)) = omega arith
  atom_some (brackets (first_word h) is (first_word k)) = omega (arith, expr_some is)

exprs_some : {ts : List Token} {es : List Expression} {r : List Token} → IsExprs ts es r → length r < length ts
exprs_some (one_expr is) = expr_some is
exprs_some (more_exprs is (first_word h) more) = omega (arith, expr_some is, exprs_some more)

any_exprs_some : {ts : List Token} {es : List Expression} {r : List Token} → IsAnyExprs ts es r → length r ≤ length ts
any_exprs_some given1 = search (rules, exprs_some)

decider_some : {ts : List Token} {d : Decision} {r : List Token} → IsDecider ts d r → length r < length ts
decider_some given1 = search (rules, expr_some)

mutual
  form_size : {ts : List Token} {s : Statement} {r : List Token} → IsForm ts s r → size s + length r < length ts
  form_size (skip (first_word h) (first_word c)) = omega arith
  form_size (jump (first_word h) (first_name i) (first_word c)) = omega arith
  form_size (returning (first_word h) (first_word c)) = omega arith
  form_size (assignment names (first_word h) exprs (first_word k)) = omega (arith, names_some names, exprs_some exprs)
  form_size (branch (first_word h) (first_word o) is (first_word c) (first_word i) body (first_word j) other (first_word g)) =
      omega (arith, decider_some is, stmts_size body, stmts_size other)
  form_size (loop (first_word h) (first_word o) is (first_word c) (first_word i) body (first_word g)) = omega (arith, decider_some is, stmts_size body)
  form_size (assertion (first_word h) (first_word o) is (first_word c) (first_word g)) = omega (arith, decider_some is)
  form_size (assumption (first_word h) (first_word o) is (first_word c) (first_word g)) = omega (arith, decider_some is)
  form_size (printing (first_word h) (first_word o) are (first_word c) (first_word g)) = omega (arith, exprs_some are)
  form_size (call (first_name h) (first_word o) are (first_word c) (first_word g)) = omega (arith, any_exprs_some are)

  stmt_size : {ts : List Token} {l : Option Name} {at : ℕ} {s : Statement} {r : List Token} → IsStmt ts l at s r → size s + length r < length ts
  stmt_size (labelled (first_name h) (first_word c) is) = omega (arith, form_size is)
  stmt_size (unlabelled is) = form_size is

  stmts_size : {ts : List Token} {b : Block} {r : List Token} → IsStmts ts b r → block_size b + length r < length ts
  stmts_size (one_stmt is) = omega (arith, stmt_size is)
  stmts_size (more_stmts is more) = omega (arith, stmt_size is, stmts_size more)

decl_some : {ts : List Token} {ns : List Name} {r : List Token} → IsDecl ts ns r → length r < length ts
decl_some (decl (first_word h) is (first_word k)) = omega (arith, names_some is)

decls_size : {ts : List Token} {ns : List Name} {r : List Token} → IsDecls ts ns r → length r ≤ length ts
decls_size no_decl = omega arith
decls_size (more_decls is more) = omega (arith, decl_some is, decls_size more)

proc_size : {ts : List Token} {p : Procedure} {r : List Token} → IsProc ts p r → block_size p.body + 1 + length r < length ts
proc_size (proc (first_name h) (first_word o) formals (first_word c) (first_word g) locals body (first_word e)) =
    omega (arith, any_names_some formals, decls_size locals, stmts_size body)

procs_size : {ts : List Token} {ps : List Procedure} {r : List Token} → IsProcs ts ps r → procedures_size ps + length r ≤ length ts
procs_size no_proc = omega arith
procs_size (more_procs is more) = omega (arith, proc_size is, procs_size more)

program_size : {ts : List Token} {p : Program} → Derives ts p → procedures_size p.procedures ≤ length ts
program_size (program globals procs) = omega (arith, decls_size globals, procs_size procs)

one_token : (k : Option TokenKind) (at : ℕ) (bytes : List ℕ) (ts : List Token) → length (with_token k at bytes ts) ≤ suc (length ts)
one_token k at bytes ts = grind (arith)

tokens_fit : {at : ℕ} {s : List ℕ} {ps : List Lexeme} → IsCut at s ps → length (tokens_of ps) ≤ length s
tokens_fit ends = omega arith
tokens_fit (fit {at = at} {n = n} {text = s} {kind = lexeme} {more = ps} longest rest) =
    let some = longest.some in
    let within = longest.within in
    omega (arith, some, within, one_token (kind_of lexeme (take n s)) at (take n s) (tokens_of ps), tokens_fit rest, length-drop n s)
tokens_fit (open_brace none is rest) = omega (arith, tokens_fit rest)
tokens_fit (bad_byte none never rest) = omega (arith, tokens_fit rest)

of_text : (text : List ℕ) (p : Program) → IsTextOf text p → procedures_size p.procedures ≤ TEXT_LIMIT
of_text text p given1 = search (rules, program_size, tokens_fit)

pub few_statements : (p : Program) → HasText p → procedures_size p.procedures ≤ TEXT_LIMIT
few_statements p of_some = ∥∥₁_elim of_some le_prop few
  where
    few : (text : List ℕ) × IsTextOf text p → procedures_size p.procedures ≤ TEXT_LIMIT
    few (text, is) = of_text text p is
