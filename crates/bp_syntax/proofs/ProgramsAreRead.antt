-- Statements, procedures and programs of the grammar are read whole, whatever is expected after
-- them.
use Rattle.bp_syntax.proofs.Common.{◌≡◌, ℕ, true, false, List, [], ◌∷◌, ◌++◌, Option, Some, None, refl, sym, ap, ◌∙◌, drop, append-nil, rules, false≢true, Name, Expression, Decision, Block, Then, Statement, Skips, GoesTo, Returns, Assigns, Branches, Loops, Asserts, Assumes, Prints, Calls, Procedure, Program, Token, name_of, IsNames, one_name, more_names, IsDecider, IsForm, skip, jump, returning, assignment, branch, loop, assertion, assumption, printing, call, IsStmt, labelled, unlabelled, IsStmts, one_stmt, more_stmts, IsDecl, decl, IsDecls, no_decl, more_decls, IsProc, proc, IsProcs, no_proc, more_procs, Derives, program, first_word, first_name, is_same_kind, Wanted, Complete, WordThen, DeciderThen, MoreDecls, MoreProcs, MoreStmts, FormThen, StmtThen, ExprsThen, AnyExprsThen, AnyNamesThen, StmtsThen, ConditionThen, TargetsThen, ArgumentsThen, AssignThen, BodyThen, ProcThen, program_of, procedure_of, is_form_start, is_un_start, parse_result, Got, whole_program, is_at, is_at_form, place_ahead, TokenKind}
use Rattle.bp_syntax.proofs.GrownLists.{regrouped}
use Rattle.bp_syntax.specs.declared.tokens.TokenKind.TheVariants as kind
use Rattle.bp_syntax.proofs.ResultAfterToken.{read_word, read_name, at_kind_form, more_stmts_ahead, no_stmt, read_decl, no_decl_ahead, more_procs_ahead, no_proc_ahead, call_ahead, assign_ahead, read_label, no_label}
use Rattle.bp_syntax.proofs.ExpressionsAreRead.{names_read, names_begin, any_names_read, exprs_read, any_exprs_read, decider_read, ends_at, closing, semicolon}

-- a decider in brackets
decided_read : (y : Token) {ts : List Token} {d : Decision} {z : Token} {r : List Token} → y.kind ≡ kind.Open
    → IsDecider ts d (z ∷ r) → z.kind ≡ kind.Close → (next : Decision → Wanted)
    → parse_result (ConditionThen next) (y ∷ ts) ≡ parse_result (next d) r
decided_read y {ts} {d} {z} {r} o is c next =
    read_word kind.Open (DeciderThen (λ e. WordThen kind.Close (next e))) y ts o
    ∙ decider_read is (λ e. WordThen kind.Close (next e)) (ends_at kind.Close z r closing c)
    ∙ read_word kind.Close (next d) z r c

targets_read : {ts : List Token} {ns : List Name} {y : Token} {r : List Token} → IsNames ts ns (y ∷ r)
    → y.kind ≡ kind.Becomes → (next : ℕ → Statement → Wanted)
    → parse_result (FormThen next) ts ≡ parse_result (AssignThen (next (place_ahead ts))) ts
targets_read (one_name (first_name {token = x} {rest = r} h)) b next = assign_ahead next x r h (ap (λ k. is_same_kind k kind.Open) b)
targets_read (more_names (first_name {token = x} h) (first_word {token = y} {rest = ts} c) d) b next =
    assign_ahead next x (y ∷ ts) h (ap (λ k. is_same_kind k kind.Open) c)

names_no_colon : {ts : List Token} {ns : List Name} {y : Token} {r : List Token} → IsNames ts ns (y ∷ r)
    → y.kind ≡ kind.Becomes → is_at kind.Colon (drop 1 ts) ≡ false
names_no_colon (one_name (first_name h)) b = ap (λ k. is_same_kind k kind.Colon) b
names_no_colon (more_names (first_name h) (first_word c) d) b = ap (λ k. is_same_kind k kind.Colon) c

-- no colon follows the first token of a statement without its label
no_colon : {ts : List Token} {s : Statement} {r : List Token} → IsForm ts s r → is_at kind.Colon (drop 1 ts) ≡ false
no_colon (skip (first_word h) (first_word c)) = ap (λ k. is_same_kind k kind.Colon) c
no_colon (jump (first_word h) (first_name i) (first_word c)) = ap (λ k. is_same_kind k kind.Colon) i
no_colon (returning (first_word h) (first_word c)) = ap (λ k. is_same_kind k kind.Colon) c
no_colon (assignment d (first_word b) f (first_word c)) = names_no_colon d b
no_colon (branch (first_word h) (first_word o) is (first_word c) (first_word i) body (first_word j) other (first_word g)) =
    ap (λ k. is_same_kind k kind.Colon) o
no_colon (loop (first_word h) (first_word o) is (first_word c) (first_word i) body (first_word g)) = ap (λ k. is_same_kind k kind.Colon) o
no_colon (assertion (first_word h) (first_word o) is (first_word c) (first_word g)) = ap (λ k. is_same_kind k kind.Colon) o
no_colon (assumption (first_word h) (first_word o) is (first_word c) (first_word g)) = ap (λ k. is_same_kind k kind.Colon) o
no_colon (printing (first_word h) (first_word o) are (first_word c) (first_word g)) = ap (λ k. is_same_kind k kind.Colon) o
no_colon (call (first_name h) (first_word o) are (first_word c) (first_word g)) = ap (λ k. is_same_kind k kind.Colon) o

name_begins : (ts : List Token) → is_at kind.Name ts ≡ true → is_at_form ts ≡ true
name_begins [] h = h
name_begins (x ∷ r) h = by_kind x.kind h
  where
    by_kind : (k : TokenKind) → is_same_kind k kind.Name ≡ true → is_form_start k ≡ true
    by_kind kind.Name e = refl
    by_kind k e = absurd (false≢true e)

form_begins : {ts : List Token} {s : Statement} {r : List Token} → IsForm ts s r → is_at_form ts ≡ true
form_begins given1 = search (rules, name_begins, names_begin)

stmt_begins : {ts : List Token} {l : Option Name} {at : ℕ} {s : Statement} {r : List Token} → IsStmt ts l at s r → is_at_form ts ≡ true
stmt_begins given1 = search (rules, form_begins)

stmts_begin : {ts : List Token} {b : Block} {r : List Token} → IsStmts ts b r → is_at_form ts ≡ true
stmts_begin given1 = search (rules, stmt_begins)

mutual
  form_read : {ts : List Token} {s : Statement} {r : List Token} → IsForm ts s r → (next : ℕ → Statement → Wanted)
      → parse_result (FormThen next) ts ≡ parse_result (next (place_ahead ts) s) r
  form_read (skip (first_word {token = x} h) (first_word {token = y} {rest = r} c)) next =
      at_kind_form kind.Skip next x (y ∷ r) h ∙ read_word kind.Semicolon (next x.at Skips) y r c
  form_read (jump (first_word {token = x} h) (first_name {token = n} i) (first_word {token = y} {rest = r} c)) next =
      at_kind_form kind.Goto next x (n ∷ y ∷ r) h
      ∙ read_name (λ l. WordThen kind.Semicolon (next x.at (GoesTo l))) n (y ∷ r) i
      ∙ read_word kind.Semicolon (next x.at (GoesTo (name_of n))) y r c
  form_read (returning (first_word {token = x} h) (first_word {token = y} {rest = r} c)) next =
      at_kind_form kind.Return next x (y ∷ r) h ∙ read_word kind.Semicolon (next x.at Returns) y r c
  form_read (assignment {ts = ts} {targets = ns} {values = es} d (first_word {token = x} {rest = us} b) f (first_word {token = y} {rest = r} c)) next =
      let at = place_ahead ts in
      let then = λ (l : List Expression). WordThen kind.Semicolon (next at (Assigns ns l)) in
      targets_read d b next
      ∙ names_read d [] (TargetsThen (next at)) (ap (λ k. is_same_kind k kind.Comma) b)
      ∙ read_word kind.Becomes (ExprsThen [] then) x us b
      ∙ exprs_read f [] then (ends_at kind.Semicolon y r semicolon c) (ap (λ k. is_same_kind k kind.Comma) c)
      ∙ read_word kind.Semicolon (next at (Assigns ns es)) y r c
  form_read (branch {test = d} {first = a} {second = b} (first_word {token = x} h)
      (first_word {token = y} {rest = ts} o) is (first_word c) (first_word {token = t} {rest = us} i) body
      (first_word {token = e} {rest = vs} j) other (first_word {token = f} {rest = r} g)) next =
      let yes = λ (d : Decision) (a : Block). StmtsThen (λ b. WordThen kind.Fi (next x.at (Branches d a b))) in
      let inner = λ (d : Decision). StmtsThen (λ a. WordThen kind.Else (yes d a)) in
      at_kind_form kind.If next x (y ∷ ts) h
      ∙ decided_read y o is c (λ d. WordThen kind.Then (inner d))
      ∙ read_word kind.Then (inner d) t us i
      ∙ stmts_read body (λ a. WordThen kind.Else (yes d a)) (ap is_form_start j)
      ∙ read_word kind.Else (yes d a) e vs j
      ∙ stmts_read other (λ b. WordThen kind.Fi (next x.at (Branches d a b))) (ap is_form_start g)
      ∙ read_word kind.Fi (next x.at (Branches d a b)) f r g
  form_read (loop {test = d} {body = a} (first_word {token = x} h) (first_word {token = y} {rest = ts} o) is
      (first_word c) (first_word {token = t} {rest = us} i) body (first_word {token = e} {rest = r} g)) next =
      let inner = λ (d : Decision). StmtsThen (λ a. WordThen kind.Od (next x.at (Loops d a))) in
      at_kind_form kind.While next x (y ∷ ts) h
      ∙ decided_read y o is c (λ d. WordThen kind.Do (inner d))
      ∙ read_word kind.Do (inner d) t us i
      ∙ stmts_read body (λ a. WordThen kind.Od (next x.at (Loops d a))) (ap is_form_start g)
      ∙ read_word kind.Od (next x.at (Loops d a)) e r g
  form_read (assertion {test = d} (first_word {token = x} h) (first_word {token = y} {rest = ts} o) is (first_word c)
      (first_word {token = w} {rest = r} g)) next =
      at_kind_form kind.Assert next x (y ∷ ts) h
      ∙ decided_read y o is c (λ d. WordThen kind.Semicolon (next x.at (Asserts d)))
      ∙ read_word kind.Semicolon (next x.at (Asserts d)) w r g
  form_read (assumption {test = d} (first_word {token = x} h) (first_word {token = y} {rest = ts} o) is (first_word c)
      (first_word {token = w} {rest = r} g)) next =
      at_kind_form kind.Assume next x (y ∷ ts) h
      ∙ decided_read y o is c (λ d. WordThen kind.Semicolon (next x.at (Assumes d)))
      ∙ read_word kind.Semicolon (next x.at (Assumes d)) w r g
  form_read (printing {values = es} (first_word {token = x} h) (first_word {token = y} {rest = ts} o) are
      (first_word {token = z} c) (first_word {token = w} {rest = r} g)) next =
      let then = λ (es : List Expression). WordThen kind.Close (WordThen kind.Semicolon (next x.at (Prints es))) in
      at_kind_form kind.Print next x (y ∷ ts) h
      ∙ read_word kind.Open (ExprsThen [] then) y ts o
      ∙ exprs_read are [] then (ends_at kind.Close z (w ∷ r) closing c) (ap (λ k. is_same_kind k kind.Comma) c)
      ∙ read_word kind.Close (WordThen kind.Semicolon (next x.at (Prints es))) z (w ∷ r) c
      ∙ read_word kind.Semicolon (next x.at (Prints es)) w r g
  form_read (call {arguments = es} (first_name {token = x} h) (first_word {token = y} {rest = ts} o) are
      (first_word {token = z} c) (first_word {token = w} {rest = r} g)) next =
      let then = λ (es : List Expression). WordThen kind.Close (WordThen kind.Semicolon (next x.at (Calls (name_of x) es))) in
      call_ahead next x (y ∷ ts) h (ap (λ k. is_same_kind k kind.Open) o)
      ∙ read_name (λ n. WordThen kind.Open (ArgumentsThen n (next x.at))) x (y ∷ ts) h
      ∙ read_word kind.Open (AnyExprsThen then) y ts o
      ∙ any_exprs_read are then (ends_at kind.Close z (w ∷ r) closing c) (ap (λ k. is_same_kind k kind.Comma) c) (ap is_un_start c)
      ∙ read_word kind.Close (WordThen kind.Semicolon (next x.at (Calls (name_of x) es))) z (w ∷ r) c
      ∙ read_word kind.Semicolon (next x.at (Calls (name_of x) es)) w r g

  stmt_read : {ts : List Token} {l : Option Name} {at : ℕ} {s : Statement} {r : List Token} → IsStmt ts l at s r
      → (next : Option Name → ℕ → Statement → Wanted) → parse_result (StmtThen next) ts ≡ parse_result (next l at s) r
  stmt_read (labelled {behind = ts} {first = z} (first_name {token = x} h) (first_word {token = y} c) d) next =
      read_label next x y (z ∷ ts) h c ∙ form_read d (next (Some (name_of x)))
  stmt_read (unlabelled {behind = ts} {first = x} d) next = no_label next (x ∷ ts) (λ e. no_colon d) ∙ form_read d (next None)

  stmts_read : {ts : List Token} {b : Block} {r : List Token} → IsStmts ts b r → (next : Block → Wanted)
      → is_at_form r ≡ false → parse_result (StmtsThen next) ts ≡ parse_result (next b) r
  stmts_read (one_stmt {rest = r} {label = l} {at = at} {statement = s} d) next n =
      stmt_read d (λ m p c. MoreStmts (λ b. next (Then m p c b))) ∙ no_stmt (λ b. next (Then l at s b)) r n
  stmts_read (more_stmts {at_more = us} {label = l} {at = at} {statement = s} d f) next n =
      stmt_read d (λ m p c. MoreStmts (λ a. next (Then m p c a)))
      ∙ more_stmts_ahead (λ a. next (Then l at s a)) us (stmts_begin f)
      ∙ stmts_read f (λ a. next (Then l at s a)) n

decl_read : {ts : List Token} {ns : List Name} {r : List Token} → IsDecl ts ns r
    → (acc : List Name) (next : List Name → Wanted)
    → parse_result (MoreDecls acc next) ts ≡ parse_result (MoreDecls (acc ++ ns) next) r
decl_read (decl {names = ns} (first_word {token = x} {rest = ts} h) d (first_word {token = y} {rest = r} c)) acc next =
    let then = λ (l : List Name). WordThen kind.Semicolon (MoreDecls l next) in
    read_decl acc next x ts h
    ∙ names_read d acc then (ap (λ k. is_same_kind k kind.Comma) c)
    ∙ read_word kind.Semicolon (MoreDecls (acc ++ ns) next) y r c

decls_read : {ts : List Token} {ns : List Name} {r : List Token} → IsDecls ts ns r
    → (acc : List Name) (next : List Name → Wanted) → is_at kind.Decl r ≡ false
    → parse_result (MoreDecls acc next) ts ≡ parse_result (next (acc ++ ns)) r
decls_read (no_decl {rest = r}) acc next n = no_decl_ahead acc next r n ∙ ap (λ l. parse_result (next l) r) (sym (append-nil acc))
decls_read (more_decls {rest = r} {names = ns} {more = ms} d f) acc next n =
    decl_read d acc next ∙ decls_read f (acc ++ ns) next n ∙ simp regrouped

form_no_decl : (ts : List Token) → is_at_form ts ≡ true → is_at kind.Decl ts ≡ false
form_no_decl [] h = refl
form_no_decl (x ∷ r) h = by_kind x.kind h
  where
    by_kind : (k : TokenKind) → is_form_start k ≡ true → is_same_kind k kind.Decl ≡ false
    by_kind kind.Decl e = absurd (false≢true e)
    by_kind k e = refl

proc_read : {ts : List Token} {p : Procedure} {r : List Token} → IsProc ts p r → (next : Procedure → Wanted)
    → parse_result (ProcThen next) ts ≡ parse_result (next p) r
proc_read (proc {at_body = vs} {formals = fs} {locals = ls} {body = b} (first_name {token = x} h)
    (first_word {token = y} {rest = ts} o) formals (first_word {token = z} c)
    (first_word {token = v} {rest = us} g) locals body (first_word {token = w} {rest = r} e)) next =
    let n = name_of x in
    let inner = λ (fs ls : List Name). StmtsThen (λ b. WordThen kind.End (next (procedure_of n fs ls b))) in
    let behind = λ (fs : List Name). WordThen kind.Close (WordThen kind.Begin (MoreDecls [] (inner fs))) in
    read_name (λ m. BodyThen m next) x (y ∷ ts) h
    ∙ read_word kind.Open (AnyNamesThen behind) y ts o
    ∙ any_names_read formals behind (ap (λ k. is_same_kind k kind.Comma) c) (ap (λ k. is_same_kind k kind.Name) c)
    ∙ read_word kind.Close (WordThen kind.Begin (MoreDecls [] (inner fs))) z (v ∷ us) c
    ∙ read_word kind.Begin (MoreDecls [] (inner fs)) v us g
    ∙ decls_read locals [] (inner fs) (form_no_decl vs (stmts_begin body))
    ∙ stmts_read body (λ b. WordThen kind.End (next (procedure_of n fs ls b))) (ap is_form_start e)
    ∙ read_word kind.End (next (procedure_of n fs ls b)) w r e

proc_begins : {ts : List Token} {p : Procedure} {r : List Token} → IsProc ts p r → is_at kind.Name ts ≡ true
proc_begins (proc (first_name h) (first_word o) formals (first_word c) (first_word g) locals body (first_word e)) = ap (λ k. is_same_kind k kind.Name) h

procs_read : {ts : List Token} {ps : List Procedure} {r : List Token} → IsProcs ts ps r
    → (acc : List Procedure) (next : List Procedure → Wanted) → is_at kind.Name r ≡ false
    → parse_result (MoreProcs acc next) ts ≡ parse_result (next (acc ++ ps)) r
procs_read (no_proc {rest = r}) acc next n = no_proc_ahead acc next r n ∙ ap (λ l. parse_result (next l) r) (sym (append-nil acc))
procs_read (more_procs {ts = ts} {rest = r} {procedure = p} {more = ps} d f) acc next n =
    more_procs_ahead acc next ts (proc_begins d)
    ∙ proc_read d (λ q. MoreProcs (acc ++ q ∷ []) next)
    ∙ procs_read f (acc ++ p ∷ []) next n
    ∙ simp regrouped

name_no_decl : (ts : List Token) → is_at kind.Name ts ≡ true → is_at kind.Decl ts ≡ false
name_no_decl ts h = form_no_decl ts (name_begins ts h)

procs_no_decl : {ts : List Token} {ps : List Procedure} {r : List Token} → IsProcs ts ps r → is_at kind.Decl r ≡ false → is_at kind.Decl ts ≡ false
procs_no_decl given1 given2 = search (rules, name_no_decl, proc_begins)

-- a program of the grammar is read to its tree
pub derived_is_read : {ts : List Token} {p : Program} → Derives ts p → parse_result whole_program ts ≡ Got p
derived_is_read (program {globals = gs} d f) =
    decls_read d [] (λ l. MoreProcs [] (λ m. Complete (program_of l m))) (procs_no_decl f refl)
    ∙ procs_read f [] (λ m. Complete (program_of gs m)) refl

pub one_tree : (ts : List Token) (p q : Program) → Derives ts p → Derives ts q → p ≡ q
one_tree ts p q d f = let e : Got p ≡ Got q = sym (derived_is_read d) ∙ derived_is_read f in cc
