-- The phrases of the grammar that the parser expects.
use Rattle.bp_syntax.proofs.Common.{◌≡◌, ℕ, List, refl, subst, Option, Some, [], ◌∷◌, ◌++◌, None, arith, rules, Name, Expression, Operation, Decision, Block, Done, Then, Statement, Procedure, Program, Op, Token, IsReal, TokenKind, name_of, IsNames, one_name, more_names, IsAnyNames, IsExpr, of_or, implication, IsOr, of_xor, disjunction, IsXor, of_and, exclusion, IsAnd, of_eq, conjunction, IsEq, of_un, equality, difference, IsUn, IsExprs, one_expr, more_exprs, IsAnyExprs, IsDecider, IsForm, IsStmt, IsStmts, one_stmt, more_stmts, IsDecls, IsProcs, first_word, first_name, some_token, Wanted, Complete, WordThen, NameThen, MoreNames, AnyNamesThen, UnThen, MoreOperands, MoreImplied, MoreExprs, AnyExprsThen, DeciderThen, FormThen, FormAfter, StmtThen, StmtAfter, MoreStmts, MoreDecls, MoreProcs, NamesThen, ExprThen, ExprsThen, OperandThen, operator, Precedence, Equality, Conjunction, Exclusion, Disjunction}
use Rattle.bp_syntax.proofs.GrownLists.{regrouped}
use Rattle.bp_syntax.specs.declared.exprs.Op.TheVariants as op
use Rattle.bp_syntax.specs.declared.tokens.TokenKind.TheVariants as kind

-- Each kind of token has a spelling.

pub some_real : (k : TokenKind) → IsReal (some_token k)
some_real k = grind (arith)

-- an operand of the operators of a strength, and operands with such operators between them
abbrev pub IsOperand : Precedence → List Token → Expression → List Token → Type 0
IsOperand Equality ts e r = IsUn ts e r
IsOperand Conjunction ts e r = IsEq ts e r
IsOperand Exclusion ts e r = IsAnd ts e r
IsOperand Disjunction ts e r = IsXor ts e r

abbrev pub IsBinary : Precedence → List Token → Expression → List Token → Type 0
IsBinary Equality ts e r = IsEq ts e r
IsBinary Conjunction ts e r = IsAnd ts e r
IsBinary Exclusion ts e r = IsXor ts e r
IsBinary Disjunction ts e r = IsOr ts e r

-- more of a list, or no more
pub data IsMoreNames : List Token → List Name → List Token → Type 0 where
  no_more_names : (r : List Token) → IsMoreNames r [] r
  names_after : (y : Token) (ts : List Token) (ns : List Name) (r : List Token) → y.kind ≡ kind.Comma → IsNames ts ns r → IsMoreNames (y ∷ ts) ns r

pub data IsMoreExprs : List Token → List Expression → List Token → Type 0 where
  no_more_exprs : (r : List Token) → IsMoreExprs r [] r
  exprs_after : (y : Token) (ts : List Token) (es : List Expression) (r : List Token) → y.kind ≡ kind.Comma → IsExprs ts es r → IsMoreExprs (y ∷ ts) es r

pub data IsMoreStmts : List Token → Block → List Token → Type 0 where
  no_more_stmts : (r : List Token) → IsMoreStmts r Done r
  stmts_after : (ts : List Token) (b : Block) (r : List Token) → IsStmts ts b r → IsMoreStmts ts b r

-- after an expression, more operators of a strength with their operands, to one expression in all
pub data IsMoreOperands : Precedence → Expression → List Token → Expression → List Token → Type 0 where
  no_more_operands : (s : Precedence) (a : Expression) (r : List Token) → IsMoreOperands s a r a r
  operand_after : (s : Precedence) (a : Expression) (x : Token) (us : List Token) (o : Op) (b : Expression)
      (vs : List Token) (c : Expression) (r : List Token) → operator s x.kind ≡ Some o → IsOperand s us b vs
      → IsMoreOperands s (Operation o a b) vs c r → IsMoreOperands s a (x ∷ us) c r

pub data IsMoreImplied : Expression → List Token → Expression → List Token → Type 0 where
  nothing_implied : (a : Expression) (r : List Token) → IsMoreImplied a r a r
  implied_after : (a : Expression) (x : Token) (us : List Token) (b : Expression) (r : List Token)
      → x.kind ≡ kind.Implies → IsExpr us b r → IsMoreImplied a (x ∷ us) (Operation op.Implies a b) r

-- these tokens are the expected ones, and complete this program
pub data Needs : Wanted → List Token → Program → Type 0 where
  complete : {p : Program} → Needs (Complete p) [] p
  word : {k : TokenKind} {next : Wanted} {r : List Token} {q : Program} (x : Token) → x.kind ≡ k → Needs next r q → Needs (WordThen k next) (x ∷ r) q
  name : {next : Name → Wanted} {r : List Token} {q : Program} (x : Token) → x.kind ≡ kind.Name → Needs (next (name_of x)) r q → Needs (NameThen next) (x ∷ r) q
  names : {acc : List Name} {next : List Name → Wanted} {ts r : List Token} {q : Program} (ns : List Name)
      → IsMoreNames ts ns r → Needs (next (acc ++ ns)) r q → Needs (MoreNames acc next) ts q
  any_names : {next : List Name → Wanted} {ts r : List Token} {q : Program} (ns : List Name) → IsAnyNames ts ns r
      → Needs (next ns) r q → Needs (AnyNamesThen next) ts q
  un : {next : Expression → Wanted} {ts r : List Token} {q : Program} (e : Expression) → IsUn ts e r → Needs (next e) r q → Needs (UnThen next) ts q
  operands : {s : Precedence} {a : Expression} {next : Expression → Wanted} {ts r : List Token} {q : Program} (e : Expression)
      → IsMoreOperands s a ts e r → Needs (next e) r q → Needs (MoreOperands s a next) ts q
  implied : {a : Expression} {next : Expression → Wanted} {ts r : List Token} {q : Program} (e : Expression)
      → IsMoreImplied a ts e r → Needs (next e) r q → Needs (MoreImplied a next) ts q
  exprs : {acc : List Expression} {next : List Expression → Wanted} {ts r : List Token} {q : Program} (es : List Expression)
      → IsMoreExprs ts es r → Needs (next (acc ++ es)) r q → Needs (MoreExprs acc next) ts q
  any_exprs : {next : List Expression → Wanted} {ts r : List Token} {q : Program} (es : List Expression)
      → IsAnyExprs ts es r → Needs (next es) r q → Needs (AnyExprsThen next) ts q
  decider : {next : Decision → Wanted} {ts r : List Token} {q : Program} (d : Decision) → IsDecider ts d r → Needs (next d) r q → Needs (DeciderThen next) ts q
  form : {next : ℕ → Statement → Wanted} {ts r : List Token} {q : Program} (x : Token) (s : Statement)
      → IsForm (x ∷ ts) s r → Needs (next x.at s) r q → Needs (FormThen next) (x ∷ ts) q
  form_after : {x : Token} {next : Statement → Wanted} {ts r : List Token} {q : Program} (s : Statement)
      → (x.kind ≡ kind.Name → IsForm (x ∷ ts) s r) → Needs (next s) r q → Needs (FormAfter x next) ts q
  stmt : {next : Option Name → ℕ → Statement → Wanted} {ts r : List Token} {q : Program} (l : Option Name) (at : ℕ)
      (s : Statement) → IsStmt ts l at s r → Needs (next l at s) r q → Needs (StmtThen next) ts q
  stmt_after : {x : Token} {next : Option Name → ℕ → Statement → Wanted} {ts r : List Token} {q : Program}
      (l : Option Name) (at : ℕ) (s : Statement) → (x.kind ≡ kind.Name → IsStmt (x ∷ ts) l at s r)
      → Needs (next l at s) r q → Needs (StmtAfter x next) ts q
  stmts : {next : Block → Wanted} {ts r : List Token} {q : Program} (b : Block) → IsMoreStmts ts b r → Needs (next b) r q → Needs (MoreStmts next) ts q
  decls : {acc : List Name} {next : List Name → Wanted} {ts r : List Token} {q : Program} (ns : List Name)
      → IsDecls ts ns r → Needs (next (acc ++ ns)) r q → Needs (MoreDecls acc next) ts q
  procs : {acc : List Procedure} {next : List Procedure → Wanted} {ts r : List Token} {q : Program} (ps : List Procedure)
      → IsProcs ts ps r → Needs (next (acc ++ ps)) r q → Needs (MoreProcs acc next) ts q

names_join : {y : Token} {ts : List Token} {ms : List Name} {r : List Token} → y.kind ≡ kind.Name → IsMoreNames ts ms r → IsNames (y ∷ ts) (name_of y ∷ ms) r
names_join {y} h (no_more_names r) = one_name (first_name {token = y} {rest = r} h)
names_join {y} h (names_after x ts ns r c d) = more_names (first_name {token = y} h) (first_word {token = x} {rest = ts} c) d

exprs_join : {ts : List Token} {e : Expression} {us : List Token} {ds : List Expression} {r : List Token}
    → IsExpr ts e us → IsMoreExprs us ds r → IsExprs ts (e ∷ ds) r
exprs_join {ts} {e} d (no_more_exprs r) = one_expr d
exprs_join {ts} {e} d (exprs_after y us ds r c f) = more_exprs d (first_word {token = y} {rest = us} c) f

pub stmts_join : {ts : List Token} {l : Option Name} {at : ℕ} {s : Statement} {us : List Token} {b : Block} {r : List Token}
    → IsStmt ts l at s us → IsMoreStmts us b r → IsStmts ts (Then l at s b) r
stmts_join {ts} {l} {at} {s} d (no_more_stmts r) = one_stmt d
stmts_join {ts} {l} {at} {s} d (stmts_after us b r f) = more_stmts d f

none_op : {o : Op} → None ≡ Some o → ⊥
none_op e = cc

same_op : {o q : Op} → Some o ≡ Some q → o ≡ q
same_op e = cc

-- one more operand
chain_more : (s : Precedence) (k : TokenKind) (ts : List Token) (a : Expression) (x : Token) (us : List Token) (o : Op)
    (b : Expression) (r : List Token) → x.kind ≡ k → operator s k ≡ Some o → IsBinary s ts a (x ∷ us)
    → IsOperand s us b r → IsBinary s ts (Operation o a b) r
chain_more Equality kind.Equal ts a x us o b r h e c d =
    subst (λ p. IsEq ts (Operation p a b) r) (same_op e) (equality c (first_word {token = x} {rest = us} h) d)
chain_more Equality kind.Differ ts a x us o b r h e c d =
    subst (λ p. IsEq ts (Operation p a b) r) (same_op e) (difference c (first_word {token = x} {rest = us} h) d)
chain_more Conjunction kind.Ampersand ts a x us o b r h e c d =
    subst (λ p. IsAnd ts (Operation p a b) r) (same_op e) (conjunction c (first_word {token = x} {rest = us} h) d)
chain_more Exclusion kind.Caret ts a x us o b r h e c d =
    subst (λ p. IsXor ts (Operation p a b) r) (same_op e) (exclusion c (first_word {token = x} {rest = us} h) d)
chain_more Disjunction kind.Bar ts a x us o b r h e c d =
    subst (λ p. IsOr ts (Operation p a b) r) (same_op e) (disjunction c (first_word {token = x} {rest = us} h) d)
chain_more _ _ ts a x us o b r h e c d = absurd (none_op e)

chain_join : (s : Precedence) (ts us : List Token) (a b : Expression) (r : List Token) → IsBinary s ts a us → IsMoreOperands s a us b r → IsBinary s ts b r
chain_join s ts us a b r c (no_more_operands _ _ _) = c
chain_join s ts _ a b r c (operand_after _ _ x us o d vs _ _ h i m) =
    chain_join s ts vs (Operation o a d) b r (chain_more s x.kind ts a x us o d vs refl h c i) m

implied_join : (ts us : List Token) (a b : Expression) (r : List Token) → IsOr ts a us → IsMoreImplied a us b r → IsExpr ts b r
implied_join ts us a b r d (nothing_implied _ _) = of_or d
implied_join ts _ a b r d (implied_after _ x us c _ h f) = implication d (first_word {token = x} {rest = us} h) f

-- a whole operand, a whole expression, whole lists of names and expressions, whole blocks
pub operand_from : (s : Precedence) (next : Expression → Wanted) (ts : List Token) (q : Program)
    → Needs (OperandThen s next) ts q → (e : Expression) × (r : List Token) × IsOperand s ts e r × Needs (next e) r q
operand_from Equality next ts q (un a ua n) = (a, _, ua, n)
operand_from Conjunction next ts q (un a ua (operands b mb n)) =
    (b, _, chain_join Equality ts _ a b _ (of_un ua) mb, n)
operand_from Exclusion next ts q (un a ua (operands b mb (operands c mc n))) =
    (c, _, chain_join Conjunction ts _ b c _ (of_eq (chain_join Equality ts _ a b _ (of_un ua) mb)) mc, n)
operand_from Disjunction next ts q (un a ua (operands b mb (operands c mc (operands d md n)))) =
    (d, _, chain_join Exclusion ts _ c d _ (of_and (chain_join Conjunction ts _ b c _ (of_eq (chain_join Equality ts _ a b _ (of_un ua) mb)) mc)) md, n)

pub expr_from : (next : Expression → Wanted) (ts : List Token) (q : Program) → Needs (ExprThen next) ts q
    → (e : Expression) × (r : List Token) × IsExpr ts e r × Needs (next e) r q
expr_from next ts q (un a ua (operands b mb (operands c mc (operands d md (operands f mf (implied e me n)))))) =
    let eq = chain_join Equality ts _ a b _ (of_un ua) mb in
    let and = chain_join Conjunction ts _ b c _ (of_eq eq) mc in
    let xor = chain_join Exclusion ts _ c d _ (of_and and) md in
    let or = chain_join Disjunction ts _ d f _ (of_xor xor) mf in
    (e, _, implied_join ts _ f e _ or me, n)

pub names_from : (acc : List Name) (next : List Name → Wanted) (ts : List Token) (q : Program)
    → Needs (NamesThen acc next) ts q
    → (ns : List Name) × (r : List Token) × IsNames ts ns r × Needs (next (acc ++ ns)) r q
names_from acc next ts q given1 = search (rules, name, names, names_join, regrouped)

pub exprs_from : (acc : List Expression) (next : List Expression → Wanted) (ts : List Token) (q : Program)
    → Needs (ExprsThen acc next) ts q
    → (es : List Expression) × (r : List Token) × IsExprs ts es r × Needs (next (acc ++ es)) r q
exprs_from acc next ts q n = let p = expr_from (λ e. MoreExprs (acc ++ e ∷ []) next) ts q n in joined p.0 p.1 p.2 p.3
  where
    joined : (e : Expression) (us : List Token) → IsExpr ts e us → Needs (MoreExprs (acc ++ e ∷ []) next) us q
        → (es : List Expression) × (r : List Token) × IsExprs ts es r × Needs (next (acc ++ es)) r q
    joined e us d (exprs {r = r} ds m n) = (e ∷ ds, r, exprs_join d m, simp regrouped at n)
