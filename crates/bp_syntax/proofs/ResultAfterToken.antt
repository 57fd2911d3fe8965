-- The parser's result after one token, by the expected phrases.
use Rattle.bp_syntax.proofs.Common.{◌≡◌, ℕ, Bool, true, false, cond, List, [], ◌∷◌, ◌++◌, Option, Some, None, refl, ap, drop, Result, IsErrAnd, arith, rules, Name, Expression, Operation, Decision, Choose, Decide, Block, Done, Statement, Procedure, Variable, Then, Op, statement_of, block_of, Token, name_of, TokenKind, the_type, is_same_kind, Wanted, WordThen, NameThen, MoreNames, AnyNamesThen, UnThen, MoreOperands, MoreImplied, MoreExprs, AnyExprsThen, DeciderThen, FormThen, StmtThen, MoreStmts, MoreDecls, MoreProcs, NamesThen, ExprThen, ExprsThen, StmtsThen, OperandThen, ProcThen, wanted_in_un, wanted_in_form, operator, Stops, result_after, parse_result, is_at, is_at_form, is_at_expr, operator_ahead, kind_ahead, CallThen, AssignThen, place_ahead, ParseResult, IsStop, ReadsBy, Precedence}
use denote.Enum.Bare.{true_same}
use Rattle.bp_syntax.specs.declared.exprs.Op.TheVariants as op
use Rattle.bp_syntax.specs.declared.stmts.Stmt.{Stmt}
use Rattle.bp_syntax.specs.declared.tokens.TokenKind.TheVariants as kind
use Rattle.bp_syntax.specs.declared.parser.Stop.{Stop}
use Rattle.bp_syntax.proofs.NextTokenIsWanted.{same}

pub yes : (x : Token) (k : TokenKind) → x.kind ≡ k → is_same_kind x.kind k ≡ true
yes x k h = true_same the_type x.kind k h

-- by a test of the next token
pub taken : (b : Bool) (w : Wanted) (o : Option Wanted) (x : Token) (r : List Token) → b ≡ true
    → result_after (cond b (Some w) o) (λ v. parse_result v r) (Stops (x ∷ r)) ≡ parse_result w r
taken b w o x r h = ap (λ t. result_after (cond t (Some w) o) (λ v. parse_result v r) (Stops (x ∷ r))) h

pub read_word : (k : TokenKind) (next : Wanted) (x : Token) (r : List Token) → x.kind ≡ k → parse_result (WordThen k next) (x ∷ r) ≡ parse_result next r
read_word k next x r h = taken _ next None x r (yes x k h)

pub read_name : (next : Name → Wanted) (x : Token) (r : List Token) → x.kind ≡ kind.Name
    → parse_result (NameThen next) (x ∷ r) ≡ parse_result (next (name_of x)) r
read_name next x r h = taken _ (next (name_of x)) None x r (yes x kind.Name h)

pub read_comma : (acc : List Name) (next : List Name → Wanted) (x : Token) (r : List Token) → x.kind ≡ kind.Comma
    → parse_result (MoreNames acc next) (x ∷ r) ≡ parse_result (NamesThen acc next) r
read_comma acc next x r h = taken _ (NamesThen acc next) _ x r (yes x kind.Comma h)

pub no_comma : (acc : List Name) (next : List Name → Wanted) (r : List Token) → is_at kind.Comma r ≡ false
    → parse_result (MoreNames acc next) r ≡ parse_result (next acc) r
no_comma acc next r given1 = grind (arith)

-- a list of names that may be empty, if there is one, or none
pub some_name : (next : List Name → Wanted) (ts : List Token) → is_at kind.Name ts ≡ true
    → parse_result (AnyNamesThen next) ts ≡ parse_result (NamesThen [] next) ts
some_name next ts given1 = grind (arith)

pub no_name : (next : List Name → Wanted) (r : List Token) → is_at kind.Name r ≡ false → parse_result (AnyNamesThen next) r ≡ parse_result (next []) r
no_name next r given1 = grind (arith)

pub read_expr_comma : (acc : List Expression) (next : List Expression → Wanted) (x : Token) (r : List Token)
    → x.kind ≡ kind.Comma → parse_result (MoreExprs acc next) (x ∷ r) ≡ parse_result (ExprsThen acc next) r
read_expr_comma acc next x r h = taken _ (ExprsThen acc next) _ x r (yes x kind.Comma h)

pub no_expr_comma : (acc : List Expression) (next : List Expression → Wanted) (r : List Token)
    → is_at kind.Comma r ≡ false → parse_result (MoreExprs acc next) r ≡ parse_result (next acc) r
no_expr_comma acc next r given1 = grind (arith)

pub some_expr : (next : List Expression → Wanted) (ts : List Token) → is_at_expr ts ≡ true
    → parse_result (AnyExprsThen next) ts ≡ parse_result (ExprsThen [] next) ts
some_expr next ts given1 = grind (arith)

pub no_expr : (next : List Expression → Wanted) (r : List Token) → is_at_expr r ≡ false → parse_result (AnyExprsThen next) r ≡ parse_result (next []) r
no_expr next r given1 = grind (arith)

pub read_operator : (s : Precedence) (o : Op) (a : Expression) (next : Expression → Wanted) (x : Token) (r : List Token)
    → operator s x.kind ≡ Some o
    → parse_result (MoreOperands s a next) (x ∷ r)
    ≡ parse_result (OperandThen s (λ b. MoreOperands s (Operation o a b) next)) r
read_operator s o a next x r given1 = grind (arith)

pub no_operator : (s : Precedence) (a : Expression) (next : Expression → Wanted) (r : List Token)
    → operator_ahead s r ≡ None → parse_result (MoreOperands s a next) r ≡ parse_result (next a) r
no_operator s a next r given1 = grind (arith)

pub read_implies : (a : Expression) (next : Expression → Wanted) (x : Token) (r : List Token) → x.kind ≡ kind.Implies
    → parse_result (MoreImplied a next) (x ∷ r) ≡ parse_result (ExprThen (λ b. next (Operation op.Implies a b))) r
read_implies a next x r h = taken _ (ExprThen (λ b. next (Operation op.Implies a b))) _ x r (yes x kind.Implies h)

pub no_implies : (a : Expression) (next : Expression → Wanted) (r : List Token) → is_at kind.Implies r ≡ false
    → parse_result (MoreImplied a next) r ≡ parse_result (next a) r
no_implies a next r given1 = grind (arith)

pub at_kind_un : (k : TokenKind) (next : Expression → Wanted) (x : Token) (r : List Token) → x.kind ≡ k
    → parse_result (UnThen next) (x ∷ r) ≡ result_after (wanted_in_un k next x) (λ v. parse_result v r) (Stops (x ∷ r))
at_kind_un k next x r h = ap (λ a. result_after (wanted_in_un a next x) (λ v. parse_result v r) (Stops (x ∷ r))) h

pub read_question : (next : Decision → Wanted) (x : Token) (r : List Token) → x.kind ≡ kind.Question
    → parse_result (DeciderThen next) (x ∷ r) ≡ parse_result (next Choose) r
read_question next x r h = taken _ (next Choose) _ x r (yes x kind.Question h)

pub no_question : (next : Decision → Wanted) (ts : List Token) → is_at kind.Question ts ≡ false
    → parse_result (DeciderThen next) ts ≡ parse_result (ExprThen (λ e. next (Decide e))) ts
no_question next ts given1 = grind (arith)

pub at_kind_form : (k : TokenKind) (next : ℕ → Statement → Wanted) (x : Token) (r : List Token) → x.kind ≡ k
    → parse_result (FormThen next) (x ∷ r)
    ≡ result_after (wanted_in_form k (next x.at) x) (λ v. parse_result v r) (Stops (x ∷ r))
at_kind_form k next x r h = ap (λ a. result_after (wanted_in_form a (next x.at) x) (λ v. parse_result v r) (Stops (x ∷ r))) h

pub more_stmts_ahead : (next : Block → Wanted) (ts : List Token) → is_at_form ts ≡ true → parse_result (MoreStmts next) ts ≡ parse_result (StmtsThen next) ts
more_stmts_ahead next ts given1 = grind (arith)

pub no_stmt : (next : Block → Wanted) (ts : List Token) → is_at_form ts ≡ false → parse_result (MoreStmts next) ts ≡ parse_result (next Done) ts
no_stmt next ts given1 = grind (arith)

pub read_decl : (acc : List Name) (next : List Name → Wanted) (x : Token) (r : List Token) → x.kind ≡ kind.Decl
    → parse_result (MoreDecls acc next) (x ∷ r)
    ≡ parse_result (NamesThen acc (λ ns. WordThen kind.Semicolon (MoreDecls ns next))) r
read_decl acc next x r h = taken _ (NamesThen acc (λ ns. WordThen kind.Semicolon (MoreDecls ns next))) _ x r (yes x kind.Decl h)

pub no_decl_ahead : (acc : List Name) (next : List Name → Wanted) (r : List Token) → is_at kind.Decl r ≡ false
    → parse_result (MoreDecls acc next) r ≡ parse_result (next acc) r
no_decl_ahead acc next r given1 = grind (arith)

pub more_procs_ahead : (acc : List Procedure) (next : List Procedure → Wanted) (ts : List Token)
    → is_at kind.Name ts ≡ true
    → parse_result (MoreProcs acc next) ts ≡ parse_result (ProcThen (λ p. MoreProcs (acc ++ p ∷ []) next)) ts
more_procs_ahead acc next ts given1 = grind (arith)

pub no_proc_ahead : (acc : List Procedure) (next : List Procedure → Wanted) (r : List Token) → is_at kind.Name r ≡ false
    → parse_result (MoreProcs acc next) r ≡ parse_result (next acc) r
no_proc_ahead acc next r given1 = grind (arith)

-- a statement that begins with a name
pub call_ahead : (next : ℕ → Statement → Wanted) (x : Token) (r : List Token) → x.kind ≡ kind.Name
    → is_at kind.Open r ≡ true → parse_result (FormThen next) (x ∷ r) ≡ parse_result (CallThen (next x.at)) (x ∷ r)
call_ahead next x r given1 given2 = grind (arith)

pub assign_ahead : (next : ℕ → Statement → Wanted) (x : Token) (r : List Token) → x.kind ≡ kind.Name
    → is_at kind.Open r ≡ false → parse_result (FormThen next) (x ∷ r) ≡ parse_result (AssignThen (next x.at)) (x ∷ r)
assign_ahead next x r given1 given2 = grind (arith)

-- a label, or none
pub read_label : (next : Option Name → ℕ → Statement → Wanted) (x y : Token) (r : List Token) → x.kind ≡ kind.Name
    → y.kind ≡ kind.Colon
    → parse_result (StmtThen next) (x ∷ y ∷ r) ≡ parse_result (FormThen (next (Some (name_of x)))) r
read_label next x y r given1 given2 = grind (arith)

pub no_label : (next : Option Name → ℕ → Statement → Wanted) (ts : List Token)
    → (kind_ahead ts ≡ Some kind.Name → is_at kind.Colon (drop 1 ts) ≡ false)
    → parse_result (StmtThen next) ts ≡ parse_result (FormThen (next None)) ts
no_label next ts given1 = grind (arith)

-- The parser's result, by the next tokens.

-- a function that passes another's refusal on stops there too
pub at_exit : {U : Type 0} (r : Result U Stop) (e : Stop) (before : Wanted) (old new : List Token) (after : U → Wanted)
    (o : ParseResult) → IsErrAnd r (λ d. d ≡ e) → parse_result before old ≡ o → IsStop e o new
    → ReadsBy r before old new after
at_exit given1 given2 given3 = grind (arith)

-- a callee's answer is the caller's
pub passed_on : {T : Type 0} (r : Result T Stop) (before mid : Wanted) (old old' new : List Token) (after : T → Wanted)
    → parse_result before old ≡ parse_result mid old' → ReadsBy r mid old' new after → ReadsBy r before old new after
passed_on given1 given2 = grind (arith)

pub ahead_name : (next : Expression → Wanted) (ts : List Token) → kind_ahead ts ≡ Some kind.Name
    → parse_result (UnThen next) ts ≡ parse_result (NameThen (λ n. next (Variable n))) ts
ahead_name next ts given1 = grind (arith)

pub implies_ahead : (a : Expression) (next : Expression → Wanted) (ts left : List Token) → is_at kind.Implies ts ≡ true
    → left ≡ drop 1 ts
    → parse_result (MoreImplied a next) ts ≡ parse_result (ExprThen (λ b. next (Operation op.Implies a b))) left
implies_ahead a next ts left given1 given2 = grind (arith)

-- a label comes
pub label_ahead : (next : Option Name → ℕ → Statement → Wanted) (ts : List Token) → is_at kind.Name ts ≡ true
    → is_at kind.Colon (drop 1 ts) ≡ true
    → parse_result (StmtThen next) ts ≡ parse_result (NameThen (λ n. WordThen kind.Colon (FormThen (next (Some n))))) ts
label_ahead next ts given1 given2 = grind (arith)

-- a statement that begins with a name
pub call_comes : (next : ℕ → Statement → Wanted) (ts : List Token) → is_at kind.Name ts ≡ true
    → is_at kind.Open (drop 1 ts) ≡ true
    → parse_result (FormThen next) ts ≡ parse_result (CallThen (next (place_ahead ts))) ts
call_comes next ts given1 given2 = grind (arith)

pub assign_comes : (next : ℕ → Statement → Wanted) (ts : List Token) → is_at kind.Name ts ≡ true
    → is_at kind.Open (drop 1 ts) ≡ false
    → parse_result (FormThen next) ts ≡ parse_result (AssignThen (next (place_ahead ts))) ts
assign_comes next ts given1 given2 = grind (arith)

-- a statement that begins with a word
pub word_comes : (k : TokenKind) (next : ℕ → Statement → Wanted) (ts : List Token) (w : Wanted) → kind_ahead ts ≡ Some k
    → ((x : Token) → wanted_in_form k (next (place_ahead ts)) x ≡ Some w)
    → parse_result (FormThen next) ts ≡ parse_result (WordThen k w) ts
word_comes k next ts w given1 given2 = grind (arith)

-- statements before a block
abbrev pub before_block : List Stmt → Block → Block
before_block [] b = b
before_block (s ∷ ss) b = Then s.label s.at (statement_of s.form) (before_block ss b)

pub block_is : (ss : List Stmt) → before_block ss Done ≡ block_of ss
block_is [] = refl
block_is (s ∷ ss) = ap (Then s.label s.at (statement_of s.form)) (block_is ss)

pub one_more_stmt : (ss : List Stmt) (s : Stmt) (b : Block) → before_block (ss ++ s ∷ []) b ≡ before_block ss (Then s.label s.at (statement_of s.form) b)
one_more_stmt [] s b = refl
one_more_stmt (t ∷ ss) s b = ap (Then t.label t.at (statement_of t.form)) (one_more_stmt ss s b)

pub one_more_form : (next : Block → Wanted) (ss ss' : List Stmt) (s : Stmt) (ts : List Token) → ss' ≡ ss ++ s ∷ []
    → parse_result (MoreStmts (λ b. next (before_block ss (Then s.label s.at (statement_of s.form) b)))) ts
    ≡ parse_result (MoreStmts (λ b. next (before_block ss' b))) ts
one_more_form next ss ss' s ts given1 = search (rules, same, one_more_stmt)
