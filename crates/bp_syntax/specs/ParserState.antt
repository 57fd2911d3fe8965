-- A device: the parser as the code does it, by the phrases that it still expects, and how a token
-- changes them. No public contract names it.
use Rattle.std.specs.Prelude.{◌≡◌, ℕ, Bool, true, false, if◌then◌else◌, List, [], ◌∷◌, ◌++◌, Option, Some, None, Result, MatchResult}
use denote.Enum.Bare.{sameb}
use Rattle.bp_syntax.specs.Ast.{Name, Expression, Constant, Variable, Negation, Operation, Decision, Choose, Decide, Block, Done, Then, Statement, Skips, GoesTo, Returns, Assigns, Branches, Loops, Asserts, Assumes, Prints, Calls, Procedure, Program}
use Rattle.bp_syntax.specs.declared.exprs.Op.{Op}
use Rattle.bp_syntax.specs.declared.exprs.Op.TheVariants as op
use Rattle.bp_syntax.specs.Tokens.{Token}
use Rattle.bp_syntax.specs.Grammar.{name_of}
use Rattle.bp_syntax.specs.declared.tokens.TokenKind.{TokenKind}
use Rattle.bp_syntax.specs.declared.tokens.TokenKind.TheVariants as kind
use Rattle.bp_syntax.specs.contracts.tokens.TokenKind.{the_type}
use Rattle.bp_syntax.specs.declared.errors.ReadError.{ReadError}
use Rattle.bp_syntax.specs.declared.errors.ReadError.TheVariants as error
use Rattle.bp_syntax.specs.declared.parser.operators.Precedence.{Precedence}
use Rattle.bp_syntax.specs.declared.parser.operators.Precedence.TheVariants.{Equality, Conjunction, Exclusion, Disjunction}
use Rattle.bp_syntax.specs.declared.parser.Stop.{Stop}
use Rattle.bp_syntax.specs.declared.parser.Stop.TheVariants as stop

abbrev pub is_same_kind : TokenKind → TokenKind → Bool
is_same_kind a b = sameb the_type a b

-- the operator of the precedence for a kind of token
abbrev pub operator : Precedence → TokenKind → Option Op
operator Equality kind.Equal = Some op.Equal
operator Equality kind.Differ = Some op.Differ
operator Conjunction kind.Ampersand = Some op.And
operator Exclusion kind.Caret = Some op.Xor
operator Disjunction kind.Bar = Some op.Or
operator _ _ = None

-- the expected next phrase, and all from it on
pub data Wanted : Type 0 where
  Complete : (p : Program) → Wanted
  WordThen : (k : TokenKind) (next : Wanted) → Wanted
  NameThen : (next : Name → Wanted) → Wanted
  MoreNames : (ns : List Name) (next : List Name → Wanted) → Wanted
  AnyNamesThen : (next : List Name → Wanted) → Wanted
  UnThen : (next : Expression → Wanted) → Wanted
  MoreOperands : (s : Precedence) (e : Expression) (next : Expression → Wanted) → Wanted
  MoreImplied : (e : Expression) (next : Expression → Wanted) → Wanted
  MoreExprs : (es : List Expression) (next : List Expression → Wanted) → Wanted
  AnyExprsThen : (next : List Expression → Wanted) → Wanted
  DeciderThen : (next : Decision → Wanted) → Wanted
  FormThen : (next : ℕ → Statement → Wanted) → Wanted
  FormAfter : (x : Token) (next : Statement → Wanted) → Wanted
  StmtThen : (next : Option Name → ℕ → Statement → Wanted) → Wanted
  StmtAfter : (x : Token) (next : Option Name → ℕ → Statement → Wanted) → Wanted
  MoreStmts : (next : Block → Wanted) → Wanted
  MoreDecls : (ns : List Name) (next : List Name → Wanted) → Wanted
  MoreProcs : (ps : List Procedure) (next : List Procedure → Wanted) → Wanted

-- one or more further names, after these
abbrev pub NamesThen : List Name → (List Name → Wanted) → Wanted
NamesThen ns next = NameThen (λ n. MoreNames (ns ++ n ∷ []) next)

-- the operators that bind more tightly than the precedence, after their first operand
abbrev pub MoreTighter : Precedence → Expression → (Expression → Wanted) → Wanted
MoreTighter Equality e next = next e
MoreTighter Conjunction e next = MoreOperands Equality e next
MoreTighter Exclusion e next = MoreOperands Equality e (λ a. MoreOperands Conjunction a next)
MoreTighter Disjunction e next =
    MoreOperands Equality e (λ a.
    MoreOperands Conjunction a (λ b.
    MoreOperands Exclusion b next))

-- an operand of an operator of the precedence
abbrev pub OperandThen : Precedence → (Expression → Wanted) → Wanted
OperandThen s next = UnThen (λ e. MoreTighter s e next)

-- operands with operators of the precedence between them
abbrev pub BinaryThen : Precedence → (Expression → Wanted) → Wanted
BinaryThen s next = OperandThen s (λ e. MoreOperands s e next)

-- the expected phrases in an expression after its first operand
abbrev pub wanted_after_un : (Expression → Wanted) → Expression → Wanted
wanted_after_un next e =
    MoreOperands Equality e (λ a.
    MoreOperands Conjunction a (λ b.
    MoreOperands Exclusion b (λ c.
    MoreOperands Disjunction c (λ d.
    MoreImplied d next))))

abbrev pub ExprThen : (Expression → Wanted) → Wanted
ExprThen next = UnThen (wanted_after_un next)

abbrev pub ExprsThen : List Expression → (List Expression → Wanted) → Wanted
ExprsThen es next = ExprThen (λ e. MoreExprs (es ++ e ∷ []) next)

abbrev pub StmtsThen : (Block → Wanted) → Wanted
StmtsThen next = StmtThen (λ l at s. MoreStmts (λ b. next (Then l at s b)))

abbrev pub wanted_in_un : TokenKind → (Expression → Wanted) → Token → Option Wanted
wanted_in_un kind.Bang next x = Some (UnThen (λ e. next (Negation e)))
wanted_in_un kind.Zero next x = Some (next (Constant false))
wanted_in_un kind.One next x = Some (next (Constant true))
wanted_in_un kind.Name next x = Some (next (Variable (name_of x)))
wanted_in_un kind.Open next x = Some (ExprThen (λ e. WordThen kind.Close (next e)))
wanted_in_un _ next x = None

-- a decider in brackets, and the end of its statement
abbrev pub ConditionThen : (Decision → Wanted) → Wanted
ConditionThen next = WordThen kind.Open (DeciderThen (λ d. WordThen kind.Close (next d)))

-- a decider in brackets between two words
abbrev pub ConditionBetween : TokenKind → TokenKind → (Decision → Wanted) → Wanted
ConditionBetween before after next =
    WordThen before (ConditionThen (λ d. WordThen after (next d)))

-- statements, and the word that ends them
abbrev pub StmtsTo : TokenKind → (Block → Wanted) → Wanted
StmtsTo end next = StmtsThen (λ b. WordThen end (next b))

-- expressions in brackets, and the end of their statement
abbrev pub ListedThen : (List Expression → Wanted) → Wanted
ListedThen next =
    WordThen kind.Open (AnyExprsThen (λ es.
    WordThen kind.Close (WordThen kind.Semicolon (next es))))

-- a statement that is one word
abbrev pub OneWordThen : TokenKind → Statement → (Statement → Wanted) → Wanted
OneWordThen k s next = WordThen k (WordThen kind.Semicolon (next s))

-- a statement that begins with a keyword, from that word on
abbrev pub KeywordThen : TokenKind → ((Statement → Wanted) → Wanted) → (Statement → Wanted) → Wanted
KeywordThen k rest next = WordThen k (rest next)

-- the statements of src/ after their word, or after a target or a callee
abbrev pub GotoThen : (Statement → Wanted) → Wanted
GotoThen next = NameThen (λ n. WordThen kind.Semicolon (next (GoesTo n)))

abbrev pub IfThen : (Statement → Wanted) → Wanted
IfThen next =
    ConditionThen (λ d.
    WordThen kind.Then (StmtsThen (λ a.
    WordThen kind.Else (StmtsThen (λ b.
    WordThen kind.Fi (next (Branches d a b)))))))

abbrev pub WhileThen : (Statement → Wanted) → Wanted
WhileThen next =
    ConditionThen (λ d. WordThen kind.Do (StmtsThen (λ a. WordThen kind.Od (next (Loops d a)))))

abbrev pub AssertThen : (Statement → Wanted) → Wanted
AssertThen next = ConditionThen (λ d. WordThen kind.Semicolon (next (Asserts d)))

abbrev pub AssumeThen : (Statement → Wanted) → Wanted
AssumeThen next = ConditionThen (λ d. WordThen kind.Semicolon (next (Assumes d)))

abbrev pub PrintThen : (Statement → Wanted) → Wanted
PrintThen next =
    WordThen kind.Open (ExprsThen [] (λ es.
    WordThen kind.Close (WordThen kind.Semicolon (next (Prints es)))))

abbrev pub ArgumentsThen : Name → (Statement → Wanted) → Wanted
ArgumentsThen n next =
    AnyExprsThen (λ es. WordThen kind.Close (WordThen kind.Semicolon (next (Calls n es))))

abbrev pub ValuesThen : List Name → (Statement → Wanted) → Wanted
ValuesThen ns next = ExprsThen [] (λ es. WordThen kind.Semicolon (next (Assigns ns es)))

abbrev pub TargetsThen : (Statement → Wanted) → List Name → Wanted
TargetsThen next ns = WordThen kind.Becomes (ValuesThen ns next)

abbrev pub AssignThen : (Statement → Wanted) → Wanted
AssignThen next = NamesThen [] (TargetsThen next)

abbrev pub CallThen : (Statement → Wanted) → Wanted
CallThen next = NameThen (λ n. WordThen kind.Open (ArgumentsThen n next))

-- after the first name of an assignment or a call
abbrev pub wanted_after_name : Token → (Statement → Wanted) → Token → Option Wanted
wanted_after_name x next y =
    if is_same_kind y.kind kind.Open then Some (ArgumentsThen (name_of x) next)
    else if is_same_kind y.kind kind.Comma then Some (NamesThen (name_of x ∷ []) (TargetsThen next))
    else if is_same_kind y.kind kind.Becomes then Some (ValuesThen (name_of x ∷ []) next)
    else None

abbrev pub wanted_in_form : TokenKind → (Statement → Wanted) → Token → Option Wanted
wanted_in_form kind.Skip next x = Some (WordThen kind.Semicolon (next Skips))
wanted_in_form kind.Goto next x = Some (GotoThen next)
wanted_in_form kind.Return next x = Some (WordThen kind.Semicolon (next Returns))
wanted_in_form kind.Name next x = Some (FormAfter x next)
wanted_in_form kind.If next x = Some (IfThen next)
wanted_in_form kind.While next x = Some (WhileThen next)
wanted_in_form kind.Assert next x = Some (AssertThen next)
wanted_in_form kind.Assume next x = Some (AssumeThen next)
wanted_in_form kind.Print next x = Some (PrintThen next)
wanted_in_form _ next x = None

abbrev pub is_form_start : TokenKind → Bool
is_form_start kind.Skip = true
is_form_start kind.Goto = true
is_form_start kind.Return = true
is_form_start kind.Name = true
is_form_start kind.If = true
is_form_start kind.While = true
is_form_start kind.Assert = true
is_form_start kind.Assume = true
is_form_start kind.Print = true
is_form_start _ = false

-- a statement that may have a label
abbrev pub wanted_in_stmt :
    TokenKind → (Option Name → ℕ → Statement → Wanted) → Token → Option Wanted
wanted_in_stmt kind.Name next x = Some (StmtAfter x next)
wanted_in_stmt k next x = wanted_in_form k (next None x.at) x

abbrev pub program_of : List Name → List Procedure → Program
program_of gs ps = record { globals = gs; procedures = ps }

abbrev pub procedure_of : Name → List Name → List Name → Block → Procedure
procedure_of n fs ls b = record { name = n; formals = fs; locals = ls; body = b }

-- a procedure after its name
abbrev pub BodyThen : Name → (Procedure → Wanted) → Wanted
BodyThen n next =
    WordThen kind.Open (AnyNamesThen (λ fs.
    WordThen kind.Close (WordThen kind.Begin (MoreDecls [] (λ ls.
    StmtsThen (λ b.
    WordThen kind.End (next (procedure_of n fs ls b))))))))

-- the formals of a procedure, and the word that begins its body
abbrev pub FormalsThen : (List Name → Wanted) → Wanted
FormalsThen next =
    WordThen kind.Open (AnyNamesThen (λ fs. WordThen kind.Close (WordThen kind.Begin (next fs))))

abbrev pub ProcThen : (Procedure → Wanted) → Wanted
ProcThen next = NameThen (λ n. BodyThen n next)

-- an expression begins with a token of the kind
abbrev pub is_un_start : TokenKind → Bool
is_un_start kind.Bang = true
is_un_start kind.Zero = true
is_un_start kind.One = true
is_un_start kind.Name = true
is_un_start kind.Open = true
is_un_start _ = false

-- continues by an operator, or otherwise
abbrev pub wanted_by_operator : Option Op → (Op → Wanted) → Option Wanted → Option Wanted
wanted_by_operator None go other = other
wanted_by_operator (Some o) go other = Some (go o)

-- the phrases expected after a token, if it may come
abbrev pub wanted_after : Wanted → Token → Option Wanted
wanted_after (Complete p) x = None
wanted_after (WordThen k next) x = if is_same_kind x.kind k then Some next else None
wanted_after (NameThen next) x =
    if is_same_kind x.kind kind.Name then Some (next (name_of x))
    else None
wanted_after (MoreNames ns next) x =
    if is_same_kind x.kind kind.Comma then Some (NamesThen ns next)
    else wanted_after (next ns) x
wanted_after (AnyNamesThen next) x =
    if is_same_kind x.kind kind.Name then Some (MoreNames (name_of x ∷ []) next)
    else wanted_after (next []) x
wanted_after (UnThen next) x = wanted_in_un x.kind next x
wanted_after (MoreOperands s e next) x =
    wanted_by_operator (operator s x.kind)
    (λ o. OperandThen s (λ f. MoreOperands s (Operation o e f) next))
    (wanted_after (next e) x)
wanted_after (MoreImplied e next) x =
    if is_same_kind x.kind kind.Implies then Some (ExprThen (λ f. next (Operation op.Implies e f)))
    else wanted_after (next e) x
wanted_after (MoreExprs es next) x =
    if is_same_kind x.kind kind.Comma then Some (ExprsThen es next)
    else wanted_after (next es) x
wanted_after (AnyExprsThen next) x =
    if is_un_start x.kind
    then wanted_in_un x.kind (wanted_after_un (λ e. MoreExprs (e ∷ []) next)) x
    else wanted_after (next []) x
wanted_after (DeciderThen next) x =
    if is_same_kind x.kind kind.Question then Some (next Choose)
    else wanted_in_un x.kind (wanted_after_un (λ e. next (Decide e))) x
wanted_after (FormThen next) x = wanted_in_form x.kind (next x.at) x
wanted_after (FormAfter x next) y = wanted_after_name x next y
wanted_after (StmtThen next) x = wanted_in_stmt x.kind next x
wanted_after (StmtAfter x next) y =
    if is_same_kind y.kind kind.Colon then Some (FormThen (next (Some (name_of x))))
    else wanted_after_name x (next None x.at) y
wanted_after (MoreStmts next) x =
    if is_form_start x.kind
    then wanted_in_stmt x.kind (λ l at s. MoreStmts (λ b. next (Then l at s b))) x
    else wanted_after (next Done) x
wanted_after (MoreDecls ns next) x =
    if is_same_kind x.kind kind.Decl
    then Some (NamesThen ns (λ ms. WordThen kind.Semicolon (MoreDecls ms next)))
    else wanted_after (next ns) x
wanted_after (MoreProcs ps next) x =
    if is_same_kind x.kind kind.Name
    then Some (BodyThen (name_of x) (λ p. MoreProcs (ps ++ p ∷ []) next))
    else wanted_after (next ps) x

-- the program, if the tokens may end
abbrev pub program_at_end : Wanted → Option Program
program_at_end (Complete p) = Some p
program_at_end (MoreNames ns next) = program_at_end (next ns)
program_at_end (AnyNamesThen next) = program_at_end (next [])
program_at_end (MoreOperands s e next) = program_at_end (next e)
program_at_end (MoreImplied e next) = program_at_end (next e)
program_at_end (MoreExprs es next) = program_at_end (next es)
program_at_end (AnyExprsThen next) = program_at_end (next [])
program_at_end (MoreStmts next) = program_at_end (next Done)
program_at_end (MoreDecls ns next) = program_at_end (next ns)
program_at_end (MoreProcs ps next) = program_at_end (next ps)
program_at_end _ = None

-- a program from its first token on
abbrev pub whole_program : Wanted
whole_program = MoreDecls [] (λ gs. MoreProcs [] (λ ps. Complete (program_of gs ps)))

-- a program, or the tokens left before one that may not come
pub data ParseResult : Type 0 where
  Got : (p : Program) → ParseResult
  Stops : (left : List Token) → ParseResult

abbrev pub result_at_end : Option Program → ParseResult
result_at_end None = Stops []
result_at_end (Some p) = Got p

abbrev pub result_after : Option Wanted → (Wanted → ParseResult) → ParseResult → ParseResult
result_after None go stop = stop
result_after (Some w) go stop = go w

abbrev pub parse_result : Wanted → List Token → ParseResult
parse_result w [] = result_at_end (program_at_end w)
parse_result w (x ∷ ts) = result_after (wanted_after w x) (λ v. parse_result v ts) (Stops (x ∷ ts))

-- why a function of the parser stops: the outcome has the place, unless memory ran out
abbrev pub IsStop : Stop → ParseResult → List Token → Type 0
IsStop stop.Unexpected o left = o ≡ Stops left
IsStop stop.Memory o left = Unit {0}

-- reading continues from the first list to the second, or stops there
abbrev pub ReadsBy :
    {T : Type 0} → Result T Stop → Wanted → List Token → List Token → (T → Wanted) → Type 0
ReadsBy r before old new after =
    MatchResult r
    (λ t. parse_result before old ≡ parse_result (after t) new)
    (λ e. IsStop e (parse_result before old) new)

-- the tokens are read to their end, as this program
abbrev pub Parses : List Token → Program → Type 0
Parses ts p = parse_result whole_program ts ≡ Got p

-- a phrase is read: whatever is expected after it, reading continues from there with the meaning of
-- the phrase
abbrev pub ReadsPhrase :
    {T X : Type 0} → Result T Stop → ((X → Wanted) → Wanted)
    → List Token → List Token → (T → X) → Type 0
ReadsPhrase {T} {X} r phrase old new meaning =
    (next : X → Wanted) → ReadsBy r (phrase next) old new (λ t. next (meaning t))

-- the tokens are read to their end, or reading stops
abbrev pub Reads :
    {T : Type 0} → Result T Stop → Wanted → List Token → List Token → (T → Program) → Type 0
Reads r before old new tree =
    MatchResult r
    (λ t. parse_result before old ≡ Got (tree t))
    (λ e. IsStop e (parse_result before old) new)

abbrev pub kind_ahead : List Token → Option TokenKind
kind_ahead [] = None
kind_ahead (x ∷ r) = Some x.kind

abbrev pub place_ahead : List Token → ℕ
place_ahead [] = 0
place_ahead (x ∷ r) = x.at

-- the next token is of the kind
abbrev pub is_at : TokenKind → List Token → Bool
is_at k [] = false
is_at k (x ∷ r) = is_same_kind x.kind k

abbrev pub is_at_form : List Token → Bool
is_at_form [] = false
is_at_form (x ∷ r) = is_form_start x.kind

abbrev pub is_at_expr : List Token → Bool
is_at_expr [] = false
is_at_expr (x ∷ r) = is_un_start x.kind

-- the operator of the precedence that comes next
abbrev pub operator_ahead : Precedence → List Token → Option Op
operator_ahead s [] = None
operator_ahead s (x ∷ r) = operator s x.kind

-- the place of the next token, or of the end
abbrev pub place_or : ℕ → List Token → ℕ
place_or end [] = end
place_or end (x ∷ r) = x.at

-- reading stops at a place
abbrev pub IsParseError : List Token → ℕ → ReadError → Type 0
IsParseError ts end (error.Syntax at) =
    (left : List Token) × (parse_result whole_program ts ≡ Stops left) × (at ≡ place_or end left)
IsParseError ts end error.Memory = Unit {0}
IsParseError ts end _ = ⊥
