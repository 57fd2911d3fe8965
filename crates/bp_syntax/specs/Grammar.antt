-- The grammar, a rule for each production, in the order of docs/language.md; the lists of names and
-- expressions come last. IsExpr ts e rest says that the tokens ts begin with the expression e, and
-- that the tokens rest follow it; likewise for the other phrases. Tokens are named for the phrase
-- that begins with them.
use Rattle.std.specs.Prelude.{◌≡◌, List, ◌∷◌, ℕ, true, false, [], ◌++◌, Option, None, Some}
use Rattle.bp_syntax.specs.Ast.{Name, Expression, Constant, Variable, Negation, Operation, Decision, Choose, Decide, Block, Done, Then, Statement, Skips, GoesTo, Returns, Assigns, Branches, Loops, Asserts, Assumes, Prints, Calls, Procedure, Program}
use Rattle.bp_syntax.specs.declared.exprs.Op.TheVariants as op
use Rattle.bp_syntax.specs.Tokens.{Token}
use Rattle.bp_syntax.specs.declared.tokens.TokenKind.{TokenKind}
use Rattle.bp_syntax.specs.declared.tokens.TokenKind.TheVariants as kind

-- A word and a name at the start of tokens, as the grammar's rules use them.

-- the first token is of this kind, and the rest follows it
pub data Word (k : TokenKind) : List Token → List Token → Type 0 where
  first_word : {token : Token} {rest : List Token} → token.kind ≡ k → Word k (token ∷ rest) rest

-- the name that a token spells
abbrev pub name_of : Token → Name
name_of token = record { text = token.text; at = token.at }

-- NAME
pub data IsName : List Token → Name → List Token → Type 0 where
  first_name :
      {token : Token} {rest : List Token}
      → token.kind ≡ kind.Name
      → IsName (token ∷ rest) (name_of token) rest

mutual
  -- program = decl* proc*
  pub data Derives : List Token → Program → Type 0 where
    program :
        {ts at_procs : List Token} {globals : List Name} {procedures : List Procedure}
        → IsDecls ts globals at_procs
        → IsProcs at_procs procedures []
        → Derives ts (record { globals = globals; procedures = procedures })

  -- decl*
  pub data IsDecls : List Token → List Name → List Token → Type 0 where
    no_decl : {rest : List Token} → IsDecls rest [] rest
    more_decls :
        {ts at_more rest : List Token} {names more : List Name}
        → IsDecl ts names at_more
        → IsDecls at_more more rest
        → IsDecls ts (names ++ more) rest

  -- decl = "decl" NAME,+ ";"
  pub data IsDecl : List Token → List Name → List Token → Type 0 where
    decl :
        {ts at_names at_end rest : List Token} {names : List Name}
        → Word kind.Decl ts at_names
        → IsNames at_names names at_end
        → Word kind.Semicolon at_end rest
        → IsDecl ts names rest

  -- proc*
  pub data IsProcs : List Token → List Procedure → List Token → Type 0 where
    no_proc : {rest : List Token} → IsProcs rest [] rest
    more_procs :
        {ts at_more rest : List Token} {procedure : Procedure} {more : List Procedure}
        → IsProc ts procedure at_more
        → IsProcs at_more more rest
        → IsProcs ts (procedure ∷ more) rest

  -- proc = NAME "(" NAME,* ")" "begin" decl* stmt+ "end"
  pub data IsProc : List Token → Procedure → List Token → Type 0 where
    proc :
        {ts at_open at_formals at_close at_begin at_locals at_body at_end rest : List Token}
        {name : Name} {formals locals : List Name} {body : Block}
        → IsName ts name at_open
        → Word kind.Open at_open at_formals
        → IsAnyNames at_formals formals at_close
        → Word kind.Close at_close at_begin
        → Word kind.Begin at_begin at_locals
        → IsDecls at_locals locals at_body
        → IsStmts at_body body at_end
        → Word kind.End at_end rest
        → IsProc ts (record { name = name; formals = formals; locals = locals; body = body }) rest

  -- stmt+
  pub data IsStmts : List Token → Block → List Token → Type 0 where
    one_stmt :
        {ts rest : List Token} {label : Option Name} {at : ℕ} {statement : Statement}
        → IsStmt ts label at statement rest
        → IsStmts ts (Then label at statement Done) rest
    more_stmts :
        {ts at_more rest : List Token}
        {label : Option Name} {at : ℕ} {statement : Statement} {more : Block}
        → IsStmt ts label at statement at_more
        → IsStmts at_more more rest
        → IsStmts ts (Then label at statement more) rest

  -- stmt = label? form, label = NAME ":"; its place is that of its first token after the label
  pub data IsStmt : List Token → Option Name → ℕ → Statement → List Token → Type 0 where
    labelled :
        {ts at_colon behind rest : List Token}
        {label : Name} {first : Token} {statement : Statement}
        → IsName ts label at_colon
        → Word kind.Colon at_colon (first ∷ behind)
        → IsForm (first ∷ behind) statement rest
        → IsStmt ts (Some label) first.at statement rest
    unlabelled :
        {behind rest : List Token} {first : Token} {statement : Statement}
        → IsForm (first ∷ behind) statement rest
        → IsStmt (first ∷ behind) None first.at statement rest

  -- form, with all its productions
  pub data IsForm : List Token → Statement → List Token → Type 0 where
    -- "skip" ";"
    skip :
        {ts at_end rest : List Token}
        → Word kind.Skip ts at_end
        → Word kind.Semicolon at_end rest
        → IsForm ts Skips rest
    -- "goto" NAME ";"
    jump :
        {ts at_label at_end rest : List Token} {label : Name}
        → Word kind.Goto ts at_label
        → IsName at_label label at_end
        → Word kind.Semicolon at_end rest
        → IsForm ts (GoesTo label) rest
    -- "return" ";"
    returning :
        {ts at_end rest : List Token}
        → Word kind.Return ts at_end
        → Word kind.Semicolon at_end rest
        → IsForm ts Returns rest
    -- NAME,+ ":=" expr,+ ";"
    assignment :
        {ts at_becomes at_values at_end rest : List Token}
        {targets : List Name} {values : List Expression}
        → IsNames ts targets at_becomes
        → Word kind.Becomes at_becomes at_values
        → IsExprs at_values values at_end
        → Word kind.Semicolon at_end rest
        → IsForm ts (Assigns targets values) rest
    -- "if" "(" decider ")" "then" stmt+ "else" stmt+ "fi"
    branch :
        {ts at_open at_test at_close at_then at_first at_else at_second at_fi rest : List Token}
        {test : Decision} {first second : Block}
        → Word kind.If ts at_open
        → Word kind.Open at_open at_test
        → IsDecider at_test test at_close
        → Word kind.Close at_close at_then
        → Word kind.Then at_then at_first
        → IsStmts at_first first at_else
        → Word kind.Else at_else at_second
        → IsStmts at_second second at_fi
        → Word kind.Fi at_fi rest
        → IsForm ts (Branches test first second) rest
    -- "while" "(" decider ")" "do" stmt+ "od"
    loop :
        {ts at_open at_test at_close at_do at_body at_od rest : List Token}
        {test : Decision} {body : Block}
        → Word kind.While ts at_open
        → Word kind.Open at_open at_test
        → IsDecider at_test test at_close
        → Word kind.Close at_close at_do
        → Word kind.Do at_do at_body
        → IsStmts at_body body at_od
        → Word kind.Od at_od rest
        → IsForm ts (Loops test body) rest
    -- "assert" "(" decider ")" ";"
    assertion :
        {ts at_open at_test at_close at_end rest : List Token} {test : Decision}
        → Word kind.Assert ts at_open
        → Word kind.Open at_open at_test
        → IsDecider at_test test at_close
        → Word kind.Close at_close at_end
        → Word kind.Semicolon at_end rest
        → IsForm ts (Asserts test) rest
    -- "assume" "(" decider ")" ";"
    assumption :
        {ts at_open at_test at_close at_end rest : List Token} {test : Decision}
        → Word kind.Assume ts at_open
        → Word kind.Open at_open at_test
        → IsDecider at_test test at_close
        → Word kind.Close at_close at_end
        → Word kind.Semicolon at_end rest
        → IsForm ts (Assumes test) rest
    -- "print" "(" expr,+ ")" ";"
    printing :
        {ts at_open at_values at_close at_end rest : List Token} {values : List Expression}
        → Word kind.Print ts at_open
        → Word kind.Open at_open at_values
        → IsExprs at_values values at_close
        → Word kind.Close at_close at_end
        → Word kind.Semicolon at_end rest
        → IsForm ts (Prints values) rest
    -- NAME "(" expr,* ")" ";"
    call :
        {ts at_open at_arguments at_close at_end rest : List Token}
        {callee : Name} {arguments : List Expression}
        → IsName ts callee at_open
        → Word kind.Open at_open at_arguments
        → IsAnyExprs at_arguments arguments at_close
        → Word kind.Close at_close at_end
        → Word kind.Semicolon at_end rest
        → IsForm ts (Calls callee arguments) rest

  -- decider = "?" | expr
  pub data IsDecider : List Token → Decision → List Token → Type 0 where
    choice : {ts rest : List Token} → Word kind.Question ts rest → IsDecider ts Choose rest
    by_value :
        {ts rest : List Token} {e : Expression}
        → IsExpr ts e rest
        → IsDecider ts (Decide e) rest

  -- expr = or | or "=>" expr
  pub data IsExpr : List Token → Expression → List Token → Type 0 where
    of_or : {ts rest : List Token} {e : Expression} → IsOr ts e rest → IsExpr ts e rest
    implication :
        {ts at_word at_right rest : List Token} {left right : Expression}
        → IsOr ts left at_word
        → Word kind.Implies at_word at_right
        → IsExpr at_right right rest
        → IsExpr ts (Operation op.Implies left right) rest

  -- or = xor | or "|" xor
  pub data IsOr : List Token → Expression → List Token → Type 0 where
    of_xor : {ts rest : List Token} {e : Expression} → IsXor ts e rest → IsOr ts e rest
    disjunction :
        {ts at_word at_right rest : List Token} {left right : Expression}
        → IsOr ts left at_word
        → Word kind.Bar at_word at_right
        → IsXor at_right right rest
        → IsOr ts (Operation op.Or left right) rest

  -- xor = and | xor "^" and
  pub data IsXor : List Token → Expression → List Token → Type 0 where
    of_and : {ts rest : List Token} {e : Expression} → IsAnd ts e rest → IsXor ts e rest
    exclusion :
        {ts at_word at_right rest : List Token} {left right : Expression}
        → IsXor ts left at_word
        → Word kind.Caret at_word at_right
        → IsAnd at_right right rest
        → IsXor ts (Operation op.Xor left right) rest

  -- and = eq | and "&" eq
  pub data IsAnd : List Token → Expression → List Token → Type 0 where
    of_eq : {ts rest : List Token} {e : Expression} → IsEq ts e rest → IsAnd ts e rest
    conjunction :
        {ts at_word at_right rest : List Token} {left right : Expression}
        → IsAnd ts left at_word
        → Word kind.Ampersand at_word at_right
        → IsEq at_right right rest
        → IsAnd ts (Operation op.And left right) rest

  -- eq = un | eq "=" un | eq "!=" un
  pub data IsEq : List Token → Expression → List Token → Type 0 where
    of_un : {ts rest : List Token} {e : Expression} → IsUn ts e rest → IsEq ts e rest
    equality :
        {ts at_word at_right rest : List Token} {left right : Expression}
        → IsEq ts left at_word
        → Word kind.Equal at_word at_right
        → IsUn at_right right rest
        → IsEq ts (Operation op.Equal left right) rest
    difference :
        {ts at_word at_right rest : List Token} {left right : Expression}
        → IsEq ts left at_word
        → Word kind.Differ at_word at_right
        → IsUn at_right right rest
        → IsEq ts (Operation op.Differ left right) rest

  -- un = "!" un | atom
  pub data IsUn : List Token → Expression → List Token → Type 0 where
    negation :
        {ts at_operand rest : List Token} {e : Expression}
        → Word kind.Bang ts at_operand
        → IsUn at_operand e rest
        → IsUn ts (Negation e) rest
    of_atom : {ts rest : List Token} {e : Expression} → IsAtom ts e rest → IsUn ts e rest

  -- atom = "0" | "1" | NAME | "(" expr ")"
  pub data IsAtom : List Token → Expression → List Token → Type 0 where
    constant_0 : {ts rest : List Token} → Word kind.Zero ts rest → IsAtom ts (Constant false) rest
    constant_1 : {ts rest : List Token} → Word kind.One ts rest → IsAtom ts (Constant true) rest
    variable :
        {ts rest : List Token} {name : Name}
        → IsName ts name rest
        → IsAtom ts (Variable name) rest
    brackets :
        {ts at_inside at_close rest : List Token} {e : Expression}
        → Word kind.Open ts at_inside
        → IsExpr at_inside e at_close
        → Word kind.Close at_close rest
        → IsAtom ts e rest

  -- NAME,+
  pub data IsNames : List Token → List Name → List Token → Type 0 where
    one_name :
        {ts rest : List Token} {name : Name}
        → IsName ts name rest
        → IsNames ts (name ∷ []) rest
    more_names :
        {ts at_comma at_more rest : List Token} {name : Name} {more : List Name}
        → IsName ts name at_comma
        → Word kind.Comma at_comma at_more
        → IsNames at_more more rest
        → IsNames ts (name ∷ more) rest

  -- NAME,*
  pub data IsAnyNames : List Token → List Name → List Token → Type 0 where
    no_names : {rest : List Token} → IsAnyNames rest [] rest
    some_names :
        {ts rest : List Token} {names : List Name}
        → IsNames ts names rest
        → IsAnyNames ts names rest

  -- expr,+
  pub data IsExprs : List Token → List Expression → List Token → Type 0 where
    one_expr : {ts rest : List Token} {e : Expression} → IsExpr ts e rest → IsExprs ts (e ∷ []) rest
    more_exprs :
        {ts at_comma at_more rest : List Token} {e : Expression} {more : List Expression}
        → IsExpr ts e at_comma
        → Word kind.Comma at_comma at_more
        → IsExprs at_more more rest
        → IsExprs ts (e ∷ more) rest

  -- expr,*
  pub data IsAnyExprs : List Token → List Expression → List Token → Type 0 where
    no_exprs : {rest : List Token} → IsAnyExprs rest [] rest
    some_exprs :
        {ts rest : List Token} {es : List Expression}
        → IsExprs ts es rest
        → IsAnyExprs ts es rest
