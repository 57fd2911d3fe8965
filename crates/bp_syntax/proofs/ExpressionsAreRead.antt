-- An expression of the grammar is read whole, whatever is expected after it.
use Rattle.bp_syntax.proofs.Common.{◌≡◌, true, false, List, [], ◌∷◌, ◌++◌, None, refl, sym, ap, subst, ◌∙◌, arith, rules, false≢true, Name, Expression, Negation, Operation, Decision, Decide, Token, name_of, IsNames, one_name, more_names, IsAnyNames, no_names, some_names, IsExpr, of_or, implication, IsOr, of_xor, disjunction, IsXor, of_and, exclusion, IsAnd, of_eq, conjunction, IsEq, of_un, equality, difference, IsUn, negation, of_atom, IsAtom, constant_0, constant_1, variable, brackets, IsExprs, one_expr, more_exprs, IsAnyExprs, no_exprs, some_exprs, IsDecider, choice, by_value, first_word, first_name, is_same_kind, Wanted, WordThen, DeciderThen, UnThen, MoreOperands, MoreImplied, MoreNames, MoreExprs, AnyNamesThen, AnyExprsThen, NamesThen, ExprThen, ExprsThen, BinaryThen, is_un_start, operator, parse_result, is_at, is_at_expr, operator_ahead, Precedence, Equality, Conjunction, Exclusion, Disjunction, TokenKind}
use Rattle.bp_syntax.proofs.GrownLists.{regrouped}
use Rattle.bp_syntax.specs.declared.exprs.Op.TheVariants as op
use Rattle.bp_syntax.specs.declared.tokens.TokenKind.TheVariants as kind
use Rattle.bp_syntax.proofs.ResultAfterToken.{read_word, read_name, read_comma, no_comma, some_name, no_name, read_expr_comma, no_expr_comma, some_expr, no_expr, read_operator, no_operator, read_implies, no_implies, at_kind_un, read_question, no_question}

pub names_read : {ts : List Token} {ns : List Name} {r : List Token} → IsNames ts ns r
    → (acc : List Name) (next : List Name → Wanted) → is_at kind.Comma r ≡ false
    → parse_result (NamesThen acc next) ts ≡ parse_result (next (acc ++ ns)) r
names_read (one_name (first_name {token = x} {rest = r} h)) acc next nc =
    read_name (λ n. MoreNames (acc ++ n ∷ []) next) x r h ∙ no_comma (acc ++ name_of x ∷ []) next r nc
names_read (more_names {rest = r} {more = ns} (first_name {token = x} h) (first_word {token = y} {rest = ts} c) d) acc next nc =
    read_name (λ n. MoreNames (acc ++ n ∷ []) next) x (y ∷ ts) h
    ∙ read_comma (acc ++ name_of x ∷ []) next y ts c
    ∙ names_read d (acc ++ name_of x ∷ []) next nc
    ∙ simp regrouped

pub names_begin : {ts : List Token} {ns : List Name} {r : List Token} → IsNames ts ns r → is_at kind.Name ts ≡ true
names_begin given1 = grind (arith)

-- no list of names continues here: neither a comma comes nor a name
pub any_names_read : {ts : List Token} {ns : List Name} {r : List Token} → IsAnyNames ts ns r
    → (next : List Name → Wanted) → is_at kind.Comma r ≡ false → is_at kind.Name r ≡ false
    → parse_result (AnyNamesThen next) ts ≡ parse_result (next ns) r
any_names_read (no_names {rest = r}) next nc nn = no_name next r nn
any_names_read (some_names {ts = ts} d) next nc nn = some_name next ts (names_begin d) ∙ names_read d [] next nc

-- no expression continues with a token of the kind
pub record Closes (k : TokenKind) : Type 0 where
  equality : operator Equality k ≡ None
  conjunction : operator Conjunction k ≡ None
  exclusion : operator Exclusion k ≡ None
  disjunction : operator Disjunction k ≡ None
  implication : is_same_kind k kind.Implies ≡ false

-- no expression continues with these tokens
pub ExprEnds : List Token → Type 0
ExprEnds [] = Unit {0}
ExprEnds (x ∷ r) = Closes x.kind

pub ends_at : (k : TokenKind) (x : Token) (r : List Token) → Closes k → x.kind ≡ k → ExprEnds (x ∷ r)
unfolding ExprEnds
ends_at k x r c h = subst Closes (sym h) c

pub closing : Closes kind.Close
closing = record { equality = refl; conjunction = refl; exclusion = refl; disjunction = refl; implication = refl }

comma : Closes kind.Comma
comma = record { equality = refl; conjunction = refl; exclusion = refl; disjunction = refl; implication = refl }

pub semicolon : Closes kind.Semicolon
semicolon = record { equality = refl; conjunction = refl; exclusion = refl; disjunction = refl; implication = refl }

no_op : (s : Precedence) (r : List Token) → ((k : TokenKind) → Closes k → operator s k ≡ None) → ExprEnds r → operator_ahead s r ≡ None
unfolding ExprEnds
no_op s [] f c = refl
no_op s (x ∷ r) f c = f x.kind c

nothing_implied_by : (r : List Token) → ExprEnds r → is_at kind.Implies r ≡ false
unfolding ExprEnds
nothing_implied_by [] c = refl
nothing_implied_by (x ∷ r) c = c.implication

mutual
  pub expr_read : {ts : List Token} {e : Expression} {r : List Token} → IsExpr ts e r → (next : Expression → Wanted)
      → ExprEnds r → parse_result (ExprThen next) ts ≡ parse_result (next e) r
  expr_read (of_or {rest = r} {e = e} d) next c =
      or_read d (λ a. MoreImplied a next) (no_op Equality r (λ k z. z.equality) c)
      (no_op Conjunction r (λ k z. z.conjunction) c) (no_op Exclusion r (λ k z. z.exclusion) c)
      ∙ no_operator Disjunction e (λ a. MoreImplied a next) r (no_op Disjunction r (λ k z. z.disjunction) c)
      ∙ no_implies e next r (nothing_implied_by r c)
  expr_read (implication {left = a} d (first_word {token = x} {rest = us} h) f) next c =
      or_read d (λ e. MoreImplied e next) (ap (operator Equality) h) (ap (operator Conjunction) h) (ap (operator Exclusion) h)
      ∙ no_operator Disjunction a (λ e. MoreImplied e next) (x ∷ us) (ap (operator Disjunction) h)
      ∙ read_implies a next x us h
      ∙ expr_read f (λ e. next (Operation op.Implies a e)) c

  or_read : {ts : List Token} {e : Expression} {r : List Token} → IsOr ts e r → (next : Expression → Wanted)
      → operator_ahead Equality r ≡ None → operator_ahead Conjunction r ≡ None → operator_ahead Exclusion r ≡ None
      → parse_result (BinaryThen Disjunction next) ts ≡ parse_result (MoreOperands Disjunction e next) r
  or_read (of_xor {rest = r} {e = e} d) next i j k =
      xor_read d (λ a. MoreOperands Disjunction a next) i j ∙ no_operator Exclusion e (λ a. MoreOperands Disjunction a next) r k
  or_read (disjunction {rest = r} {left = a} {right = b} d (first_word {token = x} {rest = us} h) f) next i j k =
      or_read d next (ap (operator Equality) h) (ap (operator Conjunction) h) (ap (operator Exclusion) h)
      ∙ read_operator Disjunction op.Or a next x us (ap (operator Disjunction) h)
      ∙ xor_read f (λ e. MoreOperands Disjunction (Operation op.Or a e) next) i j
      ∙ no_operator Exclusion b (λ e. MoreOperands Disjunction (Operation op.Or a e) next) r k

  xor_read : {ts : List Token} {e : Expression} {r : List Token} → IsXor ts e r → (next : Expression → Wanted)
      → operator_ahead Equality r ≡ None → operator_ahead Conjunction r ≡ None
      → parse_result (BinaryThen Exclusion next) ts ≡ parse_result (MoreOperands Exclusion e next) r
  xor_read (of_and {rest = r} {e = e} d) next i j =
      and_read d (λ a. MoreOperands Exclusion a next) i ∙ no_operator Conjunction e (λ a. MoreOperands Exclusion a next) r j
  xor_read (exclusion {rest = r} {left = a} {right = b} d (first_word {token = x} {rest = us} h) f) next i j =
      xor_read d next (ap (operator Equality) h) (ap (operator Conjunction) h)
      ∙ read_operator Exclusion op.Xor a next x us (ap (operator Exclusion) h)
      ∙ and_read f (λ e. MoreOperands Exclusion (Operation op.Xor a e) next) i
      ∙ no_operator Conjunction b (λ e. MoreOperands Exclusion (Operation op.Xor a e) next) r j

  and_read : {ts : List Token} {e : Expression} {r : List Token} → IsAnd ts e r → (next : Expression → Wanted)
      → operator_ahead Equality r ≡ None
      → parse_result (BinaryThen Conjunction next) ts ≡ parse_result (MoreOperands Conjunction e next) r
  and_read (of_eq {rest = r} {e = e} d) next i =
      eq_read d (λ a. MoreOperands Conjunction a next) ∙ no_operator Equality e (λ a. MoreOperands Conjunction a next) r i
  and_read (conjunction {rest = r} {left = a} {right = b} d (first_word {token = x} {rest = us} h) f) next i =
      and_read d next (ap (operator Equality) h)
      ∙ read_operator Conjunction op.And a next x us (ap (operator Conjunction) h)
      ∙ eq_read f (λ e. MoreOperands Conjunction (Operation op.And a e) next)
      ∙ no_operator Equality b (λ e. MoreOperands Conjunction (Operation op.And a e) next) r i

  eq_read : {ts : List Token} {e : Expression} {r : List Token} → IsEq ts e r → (next : Expression → Wanted)
      → parse_result (BinaryThen Equality next) ts ≡ parse_result (MoreOperands Equality e next) r
  eq_read (of_un d) next = un_read d (λ a. MoreOperands Equality a next)
  eq_read (equality {left = a} d (first_word {token = x} {rest = us} h) f) next =
      eq_read d next
      ∙ read_operator Equality op.Equal a next x us (ap (operator Equality) h)
      ∙ un_read f (λ e. MoreOperands Equality (Operation op.Equal a e) next)
  eq_read (difference {left = a} d (first_word {token = x} {rest = us} h) f) next =
      eq_read d next
      ∙ read_operator Equality op.Differ a next x us (ap (operator Equality) h)
      ∙ un_read f (λ e. MoreOperands Equality (Operation op.Differ a e) next)

  un_read : {ts : List Token} {e : Expression} {r : List Token} → IsUn ts e r → (next : Expression → Wanted)
      → parse_result (UnThen next) ts ≡ parse_result (next e) r
  un_read (negation (first_word {token = x} {rest = ts} h) d) next = at_kind_un kind.Bang next x ts h ∙ un_read d (λ a. next (Negation a))
  un_read (of_atom d) next = atom_read d next

  atom_read : {ts : List Token} {e : Expression} {r : List Token} → IsAtom ts e r → (next : Expression → Wanted)
      → parse_result (UnThen next) ts ≡ parse_result (next e) r
  atom_read (constant_0 (first_word {token = x} {rest = r} h)) next = at_kind_un kind.Zero next x r h
  atom_read (constant_1 (first_word {token = x} {rest = r} h)) next = at_kind_un kind.One next x r h
  atom_read (variable (first_name {token = x} {rest = r} h)) next = at_kind_un kind.Name next x r h
  atom_read (brackets {e = e} (first_word {token = x} {rest = ts} h) d (first_word {token = y} {rest = r} c)) next =
      at_kind_un kind.Open next x ts h
      ∙ expr_read d (λ a. WordThen kind.Close (next a)) (ends_at kind.Close y r closing c)
      ∙ read_word kind.Close (next e) y r c

pub exprs_read : {ts : List Token} {es : List Expression} {r : List Token} → IsExprs ts es r
    → (acc : List Expression) (next : List Expression → Wanted) → ExprEnds r → is_at kind.Comma r ≡ false
    → parse_result (ExprsThen acc next) ts ≡ parse_result (next (acc ++ es)) r
exprs_read (one_expr {rest = r} {e = e} d) acc next c nc =
    expr_read d (λ a. MoreExprs (acc ++ a ∷ []) next) c ∙ no_expr_comma (acc ++ e ∷ []) next r nc
exprs_read (more_exprs {rest = r} {e = e} {more = es} d (first_word {token = y} {rest = us} h) f) acc next c nc =
    expr_read d (λ a. MoreExprs (acc ++ a ∷ []) next) (ends_at kind.Comma y us comma h)
    ∙ read_expr_comma (acc ++ e ∷ []) next y us h
    ∙ exprs_read f (acc ++ e ∷ []) next c nc
    ∙ simp regrouped

un_begins : {ts : List Token} {e : Expression} {r : List Token} → IsUn ts e r → is_at_expr ts ≡ true
un_begins (negation (first_word h) d) = ap is_un_start h
un_begins (of_atom (constant_0 (first_word h))) = ap is_un_start h
un_begins (of_atom (constant_1 (first_word h))) = ap is_un_start h
un_begins (of_atom (variable (first_name h))) = ap is_un_start h
un_begins (of_atom (brackets (first_word h) d (first_word c))) = ap is_un_start h

eq_begins : {ts : List Token} {e : Expression} {r : List Token} → IsEq ts e r → is_at_expr ts ≡ true
eq_begins (of_un d) = un_begins d
eq_begins (equality d (first_word h) f) = eq_begins d
eq_begins (difference d (first_word h) f) = eq_begins d

and_begins : {ts : List Token} {e : Expression} {r : List Token} → IsAnd ts e r → is_at_expr ts ≡ true
and_begins (of_eq d) = eq_begins d
and_begins (conjunction d (first_word h) f) = and_begins d

xor_begins : {ts : List Token} {e : Expression} {r : List Token} → IsXor ts e r → is_at_expr ts ≡ true
xor_begins (of_and d) = and_begins d
xor_begins (exclusion d (first_word h) f) = xor_begins d

or_begins : {ts : List Token} {e : Expression} {r : List Token} → IsOr ts e r → is_at_expr ts ≡ true
or_begins (of_xor d) = xor_begins d
or_begins (disjunction d (first_word h) f) = or_begins d

expr_begins : {ts : List Token} {e : Expression} {r : List Token} → IsExpr ts e r → is_at_expr ts ≡ true
expr_begins given1 = search (rules, or_begins, implication)

exprs_begin : {ts : List Token} {es : List Expression} {r : List Token} → IsExprs ts es r → is_at_expr ts ≡ true
exprs_begin given1 = search (rules, expr_begins)

-- neither a comma comes here nor an expression
pub any_exprs_read : {ts : List Token} {es : List Expression} {r : List Token} → IsAnyExprs ts es r
    → (next : List Expression → Wanted) → ExprEnds r → is_at kind.Comma r ≡ false → is_at_expr r ≡ false
    → parse_result (AnyExprsThen next) ts ≡ parse_result (next es) r
any_exprs_read (no_exprs {rest = r}) next c nc nn = no_expr next r nn
any_exprs_read (some_exprs {ts = ts} d) next c nc nn = some_expr next ts (exprs_begin d) ∙ exprs_read d [] next c nc

no_question_by : (ts : List Token) → is_at_expr ts ≡ true → is_at kind.Question ts ≡ false
no_question_by [] h = refl
no_question_by (x ∷ r) h = by_kind x.kind h
  where
    by_kind : (k : TokenKind) → is_un_start k ≡ true → is_same_kind k kind.Question ≡ false
    by_kind kind.Question e = absurd (false≢true e)
    by_kind k e = refl

pub decider_read : {ts : List Token} {d : Decision} {r : List Token} → IsDecider ts d r → (next : Decision → Wanted)
    → ExprEnds r → parse_result (DeciderThen next) ts ≡ parse_result (next d) r
decider_read (choice (first_word {token = x} {rest = r} h)) next c = read_question next x r h
decider_read (by_value {ts = ts} d) next c = no_question next ts (no_question_by ts (expr_begins d)) ∙ expr_read d (λ a. next (Decide a)) c
