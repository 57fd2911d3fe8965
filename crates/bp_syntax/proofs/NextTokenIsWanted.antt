-- A token that may come is one of the expected ones.
use Rattle.bp_syntax.proofs.Common.{◌≡◌, ℕ, Bool, true, false, cond, List, [], ◌∷◌, ◌++◌, Option, Some, None, refl, sym, subst, ◌⊎◌, ⊎_elim, append-nil, arith, Name, Expression, Constant, Variable, Negation, Operation, Choose, Decide, Done, Then, Statement, Skips, GoesTo, Returns, Assigns, Branches, Loops, Asserts, Assumes, Prints, Calls, Procedure, Program, Op, Token, name_of, IsNames, one_name, more_names, no_names, some_names, IsExpr, negation, of_atom, constant_0, constant_1, variable, brackets, IsExprs, no_exprs, some_exprs, choice, by_value, IsForm, skip, jump, returning, assignment, branch, loop, assertion, assumption, printing, call, IsStmt, labelled, unlabelled, decl, no_decl, more_decls, IsProc, proc, no_proc, more_procs, first_word, first_name, is_same_kind, Wanted, Complete, WordThen, NameThen, MoreNames, AnyNamesThen, UnThen, MoreOperands, MoreImplied, MoreExprs, AnyExprsThen, DeciderThen, FormThen, FormAfter, StmtThen, StmtAfter, MoreStmts, MoreDecls, MoreProcs, NamesThen, ExprsThen, OperandThen, GotoThen, IfThen, WhileThen, AssertThen, AssumeThen, PrintThen, ArgumentsThen, ValuesThen, TargetsThen, BodyThen, wanted_after_un, wanted_in_un, is_un_start, wanted_after_name, wanted_in_form, is_form_start, wanted_in_stmt, operator, wanted_by_operator, procedure_of, wanted_after, program_at_end, TokenKind, the_type}
use Rattle.bp_syntax.proofs.GrownLists.{regrouped}
use denote.Enum.Bare.{same_true}
use Rattle.bp_syntax.specs.declared.tokens.TokenKind.TheVariants as kind
use Rattle.bp_syntax.proofs.WantedPhrases.{Needs, complete, word, name, names, any_names, un, operands, implied, exprs, any_exprs, decider, form, form_after, stmt, stmt_after, stmts, decls, procs, no_more_names, names_after, no_more_exprs, exprs_after, no_more_stmts, stmts_after, no_more_operands, operand_after, nothing_implied, implied_after, stmts_join, IsOperand, operand_from, expr_from, names_from, exprs_from}

pub same : (a b : TokenKind) → is_same_kind a b ≡ true → a ≡ b
same a b e = same_true the_type tt a b e

given : {A : Type 0} {a b : A} → Some a ≡ Some b → a ≡ b
given e = cc

none_some : {A : Type 0} {a : A} → None ≡ Some a → ⊥
none_some e = cc

cond_some : (b : Bool) (a v : Wanted) → cond b (Some a) None ≡ Some v → (b ≡ true) × (a ≡ v)
cond_some b a v given1 = grind (arith)

cond_either : (b : Bool) (o p : Option Wanted) (v : Wanted) → cond b o p ≡ Some v → ((b ≡ true) × (o ≡ Some v)) ⊎ ((b ≡ false) × (p ≡ Some v))
cond_either b o p v given1 = grind (arith)

-- the tokens that an answer of `feed` wants
moved : {w v : Wanted} {ts : List Token} {q : Program} → Some w ≡ Some v → Needs v ts q → Needs w ts q
moved {w} {v} {ts} {q} e n = subst (λ u. Needs u ts q) (sym (given e)) n

sound_un : (k : TokenKind) (next : Expression → Wanted) (x : Token) (v : Wanted) → x.kind ≡ k
    → wanted_in_un k next x ≡ Some v → (ts : List Token) (q : Program) → Needs v ts q → Needs (UnThen next) (x ∷ ts) q
sound_un kind.Bang next x v h e ts q n = negated (moved e n)
  where
    negated : Needs (UnThen (λ d. next (Negation d))) ts q → Needs (UnThen next) (x ∷ ts) q
    negated (un {r = r} d is m) = un (Negation d) (negation (first_word {token = x} {rest = ts} h) is) m
sound_un kind.Zero next x v h e ts q n = un (Constant false) (of_atom (constant_0 (first_word {token = x} {rest = ts} h))) (moved e n)
sound_un kind.One next x v h e ts q n = un (Constant true) (of_atom (constant_1 (first_word {token = x} {rest = ts} h))) (moved e n)
sound_un kind.Name next x v h e ts q n = un (Variable (name_of x)) (of_atom (variable (first_name {token = x} {rest = ts} h))) (moved e n)
sound_un kind.Open next x v h e ts q n =
    let p = expr_from (λ d. WordThen kind.Close (next d)) ts q (moved e n) in
    closed p.0 p.1 p.2 p.3
  where
    closed : (d : Expression) (us : List Token) → IsExpr ts d us → Needs (WordThen kind.Close (next d)) us q → Needs (UnThen next) (x ∷ ts) q
    closed d _ is (word {r = r} y c m) = un d (of_atom (brackets (first_word {token = x} {rest = ts} h) is (first_word {token = y} {rest = r} c))) m
sound_un _ next x v h e ts q n = absurd (none_some e)

-- an expression from its first token on
sound_expr : (next : Expression → Wanted) (x : Token) (v : Wanted)
    → wanted_in_un x.kind (wanted_after_un next) x ≡ Some v → (ts : List Token) (q : Program) → Needs v ts q
    → (e : Expression) × (r : List Token) × IsExpr (x ∷ ts) e r × Needs (next e) r q
sound_expr next x v e ts q n = expr_from next (x ∷ ts) q (sound_un x.kind (wanted_after_un next) x v refl e ts q n)

sound_values : (P : Type 0) (f : Statement → Wanted) (ts : List Token) (ns : List Name) (x : Token) (us : List Token)
    (q : Program) → (P → IsNames ts ns (x ∷ us)) → x.kind ≡ kind.Becomes → Needs (ValuesThen ns f) us q
    → (s : Statement) × (r : List Token) × (P → IsForm ts s r) × Needs (f s) r q
sound_values P f ts ns x us q is b n =
    let p = exprs_from [] (λ es. WordThen kind.Semicolon (f (Assigns ns es))) us q n in
    result_at_end p.0 p.1 p.2 p.3
  where
    result_at_end : (es : List Expression) (vs : List Token) → IsExprs us es vs
        → Needs (WordThen kind.Semicolon (f (Assigns ns es))) vs q
        → (s : Statement) × (r : List Token) × (P → IsForm ts s r) × Needs (f s) r q
    result_at_end es _ are (word {r = r} y c m) = (
      Assigns ns es,
      r,
      λ h. assignment (is h) (first_word {token = x} {rest = us} b) are (first_word {token = y} {rest = r} c),
      m,
    )

-- after the name that a call or an assignment begins with
sound_after : (x : Token) (f : Statement → Wanted) (y : Token) (v : Wanted) → wanted_after_name x f y ≡ Some v
    → (ts : List Token) (q : Program) → Needs v ts q
    → (s : Statement) × (r : List Token) × (x.kind ≡ kind.Name → IsForm (x ∷ y ∷ ts) s r) × Needs (f s) r q
sound_after x f y v e ts q n =
    ⊎_elim
    (λ c. called ts (same y.kind kind.Open c.0) (moved c.1 n))
    (λ c.
    ⊎_elim
    (λ d.
    let p = names_from (name_of x ∷ []) (TargetsThen f) ts q (moved d.1 n) in
    targets (same y.kind kind.Comma d.0) p.0 p.1 p.2 p.3)
    (λ d.
    let b = cond_some (is_same_kind y.kind kind.Becomes) (ValuesThen (name_of x ∷ []) f) v d.1 in
    sound_values (x.kind ≡ kind.Name) f (x ∷ y ∷ ts) (name_of x ∷ []) y ts q
    (λ h. one_name (first_name {token = x} {rest = y ∷ ts} h)) (same y.kind kind.Becomes b.0)
    (subst (λ w. Needs w ts q) (sym b.1) n))
    (cond_either (is_same_kind y.kind kind.Comma) _ _ v c.1))
    (cond_either (is_same_kind y.kind kind.Open) _ _ v e)
  where
    called : (ts : List Token) → y.kind ≡ kind.Open → Needs (ArgumentsThen (name_of x) f) ts q
        → (s : Statement) × (r : List Token) × (x.kind ≡ kind.Name → IsForm (x ∷ y ∷ ts) s r) × Needs (f s) r q
    called us o (any_exprs es are (word z c (word {r = r} w d m))) = (
      Calls (name_of x) es,
      r,
      λ h.
          call (first_name {token = x} h) (first_word {token = y} {rest = us} o) are (first_word {token = z} c)
          (first_word {token = w} {rest = r} d),
      m,
    )

    targets : y.kind ≡ kind.Comma → (ns : List Name) (us : List Token) → IsNames ts ns us
        → Needs (TargetsThen f (name_of x ∷ ns)) us q
        → (s : Statement) × (r : List Token) × (x.kind ≡ kind.Name → IsForm (x ∷ y ∷ ts) s r) × Needs (f s) r q
    targets c ns _ are (word {r = us} z b m) =
        sound_values (x.kind ≡ kind.Name) f (x ∷ y ∷ ts) (name_of x ∷ ns) z us q
        (λ h. more_names (first_name {token = x} h) (first_word {token = y} {rest = ts} c) are) b m

sound_form : (k : TokenKind) (f : Statement → Wanted) (x : Token) (v : Wanted) → x.kind ≡ k
    → wanted_in_form k f x ≡ Some v → (ts : List Token) (q : Program) → Needs v ts q
    → (s : Statement) × (r : List Token) × IsForm (x ∷ ts) s r × Needs (f s) r q
sound_form kind.Skip f x v h e ts q n = bare ts (moved e n)
  where
    bare : (ts : List Token) → Needs (WordThen kind.Semicolon (f Skips)) ts q → (s : Statement) × (r : List Token) × IsForm (x ∷ ts) s r × Needs (f s) r q
    bare _ (word {r = r} y c m) = (Skips, r, skip (first_word {token = x} h) (first_word {token = y} {rest = r} c), m)
sound_form kind.Return f x v h e ts q n = bare ts (moved e n)
  where
    bare : (ts : List Token) → Needs (WordThen kind.Semicolon (f Returns)) ts q → (s : Statement) × (r : List Token) × IsForm (x ∷ ts) s r × Needs (f s) r q
    bare _ (word {r = r} y c m) = (Returns, r, returning (first_word {token = x} h) (first_word {token = y} {rest = r} c), m)
sound_form kind.Goto f x v h e ts q n = jumped ts (moved e n)
  where
    jumped : (ts : List Token) → Needs (GotoThen f) ts q → (s : Statement) × (r : List Token) × IsForm (x ∷ ts) s r × Needs (f s) r q
    jumped _ (name l i (word {r = r} y c m)) = (
      GoesTo (name_of l),
      r,
      jump (first_word {token = x} h) (first_name {token = l} i) (first_word {token = y} {rest = r} c),
      m,
    )
sound_form kind.Name f x v h e ts q n = after (moved e n)
  where
    after : Needs (FormAfter x f) ts q → (s : Statement) × (r : List Token) × IsForm (x ∷ ts) s r × Needs (f s) r q
    after (form_after {r = r} s is m) = (s, r, is h, m)
sound_form kind.If f x v h e ts q n = branched ts (moved e n)
  where
    branched : (ts : List Token) → Needs (IfThen f) ts q → (s : Statement) × (r : List Token) × IsForm (x ∷ ts) s r × Needs (f s) r q
    branched _ (word y o (decider d is (word z c
        (word t i (stmt l at s a (stmts b bs (word u j (stmt l' at' s' a' (stmts b' bs' (word {r = r} w g m)))))))))) = (
          Branches d (Then l at s b) (Then l' at' s' b'),
          r,
          branch (first_word {token = x} h) (first_word {token = y} o) is (first_word {token = z} c)
              (first_word {token = t} i) (stmts_join a bs) (first_word {token = u} j) (stmts_join a' bs')
              (first_word {token = w} {rest = r} g),
          m,
        )
sound_form kind.While f x v h e ts q n = looped ts (moved e n)
  where
    looped : (ts : List Token) → Needs (WhileThen f) ts q → (s : Statement) × (r : List Token) × IsForm (x ∷ ts) s r × Needs (f s) r q
    looped _ (word y o (decider d is (word z c (word t i (stmt l at s a (stmts b bs (word {r = r} w g m))))))) = (
      Loops d (Then l at s b),
      r,
      loop (first_word {token = x} h) (first_word {token = y} o) is (first_word {token = z} c)
          (first_word {token = t} i) (stmts_join a bs) (first_word {token = w} {rest = r} g),
      m,
    )
sound_form kind.Assert f x v h e ts q n = asserted ts (moved e n)
  where
    asserted : (ts : List Token) → Needs (AssertThen f) ts q → (s : Statement) × (r : List Token) × IsForm (x ∷ ts) s r × Needs (f s) r q
    asserted _ (word y o (decider d is (word z c (word {r = r} w g m)))) = (
      Asserts d,
      r,
      assertion (first_word {token = x} h) (first_word {token = y} o) is (first_word {token = z} c)
          (first_word {token = w} {rest = r} g),
      m,
    )
sound_form kind.Assume f x v h e ts q n = assumed ts (moved e n)
  where
    assumed : (ts : List Token) → Needs (AssumeThen f) ts q → (s : Statement) × (r : List Token) × IsForm (x ∷ ts) s r × Needs (f s) r q
    assumed _ (word y o (decider d is (word z c (word {r = r} w g m)))) = (
      Assumes d,
      r,
      assumption (first_word {token = x} h) (first_word {token = y} o) is (first_word {token = z} c)
          (first_word {token = w} {rest = r} g),
      m,
    )
sound_form kind.Print f x v h e ts q n = printed ts (moved e n)
  where
    closed : (y : Token) (us : List Token) → y.kind ≡ kind.Open → (es : List Expression) (vs : List Token)
        → IsExprs us es vs → Needs (WordThen kind.Close (WordThen kind.Semicolon (f (Prints es)))) vs q
        → (s : Statement) × (r : List Token) × IsForm (x ∷ y ∷ us) s r × Needs (f s) r q
    closed y us o es _ are (word z c (word {r = r} w g m)) = (
      Prints es,
      r,
      printing (first_word {token = x} h) (first_word {token = y} {rest = us} o) are (first_word {token = z} c)
          (first_word {token = w} {rest = r} g),
      m,
    )

    printed : (ts : List Token) → Needs (PrintThen f) ts q → (s : Statement) × (r : List Token) × IsForm (x ∷ ts) s r × Needs (f s) r q
    printed _ (word {r = us} y o m) =
        let p = exprs_from [] (λ es. WordThen kind.Close (WordThen kind.Semicolon (f (Prints es)))) us q m in
        closed y us o p.0 p.1 p.2 p.3
sound_form _ f x v h e ts q n = absurd (none_some e)

sound_stmt : (k : TokenKind) (f : Option Name → ℕ → Statement → Wanted) (x : Token) (v : Wanted) → x.kind ≡ k
    → wanted_in_stmt k f x ≡ Some v → (ts : List Token) (q : Program) → Needs v ts q
    → (l : Option Name) × (at : ℕ) × (s : Statement) × (r : List Token) × IsStmt (x ∷ ts) l at s r
    × Needs (f l at s) r q
sound_stmt kind.Name f x v h e ts q n = after (moved e n)
  where
    after : Needs (StmtAfter x f) ts q → (l : Option Name) × (at : ℕ) × (s : Statement) × (r : List Token) × IsStmt (x ∷ ts) l at s r × Needs (f l at s) r q
    after (stmt_after {r = r} l at s is m) = (l, at, s, r, is h, m)
sound_stmt k f x v h e ts q n =
    let p = sound_form k (f None x.at) x v h e ts q n in
    (None, x.at, p.0, p.1, unlabelled p.2, p.3)

-- a procedure behind its name
sound_body : (f : Procedure → Wanted) (x : Token) (ts : List Token) (q : Program) → x.kind ≡ kind.Name
    → Needs (BodyThen (name_of x) f) ts q → (p : Procedure) × (r : List Token) × IsProc (x ∷ ts) p r × Needs (f p) r q
sound_body f x _ q h (word y o (any_names fs formals (word z c (word v g (decls ls locals (stmt l at s a (stmts b bs (word {r = r} w e m)))))))) = (
  procedure_of (name_of x) fs ls (Then l at s b),
  r,
  proc (first_name {token = x} h) (first_word {token = y} o) formals (first_word {token = z} c)
      (first_word {token = v} g) locals (stmts_join a bs) (first_word {token = w} {rest = r} e),
  m,
)

-- a token that may come is one of those that are wanted
pub sound : (w : Wanted) (x : Token) (v : Wanted) → wanted_after w x ≡ Some v → (ts : List Token) (q : Program) → Needs v ts q → Needs w (x ∷ ts) q
sound (Complete p) x v e ts q n = absurd (none_some e)
sound (WordThen k next) x v e ts q n =
    let h = cond_some (is_same_kind x.kind k) next v e in
    word x (same x.kind k h.0) (subst (λ w. Needs w ts q) (sym h.1) n)
sound (NameThen next) x v e ts q n =
    let h = cond_some (is_same_kind x.kind kind.Name) (next (name_of x)) v e in
    name x (same x.kind kind.Name h.0) (subst (λ w. Needs w ts q) (sym h.1) n)
sound (MoreNames acc next) x v e ts q n =
    ⊎_elim
    (λ h.
    let p = names_from acc next ts q (moved h.1 n) in
    names p.0 (names_after x ts p.0 p.1 (same x.kind kind.Comma h.0) p.2) p.3)
    (λ h. names [] (no_more_names (x ∷ ts)) (subst (λ l. Needs (next l) (x ∷ ts) q) (sym (append-nil acc)) (sound (next acc) x v h.1 ts q n)))
    (cond_either (is_same_kind x.kind kind.Comma) (Some (NamesThen acc next)) (wanted_after (next acc) x) v e)
sound (AnyNamesThen next) x v e ts q n =
    ⊎_elim
    (λ h. begun (same x.kind kind.Name h.0) (moved h.1 n))
    (λ h. any_names [] no_names (sound (next []) x v h.1 ts q n))
    (cond_either (is_same_kind x.kind kind.Name) (Some (MoreNames (name_of x ∷ []) next)) (wanted_after (next []) x) v e)
  where
    begun : x.kind ≡ kind.Name → Needs (MoreNames (name_of x ∷ []) next) ts q → Needs (AnyNamesThen next) (x ∷ ts) q
    begun h (names {r = r} ms m k) =
        let p = names_from [] next (x ∷ ts) q (name x h (names ms m k)) in
        any_names p.0 (some_names p.2) p.3
sound (UnThen next) x v e ts q n = sound_un x.kind next x v refl e ts q n
sound (MoreOperands s a next) x v e ts q n = by_operator (sound (next a) x v) (operator s x.kind) refl e
  where
    by_operator : (wanted_after (next a) x ≡ Some v → (us : List Token) (p : Program) → Needs v us p
        → Needs (next a) (x ∷ us) p) → (o : Option Op) → operator s x.kind ≡ o
        → wanted_by_operator o (λ p. OperandThen s (λ b. MoreOperands s (Operation p a b) next)) (wanted_after (next a) x)
        ≡ Some v → Needs (MoreOperands s a next) (x ∷ ts) q
    by_operator other None h f = operands a (no_more_operands s a (x ∷ ts)) (other f ts q n)
    by_operator other (Some o) h f = let p = operand_from s (λ b. MoreOperands s (Operation o a b) next) ts q (moved f n) in more p.0 p.1 p.2 p.3
      where
        more : (b : Expression) (us : List Token) → IsOperand s ts b us
            → Needs (MoreOperands s (Operation o a b) next) us q → Needs (MoreOperands s a next) (x ∷ ts) q
        more b us is (operands {r = r} c m k) = operands c (operand_after s a x ts o b us c r h is m) k
sound (MoreImplied a next) x v e ts q n =
    ⊎_elim
    (λ h.
    let p = expr_from (λ b. next (Operation _ a b)) ts q (moved h.1 n) in
    implied (Operation _ a p.0) (implied_after a x ts p.0 p.1 (same x.kind kind.Implies h.0) p.2) p.3)
    (λ h. implied a (nothing_implied a (x ∷ ts)) (sound (next a) x v h.1 ts q n))
    (cond_either (is_same_kind x.kind kind.Implies) _ (wanted_after (next a) x) v e)
sound (MoreExprs acc next) x v e ts q n =
    ⊎_elim
    (λ h.
    let p = exprs_from acc next ts q (moved h.1 n) in
    exprs p.0 (exprs_after x ts p.0 p.1 (same x.kind kind.Comma h.0) p.2) p.3)
    (λ h. exprs [] (no_more_exprs (x ∷ ts)) (subst (λ l. Needs (next l) (x ∷ ts) q) (sym (append-nil acc)) (sound (next acc) x v h.1 ts q n)))
    (cond_either (is_same_kind x.kind kind.Comma) (Some (ExprsThen acc next)) (wanted_after (next acc) x) v e)
sound (AnyExprsThen next) x v e ts q n =
    ⊎_elim
    (λ h.
    let p = exprs_from [] next (x ∷ ts) q (sound_un x.kind _ x v refl h.1 ts q n) in
    any_exprs p.0 (some_exprs p.2) p.3)
    (λ h. any_exprs [] no_exprs (sound (next []) x v h.1 ts q n))
    (cond_either (is_un_start x.kind) (wanted_in_un x.kind (wanted_after_un (λ d. MoreExprs (d ∷ []) next)) x) (wanted_after (next []) x) v e)
sound (DeciderThen next) x v e ts q n =
    ⊎_elim
    (λ h. decider Choose (choice (first_word {token = x} {rest = ts} (same x.kind kind.Question h.0))) (moved h.1 n))
    (λ h.
    let p = sound_expr (λ d. next (Decide d)) x v h.1 ts q n in
    decider (Decide p.0) (by_value p.2) p.3)
    (cond_either (is_same_kind x.kind kind.Question) (Some (next Choose)) (wanted_in_un x.kind (wanted_after_un (λ d. next (Decide d))) x) v e)
sound (FormThen next) x v e ts q n =
    let p = sound_form x.kind (next x.at) x v refl e ts q n in
    form x p.0 p.2 p.3
sound (FormAfter x next) y v e ts q n =
    let p = sound_after x next y v e ts q n in
    form_after p.0 p.2 p.3
sound (StmtThen next) x v e ts q n =
    let p = sound_stmt x.kind next x v refl e ts q n in
    stmt p.0 p.1 p.2 p.4 p.5
sound (StmtAfter x next) y v e ts q n =
    ⊎_elim
    (λ h. behind ts (same y.kind kind.Colon h.0) (moved h.1 n))
    (λ h.
    let p = sound_after x (next None x.at) y v h.1 ts q n in
    stmt_after None x.at p.0 (λ k. unlabelled (p.2 k)) p.3)
    (cond_either (is_same_kind y.kind kind.Colon) _ _ v e)
  where
    behind : (vs : List Token) → y.kind ≡ kind.Colon → Needs (FormThen (next (Some (name_of x)))) vs q → Needs (StmtAfter x next) (y ∷ vs) q
    behind _ c (form {ts = us} {r = r} z s is m) =
        stmt_after (Some (name_of x)) z.at s (λ k. labelled (first_name {token = x} k) (first_word {token = y} c) is) m
sound (MoreStmts next) x v e ts q n =
    ⊎_elim
    (λ h. let p = sound_stmt x.kind (λ l at s. MoreStmts (λ b. next (Then l at s b))) x v refl h.1 ts q n in begun p.0 p.1 p.2 p.3 p.4 p.5)
    (λ h. stmts Done (no_more_stmts (x ∷ ts)) (sound (next Done) x v h.1 ts q n))
    (cond_either (is_form_start x.kind) _ (wanted_after (next Done) x) v e)
  where
    begun : (l : Option Name) (at : ℕ) (s : Statement) (us : List Token) → IsStmt (x ∷ ts) l at s us
        → Needs (MoreStmts (λ b. next (Then l at s b))) us q → Needs (MoreStmts next) (x ∷ ts) q
    begun l at s us is (stmts {r = r} b m k) = stmts (Then l at s b) (stmts_after (x ∷ ts) (Then l at s b) r (stmts_join is m)) k
sound (MoreDecls acc next) x v e ts q n =
    ⊎_elim
    (λ h. let p = names_from acc (λ ms. WordThen kind.Semicolon (MoreDecls ms next)) ts q (moved h.1 n) in declared (same x.kind kind.Decl h.0) p.0 p.1 p.2 p.3)
    (λ h. decls [] no_decl (subst (λ l. Needs (next l) (x ∷ ts) q) (sym (append-nil acc)) (sound (next acc) x v h.1 ts q n)))
    (cond_either (is_same_kind x.kind kind.Decl) _ (wanted_after (next acc) x) v e)
  where
    declared : x.kind ≡ kind.Decl → (ns : List Name) (us : List Token) → IsNames ts ns us
        → Needs (WordThen kind.Semicolon (MoreDecls (acc ++ ns) next)) us q → Needs (MoreDecls acc next) (x ∷ ts) q
    declared h ns _ are (word {r = us} y c (decls {r = r} ms more k)) =
        decls (ns ++ ms)
        (more_decls (decl (first_word {token = x} {rest = ts} h) are (first_word {token = y} {rest = us} c)) more)
        (simp regrouped at k)
sound (MoreProcs acc next) x v e ts q n =
    ⊎_elim
    (λ h. let p = sound_body (λ f. MoreProcs (acc ++ f ∷ []) next) x ts q (same x.kind kind.Name h.0) (moved h.1 n) in one_more p.0 p.1 p.2 p.3)
    (λ h. procs [] no_proc (subst (λ l. Needs (next l) (x ∷ ts) q) (sym (append-nil acc)) (sound (next acc) x v h.1 ts q n)))
    (cond_either (is_same_kind x.kind kind.Name) _ (wanted_after (next acc) x) v e)
  where
    one_more : (f : Procedure) (us : List Token) → IsProc (x ∷ ts) f us → Needs (MoreProcs (acc ++ f ∷ []) next) us q → Needs (MoreProcs acc next) (x ∷ ts) q
    one_more f us is (procs {r = r} fs more k) =
        procs (f ∷ fs) (more_procs is more) (simp regrouped at k)

-- if the tokens may end, nothing more is expected
pub sound_end : (w : Wanted) (q : Program) → program_at_end w ≡ Some q → Needs w [] q
sound_end (Complete p) q e = subst (λ r. Needs (Complete p) [] r) (given e) complete
sound_end (MoreNames acc next) q e = names [] (no_more_names []) (subst (λ l. Needs (next l) [] q) (sym (append-nil acc)) (sound_end (next acc) q e))
sound_end (AnyNamesThen next) q e = any_names [] no_names (sound_end (next []) q e)
sound_end (MoreOperands s a next) q e = operands a (no_more_operands s a []) (sound_end (next a) q e)
sound_end (MoreImplied a next) q e = implied a (nothing_implied a []) (sound_end (next a) q e)
sound_end (MoreExprs acc next) q e = exprs [] (no_more_exprs []) (subst (λ l. Needs (next l) [] q) (sym (append-nil acc)) (sound_end (next acc) q e))
sound_end (AnyExprsThen next) q e = any_exprs [] no_exprs (sound_end (next []) q e)
sound_end (MoreStmts next) q e = stmts Done (no_more_stmts []) (sound_end (next Done) q e)
sound_end (MoreDecls acc next) q e = decls [] no_decl (subst (λ l. Needs (next l) [] q) (sym (append-nil acc)) (sound_end (next acc) q e))
sound_end (MoreProcs acc next) q e = procs [] no_proc (subst (λ l. Needs (next l) [] q) (sym (append-nil acc)) (sound_end (next acc) q e))
sound_end _ q e = absurd (none_some e)
