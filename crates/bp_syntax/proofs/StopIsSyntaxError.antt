-- If the parser ends, the tokens are a program of the grammar; if it stops, it is at the syntax
-- error.
use Rattle.bp_syntax.proofs.Common.{List, [], ◌∷◌, None, refl, sym, subst, false, ◌≡◌, ℕ, ◌++◌, Option, Some, ap, ◌∙◌, inl, inr, length, append-nil, Constant, Choose, Done, Skips, Assigns, Program, Token, AllReal, name_of, one_name, no_names, of_or, of_xor, of_and, of_eq, of_un, of_atom, constant_0, one_expr, no_exprs, choice, skip, assignment, unlabelled, no_decl, no_proc, IsExprs, first_word, first_name, Derives, program, Wanted, Complete, WordThen, NameThen, MoreNames, AnyNamesThen, UnThen, MoreOperands, MoreImplied, MoreExprs, AnyExprsThen, DeciderThen, FormThen, FormAfter, StmtThen, StmtAfter, MoreStmts, MoreDecls, MoreProcs, wanted_after, program_at_end, Got, Stops, result_at_end, result_after, parse_result, whole_program, some_token, Opens, HasSyntaxError}
use Rattle.bp_syntax.proofs.GrownLists.{regrouped}
use Rattle.bp_syntax.specs.declared.tokens.TokenKind.TheVariants as kind
use Rattle.bp_syntax.proofs.WantedPhrases.{some_real, Needs, complete, word, name, names, any_names, un, operands, implied, exprs, any_exprs, decider, form, form_after, stmt, stmt_after, stmts, decls, procs, no_more_names, no_more_exprs, no_more_stmts, no_more_operands, nothing_implied}
use Rattle.bp_syntax.proofs.NextTokenIsWanted.{sound, sound_end}
use Rattle.bp_syntax.proofs.ProgramsAreRead.{derived_is_read}

-- Some real tokens complete whatever is wanted.

pub record Completed (w : Wanted) : Type 0 where
  pub more : List Token
  pub real : AllReal more
  pub tree : Program
  pub needs : Needs w more tree

-- the expression `0`
zero_exprs : (r : List Token) → IsExprs (some_token kind.Zero ∷ r) (Constant false ∷ []) r
zero_exprs r = one_expr (of_or (of_xor (of_and (of_eq (of_un (of_atom (constant_0 (first_word {token = some_token kind.Zero} {rest = r} refl))))))))

-- `:= 0 ;`, behind a name
value_tokens : List Token → List Token
value_tokens r = some_token kind.Becomes ∷ some_token kind.Zero ∷ some_token kind.Semicolon ∷ r

values_real : (r : List Token) → AllReal r → AllReal (value_tokens r)
unfolding value_tokens
values_real r h = (some_real kind.Becomes, (some_real kind.Zero, (some_real kind.Semicolon, h)))

pub completed : (w : Wanted) → Completed w
unfolding value_tokens
completed (Complete p) = record { more = []; real = tt; tree = p; needs = complete }
completed (WordThen k next) =
    let c = completed next in
    record { more = some_token k ∷ c.more; real = (some_real k, c.real); tree = c.tree; needs = word (some_token k) refl c.needs }
completed (NameThen next) =
    let x = some_token kind.Name in
    let c = completed (next (name_of x)) in
    record { more = x ∷ c.more; real = (some_real kind.Name, c.real); tree = c.tree; needs = name x refl c.needs }
completed (MoreNames acc next) =
    let c = completed (next acc) in
    record {
      more = c.more;
      real = c.real;
      tree = c.tree;
      needs =
          names [] (no_more_names c.more) (subst (λ l. Needs (next l) c.more c.tree) (sym (append-nil acc)) c.needs);
    }
completed (AnyNamesThen next) =
    let c = completed (next []) in
    record { more = c.more; real = c.real; tree = c.tree; needs = any_names [] no_names c.needs }
completed (UnThen next) =
    let x = some_token kind.Zero in
    let c = completed (next (Constant false)) in
    record {
      more = x ∷ c.more;
      real = (some_real kind.Zero, c.real);
      tree = c.tree;
      needs = un (Constant false) (of_atom (constant_0 (first_word {token = x} {rest = c.more} refl))) c.needs;
    }
completed (MoreOperands s a next) =
    let c = completed (next a) in
    record { more = c.more; real = c.real; tree = c.tree; needs = operands a (no_more_operands s a c.more) c.needs }
completed (MoreImplied a next) =
    let c = completed (next a) in
    record { more = c.more; real = c.real; tree = c.tree; needs = implied a (nothing_implied a c.more) c.needs }
completed (MoreExprs acc next) =
    let c = completed (next acc) in
    record {
      more = c.more;
      real = c.real;
      tree = c.tree;
      needs =
          exprs [] (no_more_exprs c.more) (subst (λ l. Needs (next l) c.more c.tree) (sym (append-nil acc)) c.needs);
    }
completed (AnyExprsThen next) =
    let c = completed (next []) in
    record { more = c.more; real = c.real; tree = c.tree; needs = any_exprs [] no_exprs c.needs }
completed (DeciderThen next) =
    let x = some_token kind.Question in
    let c = completed (next Choose) in
    record {
      more = x ∷ c.more;
      real = (some_real kind.Question, c.real);
      tree = c.tree;
      needs = decider Choose (choice (first_word {token = x} {rest = c.more} refl)) c.needs;
    }
completed (FormThen next) =
    let x = some_token kind.Skip in
    let y = some_token kind.Semicolon in
    let c = completed (next 0 Skips) in
    record {
      more = x ∷ y ∷ c.more;
      real = (some_real kind.Skip, (some_real kind.Semicolon, c.real));
      tree = c.tree;
      needs =
          form x Skips (skip (first_word {token = x} refl) (first_word {token = y} {rest = c.more} refl)) c.needs;
    }
completed (FormAfter x next) =
    let c = completed (next (Assigns (name_of x ∷ []) (Constant false ∷ []))) in
    record {
      more = value_tokens c.more;
      real = values_real c.more c.real;
      tree = c.tree;
      needs =
          form_after _ (λ h. assignment (one_name (first_name {token = x} h)) (first_word refl) (zero_exprs _)
          (first_word {token = some_token kind.Semicolon} {rest = c.more} refl)) c.needs;
    }
completed (StmtThen next) =
    let x = some_token kind.Skip in
    let y = some_token kind.Semicolon in
    let c = completed (next None 0 Skips) in
    record {
      more = x ∷ y ∷ c.more;
      real = (some_real kind.Skip, (some_real kind.Semicolon, c.real));
      tree = c.tree;
      needs =
          stmt None 0 Skips
          (unlabelled (skip (first_word {token = x} refl) (first_word {token = y} {rest = c.more} refl))) c.needs;
    }
completed (StmtAfter x next) =
    let c = completed (next None x.at (Assigns (name_of x ∷ []) (Constant false ∷ []))) in
    record {
      more = value_tokens c.more;
      real = values_real c.more c.real;
      tree = c.tree;
      needs =
          stmt_after None x.at _ (λ h. unlabelled (assignment (one_name (first_name {token = x} h)) (first_word refl)
          (zero_exprs _) (first_word {token = some_token kind.Semicolon} {rest = c.more} refl))) c.needs;
    }
completed (MoreStmts next) =
    let c = completed (next Done) in
    record { more = c.more; real = c.real; tree = c.tree; needs = stmts Done (no_more_stmts c.more) c.needs }
completed (MoreDecls acc next) =
    let c = completed (next acc) in
    record { more = c.more; real = c.real; tree = c.tree; needs = decls [] no_decl (subst (λ l. Needs (next l) c.more c.tree) (sym (append-nil acc)) c.needs) }
completed (MoreProcs acc next) =
    let c = completed (next acc) in
    record { more = c.more; real = c.real; tree = c.tree; needs = procs [] no_proc (subst (λ l. Needs (next l) c.more c.tree) (sym (append-nil acc)) c.needs) }

-- the expected phrase at the start is a program
whole : (ts : List Token) (q : Program) → Needs whole_program ts q → Derives ts q
whole ts q (decls gs d (procs ps f complete)) = program d f

-- tokens that are read to the end are of the grammar
read_is_needed : (ts : List Token) (w : Wanted) (q : Program) → parse_result w ts ≡ Got q → Needs w ts q
read_is_needed [] w q e = end_by (program_at_end w) refl e
  where
    end_by : (o : Option Program) → program_at_end w ≡ o → result_at_end o ≡ Got q → Needs w [] q
    end_by None h e = let z : ⊥ = cc in absurd z
    end_by (Some p) h e = sound_end w q (h ∙ (let s : Some p ≡ Some q = cc in s))
read_is_needed (x ∷ ts) w q e = step_by (wanted_after w x) refl e (read_is_needed ts)
  where
    step_by : (o : Option Wanted) → wanted_after w x ≡ o
        → result_after o (λ v. parse_result v ts) (Stops (x ∷ ts)) ≡ Got q
        → ((v : Wanted) (p : Program) → parse_result v ts ≡ Got p → Needs v ts p) → Needs w (x ∷ ts) q
    step_by None h e rest = let z : ⊥ = cc in absurd z
    step_by (Some v) h e rest = sound w x v h ts q (rest v q e)

pub read_is_derived : (ts : List Token) (p : Program) → parse_result whole_program ts ≡ Got p → Derives ts p
read_is_derived ts p e = whole ts p (read_is_needed ts whole_program p e)

-- the parser stops here: it read the tokens before, and the next may not come, or the tokens may
-- not end
record Stopped (w : Wanted) (ts left : List Token) : Type 0 where
  front : List Token
  parts : ts ≡ front ++ left
  wanted : Wanted
  through : (us : List Token) → parse_result w (front ++ us) ≡ parse_result wanted us
  needs : (us : List Token) (q : Program) → Needs wanted us q → Needs w (front ++ us) q
  refuses_more : (x : Token) (r us : List Token) → left ≡ x ∷ r → parse_result wanted (x ∷ us) ≡ Stops (x ∷ us)

stopped : (ts : List Token) (w : Wanted) (left : List Token) → parse_result w ts ≡ Stops left → Stopped w ts left
stopped [] w left e = end_by (program_at_end w) refl e
  where
    end_by : (o : Option Program) → program_at_end w ≡ o → result_at_end o ≡ Stops left → Stopped w [] left
    end_by (Some p) h e = let z : ⊥ = cc in absurd z
    end_by None h e =
        let l : [] ≡ left = cc in
        record {
          front = [];
          parts = l;
          wanted = w;
          through = λ us. refl;
          needs = λ us q n. n;
          refuses_more = λ x r us m. let z : ⊥ = cc in absurd z;
        }
stopped (x ∷ ts) w left e = step_by (wanted_after w x) refl e (stopped ts)
  where
    step_by : (o : Option Wanted) → wanted_after w x ≡ o
        → result_after o (λ v. parse_result v ts) (Stops (x ∷ ts)) ≡ Stops left
        → ((v : Wanted) (l : List Token) → parse_result v ts ≡ Stops l → Stopped v ts l) → Stopped w (x ∷ ts) left
    step_by None h e rest =
        let l : x ∷ ts ≡ left = cc in
        record {
          front = [];
          parts = l;
          wanted = w;
          through = λ us. refl;
          needs = λ us q n. n;
          refuses_more = λ y r us m.
              let s : x ≡ y = cc in
              subst (λ z. parse_result w (z ∷ us) ≡ Stops (z ∷ us)) s (ap (λ o. result_after o (λ v. parse_result v us) (Stops (x ∷ us))) h);
        }
    step_by (Some v) h e rest =
        let s = rest v left e in
        record {
          front = x ∷ s.front;
          parts = ap (λ l. x ∷ l) s.parts;
          wanted = s.wanted;
          through = λ us. ap (λ o. result_after o (λ u. parse_result u (s.front ++ us)) (Stops (x ∷ (s.front ++ us)))) h ∙ s.through us;
          needs = λ us q n. sound w x v h (s.front ++ us) q (s.needs us q n);
          refuses_more = s.refuses_more;
        }

needed_opens : (front : List Token) (w : Wanted) → ((us : List Token) (q : Program) → Needs w us q → Needs whole_program (front ++ us) q) → Opens front
needed_opens front w needs =
    let c = completed w in
    record { more = c.more; real = c.real; tree = c.tree; derives = whole (front ++ c.more) c.tree (needs c.more c.tree c.needs) }

got_or_stops : {p : Program} {l : List Token} → Got p ≡ Stops l → ⊥
got_or_stops e = cc

-- the parser stops at the syntax error
pub stops_at_error : (text : List ℕ) (ts left : List Token) (at : ℕ) → parse_result whole_program ts ≡ Stops left
    → ((x : Token) (r : List Token) → left ≡ x ∷ r → x.at ≡ at) → (left ≡ [] → at ≡ length text)
    → HasSyntaxError text ts at
stops_at_error text ts [] at e here there =
    let s = stopped ts whole_program [] e in
    let whole : ts ≡ s.front = s.parts ∙ append-nil s.front in
    inr (
      subst Opens (sym whole) (needed_opens s.front s.wanted s.needs),
      λ p d. got_or_stops (sym (derived_is_read d) ∙ e),
      there refl,
    )
stops_at_error text ts (x ∷ r) at e here there =
    let s = stopped ts whole_program (x ∷ r) e in
    inl (record {
      front = s.front;
      token = x;
      rest = r;
      parts = s.parts;
      before = needed_opens s.front s.wanted s.needs;
      after = λ o.
          let d : Derives (s.front ++ x ∷ o.more) o.tree = simp regrouped at o.derives in
          got_or_stops (sym (derived_is_read d) ∙ s.through (x ∷ o.more) ∙ s.refuses_more x r o.more refl);
      place = here x r refl;
    })
