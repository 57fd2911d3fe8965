-- The statements of the program of a text begin in the order of its instructions, each at a byte of
-- its own; so a place is that of one.
use Rattle.bp_confirm.proofs.Common.{◌≡◌, ◌+◌, ◌<◌, ◌≤◌, ℕ, zero, suc, List, [], ◌∷◌, ◌++◌, length, take, map, Option, None, Some, refl, ap, sym, subst, arith, slice_get, ◌∙◌, ◌||◌, inl, inr, Bool, true, false, option_map, rules, length-drop, map-append, Name, Expression, Decision, Block, Done, Statement, Procedure, Program, Then, Token, kind_of, Lexeme, IsCut, fit, open_brace, bad_byte, tokens_of, with_token, IsNames, one_name, more_names, IsAnyNames, IsExpr, of_or, implication, IsOr, of_xor, disjunction, IsXor, of_and, exclusion, IsAnd, of_eq, conjunction, IsEq, of_un, equality, difference, IsUn, negation, of_atom, IsAtom, constant_0, constant_1, variable, brackets, IsExprs, one_expr, more_exprs, IsAnyExprs, IsDecider, choice, by_value, IsForm, skip, jump, returning, assignment, branch, loop, assertion, assumption, printing, call, IsStmt, labelled, unlabelled, IsStmts, one_stmt, more_stmts, decl, IsDecls, no_decl, more_decls, IsProc, proc, IsProcs, no_proc, more_procs, Derives, program, first_word, first_name, IsTextOf, chain, Configuration, place, places, places_in, places_of, start_of_block, starts_of, Remains, cases_order, false≢true, slice_get-map, bytes_eq-Decides, IsWellFormedText, starts, procedure_of, GoesOnAt}
use Rattle.bp_syntax.specs.Tokens.{ends}
use Rattle.bp_syntax.specs.declared.tokens.TokenKind.{TokenKind}
use Rattle.bp_flat.specs.StandsFor.{Place}
use Rattle.std.specs.Str.{bytes_eq}
use Rattle.bp_syntax.specs.Errors.{has}
use Rattle.bp_syntax.proofs.LawsOfWellFormedPrograms.{distinct_names}
use Rattle.bp_flat.proofs.ProceduresOfPlaces.{ends as ends_among}

abbrev first_at : List Token → ℕ
first_at [] = 0
first_at (x ∷ xs) = x.at

module _ (size : ℕ) where
  -- the tokens begin one after the other, from here on and before the text's end
  pub data Sorted : ℕ → List Token → Type 0 where
    all : {low : ℕ} → Sorted low []
    next : {low : ℕ} {x : Token} {xs : List Token} → low ≤ x.at → x.at < size → Sorted (suc x.at) xs → Sorted low (x ∷ xs)

  -- so do the statements, between these
  abbrev pub Increasing : ℕ → ℕ → List (Option ℕ) → Type 0
  Increasing low high [] = low ≤ high
  Increasing low high (None ∷ xs) = Increasing low high xs
  Increasing low high (Some at ∷ xs) = (low ≤ at) × (at < size) × Increasing (suc at) high xs

  pub lower : (a b : ℕ) (ts : List Token) → a ≤ b → Sorted b ts → Sorted a ts
  lower a b ts given1 given2 = search (rules, all, next)

  tail : {low : ℕ} {x : Token} {xs : List Token} → Sorted low (x ∷ xs) → Sorted low xs
  tail {low = low} {x = x} {xs = xs} (next from to s) = lower low (suc x.at) xs (omega (arith, from)) s

  raise : (a b high : ℕ) (xs : List (Option ℕ)) → a ≤ b → Increasing b high xs → Increasing a high xs
  raise a b high [] up is = omega (arith, up, is)
  raise a b high (None ∷ xs) up is = raise a b high xs up is
  raise a b high (Some at ∷ xs) up is = (omega (arith, up, is.0), is.1, is.2)

  both_increase : (low middle high : ℕ) (xs ys : List (Option ℕ)) → Increasing low middle xs → Increasing middle high ys → Increasing low high (xs ++ ys)
  both_increase low middle high [] ys p q = raise low middle high ys p q
  both_increase low middle high (None ∷ xs) ys p q = both_increase low middle high xs ys p q
  both_increase low middle high (Some at ∷ xs) ys p q = (p.0, p.1, both_increase (suc at) middle high xs ys p.2 q)

  -- these begin in order, and then the rest of the tokens
  record InOrder (low : ℕ) (xs : List (Option ℕ)) (rest : List Token) : Type 0 where
    high : ℕ
    order : Increasing low high xs
    after : Sorted high rest

  -- the tokens after names begin after the first of them
  record Follow (low : ℕ) (ts rest : List Token) : Type 0 where
    from : low ≤ first_at ts
    to : first_at ts < size
    after : Sorted (suc (first_at ts)) rest

  names_in : {low : ℕ} {ts : List Token} {ns : List Name} {r : List Token} → IsNames ts ns r → Sorted low ts → Follow low ts r
  names_in (one_name (first_name h)) (next from to s) = record { from = from; to = to; after = s }
  names_in {r = r} (more_names (first_name h) (first_word k) is) (next from to s) =
      let more = names_in is (tail s) in
      record { from = from; to = to; after = lower _ _ r (omega (arith, more.from)) more.after }

  names_after : {low : ℕ} {ts : List Token} {ns : List Name} {r : List Token} → IsNames ts ns r → Sorted low ts → Sorted low r
  names_after (one_name (first_name h)) s = tail s
  names_after (more_names (first_name h) (first_word k) is) s = names_after is (tail (tail s))

  any_names_after : {low : ℕ} {ts : List Token} {ns : List Name} {r : List Token} → IsAnyNames ts ns r → Sorted low ts → Sorted low r
  any_names_after given1 given2 = search (rules, names_after)

  mutual
    expr_after : {low : ℕ} {ts : List Token} {e : Expression} {r : List Token} → IsExpr ts e r → Sorted low ts → Sorted low r
    expr_after (of_or d) s = or_after d s
    expr_after (implication d (first_word h) f) s = expr_after f (tail (or_after d s))

    or_after : {low : ℕ} {ts : List Token} {e : Expression} {r : List Token} → IsOr ts e r → Sorted low ts → Sorted low r
    or_after (of_xor d) s = xor_after d s
    or_after (disjunction d (first_word h) f) s = xor_after f (tail (or_after d s))

    xor_after : {low : ℕ} {ts : List Token} {e : Expression} {r : List Token} → IsXor ts e r → Sorted low ts → Sorted low r
    xor_after (of_and d) s = and_after d s
    xor_after (exclusion d (first_word h) f) s = and_after f (tail (xor_after d s))

    and_after : {low : ℕ} {ts : List Token} {e : Expression} {r : List Token} → IsAnd ts e r → Sorted low ts → Sorted low r
    and_after (of_eq d) s = eq_after d s
    and_after (conjunction d (first_word h) f) s = eq_after f (tail (and_after d s))

    eq_after : {low : ℕ} {ts : List Token} {e : Expression} {r : List Token} → IsEq ts e r → Sorted low ts → Sorted low r
    eq_after (of_un d) s = un_after d s
    eq_after (equality d (first_word h) f) s = un_after f (tail (eq_after d s))
    eq_after (difference d (first_word h) f) s = un_after f (tail (eq_after d s))

    un_after : {low : ℕ} {ts : List Token} {e : Expression} {r : List Token} → IsUn ts e r → Sorted low ts → Sorted low r
    un_after (negation (first_word h) is) s = un_after is (tail s)
    un_after (of_atom is) s = atom_after is s

    atom_after : {low : ℕ} {ts : List Token} {e : Expression} {r : List Token} → IsAtom ts e r → Sorted low ts → Sorted low r
    atom_after (constant_0 (first_word h)) s = tail s
    atom_after (constant_1 (first_word h)) s = tail s
    atom_after (variable (first_name h)) s = tail s
    atom_after (brackets (first_word h) is (first_word k)) s = tail (expr_after is (tail s))

  exprs_after : {low : ℕ} {ts : List Token} {es : List Expression} {r : List Token} → IsExprs ts es r → Sorted low ts → Sorted low r
  exprs_after (one_expr is) s = expr_after is s
  exprs_after (more_exprs is (first_word h) more) s = exprs_after more (tail (expr_after is s))

  any_exprs_after : {low : ℕ} {ts : List Token} {es : List Expression} {r : List Token} → IsAnyExprs ts es r → Sorted low ts → Sorted low r
  any_exprs_after given1 given2 = search (rules, exprs_after)

  decider_after : {low : ℕ} {ts : List Token} {d : Decision} {r : List Token} → IsDecider ts d r → Sorted low ts → Sorted low r
  decider_after (choice (first_word h)) s = tail s
  decider_after (by_value is) s = expr_after is s

  -- a statement with none inside
  alone : (low at : ℕ) (r : List Token) → low ≤ at → at < size → Sorted (suc at) r → InOrder low (Some at ∷ []) r
  alone low at r from to after = record { high = suc at; order = (from, to, omega arith); after = after }

  mutual
    form_in : {low : ℕ} {ts : List Token} {x : Statement} {r : List Token} → IsForm ts x r → Sorted low ts → (p : Procedure) (label : Option Name) (k : Block)
        → InOrder low (starts (places_in p x label (first_at ts) k)) r
    form_in (skip (first_word h) (first_word c)) (next from to s) p label k = alone _ _ _ from to (tail s)
    form_in (jump (first_word h) (first_name i) (first_word c)) (next from to s) p label k = alone _ _ _ from to (tail (tail s))
    form_in (returning (first_word h) (first_word c)) (next from to s) p label k = alone _ _ _ from to (tail s)
    form_in (assignment names (first_word h) exprs (first_word c)) s p label k =
        let first = names_in names s in
        alone _ _ _ first.from first.to (tail (exprs_after exprs (tail first.after)))
    form_in (branch {first = a} {second = b} (first_word h) (first_word o) is (first_word c) (first_word i) body
        (first_word j) other (first_word g)) (next from to s) p label k =
        let one = stmts_in body (tail (tail (decider_after is (tail s)))) p k in
        let two = stmts_in other (tail one.after) p k in
        record {
          high = two.high;
          order = (
            from,
            to,
            subst (Increasing _ two.high)
                (sym (map-append (λ (x : Place). start_of_block x.left) (places p a k) (places p b k)))
                (both_increase _ one.high two.high (starts (places p a k)) (starts (places p b k)) one.order two.order),
          );
          after = tail two.after;
        }
    form_in (loop (first_word h) (first_word o) is (first_word c) (first_word i) body (first_word g)) (next from to s) p label k =
        let one = stmts_in body (tail (tail (decider_after is (tail s)))) p _ in
        record { high = one.high; order = (from, to, one.order); after = tail one.after }
    form_in (assertion (first_word h) (first_word o) is (first_word c) (first_word g)) (next from to s) p label k =
        alone _ _ _ from to (tail (tail (decider_after is (tail s))))
    form_in (assumption (first_word h) (first_word o) is (first_word c) (first_word g)) (next from to s) p label k =
        alone _ _ _ from to (tail (tail (decider_after is (tail s))))
    form_in (printing (first_word h) (first_word o) are (first_word c) (first_word g)) (next from to s) p label k =
        alone _ _ _ from to (tail (tail (exprs_after are (tail s))))
    form_in (call (first_name h) (first_word o) are (first_word c) (first_word g)) (next from to s) p label k =
        alone _ _ _ from to (tail (tail (any_exprs_after are (tail s))))

    stmt_in : {low : ℕ} {ts : List Token} {label : Option Name} {at : ℕ} {x : Statement} {r : List Token}
        → IsStmt ts label at x r → Sorted low ts → (p : Procedure) (k : Block)
        → InOrder low (starts (places_in p x label at k)) r
    stmt_in (labelled (first_name h) (first_word c) is) s p k = form_in is (tail (tail s)) p _ k
    stmt_in (unlabelled is) s p k = form_in is s p None k

    stmts_in : {low : ℕ} {ts : List Token} {b : Block} {r : List Token} → IsStmts ts b r → Sorted low ts
        → (p : Procedure) (k : Block) → InOrder low (starts (places p b k)) r
    stmts_in {low = low} (one_stmt {label = label} {at = at} {statement = x} is) s p k =
        let one = stmt_in is s p k in
        record {
          high = one.high;
          order =
              subst (Increasing low one.high)
              (sym (map-append (λ (y : Place). start_of_block y.left) (places_in p x label at k) []))
              (both_increase low one.high one.high (starts (places_in p x label at k)) [] one.order (omega arith));
          after = one.after;
        }
    stmts_in {low = low} (more_stmts {label = label} {at = at} {statement = x} {more = b} is more) s p k =
        let one = stmt_in is s p (chain b k) in
        let two = stmts_in more one.after p k in
        record {
          high = two.high;
          order = subst (Increasing low two.high) (sym (map-append (λ (y : Place). start_of_block y.left) (places_in p x label at (chain b k)) (places p b k)))
              (both_increase low one.high two.high (starts (places_in p x label at (chain b k))) (starts (places p b k)) one.order two.order);
          after = two.after;
        }

  decls_after : {low : ℕ} {ts : List Token} {ns : List Name} {r : List Token} → IsDecls ts ns r → Sorted low ts → Sorted low r
  decls_after no_decl s = s
  decls_after (more_decls (decl (first_word h) is (first_word k)) more) s = decls_after more (tail (names_after is (tail s)))

  proc_in : {low : ℕ} {ts : List Token} {p : Procedure} {r : List Token} → IsProc ts p r → Sorted low ts → InOrder low (starts (places p p.body Done)) r
  proc_in (proc (first_name h) (first_word o) formals (first_word c) (first_word g) locals body (first_word e)) s =
      let one = stmts_in body (decls_after locals (tail (tail (any_names_after formals (tail (tail s)))))) _ Done in
      record { high = one.high; order = one.order; after = tail one.after }

  procs_in : {low : ℕ} {ts : List Token} {ps : List Procedure} {r : List Token} → IsProcs ts ps r → Sorted low ts → InOrder low (starts (places_of ps)) r
  procs_in {low = low} no_proc s = record { high = low; order = omega arith; after = s }
  procs_in {low = low} (more_procs {procedure = p} {more = ps} is more) s =
      let one = proc_in is s in
      let two = procs_in {low = one.high} more one.after in
      record {
        high = two.high;
        order = subst (Increasing low two.high) (sym (map-append (λ (y : Place). start_of_block y.left) (places p p.body Done) (place p Done ∷ places_of ps)))
            (both_increase low one.high two.high (starts (places p p.body Done)) (None ∷ starts (places_of ps)) one.order two.order);
        after = two.after;
      }

  program_in : {ts : List Token} {t : Program} → Derives ts t → Sorted 0 ts → (high : ℕ) × Increasing 0 high (starts_of t)
  program_in (program globals procs) s = let all = procs_in procs (decls_after globals s) in (all.high, all.order)

  -- each start is within these
  within_order : (low high : ℕ) (xs : List (Option ℕ)) (n a : ℕ) → Increasing low high xs → slice_get xs n ≡ Some (Some a) → (low ≤ a) × (a < size)
  within_order low high (None ∷ xs) (suc n) a order at = within_order low high xs n a order at
  within_order low high (Some b ∷ xs) zero a order at = let same : b ≡ a = cc in (omega (arith, same, order.0), omega (arith, same, order.1))
  within_order low high (Some b ∷ xs) (suc n) a order at = let more = within_order (suc b) high xs n a order.2 at in (omega (arith, more.0, order.0), more.1)
  within_order low high xs n a order at = absurd cc

  distinct : (low high : ℕ) (xs : List (Option ℕ)) (m n a : ℕ) → Increasing low high xs → slice_get xs m ≡ Some (Some a)
      → slice_get xs n ≡ Some (Some a) → m ≡ n
  distinct low high (None ∷ xs) (suc m) (suc n) a order p q = ap suc (distinct low high xs m n a order p q)
  distinct low high (Some b ∷ xs) zero zero a order p q = refl
  distinct low high (Some b ∷ xs) zero (suc n) a order p q =
      let same : b ≡ a = cc in absurd (omega (arith, same, (within_order (suc b) high xs n a order.2 q).0))
  distinct low high (Some b ∷ xs) (suc m) zero a order p q =
      let same : b ≡ a = cc in absurd (omega (arith, same, (within_order (suc b) high xs m a order.2 p).0))
  distinct low high (Some b ∷ xs) (suc m) (suc n) a order p q = ap suc (distinct (suc b) high xs m n a order.2 p q)
  distinct low high xs m n a order p q = absurd cc

-- the tokens of a text are in order
one_token : (k : Option TokenKind) (at size : ℕ) (bytes : List ℕ) (ts : List Token) → at < size
    → Sorted size (suc at) ts → Sorted size at (with_token k at bytes ts)
one_token k at size bytes ts given1 given2 = search (rules, lower, next)

tokens_in : {at : ℕ} {text : List ℕ} {ps : List Lexeme} → IsCut at text ps → (size : ℕ) → at + length text ≤ size → Sorted size at (tokens_of ps)
tokens_in ends size few = all
tokens_in (fit {at = at} {n = n} {text = s} {kind = lexeme} {more = ps} longest rest) size few =
    let some = longest.some in
    let within = longest.within in
    one_token (kind_of lexeme (take n s)) at size (take n s) (tokens_of ps) (omega (arith, some, within, few))
    (lower size (suc at) (at + n) (tokens_of ps) (omega (arith, some)) (tokens_in rest size (omega (arith, within, few, length-drop n s))))
tokens_in (open_brace {at = at} {more = ps} none is rest) size few =
    lower size at (at + 1) (tokens_of ps) (omega arith) (tokens_in rest size (omega (arith, few)))
tokens_in (bad_byte {at = at} {more = ps} none never rest) size few =
    lower size at (at + 1) (tokens_of ps) (omega arith) (tokens_in rest size (omega (arith, few)))

-- the starts of the program of a text
module _ (text : List ℕ) (t : Program) (is : IsTextOf text t) where
  ordered : (high : ℕ) × Increasing (length text) 0 high (starts_of t)
  ordered = program_in (length text) is.derives (subst (Sorted (length text) 0) is.scanned.tokens (tokens_in is.scanned.cut (length text) (omega arith)))

  pub start_within : (n a : ℕ) → slice_get (starts_of t) n ≡ Some (Some a) → a < length text
  start_within n a at = (within_order (length text) 0 ordered.0 (starts_of t) n a ordered.1 at).1

  pub starts_distinct : (m n a : ℕ) → slice_get (starts_of t) m ≡ Some (Some a) → slice_get (starts_of t) n ≡ Some (Some a) → m ≡ n
  starts_distinct m n a p q = distinct (length text) 0 ordered.0 (starts_of t) m n a ordered.1 p q

-- A place in the well-formed program of a text is that of one instruction.

-- after an end there is one more
ends_grow : (xs : List (Option ℕ)) (m n : ℕ) → m < n → slice_get xs m ≡ Some None → ends_among (take m xs) < ends_among (take n xs)
ends_grow [] m n less at = absurd cc
ends_grow (x ∷ xs) m zero less at = absurd (omega (arith, less))
ends_grow (None ∷ xs) zero (suc n) less at = omega arith
ends_grow (Some a ∷ xs) zero (suc n) less at = absurd cc
ends_grow (None ∷ xs) (suc m) (suc n) less at = let rest = ends_grow xs m n (omega (arith, less)) at in omega (arith, rest)
ends_grow (Some a ∷ xs) (suc m) (suc n) less at = ends_grow xs m n (omega (arith, less)) at

-- a name of the list is among the first ones after it
has_before : (ns : List Name) (i j : ℕ) (n : Name) → i < j → slice_get ns i ≡ Some n → has (take j ns) n.text ≡ true
has_before [] i j n less at = absurd cc
has_before (x ∷ ns) i zero n less at = absurd (omega (arith, less))
has_before (x ∷ ns) zero (suc j) n less at =
    let same : x ≡ n = cc in
    let alike : bytes_eq x.text n.text ≡ true = (bytes_eq-Decides x.text n.text).1 (ap (λ y. y.text) same) in
    rw alike refl
has_before (x ∷ ns) (suc i) (suc j) n less at = by_first (bytes_eq x.text n.text) (has_before ns i j n (omega (arith, less)) at)
  where
    by_first : (b : Bool) {c : Bool} → c ≡ true → (b || c) ≡ true
    by_first true is = refl
    by_first false is = is

module _ (text : List ℕ) (t : Program) (is : IsWellFormedText text t) where
  name_at : (k : ℕ) (p : Procedure) → slice_get t.procedures k ≡ Some p → slice_get (map (λ q. q.name) t.procedures) k ≡ Some p.name
  name_at k p at = slice_get-map (λ (q : Procedure). q.name) t.procedures k ∙ ap (option_map (λ (q : Procedure). q.name)) at

  -- no procedure is there twice
  not_before : (i j : ℕ) (p : Procedure) → i < j → slice_get t.procedures i ≡ Some p → slice_get t.procedures j ≡ Some p → ⊥
  not_before i j p less first second =
      false≢true (sym ((distinct_names t is.well_formed).procedures j p.name (name_at j p second))
      ∙ has_before (map (λ q. q.name) t.procedures) i j p.name less (name_at i p first))

  start_at : (n : ℕ) (p : Procedure) (r : Block) → Remains (places_of t.procedures) n p r → slice_get (starts_of t) n ≡ Some (start_of_block r)
  start_at n p r given1 = search (rules, slice_get-map)

  end_before : (m n : ℕ) (p : Procedure) → m < n → Remains (places_of t.procedures) m p Done → Remains (places_of t.procedures) n p Done → ⊥
  end_before m n p given1 given2 given3 = search (rules, not_before, ends_among, starts, ends_grow, start_at, procedure_of)

  pub one_number : (m n : ℕ) (p : Procedure) (r : Block) → Remains (places_of t.procedures) m p r → Remains (places_of t.procedures) n p r → m ≡ n
  one_number m n p (Then label at s r) first second =
      starts_distinct text t is.derived m n at (start_at m p (Then label at s r) first)
      (start_at n p (Then label at s r) second)
  one_number m n p Done first second =
      elim (cases_order m n) [
        | inl same ↦ same
        | inr rest ↦ elim rest [ inl less ↦ absurd (end_before m n p less first second) | inr more ↦ absurd (end_before n m p more second first) ]
      ]

  -- a thread continues at one instruction
  pub one_goes_on : (c : Configuration) (i : ℕ) (a b : Option ℕ) → GoesOnAt t c i a → GoesOnAt t c i b → a ≡ b
  one_goes_on c i a b given1 given2 = search (rules, next, one_number)
