-- No two bytes of a text have one position.
use Rattle.bp_confirm.proofs.Common.{◌≡◌, ◌≢◌, ◌<◌, ◌≤◌, ◌+◌, ◌-◌, ◌==◌, ◌++◌, ℕ, suc, Bool, true, false, cond, not, List, [], ◌∷◌, length, reverse, take, drop, get_or, refl, ap, sym, ◌∙◌, subst, arith, inl, inr, ◌⊎◌, length-append, Option, Some, slice_get, prefix_len, filter, AllByRecursion, take-take, drop-take, take-append-drop, reverse-append, cases_order, drop-cons, position_after, position_at, regrouped, Name, Block, Done, Then, Statement, Branches, Loops, Procedure, Program, Token, IsForm, branch, loop, IsStmt, labelled, unlabelled, IsStmts, one_stmt, more_stmts, IsProc, proc, IsProcs, no_proc, more_procs, Derives, program, chain, place, places, places_in, places_of}
use Rattle.std.proofs.lemmas.List.Elements.{filter-append}
use Rattle.std.proofs.lemmas.List.Folds.{length-prefix_len}
use Rattle.bp_text.specs.declared.lines.Position.{Position}
use Rattle.bp_confirm.proofs.Elements.{all_got}
use Rattle.bp_flat.specs.StandsFor.{Place}

parts : (n m : ℕ) (xs : List ℕ) → take n xs ++ take m (drop n xs) ≡ take (n + m) xs
parts n m xs =
    ap (λ ys. ys ++ take m (drop n xs)) (sym (take-take n (n + m) xs (omega arith)))
    ∙ ap (λ ys. take n (take (n + m) xs) ++ ys) (sym (drop-take n m xs)) ∙ take-append-drop n (take (n + m) xs)

-- one position is before another
abbrev pub IsBefore : Position → Position → Type 0
IsBefore p q = (p.line < q.line) ⊎ ((p.line ≡ q.line) × (p.column < q.column))

before_trans : (p q r : Position) → IsBefore p q → IsBefore q r → IsBefore p r
before_trans p q r given1 given2 = grind (arith)

apart : (p q : Position) → IsBefore p q → p ≢ q
apart p q given1 = grind (arith)

one_byte : (front : List ℕ) (b : ℕ) → IsBefore (position_after front) (position_after (front ++ b ∷ []))
one_byte front b = by_test (b == 10) refl
  where
    counted : length (filter (λ x. x == 10) (front ++ b ∷ [])) ≡ length (filter (λ x. x == 10) front) + length (filter (λ x. x == 10) (b ∷ []))
    counted = ap length (filter-append (λ x. x == 10) front (b ∷ [])) ∙ length-append (filter (λ x. x == 10) front) (filter (λ x. x == 10) (b ∷ []))

    by_test : (t : Bool) → (b == 10) ≡ t → IsBefore (position_after front) (position_after (front ++ b ∷ []))
    by_test true e =
        let own : length (filter (λ x. x == 10) (b ∷ [])) ≡ 1 = ap (λ t. length (cond t (b ∷ []) [])) e in
        inl (omega (arith, counted, own))
    by_test false e =
        let own : length (filter (λ x. x == 10) (b ∷ [])) ≡ 0 = ap (λ t. length (cond t (b ∷ []) [])) e in
        let turned : reverse (front ++ b ∷ []) ≡ b ∷ reverse front = reverse-append front (b ∷ []) in
        let column : prefix_len (λ x. not (x == 10)) (reverse (front ++ b ∷ [])) ≡ 1 + prefix_len (λ x. not (x == 10)) (reverse front) =
        ap (prefix_len (λ x. not (x == 10))) turned ∙ ap (λ t. cond (not t) (1 + prefix_len (λ x. not (x == 10)) (reverse front)) 0) e in
        let one = length-prefix_len (λ x. not (x == 10)) (reverse (front ++ b ∷ [])) in
        let two = length-prefix_len (λ x. not (x == 10)) (reverse front) in
        inr (omega (arith, counted, own), omega (arith, column, one, two))

some_bytes : (front : List ℕ) (b : ℕ) (rest : List ℕ) → IsBefore (position_after front) (position_after (front ++ b ∷ rest))
some_bytes front b [] = one_byte front b
some_bytes front b (d ∷ rest) =
    before_trans (position_after front) (position_after (front ++ b ∷ [])) (position_after (front ++ b ∷ d ∷ rest)) (one_byte front b)
    (simp regrouped at (some_bytes (front ++ b ∷ []) d rest))

-- no two bytes of a text have one position
pub other_position : (text : List ℕ) (a b : ℕ) → a < b → b ≤ length text → position_at text a ≢ position_at text b
other_position text a b up within =
    let m = b - suc a in
    let next : drop a text ≡ get_or text a 0 ∷ drop (suc a) text = drop-cons text a 0 (omega arith) in
    let whole : take a text ++ take (suc m) (drop a text) ≡ take b text =
    parts a (suc m) text ∙ (let size : a + suc m ≡ b = omega arith in ap (λ k. take k text) size) in
    let split : take a text ++ get_or text a 0 ∷ take m (drop (suc a) text) ≡ take b text = ap (λ ys. take a text ++ take (suc m) ys) (sym next) ∙ whole in
    apart (position_at text a) (position_at text b)
    (subst (λ ys. IsBefore (position_at text a) (position_after ys)) split
    (some_bytes (take a text) (get_or text a 0) (take m (drop (suc a) text))))

-- bytes of one position are one byte
pub one_byte_each : (text : List ℕ) (a b : ℕ) → a < length text → b < length text → position_at text a ≡ position_at text b → a ≡ b
one_byte_each text a b in_a in_b same = by_order (cases_order a b)
  where
    by_order : ((a ≡ b) ⊎ ((a < b) ⊎ (b < a))) → a ≡ b
    by_order (inl equal) = equal
    by_order (inr (inl up)) = absurd (other_position text a b up (omega (arith, in_b)) same)
    by_order (inr (inr down)) = absurd (other_position text b a down (omega (arith, in_a)) (sym same))

-- Each part of a branch and each body of a loop has a statement, in the program of a text.

abbrev mutual
  pub FullBlock : Block → Type 0
  FullBlock Done = Unit {0}
  FullBlock (Then label at x t) = FullStatement x × FullBlock t

  pub FullStatement : Statement → Type 0
  FullStatement (Branches d a b) = (a ≢ Done) × FullBlock a × FullBlock b
  FullStatement (Loops d a) = (a ≢ Done) × FullBlock a
  FullStatement x = Unit {0}

-- the next statement is so
abbrev pub IsFull : Block → Type 0
IsFull Done = Unit {0}
IsFull (Then label at x t) = FullStatement x

mutual
  form_full : {ts : List Token} {x : Statement} {r : List Token} → IsForm ts x r → FullStatement x
  form_full (branch h o is c i body j other g) = let one = stmts_full body in (one.0, one.1, (stmts_full other).1)
  form_full (loop h o is c i body g) = stmts_full body
  form_full is = tt

  stmt_full : {ts : List Token} {label : Option Name} {at : ℕ} {x : Statement} {r : List Token} → IsStmt ts label at x r → FullStatement x
  stmt_full (labelled h c is) = form_full is
  stmt_full (unlabelled is) = form_full is

  stmts_full : {ts : List Token} {b : Block} {r : List Token} → IsStmts ts b r → (b ≢ Done) × FullBlock b
  stmts_full (one_stmt is) = ((λ e. absurd cc), (stmt_full is, tt))
  stmts_full (more_stmts is more) = ((λ e. absurd cc), (stmt_full is, (stmts_full more).1))

abbrev AreFull : List Place → Type 0
AreFull xs = AllByRecursion (λ x. IsFull x.left) xs

both_full : (xs ys : List Place) → AreFull xs → AreFull ys → AreFull (xs ++ ys)
both_full [] ys p q = q
both_full (x ∷ xs) ys p q = (p.0, both_full xs ys p.1 q)

mutual
  block_full : (p : Procedure) (b k : Block) → FullBlock b → AreFull (places p b k)
  block_full p Done k full = tt
  block_full p (Then label at x t) k full =
      both_full (places_in p x label at (chain t k)) (places p t k) (statement_full p x label at (chain t k) full.0) (block_full p t k full.1)

  statement_full : (p : Procedure) (x : Statement) (label : Option Name) (at : ℕ) (k : Block) → FullStatement x → AreFull (places_in p x label at k)
  statement_full p (Branches d a b) label at k full = (full, both_full (places p a k) (places p b k) (block_full p a k full.1) (block_full p b k full.2))
  statement_full p (Loops d a) label at k full = (full, block_full p a (Then label at (Loops d a) k) full.1)
  statement_full p x label at k full = (tt, tt)

proc_full : {ts : List Token} {p : Procedure} {r : List Token} → IsProc ts p r → FullBlock p.body
proc_full (proc h o formals c g locals body e) = (stmts_full body).1

procs_full : {ts : List Token} {ps : List Procedure} {r : List Token} → IsProcs ts ps r → AreFull (places_of ps)
procs_full no_proc = tt
procs_full (more_procs {procedure = p} {more = ps} is more) =
    both_full (places p p.body Done) (place p Done ∷ places_of ps) (block_full p p.body Done (proc_full is)) (tt, procs_full more)

derived_full : {ts : List Token} {t : Program} → Derives ts t → AreFull (places_of t.procedures)
derived_full (program globals procs) = procs_full procs

pub full_place : {ts : List Token} (t : Program) → Derives ts t → (n : ℕ) (x : Place) → slice_get (places_of t.procedures) n ≡ Some x → IsFull x.left
full_place t is n x at = all_got (λ y. IsFull y.left) (places_of t.procedures) n x (derived_full is) at
