-- The deciders of the assertions of a program's places are those of its statements.
use Rattle.bp_source.proofs.Common.{◌≡◌, ◌||◌, ℕ, List, [], ◌∷◌, bytes_eq, map, ap, refl, ◌∙◌, ◌+◌, ◌<◌, ◌≤◌, zero, suc, ap₂, ◌++◌, Option, None, length, drop, get_or, arith, ◌≢◌, ◌&&◌, Bool, true, false, codes, ◌==◌, not, cond, take, OnOk, Result, fold, eq-eqb, rules, map-append, onto_first, concat, rest_left, regrouped, all_added, block_of, statement_of, depth, statement_depth, Name, Block, Done, Then, Statement, Skips, GoesTo, Returns, Assigns, Branches, Loops, Asserts, Assumes, Prints, Calls, Decision, Procedure, chain, Place, places, places_in, places_of, drop_item, is_among, is_named, decision_in, next_decision, block_decisions, inner_decisions, reading_of, qualified, is_braced_after, piece_size, pieces}
use Rattle.std.specs.Borrow.{Bor}
use Rattle.std.proofs.lemmas.Result.{on_ok_weaker}
use Rattle.bp_syntax.specs.declared.exprs.Decider.{Decider}
use Rattle.bp_syntax.specs.declared.stmts.Stmt.{Stmt}

-- Names behind references.

pub among_named : (ns : List (Bor (List ℕ))) (x : List ℕ) → is_among ns x ≡ is_named (map (λ n. n.now) ns) x
among_named [] x = refl
among_named (n ∷ ns) x = ap (λ b. bytes_eq n.now x || b) (among_named ns x)

abbrev pub asserted : List Place → List (Option Decision)
asserted xs = map (λ (x : Place). next_decision x.left) xs

asserted_both : (xs ys : List Place) → asserted (xs ++ ys) ≡ asserted xs ++ asserted ys
asserted_both xs ys = map-append (λ (x : Place). next_decision x.left) xs ys

mutual
  in_block : (p : Procedure) (b r : Block) → asserted (places p b r) ≡ block_decisions b
  in_block p Done r = refl
  in_block p (Then label at s t) r =
      asserted_both (places_in p s label at (chain t r)) (places p t r)
      ∙ ap₂ (λ xs ys. xs ++ ys) (in_statement p s label at (chain t r)) (in_block p t r)

  in_statement : (p : Procedure) (s : Statement) (label : Option Name) (at : ℕ) (r : Block)
      → asserted (places_in p s label at r) ≡ decision_in s ∷ inner_decisions s
  in_statement p (Branches d a b) label at r =
      ap (λ xs. None ∷ xs) (asserted_both (places p a r) (places p b r) ∙ ap₂ (λ xs ys. xs ++ ys) (in_block p a r) (in_block p b r))
  in_statement p (Loops d a) label at r = ap (λ xs. None ∷ xs) (in_block p a (Then label at (Loops d a) r))
  in_statement p Skips label at r = refl
  in_statement p (GoesTo x) label at r = refl
  in_statement p Returns label at r = refl
  in_statement p (Assigns xs es) label at r = refl
  in_statement p (Asserts d) label at r = refl
  in_statement p (Assumes d) label at r = refl
  in_statement p (Prints es) label at r = refl
  in_statement p (Calls x es) label at r = refl

pub first_procedure : (p : Procedure) (ps : List Procedure) → asserted (places_of (p ∷ ps)) ≡ block_decisions p.body ++ None ∷ asserted (places_of ps)
first_procedure p ps = search (rules, asserted_both, in_block)

-- one more decider was noted
pub noted_one : (xs ys : List (Option (Bor Decider))) (d : Option (Bor Decider)) (r : Option Decision) → ys ≡ xs ++ d ∷ [] → reading_of d ≡ r
    → map reading_of ys ≡ map reading_of xs ++ r ∷ []
noted_one xs ys d r is same = ap (map reading_of) is ∙ map-append reading_of xs (d ∷ []) ∙ ap (λ x. map reading_of xs ++ x ∷ []) same

three_parts : {X : Type 0} (old mid new one more rest all : List X) → mid ≡ old ++ one → new ≡ mid ++ more → old ++ (one ++ (more ++ rest)) ≡ all
    → new ++ rest ≡ all
three_parts given1 given2 given3 = search (rules, rest_left)

module _ (items : List Stmt) (i : ℕ) (s : Stmt) (h : i < length items) (e : s ≡ get_or items i s) where
  -- one more statement, and those inside it
  pub statement_more : (old mid new all : List (Option Decision)) → mid ≡ old ++ decision_in (statement_of s.form) ∷ []
      → new ≡ mid ++ inner_decisions (statement_of s.form)
      → old ++ block_decisions (block_of (drop i items)) ≡ all → new ++ block_decisions (block_of (drop (i + 1) items)) ≡ all
  statement_more old mid new all given1 given2 given3 = search (rules, drop_item, three_parts)

  -- it is less deep than all of them
  pub depth_inside : statement_depth (statement_of s.form) ≤ depth (block_of items)
  depth_inside =
      let tail = depth_left items i in
      let here = rw (drop_item items i s h e) at tail in
      omega arith
    where
      depth_left : (xs : List Stmt) (n : ℕ) → depth (block_of (drop n xs)) ≤ depth (block_of xs)
      depth_left xs zero = omega arith
      depth_left [] (suc n) = omega arith
      depth_left (x ∷ xs) (suc n) = omega (arith, depth_left xs n)

-- one more procedure, and its end
pub procedure_more : (ps : List Procedure) (i : ℕ) (p : Procedure) → i < length ps → p ≡ get_or ps i p → (old mid new all : List (Option Decision))
    → mid ≡ old ++ block_decisions p.body → new ≡ mid ++ None ∷ [] → old ++ asserted (places_of (drop i ps)) ≡ all
    → new ++ asserted (places_of (drop (i + 1) ps)) ≡ all
procedure_more ps i p h e old mid new all first second before =
    let split = rw (drop_item ps i p h e, first_procedure p (drop (i + 1) ps)) at before in
    three_parts old mid new (block_decisions p.body) (None ∷ []) (asserted (places_of (drop (i + 1) ps))) all first second split

-- A name after the name of a procedure and a dot.

-- it is the procedure's name, and then a dot and the own name
pub qualified_parts : (own name : List ℕ) → qualified own name ≡ own ++ (46 ∷ name)
qualified_parts own name = simp regrouped

same_front : (front a b : List ℕ) → bytes_eq (front ++ a) (front ++ b) ≡ bytes_eq a b
same_front [] a b = refl
same_front (x ∷ front) a b = ap (λ p. p && bytes_eq (front ++ a) (front ++ b)) (eq-eqb x x refl) ∙ same_front front a b

pub same_qualified : (own a b : List ℕ) → bytes_eq (qualified own a) (qualified own b) ≡ bytes_eq a b
same_qualified own a b = same_front (own ++ codes ".") a b

-- a text that does not begin with the procedure's name, or not with a dot after it
pub no_owner : (text own : List ℕ) → ((rest : List ℕ) → text ≢ own ++ rest) → (name : List ℕ) → text ≢ qualified own name
no_owner text own none name e = none (46 ∷ name) (e ∙ qualified_parts own name)

-- The first piece of a text that is cut at its commas outside braces.

-- it ends at the first of these commas
pub first_piece :
    (braced : Bool) (text : List ℕ)
    → piece_size braced text < length text
    → pieces braced text ≡ take (piece_size braced text) text ∷ pieces false (drop (piece_size braced text + 1) text)
first_piece braced [] some = absurd (omega (arith, some))
first_piece braced (b ∷ bs) some = by_comma (not braced && b == 44) (first_piece (is_braced_after braced b) bs) some
  where
    later : Bool
    later = is_braced_after braced b

    size : Bool → ℕ
    size ends = cond ends 0 (suc (piece_size later bs))

    by_comma :
        (ends : Bool)
        → (piece_size later bs < length bs → pieces later bs ≡ take (piece_size later bs) bs ∷ pieces false (drop (piece_size later bs + 1) bs))
        → size ends < suc (length bs)
        → cond ends ([] ∷ pieces false bs) (onto_first b (pieces later bs)) ≡ take (size ends) (b ∷ bs) ∷ pieces false (drop (size ends + 1) (b ∷ bs))
    by_comma true _ _ = refl
    by_comma false of_others some =
        let n = piece_size later bs in
        let one_more : suc (n + 1) ≡ suc n + 1 = omega arith in
        ap (onto_first b) (of_others (omega (arith, some))) ∙ ap (λ m. (b ∷ take n bs) ∷ pieces false (drop m (b ∷ bs))) one_more

-- it is the whole text if there are none
pub one_piece : (braced : Bool) (text : List ℕ) → length text ≤ piece_size braced text → pieces braced text ≡ text ∷ []
one_piece braced [] all = refl
one_piece braced (b ∷ bs) all = by_comma (not braced && b == 44) (one_piece (is_braced_after braced b) bs) all
  where
    later : Bool
    later = is_braced_after braced b

    by_comma :
        (ends : Bool)
        → (length bs ≤ piece_size later bs → pieces later bs ≡ bs ∷ [])
        → suc (length bs) ≤ cond ends 0 (suc (piece_size later bs))
        → cond ends ([] ∷ pieces false bs) (onto_first b (pieces later bs)) ≡ (b ∷ bs) ∷ []
    by_comma true _ all = absurd (omega (arith, all))
    by_comma false of_others all = ap (onto_first b) (of_others (omega (arith, all)))

-- Texts that are one, and others after them.

-- some texts that are one, and others
pub first_joined : (old : List ℕ) (ts us : List (List ℕ)) → fold (λ a u. a ++ u) (fold (λ a u. a ++ u) old ts) us ≡ old ++ concat (concat ts ∷ us)
first_joined old ts us = ap (λ x. fold (λ a u. a ++ u) x us) (all_added old ts) ∙ all_added old (concat ts ∷ us)

-- a consequence of a fact of a call that succeeded
pub when_ok : {T E P Q : Type 0} (r : Result T E) → OnOk r P → (P → Q) → OnOk r Q
when_ok r is more = on_ok_weaker r more is
