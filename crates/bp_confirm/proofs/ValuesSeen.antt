-- The values of the names of a thread's top.
use Rattle.bp_confirm.proofs.Common.{◌≡◌, ◌∙◌, ◌+◌, ℕ, zero, suc, List, [], ◌∷◌, Option, None, Some, refl, ap, ◌<◌, length, get_or, ◌++◌, take, sym, arith, option_map, Bor, subst, ◌≢◌, Bool, true, false, cond, slice_get, MatchOption, IfSome, is_some, nat_lt, rules, fun_ext, take_more, slice_get_past, slice_get-get_or, slice_get-map, option_or, bytes_eq-Decides, position_at, Program, Procedure, starts_of, valuation_of, variables, start_of_block, bits_of, Configuration, Valuation, lookup, ends, procedure_of, Top, stack_of, IsTop, qualified, declares, SourcePoint, points_from, source_points_of, is_point_at, is_there, thread_place_at_point, thread_place_at_start, thread_place_in, thread_place_of, Location, place_of, stands_at, local_seen, own_value, qualified_values, AreKnown}
use Rattle.std.proofs.Common.{bytes_eq}
use Rattle.bp_source.proofs.DecidersOfPlaces.{same_qualified}
use Rattle.bp_confirm.proofs.Elements.{all_got}
use Rattle.bp_confirm.proofs.BitsOfInstructions.{start_is_at, numbers_at}

-- The point of an instruction has the start of its statement in the text.

module _ (text : List ℕ) where
  thread_place_there : (k : ℕ) (starts : List (Option ℕ)) (n : ℕ) → thread_place_at_point (slice_get (points_from text k starts) n) ≡ thread_place_at_start text (slice_get starts n)
  thread_place_there k [] n = refl
  thread_place_there k (None ∷ starts) zero = refl
  thread_place_there k (Some at ∷ starts) zero = refl
  thread_place_there k (None ∷ starts) (suc n) = thread_place_there (k + 1) starts n
  thread_place_there k (Some at ∷ starts) (suc n) = thread_place_there k starts n

  pub stands_as : (t : Program) (points : List SourcePoint) (number : Option ℕ) → points ≡ source_points_of text t
      → thread_place_in points number ≡ thread_place_of text t number
  stands_as t points number given1 = search (rules, thread_place_there)

-- The point of an instruction has the start of its statement, and its procedure.

module _ (text : List ℕ) where
  -- one more instruction
  pub points_more : (k : ℕ) (starts : List (Option ℕ)) (start : Option ℕ)
      → points_from text k (starts ++ start ∷ [])
      ≡ points_from text k starts
      ++ record { position = option_map (position_at text) start; procedure = k + ends starts } ∷ []
  points_more k [] None = ap (λ p. record { position = None; procedure = p } ∷ []) (omega arith)
  points_more k [] (Some at) = ap (λ p. record { position = Some (position_at text at); procedure = p } ∷ []) (omega arith)
  points_more k (None ∷ starts) start =
      let number : k + 1 + ends starts ≡ k + suc (ends starts) = omega arith in
      ap (λ xs. record { position = None; procedure = k } ∷ xs)
      (points_more (k + 1) starts start
      ∙ ap (λ p. points_from text (k + 1) starts ++ record { position = option_map (position_at text) start; procedure = p } ∷ []) number)
  points_more k (Some at ∷ starts) start = ap (λ xs. record { position = Some (position_at text at); procedure = k } ∷ xs) (points_more k starts start)

  -- an instruction is at the location if its statement's start is at the place
  point_there : (k : ℕ) (starts : List (Option ℕ)) (x : Location) (n : ℕ)
      → is_point_at x (slice_get (points_from text k starts) n) ≡ start_is_at (place_of text x) (slice_get starts n)
  point_there k [] x n = refl
  point_there k (None ∷ starts) x zero = refl
  point_there k (Some at ∷ starts) x zero = refl
  point_there k (None ∷ starts) x (suc n) = point_there (k + 1) starts x n
  point_there k (Some at ∷ starts) x (suc n) = point_there k starts x n

  pub is_there_at : (t : Program) (points : List SourcePoint) (x : Location) (n : ℕ) → points ≡ source_points_of text t
      → is_there points x n ≡ start_is_at (place_of text x) (slice_get (starts_of t) n)
  is_there_at t points x n are = ap (λ ss. is_point_at x (slice_get ss n)) are ∙ point_there 0 (starts_of t) x n

  -- the instructions at the next location are those at the next place
  pub numbers_are : (t : Program) (points : List SourcePoint) (next : Option Location) → points ≡ source_points_of text t
      → option_map (is_there points) next ≡ numbers_at (starts_of t) (option_map (place_of text) next)
  numbers_are t points next given1 = search (rules, fun_ext, is_there_at)

  -- the procedure of an instruction
  procedure_from : (k : ℕ) (starts : List (Option ℕ)) (n : ℕ) (start : Option ℕ) → slice_get starts n ≡ Some start
      → option_map (λ (s : SourcePoint). s.procedure) (slice_get (points_from text k starts) n) ≡ Some (k + ends (take n starts))
  procedure_from k [] n start at = absurd cc
  procedure_from k (None ∷ starts) zero start at = ap Some (omega arith)
  procedure_from k (Some a ∷ starts) zero start at = ap Some (omega arith)
  procedure_from k (None ∷ starts) (suc n) start at = procedure_from (k + 1) starts n start at ∙ ap Some (omega arith)
  procedure_from k (Some a ∷ starts) (suc n) start at = procedure_from k starts n start at

  pub procedure_at : (t : Program) (points : List SourcePoint) (n : ℕ) (start : Option ℕ)
      → points ≡ source_points_of text t → slice_get (starts_of t) n ≡ Some start
      → option_map (λ (s : SourcePoint). s.procedure) (slice_get points n) ≡ Some (ends (take n (starts_of t)))
  procedure_at t points n start given1 given2 = search (rules, procedure_from)

  -- one more point is noted
  pub points_next : (starts : List (Option ℕ)) (n : ℕ) (d start : Option ℕ) (old new : List SourcePoint) (point : SourcePoint)
      → n < length starts → get_or starts n d ≡ start
      → old ≡ points_from text 0 (take n starts) → new ≡ old ++ point ∷ []
      → point.position ≡ option_map (position_at text) start → point.procedure ≡ ends (take n starts)
      → new ≡ points_from text 0 (take (n + 1) starts)
  points_next starts n d start old new point within at done is position number =
      let procedure : point.procedure ≡ 0 + ends (take n starts) = omega (arith, number) in
      let point_is : point ≡ record { position = option_map (position_at text) start; procedure = 0 + ends (take n starts) } =
      (λ j. record { position = position j; procedure = procedure j }) in
      is ∙ (λ j. done j ++ point_is j ∷ []) ∙ sym (points_more 0 (take n starts) start)
      ∙ ap (points_from text 0) (sym (take_more starts n d within ∙ ap (λ x. take n starts ++ x ∷ []) at))

-- the start of a thread's top
pub top_start : (t : Program) (c : Configuration) (i : ℕ) (x : Top) → (is : IsTop t c i x)
    → slice_get (starts_of t) x.number ≡ Some (start_of_block is.frame.left)
top_start t c i x is = search (rules, slice_get-map)

-- it is at a location if its instruction is
pub stands_where : (text : List ℕ) (t : Program) (points : List SourcePoint) (c : Configuration) (i : ℕ) (x : Top) (here : Location)
    → points ≡ source_points_of text t → IsTop t c i x
    → stands_at (place_of text here) (stack_of c i) ≡ is_there points here x.number
stands_where text t points c i x here are is =
    ap (stands_at (place_of text here)) is.stack
    ∙ sym (is_there_at text t points here x.number are ∙ ap (start_is_at (place_of text here)) (top_start t c i x is))

-- the locals of its frame
pub top_locals : (t : Program) (c : Configuration) (i : ℕ) (x : Top) (p : Procedure) (name : List ℕ) → (is : IsTop t c i x) → p ≡ is.frame.procedure
    → own_value p.name.text (valuation_of (variables p) (bits_of x.store.locals)) name ≡ local_seen (stack_of c i) name
top_locals t c i x p name is given1 = grind (arith)

-- the result is the n-th
pub got_item : {X : Type 0} (o : Option (Bor X)) (xs : List X) (n : ℕ) → is_some o ≡ nat_lt n (length xs)
    → IfSome o (λ x. x.now ≡ get_or xs n x.now) → option_map (λ x. x.now) o ≡ slice_get xs n
got_item given1 given2 = search (rules, slice_get_past, slice_get-get_or)

abbrev pub number_of : List SourcePoint → ℕ → Option ℕ
number_of points n = option_map (λ s. s.procedure) (slice_get points n)

-- the procedure of a thread's top
module _ (text : List ℕ) (t : Program) (points : List SourcePoint) (top : Option Top) (x : Top) (is_top : top ≡ Some x) (c : Configuration) (i : ℕ)
    (are : points ≡ source_points_of text t) (stands : MatchOption top (stack_of c i ≡ []) (IsTop t c i)) where
  own_top : IsTop t c i x
  own_top = subst (λ o. MatchOption o (stack_of c i ≡ []) (IsTop t c i)) is_top stands

  number_is : number_of points x.number ≡ Some (ends (take x.number (starts_of t)))
  number_is = procedure_at text t points x.number (start_of_block own_top.frame.left) are (top_start t c i x own_top)

  pub none_numbered : (o : Option ℕ) → o ≡ number_of points x.number → o ≡ None → ⊥
  none_numbered o is none = let e = sym none ∙ is ∙ number_is in cc

  -- it is found by its number
  module _ (o : Option ℕ) (o_is : o ≡ number_of points x.number) (n : ℕ) (some : o ≡ Some n) (procs : List Procedure) (procs_are : procs ≡ t.procedures)
      (found : Option (Bor Procedure)) (lookup_is : option_map (λ (q : Bor Procedure). q.now) found ≡ slice_get procs n) where
    number_found : n ≡ ends (take x.number (starts_of t))
    number_found = let e = sym some ∙ o_is ∙ number_is in cc

    is_found : option_map (λ (q : Bor Procedure). q.now) found ≡ Some own_top.frame.procedure
    is_found = search (rules, number_found, procedure_of, own_top)

    pub none_missing : found ≡ None → ⊥
    none_missing none = let e = sym (ap (option_map (λ (q : Bor Procedure). q.now)) none) ∙ is_found in cc

    pub locals_found : (p : Bor Procedure) (name : List ℕ) → found ≡ Some p
        → own_value p.now.name.text (valuation_of (variables p.now) (bits_of x.store.locals)) name ≡ local_seen (stack_of c i) name
    locals_found p name given1 = search (rules, is_found, own_top, top_locals)

-- The value of a local by its name after that of its procedure and a dot.

module _ (p : List ℕ) where
  found_qualified : (own : List ℕ) (vs : Valuation) → lookup (qualified_values p vs) (qualified p own) ≡ lookup vs own
  found_qualified own [] = refl
  found_qualified own (v ∷ vs) =
      ap (λ b. cond b (Some v.1) (lookup (qualified_values p vs) (qualified p own))) (same_qualified p v.0 own)
      ∙ ap (λ o. cond (bytes_eq v.0 own) (Some v.1) o) (found_qualified own vs)

  none_qualified : (x : List ℕ) → ((own : List ℕ) → x ≢ qualified p own) → (vs : Valuation) → lookup (qualified_values p vs) x ≡ None
  none_qualified x none [] = refl
  none_qualified x none (v ∷ vs) =
      ap (λ b. cond b (Some v.1) (lookup (qualified_values p vs) x)) (by_test (bytes_eq (qualified p v.0) x) refl) ∙ none_qualified x none vs
    where
      by_test : (b : Bool) → bytes_eq (qualified p v.0) x ≡ b → bytes_eq (qualified p v.0) x ≡ false
      by_test true is = absurd (none v.0 (sym ((bytes_eq-Decides (qualified p v.0) x).0 is)))
      by_test false is = is

  module _ (locals : Valuation) (x : List ℕ) where
    pub by_own_name : (bit : Bool) → lookup locals x ≡ Some bit → Some bit ≡ own_value p locals x
    by_own_name bit is = sym (ap (λ o. option_or o (lookup (qualified_values p locals) x)) is)

    pub by_qualified_name : lookup locals x ≡ None → (own : List ℕ) → x ≡ qualified p own → lookup locals own ≡ own_value p locals x
    by_qualified_name given1 own given2 = search (rules, found_qualified)

    pub by_no_name : lookup locals x ≡ None → ((own : List ℕ) → x ≢ qualified p own) → None ≡ own_value p locals x
    by_no_name none other = sym (ap (λ o. option_or o (lookup (qualified_values p locals) x)) none ∙ none_qualified x other locals)

-- A text that is known to name a variable.

pub known_there : (t : Program) (names : List (Bor (List ℕ))) (n : ℕ) (name : Bor (List ℕ)) → AreKnown t names → slice_get names n ≡ Some name
    → declares t name.now ≡ true
known_there t names n name known at = all_got (λ x. declares t x.now ≡ true) names n name known at
