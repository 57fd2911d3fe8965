-- A place is in the procedure whose number is the number of ends before it.
use Rattle.bp_flat.proofs.Common.{◌≡◌, refl, sym, ap, ◌∙◌, ℕ, zero, suc, ◌+◌, ◌<◌, ◌≤◌, List, [], ◌∷◌, length, map, take, drop, get_or, arith, add-one, drop-cons, ◌++◌, Option, None, Some, slice_get, take_more, Name, Block, Done, Then, Statement, Skips, GoesTo, Returns, Assigns, Branches, Loops, Asserts, Assumes, Prints, Calls, Procedure, chain, Place, place, places, places_in, places_of, start_of_block}

-- Items of lists: the i-th and those after it, all that were taken, and lists that differ at one place.

-- the list from the i-th item on
pub drop_item : {X : Type 0} (xs : List X) (i : ℕ) (x : X) → i < length xs → x ≡ get_or xs i x → drop i xs ≡ x ∷ drop (i + 1) xs
drop_item xs i x h e = rw add-one (drop-cons xs i x h ∙ ap (λ y. y ∷ drop (suc i) xs) (sym e))

pub dropped_all : {X : Type 0} (xs : List X) (i : ℕ) → length xs ≤ i → drop i xs ≡ []
dropped_all [] zero h = refl
dropped_all [] (suc i) h = refl
dropped_all (x ∷ xs) zero h = absurd (omega arith)
dropped_all (x ∷ xs) (suc i) h = dropped_all xs i (omega arith)

-- lists that differ at one place differ

-- Two tests of one fact give one answer.

abbrev pub starts : List Place → List (Option ℕ)
starts xs = map (λ x. start_of_block x.left) xs

-- how many of these are procedures' ends
abbrev pub ends : List (Option ℕ) → ℕ
ends [] = 0
ends (None ∷ xs) = suc (ends xs)
ends (Some at ∷ xs) = ends xs

ends-append : (xs : List (Option ℕ)) (x : Option ℕ) → ends (xs ++ x ∷ []) ≡ ends xs + ends (x ∷ [])
ends-append [] x = omega arith
ends-append (None ∷ xs) x = let rest = ends-append xs x in omega (arith, rest)
ends-append (Some at ∷ xs) x = ends-append xs x

-- one more
pub ends_more : (xs : List (Option ℕ)) (i : ℕ) (d x : Option ℕ) → i < length xs → get_or xs i d ≡ x → ends (take (i + 1) xs) ≡ ends (take i xs) + ends (x ∷ [])
ends_more xs i d x within is = rw (take_more xs i d within) (ends-append (take i xs) (get_or xs i d) ∙ ap (λ y. ends (take i xs) + ends (y ∷ [])) is)

pub few_ends : (i : ℕ) (xs : List (Option ℕ)) → ends (take i xs) ≤ length xs
few_ends zero xs = omega arith
few_ends (suc i) [] = omega arith
few_ends (suc i) (None ∷ xs) = let rest = few_ends i xs in omega (arith, rest)
few_ends (suc i) (Some at ∷ xs) = let rest = few_ends i xs in omega (arith, rest)

-- the place is one of a statement of this procedure
abbrev IsInside : Procedure → Place → Type 0
IsInside p x = (x.procedure ≡ p) × ((at : ℕ) × (start_of_block x.left ≡ Some at))

abbrev AreInside : Procedure → List Place → Type 0
AreInside p [] = Unit {0}
AreInside p (x ∷ xs) = IsInside p x × AreInside p xs

inside-append : (p : Procedure) (xs ys : List Place) → AreInside p xs → AreInside p ys → AreInside p (xs ++ ys)
inside-append p [] ys first second = second
inside-append p (x ∷ xs) ys first second = (first.0, inside-append p xs ys first.1 second)

mutual
  inside_block : (p : Procedure) (b r : Block) → AreInside p (places p b r)
  inside_block p Done r = tt
  inside_block p (Then label at s t) r =
      inside-append p (places_in p s label at (chain t r)) (places p t r) (inside_statement p s label at (chain t r)) (inside_block p t r)

  inside_statement : (p : Procedure) (s : Statement) (label : Option Name) (at : ℕ) (r : Block) → AreInside p (places_in p s label at r)
  inside_statement p (Branches d a b) label at r = ((refl, (at, refl)), inside-append p (places p a r) (places p b r) (inside_block p a r) (inside_block p b r))
  inside_statement p (Loops d a) label at r = ((refl, (at, refl)), inside_block p a (Then label at (Loops d a) r))
  inside_statement p Skips label at r = ((refl, (at, refl)), tt)
  inside_statement p (GoesTo x) label at r = ((refl, (at, refl)), tt)
  inside_statement p Returns label at r = ((refl, (at, refl)), tt)
  inside_statement p (Assigns xs es) label at r = ((refl, (at, refl)), tt)
  inside_statement p (Asserts d) label at r = ((refl, (at, refl)), tt)
  inside_statement p (Assumes d) label at r = ((refl, (at, refl)), tt)
  inside_statement p (Prints es) label at r = ((refl, (at, refl)), tt)
  inside_statement p (Calls x es) label at r = ((refl, (at, refl)), tt)

-- the places of the first procedure, its end, and the places of the others
number_of : (p : Procedure) (ps : List Procedure) (front rest : List Place) → AreInside p front
    → ((n : ℕ) (x : Place) → slice_get rest n ≡ Some x → slice_get ps (ends (take n (starts rest))) ≡ Some x.procedure)
    → (n : ℕ) (x : Place) → slice_get (front ++ (place p Done ∷ rest)) n ≡ Some x
    → slice_get (p ∷ ps) (ends (take n (starts (front ++ (place p Done ∷ rest))))) ≡ Some x.procedure
number_of p ps [] rest inside others zero x at = let is : place p Done ≡ x = cc in ap (λ y. Some y.procedure) is
number_of p ps [] rest inside others (suc n) x at = others n x at
number_of p ps (y ∷ front) rest inside others zero x at = let is : y ≡ x = cc in ap Some (sym inside.0.0 ∙ ap (λ z. z.procedure) is)
number_of p ps (y ∷ front) rest inside others (suc n) x at = rw inside.0.1.1 (number_of p ps front rest inside.1 others n x at)

pub procedure_of : (ps : List Procedure) (n : ℕ) (x : Place) → slice_get (places_of ps) n ≡ Some x
    → slice_get ps (ends (take n (starts (places_of ps)))) ≡ Some x.procedure
procedure_of [] n x at = cc
procedure_of (p ∷ ps) n x at = number_of p ps (places p p.body Done) (places_of ps) (inside_block p p.body Done) (procedure_of ps) n x at
