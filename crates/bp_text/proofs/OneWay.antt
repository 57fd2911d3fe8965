-- Each text is read in one way.
use Rattle.bp_text.proofs.Common.{Option, Some, subst, ◌≡◌, ℕ, Bool, List, [], ◌∷◌, ◌++◌, flat_map, refl, sym, ap, ◌∙◌, arith, rules, append_cancel_left, SpanFits, Stops, Format, IsReadInOneWay, EachFits, EitherFits, Fits, text_of, text_of_either, After, As, Before, Chain, Either, Letter, Line, Many, Number, Span, Then, Word}
use Rattle.bp_text.proofs.NumbersInTurn.{one_number}
use Rattle.bp_text.proofs.PartsOfTexts.{regrouped}

module _ {S : Type 0} (next : S → ℕ → Option S) (may_end : S → Bool) where
  goes_on : (s : S) (c : ℕ) (bs more text rest : List ℕ) → Stops (next s) text → text ≡ c ∷ more → SpanFits next may_end s (c ∷ bs) rest → ⊥
  goes_on s c bs more text rest given1 given2 given3 = grind (arith)

  one_span : (s : S) → IsReadInOneWay (λ bs. bs) (SpanFits next may_end s)
  one_span s [] [] u v p q e = (refl, e)
  one_span s [] (d ∷ b) u v p q e = absurd (goes_on s d b (b ++ v) u v p.1 e q)
  one_span s (c ∷ a) [] u v p q e = absurd (goes_on s c a (a ++ u) v u q.1 (sym e) p)
  one_span s (c ∷ a) (d ∷ b) u v (t, on, fits) (w, other, more) e =
      let head : c ≡ d = cc in
      let state : t ≡ w = let both : Some t ≡ Some w = sym on ∙ ap (next s) head ∙ other in cc in
      let tail : a ++ u ≡ b ++ v = cc in
      let same = one_span t a b u v fits (subst (λ z. SpanFits next may_end z b v) (sym state) more) tail in
      ((λ i. head i ∷ same.0 i), same.1)

module _ {A : Type 0} (f : A → List ℕ) (p : A → List ℕ → Type 0) (one : IsReadInOneWay f p) where
  each_one : IsReadInOneWay (flat_map f) (EachFits f p)
  each_one [] [] u v a b e = (refl, e)
  each_one [] (y ∷ ys) u v a b e = absurd (a y (flat_map f ys ++ v) b.0 (e ∙ simp regrouped))
  each_one (x ∷ xs) [] u v a b e = absurd (b x (flat_map f xs ++ u) a.0 (sym e ∙ simp regrouped))
  each_one (x ∷ xs) (y ∷ ys) u v a b e =
      let first = one x y _ _ a.0 b.0 (simp regrouped at e) in
      let others = each_one xs ys u v a.1 b.1 first.1 in
      ((λ i. first.0 i ∷ others.0 i), others.1)

  module _ {B : Type 0} (g : B → List ℕ) (q : B → List ℕ → Type 0) (other : IsReadInOneWay g q) where
    either_one : IsReadInOneWay (text_of_either f g) (EitherFits f p g q)
    either_one = grind (arith)

    both_one : IsReadInOneWay (λ (z : A × B). f z.0 ++ g z.1) (λ (z : A × B) rest. p z.0 (g z.1 ++ rest) × q z.1 rest)
    both_one = search (rules, regrouped)

pub one_way : {A : Type 0} (F : Format A) → IsReadInOneWay (text_of F) (Fits F)
one_way (Word w) x y u v p q e = (refl, append_cancel_left w u v e)
one_way (Number bound) m n u v p q e = one_number m n u v p.1 q.1 p.2 q.2 e
one_way (Letter byte back again) x y u v p q e = let same : byte x ≡ byte y = cc in (sym (again x) ∙ ap back same ∙ again y, cc)
one_way (Span next may_end s) a b u v p q e = one_span next may_end s a b u v p q e
one_way (After w F) x y u v p q e = one_way F x y u v p q (append_cancel_left w _ _ (simp regrouped at e))
one_way (Before F w) x y u v p q e =
    let same = one_way F x y _ _ p q (simp regrouped at e) in
    (same.0, append_cancel_left w u v same.1)
one_way (Line F) x y u v p q e =
    let same = one_way F x y _ _ p q (simp regrouped at e) in
    (same.0, append_cancel_left (10 ∷ []) u v same.1)
one_way (Then F G) x y u v p q e = both_one _ _ (one_way F) _ _ (one_way G) x y u v p q e
one_way (Chain F G) x y u v p q e =
    let first = one_way F x.0 y.0 _ _ p.0 q.0 (simp regrouped at e) in
    let fits = subst (λ a. Fits (G a) y.1 v) (sym first.0) q.1 in
    let second = one_way (G x.0) x.1 y.1 u v p.1 fits (first.1 ∙ ap (λ a. text_of (G a) y.1 ++ v) (sym first.0)) in
    ((λ i. (first.0 i, second.0 i)), second.1)
one_way (Either F G) x y u v p q e = either_one _ _ (one_way F) _ _ (one_way G) x y u v p q e
one_way (Many F) x y u v p q e = each_one _ _ (one_way F) x y u v p q e
one_way (As f back again F) x y u v p q e =
    let same = one_way F (f x) (f y) u v p q e in
    (sym (again x) ∙ ap back same.0 ∙ again y, same.1)
