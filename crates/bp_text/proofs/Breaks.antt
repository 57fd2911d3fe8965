-- A text breaks at one line, and has no value then.
use Rattle.bp_text.proofs.Common.{[], ◌∷◌, length, refl, arith, ◌≡◌, inl, inr, ℕ, ◌+◌, List, sym, ◌∙◌, subst, Format, HasNone, IsAt, After, As, Before, Chain, Either, Letter, Line, Many, Number, Span, Then, Word, lines_of, BreaksAt}
use Rattle.bp_text.proofs.Readings.{no_first, no_first_of_chain, no_second, no_second_of_chain, none_as, one_at}

pub has_none : {A : Type 0} (F : Format A) (text : List ℕ) (k : ℕ) → BreaksAt F text k → HasNone F text
has_none (Then F G) text k (inl breaks) = no_first (has_none F text k breaks)
has_none (Then F G) text k (inr later) = no_second later.at (has_none G later.rest later.line later.breaks)
has_none (Chain F G) text k (inl breaks) = no_first_of_chain (has_none F text k breaks)
has_none (Chain F G) text k (inr later) = no_second_of_chain later.at (has_none (G later.value) later.rest later.line later.breaks)
has_none (As f back again F) text k breaks = none_as (has_none F text k breaks)
has_none (Word w) text k breaks = breaks.0
has_none (Number bound) text k breaks = breaks.0
has_none (Letter byte back again) text k breaks = breaks.0
has_none (Span next may_end s) text k breaks = breaks.0
has_none (After w F) text k breaks = breaks.0
has_none (Before F w) text k breaks = breaks.0
has_none (Line F) text k breaks = breaks.0
has_none (Either F G) text k breaks = breaks.0
has_none (Many F) text k breaks = breaks.0

pub one_break : {A : Type 0} (F : Format A) (text : List ℕ) (j k : ℕ) → BreaksAt F text j → BreaksAt F text k → j ≡ k
one_break (Then F G) text j k (inl p) (inl q) = one_break F text j k p q
one_break (Then F G) text j k (inl p) (inr q) = absurd ((has_none F text j p).none q.value q.rest q.at.fits q.at.parts)
one_break (Then F G) text j k (inr p) (inl q) = absurd ((has_none F text k q).none p.value p.rest p.at.fits p.at.parts)
one_break (Then F G) text j k (inr p) (inr q) =
    let same = one_at p.at q.at in
    let line = one_break G p.rest p.line q.line p.breaks (subst (λ t. BreaksAt G t q.line) (sym same.1) q.breaks) in
    p.number ∙ (λ i. lines_of F (same.0 i) + line i) ∙ sym q.number
one_break (Chain F G) text j k (inl p) (inl q) = one_break F text j k p q
one_break (Chain F G) text j k (inl p) (inr q) = absurd ((has_none F text j p).none q.value q.rest q.at.fits q.at.parts)
one_break (Chain F G) text j k (inr p) (inl q) = absurd ((has_none F text k q).none p.value p.rest p.at.fits p.at.parts)
one_break (Chain F G) text j k (inr p) (inr q) =
    let same = one_at p.at q.at in
    let there = subst (λ a. BreaksAt (G a) q.rest q.line) (sym same.0) q.breaks in
    let line = one_break (G p.value) p.rest p.line q.line p.breaks (subst (λ t. BreaksAt (G p.value) t q.line) (sym same.1) there) in
    p.number ∙ (λ i. lines_of F (same.0 i) + line i) ∙ sym q.number
one_break (As f back again F) text j k p q = one_break F text j k p q
one_break (Word w) text j k p q = p.1 ∙ sym q.1
one_break (Number bound) text j k p q = p.1 ∙ sym q.1
one_break (Letter byte back again) text j k p q = p.1 ∙ sym q.1
one_break (Span next may_end s) text j k p q = p.1 ∙ sym q.1
one_break (After w F) text j k p q = p.1 ∙ sym q.1
one_break (Before F w) text j k p q = p.1 ∙ sym q.1
one_break (Line F) text j k p q = p.1 ∙ sym q.1
one_break (Either F G) text j k p q = p.1 ∙ sym q.1
one_break (Many F) text j k p q = p.1 ∙ sym q.1

-- a text breaks after its first value
pub breaks_after : {A B : Type 0} {F : Format A} {text rest : List ℕ} {x : A} (G : Format B) (k m : ℕ) → IsAt F text x rest → BreaksAt G rest m
    → k ≡ lines_of F x + m → BreaksAt (Then F G) text k
breaks_after G k m at breaks number = inr (record { value = _; rest = _; at = at; line = _; breaks = breaks; number = number })

-- values on lines of their own
pub lines_each : {A : Type 0} (F : Format A) (xs : List A) → lines_of (Many (Line F)) xs ≡ length xs
lines_each F [] = refl
lines_each F (x ∷ xs) = let others = lines_each F xs in omega (arith, others)
