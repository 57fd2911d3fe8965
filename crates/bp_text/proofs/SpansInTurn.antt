-- How a span is read, byte by byte.
use Rattle.bp_text.proofs.Common.{◌-◌, length, length-append, take, ◌≡◌, ℕ, Bool, true, Option, None, Some, List, [], ◌∷◌, ◌++◌, refl, sym, ap, ◌∙◌, subst, arith, nil_from_length, take_at, SpanFits, Fits, HasNone, IsAt, Lacks, Stops, text_of, Span}
use Rattle.std.proofs.lemmas.List.{append-nil}
use Rattle.bp_text.proofs.PartsOfTexts.{regrouped}

-- The machine has reached this state, and this is the rest: the bytes that it takes from there on
-- follow these first bytes; and if there are none, there were none.
pub record HasCome {S : Type 0} (next : S → ℕ → Option S) (may_end : S → Bool) (first : S) (text : List ℕ) (s : S) (rest : List ℕ) : Type 0 where
  pub front : List ℕ
  pub parts : text ≡ front ++ rest
  pub go : (bs more : List ℕ) → IsAt (Span next may_end s) rest bs more → IsAt (Span next may_end first) text (front ++ bs) more
  pub none : HasNone (Span next may_end s) rest → HasNone (Span next may_end first) text

module _ {S : Type 0} {next : S → ℕ → Option S} {may_end : S → Bool} where
  -- a text that the machine takes no byte of
  ends : {s : S} {text : List ℕ} → Stops (next s) text → may_end s ≡ true → IsAt (Span next may_end s) text [] text
  ends stops may = record { fits = (may, stops); parts = refl }

  -- a text that it takes a byte of
  byte_more : {s t : S} {c : ℕ} {more bs rest : List ℕ} → next s c ≡ Some t → IsAt (Span next may_end t) more bs rest
      → IsAt (Span next may_end s) (c ∷ more) (c ∷ bs) rest
  byte_more {t} {c} on at = record { fits = (t, on, at.fits); parts = ap (λ xs. c ∷ xs) at.parts }

  none_more : {s t : S} {c : ℕ} {more : List ℕ} → next s c ≡ Some t → HasNone (Span next may_end t) more → HasNone (Span next may_end s) (c ∷ more)
  none_more {s} {t} {c} {more} on lacks = record { none = by_span }
    where
      by_span : Lacks (text_of (Span next may_end s)) (Fits (Span next may_end s)) (c ∷ more)
      by_span [] rest (may, stops) e =
          let none : next s c ≡ None = subst (Stops (next s)) (sym e) stops in
          let both : None ≡ Some t = sym none ∙ on in
          absurd cc
      by_span (d ∷ bs) rest (u, other, fits) e =
          let head : c ≡ d = cc in
          let both : Some u ≡ Some t = sym other ∙ sym (ap (next s) head) ∙ on in
          let state : u ≡ t = cc in
          lacks.none bs rest (subst (λ z. Fits (Span next may_end z) bs rest) state fits) cc

  module _ {first s : S} {text rest : List ℕ} (come : HasCome next may_end first text s rest) where
    pub takes : {t : S} {c : ℕ} {more : List ℕ} → rest ≡ c ∷ more → next s c ≡ Some t → HasCome next may_end first text t more
    takes {t} {c} {more} is on = record {
      front = come.front ++ c ∷ [];
      parts = come.parts ∙ ap (λ xs. come.front ++ xs) is ∙ simp regrouped;
      go = λ bs others at.
          let all = come.go (c ∷ bs) others (subst (λ x. IsAt (Span next may_end s) x (c ∷ bs) others) (sym is) (byte_more on at)) in
          subst (λ m. IsAt (Span next may_end first) text m others) (simp regrouped) all;
      none = λ lacks. come.none (subst (HasNone (Span next may_end s)) (sym is) (none_more on lacks));
    }

    pub stops_at : {c : ℕ} {more : List ℕ} → rest ≡ c ∷ more → next s c ≡ None → Stops (next s) rest
    stops_at is none = subst (Stops (next s)) (sym is) none

    pub stops_at_end : length rest ≡ 0 → Stops (next s) rest
    stops_at_end size = subst (Stops (next s)) (sym (nil_from_length rest size)) tt

    module _ (stops : Stops (next s) rest) where
      pub is_span : may_end s ≡ true → {own : List ℕ} → own ≡ take (length text - length rest) text → IsAt (Span next may_end first) text own rest
      is_span may own_is =
          let size = ap length come.parts ∙ length-append come.front rest in
          let front = ap (take (length text - length rest)) come.parts ∙ take_at come.front rest (length text - length rest) (omega (arith, size)) in
          subst (λ m. IsAt (Span next may_end first) text m rest) (append-nil come.front ∙ sym front ∙ sym own_is) (come.go [] rest (ends stops may))

-- a span ends before the same byte, whatever is after it
module _ {S : Type 0} (next : S → ℕ → Option S) (may_end : S → Bool) (c : ℕ) (rest other : List ℕ) where
  pub same_stop : (s : S) (bs : List ℕ) → SpanFits next may_end s bs (c ∷ rest) → SpanFits next may_end s bs (c ∷ other)
  same_stop s [] fits = fits
  same_stop s (b ∷ bs) (t, on, fits) = (t, on, same_stop t bs fits)
