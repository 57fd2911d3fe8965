-- Texts of many values: each has at most one list of them, and at most one first malformed value.
use Rattle.bp_text.proofs.Common.{◌≡◌, ◌≢◌, ◌<◌, ◌≤◌, ◌+◌, arith, flat_map, length-append, ℕ, List, [], ◌∷◌, ◌++◌, length, sym, ap, ◌∙◌, subst, append_assoc, append-nil, zero, suc, None, Some, drop, AreAll, Format, HasNone, IsAt, IsBad, text_of, Many, slice_get_past}
use Rattle.bp_text.proofs.Readings.{no_more, one_at, one_more, first_of_many, none_of_many}
use Rattle.std.specs.Prelude.{slice_get}

module _ {A : Type 0} {F : Format A} {text : List ℕ} where
  pub one_reading : {xs ys : List A} → AreAll F text xs → AreAll F text ys → xs ≡ ys
  one_reading p q = (one_at p q).0

  pub one_bad : {m n : ℕ} → IsBad F text m → IsBad F text n → m ≡ n
  one_bad p q = p.number ∙ ap (λ xs. length xs + 1) (one_at p.at q.at).0 ∙ sym q.number

  pub none_bad : {xs : List A} {n : ℕ} → AreAll F text xs → IsBad F text n → ⊥
  none_bad p q = q.some (sym (one_at p q.at).1)

-- the first values of a text have been read, and this is the rest
pub record AreReadTo {A : Type 0} (F : Format A) (text : List ℕ) (xs : List A) (rest : List ℕ) : Type 0 where
  pub go : (ys : List A) (end : List ℕ) → IsAt (Many F) rest ys end → IsAt (Many F) text (xs ++ ys) end

module _ {A : Type 0} {F : Format A} {text : List ℕ} where
  module _ {xs : List A} {rest : List ℕ} (read : AreReadTo F text xs rest) where
    pub one_more_read : {x : A} {more : List ℕ} → IsAt F rest x more → AreReadTo F text (xs ++ x ∷ []) more
    one_more_read {x} at = record {
      go = λ ys end p.
          subst (λ zs. IsAt (Many F) text zs end) (sym (append_assoc xs (x ∷ []) ys)) (read.go (x ∷ ys) end (one_more at p));
    }

    pub all_read : HasNone F rest → IsAt (Many F) text xs rest
    all_read lacks = subst (λ zs. IsAt (Many F) text zs rest) (append-nil xs) (read.go [] rest (no_more lacks))

    pub bad_there : {n : ℕ} → rest ≢ [] → HasNone F rest → n ≡ length xs + 1 → IsBad F text n
    bad_there some lacks number = record { front = xs; rest = rest; at = all_read lacks; some = some; number = number }

-- values that have a byte each
pub few_values : {A : Type 0} (F : Format A) → ((x : A) → 0 < length (text_of F x)) → (text : List ℕ) (xs : List A) (rest : List ℕ)
    → IsAt (Many F) text xs rest → length xs + length rest ≤ length text
few_values {A} F some text xs rest at =
    let all = few xs in
    let size = ap length at.parts ∙ length-append (flat_map (text_of F) xs) rest in
    omega (arith, all, size)
  where
    few : (xs : List A) → length xs ≤ length (flat_map (text_of F) xs)
    few [] = omega arith
    few (x ∷ xs) = let here = some x in let others = few xs in omega (arith, here, others, length-append (text_of F x) (flat_map (text_of F) xs))

-- The values of a text by their places: it is read value by value.

-- the value after the first i values, and the rest after it
pub record IsNext {A : Type 0} (F : Format A) (xs : List A) (i : ℕ) (x : A) (more : List ℕ) : Type 0 where
  pub at : slice_get xs i ≡ Some x
  pub rest : AreAll F more (drop (suc i) xs)

module _ {A : Type 0} {F : Format A} where
  pub next_value : (xs : List A) (i : ℕ) {rest more : List ℕ} {x : A} → AreAll F rest (drop i xs) → IsAt F rest x more → IsNext F xs i x more
  next_value [] zero all at = absurd ((none_of_many all).none _ _ at.fits at.parts)
  next_value [] (suc i) all at = absurd ((none_of_many all).none _ _ at.fits at.parts)
  next_value (y ∷ xs) zero all at =
      let (middle, first, others) = first_of_many all in
      let same = one_at first at in
      record { at = ap Some same.0; rest = subst (λ t. AreAll F t xs) same.1 others }
  next_value (y ∷ xs) (suc i) all at = let next = next_value xs i all at in record { at = next.at; rest = next.rest }

  pub no_next : (xs : List A) (i n : ℕ) {rest : List ℕ} → AreAll F rest (drop i xs) → HasNone F rest → i ≤ n → slice_get xs n ≡ None
  no_next [] i n all lacks more = slice_get_past [] n (omega arith)
  no_next (y ∷ xs) zero n all lacks more = let (middle, first, others) = first_of_many all in absurd (lacks.none y middle first.fits first.parts)
  no_next (y ∷ xs) (suc i) zero all lacks more = absurd (omega (arith, more))
  no_next (y ∷ xs) (suc i) (suc n) all lacks more = no_next xs i n all lacks (omega (arith, more))
