-- The values of named bits, by a walk over them.
use Rattle.bp_source.proofs.Common.{◌≡◌, ◌||◌, Bool, List, [], ◌∷◌, ap, map, refl, ◌∙◌, ◌++◌, ℕ, suc, length, sym, Bor, Option, Some, None, NamedBitOf, named_bit_in}
use Rattle.std.specs.List.{list_any}
use Rattle.bp_text.proofs.PartsOfTexts.{rest_left}

pub list_any-map : {X Y : Type 0} (p : X → Bool) (h : Y → X) (ys : List Y) → list_any p (map h ys) ≡ list_any (λ y. p (h y)) ys
list_any-map p h [] = refl
list_any-map p h (y ∷ ys) = ap (λ b. p (h y) || b) (list_any-map p h ys)

-- A walk over the pieces of a text.

-- the number of bytes that are left, and one more if there is a rest
abbrev pub size_left : Option (Bor (List ℕ)) → ℕ
size_left None = 0
size_left (Some text) = suc (length text.now)

module _ (parts others : List (List ℕ)) (piece : List ℕ) (is : parts ≡ piece ∷ others) where
  -- a piece is taken over
  pub taken : (values more : List NamedBitOf) → more ≡ values ++ named_bit_in piece ∷ [] → values ++ map named_bit_in parts ≡ more ++ map named_bit_in others
  taken values more added =
      ap (λ ps. values ++ map named_bit_in ps) is
      ∙ sym (rest_left values more (named_bit_in piece ∷ []) (map named_bit_in others) _ added refl)
