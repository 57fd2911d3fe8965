-- Texts on one line, one after the other.
use Rattle.bp_text.proofs.Common.{◌≡◌, ◌==◌, ◌+◌, ℕ, suc, Bool, true, false, not, cond, List, [], ◌∷◌, take, refl, subst, arith, ◌≤◌, ◌++◌, length, reverse, drop, ap, sym, ◌∙◌, if◌then◌else◌, map, position_or_len, take_while, prefix_len, length-reverse, length-take, take-take, drop-take, take-append-drop, length-filter, count_by-le-length, first_line, IsOneLine, position_after, AddsOneLine, on_one_line}

-- The first line of a text is on one line.

pub first_on_one_line : (text : List ℕ) → IsOneLine (first_line text)
first_on_one_line [] = tt
first_on_one_line (b ∷ bs) = by_byte (b == 10) refl (first_on_one_line bs)
  where
    by_byte : (feed : Bool) → (b == 10) ≡ feed → IsOneLine (first_line bs)
        → IsOneLine (take (cond (not feed) (1 + position_or_len (λ x. x == 10) bs) 0) (b ∷ bs))
    by_byte true is rest = tt
    by_byte false is rest =
        let next : suc (position_or_len (λ x. x == 10) bs) ≡ 1 + position_or_len (λ x. x == 10) bs = omega arith in
        subst (λ n. IsOneLine (take n (b ∷ bs))) next (is, rest)

-- A position is within its text, and the parts of a text are one after the other.

pub take_parts : (n m : ℕ) (xs : List ℕ) → take n xs ++ take m (drop n xs) ≡ take (n + m) xs
take_parts n m xs =
    ap (λ ys. ys ++ take m (drop n xs)) (sym (take-take n (n + m) xs (omega arith)))
    ∙ ap (λ ys. take n (take (n + m) xs) ++ ys) (sym (drop-take n m xs)) ∙ take-append-drop n (take (n + m) xs)

while_within : (p : ℕ → Bool) (xs : List ℕ) → length (take_while p xs) ≤ length xs
while_within p xs = omega (arith, length-take (prefix_len p xs) xs)

pub taken_within : (n : ℕ) (xs : List ℕ) → length (take n xs) ≤ n
taken_within n xs = omega (arith, length-take n xs)

pub line_within : (xs : List ℕ) → (position_after xs).line ≤ 1 + length xs
line_within xs = omega (arith, length-filter (λ b. b == 10) xs, count_by-le-length (λ b. b == 10) xs)

pub column_within : (xs : List ℕ) → (position_after xs).column ≤ 1 + length xs
column_within xs = omega (arith, while_within (λ b. not (b == 10)) (reverse xs), length-reverse xs)

pub one_line_append : (xs ys : List ℕ) → IsOneLine xs → IsOneLine ys → IsOneLine (xs ++ ys)
one_line_append [] ys is second = second
one_line_append (x ∷ xs) ys is second = (is.0, one_line_append xs ys is.1 second)

pub adds_these : (a b xs : List ℕ) → b ≡ a ++ xs → IsOneLine xs → AddsOneLine a b
adds_these a b xs is line = record { more = xs; is = is; one_line = line }

pub one_line_after : (a b : List ℕ) → IsOneLine a → AddsOneLine a b → IsOneLine b
one_line_after a b is adds = rw adds.is (one_line_append a adds.more is adds.one_line)

no_line_feed : (b : ℕ) (is : Bool) → (b == 10) ≡ is → ((if is then 32 else b) == 10) ≡ false
no_line_feed b is given1 = grind (arith)

pub one_line_map : (xs : List ℕ) → IsOneLine (map on_one_line xs)
one_line_map [] = tt
one_line_map (x ∷ xs) = (no_line_feed x (x == 10) refl, one_line_map xs)
