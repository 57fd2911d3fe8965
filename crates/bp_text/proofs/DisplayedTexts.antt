-- A displayed text, byte by byte.
use Rattle.bp_text.proofs.Common.{if◌then◌else◌, ◌≡◌, ◌==◌, ◌∙◌, ◌⊎◌, inl, inr, refl, sym, ap, ℕ, zero, suc, ◌+◌, ◌-◌, ◌<◌, ◌≤◌, Bool, true, false, List, [], ◌∷◌, ◌++◌, length, take, drop, get_or, add-one, drop-cons, arith, ◌/◌, ◌%◌, take_all, codes, flat_map, slice_index, take-suc, control_bytes, control_size, displayed, displayed_after, displayed_byte, HasNoControl, hex_digit, is_control, is_marked, string_byte, IsReadAs, ends, plain, marked, numbered}

same_length : (left : ℕ) (text : List ℕ) → length (displayed_after left text) ≡ length text
same_length left [] = refl
same_length left (b ∷ bs) = ap suc (same_length (control_bytes left (b ∷ bs) - 1) bs)

after_one : (left : ℕ) (xs ys : List ℕ) (b : ℕ) → xs ≡ b ∷ ys
    → displayed_after left xs ≡ displayed_byte (control_bytes left xs) b ∷ displayed_after (control_bytes left xs - 1) ys
after_one left xs ys b is = rw is refl

same_front : (x y : ℕ) (xs ys : List ℕ) → x ∷ xs ≡ y ∷ ys → (x ≡ y) × (xs ≡ ys)
same_front x y xs ys is = (cc, cc)

-- the byte at a place is displayed after those before it, and then those after it
pub displayed_next
    : (text : List ℕ) (at left : ℕ) → at < length text → drop at (displayed text) ≡ displayed_after left (drop at text)
    → let control = control_bytes left (drop at text) in
    (take (at + 1) (displayed text) ≡ take at (displayed text) ++ displayed_byte control (get_or text at 0) ∷ [])
    × (drop (at + 1) (displayed text) ≡ displayed_after (control - 1) (drop (at + 1) text))
displayed_next text at left inside so_far =
    let within : at < length (displayed text) = rw (same_length 0 text) inside in
    let here = after_one left (drop at text) (drop (suc at) text) (get_or text at 0) (drop-cons text at 0 inside) in
    let (byte, rest) = same_front _ _ _ _ (sym (drop-cons (displayed text) at 0 within) ∙ so_far ∙ here) in
    (rw add-one (take-suc (displayed text) at 0 within ∙ ap (λ b. take at (displayed text) ++ b ∷ []) byte), rw add-one rest)

-- from a place on, the byte there is displayed, and then those after it
pub displayed_at
    : (text : List ℕ) (at left : ℕ) → at < length text
    → displayed_after left (drop at text)
    ≡ (displayed_byte (control_bytes left (drop at text)) (get_or text at 0) ∷ [])
    ++ displayed_after (control_bytes left (drop at text) - 1) (drop (at + 1) text)
displayed_at text at left inside =
    rw add-one (after_one left (drop at text) (drop (suc at) text) (get_or text at 0) (drop-cons text at 0 inside))

-- a byte that begins no control character begins none if question marks stand for some of the next two
still_none : (a b c b' c' : ℕ) → control_size a b c ≡ 0 → (b' ≡ b) ⊎ (b' ≡ 63) → (c' ≡ c) ⊎ (c' ≡ 63) → control_size a b' c' ≡ 0
still_none a b c b' c' none second third = grind arith

same_or_mark : (left : ℕ) (text : List ℕ) (n : ℕ)
    → (slice_index (displayed_after left text) n ≡ slice_index text n) ⊎ (slice_index (displayed_after left text) n ≡ 63)
same_or_mark left [] n = inl refl
same_or_mark left (b ∷ bs) zero = by_test (control_bytes left (b ∷ bs) == 0)
  where
    by_test : (is : Bool) → ((if is then b else 63) ≡ b) ⊎ ((if is then b else 63) ≡ 63)
    by_test true = inl refl
    by_test false = inr refl
same_or_mark left (b ∷ bs) (suc n) = same_or_mark (control_bytes left (b ∷ bs) - 1) bs n

pub none_displayed : (left : ℕ) (text : List ℕ) → HasNoControl (displayed_after left text)
none_displayed left [] = tt
none_displayed left (b ∷ bs) = (by_test (control_bytes left (b ∷ bs) == 0) refl, none_displayed (control_bytes left (b ∷ bs) - 1) bs)
  where
    rest : List ℕ
    rest = displayed_after (control_bytes left (b ∷ bs) - 1) bs

    by_test : (is : Bool) → (control_bytes left (b ∷ bs) == 0) ≡ is → control_size (if is then b else 63) (slice_index rest 0) (slice_index rest 1) ≡ 0
    by_test true is =
        let none : control_size b (slice_index bs 0) (slice_index bs 1) ≡ 0 = grind arith in
        still_none b _ _ _ _ none (same_or_mark _ bs 0) (same_or_mark _ bs 1)
    by_test false is = refl

-- from the end of the text on nothing is left
pub all_displayed : (text : List ℕ) (at : ℕ) → length text ≤ at → take at (displayed text) ≡ displayed text
all_displayed text at past = let all : length (displayed text) ≤ at = rw (same_length 0 text) past in take_all at (displayed text) all

-- A string of JSON is read as the bytes that it was made of.

small : (b : ℕ) → is_control b ≡ true → b < 128
small b control = grind arith

pub read_back : (text : List ℕ) → IsReadAs (flat_map string_byte text) text
read_back [] = ends
read_back (b ∷ bs) = by_tests (is_marked b) refl (is_control b) refl (read_back bs)
  where
    by_tests : (m : Bool) → is_marked b ≡ m → (c : Bool) → is_control b ≡ c → IsReadAs (flat_map string_byte bs) bs
        → IsReadAs ((if m then 92 ∷ b ∷ [] else if c then codes "\\u00" ++ hex_digit (b / 16) ∷ hex_digit (b % 16) ∷ []
        else b ∷ []) ++ flat_map string_byte bs) (b ∷ bs)
    by_tests true is c control rest = marked b (flat_map string_byte bs) bs is rest
    by_tests false is true control rest = numbered b (flat_map string_byte bs) bs (small b control) rest
    by_tests false is false control rest = plain b (flat_map string_byte bs) bs is control rest
