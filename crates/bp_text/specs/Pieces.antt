-- The pieces of a text: fields, strings of JSON, decimals, and texts for a terminal.
use Rattle.std.specs.Prelude.{ℕ, ◌-◌, List, ◌++◌, length, replicate, if◌then◌else◌, ◌≡◌, ◌==◌, ◌||◌, ◌<◌, ◌+◌, ◌/◌, ◌%◌, nat_lt, Bool, false, true, [], ◌∷◌, codes, flat_map, ◌&&◌, nat_le, ◌≢◌, ◌^◌, decimal, Option, None, Some, drop, option_map}
use Rattle.std.specs.List.{slice_index, concat}
use Rattle.bp_text.specs.declared.pieces.Piece.{Piece}
use Rattle.bp_text.specs.declared.pieces.Piece.TheVariants.{Bytes, Number, Spaces, Left, Right, NumberRight, Displayed, Key, Text, Letter, NumberOrNull, TextOrNull, Truth, Bit, BitOrNull, List as AsList}

-- Fields of a line, filled with spaces to a width.

-- this number of spaces
abbrev pub spaces : ℕ → List ℕ
spaces n = replicate n 32

-- the bytes at the right of a field of this width
abbrev pub at_right : ℕ → List ℕ → List ℕ
at_right width bytes = spaces (width - length bytes) ++ bytes

-- the bytes at the left of a field of this width
abbrev pub at_left : ℕ → List ℕ → List ℕ
at_left width bytes = bytes ++ spaces (width - length bytes)

-- Strings of JSON, and how they are read.

-- the hexadecimal digit of a number below 16
abbrev pub hex_digit : ℕ → ℕ
hex_digit n = if nat_lt n 10 then 48 + n else 87 + n

-- a quotation mark and a backslash, which have a backslash before them in a string
abbrev pub is_marked : ℕ → Bool
is_marked b = b == 34 || b == 92

-- a control byte, which a string has by its number
abbrev pub is_control : ℕ → Bool
is_control b = nat_lt b 32 || b == 127

-- a byte of a string
abbrev pub string_byte : ℕ → List ℕ
string_byte b =
    if is_marked b then 92 ∷ b ∷ []
    else if is_control b then codes "\\u00" ++ hex_digit (b / 16) ∷ hex_digit (b % 16) ∷ []
    else b ∷ []

-- a text as a string
abbrev pub string_text : List ℕ → List ℕ
string_text text = codes "\"" ++ (flat_map string_byte text ++ codes "\"")

-- the text between the quotation marks of a string is read as this text
pub data IsReadAs : (inside text : List ℕ) → Type 0 where
  ends : IsReadAs [] []
  -- a byte that stands for itself
  plain : (b : ℕ) (inside text : List ℕ)
      → is_marked b ≡ false
      → is_control b ≡ false
      → IsReadAs inside text
      → IsReadAs (b ∷ inside) (b ∷ text)
  -- a quotation mark or a backslash, after a backslash
  marked : (b : ℕ) (inside text : List ℕ)
      → is_marked b ≡ true
      → IsReadAs inside text
      → IsReadAs (92 ∷ b ∷ inside) (b ∷ text)
  -- a byte of one character, by its two hexadecimal digits
  numbered : (b : ℕ) (inside text : List ℕ)
      → b < 128
      → IsReadAs inside text
      → IsReadAs (codes "\\u00" ++ hex_digit (b / 16) ∷ hex_digit (b % 16) ∷ inside) (b ∷ text)

-- each string is read as the bytes from which it was made
abbrev pub StringsAreReadBack : Type 0
StringsAreReadBack = (text : List ℕ) → IsReadAs (flat_map string_byte text) text

-- Texts for a terminal: a question mark stands for each byte of a control character.

abbrev pub is_among : (least byte most : ℕ) → Bool
is_among least byte most = nat_le least byte && nat_le byte most

-- the last two bytes of U+202A to U+202E and of U+2066 to U+2069, which turn the direction of a
-- text
abbrev pub is_turning : (second third : ℕ) → Bool
is_turning second third =
    second == 128 && is_among 170 third 174 || second == 129 && is_among 166 third 169

-- The number of bytes of UTF-8 of the control character that begins with these bytes, or 0 if none
-- does: one of ASCII, one of U+0080 to U+009F, or one that turns the direction of a text.
abbrev pub control_size : (first second third : ℕ) → ℕ
control_size first second third =
    if is_control first then 1
    else if first == 194 && is_among 128 second 159 then 2
    else if first == 226 && is_turning second third then 3
    else 0

-- the size of the control character that begins a text
abbrev pub size_of_control : List ℕ → ℕ
size_of_control text =
    control_size (slice_index text 0) (slice_index text 1) (slice_index text 2)

-- the number of bytes of a control character that come next: those left of one, or of a new one
abbrev pub control_bytes : (left : ℕ) → List ℕ → ℕ
control_bytes left text = if left == 0 then size_of_control text else left

abbrev pub displayed_byte : (control : ℕ) → (byte : ℕ) → ℕ
displayed_byte control byte = if control == 0 then byte else 63

-- the text after some bytes, if `left` bytes are left of the last control character
abbrev pub displayed_after : (left : ℕ) → List ℕ → List ℕ
displayed_after left [] = []
displayed_after left (b ∷ bs) =
    let control = control_bytes left (b ∷ bs) in
    displayed_byte control b ∷ displayed_after (control - 1) bs

-- the text, with a question mark for each byte of a control character
abbrev pub displayed : List ℕ → List ℕ
displayed text = displayed_after 0 text

-- no control character begins anywhere in the text
abbrev pub HasNoControl : List ℕ → Type 0
HasNoControl [] = Unit {0}
HasNoControl (b ∷ bs) = (size_of_control (b ∷ bs) ≡ 0) × HasNoControl bs

-- a displayed text has none
abbrev pub NoControlIsDisplayed : Type 0
NoControlIsDisplayed = (text : List ℕ) → HasNoControl (displayed text)

-- The digits that are the decimal of a number of 64 bits.

-- the digits are the decimal of this number, which has 64 bits
pub record IsNumber (digits : List ℕ) (n : ℕ) : Type 0 where
  pub fits : n < 2 ^ 64
  pub digits_are : digits ≡ decimal n

-- the digits are the decimal of no number of 64 bits
abbrev pub IsNoNumber : List ℕ → Type 0
IsNoNumber digits = (n : ℕ) → n < 2 ^ 64 → digits ≢ decimal n

-- The texts of pieces.

abbrev pub string_or_null : Option (List ℕ) → List ℕ
string_or_null None = codes "null"
string_or_null (Some text) = string_text text

abbrev pub number_or_null : Option ℕ → List ℕ
number_or_null None = codes "null"
number_or_null (Some n) = decimal n

abbrev pub truth_text : Bool → List ℕ
truth_text b = if b then codes "true" else codes "false"

abbrev pub bit_text : Bool → List ℕ
bit_text bit = if bit then codes "1" else codes "0"

abbrev pub bit_or_null : Option Bool → List ℕ
bit_or_null None = codes "null"
bit_or_null (Some bit) = bit_text bit

-- a list of these items, each of which begins with a comma
abbrev pub list_text : (items : List ℕ) → List ℕ
list_text items = concat (codes "[" ∷ drop 1 items ∷ codes "]" ∷ [])

-- the key of one more member of an object of JSON, after a comma
abbrev pub key_text : List ℕ → List ℕ
key_text key = concat (codes ",\"" ∷ key ∷ codes "\":" ∷ [])

-- the text of a piece
abbrev pub piece_text : Piece → List ℕ
piece_text (Bytes bytes) = bytes.now
piece_text (Number n) = decimal n
piece_text (Spaces n) = spaces n
piece_text (Left width bytes) = at_left width bytes.now
piece_text (Right width bytes) = at_right width bytes.now
piece_text (NumberRight width n) = at_right width (decimal n)
piece_text (Displayed bytes) = displayed bytes.now
piece_text (Key key) = key_text key.now
piece_text (Text text) = string_text text.now
piece_text (Letter b) = string_text (b ∷ [])
piece_text (NumberOrNull n) = number_or_null n
piece_text (TextOrNull text) = string_or_null (option_map (λ s. s.now) text)
piece_text (Truth b) = truth_text b
piece_text (Bit bit) = bit_text bit
piece_text (BitOrNull bit) = bit_or_null bit
piece_text (AsList items) = list_text items.now
