-- Globals with bits by their names: the text that gives them, and the start that has them.
use Rattle.std.specs.Prelude.{ℕ, Bool, List, map, ◌≡◌, ◌&&◌, suc, true, false, Some, bytes_eq, is_some, slice_get, take, ◌==◌, ◌-◌, ◌||◌, not, [], ◌∷◌, codes, length, drop}
use Rattle.std.specs.List.{list_all, list_any}
use Rattle.bp_syntax.specs.Ast.{Name, Program}
use Rattle.bp_syntax.specs.Errors.{first_index}
use Rattle.bp_machine.specs.Setups.{StartOf, start_with}
use Rattle.bp_source.specs.Names.{pieces}
use Rattle.bp_source.specs.declared.initial_bits.NamedBit.{NamedBit}

-- Globals by their names, each with a bit.

-- a global by its name, and the bit that it begins with
pub record NamedBitOf : Type 0 where
  pub name : List ℕ
  pub bit : Bool

abbrev pub named_bit : List ℕ → Bool → NamedBitOf
named_bit name bit = record { name = name; bit = bit }

abbrev pub values_of : List NamedBit → List NamedBitOf
values_of items = map (λ it. named_bit it.name.now it.bit) items

-- The start that has the bits of globals by name, and when names are not those of globals.

-- this gives a global of this name the bit 1
abbrev pub is_set : NamedBitOf → List ℕ → Bool
is_set it name = bytes_eq it.name name && it.bit

-- the bit that a global of this name begins with: 1 if it is named with 1, and else 0
abbrev pub bit_of : List NamedBitOf → List ℕ → Bool
bit_of named name = list_any (λ it. is_set it name) named

-- the bits of the globals in order of declaration
abbrev pub bits_by_name : List NamedBitOf → List Name → List Bool
bits_by_name named globals = map (λ global. bit_of named global.text) globals

-- a start, with the bits that the globals of a program have by name
abbrev pub start_by_names : StartOf → List NamedBitOf → Program → StartOf
start_by_names start named t =
    start_with start.entries (Some (bits_by_name named t.globals)) start.contexts start.calls

-- a global of the program has this name
abbrev pub has_global : Program → NamedBitOf → Bool
has_global t it = is_some (first_index t.globals it.name)

-- each of these names is that of a global
abbrev pub AreGlobals : Program → List NamedBitOf → Type 0
AreGlobals t named = list_all (has_global t) named ≡ true

-- name n of these, from 1, is the first that no global has
pub record IsUnknown (t : Program) (named : List NamedBitOf) (n : ℕ) : Type 0 where
  pub before : ℕ
  pub number : n ≡ suc before
  pub name : NamedBitOf
  pub at : slice_get named before ≡ Some name
  pub unknown : has_global t name ≡ false
  pub first : AreGlobals t (take before named)

-- The text that gives globals their initial bits by name, as `valid=1,freed=0`.

-- a text gives bits by name if it has an equals sign
abbrev pub gives_names : List ℕ → Bool
gives_names text = list_any (λ b. b == 61) text

-- the bytes of a piece before the last two
abbrev pub name_in : List ℕ → List ℕ
name_in piece = take (length piece - 2) piece

abbrev pub ending_of : List ℕ → List ℕ
ending_of piece = drop (length piece - 2) piece

-- a piece is a name with `=0` or `=1`
abbrev pub is_named_bit : List ℕ → Bool
is_named_bit piece =
    not (length (name_in piece) == 0)
    && (bytes_eq (ending_of piece) (codes "=0") || bytes_eq (ending_of piece) (codes "=1"))

-- one of the pieces gives this name a bit
abbrev pub is_named_in : List (List ℕ) → List ℕ → Bool
is_named_in parts name = list_any (λ piece. bytes_eq (name_in piece) name) parts

-- each piece is a name with a bit, and no name comes twice
abbrev pub are_named : List (List ℕ) → Bool
are_named [] = true
are_named (piece ∷ others) =
    (is_named_bit piece && not (is_named_in others (name_in piece))) && are_named others

-- a text has names with bits between its commas, and no name twice
abbrev pub are_named_bits : List ℕ → Bool
are_named_bits text = are_named (pieces false text)

abbrev pub named_bit_in : List ℕ → NamedBitOf
named_bit_in piece = named_bit (name_in piece) (bytes_eq (ending_of piece) (codes "=1"))

-- the names of such a text with their bits
abbrev pub named_bits : List ℕ → List NamedBitOf
named_bits text = map named_bit_in (pieces false text)
