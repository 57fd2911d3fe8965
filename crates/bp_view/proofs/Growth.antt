-- The texts given to a buffer, added up.
use Rattle.bp_view.proofs.Common.{◌≡◌, ◌∙◌, ◌++◌, ℕ, List, [], ◌∷◌, false, length, append-nil, append_assoc, flat_map, refl, subst, sym, ap, arith, rules, both_added, list_text, piece_text, Buffer, Gains, Grown, HasTaken, IsEmpty, IsListed, IsLed, then, led}
use Rattle.bp_text.specs.declared.pieces.Piece.{Piece}

pub and_then : {a b c : Buffer} {t u : List ℕ} → Grown a b t → Grown b c u → Grown a c (t ++ u)
and_then given1 given2 = search (rules, both_added)

pub ends : {a b : Buffer} {t : List ℕ} → Grown a b t → Grown a b (t ++ [])
ends {t = t} p = record { grown = λ fine. rw (append-nil t) (p.grown fine) }

pub held : {a b : Buffer} {t : List ℕ} → IsEmpty a → Grown a b t → HasTaken b t
held {t = t} none p fine = (p.grown fine).1 ∙ ap (λ x. x ++ t) none.none

pub listed : {start : ℕ} {a b c : Buffer} {items : List ℕ} → start ≡ length a.bytes.items → Grown a b items → IsListed start b c
    → Grown a c (list_text items)
listed given1 given2 given3 = grind (arith)

-- a lead, a note, and the lead is removed if there is no note
pub led_note : {start middle : ℕ} {a b c d : Buffer} {lead note : List ℕ} → start ≡ length a.bytes.items → Grown a b lead
    → middle ≡ length b.bytes.items → Grown b c note → IsLed start middle c d → Grown a d (led lead note)
led_note given1 given2 given3 given4 given5 = grind (arith)

-- Nothing was given, and a text of a kind was given.

pub nothing : {a : Buffer} → Grown a a []
nothing {a = a} = record { grown = λ fine. (fine, sym (append-nil a.bytes.items)) }

pub gains : {a b : Buffer} {t : List ℕ} {Are : List ℕ → Type 0} → Grown a b t → Are t → Gains Are a b
gains {t = t} p are fine = let (was, is) = p.grown fine in (was, record { more = t; is = is; more_are = are })

-- a buffer that was empty has such a text
pub gained : {a : Buffer} (b : Buffer) {Are : List ℕ → Type 0} → IsEmpty a → Gains Are a b → b.refused ≡ false → Are b.bytes.items
gained b {Are = Are} none p fine = let (was, more) = p fine in subst Are (sym (more.is ∙ ap (λ x. x ++ more.more) none.none)) more.more_are

-- the pieces, and the text after them
pub pieces_then : (pieces : List Piece) {a b c : Buffer} {rest : List ℕ} → Grown a b (flat_map piece_text pieces) → Grown b c rest
    → Grown a c (then pieces rest)
pieces_then pieces {a = a} {b = b} {c = c} {rest = rest} p q = subst (Grown a c) (in_turn pieces) (and_then p q)
  where
    in_turn : (ps : List Piece) → flat_map piece_text ps ++ rest ≡ then ps rest
    in_turn [] = refl
    in_turn (x ∷ xs) = append_assoc (piece_text x) (flat_map piece_text xs) rest ∙ ap (λ y. piece_text x ++ y) (in_turn xs)

-- two texts and the text after them, in other groups
pub regroup_pair : {a b : Buffer} (t u rest : List ℕ) → Grown a b ((t ++ u) ++ rest) → Grown a b (t ++ (u ++ rest))
regroup_pair {a = a} {b = b} t u rest p = subst (Grown a b) (append_assoc t u rest) p
