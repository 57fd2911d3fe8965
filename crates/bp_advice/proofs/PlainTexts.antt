-- Shown texts are plain.
use Rattle.bp_advice.proofs.Common.{◌≡◌, ◌==◌, ◌||◌, ℕ, Bool, true, List, map, slice_index_or, refl, if◌then◌else◌, arith, All-map, is_plain, shown, IsPlain}

plain_if : (b : ℕ) (p w : Bool) → is_plain b ≡ p → is_plain (if p then b else if w then 32 else 63) ≡ true
plain_if b p w given1 = grind (arith)

plain_shown : (b : ℕ) → is_plain (shown b) ≡ true
plain_shown b = plain_if b (is_plain b) (b == 9 || b == 13) refl

pub plain_all : (bytes : List ℕ) → IsPlain (map shown bytes)
plain_all bytes = All-map (λ b. is_plain b ≡ true) shown bytes (λ k d lt. plain_shown (slice_index_or bytes k d))
