-- The bits of a word after one of them was set or cleared.
use Rattle.bp_flat.proofs.Common.{◌≡◌, ◌≢◌, ◌⊎◌, inl, inr, refl, ap, ◌∙◌, ℕ, zero, suc, ◌*◌, ◌-◌, ◌%◌, ◌^◌, ◌<◌, Bool, true, false, nat_eq, bit_and, bit_or, arith, ◌+◌, sym, ◌/◌, ◌≤◌, List, [], ◌∷◌, Some, take, slice_get, add-one, div-add-mod', bit_at_set_same, bit_at_set_other, bit_at_clear_same, bit_at_clear_other, bit_at_above, bit_at_and, bit_at_cat_low, bit_at_cat_high, Bits, with_bit, bits_from, bits_of}
use Rattle.std.proofs.Math.Path.{fun_ext}
use Rattle.std.specs.Int.{w128, bit_at, bit_not}
use Rattle.std.proofs.lemmas.Bool.{cases_lt}

with_bit_same : (f : Bits) (k : ℕ) (b : Bool) → b ≡ with_bit f k b k
with_bit_same f zero b = refl
with_bit_same f (suc k) b = with_bit_same (λ i. f (suc i)) k b

with_bit_other : (f : Bits) (k : ℕ) (b : Bool) (j : ℕ) → j ≢ k → f j ≡ with_bit f k b j
with_bit_other f zero b zero ne = absurd (ne refl)
with_bit_other f zero b (suc j) ne = refl
with_bit_other f (suc k) b zero ne = refl
with_bit_other f (suc k) b (suc j) ne = with_bit_other (λ i. f (suc i)) k b j (λ e. ne (ap suc e))

same_or_not : (j k : ℕ) → (j ≡ k) ⊎ (j ≢ k)
same_or_not zero zero = inl refl
same_or_not zero (suc k) = inr (λ e. cc)
same_or_not (suc j) zero = inr (λ e. cc)
same_or_not (suc j) (suc k) = elim (same_or_not j k) [ inl e ↦ inl (ap suc e) | inr ne ↦ inr (λ e. ne cc) ]

-- bits that differ from others at one place only
pub with_bit_is : (f g : Bits) (k : ℕ) (b : Bool) → g k ≡ b → ((j : ℕ) → j ≢ k → g j ≡ f j) → g ≡ with_bit f k b
with_bit_is f g k b given1 j = grind (arith, fun_ext, same_or_not, with_bit_same, with_bit_other)

pub bits_set : (n k : ℕ) → k < 128 → bits_of (bit_or n (1 * 2 ^ k % 2 ^ 128)) ≡ with_bit (bits_of n) k true
bits_set n k h =
    with_bit_is (bits_of n) (bits_of (bit_or n (1 * 2 ^ k % 2 ^ 128))) k true (ap (λ b. nat_eq b 1) (bit_at_set_same w128 n k h))
    (λ j ne. ap (λ b. nat_eq b 1) (bit_at_set_other w128 n k h j ne))

-- the bits past the word are 0 before and after
cleared_other : (n k j : ℕ) → n < 2 ^ 128 → k < 128 → j ≢ k → bit_at (bit_and n (bit_not w128 (1 * 2 ^ k % 2 ^ 128))) j ≡ bit_at n j
cleared_other n k j within h ne =
    elim (cases_lt j 128) [
      | inl lt ↦ bit_at_clear_other w128 n k h j lt ne
      | inr ge ↦ let e = bit_at_above n 128 j within ge in rw (bit_at_and n (bit_not w128 (1 * 2 ^ k % 2 ^ 128)) j, e) (omega arith)
    ]

pub bits_cleared : (n k : ℕ) → n < 2 ^ 128 → k < 128
    → bits_of (bit_and n (2 ^ 128 - 1 - 1 * 2 ^ k % 2 ^ 128)) ≡ with_bit (bits_of n) k false
bits_cleared n k within h =
    with_bit_is (bits_of n) (bits_of (bit_and n (2 ^ 128 - 1 - 1 * 2 ^ k % 2 ^ 128))) k false (ap (λ b. nat_eq b 1) (bit_at_clear_same w128 n k h))
    (λ j ne. ap (λ b. nat_eq b 1) (cleared_other n k j within h ne))

-- The bits of a word of 128 bits are those of its halves.

joined : (n k : ℕ) → bit_at (n / 2 ^ 64 * 2 ^ 64 + n % 2 ^ 64) k ≡ bit_at n k
joined n k = ap (λ x. bit_at x k) (div-add-mod' n (2 ^ 64))

pub low_bit : (n k : ℕ) → k < 64 → bit_at (n % 2 ^ 64) k ≡ bit_at n k
low_bit n k below = sym (bit_at_cat_low (n / 2 ^ 64) 64 (n % 2 ^ 64) k below) ∙ joined n k

pub high_bit : (n k : ℕ) → 64 ≤ k → bit_at (n / 2 ^ 64) (k - 64) ≡ bit_at n k
high_bit n k above = sym (bit_at_cat_high (n / 2 ^ 64) 64 (n % 2 ^ 64) k (omega arith) above) ∙ joined n k

-- The bits of a list are in the slots from 0 on: with one more of them, the next slot has it.

more_at : (bs : List Bool) (i : ℕ) (b : Bool) (j : ℕ) → slice_get bs i ≡ Some b → with_bit (bits_from (take i bs)) i b j ≡ bits_from (take (suc i) bs) j
more_at [] i b j e = cc
more_at (x ∷ bs) zero b zero e = let same : b ≡ x = cc in same
more_at (x ∷ bs) zero b (suc j) e = refl
more_at (x ∷ bs) (suc i) b zero e = refl
more_at (x ∷ bs) (suc i) b (suc j) e = more_at bs i b j e

-- the i-th of the bits at the slot i
pub bits_from_more : (bs : List Bool) (i : ℕ) (b : Bool) (w : Bits) → slice_get bs i ≡ Some b
    → w ≡ bits_from (take i bs) → with_bit w i b ≡ bits_from (take (i + 1) bs)
bits_from_more bs i b w e same = rw (same, add-one) (fun_ext (λ j. more_at bs i b j e))
