use Rattle.bp_view.proofs.Common.{◌≡◌, ◌==◌, ◌-◌, ◌<◌, ◌≤◌, ℕ, List, true, false, length, get_or, arith, ne_eqb, suffix_len, suffix_len_is}
use Rattle.bp_view.proofs.program_facts.size_before_spaces.Goals as goal

-- only spaces are from here on, and another byte is before this place
spaces_begin :
    (text : List ℕ) (n : ℕ)
    → n ≤ length text
    → ((k : ℕ) → n ≤ k → k < length text → (get_or text k 0 == 32) ≡ true)
    → (0 < n → (get_or text (n - 1) 0 == 32) ≡ false)
    → n ≡ length text - suffix_len (λ b. b == 32) text
spaces_begin text n within spaces another =
    let size = suffix_len_is (λ b. b == 32) text n 0 within spaces another in
    omega (arith, size, within)

pub returns-then-text-size-ne32 : goal.returns-then-text-size-ne32
returns-then-text-size-ne32 c =
    spaces_begin c.args.text.now c.loop-size.size c.loop-size.invariant.within c.loop-size.invariant.spaces (λ _. ne_eqb _ 32 c.if-text-size-ne32.true)

pub returns : goal.returns
returns c =
    let none : c.loop-size.size ≤ 0 = omega (arith, c.loop-size-test.false) in
    spaces_begin c.args.text.now c.loop-size.size c.loop-size.invariant.within c.loop-size.invariant.spaces (λ some. absurd (omega (arith, none, some)))
