use Rattle.bp_view.proofs.Common.{◌==◌, ◌≤◌, length, sym, arith, ne_eqb, rules, prefix_len_is}
use Rattle.bp_view.proofs.program_facts.spaces_before.Goals as goal

pub returns-then-byte-ne32 : goal.returns-then-byte-ne32
returns-then-byte-ne32 c = search (rules, prefix_len_is, ne_eqb)

pub returns : goal.returns
returns c =
    let all : length c.args.text.now ≤ c.loop-i.i = omega (arith, c.loop-i-test.false) in
    sym (prefix_len_is (λ b. b == 32) c.args.text.now (length c.args.text.now) 0 (omega arith)
    (λ k less. c.loop-i.invariant k (omega (arith, all, less)))
    (λ less. absurd (omega (arith, less))))
