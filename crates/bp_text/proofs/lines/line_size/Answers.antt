use Rattle.bp_text.proofs.Common.{◌==◌, ◌≤◌, length, sym, arith, eq-eqb, rules, position_or_len_is}
use Rattle.bp_text.proofs.lines.line_size.Goals as goal

pub returns-then-byte-eq10 : goal.returns-then-byte-eq10
returns-then-byte-eq10 c = search (rules, position_or_len_is, eq-eqb)

pub returns : goal.returns
returns c =
    let all : length c.args.text.now ≤ c.loop-i.i = omega (arith, c.loop-i-test.false) in
    sym (position_or_len_is (λ b. b == 10) c.args.text.now (length c.args.text.now) 0 (omega arith)
    (λ k less. c.loop-i.invariant k (omega (arith, all, less))) (λ less. absurd (omega (arith, less))))
