use Rattle.bp_text.proofs.Common.{append_assoc, rules, take_more}
use Rattle.std.proofs.lemmas.List.{take_all}
use Rattle.bp_text.proofs.lines.after_all.Goals as goal

pub loop-byte-preserved : goal.loop-byte-preserved
loop-byte-preserved c = search (rules, take_more, append_assoc)

pub returns : goal.returns
returns c = λ before e. rw (take_all c.loop-byte.byte-index c.args.bytes.now c.loop-byte-test.false) at (c.loop-byte.invariant.is before e)
