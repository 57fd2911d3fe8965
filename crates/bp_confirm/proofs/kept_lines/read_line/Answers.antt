use Rattle.bp_confirm.proofs.Common.{KeptLine}
use Rattle.bp_confirm.proofs.LinesKept.{each_kept, kept_line}
use Rattle.bp_confirm.proofs.kept_lines.read_line.Goals as goal

pub returns-clause-each : goal.returns-clause-each
returns-clause-each c =
    let x : KeptLine = record { text = c.part_before-text.result; line = c.in-Some-step_at.line } in
    rw c.in_ok-push.ensures.items
    (each_kept c.args.kept.now.items x c.requires.each
    (kept_line c.args.text.now c.in-Some-step_at.more.now x c.in-Some-step_at.ensures c.part_before-text.ensures))
