use Rattle.bp_commands.proofs.error_reports.explaining_text.Goals as goal

pub returns-in-Some : goal.returns-in-Some
returns-in-Some g c =
    let explains : g.G.Texts.explains c.args.given.now c.args.error.now c.in-Some.explanation = rw c.in-Some.is at c.in_ok-explanation.ensures in
    (c.in-Some.explanation, explains, rw (c.if-in_lines.true) c.in_ok-lines_of-in-Some.ensures.is)

pub returns-in-Some-2 : goal.returns-in-Some-2
returns-in-Some-2 g c =
    let explains : g.G.Texts.explains c.args.given.now c.args.error.now c.in-Some-2.explanation = rw c.in-Some-2.is at c.in_ok-explanation.ensures in
    (c.in-Some-2.explanation, explains, rw (c.if-in_lines.false) c.in_ok-sentence_of-in-Some-2.ensures)
