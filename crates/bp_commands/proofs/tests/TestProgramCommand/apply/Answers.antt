use Rattle.bp_commands.proofs.Common.{◌≤◌, ◌∙◌, arith, inl, refl, rules, err_from_is_err_and, MAX_JOBS, tests}
use Rattle.std.proofs.lemmas.Bool.Decides.{nat_tests}
use Rattle.bp_commands.proofs.Answered.{refused_with}
use Rattle.bp_commands.proofs.TestAnswers.{done, lacks_memory, many_jobs, refused}
use Rattle.bp_commands.proofs.tests.TestProgramCommand.apply.Goals as goal

pub returns-in_err-opened : goal.returns-in_err-opened
returns-in_err-opened g c =
    let p = err_from_is_err_and c.from_residual.result c.from_residual.ensures.1 in
    rw (p.1, p.2) (refused_with (tests c.args.self.now.task.now) c.args.text.now _ _ (inl c.in_err-opened.ensures.answer))

pub returns-then-options-gt-MAX_JOBS : goal.returns-then-options-gt-MAX_JOBS
returns-then-options-gt-MAX_JOBS g c = search (rules, nat_tests, many_jobs)

pub returns-in_err-file : goal.returns-in_err-file
returns-in_err-file g c = search (rules, err_from_is_err_and, nat_tests, lacks_memory)

pub returns-in_err-lines : goal.returns-in_err-lines
returns-in_err-lines g c = search (rules, err_from_is_err_and, nat_tests, lacks_memory)

pub returns-in_err-positions : goal.returns-in_err-positions
returns-in_err-positions g c =
    let p = err_from_is_err_and c.from_residual-in_err-positions.result c.from_residual-in_err-positions.ensures.1 in
    let few : c.args.self.now.task.now.options.jobs ≤ MAX_JOBS = grind (arith, nat_tests) in
    let out = g.W.Write.contents c.args.out.now in
    rw (p.1, p.2) (lacks_memory c.args.self.now.task.now c.args.text.now _ _ c.in_ok-opened.ensures.answer few out out out)

pub returns-in_err-statements : goal.returns-in_err-statements
returns-in_err-statements g c =
    let p = err_from_is_err_and c.from_residual-in_err-statements.result c.from_residual-in_err-statements.ensures.1 in
    let few : c.args.self.now.task.now.options.jobs ≤ MAX_JOBS = grind (arith, nat_tests) in
    let out = g.W.Write.contents c.args.out.now in
    rw (p.1, p.2) (lacks_memory c.args.self.now.task.now c.args.text.now _ _ c.in_ok-opened.ensures.answer few out out out)

pub returns-in_err-tested : goal.returns-in_err-tested
returns-in_err-tested g c =
    let p = err_from_is_err_and c.from_residual-in_err-tested.result c.from_residual-in_err-tested.ensures.1 in
    let x = c.in_ok-opened.opened in
    let few : c.args.self.now.task.now.options.jobs ≤ MAX_JOBS = grind (arith, nat_tests) in
    rw (p.1, p.2) (refused c.args.self.now.task.now c.args.text.now x.code.tree x.setup c.in_ok-opened.ensures.answer few _ _
    c.in_err-tested.field-0.0 c.in_err-tested.ensures)

pub returns : goal.returns
returns g c =
    let x = c.in_ok-opened.opened in
    let few : c.args.self.now.task.now.options.jobs ≤ MAX_JOBS = grind (arith, nat_tests) in
    done c.args.self.now.task.now c.args.text.now x.code.tree x.setup c.in_ok-opened.ensures.answer few _ _
    c.in_ok-tested.tested c.in_ok-tested.ensures _ refl refl refl
    (rw c.checked-checked.ensures at c.in_ok-positions.ensures) (rw c.checked-checked.ensures at c.in_ok-statements.ensures) refl c.distinct_of.ensures
    c.counts-counts.ensures (c.in_ok-file.ensures.items ∙ c.as_bytes.ensures.value) refl refl refl c.in_ok-lines.ensures
