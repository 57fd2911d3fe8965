use Rattle.bp_commands.proofs.Common.{inl, false, true, ap, subst, sym, ◌≡◌, ◌∙◌, Ok, Err, err_from_is_err_and, IsOpened, IsRefusedWith, NamedBitOf, OptionsOf, List, ℕ, Program, SetupOf, runs, seeded, text_alone}
use Rattle.bp_run.specs.Options.{has_bad_turn_or_ring}
use Rattle.bp_run.specs.Runs.{IsPlayedBy, IsPlayRefusal}
use Rattle.bp_commands.proofs.Answered.{answered, refused_with}
use Rattle.bp_commands.proofs.RunAnswers.{bad_numbers, done, refused}
use Rattle.bp_commands.proofs.worker_runs.run_program.Goals as goal

-- a program opened from the parts of the options is opened from the options
opened_from : (x o : OptionsOf) (named : List NamedBitOf) (text given : List ℕ) (t : Program) (s : SetupOf)
    → x ≡ o → text ≡ given → IsOpened x.start named text t s → IsOpened o.start named given t s
opened_from x o named text given t s same read is = subst (λ (y : OptionsOf). IsOpened y.start named given t s) same (rw read at is)

seeded_from : (x o : OptionsOf) (s r : SetupOf) → x ≡ o → r ≡ seeded x s → r ≡ seeded o s
seeded_from x o s r same is = is ∙ ap (λ (y : OptionsOf). seeded y s) same

pub returns-in_err-opened-clause-answers : goal.returns-in_err-opened-clause-answers
returns-in_err-opened-clause-answers g c =
    let p = err_from_is_err_and c.from_residual-in_err-opened.result c.from_residual-in_err-opened.ensures.1 in
    let task = c.args.asked.now.task.now in
    let out = g.W.Write.contents c.args.out.now in
    let program = c.read_text.new.program in
    let inputs = text_alone (g.R.Read.remaining c.args.program.now.reader) (g.R.Read.remaining program.reader) in
    let f = c.in_err-opened.field-0.0 in
    rw (p.1, p.2) (
    answered (runs task.options task.named) program.bytes.items out inputs c.in_ok-read_text.ensures out (Err f)
    (subst (λ x. IsRefusedWith (runs x task.named) out out program.bytes.items f) c.options.view_is
    (refused_with (runs _ task.named) program.bytes.items out f (inl (rw c.deref.ensures.value at c.in_err-opened.ensures.answer))))
    )

pub returns-then-has_bad_turn_or_ring-clause-answers : goal.returns-then-has_bad_turn_or_ring-clause-answers
returns-then-has_bad_turn_or_ring-clause-answers g c =
    let task = c.args.asked.now.task.now in
    let out = g.W.Write.contents c.args.out.now in
    let program = c.read_text.new.program in
    let inputs = text_alone (g.R.Read.remaining c.args.program.now.reader) (g.R.Read.remaining program.reader) in
    let x = c.in_ok-opened.opened in
    let opened = opened_from _ task.options task.named _ program.bytes.items x.code.tree x.setup c.options.view_is c.deref.ensures.value c.in_ok-opened.ensures.answer in
    let bad : has_bad_turn_or_ring task.options ≡ true = sym c.has_bad_turn_or_ring.ensures ∙ c.if-has_bad_turn_or_ring.true in
    answered (runs task.options task.named) program.bytes.items out inputs c.in_ok-read_text.ensures out (Err _)
    (bad_numbers task.options task.named program.bytes.items x.code.tree x.setup opened out bad)

pub returns-in_err-report-clause-answers : goal.returns-in_err-report-clause-answers
returns-in_err-report-clause-answers g c =
    let p = err_from_is_err_and c.from_residual-in_err-report.result c.from_residual-in_err-report.ensures.1 in
    let task = c.args.asked.now.task.now in
    let program = c.read_text.new.program in
    let inputs = text_alone (g.R.Read.remaining c.args.program.now.reader) (g.R.Read.remaining program.reader) in
    let x = c.in_ok-opened.opened in
    let opened = opened_from _ task.options task.named _ program.bytes.items x.code.tree x.setup c.options.view_is c.deref.ensures.value c.in_ok-opened.ensures.answer in
    let fine : has_bad_turn_or_ring task.options ≡ false = sym c.has_bad_turn_or_ring.ensures ∙ c.if-has_bad_turn_or_ring.false in
    let setup = seeded_from _ task.options x.setup _ c.options.view_is c.with_seed-setup.ensures in
    let f = c.in_err-report.field-0.0 in
    let old = g.W.Write.contents c.args.out.now in
    let new = g.W.Write.contents c.run_code.new.out in
    rw (p.1, p.2) (
    answered (runs task.options task.named) program.bytes.items old inputs c.in_ok-read_text.ensures new (Err _)
    (refused task.options task.named program.bytes.items x.code.tree x.setup opened fine old new f
    (subst (λ s. IsPlayRefusal x.code.tree s old new f) setup c.in_err-report.ensures))
    )

pub returns-clause-answers : goal.returns-clause-answers
returns-clause-answers g c =
    let task = c.args.asked.now.task.now in
    let program = c.read_text.new.program in
    let inputs = text_alone (g.R.Read.remaining c.args.program.now.reader) (g.R.Read.remaining program.reader) in
    let x = c.in_ok-opened.opened in
    let opened = opened_from _ task.options task.named _ program.bytes.items x.code.tree x.setup c.options.view_is c.deref.ensures.value c.in_ok-opened.ensures.answer in
    let fine : has_bad_turn_or_ring task.options ≡ false = sym c.has_bad_turn_or_ring.ensures ∙ c.if-has_bad_turn_or_ring.false in
    let setup = seeded_from _ task.options x.setup _ c.options.view_is c.with_seed-setup.ensures in
    let r = c.in_ok-report.report in
    let old = g.W.Write.contents c.args.out.now in
    let new = g.W.Write.contents c.run_code.new.out in
    answered (runs task.options task.named) program.bytes.items old inputs c.in_ok-read_text.ensures new (Ok r)
    (done task.options task.named program.bytes.items x.code.tree x.setup opened fine old new r
    (subst (λ s. IsPlayedBy x.code.tree s old new r) setup c.in_ok-report.ensures))
