use Rattle.bp_commands.proofs.Common.{if◌then◌else◌, subst, sym, ℕ, List, Option, Some, Writes, verdict_object, ShownVerdict, HasSummary, confirmation_shown, line_as, verdict_word}
use Rattle.bp_commands.proofs.confirmations.ConfirmationCommandAnswer.summarize.Goals as goal

pub returns-then-self : goal.returns-then-self
returns-then-self g c =
    let x = c.args.self.now in
    let old = g.E.Write.contents c.args.errors.now in
    let new = g.E.Write.contents c.put_verdict.new.out in
    let told = c.put_verdict.result in
    let shown : List ℕ → Option ℕ → List ℕ → List ℕ → List ℕ → ShownVerdict = λ w n f v b. record {
      word = w;
      steps = x.report.calls;
      contexts = n;
      failure = f;
      waits = v;
      choices = b;
    } in
    let failure = c.deref.result.now in
    let waits = c.deref-then-self.result.now in
    let choices = c.deref-then-self-2.result.now in
    let word = subst (λ w. Writes old new (verdict_object (shown w (Some c.from.result) failure waits choices)) told)
    c.verdict_word.ensures c.put_verdict.ensures in
    let contexts = subst (λ n. Writes old new (verdict_object (shown (verdict_word x.said.verdict) (Some n) failure waits choices)) told)
    c.from.ensures word in
    let failed = subst (λ f. Writes old new (verdict_object (shown (verdict_word x.said.verdict) (Some x.report.contexts) f waits choices)) told)
    c.deref.ensures.value contexts in
    let written = subst (λ v. Writes old new (verdict_object (shown (verdict_word x.said.verdict) (Some x.report.contexts) x.said.outcome.items v choices)) told)
    c.deref-then-self.ensures.value failed in
    let whole = subst (λ v. Writes old new (verdict_object (shown (verdict_word x.said.verdict) (Some x.report.contexts) x.said.outcome.items x.said.waits.items v)) told)
    c.deref-then-self-2.ensures.value written in
    subst (λ b. HasSummary (if b then verdict_object (confirmation_shown x) else line_as x.expected x.choices.items x.said.verdict) old new told)
    (sym c.if-self.true) whole
