use Rattle.bp_flat.specs.Flat.{Flat}
use Rattle.bp_commands.proofs.Common.{◌≡◌, ◌∙◌, ap, map, option_map, condition_in, footer_in, AreProgramFacts, outcome_text, waits_text, copied}
use Rattle.bp_commands.proofs.end_texts.texts_of_run.Goals as goal

pub returns : goal.returns
returns c = λ h stands reported.
    let t = c.args.session.now.code.tree in
    let tree : c.checked-checked.result.now ≡ t = c.checked-checked.ensures ∙ ap (λ (k : Flat). k.tree) c.code.ensures in
    let text = c.args.text.now in
    let slice = c.facts_of_program-program.ensures.statements ∙ c.as_slice.ensures.value in
    let are : AreProgramFacts t text c.facts_of_program-program.result = record {
      statements = rw slice (rw tree at c.in_ok-statements.ensures);
      globals = c.facts_of_program-program.ensures.globals ∙ ap (λ p. p.globals) tree;
      procedures = c.facts_of_program-program.ensures.procedures ∙ ap (λ p. p.procedures) tree;
    } in
    let footer = c.in_ok-footer.footer in
    let failed = copied condition_in c.as_ref-failure.result ∙ ap (option_map condition_in) c.as_ref-failure.ensures.value in
    let format = c.format_of-format.ensures in
    let file = c.args.file.now in
    record {
      facts = footer_in footer;
      facts_are = c.in_ok-footer.ensures text h are stands reported.outcome;
      verdict = c.verdict_of.ensures;
      outcome =
          c.in_ok-outcome.ensures
          ∙ ap (outcome_text c.format_of-format.result file footer.deadlocked) failed
          ∙ ap (λ f. outcome_text f file footer.deadlocked (option_map condition_in footer.failure)) format;
      waits =
          c.in_ok-waits.ensures
          ∙ ap (λ x. waits_text c.format_of-format.result file (map condition_in x)) c.as_slice-2.ensures.value
          ∙ ap (λ f. waits_text f file (map condition_in footer.waits.items)) format;
    }
