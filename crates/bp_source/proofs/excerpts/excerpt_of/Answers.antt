use Rattle.bp_source.proofs.Common.{sym, subst, ◌||◌, rules, Lexeme, is_choice}
use Rattle.bp_text.proofs.LinesOfTexts.{one_line_after}
use Rattle.bp_source.proofs.OneStatement.{ReadsTo, reads_all, reads_more}
use Rattle.bp_source.proofs.excerpts.excerpt_of.Goals as goal

pub loop-lexeme-preserved : goal.loop-lexeme-preserved
loop-lexeme-preserved c =
    let before = c.loop-lexeme in
    let text = c.args.text.now in
    let l : Lexeme = record { kind = c.in-Some.lexeme.kind; bytes = c.in-Some.lexeme.text.now } in
    let new = c.push_lexeme.new.line.items in
    let next = c.take_own_lexeme.new.text.now in
    let read = reads_more text before.line.items before.had_gap before.reads_choice before.rest.now
    before.invariant.reads l new next c.in-Some.ensures.lexeme c.in_ok-push_lexeme.ensures.is in
    let with_gap = subst (λ g. ReadsTo text new g (before.reads_choice || is_choice l.bytes) next) (sym c.is_gap-had_gap.ensures) read in
    record {
      one_line = one_line_after _ _ before.invariant.one_line c.in_ok-push_lexeme.ensures.one_line;
      reads = subst (λ r. ReadsTo text new c.is_gap-had_gap.result (before.reads_choice || r) next) (sym c.is_choice-reads_choice.ensures) with_gap;
    }

pub returns-clause-is : goal.returns-clause-is
returns-clause-is c = search (rules, reads_all)
