use Rattle.bp_syntax.proofs.Common.{◌∙◌, sym}
use Rattle.bp_syntax.proofs.BracedNames.{byte_read, is_byte, other_byte}
use Rattle.bp_syntax.proofs.LongestLexeme.{closed_name, unclosed_front}
use Rattle.bp_syntax.proofs.lexemes.braced_lexeme.Goals as goal

pub returns-then-eq : goal.returns-then-eq
returns-then-eq c =
    let bs = c.args.rest.now in
    let n = c.run-inside.result in
    let read = c.copied.ensures ∙ byte_read c.get.result bs n c.get.ensures.lookup.0 c.get.ensures.lookup.1 in
    closed_name bs n c.run-inside.ensures.value (sym read ∙ is_byte c.copied.result 125 (sym c.eq.ensures ∙ c.if-eq.true))

pub returns-else-eq : goal.returns-else-eq
returns-else-eq c =
    let bs = c.args.rest.now in
    let n = c.run-inside.result in
    let read = c.copied.ensures ∙ byte_read c.get.result bs n c.get.ensures.lookup.0 c.get.ensures.lookup.1 in
    unclosed_front bs n c.run-inside.ensures.value (λ e. other_byte c.copied.result 125 (sym c.eq.ensures ∙ c.if-eq.false) (read ∙ e))
