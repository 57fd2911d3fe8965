use Rattle.bp_syntax.proofs.Common.{Some, None}
use Rattle.bp_syntax.proofs.LongestLexeme.{open_front, unbraced_longest, brace_first, other_first}
use Rattle.bp_syntax.proofs.lexemes.first_lexeme.Goals as goal

pub returns-then-nameless-gt0 : goal.returns-then-nameless-gt0
returns-then-nameless-gt0 c =
    open_front c.args.text.now c.args.nameless (brace_first c.args.text.now c.requires.some c.if-first-eq123.true) c.if-nameless-gt0.true c.requires.nameless

pub returns-in-Some : goal.returns-in-Some
returns-in-Some c = unbraced_longest c.args.text.now (Some (c.in-Some.kind, c.in-Some.len)) c.requires.some c.if-first-eq123.false c.in-Some.ensures

pub returns-in-None : goal.returns-in-None
returns-in-None c = (
  unbraced_longest c.args.text.now None c.requires.some c.if-first-eq123.false c.in-None.ensures,
  other_first c.args.text.now c.requires.some c.if-first-eq123.false,
)
