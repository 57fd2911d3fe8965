use Rattle.bp_syntax.proofs.Common.{sym}
use Rattle.bp_syntax.proofs.OneCut.{token_is_text}
use Rattle.bp_syntax.proofs.lexer.push_token.Goals as goal

pub unreachable-requires : goal.unreachable-requires
unreachable-requires c =
    c.in_default-from_utf8.ensures.cases.0 (token_is_text c.args.lexeme c.args.text.now c.in-Some.kind c.requires (sym c.in-Some.ensures))
