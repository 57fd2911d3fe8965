use Rattle.bp_syntax.proofs.Common.{refl, Asserts, KeywordThen, AssertThen}
use Rattle.bp_syntax.specs.declared.tokens.TokenKind.TheVariants as kind
use Rattle.bp_syntax.proofs.ResultAfterToken.{at_exit}
use Rattle.bp_syntax.proofs.parser.Parser.assertion.Goals as goal

pub returns-in_err-decider-clause-reads : goal.returns-in_err-decider-clause-reads
returns-in_err-decider-clause-reads c next =
    at_exit _ c.in_err-decider.field-0.0 (KeywordThen kind.Assert AssertThen next) c.args.self.now
    c.condition_between.new.self _ _ c.from_residual.ensures.1 refl
    (c.in_err-decider.ensures.reads (λ d. next (Asserts d)))

pub returns-clause-reads : goal.returns-clause-reads
returns-clause-reads c next = c.in_ok-decider.ensures.reads (λ d. next (Asserts d))
