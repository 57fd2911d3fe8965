use Rattle.bp_syntax.proofs.Common.{◌≡◌, ◌∙◌, sym, refl, Some, arith, rules, Block, Then, Skips, Returns, Branches, Loops, statement_of, decision_of, WordThen, KeywordThen, StmtsTo, FormThen, GotoThen, IfThen, WhileThen, AssertThen, AssumeThen, PrintThen, MoreStmts, kind_ahead, place_ahead}
use Rattle.bp_syntax.specs.declared.tokens.TokenKind.TheVariants as kind
use Rattle.bp_syntax.proofs.ResultAfterToken.{at_exit, passed_on, word_comes, before_block, block_is, one_more_form, more_stmts_ahead, no_stmt}
use Rattle.bp_syntax.proofs.parser.Parser.+stmt.Goals as goal

pub form-returns-in-Some-Skip-clause-reads : goal.form-returns-in-Some-Skip-clause-reads
form-returns-in-Some-Skip-clause-reads t c next =
    let old = c.args.self.now in
    let then = next (place_ahead old) in
    let h : kind_ahead old ≡ Some kind.Skip = cc in
    passed_on c.skip.result (FormThen next) (WordThen kind.Skip (WordThen kind.Semicolon (then Skips))) old old c.skip.new.self (λ f. then (statement_of f))
    (word_comes kind.Skip next old (WordThen kind.Semicolon (then Skips)) h (λ x. refl)) (c.skip.ensures.reads then)

pub form-returns-in-Some-Return-clause-reads : goal.form-returns-in-Some-Return-clause-reads
form-returns-in-Some-Return-clause-reads t c next =
    let old = c.args.self.now in
    let then = next (place_ahead old) in
    let h : kind_ahead old ≡ Some kind.Return = cc in
    passed_on c.leave.result (FormThen next) (WordThen kind.Return (WordThen kind.Semicolon (then Returns))) old old
    c.leave.new.self (λ f. then (statement_of f))
    (word_comes kind.Return next old (WordThen kind.Semicolon (then Returns)) h (λ x. refl)) (c.leave.ensures.reads then)

pub form-returns-in-Some-Goto-clause-reads : goal.form-returns-in-Some-Goto-clause-reads
form-returns-in-Some-Goto-clause-reads t c next =
    let old = c.args.self.now in
    let then = next (place_ahead old) in
    let h : kind_ahead old ≡ Some kind.Goto = cc in
    passed_on c.jump.result (FormThen next) (WordThen kind.Goto (GotoThen then)) old old c.jump.new.self (λ f. then (statement_of f))
    (word_comes kind.Goto next old (GotoThen then) h (λ x. refl)) (c.jump.ensures.reads then)

pub form-returns-in-Some-If-clause-reads : goal.form-returns-in-Some-If-clause-reads
form-returns-in-Some-If-clause-reads t c next =
    let old = c.args.self.now in
    let then = next (place_ahead old) in
    let h : kind_ahead old ≡ Some kind.If = cc in
    passed_on c.branch-self.result (FormThen next) (WordThen kind.If (IfThen then)) old old c.branch-self.new.self (λ f. then (statement_of f))
    (word_comes kind.If next old (IfThen then) h (λ x. refl)) (c.branch-self.ensures.reads then)

pub form-returns-in-Some-While-clause-reads : goal.form-returns-in-Some-While-clause-reads
form-returns-in-Some-While-clause-reads t c next =
    let old = c.args.self.now in
    let then = next (place_ahead old) in
    let h : kind_ahead old ≡ Some kind.While = cc in
    passed_on c.repetition.result (FormThen next) (WordThen kind.While (WhileThen then)) old old c.repetition.new.self (λ f. then (statement_of f))
    (word_comes kind.While next old (WhileThen then) h (λ x. refl)) (c.repetition.ensures.reads then)

pub form-returns-in-Some-Assert-clause-reads : goal.form-returns-in-Some-Assert-clause-reads
form-returns-in-Some-Assert-clause-reads t c next =
    let old = c.args.self.now in
    let then = next (place_ahead old) in
    let h : kind_ahead old ≡ Some kind.Assert = cc in
    passed_on c.assertion.result (FormThen next) (WordThen kind.Assert (AssertThen then)) old old c.assertion.new.self (λ f. then (statement_of f))
    (word_comes kind.Assert next old (AssertThen then) h (λ x. refl)) (c.assertion.ensures.reads then)

pub form-returns-in-Some-Assume-clause-reads : goal.form-returns-in-Some-Assume-clause-reads
form-returns-in-Some-Assume-clause-reads t c next =
    let old = c.args.self.now in
    let then = next (place_ahead old) in
    let h : kind_ahead old ≡ Some kind.Assume = cc in
    passed_on c.assumption.result (FormThen next) (WordThen kind.Assume (AssumeThen then)) old old c.assumption.new.self (λ f. then (statement_of f))
    (word_comes kind.Assume next old (AssumeThen then) h (λ x. refl)) (c.assumption.ensures.reads then)

pub form-returns-in-Some-Print-clause-reads : goal.form-returns-in-Some-Print-clause-reads
form-returns-in-Some-Print-clause-reads t c next =
    let old = c.args.self.now in
    let then = next (place_ahead old) in
    let h : kind_ahead old ≡ Some kind.Print = cc in
    passed_on c.printing.result (FormThen next) (WordThen kind.Print (PrintThen then)) old old c.printing.new.self (λ f. then (statement_of f))
    (word_comes kind.Print next old (PrintThen then) h (λ x. refl)) (c.printing.ensures.reads then)

pub stmts-returns-in_err-stmt-2-clause-reads : goal.stmts-returns-in_err-stmt-2-clause-reads
stmts-returns-in_err-stmt-2-clause-reads t c next = search (rules, before_block, at_exit, more_stmts_ahead)

pub stmts-loop-alloc-preserved : goal.stmts-loop-alloc-preserved
stmts-loop-alloc-preserved t c = record {
  reads = λ next.
      let then = λ (b : Block). next (before_block c.loop-alloc.stmts.items b) in
      c.loop-alloc.invariant.reads next
      ∙ more_stmts_ahead then c.loop-alloc.self (sym c.loop-alloc-test.ensures)
      ∙ c.in_ok-stmt-2.ensures.reads (λ l at s. MoreStmts (λ b. then (Then l at s b)))
      ∙ one_more_form next c.loop-alloc.stmts.items _ c.in_ok-stmt-2.field-0 c.stmt-in-loop-alloc.new.self c.in_ok-push-2.ensures.items;
  shorter = let less = c.in_ok-stmt-2.ensures.shorter in let so_far = c.loop-alloc.invariant.shorter in omega arith;
}

pub stmts-returns-clause-reads : goal.stmts-returns-clause-reads
stmts-returns-clause-reads t c next = search (rules, before_block, no_stmt, block_is)

pub stmt-returns-clause-reads : goal.stmt-returns-clause-reads
stmt-returns-clause-reads t c = search rules

pub branch-returns-in_err-decider-clause-reads : goal.branch-returns-in_err-decider-clause-reads
branch-returns-in_err-decider-clause-reads t c next =
    at_exit _ c.in_err-decider.field-0.0 (KeywordThen kind.If IfThen next) c.args.self.now c.condition_between.new.self _ _ c.from_residual.ensures.1
    (refl)
    (c.in_err-decider.ensures.reads (λ d. StmtsTo kind.Else (λ a. StmtsTo kind.Fi (λ b. next (Branches d a b)))))

pub branch-returns-in_err-yes-clause-reads : goal.branch-returns-in_err-yes-clause-reads
branch-returns-in_err-yes-clause-reads t c next =
    at_exit _ c.in_err-yes.field-0.0 (KeywordThen kind.If IfThen next) c.args.self.now c.stmts_to.new.self _ _ c.from_residual-in_err-yes.ensures.1
    (c.in_ok-decider.ensures.reads (λ d. StmtsTo kind.Else (λ a. StmtsTo kind.Fi (λ b. next (Branches d a b)))))
    (c.in_err-yes.ensures.reads (λ a. StmtsTo kind.Fi (λ b. next (Branches (decision_of c.in_ok-decider.decider) a b))))

pub branch-returns-in_err-no-clause-reads : goal.branch-returns-in_err-no-clause-reads
branch-returns-in_err-no-clause-reads t c next =
    at_exit _ c.in_err-no.field-0.0 (KeywordThen kind.If IfThen next) c.args.self.now c.stmts_to-2.new.self _ _ c.from_residual-in_err-no.ensures.1
    (c.in_ok-decider.ensures.reads (λ d. StmtsTo kind.Else (λ a. StmtsTo kind.Fi (λ b. next (Branches d a b))))
    ∙ c.in_ok-yes.ensures.reads (λ a. StmtsTo kind.Fi (λ b. next (Branches (decision_of c.in_ok-decider.decider) a b))))
    (c.in_err-no.ensures.reads (λ b. next (Branches (decision_of c.in_ok-decider.decider) c.in_ok-yes.yes b)))

pub branch-returns-clause-reads : goal.branch-returns-clause-reads
branch-returns-clause-reads t c next =
    c.in_ok-decider.ensures.reads (λ d. StmtsTo kind.Else (λ a. StmtsTo kind.Fi (λ b. next (Branches d a b))))
    ∙ c.in_ok-yes.ensures.reads (λ a. StmtsTo kind.Fi (λ b. next (Branches (decision_of c.in_ok-decider.decider) a b)))
    ∙ c.in_ok-no.ensures.reads (λ b. next (Branches (decision_of c.in_ok-decider.decider) c.in_ok-yes.yes b))

pub repetition-returns-in_err-decider-clause-reads : goal.repetition-returns-in_err-decider-clause-reads
repetition-returns-in_err-decider-clause-reads t c next =
    at_exit _ c.in_err-decider.field-0.0 (KeywordThen kind.While WhileThen next) c.args.self.now c.condition_between.new.self _ _ c.from_residual.ensures.1
    (refl)
    (c.in_err-decider.ensures.reads (λ d. StmtsTo kind.Od (λ b. next (Loops d b))))

pub repetition-returns-in_err-body-clause-reads : goal.repetition-returns-in_err-body-clause-reads
repetition-returns-in_err-body-clause-reads t c next =
    at_exit _ c.in_err-body.field-0.0 (KeywordThen kind.While WhileThen next) c.args.self.now c.stmts_to.new.self _ _ c.from_residual-in_err-body.ensures.1
    (c.in_ok-decider.ensures.reads (λ d. StmtsTo kind.Od (λ b. next (Loops d b))))
    (c.in_err-body.ensures.reads (λ b. next (Loops (decision_of c.in_ok-decider.decider) b)))

pub repetition-returns-clause-reads : goal.repetition-returns-clause-reads
repetition-returns-clause-reads t c next =
    c.in_ok-decider.ensures.reads (λ d. StmtsTo kind.Od (λ b. next (Loops d b)))
    ∙ c.in_ok-body.ensures.reads (λ b. next (Loops (decision_of c.in_ok-decider.decider) b))
