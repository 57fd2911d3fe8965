use Rattle.bp_syntax.proofs.Common.{◌∙◌, [], ap, sym, FormalsThen, MoreDecls, ProcThen, StmtsTo, parse_result, procedure_of}
use Rattle.bp_syntax.specs.declared.tokens.TokenKind.TheVariants as kind
use Rattle.bp_syntax.proofs.ResultAfterToken.{at_exit}
use Rattle.bp_syntax.proofs.parser.Parser.procedure.Goals as goal

pub returns-in_err-formals-clause-reads : goal.returns-in_err-formals-clause-reads
returns-in_err-formals-clause-reads c next =
    at_exit _ c.in_err-formals.field-0.0 (ProcThen next) c.args.self.now c.formals.new.self _ _ c.from_residual-in_err-formals.ensures.1
    (c.in_ok-name.ensures.reads (λ n. FormalsThen (λ fs. MoreDecls [] (λ ls. StmtsTo kind.End (λ b. next (procedure_of n fs ls b))))))
    (c.in_err-formals.ensures.reads (λ fs. MoreDecls [] (λ ls. StmtsTo kind.End (λ b. next (procedure_of c.in_ok-name.name fs ls b)))))

pub returns-in_err-locals-clause-reads : goal.returns-in_err-locals-clause-reads
returns-in_err-locals-clause-reads c next =
    at_exit _ c.in_err-locals.field-0.0 (ProcThen next) c.args.self.now c.decls.new.self _ _ c.from_residual-in_err-locals.ensures.1
    (c.in_ok-name.ensures.reads
    (λ n. FormalsThen (λ fs. MoreDecls [] (λ ls. StmtsTo kind.End (λ b. next (procedure_of n fs ls b)))))
    ∙ c.in_ok-formals.ensures.reads
    (λ fs. MoreDecls [] (λ ls. StmtsTo kind.End (λ b. next (procedure_of c.in_ok-name.name fs ls b)))))
    (c.in_err-locals.ensures.reads (λ ls. StmtsTo kind.End (λ b. next (procedure_of c.in_ok-name.name c.in_ok-formals.formals ls b))))

pub returns-in_err-body-clause-reads : goal.returns-in_err-body-clause-reads
returns-in_err-body-clause-reads c next =
    at_exit _ c.in_err-body.field-0.0 (ProcThen next) c.args.self.now c.stmts_to.new.self _ _ c.from_residual-in_err-body.ensures.1
    (c.in_ok-name.ensures.reads
    (λ n. FormalsThen (λ fs. MoreDecls [] (λ ls. StmtsTo kind.End (λ b. next (procedure_of n fs ls b)))))
    ∙ c.in_ok-formals.ensures.reads
    (λ fs. MoreDecls [] (λ ls. StmtsTo kind.End (λ b. next (procedure_of c.in_ok-name.name fs ls b))))
    ∙ c.in_ok-locals.ensures.reads
    (λ ls. StmtsTo kind.End (λ b. next (procedure_of c.in_ok-name.name c.in_ok-formals.formals ls b))))
    (c.in_err-body.ensures.reads (λ b. next (procedure_of c.in_ok-name.name c.in_ok-formals.formals c.in_ok-locals.locals b)))

pub returns-clause-reads : goal.returns-clause-reads
returns-clause-reads c next =
    c.in_ok-name.ensures.reads
    (λ n. FormalsThen (λ fs. MoreDecls [] (λ ls. StmtsTo kind.End (λ b. next (procedure_of n fs ls b)))))
    ∙ c.in_ok-formals.ensures.reads
    (λ fs. MoreDecls [] (λ ls. StmtsTo kind.End (λ b. next (procedure_of c.in_ok-name.name fs ls b))))
    ∙ c.in_ok-locals.ensures.reads
    (λ ls. StmtsTo kind.End (λ b. next (procedure_of c.in_ok-name.name c.in_ok-formals.formals ls b)))
    ∙ c.in_ok-body.ensures.reads (λ b. next (procedure_of c.in_ok-name.name c.in_ok-formals.formals c.in_ok-locals.locals b))
    ∙ ap (λ p. parse_result (next p) c.stmts_to.new.self) (sym c.new.ensures)
