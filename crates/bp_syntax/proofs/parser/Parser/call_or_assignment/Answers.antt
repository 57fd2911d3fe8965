use Rattle.bp_syntax.proofs.Common.{sym, statement_of, FormThen, CallThen, AssignThen, place_ahead}
use Rattle.bp_syntax.proofs.ResultAfterToken.{passed_on, call_comes, assign_comes}
use Rattle.bp_syntax.proofs.parser.Parser.call_or_assignment.Goals as goal

pub returns-then-at_second-clause-reads : goal.returns-then-at_second-clause-reads
returns-then-at_second-clause-reads c next =
    let old = c.args.self.now in
    let then = next (place_ahead old) in
    passed_on c.call.result (FormThen next) (CallThen then) old old c.call.new.self (λ f. then (statement_of f))
    (call_comes next old c.requires (sym c.if-at_second.ensures)) (c.call.ensures.reads then)

pub returns-else-at_second-clause-reads : goal.returns-else-at_second-clause-reads
returns-else-at_second-clause-reads c next =
    let old = c.args.self.now in
    let then = next (place_ahead old) in
    passed_on c.assignment.result (FormThen next) (AssignThen then) old old c.assignment.new.self (λ f. then (statement_of f))
    (assign_comes next old c.requires (sym c.if-at_second.ensures)) (c.assignment.ensures.reads then)
