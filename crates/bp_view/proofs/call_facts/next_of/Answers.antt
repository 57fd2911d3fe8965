use Rattle.bp_view.proofs.Common.{stack_of}
use Rattle.bp_view.proofs.PlacedStacks.{next_of_top}
use Rattle.bp_view.proofs.call_facts.next_of.Goals as goal

pub returns-in_default-source_statement_of-clause-next : goal.returns-in_default-source_statement_of-clause-next
returns-in_default-source_statement_of-clause-next c = λ t text d i set is.
    let top = rw c.in-Some.is at is in
    absurd (rw c.in_default-source_statement_of.is at c.source_statement_of.ensures.is t text d (stack_of d i) set top)

pub returns-clause-next : goal.returns-clause-next
returns-clause-next c = λ t text d i set is.
    let top = rw c.in-Some.is at is in
    let shows = rw c.in-Some-source_statement_of.is at c.source_statement_of.ensures.is t text d (stack_of d i) set top in
    rw (c.as_slice.ensures.value, c.name_at.ensures, c.as_slice-2.ensures.value, set.procedures)
    (next_of_top t text d (stack_of d i) c.in-Some.top top c.in-Some-source_statement_of.statement.now shows)
