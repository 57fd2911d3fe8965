use Rattle.bp_source.proofs.Common.{◌≡◌, ◌∙◌, ap, slice_get, places_of}
use Rattle.bp_source.proofs.SourceStatementLists.{got_item, source_statement_at}
use Rattle.bp_source.proofs.names.procedure_at.Goals as goal

pub returns-in_default : goal.returns-in_default
returns-in_default c = λ t text x are procs at.
    let found = source_statement_at text t.procedures (places_of t.procedures) c.args.statements.now c.args.number x are at in
    let got = got_item c.get.result c.args.statements.now c.args.number c.get.ensures.lookup.0 c.get.ensures.lookup.1 in
    let none = rw c.in_default.is at got in
    let some = found.at in
    absurd cc

pub returns : goal.returns
returns c = λ t text x are procs at.
    let found = source_statement_at text t.procedures (places_of t.procedures) c.args.statements.now c.args.number x are at in
    let got = got_item c.get.result c.args.statements.now c.args.number c.get.ensures.lookup.0 c.get.ensures.lookup.1 in
    let statement = c.in-Some.statement.now in
    let here = rw c.in-Some.is at got in
    let there = found.at in
    let same : statement ≡ found.statement = cc in
    got_item c.get-2.result c.args.procs.now statement.procedure c.get-2.ensures.lookup.0 c.get-2.ensures.lookup.1
    ∙ ap (λ ps. slice_get ps statement.procedure) procs
    ∙ ap (λ s. slice_get t.procedures s.procedure) same
    ∙ found.is.procedure
