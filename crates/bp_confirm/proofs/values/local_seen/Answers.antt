use Rattle.bp_confirm.proofs.Common.{◌∙◌, ap, rules}
use Rattle.bp_confirm.proofs.ValuesSeen.{got_item, none_numbered, none_missing, locals_found}
use Rattle.bp_confirm.proofs.values.local_seen.Goals as goal

pub returns-in_default-procedure_of : goal.returns-in_default-procedure_of
returns-in_default-procedure_of c = search (rules, none_numbered)

pub returns-in_default-get : goal.returns-in_default-get
returns-in_default-get c = λ text k i are is.
    let t = c.args.checked.now in
    let procs_are = c.procs.ensures.value ∙ ap (λ x. x.procedures) c.tree.ensures.value in
    let found = got_item c.get.result c.procs.result.now c.in-Some-procedure_of.procedure c.get.ensures.lookup.0 c.get.ensures.lookup.1 in
    absurd (none_missing text t c.args.points.now c.args.top c.in-Some.top c.in-Some.is k i are is
    c.procedure_of.result c.procedure_of.ensures c.in-Some-procedure_of.procedure c.in-Some-procedure_of.is
    c.procs.result.now procs_are c.get.result found c.in_default-get.is)

pub returns : goal.returns
returns c = λ text k i are is.
    let t = c.args.checked.now in
    let procs_are = c.procs.ensures.value ∙ ap (λ x. x.procedures) c.tree.ensures.value in
    let found = got_item c.get.result c.procs.result.now c.in-Some-procedure_of.procedure c.get.ensures.lookup.0 c.get.ensures.lookup.1 in
    c.own_value.ensures
    ∙ locals_found text t c.args.points.now c.args.top c.in-Some.top c.in-Some.is k i are is
    c.procedure_of.result c.procedure_of.ensures c.in-Some-procedure_of.procedure c.in-Some-procedure_of.is
    c.procs.result.now procs_are c.get.result found c.in-Some-get.proc c.args.name.now c.in-Some-get.is
