use Rattle.bp_test.proofs.Common.{◌+◌, ◌%◌, ◌^◌, Some, ap, ◌∙◌, arith, rules, err_from_is_err_and, SetupOf}
use Rattle.bp_test.proofs.FirstFound.{as_asked, few_with, found_among_more, found_of_run, cut_run}
use Rattle.bp_test.proofs.tests.test.Goals as goal

pub returns-in_default : goal.returns-in_default
returns-in_default g c = search (rules, as_asked)

pub returns-in_err-write_trace : goal.returns-in_err-write_trace
returns-in_err-write_trace g c =
    let t = c.args.code.now.tree in
    let p = err_from_is_err_and c.from_residual-in_err-write_trace.result c.from_residual-in_err-write_trace.ensures.1 in
    let written = rw c.as_slice.ensures.value at c.in_err-write_trace.ensures in
    let setup =
    c.with_seed-setup.ensures
    ∙ ap {A = SetupOf} (λ y. record y { seed = Some ((c.args.options.now.seed + c.in-Some.found.run) % 2 ^ 64) })
    c.in_ok-try_copy.ensures in
    let found = c.in_ok-found.ensures in
    let first = as_asked t c.args.setup.now c.args.options.now _ _ c.in_ok-plan.ensures.seed _
    c.in_ok-plan.ensures.deadlock _ _ c.in-Some.is found.1.runs found.1.first in
    let high = found.0.1 in
    let within = found_among_more t c.args.setup.now c.args.options.now.with_deadlock c.args.options.now.seed 0 _
    c.args.options.now.runs (omega (arith, high)) c.in-Some.found found.1.runs first in
    rw (p.1, p.2) (cut_run t c.args.setup.now c.args.options.now c.in-Some.found found.1.runs within c.with_seed-setup.result setup
    (g.W.Write.contents c.args.out.now) (g.W.Write.contents c.write_trace.new.out) written)

pub returns : goal.returns
returns g c =
    let t = c.args.code.now.tree in
    let written = rw c.as_slice.ensures.value at c.in_ok-write_trace.ensures in
    let setup =
    c.with_seed-setup.ensures
    ∙ ap {A = SetupOf} (λ y. record y { seed = Some ((c.args.options.now.seed + c.in-Some.found.run) % 2 ^ 64) })
    c.in_ok-try_copy.ensures in
    let found = c.in_ok-found.ensures in
    let first = as_asked t c.args.setup.now c.args.options.now _ _ c.in_ok-plan.ensures.seed _
    c.in_ok-plan.ensures.deadlock _ _ c.in-Some.is found.1.runs found.1.first in
    let high = found.0.1 in
    let within = found_among_more t c.args.setup.now c.args.options.now.with_deadlock c.args.options.now.seed 0 _
    c.args.options.now.runs (omega (arith, high)) c.in-Some.found found.1.runs first in
    record {
      runs = found.1.runs;
      few =
          few_with t c.args.setup.now c.args.options.now.with_deadlock c.args.options.now.seed c.args.options.now.runs
          (omega arith) c.in-Some.found found.1.runs within;
      found = rw c.found_in.ensures (found_of_run t c.args.setup.now c.args.options.now c.in-Some.found found.1.runs within c.with_seed-setup.result setup
          (g.W.Write.contents c.args.out.now) (g.W.Write.contents c.write_trace.new.out) written);
      tallied = found.1.tallied;
    }
