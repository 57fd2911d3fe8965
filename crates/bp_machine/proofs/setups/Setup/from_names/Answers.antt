use Rattle.bp_machine.proofs.Common.{sym, ◌∙◌, map, arith, rules, setup_of}
use Rattle.bp_machine.proofs.SetupInRange.{names_found, fits, range_of, error_refuses}
use Rattle.bp_machine.proofs.setups.Setup.from_names.Goals as goal

pub returns-in-Some-clause-answer : goal.returns-in-Some-clause-answer
returns-in-Some-clause-answer c = search (rules, error_refuses)

pub own_names-requires : goal.own_names-requires
own_names-requires c = search (rules, names_found, fits)

pub overflow_cast-contexts : goal.overflow_cast-contexts
overflow_cast-contexts c =
    let given = setup_of (map (λ n. n.now) c.args.entries.now) c.args.init.now c.args.contexts c.args.calls c.args.seed in
    let range = range_of c.args.code.now.tree given (sym c.error_of_named.ensures ∙ c.in_default.is) c.is_of_a_program.ensures.well_formed in
    omega (arith, range.contexts)

pub overflow_cast-calls : goal.overflow_cast-calls
overflow_cast-calls c =
    let given = setup_of (map (λ n. n.now) c.args.entries.now) c.args.init.now c.args.contexts c.args.calls c.args.seed in
    let range = range_of c.args.code.now.tree given (sym c.error_of_named.ensures ∙ c.in_default.is) c.is_of_a_program.ensures.well_formed in
    omega (arith, range.calls)

pub of_parts-requires : goal.of_parts-requires
of_parts-requires c =
    let given = setup_of (map (λ n. n.now) c.args.entries.now) c.args.init.now c.args.contexts c.args.calls c.args.seed in
    let range = range_of c.args.code.now.tree given (sym c.error_of_named.ensures ∙ c.in_default.is) c.is_of_a_program.ensures.well_formed in
    rw (sym c.in_ok-names.ensures, sym c.in_ok-bits.ensures.items) at range
