use Rattle.bp_code.proofs.Common.{sym, ◌∙◌, length, append-nil, Program, drop_item, dropped_all}
use Rattle.bp_code.proofs.WellFormedIsCompilable.{all_few, all_known}
use Rattle.bp_code.proofs.ListingLines.{names_of_headings}
use Rattle.bp_code.proofs.CompiledStandsFor.{flat_stands}
use Rattle.bp_code.proofs.programs.compile_program.Goals as goal

pub headings_of-requires-clause-few : goal.headings_of-requires-clause-few
headings_of-requires-clause-few c = all_few (record { globals = c.args.globals.now; procedures = c.args.procs.now }) c.args.procs.now c.requires.able.each

pub emit_proc-requires-clause-named : goal.emit_proc-requires-clause-named
emit_proc-requires-clause-named c =
    rw (c.as_slice-headings.ensures.value, c.in_ok-headings.ensures, c.in_ok-proc_names.ensures) (names_of_headings 0 c.args.procs.now)

pub emit_proc-requires-clause-known : goal.emit_proc-requires-clause-known
emit_proc-requires-clause-known c =
    let t : Program = record { globals = c.args.globals.now; procedures = c.args.procs.now } in
    let able = rw (drop_item c.args.procs.now c.loop-proc.proc-index c.proc-item.result c.loop-proc-test.true c.proc-item.is) at c.loop-proc.invariant.able in
    rw (c.as_slice-headings.ensures.value, c.in_ok-headings.ensures, c.in_ok-global_names.ensures)
    (all_known t c.requires.able.each c.proc-item.result (length c.loop-proc.instrs.items) c.proc-item.result.body
    able.0.names)

pub new-requires : goal.new-requires
new-requires c =
    let t : Program = record { globals = c.args.globals.now; procedures = c.args.procs.now } in
    let all = rw (dropped_all c.args.procs.now c.loop-proc.proc-index c.loop-proc-test.false) at c.loop-proc.invariant.code in
    let code = sym (append-nil c.loop-proc.instrs.items) ∙ all in
    rw (c.in_ok-headings.ensures, code, c.requires.parts)
    (record { well_formed = c.requires.well_formed; of_text = c.requires.of_text; stands = flat_stands t c.requires.able })
