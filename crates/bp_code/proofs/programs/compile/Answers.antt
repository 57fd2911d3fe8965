use Rattle.bp_code.proofs.Common.{rules}
use Rattle.bp_code.proofs.WellFormedIsCompilable.{well_formed_compiles}
use Rattle.bp_code.proofs.programs.compile.Goals as goal

pub compile_program-requires-clause-able : goal.compile_program-requires-clause-able
compile_program-requires-clause-able c = search (rules, well_formed_compiles)

pub compile_program-requires-clause-well_formed : goal.compile_program-requires-clause-well_formed
compile_program-requires-clause-well_formed c =
    rw (c.globals.ensures.value, c.procs.ensures.value, c.tree-tree.ensures.value) c.tree-tree.ensures.well_formed

pub compile_program-requires-clause-of_text : goal.compile_program-requires-clause-of_text
compile_program-requires-clause-of_text c =
    let of_text = rw c.tree-tree.ensures.value at c.globals.ensures.of_text in
    rw (c.globals.ensures.value, c.procs.ensures.value, c.tree-tree.ensures.value) of_text
