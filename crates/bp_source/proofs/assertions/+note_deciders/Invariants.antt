use Rattle.bp_source.proofs.Common.{◌≡◌, ◌+◌, ◌*◌, ◌++◌, drop, map, block_of, statement_of, depth, statement_depth, block_decisions, reading_of}
use Rattle.bp_source.proofs.assertions.+note_deciders.Given as goal

abbrev pub invariant-record_block-loop-stmt : goal.invariant-record_block-loop-stmt
invariant-record_block-loop-stmt l =
    map reading_of l.deciders.items ++ block_decisions (block_of (drop l.stmt-index l.stmts))
    ≡ map reading_of l.fn.deciders.items ++ block_decisions (block_of l.stmts)

abbrev pub decreases-record_block : goal.decreases-record_block
decreases-record_block l = 2 * depth (block_of l.stmts.now) + 1

abbrev pub decreases-record_inside : goal.decreases-record_inside
decreases-record_inside l = 2 * statement_depth (statement_of l.form.now)
