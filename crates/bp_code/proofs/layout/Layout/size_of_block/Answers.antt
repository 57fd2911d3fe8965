use Rattle.bp_code.proofs.Common.{◌≡◌, ◌+◌, ap, subst, arith, drop, add-zero, rules, block_of, statement_of, block_size, size, block_sizes, AreSizesOf}
use Rattle.bp_code.proofs.BlockItems.{block_item, behind}
use Rattle.bp_code.proofs.layout.Layout.size_of_block.Goals as goal

pub loop-stmt-init : goal.loop-stmt-init
loop-stmt-init c = search (rules, add-zero)

pub overflow_add-number : goal.overflow_add-number
overflow_add-number c =
    let so_far = c.loop-stmt.invariant.total in
    let room = c.requires.room in
    omega arith

pub size_at-total-requires : goal.size_at-total-requires
size_at-total-requires c = search (rules, block_item)

pub overflow_add-total : goal.overflow_add-total
overflow_add-total c =
    let split = block_item c.args.stmts.now c.loop-stmt._stmt-index c._stmt-item.result c.loop-stmt-test.true c._stmt-item.is in
    let more = ap block_size split in
    let is = c.size_at-total.ensures _ _ (rw split at c.loop-stmt.invariant.placed) in
    let so_far = c.loop-stmt.invariant.total in
    let room = c.requires.room in
    omega arith

pub loop-stmt-preserved : goal.loop-stmt-preserved
loop-stmt-preserved c =
    let split = block_item c.args.stmts.now c.loop-stmt._stmt-index c._stmt-item.result c.loop-stmt-test.true c._stmt-item.is in
    let statement = statement_of c._stmt-item.result.form in
    let more = ap block_size split in
    let placed = rw split at c.loop-stmt.invariant.placed in
    let is = c.size_at-total.ensures _ _ placed in
    let so_far = c.loop-stmt.invariant.total in
    let next = block_sizes (block_of (drop (c.loop-stmt._stmt-index + 1) c.args.stmts.now)) in
    let moved : c.args.number + c.loop-stmt.total + size statement ≡ c.args.number + (c.loop-stmt.total + c.size_at-total.result) = omega arith in
    record {
      total = omega arith;
      placed =
          subst (λ n. AreSizesOf c.args.self.now n next) moved
          (behind c.args.self.now.sizes.items c.args.self.now.start (c.args.number + c.loop-stmt.total)
          (size statement) statement next placed);
    }
