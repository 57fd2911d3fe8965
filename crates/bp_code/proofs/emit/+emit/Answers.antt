use Rattle.bp_code.proofs.Common.{common_steps, ◌≡◌, ◌+◌, ap, subst, arith, length, drop, rules, block_of, statement_of, environment_of, block_size, size, block_sizes, AreSizesOf}
use Rattle.bp_code.proofs.BlockItems.{block_item, item_depth, code_more, inside, behind, second_part}
use Rattle.bp_code.proofs.emit.+emit.Goals as goal

pub emit_block-size_at-requires : goal.emit_block-size_at-requires
emit_block-size_at-requires t c = search (rules, block_item)

pub emit_block-overflow_add-after : goal.emit_block-overflow_add-after
emit_block-overflow_add-after t c =
    let split = block_item c.args.stmts.now c.loop-i.i c.index-stmts-i.result c.loop-i-test.true c.index-stmts-i.is in
    let more = ap block_size split in
    let number : c.len-number.result ≡ length c.loop-i.out.items = rw c.len-number.ensures (let ok = c.loop-i.out.ok in omega arith) in
    let sizes = rw number at c.size_at.ensures in
    let is = sizes _ _ (rw split at c.loop-i.invariant.placed) in
    let so_far = c.loop-i.invariant.room in
    let room = c.requires.room in
    omega arith

pub emit_block-emit-requires : goal.emit_block-emit-requires
emit_block-emit-requires t c = search (rules, item_depth, block_item, inside)

pub emit_block-loop-i-preserved : goal.emit_block-loop-i-preserved
emit_block-loop-i-preserved t c =
    let stmts = c.args.stmts.now in
    let item = c.index-stmts-i in
    let s = statement_of item.result.form in
    let split = block_item stmts c.loop-i.i item.result c.loop-i-test.true item.is in
    let more = ap block_size split in
    let known = rw split at c.loop-i.invariant.known in
    let placed = rw split at c.loop-i.invariant.placed in
    let so_far = c.loop-i.invariant.room in
    let one = rw c.form.ensures at c.in_ok-emit.ensures.grown in
    let code = rw c.form.ensures at c.in_ok-emit.ensures.code in
    let number : c.len-number.result ≡ length c.loop-i.out.items = rw c.len-number.ensures (let ok = c.loop-i.out.ok in omega arith) in
    let sizes = rw number at c.size_at.ensures in
    let is = sizes _ _ placed in
    let after : c.len-number.result + c.size_at.result ≡ length c.loop-i.out.items + size s = omega arith in
    let follows = rw after at c.following-follows.ensures in
    let rest = block_sizes (block_of (drop (c.loop-i.i + 1) stmts)) in
    let moved : length c.loop-i.out.items + size s ≡ length c.emit.new.out.items = omega arith in
    record {
      room = omega arith;
      known = known.1;
      placed = subst (λ n. AreSizesOf c.args.environment.now.layout n rest) moved (behind _ _ (length c.loop-i.out.items) (size s) s rest placed);
      code =
          code_more (environment_of c.args.environment.now) stmts c.loop-i.i item.result _ _ _
          (length c.loop-i.out.items) (length c.emit.new.out.items) c.following-follows.result c.args.next
          c.loop-i-test.true item.is follows code one c.loop-i.invariant.code;
    }

pub emit_if-emit_block-requires-2 : goal.emit_if-emit_block-requires-2
emit_if-emit_block-requires-2 t c = search (rules, second_part)

pub emit-new-requires : goal.emit-new-requires
emit-new-requires t c = grind (arith, common_steps)

pub emit_block-returns : goal.emit_block-returns
emit_block-returns t c = grind (arith, common_steps)

pub emit_if-emit_block-requires : goal.emit_if-emit_block-requires
emit_if-emit_block-requires t c = grind (arith, common_steps)

pub emit_if-returns : goal.emit_if-returns
emit_if-returns t c = grind (arith, common_steps)

pub emit_if-size_of_block-requires : goal.emit_if-size_of_block-requires
emit_if-size_of_block-requires t c = grind (arith, common_steps)

pub emit_while-returns : goal.emit_while-returns
emit_while-returns t c = grind (arith, common_steps)
