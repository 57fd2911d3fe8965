use Rattle.bp_code.proofs.Common.{common_steps, ◌≡◌, ◌+◌, ap, arith, length, ◌∷◌, length-append, rules, set_at, on_ok_weaker, regrouped, decision_of, statement_of, depth, statement_depth, index_in, block_size, size, block_sizes, inner_sizes}
use Rattle.bp_code.proofs.BlockItems.{block_item, item_depth, sizes_length, inner_length, sizes_more, labels_more, labels_of_both}
use Rattle.bp_code.proofs.layout.+note.Goals as goal

pub note-overflow_cast-len : goal.note-overflow_cast-len
note-overflow_cast-len t c = search (rules, inner_length, length-append)

pub note-returns-clause-sizes : goal.note-returns-clause-sizes
note-returns-clause-sizes t c = search (rules, regrouped, length-append, inner_length, set_at)

pub record_block-note-requires : goal.record_block-note-requires
record_block-note-requires t c = search (rules, item_depth, block_item)

pub record_block-loop-stmt-preserved : goal.record_block-loop-stmt-preserved
record_block-loop-stmt-preserved t c =
    let stmts = c.args.stmts.now in
    let i = c.loop-stmt.stmt-index in
    let s = c.stmt-item.result in
    let old = c.loop-stmt.sizes.items in
    let statement = statement_of s.form in
    let more = ap block_size (block_item stmts i s c.loop-stmt-test.true c.stmt-item.is) in
    let noted = c.in_ok-note.ensures in
    let one = inner_length statement in
    let long = ap length noted.sizes in
    let counts = length-append old (size statement ∷ inner_sizes statement) in
    let so_far = c.loop-stmt.invariant.room in
    let moved : c.args.start + length c.note.new.sizes.items ≡ c.args.start + length old + size statement = omega arith in
    record {
      room = omega arith;
      sizes = sizes_more stmts i s c.loop-stmt-test.true c.stmt-item.is old c.note.new.sizes.items _ noted.sizes c.loop-stmt.invariant.sizes;
      labels = λ x. labels_more stmts i s c.loop-stmt-test.true c.stmt-item.is x (c.args.start + length old) (c.args.start + length c.note.new.sizes.items)
          (index_in c.loop-stmt.labels x) (index_in c.note.new.labels x) _ (noted.labels x) moved (c.loop-stmt.invariant.labels x);
    }

pub record_inside-record_block-requires : goal.record_inside-record_block-requires
record_inside-record_block-requires t c =
    let deep = ap (λ f. statement_depth (statement_of f)) c.in-If.is in
    let many = ap (λ f. size (statement_of f)) c.in-If.is in
    let part = ap depth c.as_slice.ensures in
    let few = ap block_size c.as_slice.ensures in
    let room = c.requires in
    (omega arith, omega arith)

pub record_inside-record_block-requires-in-If : goal.record_inside-record_block-requires-in-If
record_inside-record_block-requires-in-If t c = search (rules, length-append, sizes_length)

pub record_inside-record_block-requires-in-While : goal.record_inside-record_block-requires-in-While
record_inside-record_block-requires-in-While t c =
    let deep = ap (λ f. statement_depth (statement_of f)) c.in-While.is in
    let many = ap (λ f. size (statement_of f)) c.in-While.is in
    let part = ap depth c.as_slice-in-While.ensures in
    let few = ap block_size c.as_slice-in-While.ensures in
    let room = c.requires in
    (omega arith, omega arith)

pub record_inside-returns-in_ok-record_block-in-If-clause-labels :
    goal.record_inside-returns-in_ok-record_block-in-If-clause-labels
record_inside-returns-in_ok-record_block-in-If-clause-labels t c =
    let noted = rw c.as_slice.ensures at c.in_ok-record_block-in-If.ensures in
    let others = rw c.as_slice-in-If.ensures at c.record_block-in-If.ensures.labels in
    let long = ap length noted.sizes in
    let counts = length-append c.args.sizes.now.items (block_sizes c.in-If.a) in
    let one = sizes_length c.in-If.a in
    on_ok_weaker c.record_block-in-If.result (λ labels number x e.
    let second : number + 1 + block_size c.in-If.a ≡ c.args.start + length c.record_block.new.sizes.items = omega arith in
    rw c.in-If.is
    (labels_of_both (decision_of c.in-If.field-0) c.in-If.a c.in-If.b x number _ _ (index_in c.args.labels.now x)
    (index_in c.record_block.new.labels x) (index_in c.record_block-in-If.new.labels x)
    e second (noted.labels x) (labels x))) others

pub note-returns-clause-labels : goal.note-returns-clause-labels
note-returns-clause-labels t c = search rules

pub note-index_mut-requires : goal.note-index_mut-requires
note-index_mut-requires t c = grind (arith, common_steps)

pub note-overflow_sub-len : goal.note-overflow_sub-len
note-overflow_sub-len t c = grind (arith, common_steps)

pub record_block-returns : goal.record_block-returns
record_block-returns t c = grind (arith, common_steps)
