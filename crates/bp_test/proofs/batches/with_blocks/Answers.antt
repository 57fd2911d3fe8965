use Rattle.bp_test.proofs.Common.{◌≡◌, ◌∙◌, subst, sym, arith, IsBlock, IsTallied}
use Rattle.bp_test.proofs.FirstFound.{after_block, block_of_runs, none_of, some_of}
use Rattle.bp_test.proofs.batches.with_blocks.Given.{Over}
use Rattle.bp_test.proofs.batches.with_blocks.Goals.{In_ok-add, in-Some, in-None+in_ok-block-in-None, then-is_some-via-then-is_some, then-is_some-via-else-is_some+then-all-end}
use Rattle.bp_test.proofs.batches.with_blocks.Goals as goal

-- the block of this turn begins where those before it end
this_block : (g : Over) (c : In_ok-add g)
    → (c.match-take_block.block.from ≡ c.loop-all.all.end)
    × IsBlock c.args.code.now.tree c.args.setup.now c.args.plan.now c.args.batch.size c.args.batch.to c.match-take_block.block
this_block g c =
    let t = c.args.code.now.tree in
    let s = c.args.setup.now in
    let p = c.args.plan.now in
    let size = c.args.batch.size in
    let to = c.args.batch.to in
    let taken = c.take_block.ensures t s p size to c.loop-all.invariant.each in
    elim c.match-take_block.branch [
      | in-Some w ↦ rw w.block-is (rw w.in-Some.is at taken.0)
      | in-None+in_ok-block-in-None w ↦
          let made = w.in_ok-block-in-None.ensures in
          rw w.block-is (made.from, block_of_runs t s p size to _ _ c.end_of-end.ensures _ made.from made.end made.tallied)
    ]

-- and is added to them
added : (g : Over) (c : In_ok-add g)
    → IsTallied c.args.code.now.tree c.args.setup.now c.args.plan.now.with_deadlock c.args.plan.now.seed 0
    c.match-take_block.block.end c.match-take_block.block.found c.add.new.self
added g c =
    let t = c.args.code.now.tree in
    let s = c.args.setup.now in
    let p = c.args.plan.now in
    let block = c.match-take_block.block in
    let this = this_block g c in
    let low = this.1.end.0 in
    let from = this.0 in
    after_block t s p.with_deadlock p.seed c.loop-all.all.end block.end (omega (arith, low, from)) block.found _ _ _
    c.in_ok-add.ensures c.loop-all.invariant.tallied
    (subst (λ n. IsTallied t s p.with_deadlock p.seed n block.end block.found block.tally) from this.1.tallied)

pub returns-then-is_some-clause-end : goal.returns-then-is_some-clause-end
returns-then-is_some-clause-end g c =
    let this = this_block g (goal.at.returns-then-is_some-clause-end g c).In_ok-add in
    let from = this.0 in
    let low = this.1.end.0 in
    let high = this.1.end.1 in
    let inside = c.loop-all-test.true in
    let before = c.loop-all.invariant.low in (
      omega (arith, from, low, before),
      omega (arith, from, high, inside),
      (λ untimed none. let same = this.1.end.2 untimed none in elim c.then-is_some.branch [
        | then-is_some-via-then-is_some w ↦ absurd (some_of _ (sym c.is_some.ensures ∙ w.if-is_some.true) none)
        | then-is_some-via-else-is_some+then-all-end w ↦
            absurd (w.if-all-end.true (let end = c.end_of-end.ensures in omega (arith, same, from, end, inside)))
      ]),
      this.1.end.3,
    )

pub returns-then-is_some-clause-tallied : goal.returns-then-is_some-clause-tallied
returns-then-is_some-clause-tallied g c = added g (goal.at.returns-then-is_some-clause-tallied g c).In_ok-add

pub loop-all-preserved : goal.loop-all-preserved
loop-all-preserved g c =
    let d = (goal.at.loop-all-preserved g c).In_ok-add in
    let this = this_block g d in
    let from = this.0 in
    let low = this.1.end.0 in
    let high = this.1.end.1 in
    let inside = c.loop-all-test.true in
    let before = c.loop-all.invariant.low in
    let none = none_of _ (sym c.is_some.ensures ∙ c.if-is_some.false) in record {
      low = omega (arith, from, low, before);
      high = omega (arith, from, high, inside);
      none = none;
      tallied =
          let p = c.args.plan.now in
          subst (λ o. IsTallied c.args.code.now.tree c.args.setup.now p.with_deadlock p.seed 0 c.match-take_block.block.end o c.add.new.self)
          none (added g d);
      each =
          (c.take_block.ensures c.args.code.now.tree c.args.setup.now c.args.plan.now c.args.batch.size c.args.batch.to
          c.loop-all.invariant.each).1;
    }
