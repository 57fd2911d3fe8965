use Rattle.bp_trace.proofs.Common.{None, Some, Decides-eqb}
use Rattle.std.proofs.lemmas.Slice.Eq.{strip_prefix_is}
use Rattle.bp_trace.proofs.EndLineAt.{one_more, one_missing}
use Rattle.bp_trace.proofs.end_lines.is_joined.Goals as goal

pub returns-in-None : goal.returns-in-None
returns-in-None c =
    let none = strip_prefix_is Decides-eqb c.loop-piece.rest.now _ None c.in-None.ensures.cases in (
      λ e. absurd (cc),
      λ whole.
          absurd (one_missing (λ p. p.now) c.args.pieces.now c.loop-piece.piece-index _ c.loop-piece-test.true
          c.args.text.now c.loop-piece.rest.now c.loop-piece.invariant none whole),
    )

pub loop-piece-preserved : goal.loop-piece-preserved
loop-piece-preserved c =
    let some = strip_prefix_is Decides-eqb c.loop-piece.rest.now _ (Some c.in-Some.after) c.in-Some.ensures.cases in
    one_more (λ p. p.now) c.args.pieces.now c.loop-piece.piece-index _ c.loop-piece-test.true c.args.text.now
    c.loop-piece.rest.now c.loop-piece.invariant c.in-Some.after.now some
