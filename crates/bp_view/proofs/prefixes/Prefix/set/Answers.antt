use Rattle.bp_view.proofs.ShownLines.{parts_put}
use Rattle.bp_view.proofs.prefixes.Prefix.set.Goals as goal

pub invariant_of-self : goal.invariant_of-self
invariant_of-self c =
    let prefix = c.args.self.now in
    record {
      is = λ k same.
          parts_put k prefix.text.items prefix.mark prefix.digit c.args.mark c.args.digit prefix.last (prefix.is k same) (prefix.digit_is k same);
      digit_is = λ k same. prefix.digit_is k same;
    }
