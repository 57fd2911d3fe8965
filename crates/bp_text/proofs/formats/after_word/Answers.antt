use Rattle.bp_text.proofs.Common.{Decides-eqb}
use Rattle.std.proofs.lemmas.Slice.Eq.{strip_prefix_is}
use Rattle.bp_text.proofs.Readings.{finds_after}
use Rattle.bp_text.proofs.formats.after_word.Goals as goal

pub returns : goal.returns
returns c =
    finds_after c.args.own.now c.args.text.now c.strip_prefix.result
    (strip_prefix_is Decides-eqb c.args.text.now c.args.own.now c.strip_prefix.result c.strip_prefix.ensures.cases)
