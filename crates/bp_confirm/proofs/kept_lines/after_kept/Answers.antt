use Rattle.bp_confirm.proofs.Common.{◌∙◌, ap, sym, option_copied, Decides-eqb, strip_prefix_is}
use Rattle.bp_confirm.proofs.LinesKept.{step_after}
use Rattle.bp_confirm.proofs.ValuesSeen.{got_item}
use Rattle.bp_confirm.proofs.kept_lines.after_kept.Goals as goal

pub returns-in-Some : goal.returns-in-Some
returns-in-Some c =
    let x = c.in-Some.line.now in
    step_after c.args.kept.now c.args.place x c.args.text.now c.strip_prefix.result c.requires
    (sym (got_item c.get.result c.args.kept.now c.args.place c.get.ensures.lookup.0 c.get.ensures.lookup.1) ∙ ap option_copied c.in-Some.is)
    (strip_prefix_is Decides-eqb c.args.text.now x.text.now c.strip_prefix.result c.strip_prefix.ensures.cases)
