use Rattle.bp_confirm.proofs.Common.{◌∙◌, ◌∷◌, [], length, length-append, ap, sym, subst, arith, rules, length-map, none_left, some_left, AreReadTo, all_read, bad_there, one_more_read, kept_lines, lines_at, AreWithin, step_line}
use Rattle.bp_confirm.proofs.LinesKept.{lines_grown, within_grown}
use Rattle.bp_confirm.proofs.ReadLines.{no_step_in_nothing, step_shorter}
use Rattle.bp_confirm.proofs.kept_lines.read_lines.Goals as goal

pub returns-in_default : goal.returns-in_default
returns-in_default c = search (rules, length-map, bad_there, some_left)

pub loop-rest-preserved : goal.loop-rest-preserved
loop-rest-preserved c =
    let old = c.loop-rest.kept.items in
    let new = c.read_line.new.kept.items in
    let ks = c.loop-rest.places.items in
    let k = c.in-Some.place in
    let more = c.in-Some.more.now in
    let inv = c.loop-rest.invariant in
    let there = rw c.in-Some.is at c.in_ok-read.ensures.read in
    let grows = c.in_ok-read.ensures.grown in
    let lines = lines_grown old new ks k grows inv.within there.within in
    let places = c.in_ok-add.ensures in
    let read = subst (λ xs. AreReadTo step_line c.args.text.now xs more) (sym lines) (one_more_read inv.read there.at) in
    record {
      kept = c.in_ok-read.ensures.each;
      few = let size = ap length grows.1 ∙ length-append old grows.0 in omega (arith, inv.few, size, grows.2, ap length places, length-append ks (k ∷ []));
      within = subst (AreWithin (kept_lines new)) (sym places) (within_grown old new ks k grows inv.within there.within);
      read = subst (λ zs. AreReadTo step_line c.args.text.now (lines_at (kept_lines new) zs) more) (sym places) read;
      less =
          let shorter = step_shorter there.at in
          omega (arith, shorter, ap length places, length-append ks (k ∷ []), inv.less);
    }

pub returns : goal.returns
returns c = search (rules, none_left, all_read, no_step_in_nothing, length-map)
