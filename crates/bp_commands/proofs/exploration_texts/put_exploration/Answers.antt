use Rattle.bp_commands.proofs.Common.{if◌then◌else◌, subst, sym, Writes, and_then, written_at_end}
use Rattle.bp_commands.specs.ExplorationTexts.{exploration_lines, exploration_object}
use Rattle.bp_commands.proofs.exploration_texts.put_exploration.Goals as goal

pub returns-then-x : goal.returns-then-x
returns-then-x g c = rw c.if-x.true (written_at_end _ _ _ _ _ _ c.out-1.given c.new-sink.ensures c.put_object.ensures c.finish.ensures)

pub returns : goal.returns
returns g c =
    let x = c.args.x.now in
    let old = g.W.Write.contents c.args.out.now in
    let new = g.W.Write.contents c.out-2-1.given.0 in
    subst (λ json. Writes old new (if json then exploration_object x else exploration_lines x) c.finish-2.result) (sym c.if-x.false)
    (written_at_end _ _ _ _ _ _ c.out-2-1.given c.new-sink.ensures (and_then c.put_ending.ensures c.put_cut.ensures) c.finish-2.ensures)
