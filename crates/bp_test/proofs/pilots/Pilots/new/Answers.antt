use Rattle.bp_test.proofs.Common.{◌∙◌, rules}
use Rattle.bp_test.proofs.RunsOfTests.{fits_again, reseeded}
use Rattle.bp_test.proofs.pilots.Pilots.new.Goals as goal

pub run_once-requires : goal.run_once-requires
run_once-requires g c = search (rules, fits_again)

pub restart-requires : goal.restart-requires
restart-requires g c =
    let now = c.in_ok-run_once.ensures in
    let made = c.run_once.new.session in
    fits_again c.args.code.now made.code made.setup c.args.setup.now (now.code ∙ c.loop-pilot.invariant.code)
    (reseeded c.args.setup.now c.loop-pilot.session made _ c.loop-pilot.invariant.setup now.setup) c.requires

pub loop-pilot-preserved : goal.loop-pilot-preserved
loop-pilot-preserved g c =
    let now = c.in_ok-run_once.ensures in
    let made = c.run_once.new.session in
    let again = c.in_ok-restart.ensures in
    let counted = c.count_visible.ensures in
    let s = c.args.setup.now in
    record {
      code = counted.0 ∙ c.restart.ensures.code ∙ now.code ∙ c.loop-pilot.invariant.code;
      setup =
          reseeded s made c.count_visible.new.session _
          (reseeded s c.loop-pilot.session made _ c.loop-pilot.invariant.setup now.setup) (counted.1 ∙ again.setup);
    }

pub loop-pilot-preserved-then-is_cut_off : goal.loop-pilot-preserved-then-is_cut_off
loop-pilot-preserved-then-is_cut_off g c =
    let now = c.in_ok-run_once.ensures in
    record {
      code = now.code ∙ c.loop-pilot.invariant.code;
      setup = reseeded c.args.setup.now c.loop-pilot.session c.run_once.new.session _ c.loop-pilot.invariant.setup now.setup;
    }
