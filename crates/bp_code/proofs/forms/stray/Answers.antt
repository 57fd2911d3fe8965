use Rattle.bp_code.proofs.Common.{Among, SomeUses}
use Rattle.bp_code.proofs.RepeatedNames.{both_stray}
use Rattle.bp_code.proofs.forms.stray.Goals as goal

pub returns-in-Assign : goal.returns-in-Assign
returns-in-Assign c =
    rw (c.in-Assign.is, c.least.ensures) (both_stray c.args.declared.now (Among c.in-Assign.targets)
    (SomeUses c.in-Assign.values) _ _ (rw c.as_slice.ensures at c.stray_names-found.ensures)
    (rw c.as_slice-in-Assign.ensures at c.stray_in_all.ensures))

pub returns-in-If : goal.returns-in-If
returns-in-If c = rw c.in-If.is c.stray_in_decider.ensures

pub returns-in-While : goal.returns-in-While
returns-in-While c = rw c.in-While.is c.stray_in_decider-in-While.ensures

pub returns-in-Assert : goal.returns-in-Assert
returns-in-Assert c = rw c.in-Assert.is c.stray_in_decider-in-Assert.ensures

pub returns-in-Assume : goal.returns-in-Assume
returns-in-Assume c = rw c.in-Assume.is c.stray_in_decider-in-Assume.ensures

pub returns-in-Print : goal.returns-in-Print
returns-in-Print c = rw (c.in-Print.is, ← c.as_slice-in-Print.ensures) c.stray_in_all-in-Print.ensures

pub returns-in-Call : goal.returns-in-Call
returns-in-Call c = rw (c.in-Call.is, ← c.as_slice-in-Call.ensures) c.stray_in_all-in-Call.ensures
