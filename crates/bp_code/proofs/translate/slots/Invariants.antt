use Rattle.bp_code.proofs.Common.{◌≡◌, take, drop, environment_of, EachName, HasSlot, slots_in}
use Rattle.bp_code.proofs.translate.slots.Given as goal

abbrev pub invariant-loop-name : goal.invariant-loop-name
invariant-loop-name l = record {
  done : l.items.items ≡ slots_in (environment_of l.environment) (take l.name-index l.name-items);
  left : EachName (HasSlot (environment_of l.environment)) (drop l.name-index l.name-items);
}
