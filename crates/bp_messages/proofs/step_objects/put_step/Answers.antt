use Rattle.bp_messages.proofs.Common.{◌≡◌, Bool, List, Option, arith, codes, ℕ}
use Rattle.bp_confirm.specs.declared.confirmations.StepRefusal.{StepRefusal}
use Rattle.bp_messages.specs.ErrorObjects.{step_text}
use Rattle.bp_messages.specs.declared.error_table.Detail.{Detail}
use Rattle.bp_messages.specs.declared.error_table.Detail.TheVariants.{Step}
use Rattle.bp_messages.proofs.step_objects.put_step.Goals as goal

no_step : (d : Detail) (value : Option (List ℕ × Bool)) → ((r : StepRefusal) → d ≡ Step r → ⊥) → step_text d value ≡ codes ",\"step\":null"
no_step d value given1 = grind (arith)

pub returns-in_default : goal.returns-in_default
returns-in_default g c = rw (no_step c.args.detail _ c.in_default.not-Step) c.put.ensures
