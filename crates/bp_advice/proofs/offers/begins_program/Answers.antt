use Rattle.bp_advice.proofs.AllKinds.{front_of_program}
use Rattle.bp_advice.proofs.offers.begins_program.Goals as goal

pub returns : goal.returns
returns c =
    front_of_program c.args.text.now c.in-Err.error c.in-Err.ensures.answer c.is_memory.result c.is_memory.ensures
    c.if-is_memory.false c.has_one_refusal.ensures.one c.has_one_refusal.ensures.none c.is_early_end.result
    c.is_early_end.ensures
