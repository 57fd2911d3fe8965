use Rattle.tools.proofs.SeatsBack.{put_back}
use Rattle.tools.proofs.run.growths.boards.gathers.Goals as goal

pub gather-gathered-requires : goal.gather-gathered-requires
gather-gathered-requires g c = put_back _ _ _ _ _ _ c.in-Some.ensures.items c.in_ok-push.ensures.items c.in_ok-turn.ensures.answer.own c.requires
