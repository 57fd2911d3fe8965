use Rattle.bp_view.proofs.Common.{◌≡◌, take, calls_of_thread, last_reply}
use Rattle.bp_view.proofs.state_facts.last_reply.Given as goal

abbrev pub invariant-loop-call : goal.invariant-loop-call
invariant-loop-call l = l.last ≡ last_reply (calls_of_thread l.thread (take l.call-index l.history))
