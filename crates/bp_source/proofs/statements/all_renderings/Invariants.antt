use Rattle.bp_source.proofs.Common.{◌≡◌, map, take, rendering_of}
use Rattle.bp_source.proofs.statements.all_renderings.Given as goal

abbrev pub invariant-loop-statement : goal.invariant-loop-statement
invariant-loop-statement l =
    map (λ text. text.items) l.texts.items ≡ map (rendering_of l.rendering) (take l.statement-index l.statement-items)
