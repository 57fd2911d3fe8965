use Rattle.bp_code.proofs.Common.{drop, IsLeft, procedure_lines, listing_text}
use Rattle.bp_code.proofs.listing.put_procedures.Given as goal

abbrev pub invariant-loop-n : goal.invariant-loop-n
invariant-loop-n g l =
    IsLeft g.W.Write.contents l.fn.sink l.sink (listing_text l.code) (procedure_lines l.code.instructions (drop l.n l.code.headings))
