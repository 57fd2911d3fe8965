use Rattle.bp_syntax.proofs.Common.{sym, ap, arith, reserved_word}
use Rattle.std.specs.Prelude.{codes}
use Rattle.std.proofs.lemmas.Slice.Eq.{text_from_reads}
use Rattle.bp_syntax.proofs.tokens.reserved_word.Goals as goal

pub returns-in-return : goal.returns-in-return
returns-in-return c = sym (ap reserved_word (text_from_reads c.args.text.now (codes "return") (omega arith) (omega arith, (omega arith, (omega arith, (omega arith, (omega arith, (omega arith, tt))))))))

pub returns-in-assert : goal.returns-in-assert
returns-in-assert c = sym (ap reserved_word (text_from_reads c.args.text.now (codes "assert") (omega arith) (omega arith, (omega arith, (omega arith, (omega arith, (omega arith, (omega arith, tt))))))))

pub returns-in-assume : goal.returns-in-assume
returns-in-assume c = sym (ap reserved_word (text_from_reads c.args.text.now (codes "assume") (omega arith) (omega arith, (omega arith, (omega arith, (omega arith, (omega arith, (omega arith, tt))))))))
