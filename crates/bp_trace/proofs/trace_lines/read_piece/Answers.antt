use Rattle.bp_trace.proofs.Common.{◌∙◌, sym, arith, rules, false≢true}
use Rattle.bp_trace.proofs.EndLineAt.{no_piece_of_last, no_piece, no_thread_no_piece, has_piece}
use Rattle.bp_trace.proofs.trace_lines.read_piece.Goals as goal
use Rattle.bp_trace.proofs.trace_lines.read_piece.Goals.{else-size-gt0-via-then-size-gt0+else-has_byte, else-size-gt0-via-else-size-gt0}

pub returns-then-eq : goal.returns-then-eq
returns-then-eq c = no_piece_of_last c.args.threads c.args.last c.args.text.now c.requires.few c.in-Some.thread c.in-Some.symbols.now c.in-Some.ensures (search rules)

pub returns-then-has_byte : goal.returns-then-has_byte
returns-then-has_byte c = search (rules, has_piece)

pub returns-else-size-gt0 : goal.returns-else-size-gt0
returns-else-size-gt0 c =
    let read = rw c.requires.empty at c.in_ok-size.ensures in
    no_piece c.args.threads c.args.last c.args.text.now c.requires.few c.in-Some.thread c.in-Some.symbols.now c.in-Some.ensures c.read_symbols.new.calls.items c.in_ok-size.size read
    (λ some ended. elim c.else-size-gt0.branch [
      | else-size-gt0-via-then-size-gt0+else-has_byte w ↦
          let has = w.has_byte.ensures in
          false≢true (sym w.if-has_byte.false ∙ has.1 ended)
      | else-size-gt0-via-else-size-gt0 w ↦ absurd (omega (arith, some, w.if-size-gt0.false))
    ])

pub returns-in_default : goal.returns-in_default
returns-in_default c = no_thread_no_piece c.args.threads c.args.last c.args.text.now c.requires.few c.in_default.ensures
