use Rattle.bp_commands.proofs.Common.{writer_contents, of_run, ExplainsText, AreReadOr, IsFileOfText, IsObjectIn, rest_of, text_alone, text_alone_of}
use Rattle.bp_commands.proofs.ConcludedReads.{finished_read}
use Rattle.bp_commands.proofs.runs.run_by_workers.Goals as goal

pub returns : goal.returns
returns g c =
    let program = c.run_program-done.new.program.reader in
    let path = c.args.path.now in
    let text = c.run_program-done.new.program.bytes.items in
    let left = rest_of (g.F.Files.bytes program.files.now program.path.now) g.F.Input.Read.remaining program.file in
    let inputs = text_alone (g.F.Files.bytes c.args.io.files.now path) left in
    let holds : AreReadOr inputs text c.run_program-done.result = rw (← c.source-program.ensures) c.run_program-done.ensures.holds in
    record {
      left = left;
      buffered = writer_contents g.W.Write.contents c.run_program-done.new.out;
      done = c.run_program-done.result;
      answers = rw (← c.source-program.ensures) c.run_program-done.ensures.answers;
      finished =
          finished_read inputs text (λ t. IsObjectIn (IsFileOfText path) (text_alone_of t) (ExplainsText path t)) (ExplainsText path)
          of_run c.args.io.format _ _ _ _ holds (rw c.deref.ensures.value at c.finish.ensures);
    }
