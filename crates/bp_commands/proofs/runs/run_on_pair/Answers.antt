use Rattle.bp_commands.proofs.Common.{ℕ, List, Option, writer_contents, ExplainsPair, AreReadOr, IsFileOfPair, IsObjectIn, rest_of, limit_of, pair_of_files, Pair}
use Rattle.bp_commands.proofs.ConcludedReads.{finished_read}
use Rattle.bp_commands.proofs.runs.run_on_pair.Goals as goal

pub returns : goal.returns
returns g c =
    let program = c.do_on_pair-done.new.program.reader in
    let input = c.do_on_pair-done.new.input.reader in
    let path = c.args.path.now in
    let input_path = c.args.input_path.now in
    let left : Option (List ℕ) × Option (List ℕ) = (
      rest_of (g.F.Files.bytes program.files.now program.path.now) g.F.Input.Read.remaining program.file,
      rest_of (g.F.Files.bytes input.files.now input.path.now) g.F.Input.Read.remaining input.file,
    ) in
    let given : Pair = record { text = c.do_on_pair-done.new.program.bytes.items; input = c.do_on_pair-done.new.input.bytes.items } in
    let kind = g.C.PairCommand.second_input c.args.command.now in
    let inputs = pair_of_files (limit_of kind) (g.F.Files.bytes c.args.io.files.now path)
    (g.F.Files.bytes c.args.io.files.now input_path) left in
    let holds : AreReadOr inputs given c.do_on_pair-done.result = rw (← c.source-program.ensures, ← c.source-input.ensures) c.do_on_pair-done.ensures.holds in
    record {
      left = left;
      buffered = writer_contents g.W.Write.contents c.do_on_pair-done.new.out;
      done = c.do_on_pair-done.result;
      answers = rw (← c.source-program.ensures, ← c.source-input.ensures) c.do_on_pair-done.ensures.answers;
      finished =
          finished_read inputs given
          (λ (x : Pair). IsObjectIn (IsFileOfPair kind path input_path) x (ExplainsPair kind path input_path x)) (ExplainsPair kind path input_path)
          g.C.Answer.CommandAnswer.rule c.args.io.format _ _ _ _ holds
          (rw (c.second_input.ensures, c.deref.ensures.value, c.deref-2.ensures.value) at c.finish.ensures);
    }
