use Rattle.bp_commands.proofs.Common.{◌≡◌, None, writer_contents, of_report, AreReadOr, IsObjectIn, bundle_alone, text_alone_of}
use Rattle.bp_commands.proofs.ConcludedReads.{finished_read}
use Rattle.bp_commands.proofs.runs.run_on_bundle.Goals as goal

pub returns : goal.returns
returns g c =
    let bytes = c.drive_bundle-done.new.bundle.bytes.items in
    let left = g.R.Read.remaining c.drive_bundle-done.new.bundle.reader in
    let inputs = bundle_alone (g.R.Read.remaining c.args.reader) left in
    let holds : AreReadOr inputs bytes c.drive_bundle-done.result = rw (← c.new-bundle.ensures) c.drive_bundle-done.ensures.holds in
    record {
      left = left;
      buffered = writer_contents g.W.Write.contents c.drive_bundle-done.new.out;
      done = c.drive_bundle-done.result;
      answers = rw (← c.new-bundle.ensures) c.drive_bundle-done.ensures.answers;
      finished =
          finished_read inputs bytes (λ t. IsObjectIn (λ _ file. file ≡ None) (text_alone_of t) (λ _ _. ⊥)) (λ _ _ _. ⊥)
          of_report c.args.format _ _ _ _ holds (rw c.deref.ensures.value at c.finish.ensures);
    }
