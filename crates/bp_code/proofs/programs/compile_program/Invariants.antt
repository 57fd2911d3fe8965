use Rattle.bp_code.proofs.Common.{◌≡◌, ◌+◌, ◌++◌, length, drop, AllCompilableIn, procedures_size, headings_from, procedures_code}
use Rattle.bp_code.proofs.programs.compile_program.Given as goal

abbrev pub invariant-loop-proc : goal.invariant-loop-proc
invariant-loop-proc l =
    let headings = headings_from 0 l.procs in
    record {
      size : length l.instrs.items + procedures_size (drop l.proc-index l.procs) ≡ procedures_size l.procs;
      able : AllCompilableIn (record { globals = l.globals; procedures = l.procs }) (drop l.proc-index l.procs);
      code : l.instrs.items ++ procedures_code l.globals headings (length l.instrs.items) (drop l.proc-index l.procs)
          ≡ procedures_code l.globals headings 0 l.procs;
    }
