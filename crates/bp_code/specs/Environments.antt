-- The environment for one of src/. Only private contracts name it.
use Rattle.bp_code.specs.declared.environments.Environment.{Environment}
use Rattle.bp_code.specs.CompiledCode as compiled

abbrev pub environment_of : Environment → compiled.Environment
environment_of e = compiled.environment_at e.globals.now e.headings.now e.proc.now e.layout.start
