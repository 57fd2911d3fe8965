-- Blocks whose names have a meaning in an environment. Only private contracts name them.
use Rattle.std.specs.Prelude.{◌≤◌, List, IsSome, length}
use Rattle.bp_syntax.specs.Ast.{Name, Expression, Block, Statement}
use Rattle.bp_flat.specs.declared.limits.TheConstants.{SLOTS}
use Rattle.bp_code.specs.CompiledCode as slots
use Rattle.bp_code.specs.CompilablePrograms.{IsResolved, IsResolvedIn}
use Rattle.bp_code.specs.CompiledCode.{Environment, label_number}
use Rattle.bp_flat.specs.Flat.{heading_named}

module _ (environment : Environment) where
  abbrev pub HasSlot : Name → Type 0
  HasSlot x = slots.HasSlot environment.globals environment.procedure x

  abbrev pub HasLabel : Name → Type 0
  HasLabel x = IsSome (label_number environment.procedure.body environment.start x.text)

  abbrev pub HasHeading : Name → Type 0
  HasHeading x = IsSome (heading_named environment.headings x.text)

  abbrev pub HasHeadingFor : Name → List Expression → Type 0
  HasHeadingFor x arguments = HasHeading x × (length arguments ≤ SLOTS)

  abbrev pub IsKnown : Block → Type 0
  IsKnown block = IsResolved HasSlot HasLabel HasHeadingFor block

  abbrev pub IsKnownIn : Statement → Type 0
  IsKnownIn s = IsResolvedIn HasSlot HasLabel HasHeadingFor s
