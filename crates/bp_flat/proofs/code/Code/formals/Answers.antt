use Rattle.bp_flat.proofs.Common.{rules, ◌≡◌, ◌∙◌, option_map, Some, None, heading_named}
use Rattle.bp_flat.proofs.SlotsOfNames.{formals_of_procedure}
use Rattle.bp_flat.proofs.code.Code.formals.Goals as goal

pub returns-in-Some-clause-program : goal.returns-in-Some-clause-program
returns-in-Some-clause-program c =
    let found : Some c.formals.result ≡ option_map (λ h. h.formals) (heading_named c.args.self.now.headings c.args.name.now) = search rules in
    found ∙ formals_of_procedure c.args.self.now c.args.self.now.tree c.args.name.now c.is_of_a_program.ensures.stands

pub returns-in-None-clause-program : goal.returns-in-None-clause-program
returns-in-None-clause-program c =
    let missing : None ≡ option_map (λ h. h.formals) (heading_named c.args.self.now.headings c.args.name.now) = search rules in
    missing ∙ formals_of_procedure c.args.self.now c.args.self.now.tree c.args.name.now c.is_of_a_program.ensures.stands
