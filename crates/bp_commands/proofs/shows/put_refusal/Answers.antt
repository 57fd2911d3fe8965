use Rattle.bp_commands.proofs.shows.put_refusal.Goals as goal

pub returns-in-Columns : goal.returns-in-Columns
returns-in-Columns g c = rw c.in-Columns.is c.put_pieces.ensures

pub returns-in-Json : goal.returns-in-Json
returns-in-Json g c = rw c.in-Json.is c.put_pieces-in-Json.ensures
