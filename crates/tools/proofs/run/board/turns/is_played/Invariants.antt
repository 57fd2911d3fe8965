use Rattle.tools.proofs.run.board.turns.is_played.Given as goal

abbrev pub ghosts-is_played_at-C-Calls : goal.ghosts-is_played_at-C-Calls
ghosts-is_played_at-C-Calls g a = record { ring = a.board_parts.ring; code = a.code.now; setup = a.setup.now }

abbrev pub ghosts-is_played_at-C-Ledger : goal.ghosts-is_played_at-C-Ledger
ghosts-is_played_at-C-Ledger g a = record { name = a.board_parts.calls; parts = a.board_parts.threads }

abbrev pub ghosts-is_played_at-O-Ledger : goal.ghosts-is_played_at-O-Ledger
ghosts-is_played_at-O-Ledger g a = record { name = a.board_parts.live; parts = a.board_parts.threads }
