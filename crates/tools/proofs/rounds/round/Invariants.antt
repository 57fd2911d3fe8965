use Rattle.tools.proofs.rounds.round.Given as goal

abbrev pub ghosts-round_at-C-Calls : goal.ghosts-round_at-C-Calls
ghosts-round_at-C-Calls g a = record { ring = a.board_parts.ring; code = a.code.now; setup = a.setup.now }

abbrev pub ghosts-round_at-C-Ledger : goal.ghosts-round_at-C-Ledger
ghosts-round_at-C-Ledger g a = record { name = a.board_parts.calls; parts = a.board_parts.threads }

abbrev pub ghosts-round_at-O-Ledger : goal.ghosts-round_at-O-Ledger
ghosts-round_at-O-Ledger g a = record { name = a.board_parts.live; parts = a.board_parts.threads }
