use Rattle.tools.proofs.run.growths.boards.opens.Given as goal

abbrev pub ghosts-is_opened-C-Calls : goal.ghosts-is_opened-C-Calls
ghosts-is_opened-C-Calls a = record { ring = a.board_parts.ring; code = a.code.now; setup = a.setup.now }

abbrev pub ghosts-is_opened-C-Ledger : goal.ghosts-is_opened-C-Ledger
ghosts-is_opened-C-Ledger a = record { name = a.board_parts.calls; parts = a.board_parts.threads }

abbrev pub ghosts-is_opened-O-Ledger : goal.ghosts-is_opened-O-Ledger
ghosts-is_opened-O-Ledger a = record { name = a.board_parts.live; parts = a.board_parts.threads }
