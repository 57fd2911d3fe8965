use Rattle.tools.proofs.run.growths.boards.makes_calls.Given as goal

abbrev pub ghosts-at_a_desk-C-Calls : goal.ghosts-at_a_desk-C-Calls
ghosts-at_a_desk-C-Calls g a = record { ring = a.board_parts.ring; code = a.code.now; setup = a.setup.now }

abbrev pub ghosts-at_a_desk-C-Ledger : goal.ghosts-at_a_desk-C-Ledger
ghosts-at_a_desk-C-Ledger g a = record { name = a.board_parts.calls; parts = a.board_parts.threads }

abbrev pub ghosts-at_a_desk-O-Ledger : goal.ghosts-at_a_desk-O-Ledger
ghosts-at_a_desk-O-Ledger g a = record { name = a.board_parts.live; parts = a.board_parts.threads }

abbrev pub ghosts-at_a_board-C-Calls : goal.ghosts-at_a_board-C-Calls
ghosts-at_a_board-C-Calls g a = record { ring = a.board_parts.ring; code = a.code.now; setup = a.setup.now }

abbrev pub ghosts-at_a_board-C-Ledger : goal.ghosts-at_a_board-C-Ledger
ghosts-at_a_board-C-Ledger g a = record { name = a.board_parts.calls; parts = a.board_parts.threads }

abbrev pub ghosts-at_a_board-O-Ledger : goal.ghosts-at_a_board-O-Ledger
ghosts-at_a_board-O-Ledger g a = record { name = a.board_parts.live; parts = a.board_parts.threads }
