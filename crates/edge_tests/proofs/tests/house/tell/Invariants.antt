use Rattle.edge_tests.proofs.tests.house.tell.Given as goal

-- the ledger is that of the blank
abbrev pub ghosts-tell_in : goal.ghosts-tell_in
ghosts-tell_in g a = record { name = a.blank.name; parts = a.blank.parts }
