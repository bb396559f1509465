use Rattle.lambda_broker.proofs.serving.serve_hall.Given as goal

-- the ledger is that of the blank
abbrev pub ghosts-serve_by : goal.ghosts-serve_by
ghosts-serve_by g a = record { name = a.blank.name; parts = a.blank.parts }
