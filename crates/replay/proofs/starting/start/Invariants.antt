use Rattle.replay.proofs.starting.start.Given as goal

-- what the sink has taken before
abbrev pub ghosts-run_gathering : goal.ghosts-run_gathering
ghosts-run_gathering g a = record { taken = g.K.Sink.taken a.sink }
