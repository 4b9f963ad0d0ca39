use Rattle.lock_bench.proofs.race.raced.Given as goal

abbrev pub ghosts-race : goal.ghosts-race
ghosts-race g a = record { table = a.lock }
