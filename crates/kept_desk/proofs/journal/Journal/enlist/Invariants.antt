use Rattle.kept_desk.proofs.journal.Journal.enlist.Given as goal

abbrev pub ghosts-enlist : goal.ghosts-enlist
ghosts-enlist g a = record { station = a.station }
