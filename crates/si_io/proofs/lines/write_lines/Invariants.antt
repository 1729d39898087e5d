-- The sink keeps its name, and starts from what it shows now.
use Rattle.si_io.proofs.lines.write_lines.Given as goal

abbrev pub ghosts-put_over : goal.ghosts-put_over
ghosts-put_over g a = record { name = a.sink.ghost_name; shown = g.K.Sink.shown a.sink.now }
