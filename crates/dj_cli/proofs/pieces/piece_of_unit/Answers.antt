use Rattle.std.proofs.Common.{refl}
use Rattle.dj_cli.proofs.pieces.piece_of_unit.Goals as goal

pub returns : goal.returns
returns c = record { piece = rw (c.in_ok-line.ensures.line, c.in_ok-unit.ensures.text) refl }
