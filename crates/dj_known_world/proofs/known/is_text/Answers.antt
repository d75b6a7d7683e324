use Rattle.dj_known_world.proofs.Knowing.{same_text}
use Rattle.dj_known_world.proofs.known.is_text.Goals as goal

pub returns : goal.returns
returns c = record { text = same_text c.is_word.result c.args.units.now c.args.text.now c.is_word.ensures.word }
