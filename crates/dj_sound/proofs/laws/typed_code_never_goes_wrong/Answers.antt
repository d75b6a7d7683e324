use Rattle.dj_sound.proofs.Runs.{never_wrong, read_never_wrong}
use Rattle.dj_sound.proofs.laws.typed_code_never_goes_wrong.Goals as goal

pub returns : goal.returns
returns c = record { never = never_wrong; read = read_never_wrong }
