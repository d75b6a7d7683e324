use Rattle.dj_meaning.proofs.Preserved.{preserves-self, preserves-on, body-preserves-self, body-preserves-on, keeps-self, keeps-on}
use Rattle.dj_meaning.proofs.laws.rewrites_follow_one_another.Goals as goal

pub returns : goal.returns
returns c = record { itself = preserves-self; in_turn = preserves-on; body_itself = body-preserves-self; bodies_in_turn = body-preserves-on; kept = keeps-self; kept_in_turn = keeps-on }
