use Rattle.dj_member_nodes.proofs.Suited.{suited-operands-fit}
use Rattle.dj_member_nodes.proofs.laws.suited_operands_fit.Goals as goal

pub returns : goal.returns
returns c = record { fit = suited-operands-fit }
