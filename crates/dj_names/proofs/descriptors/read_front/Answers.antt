use Rattle.std.proofs.Common.{rules}
use Rattle.std.proofs.lemmas.Bool.{false≢true}
use Rattle.std.proofs.lemmas.Result.{err_from_is_err_and, IfErr-weaker}
use Rattle.dj_names.proofs.DescriptorLemmas.{method_stopped, field_stopped}
use Rattle.dj_names.proofs.descriptors.read_front.Goals as goal

pub returns-then-is_at-clause-stops : goal.returns-then-is_at-clause-stops
returns-then-is_at-clause-stops c =
    IfErr-weaker c.read_method.result _ _ (λ stop h. method_stopped stop c.args.unread.now c.next-open.new.self _ (search rules) h) c.read_method.ensures.stops

pub returns-in_err-read_type-clause-stops : goal.returns-in_err-read_type-clause-stops
returns-in_err-read_type-clause-stops c =
    let p = err_from_is_err_and c.from_residual.result c.from_residual.ensures.1 in
    rw (p.1, p.2) (field_stopped _ c.args.unread.now _ (λ rest is. false≢true (c.if-is_at.ensures.at_hand.1 (rest, is))) c.in_err-read_type.ensures.stops)
