use Rattle.dj_class.specs.Views.{view_class, view_method}
use Rattle.dj_signatures.specs.Signatures.{BreaksSignature}
use Rattle.dj_causes.proofs.ClassCauseLemmas.{fails}
use Rattle.dj_causes.proofs.BareCauseLemmas.{least_name, least_signature, none_of_method, none_unsaid}
use Rattle.dj_causes.proofs.bare.BareTable.cause.Goals as goal

pub returns-in-Some-clause-first : goal.returns-in-Some-clause-first
returns-in-Some-clause-first c = least_name c.args.world.now (view_class c.args.class.now) c.args.at (view_method c.method_at-method.result.now) c.method_at-method.ensures.there c.in-Some.name (rw c.in-Some.is at c.in_ok-name.ensures.least)

pub returns-then-breaks_signature-clause-first : goal.returns-then-breaks_signature-clause-first
returns-then-breaks_signature-clause-first c =
    least_signature c.args.world.now (view_class c.args.class.now) c.args.at (view_method c.method_at-method.result.now) c.method_at-method.ensures.there (rw c.in_default.is at c.in_ok-name.ensures.least) (c.breaks_signature.ensures.breaks.0 c.if-breaks_signature.true)

pub returns-clause-first : goal.returns-clause-first
returns-clause-first c =
    none_of_method c.args.world.now (view_class c.args.class.now) c.args.at (view_method c.method_at-method.result.now) c.method_at-method.ensures.there (rw c.in_default.is at c.in_ok-name.ensures.least)
    (fails c.breaks_signature.result (BreaksSignature (view_class c.args.class.now) c.args.at (view_method c.method_at-method.result.now)) c.breaks_signature.ensures.breaks c.if-breaks_signature.false)

pub returns-clause-said : goal.returns-clause-said
returns-clause-said c = λ none. none_unsaid c.args.world.now (view_class c.args.class.now) c.args.at (view_method c.method_at-method.result.now) c.method_at-method.ensures.there (rw c.in_default.is at c.in_ok-name.ensures.least)
