use Rattle.std.proofs.Common.{refl, sym, ◌∙◌}
use Rattle.std.proofs.lemmas.Bool.{false≢true}
use Rattle.dj_code.specs.MethodCode.{view_typed}
use Rattle.dj_decompiled.specs.Decompiled.{blocks}
use Rattle.dj_decompile.proofs.Deciding.{one_listed, one_begins}
use Rattle.dj_decompile.proofs.decompile.candidate_body.Goals as goal

pub returns-then-not-is_one : goal.returns-then-not-is_one
returns-then-not-is_one c =
    let starts = c.in_ok-starts in
    record { found = blocks (λ one. false≢true (c.if-not-is_one.ensures.one.1 (c.as_slice.ensures ∙ one_listed (view_typed c.args.typed.now) starts.starts starts.ensures.rising starts.ensures.exact one))) }

pub with_starts-requires-clause-one : goal.with_starts-requires-clause-one
with_starts-requires-clause-one c =
    let starts = c.in_ok-starts in
    one_begins (view_typed c.args.typed.now) starts.starts starts.ensures.exact (sym c.as_slice.ensures ∙ c.if-not-is_one.ensures.one.0 refl)
