use Rattle.std.proofs.Common.{refl, sym, ◌∙◌}
use Rattle.dj_syntax.specs.Trees.{view_exp}
use Rattle.dj_expressions.proofs.OpenLemmas.{collapsed-alone, collapsed-joins, collapsed-opened, fewer_open}
use Rattle.dj_expressions.proofs.brackets.close_around.Goals as goal

pub loop-frame-smaller : goal.loop-frame-smaller
loop-frame-smaller c = fewer_open c.loop-frame.pending c.pop.new.self c.in-Some.frame c.in-Some.ensures

pub loop-frame-preserved : goal.loop-frame-preserved
loop-frame-preserved c =
    collapsed-joins (view_exp c.loop-frame.value) (view_exp c.in_ok-value-in-Ok.value) c.loop-frame.pending c.pop.new.self c.in-Some.frame c.in-Ok.joint c.in-Some.ensures c.in-Ok.ensures.parts c.in_ok-value-in-Ok.ensures.joined
    ∙ c.loop-frame.invariant

pub returns-in-Err : goal.returns-in-Err
returns-in-Err c =
    let is = collapsed-opened (view_exp c.loop-frame.value) c.loop-frame.pending c.pop.new.self c.in-Some.frame c.in-Err.opener c.in-Some.ensures c.in-Err.ensures.parts ∙ c.loop-frame.invariant in
    record { closed = rw (sym is) c.close_opener.ensures.closed }

pub returns : goal.returns
returns c =
    let is = collapsed-alone (view_exp c.loop-frame.value) c.loop-frame.pending c.pop.new.self c.in_default.ensures ∙ c.loop-frame.invariant in
    record { closed = rw (sym is, c.in_default.ensures.1) refl }
