use Rattle.std.proofs.lemmas.List.{take_rest}
use Rattle.dj_outer.proofs.WroteFront.{WroteFront-more, WroteFront-kept, AppendsFront-rest}
use Rattle.dj_outer.proofs.stream_sink.write_whole.Goals as goal

pub loop-rest-preserved : goal.loop-rest-preserved
loop-rest-preserved g c =
    rw take_rest (WroteFront-more _ _ _ _ _ _ c.loop-rest.invariant c.in-Ok.ensures.bytes)

pub returns-in-Ok-eq0-clause-prefix : goal.returns-in-Ok-eq0-clause-prefix
returns-in-Ok-eq0-clause-prefix g c =
    AppendsFront-rest _ _ _ _ (WroteFront-more _ _ _ _ _ _ c.loop-rest.invariant c.in-Ok-eq0.ensures.bytes)

pub returns-in-Err-clause-prefix : goal.returns-in-Err-clause-prefix
returns-in-Err-clause-prefix g c =
    AppendsFront-rest _ _ _ _ (WroteFront-kept _ _ _ _ _ c.loop-rest.invariant c.in-Err.ensures.bytes)

pub returns-in-Err-flush-clause-prefix : goal.returns-in-Err-flush-clause-prefix
returns-in-Err-flush-clause-prefix g c =
    AppendsFront-rest _ _ _ _ (WroteFront-kept _ _ _ _ _ c.loop-rest.invariant c.in-Err-flush.ensures.bytes)
