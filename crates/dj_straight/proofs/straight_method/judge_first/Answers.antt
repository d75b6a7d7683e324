use Rattle.std.proofs.Common.{refl}
use Rattle.std.proofs.lemmas.Bool.{false≢true}
use Rattle.dj_class.specs.Views.{view_class, view_method}
use Rattle.dj_code.specs.MethodCode.{view_code}
use Rattle.dj_straight.proofs.StraightMethodLemmas.{not_plain_head, has_bytes, bytes_are_short, judged_by_code}
use Rattle.dj_straight.proofs.straight_method.judge_first.Goals as goal

pub returns-then-not-has_plain_head-clause-judged : goal.returns-then-not-has_plain_head-clause-judged
returns-then-not-has_plain_head-clause-judged c = λ before first.
    not_plain_head (view_class c.args.class.now) before (view_method c.args.method.now) (view_code c.args.code.now) c.requires.spelled (λ plain. false≢true (c.if-not-has_plain_head.ensures.plain.1 plain))

pub unreachable-requires : goal.unreachable-requires
unreachable-requires c =
    has_bytes (view_class c.args.class.now) (view_method c.args.method.now) (view_code c.args.code.now) c.requires.spelled (rw c.in-None.is at c.in_ok-bytes.ensures.bytes)

pub judge_code-requires : goal.judge_code-requires
judge_code-requires c =
    let short = bytes_are_short (view_method c.args.method.now) c.in-Some.bytes (rw c.in-Some.is at c.in_ok-bytes.ensures.bytes) in
    record { short = rw c.as_slice.ensures short }

pub returns-clause-judged : goal.returns-clause-judged
returns-clause-judged c =
    judged_by_code (view_class c.args.class.now) (view_method c.args.method.now) c.args.parameters (view_code c.args.code.now) c.requires.spelled (c.if-not-has_plain_head.ensures.plain.0 refl) c.requires.ints c.in-Some.bytes (rw c.in-Some.is at c.in_ok-bytes.ensures.bytes) c.judge_code.result (rw c.as_slice.ensures at c.judge_code.ensures.judged)
