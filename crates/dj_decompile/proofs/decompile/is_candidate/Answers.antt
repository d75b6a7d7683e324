use Rattle.std.proofs.Common.{sym, ◌∙◌, arith}
use Rattle.dj_code.specs.MethodCode.{view_typed}
use Rattle.dj_decompile.proofs.Deciding.{calls_decide, untrue}
use Rattle.dj_decompile.proofs.decompile.is_candidate.Goals as goal
use Rattle.dj_decompile.proofs.decompile.is_candidate.Goals.{then-known, else-known, then-is_empty, else-is_empty}

pub returns-then-not-is_constructor : goal.returns-then-not-is_constructor
returns-then-not-is_constructor c = record {
  candidate = λ world known. elim c.if-is_empty.branch [
    | else-is_empty w ↦ absurd (cc)
    | then-is_empty w ↦ elim c.if-known.branch [
      | else-known v ↦ absurd (cc)
      | then-known v ↦ calls_decide world (view_typed c.args.typed.now) c.calls_no_own.result (sym known ∙ v.if-known.true) c.requires.straight (v.is_empty.ensures.0 (cc)) (sym w.is_constructor.ensures.constructor ∙ untrue w.is_constructor.result (cc)) (omega arith) c.calls_no_own.ensures.own
    ]
  ];
}
