use Rattle.std.proofs.Common.{Contains, length, arith}
use Rattle.dj_class.specs.Views.{view_class}
use Rattle.dj_signatures.specs.Signatures.{method_names}
use Rattle.dj_causes.proofs.ClassCauseLemmas.{fails}
use Rattle.dj_class_text.proofs.HelperLemmas.{taken_none, taken_more, free_past, length_names}
use Rattle.dj_class_text.proofs.helper.free_name.Goals as goal

pub loop-number-init : goal.loop-number-init
loop-number-init c = λ world causes. taken_none (method_names (view_class c.args.class.now).methods)

pub loop-number-preserved : goal.loop-number-preserved
loop-number-preserved c = λ world causes.
    taken_more (method_names (view_class c.args.class.now).methods) c.loop-number.number (c.loop-number.invariant world causes)
    (rw c.in_ok-name.ensures.name at ((c.has_method.ensures.has world (view_class c.args.class.now) causes).0 c.if-not-has_method.false))

pub returns-then-not-has_method : goal.returns-then-not-has_method
returns-then-not-has_method c = record {
  free = λ world causes. (
    c.loop-number.number,
    record {
      free = rw c.in_ok-name.ensures.name at (fails c.has_method.result (Contains (method_names (view_class c.args.class.now).methods) c.in_ok-name.name) (c.has_method.ensures.has world (view_class c.args.class.now) causes) c.if-not-has_method.true);
      least = c.loop-number.invariant world causes;
    },
    c.in_ok-name.ensures.name,
  );
}

pub returns : goal.returns
returns c = record {
  free = λ world causes. (
    length c.args.class.now.methods,
    free_past (method_names (view_class c.args.class.now).methods) (length c.args.class.now.methods) (length_names c.args.class.now.methods) (let few = c.requires.few in omega arith)
        (λ lower below. c.loop-number.invariant world causes lower (omega arith)),
    rw c.len.ensures at c.in_ok-last.ensures.name,
  );
}
