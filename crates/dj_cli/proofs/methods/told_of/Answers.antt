use Rattle.dj_class.specs.Views.{view_class, view_method}
use Rattle.dj_syntax.specs.Trees.{view_exp}
use Rattle.dj_cli.proofs.MethodsLemmas.{prints_straight, bad_line, not_yet_line, refused_line, unverified_line}
use Rattle.dj_cli.proofs.methods.told_of.Goals as goal

pub returns-in_ok-returning_body-in-Straight : goal.returns-in_ok-returning_body-in-Straight
returns-in_ok-returning_body-in-Straight c = record {
  told = λ world before found. prints_straight world (view_class c.args.class.now) before (view_method c.args.method.now) (view_exp c.in-Straight.exp) _ (rw c.in-Straight.is at found) c.in_ok-returning_body-in-Straight.ensures.body;
}

pub returns-in_ok-method_ending-in-Refused : goal.returns-in_ok-method_ending-in-Refused
returns-in_ok-method_ending-in-Refused c = record {
  told = λ world before found. refused_line world (view_class c.args.class.now) before (view_method c.args.method.now) _ c.in-Refused.cause (rw c.in-Refused.is at found) c.in_ok-method_ending-in-Refused.ensures.ending;
}

pub returns-in_ok-bad_tail-in-Bad : goal.returns-in_ok-bad_tail-in-Bad
returns-in_ok-bad_tail-in-Bad c = record {
  told = λ world before found. bad_line world (view_class c.args.class.now) before (view_method c.args.method.now) _ c.in-Bad.kind c.in-Bad.pc (rw c.in-Bad.is at found) c.in_ok-bad_tail-in-Bad.ensures.tail;
}

pub returns-in_ok-unverified_tail-in-Unverified : goal.returns-in_ok-unverified_tail-in-Unverified
returns-in_ok-unverified_tail-in-Unverified c = record {
  told = λ world before found. unverified_line world (view_class c.args.class.now) before (view_method c.args.method.now) _ c.in-Unverified.rule c.in-Unverified.pc (rw c.in-Unverified.is at found) c.in_ok-unverified_tail-in-Unverified.ensures.tail;
}

pub returns-in_ok-not_yet_tail-in-NotYet : goal.returns-in_ok-not_yet_tail-in-NotYet
returns-in_ok-not_yet_tail-in-NotYet c = record {
  told = λ world before found. not_yet_line world (view_class c.args.class.now) before (view_method c.args.method.now) _ c.in-NotYet.pc (rw c.in-NotYet.is at found) c.in_ok-not_yet_tail-in-NotYet.ensures.tail;
}
