use Rattle.std.proofs.Common.{Bool, Option, None, sym, ap, ◌∙◌}
use Rattle.std.specs.Prelude.{if◌then◌else◌}
use Rattle.dj_syntax.specs.Trees.{Exp}
use Rattle.dj_instructions.specs.Instructions.{view_method_ref}
use Rattle.dj_places.specs.Surroundings.{surroundings_of}
use Rattle.dj_pending.specs.Operands.{operands_of}
use Rattle.dj_member_trees.specs.Calling.{super_by, super_called, class_above}
use Rattle.dj_member_trees.proofs.GivenLemmas.{last-taken}
use Rattle.dj_member_trees.proofs.special.super_call.Goals as goal

pub returns-then-not-is_this : goal.returns-then-not-is_this
returns-then-not-is_this c =
    let known = surroundings_of c.args.classes.now in
    let method = view_method_ref c.args.method.now in
    let by : Bool → Option Exp = (λ test. if test then super_by known method (operands_of c.pop.new.self) (class_above known method) else None) in
    record { call = ap by (sym (sym c.is_this.ensures.this ∙ c.if-not-is_this.true)) ∙ ap (super_called known method) (sym (last-taken c.args.operands c.pop.new.self c.in-Some.object c.in-Some.ensures)) }

pub returns : goal.returns
returns c =
    let known = surroundings_of c.args.classes.now in
    let method = view_method_ref c.args.method.now in
    let by : Bool → Option Exp = (λ test. if test then super_by known method (operands_of c.pop.new.self) (class_above known method) else None) in
    record { call = c.in_ok-found.ensures.call ∙ ap by (sym (sym c.is_this.ensures.this ∙ c.if-not-is_this.false)) ∙ ap (super_called known method) (sym (last-taken c.args.operands c.pop.new.self c.in-Some.object c.in-Some.ensures)) }
