use Rattle.std.proofs.Common.{◌≡◌, ◌∙◌, true, false, sym, ap, subst, add-one, arith}
use Rattle.std.specs.List.{list_all}
use Rattle.dj_names.specs.declared.members.ClassMembers.{ClassMembers}
use Rattle.std.specs.Str.{bytes_eq}
use Rattle.dj_names.specs.declared.header.Header.{Header}
use Rattle.dj_names.specs.Assignable.{object_name}
use Rattle.dj_known_world.specs.Known.{gives}
use Rattle.dj_known_world.proofs.Knowing.{give_past, give_here, give_next}
use Rattle.dj_known_world.proofs.known.objects_give.Goals as goal

pub returns-then-at-classes : goal.returns-then-at-classes
returns-then-at-classes c = record { give = sym (give_past c.args.headers.now c.args.classes.now c.loop-at.at (omega arith)) ∙ c.loop-at.invariant }

pub returns-then-is_text : goal.returns-then-is_text
returns-then-is_text c =
    let named = sym c.is_text.ensures.text ∙ c.if-is_text.true in
    record {
      give =
          rw c.as_slice-then-is_text.ensures at c.all_give.ensures.give
          ∙ ap (λ (m : ClassMembers). list_all gives m.methods) (sym c.index-classes-at.is)
          ∙ sym (give_here c.args.headers.now c.args.classes.now c.loop-at.at c.index-headers-at.result c.index-classes-at.result (omega arith) c.index-headers-at.is (omega arith) c.index-classes-at.is (subst (λ (h : Header). bytes_eq h.name object_name ≡ true) (sym c.index-headers-at.is) (rw c.as_slice.ensures.units at named)))
          ∙ c.loop-at.invariant;
    }

pub loop-at-preserved : goal.loop-at-preserved
loop-at-preserved c =
    let other = sym c.is_text.ensures.text ∙ c.if-is_text.false in
    rw add-one
    (give_next c.args.headers.now c.args.classes.now c.loop-at.at c.index-headers-at.result (omega arith) c.index-headers-at.is (omega arith) (subst (λ (h : Header). bytes_eq h.name object_name ≡ false) (sym c.index-headers-at.is) (rw c.as_slice.ensures.units at other))
    ∙ c.loop-at.invariant)
