use Rattle.std.proofs.Common.{refl}
use Rattle.std.proofs.lemmas.Bool.{false≢true}
use Rattle.dj_class.proofs.MemberAttributes.{field_other, field_first}
use Rattle.dj_class.proofs.constants.field_attribute_at.Goals as goal

pub returns-then-not-is_name : goal.returns-then-not-is_name
returns-then-not-is_name c =
    record {
      reads = λ before has. field_other c.args.pool.now c.args.descriptor c.args.bytes.now c.in_ok-name.rest.now (record { name = c.in_ok-name.name; content = c.in_ok-name.content.now }) c.args.found before c.in_ok-name.ensures.reads
          (λ is. absurd (false≢true (c.if-not-is_name.ensures.exact.1 is))) has;
    }

pub returns-in-Some : goal.returns-in-Some
returns-in-Some c =
    record {
      reads = λ before has. field_first c.args.pool.now c.args.descriptor c.args.bytes.now c.in_ok-name.rest.now (record { name = c.in_ok-name.name; content = c.in_ok-name.content.now }) c.args.found c.in-Some.index before c.in_ok-name.ensures.reads
          (c.if-not-is_name.ensures.exact.0 refl) c.if-is_some.ensures c.in-Some.ensures.some c.in-Some.ensures.right has;
    }
