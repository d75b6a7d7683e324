use Rattle.std.proofs.Common.{refl}
use Rattle.std.specs.Option.{option_copied}
use Rattle.std.proofs.lemmas.Bool.{false≢true}
use Rattle.dj_class.proofs.BodyAttributes.{method_other, method_code, method_exceptions}
use Rattle.dj_class.proofs.bodies.method_attribute_at.Goals as goal

pub returns-then-is_name : goal.returns-then-is_name
returns-then-is_name c =
    record {
      reads = λ before has. method_code c.args.pool.now c.args.bytes.now c.in_ok-name.rest.now (record { name = c.in_ok-name.name; content = c.in_ok-name.content.now }) c.args.found.code c.args.found.thrown before c.in_ok-name.ensures.reads
          (c.if-is_name.ensures.exact.0 refl) c.if-is_some.ensures has;
    }

pub returns-then-not-is_name : goal.returns-then-not-is_name
returns-then-not-is_name c =
    record {
      reads = λ before has. method_other c.args.pool.now c.args.bytes.now c.in_ok-name.rest.now (record { name = c.in_ok-name.name; content = c.in_ok-name.content.now }) (option_copied c.args.found.code, c.args.found.thrown) before c.in_ok-name.ensures.reads
          (λ is. absurd (false≢true (c.if-is_name.ensures.exact.1 is))) (λ is. absurd (false≢true (c.if-not-is_name.ensures.exact.1 is))) has;
    }

pub returns-in-Some : goal.returns-in-Some
returns-in-Some c =
    let thrown = rw c.in-Some.is at c.in_ok-thrown.ensures.some in
    let right = rw c.in-Some.is at c.in_ok-thrown.ensures.right in
    record {
      reads = λ before has. method_exceptions c.args.pool.now c.args.bytes.now c.in_ok-name.rest.now (record { name = c.in_ok-name.name; content = c.in_ok-name.content.now }) (option_copied c.args.found.code) c.args.found.thrown c.in-Some.thrown before c.in_ok-name.ensures.reads
          (λ is. absurd (false≢true (c.if-is_name.ensures.exact.1 is))) (c.if-not-is_name.ensures.exact.0 refl) c.if-is_some-2.ensures right thrown has;
    }
