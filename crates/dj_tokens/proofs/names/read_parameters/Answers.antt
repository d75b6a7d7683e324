use Rattle.std.proofs.Common.{None, ap, ◌∙◌}
use Rattle.dj_names.specs.Types.{view_type, view_types}
use Rattle.dj_tokens.specs.Names.{more_parameters}
use Rattle.dj_tokens.proofs.TypesLemmas.{parameters_fewer, parameters_go_on, parameters_stop}
use Rattle.dj_tokens.proofs.TypeViews.{view_types-push}
use Rattle.dj_tokens.proofs.names.read_parameters.Goals as goal

pub returns-then-not-goes_on : goal.returns-then-not-goes_on
returns-then-not-goes_on c = record {
  read =
      parameters_stop (view_types c.loop-alloc.kinds.items) (view_types c.push.new.self.items) (view_type c.in_ok-read_type.field-0) c.loop-alloc.reader c.read_type.new.reader c.advance.new.self c.advance-in-loop-alloc.new.self c.loop-alloc-test.ensures.comes c.in_ok-read_type.ensures.read (view_types-push c.loop-alloc.kinds.items c.push.new.self.items c.in_ok-read_type.field-0 c.in_ok-push.ensures.items) (record { named_is = c.advance.ensures.rest; comma_is = c.if-not-goes_on.ensures.comes; rest_is = c.advance-in-loop-alloc.ensures.rest })
      ∙ c.loop-alloc.invariant
      ∙ ap (λ kinds. more_parameters (view_types kinds) None c.args.reader.now) c.new-kinds.ensures.items;
}

pub loop-alloc-smaller : goal.loop-alloc-smaller
loop-alloc-smaller c =
    parameters_fewer (view_type c.in_ok-read_type.field-0) c.loop-alloc.reader c.read_type.new.reader c.advance.new.self c.advance-in-loop-alloc.new.self c.in_ok-read_type.ensures.read (record { named_is = c.advance.ensures.rest; comma_is = c.if-not-goes_on.ensures.comes; rest_is = c.advance-in-loop-alloc.ensures.rest })

pub loop-alloc-preserved : goal.loop-alloc-preserved
loop-alloc-preserved c =
    parameters_go_on (view_types c.loop-alloc.kinds.items) (view_types c.push.new.self.items) (view_type c.in_ok-read_type.field-0) c.loop-alloc.reader c.read_type.new.reader c.advance.new.self c.advance-in-loop-alloc.new.self c.loop-alloc-test.ensures.comes c.in_ok-read_type.ensures.read (view_types-push c.loop-alloc.kinds.items c.push.new.self.items c.in_ok-read_type.field-0 c.in_ok-push.ensures.items) (record { named_is = c.advance.ensures.rest; comma_is = c.if-not-goes_on.ensures.comes; rest_is = c.advance-in-loop-alloc.ensures.rest })
    ∙ c.loop-alloc.invariant
