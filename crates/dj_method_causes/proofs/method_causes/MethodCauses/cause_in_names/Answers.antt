use Rattle.std.proofs.Common.{None}
use Rattle.dj_class.specs.Views.{view_class}
use Rattle.dj_code.specs.MethodCode.{view_typed}
use Rattle.dj_method_causes.proofs.Causes.{missing_first, name_first, none_in_names, missing_among}
use Rattle.dj_method_causes.proofs.method_causes.MethodCauses.cause_in_names.Goals as goal

pub returns-in-Some-clause-first : goal.returns-in-Some-clause-first
returns-in-Some-clause-first c =
    λ unpaired at. rw c.new.ensures.units (missing_first unpaired c.args.world.now (view_class c.args.class.now) at (view_typed c.args.typed.now) c.in-Some.name
    (rw c.in-Some.is at (missing_among unpaired c.args.world.now (view_class c.args.class.now) at (view_typed c.args.typed.now) c.in_ok-names.names c.in_ok-names.ensures.names c.in_ok-missing.missing (rw c.as_slice.ensures at c.in_ok-missing.ensures.least))))

pub least_unsaid_in-requires-clause-classes : goal.least_unsaid_in-requires-clause-classes
least_unsaid_in-requires-clause-classes c = λ name. rw c.as_slice-2.ensures (c.in_ok-names.ensures.names name)

pub returns-in-Some-unsaid-clause-first : goal.returns-in-Some-unsaid-clause-first
returns-in-Some-unsaid-clause-first c =
    λ unpaired at. name_first unpaired c.args.world.now (view_class c.args.class.now) at (view_typed c.args.typed.now)
    (rw c.in_default.is at (missing_among unpaired c.args.world.now (view_class c.args.class.now) at (view_typed c.args.typed.now) c.in_ok-names.names c.in_ok-names.ensures.names c.in_ok-missing.missing (rw c.as_slice.ensures at c.in_ok-missing.ensures.least)))
    c.in-Some-unsaid.name (rw c.in-Some-unsaid.is at c.in_ok-unsaid.ensures.least)

pub returns-clause-first : goal.returns-clause-first
returns-clause-first c =
    λ unpaired at. none_in_names unpaired c.args.world.now (view_class c.args.class.now) at (view_typed c.args.typed.now)
    (rw c.in_default.is at (missing_among unpaired c.args.world.now (view_class c.args.class.now) at (view_typed c.args.typed.now) c.in_ok-names.names c.in_ok-names.ensures.names c.in_ok-missing.missing (rw c.as_slice.ensures at c.in_ok-missing.ensures.least)))
    (rw c.in-None.is at c.in_ok-unsaid.ensures.least)

pub returns-clause-none : goal.returns-clause-none
returns-clause-none c = λ none. record {
  missing =
      rw c.in_default.is at (missing_among None c.args.world.now (view_class c.args.class.now) 0 (view_typed c.args.typed.now) c.in_ok-names.names c.in_ok-names.ensures.names c.in_ok-missing.missing (rw c.as_slice.ensures at c.in_ok-missing.ensures.least));
  unsaid = rw c.in-None.is at c.in_ok-unsaid.ensures.least;
}
