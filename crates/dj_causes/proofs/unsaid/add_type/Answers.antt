use Rattle.dj_names.specs.Types.{view_type}
use Rattle.dj_world.specs.Named.{class_of}
use Rattle.dj_causes.proofs.HeadLemmas.{gains_class, gains_no_class}
use Rattle.dj_causes.proofs.unsaid.add_type.Goals as goal

pub returns-in_ok-add_name-in-Some : goal.returns-in_ok-add_name-in-Some
returns-in_ok-add_name-in-Some c = record { gains = gains_class c.args.names.now c.add_name.new.names c.in-Some.name.now (class_of (view_type c.args.kind.now)) c.in-Some.ensures.class c.in_ok-add_name-in-Some.ensures.added }

pub returns-in-None : goal.returns-in-None
returns-in-None c = record { gains = gains_no_class c.args.names.now (class_of (view_type c.args.kind.now)) c.in-None.ensures.class }
