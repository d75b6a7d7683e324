use Rattle.dj_names.specs.Types.{view_type}
use Rattle.dj_world.specs.Named.{class_of}
use Rattle.dj_world.proofs.NamedLemmas.{learns_known, learns_unknown}
use Rattle.dj_world.proofs.named.learn_type.Goals as goal

pub returns-in_ok-learn-in-Some : goal.returns-in_ok-learn-in-Some
returns-in_ok-learn-in-Some c = record { learns = learns_known c.args.names.now c.learn.new.names c.in-Some.name.now (class_of (view_type c.args.kind.now)) c.in-Some.ensures.class c.in_ok-learn-in-Some.ensures.learns }

pub returns-in-None : goal.returns-in-None
returns-in-None c = record { learns = learns_unknown c.args.names.now (class_of (view_type c.args.kind.now)) c.in-None.ensures.class }
