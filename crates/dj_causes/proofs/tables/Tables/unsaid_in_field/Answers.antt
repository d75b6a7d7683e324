use Rattle.std.proofs.Common.{sym}
use Rattle.dj_class.specs.Views.{view_class, view_field}
use Rattle.dj_causes.proofs.FieldCauseLemmas.{unsaid_type, no_type}
use Rattle.dj_causes.proofs.tables.Tables.unsaid_in_field.Goals as goal

pub returns-in_ok-found-in-Some : goal.returns-in_ok-found-in-Some
returns-in_ok-found-in-Some c = record {
  first = unsaid_type c.args.world.now (view_class c.args.class.now) (view_field c.args.field.now) c.in-Some.name.now c.in_ok-found-in-Some.found (c.is_identifier.ensures.identifier.0 c.if-not-is_identifier.false) (sym c.in-Some.ensures.class) (c.in_ok-found-in-Some.ensures.unsaid c.args.class.now.this_class c.requires.made.scope);
}

pub returns-in-None : goal.returns-in-None
returns-in-None c = record {
  first = no_type c.args.world.now (view_class c.args.class.now) (view_field c.args.field.now) (c.is_identifier.ensures.identifier.0 c.if-not-is_identifier.false) (sym c.in-None.ensures.class);
}
