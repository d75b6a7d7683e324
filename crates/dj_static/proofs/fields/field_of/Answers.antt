use Rattle.std.proofs.Common.{true, false}
use Rattle.std.specs.Option.{option_map, option_copied}
use Rattle.dj_names.specs.Types.{view_type}
use Rattle.dj_static.proofs.FieldLemmas.{no_owner, an_owner, no_field, field_is}
use Rattle.dj_static.proofs.fields.field_of.Goals as goal

pub returns-in-None : goal.returns-in-None
returns-in-None c = record { field = no_owner c.args.classes.now.headers.now c.args.classes.now.members.now c.args.classes.now.from.now (option_map view_type (option_copied c.args.through)) c.args.class.now c.args.name.now c.in_ok-sole_owner.field-0 c.in-None.is c.in_ok-sole_owner.ensures.owner }

pub returns-in-None-own_field : goal.returns-in-None-own_field
returns-in-None-own_field c = record { field = no_field c.args.classes.now.headers.now c.args.classes.now.members.now c.args.classes.now.from.now (option_map view_type (option_copied c.args.through)) c.args.class.now c.args.name.now c.in-Some.place (an_owner c.args.classes.now.headers.now c.args.classes.now.members.now c.args.classes.now.from.now (option_map view_type (option_copied c.args.through)) c.args.class.now c.args.name.now c.in_ok-sole_owner.field-0 c.in-Some.place c.in-Some.is c.in_ok-sole_owner.ensures.owner) c.in_ok-sole_owner.ensures.distinct c.in-None-own_field.ensures.own }

pub returns-then-is_accessible : goal.returns-then-is_accessible
returns-then-is_accessible c =
    let own = c.in-Some-own_field.own in
    let told = c.in-Some-own_field.ensures in
    record {
      field = field_is c.args.classes.now.headers.now c.args.classes.now.members.now c.args.classes.now.from.now (option_map view_type (option_copied c.args.through)) c.args.class.now c.args.name.now c.in-Some.place (an_owner c.args.classes.now.headers.now c.args.classes.now.members.now c.args.classes.now.from.now (option_map view_type (option_copied c.args.through)) c.args.class.now c.args.name.now c.in_ok-sole_owner.field-0 c.in-Some.place c.in-Some.is c.in_ok-sole_owner.ensures.owner) c.in_ok-sole_owner.ensures.distinct own.member own.field.now true told.own told.member told.class
          c.if-is_accessible.ensures.accessible;
    }

pub returns-else-is_accessible : goal.returns-else-is_accessible
returns-else-is_accessible c =
    let own = c.in-Some-own_field.own in
    let told = c.in-Some-own_field.ensures in
    record {
      field = field_is c.args.classes.now.headers.now c.args.classes.now.members.now c.args.classes.now.from.now (option_map view_type (option_copied c.args.through)) c.args.class.now c.args.name.now c.in-Some.place (an_owner c.args.classes.now.headers.now c.args.classes.now.members.now c.args.classes.now.from.now (option_map view_type (option_copied c.args.through)) c.args.class.now c.args.name.now c.in_ok-sole_owner.field-0 c.in-Some.place c.in-Some.is c.in_ok-sole_owner.ensures.owner) c.in_ok-sole_owner.ensures.distinct own.member own.field.now false told.own told.member told.class
          c.if-is_accessible.ensures.accessible;
    }
