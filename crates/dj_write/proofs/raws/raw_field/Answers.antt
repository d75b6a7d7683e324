use Rattle.dj_class.specs.Views.{view_field}
use Rattle.dj_write.proofs.MemberParts.{field_constant, field_name, field_type, field_written}
use Rattle.dj_write.proofs.raws.raw_field.Goals as goal

pub text-name-requires : goal.text-name-requires
text-name-requires c = record { there = field_name c.args.index.now (view_field c.args.field.now) c.requires.described }

pub field_type-requires : goal.field_type-requires
field_type-requires c = record { there = field_type c.args.index.now (view_field c.args.field.now) c.requires.described }

pub field_attributes-requires : goal.field_attributes-requires
field_attributes-requires c = record { there = field_constant c.args.index.now (view_field c.args.field.now) c.requires.described }

pub returns : goal.returns
returns c =
    let both = field_written c.args.index.now (view_field c.args.field.now) c.text-name.result c.in_ok-descriptor.descriptor c.in_ok-attributes.attributes c.requires.described c.text-name.ensures.leads c.in_ok-descriptor.ensures.leads c.in_ok-attributes.ensures.attributes in
    record { raw = record { fits = both.0; describes = both.1 } }
