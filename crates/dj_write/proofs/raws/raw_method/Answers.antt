use Rattle.dj_class.specs.Views.{view_method}
use Rattle.dj_write.proofs.MemberParts.{method_code, method_descriptor, method_name, method_thrown, method_written}
use Rattle.dj_write.proofs.raws.raw_method.Goals as goal

pub text-name-requires : goal.text-name-requires
text-name-requires c = record { there = method_name c.args.index.now (view_method c.args.method.now) c.requires.described }

pub descriptor-requires : goal.descriptor-requires
descriptor-requires c = record { there = method_descriptor c.args.index.now (view_method c.args.method.now) c.requires.described }

pub method_attributes-requires : goal.method_attributes-requires
method_attributes-requires c = record {
  code = (method_code c.args.index.now (view_method c.args.method.now) c.requires.described).0;
  thrown = (method_thrown c.args.index.now (view_method c.args.method.now) c.requires.described).0;
}

pub returns : goal.returns
returns c =
    let both = method_written c.args.index.now (view_method c.args.method.now) c.text-name.result c.in_ok-descriptor.descriptor c.in_ok-attributes.attributes c.requires.described c.text-name.ensures.leads c.in_ok-descriptor.ensures.leads c.in_ok-attributes.ensures.attributes in
    record { raw = record { fits = both.0; describes = both.1 } }
