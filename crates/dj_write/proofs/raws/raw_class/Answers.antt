use Rattle.std.proofs.Common.{List, ℕ, All, map, sym, subst, ◌∙◌}
use Rattle.dj_names.specs.declared.members.Field as code_field
use Rattle.dj_class.specs.declared.method.Method as code_method
use Rattle.dj_class.specs.Described.{DescribesField, DescribesMethod}
use Rattle.dj_class.specs.FileFormat as layout
use Rattle.dj_class.specs.Views.{view_class, view_field, view_method}
use Rattle.dj_write.specs.Written.{AreClasses, AreRaws, HasClasses, IsDescribed}
use Rattle.dj_write.proofs.FileParts.{class_written, has_parts, parts_in}
use Rattle.dj_write.proofs.raws.raw_class.Goals as goal

pub new-requires : goal.new-requires
new-requires c = record { few = (has_parts (view_class c.args.class.now) c.requires.from_file).few }

pub class_indices-requires : goal.class_indices-requires
class_indices-requires c =
    let index = c.in_ok-index.index in
    let parts = parts_in (view_class c.args.class.now) index c.requires.from_file c.in_ok-index.ensures.pool in
    record { there = subst (HasClasses index) (sym c.as_slice.ensures) parts.interfaces }

pub raw_fields-requires : goal.raw_fields-requires
raw_fields-requires c =
    let index = c.in_ok-index.index in
    let parts = parts_in (view_class c.args.class.now) index c.requires.from_file c.in_ok-index.ensures.pool in
    record {
      described = subst (λ (fields : List code_field.Field). All (IsDescribed (layout.field index) (DescribesField index)) (map view_field fields)) (sym c.as_slice-2.ensures) parts.fields;
    }

pub raw_methods-requires : goal.raw_methods-requires
raw_methods-requires c =
    let index = c.in_ok-index.index in
    let parts = parts_in (view_class c.args.class.now) index c.requires.from_file c.in_ok-index.ensures.pool in
    record {
      described = subst (λ (methods : List code_method.Method). All (IsDescribed (layout.method index) (DescribesMethod index)) (map view_method methods)) (sym c.as_slice-3.ensures) parts.methods;
    }

pub class-requires : goal.class-requires
class-requires c = record { there = (parts_in (view_class c.args.class.now) c.in_ok-index.index c.requires.from_file c.in_ok-index.ensures.pool).this_class }

pub super_index-requires : goal.super_index-requires
super_index-requires c = record { there = (parts_in (view_class c.args.class.now) c.in_ok-index.index c.requires.from_file c.in_ok-index.ensures.pool).super_class }

pub returns : goal.returns
returns c =
    let class = view_class c.args.class.now in
    let index = c.in_ok-index.index in
    let interfaces = c.in_ok-interfaces.interfaces in
    let fields = c.in_ok-fields.fields in
    let methods = c.in_ok-methods.methods in
    record {
      file = class_written class index c.in_ok-pool.pool c.class.result c.super_index.result interfaces fields methods c.new-2.result c.requires.from_file c.in_ok-index.ensures.pool (c.in_ok-pool.ensures.equal ∙ c.as_slice-4.ensures.entries) c.new-2.ensures
          c.class.ensures.leads c.super_index.ensures.leads (subst (λ (names : List (List ℕ)). AreClasses index names interfaces) c.as_slice.ensures c.in_ok-interfaces.ensures.lead)
          (subst (λ (all : List code_field.Field). AreRaws (layout.field index) (DescribesField index) (map view_field all) fields) c.as_slice-2.ensures c.in_ok-fields.ensures.raws)
          (subst (λ (all : List code_method.Method). AreRaws (layout.method index) (DescribesMethod index) (map view_method all) methods) c.as_slice-3.ensures c.in_ok-methods.ensures.raws);
    }
