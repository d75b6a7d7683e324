use Rattle.std.proofs.Common.{◌≡◌, None, IsBitSet}
use Rattle.dj_class.specs.Views.{view_class}
use Rattle.dj_causes.specs.ClassCauses.{DescribesPackage}
use Rattle.dj_causes.proofs.ClassCauseLemmas.{fails, least_enum, least_annotation, least_package, least_root, least_name, least_constant, none_of_class}
use Rattle.dj_causes.proofs.tables.Tables.class_cause.Goals as goal

pub returns-then-is_enum : goal.returns-then-is_enum
returns-then-is_enum c = record { first = least_enum c.args.world.now (view_class c.args.class.now) (c.is_enum.ensures.exact.0 c.if-is_enum.true) }

pub returns-then-is_annotation : goal.returns-then-is_annotation
returns-then-is_annotation c = record { first = least_annotation c.args.world.now (view_class c.args.class.now) (fails c.is_enum.result (IsBitSet c.args.class.now.flags 14) c.is_enum.ensures.exact c.if-is_enum.false) (c.is_annotation.ensures.exact.0 c.if-is_annotation.true) }

pub returns-then-describes_package : goal.returns-then-describes_package
returns-then-describes_package c = record { first = least_package c.args.world.now (view_class c.args.class.now) (fails c.is_enum.result (IsBitSet c.args.class.now.flags 14) c.is_enum.ensures.exact c.if-is_enum.false) (fails c.is_annotation.result (IsBitSet c.args.class.now.flags 13) c.is_annotation.ensures.exact c.if-is_annotation.false) (c.describes_package.ensures.describes.0 c.if-describes_package.true) }

pub returns-then-is_root : goal.returns-then-is_root
returns-then-is_root c = record { first = least_root c.args.world.now (view_class c.args.class.now) (fails c.is_enum.result (IsBitSet c.args.class.now.flags 14) c.is_enum.ensures.exact c.if-is_enum.false) (fails c.is_annotation.result (IsBitSet c.args.class.now.flags 13) c.is_annotation.ensures.exact c.if-is_annotation.false) (fails c.describes_package.result (DescribesPackage c.args.class.now.this_class) c.describes_package.ensures.describes c.if-describes_package.false) (c.is_root.ensures.root.0 c.if-is_root.true) }

pub returns-in-Some : goal.returns-in-Some
returns-in-Some c = record { first = least_name c.args.world.now (view_class c.args.class.now) c.in-Some.name (fails c.is_enum.result (IsBitSet c.args.class.now.flags 14) c.is_enum.ensures.exact c.if-is_enum.false) (fails c.is_annotation.result (IsBitSet c.args.class.now.flags 13) c.is_annotation.ensures.exact c.if-is_annotation.false) (fails c.describes_package.result (DescribesPackage c.args.class.now.this_class) c.describes_package.ensures.describes c.if-describes_package.false) (fails c.is_root.result ((view_class c.args.class.now).super_class ≡ None) c.is_root.ensures.root c.if-is_root.false) (rw c.in-Some.is at c.in_ok-name.ensures.first) }

pub returns-in-Some-unset : goal.returns-in-Some-unset
returns-in-Some-unset c = record { first = least_constant c.args.world.now (view_class c.args.class.now) c.in-Some-unset.name (fails c.is_enum.result (IsBitSet c.args.class.now.flags 14) c.is_enum.ensures.exact c.if-is_enum.false) (fails c.is_annotation.result (IsBitSet c.args.class.now.flags 13) c.is_annotation.ensures.exact c.if-is_annotation.false) (fails c.describes_package.result (DescribesPackage c.args.class.now.this_class) c.describes_package.ensures.describes c.if-describes_package.false) (fails c.is_root.result ((view_class c.args.class.now).super_class ≡ None) c.is_root.ensures.root c.if-is_root.false) (rw c.in_default.is at c.in_ok-name.ensures.first) (rw c.in-Some-unset.is at c.in_ok-unset.ensures.first) }

pub returns-in-None : goal.returns-in-None
returns-in-None c = record { first = none_of_class c.args.world.now (view_class c.args.class.now) (fails c.is_enum.result (IsBitSet c.args.class.now.flags 14) c.is_enum.ensures.exact c.if-is_enum.false) (fails c.is_annotation.result (IsBitSet c.args.class.now.flags 13) c.is_annotation.ensures.exact c.if-is_annotation.false) (fails c.describes_package.result (DescribesPackage c.args.class.now.this_class) c.describes_package.ensures.describes c.if-describes_package.false) (fails c.is_root.result ((view_class c.args.class.now).super_class ≡ None) c.is_root.ensures.root c.if-is_root.false) (rw c.in_default.is at c.in_ok-name.ensures.first) (rw c.in-None.is at c.in_ok-unset.ensures.first) }
