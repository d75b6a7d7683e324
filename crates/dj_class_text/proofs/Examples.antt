-- Texts of members at worked examples: a wrong definition is refused here.
use Rattle.std.proofs.Common.{◌≡◌, ℕ, List, [], ◌++◌, pos, Some, None, true, false, refl, ap, arith}
use Rattle.std.proofs.lemmas.Fmt.{decimal_digit}
use Rattle.std.specs.Prelude.{codes}
use Rattle.dj_names.specs.declared.members.Constant.TheVariants as constant
use Rattle.dj_names.specs.Assignable.{object_name}
use Rattle.dj_names.specs.Types.{Boolean, Int, Method}
use Rattle.dj_syntax.specs.Trees as trees
use Rattle.dj_syntax.specs.Trees.{Truth}
use Rattle.dj_class_text.specs.Fields.{field_text}
use Rattle.dj_class_text.specs.Methods.{method_text}
use Rattle.dj_class_text.specs.Helpers.{helper_name}
use Rattle.dj_class_text.specs.ClassText.{shown_superclass}

-- `static final int a = 5;`, whose synthetic flag (0x1000) its text doesn't give back
a_constant : field_text false (record { flags = 0x1018; name = codes "a"; descriptor = Int; constant = Some (constant.Int (pos 5)) })
    ≡ record { flags = 0x0018; kind = Int; name = codes "a"; value = Some (trees.Int (pos 5)) }
a_constant = refl

-- a constant of a field that isn't static isn't its value, and `final` isn't shown without one
not_static : field_text false (record { flags = 0x0010; name = codes "a"; descriptor = Int; constant = Some (constant.Int (pos 5)) })
    ≡ record { flags = 0x0000; kind = Int; name = codes "a"; value = None }
not_static = refl

-- a truth value
a_truth : field_text false (record { flags = 0x0018; name = codes "t"; descriptor = Boolean; constant = Some (constant.Int (pos 1)) })
    ≡ record { flags = 0x0018; kind = Boolean; name = codes "t"; value = Some (Truth true) }
a_truth = refl

-- an interface's method without a body is public and abstract
an_abstract_method : method_text true (record { flags = 0x0401; name = codes "m"; descriptor = Method [] None; thrown = []; code = None }) None
    ≡ record { flags = 0x0401; name = codes "m"; descriptor = Method [] None; thrown = []; body = None }
an_abstract_method = refl

-- Object isn't named, and an interface names no superclass
below_object : shown_superclass false (Some object_name) ≡ None
below_object = refl

of_an_interface : shown_superclass true (Some (codes "a/B")) ≡ None
of_an_interface = refl

below_another : shown_superclass false (Some (codes "a/B")) ≡ Some (codes "a/B")
below_another = refl

the_first_helper : helper_name 0 ≡ codes "rethrow$0"
the_first_helper = ap (λ (digits : List ℕ). codes "rethrow$" ++ digits) (decimal_digit 0 (omega arith))
