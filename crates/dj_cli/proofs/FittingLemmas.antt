-- The body to which code is decompiled fits its method.
use Rattle.std.proofs.Common.{◌≡◌, ◌↔◌, ℕ, Bool, List, Option, Some, None, refl, ap, subst, ◌∙◌}
use Rattle.std.specs.Prelude.{if◌then◌else◌, bit_and, bit_or, IsTrue, IsBitSet}
use Rattle.std.specs.List.{AllByRecursion}
use Rattle.std.proofs.lemmas.Bool.Decides.{same_from_decides}
use Rattle.dj_names.specs.Headers.{Name}
use Rattle.dj_names.specs.Types.{Descriptor}
use Rattle.dj_headers.proofs.HeaderLemmas.{bit_set}
use Rattle.dj_class.specs.Described.{ClassOf, MethodOf}
use Rattle.dj_world.specs.Worlds.{WorldOf}
use Rattle.dj_syntax.specs.Trees.{Body, Stms}
use Rattle.dj_syntax.specs.UnitText.{is_interface, is_initialiser, method_bits}
use Rattle.dj_syntax.specs.WellFormed.{HasMethodName, IsMethodDescriptor, IsQualified, held_method}
use Rattle.dj_code.specs.MethodCode.{Code, Typed}
use Rattle.dj_code.specs.ReadCode.{SpellsCode}
use Rattle.dj_class_text.specs.Formed.{FitsBody}
use Rattle.dj_class_text.specs.Methods.{bare_method}
use Rattle.dj_class_text.proofs.FlagLemmas.{method_flags_kept}
use Rattle.dj_rebuilding.specs.Pending.{and_then}
use Rattle.dj_blocks_shown.specs.Leaving.{Parts}
use Rattle.dj_blocks_shown.specs.Composing.{IsBodyOfCode}
use Rattle.dj_method.specs.Parts.{entry_of}
use Rattle.dj_parameters.specs.Parameters.{printed_body}
use Rattle.dj_one_block.specs.OneBlock.{lone_tree, head_of, known_in}
use Rattle.dj_one_block_shown.specs.Shown.{printed_lone}
use Rattle.dj_decompiled.specs.Decompiled.{lone_parts, held_flags, text_of, IsDecompiled}

-- the body that is printed of a tree
abbrev printed_of : WorldOf → Parts → Stms → Body
printed_of world parts tree = printed_body (known_in world.headers world.members parts.typed.code) (head_of parts.typed.code) parts.vars.kinds (entry_of parts) 0 tree

tree_kept : (world : WorldOf) (parts : Parts) (tree : Stms) → IsBodyOfCode parts.typed.code (printed_of world parts tree)
tree_kept world parts tree = record { class = refl; name = refl; flags = refl; descriptor = refl; thrown = refl }

some_body : (one other : Body) → Some one ≡ Some other → one ≡ other
some_body one other e = cc

-- what is printed of code has its head
head_kept : (world : WorldOf) (parts : Parts) (body : Body) → printed_lone world.headers world.members parts ≡ Some body → IsBodyOfCode parts.typed.code body
head_kept world parts body printed = by (lone_tree (known_in world.headers world.members parts.typed.code) parts) printed
  where
    by : (found : Option Stms) → and_then {A = Stms} {B = Body} found (λ tree. Some (printed_of world parts tree)) ≡ Some body → IsBodyOfCode parts.typed.code body
    by None e = absurd (cc)
    by (Some tree) e = subst (IsBodyOfCode parts.typed.code) (some_body (printed_of world parts tree) body e) (tree_kept world parts tree)

-- an interface's code is that
interface_alike : (code : Code) (flags : ℕ) → IsTrue code.interface ↔ IsBitSet flags 9 → code.interface ≡ is_interface flags
interface_alike code flags interface = same_from_decides code.interface (is_interface flags) (interface.0, interface.1) (bit_set (bit_and flags 512))

-- the flags that are given back
flags_alike : (code : Code) (interface : Bool) (method : MethodOf) (body : Body) → code.name ≡ method.name → code.flags ≡ method.flags → code.interface ≡ interface → held_flags code ≡ held_method interface (bare_method method (Some body))
flags_alike code interface method body name flags alike =
    ap (λ (n : Name). if is_initialiser n then 0x0008 else bit_or (bit_and code.flags (method_bits code.interface)) (if code.interface then 0x0001 else 0)) name
    ∙ ap (λ (f : ℕ). if is_initialiser method.name then 0x0008 else bit_or (bit_and f (method_bits code.interface)) (if code.interface then 0x0001 else 0)) flags
    ∙ ap (λ (i : Bool). if is_initialiser method.name then 0x0008 else bit_or (bit_and method.flags (method_bits i)) (if i then 0x0001 else 0)) alike

-- a name that can be written, under other words for the same
named_so : (body : Body) (flags : ℕ) (name : Name) (descriptor : Descriptor) (thrown : List Name) → body.flags ≡ flags → body.name ≡ name → body.descriptor ≡ descriptor → body.thrown ≡ thrown → HasMethodName (text_of body)
    → HasMethodName (record { flags = flags; name = name; descriptor = descriptor; thrown = thrown; body = Some body })
named_so body flags name descriptor thrown same_flags same_name same_descriptor same_thrown has =
    subst (λ (t : List Name). HasMethodName (record { flags = flags; name = name; descriptor = descriptor; thrown = t; body = Some body })) same_thrown
    (subst (λ (d : Descriptor). HasMethodName (record { flags = flags; name = name; descriptor = d; thrown = body.thrown; body = Some body })) same_descriptor
    (subst (λ (n : Name). HasMethodName (record { flags = flags; name = n; descriptor = body.descriptor; thrown = body.thrown; body = Some body })) same_name
    (subst (λ (f : ℕ). HasMethodName (record { flags = f; name = body.name; descriptor = body.descriptor; thrown = body.thrown; body = Some body })) same_flags has)))

-- the head of a body, as the method has it
record HasHead (interface : Bool) (class : ClassOf) (method : MethodOf) (body : Body) : Type 0 where
  own : body.class ≡ class.this_class
  flags : body.flags ≡ held_method interface (bare_method method (Some body))
  name : body.name ≡ method.name
  descriptor : body.descriptor ≡ method.descriptor
  thrown : body.thrown ≡ method.thrown

head_is : (world : WorldOf) (class : ClassOf) (method : MethodOf) (typed : Typed) (body : Body) → SpellsCode class method typed.code → IsDecompiled world typed body → HasHead (is_interface class.flags) class method body
head_is world class method typed body spelled is =
    let own = head_kept world (lone_parts typed is.vars) is.made is.printed in
    record {
      own = ap (λ (b : Body). b.class) is.is ∙ own.class ∙ spelled.head.class_is;
      flags = ap (λ (b : Body). b.flags) is.is ∙ flags_alike typed.code (is_interface class.flags) method body spelled.head.name spelled.head.flags (interface_alike typed.code class.flags spelled.head.interface);
      name = ap (λ (b : Body). b.name) is.is ∙ own.name ∙ spelled.head.name;
      descriptor = ap (λ (b : Body). b.descriptor) is.is ∙ own.descriptor ∙ spelled.head.descriptor;
      thrown = ap (λ (b : Body). b.thrown) is.is ∙ own.thrown ∙ spelled.head.thrown;
    }

-- the body of decompiled code fits the method
pub decompiled_fits : (world : WorldOf) (class : ClassOf) (method : MethodOf) (typed : Typed) (body : Body) → SpellsCode class method typed.code → IsDecompiled world typed body → FitsBody (is_interface class.flags) class.this_class method body
decompiled_fits world class method typed body spelled is = λ helper rethrows.
    let head = head_is world class method typed body spelled is in
    record {
      name = named_so body (held_method (is_interface class.flags) (bare_method method (Some body))) method.name method.descriptor method.thrown head.flags head.name head.descriptor head.thrown is.writable.name;
      descriptor = subst IsMethodDescriptor head.descriptor is.writable.descriptor;
      thrown = subst (AllByRecursion IsQualified) head.thrown is.writable.thrown;
      flags = method_flags_kept (is_interface class.flags) (bare_method method (Some body));
      body = record {
        head = record { class = head.own; flags = head.flags; name = head.name; descriptor = head.descriptor; thrown = head.thrown };
        statements = is.writable.statements helper;
      };
    }
