-- The premises on members and heads can be met: a world of three classes, and `static void t(Throwable p0) { throw p0; }`.
use Rattle.std.proofs.Common.{◌≡◌, Bool, true, false, List, [], ◌∷◌, Contains, Option, Some, None, map, codes, refl, subst, if◌then◌else◌, arith}
use Rattle.std.proofs.lemmas.Bool.{false≢true}
use Rattle.dj_names.specs.declared.header.Header.{Header}
use Rattle.dj_names.specs.declared.members.ClassMembers.{ClassMembers}
use Rattle.dj_names.specs.Headers.{Name}
use Rattle.dj_names.specs.Types.{Class, Method}
use Rattle.dj_syntax.specs.declared.variable.VarKind.TheVariants.{Param}
use Rattle.dj_syntax.specs.Trees.{Variable, Throw, stms_of, Body}
use Rattle.dj_meaning.specs.Members.{Members, view_members}
use Rattle.dj_meaning.specs.Visible.{members_of, fields_in, methods_in}
use Rattle.dj_values.specs.Deciding.{is_name}
use Rattle.dj_held.specs.Running.{AreMembers}
use Rattle.dj_never_stuck.specs.NeverStuck.{IsMethodBody}

abbrev class_of : Name → Option Name → Header
class_of name superclass = record { name = name; superclass = superclass; interfaces = []; flags = 0x0021 }

abbrev world : List Header
world = class_of (codes "C") (Some (codes "java/lang/Object")) ∷ class_of (codes "java/lang/Throwable") (Some (codes "java/lang/Object")) ∷ class_of (codes "java/lang/Object") None ∷ []

abbrev nothing_in : ClassMembers
nothing_in = record { fields = []; methods = []; named = [] }

abbrev members : List ClassMembers
members = nothing_in ∷ nothing_in ∷ nothing_in ∷ []

abbrev body : Body
body = record {
  class = codes "C";
  flags = 0x0008;
  name = codes "t";
  descriptor = Method (Class (codes "java/lang/Throwable") ∷ []) None;
  thrown = codes "java/lang/Throwable" ∷ [];
  statements = stms_of (Throw (Variable (record { kind = Param; number = 0 })) ∷ []);
}

-- ---- no class declares anything

abbrev HasNothing : Option Members → Type 0
HasNothing found = (fields_in found ≡ []) × (methods_in found ≡ [])

choose_nothing : (test : Bool) (found : Option Members) → HasNothing found → HasNothing (if test then Some (view_members nothing_in) else found)
choose_nothing true found nothing = (refl, refl)
choose_nothing false found nothing = nothing

declares_nothing : (class : Name) → HasNothing (members_of world (map view_members members) class)
declares_nothing class =
    choose_nothing (is_name (codes "C") class) (if is_name (codes "java/lang/Throwable") class then Some (view_members nothing_in) else (if is_name (codes "java/lang/Object") class then Some (view_members nothing_in) else None))
    (choose_nothing (is_name (codes "java/lang/Throwable") class) (if is_name (codes "java/lang/Object") class then Some (view_members nothing_in) else None)
    (choose_nothing (is_name (codes "java/lang/Object") class) None (refl, refl)))

none_within : {A : Type 0} (xs : List A) (x : A) → xs ≡ [] → ¬ Contains xs x
none_within xs x none there = let within = subst (λ list. Contains list x) none there in omega (arith, within.1)

are_members : AreMembers world (map view_members members)
are_members = record {
  paired = refl;
  constants = λ class field kept there same. absurd (none_within (fields_in (members_of world (map view_members members) class)) field (declares_nothing class).0 there);
  clones = λ method there named without.
      absurd (none_within (methods_in (members_of world (map view_members members) (codes "java/lang/Object"))) method (declares_nothing (codes "java/lang/Object")).1 there);
}

is_method_body : IsMethodBody body
is_method_body = record { constructor = λ is. absurd (false≢true is); parameters = omega arith }
