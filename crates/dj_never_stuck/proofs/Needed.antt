-- What the premises are for: a body or an expression that keeps all rules, by tests that let each name be written, and is stuck where one of them isn't met.
use Rattle.std.proofs.Common.{◌≡◌, ℕ, true, false, List, [], ◌∷◌, Option, Some, None, refl}
use Rattle.std.specs.Prelude.{pos, codes}
use Rattle.dj_names.specs.declared.header.Header.{Header}
use Rattle.dj_names.specs.declared.members.ClassMembers.{ClassMembers}
use Rattle.dj_names.specs.declared.members.Constant.TheVariants as constants
use Rattle.dj_names.specs.declared.descriptor.Descriptor.TheVariants as descriptor
use Rattle.dj_names.specs.Headers.{Name}
use Rattle.dj_names.specs.Types as types
use Rattle.dj_names.specs.Types.{JType, Class, Array, Method}
use Rattle.dj_syntax.specs.declared.variable.Var.{Var}
use Rattle.dj_syntax.specs.declared.variable.VarKind.TheVariants.{Param}
use Rattle.dj_syntax.specs.Trees.{Exp, Null, Variable, Static, Call, StaticCall, NoExps, AndExp, Stm, Declare, Run, Throw, Construct, stms_of, Body}
use Rattle.dj_syntax.specs.Trees as trees
use Rattle.dj_values.specs.Values.{Numbered, Value, Ref, Done}
use Rattle.dj_values.specs.Outcomes.{Throws, More, Stuck, Outcome, Is, Stops}
use Rattle.dj_meaning.specs.Members.{Members}
use Rattle.dj_meaning.specs.StaticTypes.{Context, Scope}
use Rattle.dj_meaning.specs.Expressions.{value}
use Rattle.dj_typing.specs.Sites.{Site}
use Rattle.dj_typing.specs.Expressions.{exp_types}
use Rattle.dj_meaning.specs.Meaning.{run_body, context_of, entered}
use Rattle.dj_faults.specs.Faults.{first_fault}
use Rattle.dj_typed.specs.Bodies.{Writing, body_rules}

-- a run is stuck
abbrev IsStuck : {S A : Type 0} → Outcome S A → Type 0
IsStuck (Is result state) = ⊥
IsStuck (Stops (Throws reference) state) = ⊥
IsStuck (Stops More state) = ⊥
IsStuck (Stops Stuck state) = Unit {0}

abbrev writing : Writing
writing = record { can_say = λ name. true; can_name = λ name. true }

abbrev object : Name
object = codes "java/lang/Object"

abbrev throwable : Name
throwable = codes "java/lang/Throwable"

abbrev class_of : Name → Option Name → List Name → ℕ → Header
class_of name superclass interfaces flags = record { name = name; superclass = superclass; interfaces = interfaces; flags = flags }

abbrev nothing_in : ClassMembers
nothing_in = record { fields = []; methods = []; named = [] }

-- `static .. t(..)` of C
abbrev body_of : ℕ → Name → List JType → Option JType → List Stm → Body
body_of flags name parameters result list = record { class = codes "C"; flags = flags; name = name; descriptor = Method parameters result; thrown = throwable ∷ []; statements = stms_of list }

abbrev parameter : ℕ → Var
parameter number = record { kind = Param; number = number }

abbrev one_of : JType → Value
one_of class = Ref (record { id = Numbered 1; class = class; length = 0 })

-- ---- Throwable is an interface in the world: `class C implements Throwable`, `static void t(C p0) { throw p0; }`

abbrev interface_world : List Header
interface_world = class_of (codes "C") (Some object) (throwable ∷ []) 0x0021 ∷ class_of throwable (Some object) [] 0x0601 ∷ class_of object None [] 0x0021 ∷ []

abbrev interface_body : Body
interface_body = body_of 0x0008 (codes "t") (Class (codes "C") ∷ []) None (Throw (Variable (parameter 0)) ∷ [])

interface_kept : first_fault (body_rules writing interface_world (nothing_in ∷ nothing_in ∷ nothing_in ∷ []) interface_body) ≡ None
interface_kept = refl

interface_stuck : IsStuck (run_body (context_of interface_world (nothing_in ∷ nothing_in ∷ nothing_in ∷ []) interface_body (one_of (Class (codes "C")) ∷ [])) interface_body 1 (entered (one_of (Class (codes "C")) ∷ []) []))
interface_stuck = tt

-- ---- another class lists the class Throwable among its interfaces: `static void t(Throwable p0) { throw p0; }`

abbrev plain_world : List Header
plain_world = class_of (codes "C") (Some object) [] 0x0021 ∷ class_of throwable (Some object) [] 0x0021 ∷ class_of object None [] 0x0021 ∷ []

abbrev listing_headers : List Header
listing_headers =
    class_of (codes "C") (Some object) [] 0x0021 ∷ class_of throwable (Some object) [] 0x0021 ∷ class_of object None [] 0x0021 ∷ class_of (codes "D") (Some object) (throwable ∷ []) 0x0021 ∷ []

abbrev throwing_body : Body
throwing_body = body_of 0x0008 (codes "t") (Class throwable ∷ []) None (Throw (Variable (parameter 0)) ∷ [])

listing_kept : first_fault (body_rules writing plain_world (nothing_in ∷ nothing_in ∷ nothing_in ∷ []) throwing_body) ≡ None
listing_kept = refl

listing_stuck : IsStuck (run_body (context_of listing_headers (nothing_in ∷ nothing_in ∷ nothing_in ∷ []) throwing_body (one_of (Class (codes "D")) ∷ [])) throwing_body 1 (entered (one_of (Class (codes "D")) ∷ []) []))
listing_stuck = tt

-- ---- Cloneable is a class below Throwable, and an array goes there: `static void t(Cloneable p0) { throw p0; }`

abbrev cloneable_world : List Header
cloneable_world = class_of (codes "C") (Some object) [] 0x0021 ∷ class_of (codes "java/lang/Cloneable") (Some throwable) [] 0x0021 ∷ class_of throwable (Some object) [] 0x0021 ∷ class_of object None [] 0x0021 ∷ []

abbrev cloneable_body : Body
cloneable_body = body_of 0x0008 (codes "t") (Class (codes "java/lang/Cloneable") ∷ []) None (Throw (Variable (parameter 0)) ∷ [])

cloneable_kept : first_fault (body_rules writing cloneable_world (nothing_in ∷ nothing_in ∷ nothing_in ∷ nothing_in ∷ []) cloneable_body) ≡ None
cloneable_kept = refl

cloneable_stuck : IsStuck (run_body (context_of cloneable_world (nothing_in ∷ nothing_in ∷ nothing_in ∷ nothing_in ∷ []) cloneable_body (one_of (Array types.Int) ∷ [])) cloneable_body 1 (entered (one_of (Array types.Int) ∷ []) []))
cloneable_stuck = tt

-- ---- `clone` of Object gives nothing: `static Object t(int[] p0) { return p0.clone(); }`

abbrev clone_members : List ClassMembers
clone_members =
    nothing_in ∷ nothing_in ∷ record { fields = []; methods = record { flags = 0x0004; name = codes "clone"; descriptor = descriptor.Method [] None; thrown = [] } ∷ []; named = [] } ∷ []

abbrev clone_body : Body
clone_body = body_of 0x0008 (codes "t") (Array types.Int ∷ []) (Some (Class object)) (trees.Return (Some (Call (Variable (parameter 0)) (codes "clone") NoExps)) ∷ [])

clone_kept : first_fault (body_rules writing plain_world clone_members clone_body) ≡ None
clone_kept = refl

clone_stuck : IsStuck (run_body (context_of plain_world clone_members clone_body (one_of (Array types.Int) ∷ [])) clone_body 1 (entered (one_of (Array types.Int) ∷ []) (Done ∷ [])))
clone_stuck = tt

-- ---- a static constructor: `static <init>() { super(); }`

abbrev constructor_members : List ClassMembers
constructor_members =
    nothing_in ∷ nothing_in ∷ record { fields = []; methods = record { flags = 0x0001; name = codes "<init>"; descriptor = descriptor.Method [] None; thrown = [] } ∷ []; named = [] } ∷ []

abbrev constructor_body : Body
constructor_body = body_of 0x0008 (codes "<init>") [] None (Construct false NoExps ∷ [])

constructor_kept : first_fault (body_rules writing plain_world constructor_members constructor_body) ≡ None
constructor_kept = refl

constructor_stuck : IsStuck (run_body (context_of plain_world constructor_members constructor_body []) constructor_body 1 (entered [] []))
constructor_stuck = tt

-- ---- a static final field of type Object has an int as its constant: `C.s`

abbrev no_members : Members
no_members = record { fields = []; methods = [] }

abbrev constant_members : List Members
constant_members =
    record { fields = record { flags = 0x0019; name = codes "s"; type = Class object; constant = Some (constants.Int (pos 5)) } ∷ []; methods = [] } ∷ no_members ∷ no_members ∷ []

abbrev no_scope : Scope
no_scope variable = None

abbrev site_of : List Header → List Members → Site
site_of headers members = record { headers = headers; members = members; class = codes "C"; has_this = false; can_say = λ name. true; can_name = λ name. true }

abbrev known_by : List Header → List Members → Context
known_by headers members = record { headers = headers; members = members; class = codes "C"; result = None; this = None; constructs = false }

constant_kept : first_fault (exp_types (site_of plain_world constant_members) no_scope 0 (Static (codes "C") (codes "s"))) ≡ None
constant_kept = refl

constant_stuck : IsStuck (value (known_by plain_world constant_members) no_scope (Static (codes "C") (codes "s")) (entered [] []))
constant_stuck = tt

-- ---- Object lists an interface that the world hasn't, and no class stands above C: `C.m(null)`, of `m(Object)` and `m(I)`

abbrev object_world : List Header
object_world = class_of (codes "C") None [] 0x0021 ∷ class_of object None (codes "I" ∷ []) 0x0021 ∷ []

abbrev object_headers : List Header
object_headers = class_of (codes "C") None [] 0x0021 ∷ class_of object None (codes "I" ∷ []) 0x0021 ∷ class_of (codes "I") None [] 0x0601 ∷ []

abbrev object_members : List Members
object_members =
    record {
      fields = [];
      methods =
          record { flags = 0x0009; name = codes "m"; descriptor = Method (Class object ∷ []) (Some types.Int) }
          ∷ record { flags = 0x0009; name = codes "m"; descriptor = Method (Class (codes "I") ∷ []) (Some types.Int) } ∷ [];
    }
    ∷ no_members ∷ []

object_kept : first_fault (exp_types (site_of object_world object_members) no_scope 0 (StaticCall (codes "C") (codes "m") (AndExp Null NoExps))) ≡ None
object_kept = refl

object_stuck : IsStuck (value (known_by object_headers object_members) no_scope (StaticCall (codes "C") (codes "m") (AndExp Null NoExps)) (entered [] []))
object_stuck = tt
