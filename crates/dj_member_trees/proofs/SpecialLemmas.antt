-- What `invokespecial` builds, step by step.
use Rattle.std.proofs.Common.{◌≡◌, ℕ, zero, suc, ◌+◌, Bool, true, false, List, [], ◌∷◌, length, arith, rules, Option, Some, None, refl, sym, ap, ◌∙◌}
use Rattle.std.proofs.lemmas.List.{length-map}
use Rattle.std.specs.Prelude.{if◌then◌else◌, slice_get, is_some, ◌&&◌}
use Rattle.dj_names.specs.Headers.{Name}
use Rattle.dj_names.specs.MethodNames.{is_constructor}
use Rattle.dj_names.specs.declared.types.JType as code
use Rattle.dj_names.specs.declared.types.JType.{the_lemmas}
use Rattle.dj_names.specs.declared.types.JType.TheVariants as variants
use Rattle.dj_names.specs.Types.{JType, Class, StaticType, Of, Descriptor, view_type, view_types, parameters_of, result_of}
use Rattle.dj_syntax.specs.Trees.{Exp, Call, SuperCall, New, Stms}
use Rattle.dj_instructions.specs.Instructions.{MethodRef}
use Rattle.dj_values.specs.Fits.{class_of}
use Rattle.dj_values.specs.Deciding.{is_type}
use Rattle.dj_bytecode.specs.Meanings.{arguments_of}
use Rattle.dj_places.specs.Constants.{Surroundings}
use Rattle.dj_rebuilding.specs.Pending.{Pending, Whole, Built, Typed, and_then}
use Rattle.dj_rebuilt.specs.Rebuilding.{ended_birth, dropped}
use Rattle.dj_member_nodes.specs.Nodes.{is_this}
use Rattle.dj_pending.specs.Births.{is_unborn_entry}
use Rattle.dj_pending.specs.Operands.{taken_from}
use Rattle.dj_pending.specs.Spilling.{behind}
use Rattle.dj_pending.proofs.NumberLemmas.{goes-on, stops, pushed-as}
use Rattle.dj_member_trees.specs.Fitting.{receiver}
use Rattle.dj_member_trees.specs.Calling.{arguments_in, own_arguments, object_called, class_above, super_in, super_by, super_called, result_built, called_built, is_birth_at, once_ended, birth_called, birth_ended, birth_built, special_called, special_built}

-- ---- an object whose birth has begun at a place

pub birth-there : (place : ℕ) (stack : List Pending) (top : Pending) → Some top ≡ slice_get stack place → is_unborn_entry top ≡ is_birth_at place stack
birth-there place [] top e = absurd (cc)
birth-there zero (first ∷ rest) top e = let same : top ≡ first = cc in ap is_unborn_entry same
birth-there (suc place) (first ∷ rest) top e = birth-there place rest top e

pub birth-nowhere : (place : ℕ) (stack : List Pending) → None ≡ slice_get stack place → false ≡ is_birth_at place stack
birth-nowhere place [] e = refl
birth-nowhere zero (first ∷ rest) e = absurd (cc)
birth-nowhere (suc place) (first ∷ rest) e = birth-nowhere place rest e

module _ (known : Surroundings) (method : MethodRef) (emitted : Stms) (n : ℕ) where
  -- ---- births that are ended

  module _ (class : Name) (are : List Typed) (below : List Pending) where
    pub once-nothing : None ≡ birth_called known method class are → None ≡ behind emitted (once_ended known method class n are below)
    once-nothing none = stops emitted (birth_called known method class are) (result_built n below None) none

    pub once-given : (exp : Exp) (built : Option Built) → Some exp ≡ birth_called known method class are → built ≡ behind emitted (result_built n below None exp) → built ≡ behind emitted (once_ended known method class n are below)
    once-given exp built first is = goes-on emitted (birth_called known method class are) (result_built n below None) exp built first is

    pub twice-nothing : None ≡ birth_called known method class are → None ≡ behind emitted (ended_birth n class below (birth_called known method class are))
    twice-nothing none = ap (λ (found : Option Exp). behind emitted (ended_birth n class below found)) none

    pub twice-pushed : (exp : Exp) (kind : StaticType) (built : Built) → Some exp ≡ birth_called known method class are → kind ≡ Of (Class class) → built ≡ record { emitted = emitted; stack = Whole kind exp ∷ below; next = n }
        → Some built ≡ behind emitted (ended_birth n class below (birth_called known method class are))
    twice-pushed exp kind built first of is =
        pushed-as emitted n below kind (Of (Class class)) exp exp built of refl is ∙ ap (λ (found : Option Exp). behind emitted (ended_birth n class below found)) first

  -- ---- what is taken before

  module _ (stack : List Pending) where
    abbrev ended_with : List Typed × List Pending → Option Built
    ended_with found = birth_ended known method n found.0 found.1

    pub birth-nothing : None ≡ taken_from (arguments_of method.descriptor) [] stack → None ≡ behind emitted (birth_built known method n stack)
    birth-nothing none = stops emitted (taken_from (arguments_of method.descriptor) [] stack) ended_with none

    pub birth-goes : (are : List Typed) (below : List Pending) (built : Option Built) → Some (are, below) ≡ taken_from (arguments_of method.descriptor) [] stack → built ≡ behind emitted (birth_ended known method n are below)
        → built ≡ behind emitted (birth_built known method n stack)
    birth-goes are below built first is = goes-on emitted (taken_from (arguments_of method.descriptor) [] stack) ended_with (are, below) built first is

  module _ (count : ℕ) (called : List Typed → Option Exp) (given : Option JType) (stack : List Pending) where
    abbrev called_as : List Typed × List Pending → Exp → Option Built
    called_as found = result_built n found.1 given

    abbrev called_with : List Typed × List Pending → Option Built
    called_with found = and_then (called found.0) (called_as found)

    pub call-nothing : None ≡ taken_from count [] stack → None ≡ behind emitted (called_built count called given n stack)
    call-nothing none = stops emitted (taken_from count [] stack) called_with none

    pub call-none : (are : List Typed) (below : List Pending) → Some (are, below) ≡ taken_from count [] stack → None ≡ called are → None ≡ behind emitted (called_built count called given n stack)
    call-none are below first none = goes-on emitted (taken_from count [] stack) called_with (are, below) None first (stops emitted (called are) (called_as (are, below)) none)

    pub call-given : (are : List Typed) (below : List Pending) (exp : Exp) (built : Option Built) → Some (are, below) ≡ taken_from count [] stack → Some exp ≡ called are → built ≡ behind emitted (result_built n below given exp)
        → built ≡ behind emitted (called_built count called given n stack)
    call-given are below exp built first second is =
        goes-on emitted (taken_from count [] stack) called_with (are, below) built first (goes-on emitted (called are) (called_as (are, below)) exp built second is)

  -- ---- which of them

  pub special-birth : (stack : List Pending) (built : Option Built) → is_birth_at (arguments_of method.descriptor) stack ≡ true → built ≡ behind emitted (birth_built known method n stack) → built ≡ behind emitted (special_built known method n stack)
  special-birth stack built at is =
      is ∙ ap (λ (test : Bool). behind emitted (if test then birth_built known method n stack else called_built (arguments_of method.descriptor + 1) (special_called known method) (result_of method.descriptor) n stack)) (sym at)

  pub special-call : (stack : List Pending) (built : Option Built) → is_birth_at (arguments_of method.descriptor) stack ≡ false
      → built ≡ behind emitted (called_built (arguments_of method.descriptor + 1) (special_called known method) (result_of method.descriptor) n stack) → built ≡ behind emitted (special_built known method n stack)
  special-call stack built at is =
      is ∙ ap (λ (test : Bool). behind emitted (if test then birth_built known method n stack else called_built (arguments_of method.descriptor + 1) (special_called known method) (result_of method.descriptor) n stack)) (sym at)

-- ---- calls may stand alone

abbrev IsCall : Exp → Type 0
IsCall exp = is_some (dropped exp) ≡ true

-- what is made of something is a call, where each that can be made is
made-call : {A : Type 0} (found : Option A) (make : A → Exp) → ((one : A) → IsCall (make one)) → (exp : Exp) → Some exp ≡ and_then found (λ one. Some (make one)) → IsCall exp
made-call None make are exp e = absurd (cc)
made-call (Some one) make are exp e = let same : exp ≡ make one = cc in ap (λ found. is_some (dropped found)) same ∙ are one

next-call : {A : Type 0} (found : Option A) (next : A → Option Exp) → ((one : A) (exp : Exp) → Some exp ≡ next one → IsCall exp) → (exp : Exp) → Some exp ≡ and_then found next → IsCall exp
next-call None next are exp e = absurd (cc)
next-call (Some one) next are exp e = are one exp e

if-call : (test : Bool) (first second : Option Exp) → ((exp : Exp) → Some exp ≡ first → IsCall exp) → ((exp : Exp) → Some exp ≡ second → IsCall exp) → (exp : Exp) → Some exp ≡ (if test then first else second) → IsCall exp
if-call true first second one other exp e = one exp e
if-call false first second one other exp e = other exp e

nothing-call : (exp : Exp) → Some exp ≡ None → IsCall exp
nothing-call exp e = absurd (cc)

module _ (known : Surroundings) (method : MethodRef) where
  pub born-call : (class : Name) (are : List Typed) (exp : Exp) → Some exp ≡ birth_called known method class are → IsCall exp
  born-call class are =
      if-call (is_constructor method.name && is_type method.owner (Class class)) (and_then (arguments_in known class method are) (λ more. Some (New class more))) None
      (made-call (arguments_in known class method are) (New class) (λ more. refl)) nothing-call

  object-call : (are : List Typed) (exp : Exp) → Some exp ≡ object_called known method are → IsCall exp
  object-call [] = nothing-call
  object-call (object ∷ arguments) =
      next-call (receiver known.headers method.owner object) (λ on. and_then (own_arguments known method arguments) (λ more. Some (Call on method.name more)))
      (λ on. made-call (own_arguments known method arguments) (Call on method.name) (λ more. refl))

  super-in-call : (class : Name) (named : Bool) (are : List Typed) (exp : Exp) → Some exp ≡ super_in known class named method are → IsCall exp
  super-in-call class named are = made-call (arguments_in known class method are) (SuperCall (if named then Some class else None) method.name) (λ more. refl)

  super-by-call : (are : List Typed) (found : Option Name) (exp : Exp) → Some exp ≡ super_by known method are found → IsCall exp
  super-by-call are None = next-call (class_of method.owner) (λ class. super_in known class true method are) (λ class. super-in-call class true are)
  super-by-call are (Some class) = super-in-call class false are

  super-call : (are : List Typed) (exp : Exp) → Some exp ≡ super_called known method are → IsCall exp
  super-call [] = nothing-call
  super-call (object ∷ arguments) = if-call (is_this object.1) (super_by known method arguments (class_above known method)) None (super-by-call arguments (class_above known method)) nothing-call

  pub special-is-call : (are : List Typed) (exp : Exp) → Some exp ≡ special_called known method are → IsCall exp
  special-is-call are =
      if-call (is_constructor method.name) None (if is_type method.owner (Class known.class) then object_called known method are else super_called known method are) nothing-call
      (if-call (is_type method.owner (Class known.class)) (object_called known method are) (super_called known method are) (object-call are) (super-call are))

-- ---- how many arguments

pub counted : (list : List code.JType) (descriptor : Descriptor) → view_types list ≡ parameters_of descriptor → length list ≡ arguments_of descriptor
counted list descriptor e = let mapped = length-map list view_type in let same : length (view_types list) ≡ length (parameters_of descriptor) = ap length e in omega (arith, mapped, same)

-- a class, as it is seen
pub class-viewed : (name : Name) → view_type (variants.Class name) ≡ Class name
class-viewed name = search (rules, the_lemmas)
