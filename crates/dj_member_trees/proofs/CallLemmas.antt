-- Calls whose operands are tested one by one are those of the definition.
use Rattle.std.proofs.Common.{◌≡◌, Bool, true, false, List, [], ◌∷◌, Option, Some, None, refl, sym, ap, ◌∙◌}
use Rattle.std.specs.Prelude.{if◌then◌else◌, ◌&&◌, ◌||◌, not, codes}
use Rattle.dj_names.specs.declared.header.Header.{Header}
use Rattle.dj_names.specs.Headers.{Name}
use Rattle.dj_names.specs.MethodNames.{is_constructor}
use Rattle.dj_names.specs.Types.{JType, Class, parameters_of}
use Rattle.dj_names.specs.Descriptors.{spell_type}
use Rattle.dj_kinds.specs.Search.{header_of, superclass_in}
use Rattle.dj_kinds.specs.Choice.{searched_class}
use Rattle.dj_syntax.specs.Trees.{Exp, Exps, AndExp, Call, StaticCall, SuperCall, New}
use Rattle.dj_instructions.specs.Instructions.{MethodRef}
use Rattle.dj_values.specs.Fits.{class_of}
use Rattle.dj_values.specs.Deciding.{is_name, is_type, is_reference, is_some_and, is_subclass, is_interface}
use Rattle.dj_values.proofs.Deciding.{Decides-name}
use Rattle.dj_bytecode.specs.Objects as machine
use Rattle.dj_bytecode.specs.Objects.{special_owner}
use Rattle.dj_places.specs.Constants.{Surroundings}
use Rattle.dj_typing.specs.Expressions.{is_whole_static}
use Rattle.dj_rebuilding.specs.Pending.{Typed, and_then}
use Rattle.dj_members_shown.specs.Alone.{is_alone, is_alone_in}
use Rattle.dj_members_shown.specs.Casts.{dressed}
use Rattle.dj_members_shown.specs.Operands.{all_dressed}
use Rattle.dj_member_nodes.specs.Going.{fits_in, all_fit, are_whole, may_be_given, froms_of, exps_of}
use Rattle.dj_member_nodes.specs.Nodes.{given_to, object_call, class_call, is_this, is_above, super_call, special_call, birth_of}
use Rattle.dj_member_trees.specs.Given.{given}
use Rattle.dj_member_trees.specs.Calling.{arguments_in, own_arguments, object_called, class_called, starts_above, class_above, super_in, super_named, super_by, super_called, special_called, birth_called}

-- ---- arguments

-- all arguments of a call, where they may be given
abbrev all_given : Bool → Exps → Option Exps
all_given fits exps = if fits then Some exps else None

one-given : (whole fits all_rest_fit all_whole : Bool) (one : Exp) (rest : Exps) (found : Option Exps) → found ≡ all_given (all_rest_fit && all_whole) rest
    → and_then (if whole then (if fits then Some one else None) else None) (λ exp. and_then found (λ more. Some (AndExp exp more))) ≡ all_given ((fits && all_rest_fit) && (whole && all_whole)) (AndExp one rest)
one-given true true true true one rest found is = ap (λ (other : Option Exps). and_then other (λ more. Some (AndExp one more))) is
one-given true true true false one rest found is = ap (λ (other : Option Exps). and_then other (λ more. Some (AndExp one more))) is
one-given true true false true one rest found is = ap (λ (other : Option Exps). and_then other (λ more. Some (AndExp one more))) is
one-given true true false false one rest found is = ap (λ (other : Option Exps). and_then other (λ more. Some (AndExp one more))) is
one-given true false all_rest_fit all_whole one rest found is = refl
one-given false true true all_whole one rest found is = refl
one-given false true false all_whole one rest found is = refl
one-given false false all_rest_fit all_whole one rest found is = refl

pub given-is : (world : List Header) (alone : Bool) (are : List Typed) (tos : List JType)
    → given world alone are tos ≡ all_given (may_be_given world are tos) (all_dressed world alone (froms_of are) tos (exps_of are))
given-is world alone [] [] = refl
given-is world alone [] (to ∷ tos) = refl
given-is world alone (first ∷ rest) [] = refl
given-is world alone (first ∷ rest) (to ∷ tos) =
    one-given (is_whole_static world first.0) (fits_in world first.0 to) (all_fit world rest tos) (are_whole world rest) (dressed world alone first.0 to first.1) (all_dressed world alone (froms_of rest) tos (exps_of rest)) (given world alone rest tos) (given-is world alone rest tos)

-- ---- calls on objects and of classes

module _ (known : Surroundings) (method : MethodRef) where
  -- they may be given
  abbrev may : List Typed → Bool
  may are = may_be_given known.headers are (parameters_of method.descriptor)

  by-object : (reference fits all : Bool) (on : Exp) (more : Exps) (found : Option Exps) → found ≡ all_given all more
      → and_then (if reference then (if fits then Some on else None) else None) (λ object. and_then found (λ exps. Some (Call object method.name exps))) ≡ (if reference && (fits && all) then Some (Call on method.name more) else None)
  by-object true true true on more found is = ap (λ (other : Option Exps). and_then other (λ exps. Some (Call on method.name exps))) is
  by-object true true false on more found is = ap (λ (other : Option Exps). and_then other (λ exps. Some (Call on method.name exps))) is
  by-object true false all on more found is = refl
  by-object false fits all on more found is = refl

  pub object-called : (are : List Typed) → object_called known method are ≡ object_call known method are
  object-called [] = refl
  object-called (object ∷ arguments) =
      by-object (is_reference method.owner) (fits_in known.headers object.0 method.owner) (may arguments) (dressed known.headers false object.0 method.owner object.1) (given_to known method method.name (searched_class method.owner) arguments)
      (own_arguments known method arguments) (given-is known.headers (is_alone_in known.headers known.members method.name (searched_class method.owner) (parameters_of method.descriptor)) arguments (parameters_of method.descriptor))

  -- those of a method that is looked for in a class
  arguments-are : (class : Name) (are : List Typed) → arguments_in known class method are ≡ all_given (may are) (given_to known method method.name (Some class) are)
  arguments-are class are = given-is known.headers (is_alone known.headers known.members method.name class (parameters_of method.descriptor)) are (parameters_of method.descriptor)

  by-all : (all : Bool) (more : Exps) (found : Option Exps) (make : Exps → Exp) → found ≡ all_given all more → and_then found (λ exps. Some (make exps)) ≡ (if all then Some (make more) else None)
  by-all true more found make is = ap (λ (other : Option Exps). and_then other (λ exps. Some (make exps))) is
  by-all false more found make is = ap (λ (other : Option Exps). and_then other (λ exps. Some (make exps))) is

  none-if : (test : Bool) → None ≡ (if test then (let none : Option Exp = None in none) else None)
  none-if true = refl
  none-if false = refl

  pub class-called : (are : List Typed) → class_called known method are ≡ class_call known method are
  class-called are = by-class (class_of method.owner)
    where
      by-class : (found : Option Name)
          → and_then found (λ class. and_then (arguments_in known class method are) (λ more. Some (StaticCall class method.name more)))
          ≡ (if may are then and_then found (λ class. Some (StaticCall class method.name (given_to known method method.name (Some class) are))) else None)
      by-class None = none-if (may are)
      by-class (Some class) = by-all (may are) (given_to known method method.name (Some class) are) (arguments_in known class method are) (λ more. StaticCall class method.name more) (arguments-are class are)

-- ---- behind `super`

superclass-alike : (headers : List Header) (class : Name) → machine.superclass_in headers class ≡ superclass_in (header_of headers class)
superclass-alike [] class = refl
superclass-alike (header ∷ headers) class = by (is_name header.name class) (superclass-alike headers class)
  where
    by : (test : Bool) → machine.superclass_in headers class ≡ superclass_in (header_of headers class)
        → (if test then header.superclass else machine.superclass_in headers class) ≡ superclass_in (if test then Some header else header_of headers class)
    by true rest = refl
    by false rest = rest

same-class : (class : Name) → is_type (Class class) (Class class) ≡ true
same-class class = (Decides-name (spell_type (Class class)) (spell_type (Class class))).1 refl

module _ (known : Surroundings) (method : MethodRef) where
  -- where the machine's search begins, by the superclass
  abbrev start_by : Option Name → JType
  start_by None = method.owner
  start_by (Some superclass) =
      if not (is_constructor method.name) && is_some_and (class_of method.owner) (λ upper. is_subclass known.headers superclass upper) then Class superclass else method.owner

  start-of : (found : Option Name) → machine.superclass_in known.headers known.class ≡ found → special_owner known.headers known.class method ≡ start_by found
  start-of None none = rw none refl
  start-of (Some superclass) some = rw some refl

  start-is : (found : Option Name) → superclass_in (header_of known.headers known.class) ≡ found → special_owner known.headers known.class method ≡ start_by found
  start-is found is = start-of found (superclass-alike known.headers known.class ∙ is)

  by-start : (class : Name) (above : Bool) → is_type (if above then Class class else method.owner) (Class class) ≡ above || is_type method.owner (Class class)
  by-start class true = same-class class
  by-start class false = refl

  -- what is built, by whether the superclass is where the search begins
  abbrev if_above : Bool → Option Name → (Name → Option Exp) → Option Exp → Option Exp
  if_above interface found above other = if not interface && is_some_and found (λ class. is_type (special_owner known.headers known.class method) (Class class)) then and_then found above else other

  -- the class above
  abbrev above_in : Bool → Option Name → Option Name
  above_in interface found = if interface then None else and_then found (λ class. if starts_above known.headers class method then Some class else None)

  by-above : (are : List Typed) (interface : Bool) (found : Option Name) → superclass_in (header_of known.headers known.class) ≡ found
      → super_by known method are (above_in interface found) ≡ if_above interface found (λ class. super_in known class false method are) (super_named known method are)
  by-above are true found is = refl
  by-above are false None is = refl
  by-above are false (Some class) is =
      by-starts (starts_above known.headers class method)
      ∙ ap (λ (test : Bool). if test then super_in known class false method are else super_named known method are)
      (sym (ap (λ type. is_type type (Class class)) (start-is (Some class) is)
      ∙ by-start class (not (is_constructor method.name) && is_some_and (class_of method.owner) (λ upper. is_subclass known.headers class upper))))
    where
      by-starts : (test : Bool) → super_by known method are (if test then Some class else None) ≡ (if test then super_in known class false method are else super_named known method are)
      by-starts true = refl
      by-starts false = refl

  by-named : (are : List Typed) (found : Option Name)
      → and_then found (λ class. super_in known class true method are)
      ≡ (if may known method are then and_then found (λ interface. Some (SuperCall (Some interface) method.name (given_to known method method.name (Some interface) are))) else None)
  by-named are None = none-if known method (may known method are)
  by-named are (Some class) =
      by-all known method (may known method are) (given_to known method method.name (Some class) are) (arguments_in known class method are) (λ more. SuperCall (Some class) method.name more) (arguments-are known method class are)

  by-plain : (are : List Typed) (class : Name)
      → super_in known class false method are ≡ (if may known method are then Some (SuperCall None method.name (given_to known method method.name (Some class) are)) else None)
  by-plain are class = by-all known method (may known method are) (given_to known method method.name (Some class) are) (arguments_in known class method are) (λ more. SuperCall None method.name more) (arguments-are known method class are)

  -- the two ways, where arguments may be given
  by-ways : (are : List Typed) (interface : Bool) (found : Option Name) → superclass_in (header_of known.headers known.class) ≡ found
      → if_above interface found (λ class. super_in known class false method are) (super_named known method are)
      ≡ (if may known method are
      then (if not interface && is_some_and found (λ class. is_type (special_owner known.headers known.class method) (Class class))
      then Some (SuperCall None method.name (given_to known method method.name found are))
      else and_then (class_of method.owner) (λ interface. Some (SuperCall (Some interface) method.name (given_to known method method.name (Some interface) are))))
      else None)
  by-ways are true found is = by-named are (class_of method.owner)
  by-ways are false None is = by-named are (class_of method.owner)
  by-ways are false (Some class) is = by-test (is_type (special_owner known.headers known.class method) (Class class))
    where
      by-test : (test : Bool)
          → (if test then super_in known class false method are else super_named known method are)
          ≡ (if may known method are
          then (if test then Some (SuperCall None method.name (given_to known method method.name (Some class) are))
          else and_then (class_of method.owner) (λ interface. Some (SuperCall (Some interface) method.name (given_to known method method.name (Some interface) are))))
          else None)
      by-test true = by-plain are class
      by-test false = by-named are (class_of method.owner)

  pub super-called : (are : List Typed) → super_called known method are ≡ super_call known method are
  super-called [] = refl
  super-called (object ∷ arguments) = by-this (is_this object.1)
    where
      found : Option Name
      found = superclass_in (header_of known.headers known.class)

      by-this : (this : Bool)
          → (if this then super_by known method arguments (class_above known method) else None)
          ≡ (if this && may known method arguments
          then (if is_above known method then Some (SuperCall None method.name (given_to known method method.name found arguments))
          else and_then (class_of method.owner) (λ interface. Some (SuperCall (Some interface) method.name (given_to known method method.name (Some interface) arguments))))
          else None)
      by-this true = by-above arguments (is_interface known.headers known.class) found refl ∙ by-ways arguments (is_interface known.headers known.class) found refl
      by-this false = refl

  pub special-called : (are : List Typed) → special_called known method are ≡ special_call known method are
  special-called are = by-tests (is_constructor method.name) (is_type method.owner (Class known.class))
    where
      by-tests : (constructs own : Bool)
          → (if constructs then None else (if own then object_called known method are else super_called known method are)) ≡ (if constructs then None else (if own then object_call known method are else super_call known method are))
      by-tests true own = refl
      by-tests false true = object-called known method are
      by-tests false false = super-called are

  -- ---- births

  pub birth-called : (class : Name) (are : List Typed) → birth_called known method class are ≡ birth_of known method class are
  birth-called class are = by-name (is_constructor method.name) (is_type method.owner (Class class)) refl
    where
      by-name : (constructs own : Bool) → is_constructor method.name ≡ constructs
          → (if constructs && own then and_then (arguments_in known class method are) (λ more. Some (New class more)) else None)
          ≡ (if constructs && (own && may known method are) then Some (New class (given_to known method (codes "<init>") (Some class) are)) else None)
      by-name true true is =
          by-all known method (may known method are) (given_to known method method.name (Some class) are) (arguments_in known class method are) (λ more. New class more) (arguments-are known method class are)
          ∙ ap (λ (name : Name). if may known method are then Some (New class (given_to known method name (Some class) are)) else None) ((Decides-name method.name (codes "<init>")).0 is)
      by-name true false is = refl
      by-name false own is = refl
