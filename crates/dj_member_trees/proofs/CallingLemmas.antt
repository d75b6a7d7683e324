-- Calls with their operands, from what the program took.
use Rattle.std.proofs.Common.{◌≡◌, ℕ, Bool, true, length, List, [], ◌∷◌, Option, Some, None, sym, ap, ◌∙◌}
use Rattle.std.specs.Prelude.{is_some}
use Rattle.std.proofs.lemmas.List.{length-map}
use Rattle.dj_names.specs.declared.types.JType as code
use Rattle.dj_names.specs.Headers.{Name}
use Rattle.dj_names.specs.Types.{JType, view_type, view_types, parameters_of}
use Rattle.dj_kinds.specs.Choice.{searched_class}
use Rattle.dj_syntax.specs.Trees.{Exp, Exps, Stms, Call, StaticCall}
use Rattle.dj_values.specs.Fits.{class_of}
use Rattle.dj_instructions.specs.Instructions.{MethodRef}
use Rattle.dj_places.specs.Constants.{Surroundings}
use Rattle.dj_members_shown.specs.Alone.{is_alone, is_alone_in}
use Rattle.dj_rebuilding.specs.Pending.{Pending, Built, Typed, and_then}
use Rattle.dj_rebuilt.specs.Rebuilding.{dropped}
use Rattle.dj_pending.specs.Operands.{taken_from}
use Rattle.dj_pending.specs.Spilling.{behind}
use Rattle.dj_pending.proofs.NumberLemmas.{stops, goes-on}
use Rattle.dj_member_trees.specs.Fitting.{receiver}
use Rattle.dj_member_trees.specs.Given.{given}
use Rattle.dj_member_trees.specs.Calling.{own_arguments, arguments_in, object_called, class_called, result_built, called_built}

module _ (known : Surroundings) (method : MethodRef) where
  abbrev tos : List JType
  tos = parameters_of method.descriptor

  pub own-same : (are : List Typed) (alone : Bool) (types : List JType) → types ≡ tos → alone ≡ is_alone_in known.headers known.members method.name (searched_class method.owner) types → given known.headers alone are types ≡ own_arguments known method are
  own-same are alone types same is =
      ap (λ (one : Bool). given known.headers one are types) is ∙ ap (λ (list : List JType). given known.headers (is_alone_in known.headers known.members method.name (searched_class method.owner) list) are list) same

  pub class-same : (class : Name) (are : List Typed) (alone : Bool) (types : List JType) → types ≡ tos → alone ≡ is_alone known.headers known.members method.name class types → given known.headers alone are types ≡ arguments_in known class method are
  class-same class are alone types same is =
      ap (λ (one : Bool). given known.headers one are types) is ∙ ap (λ (list : List JType). given known.headers (is_alone known.headers known.members method.name class list) are list) same

  -- ---- calls on objects

  abbrev called_with : Option Exp → Option Exps → Option Exp
  called_with on more = and_then on (λ on. and_then more (λ more. Some (Call on method.name more)))

  pub object-stops : (list : List Typed) (object : Typed) (rest : List Typed) → list ≡ object ∷ rest → None ≡ receiver known.headers method.owner object → None ≡ object_called known method list
  object-stops list object rest is none = ap (λ (on : Option Exp). called_with on (own_arguments known method rest)) none ∙ ap (object_called known method) (sym is)

  pub object-lacks : (list : List Typed) (object : Typed) (rest : List Typed) (on : Exp) → list ≡ object ∷ rest → Some on ≡ receiver known.headers method.owner object → None ≡ own_arguments known method rest → None ≡ object_called known method list
  object-lacks list object rest on is there none =
      ap (called_with (Some on)) none ∙ ap (λ (one : Option Exp). called_with one (own_arguments known method rest)) there ∙ ap (object_called known method) (sym is)

  pub object-made : (list : List Typed) (object : Typed) (rest : List Typed) (on exp : Exp) (more : Exps) → list ≡ object ∷ rest → Some on ≡ receiver known.headers method.owner object → Some more ≡ own_arguments known method rest → exp ≡ Call on method.name more
      → Some exp ≡ object_called known method list
  object-made list object rest on exp more is there given_so made =
      ap Some made ∙ ap (called_with (Some on)) given_so ∙ ap (λ (one : Option Exp). called_with one (own_arguments known method rest)) there ∙ ap (object_called known method) (sym is)

  pub object-drops : (are : List Typed) (exp : Exp) → Some exp ≡ object_called known method are → is_some (dropped exp) ≡ true
  object-drops [] exp e = absurd (cc)
  object-drops (object ∷ rest) exp e = by (receiver known.headers method.owner object) (own_arguments known method rest) e
    where
      by : (on : Option Exp) (more : Option Exps) → Some exp ≡ called_with on more → is_some (dropped exp) ≡ true
      by None more e = absurd (cc)
      by (Some on) None e = absurd (cc)
      by (Some on) (Some more) e = let same : exp ≡ Call on method.name more = cc in ap (λ (one : Exp). is_some (dropped one)) same

  -- ---- of static methods

  abbrev static_with : Name → Option Exps → Option Exp
  static_with class more = and_then more (λ more. Some (StaticCall class method.name more))

  pub class-stops : (are : List Typed) → None ≡ class_of method.owner → None ≡ class_called known method are
  class-stops are none = ap (λ (found : Option Name). and_then found (λ class. static_with class (arguments_in known class method are))) none

  pub class-lacks : (are : List Typed) (class : Name) → Some class ≡ class_of method.owner → None ≡ arguments_in known class method are → None ≡ class_called known method are
  class-lacks are class there none = ap (static_with class) none ∙ ap (λ (found : Option Name). and_then found (λ class. static_with class (arguments_in known class method are))) there

  pub class-made : (are : List Typed) (class : Name) (exp : Exp) (more : Exps) → Some class ≡ class_of method.owner → Some more ≡ arguments_in known class method are → exp ≡ StaticCall class method.name more → Some exp ≡ class_called known method are
  class-made are class exp more there given_so made =
      ap Some made ∙ ap (static_with class) given_so ∙ ap (λ (found : Option Name). and_then found (λ class. static_with class (arguments_in known class method are))) there

  pub class-drops : (are : List Typed) (exp : Exp) → Some exp ≡ class_called known method are → is_some (dropped exp) ≡ true
  class-drops are exp e = by (class_of method.owner) e
    where
      by-given : (class : Name) (more : Option Exps) → Some exp ≡ static_with class more → is_some (dropped exp) ≡ true
      by-given class None e = absurd (cc)
      by-given class (Some more) e = let same : exp ≡ StaticCall class method.name more = cc in ap (λ (one : Exp). is_some (dropped one)) same

      by : (found : Option Name) → Some exp ≡ and_then found (λ class. static_with class (arguments_in known class method are)) → is_some (dropped exp) ≡ true
      by None e = absurd (cc)
      by (Some class) e = by-given class (arguments_in known class method are) e

-- ---- calls in the place of their operands

-- as many operands as parameters
pub as-many : (types : List code.JType) (parameters : List JType) → view_types types ≡ parameters → length types ≡ length parameters
as-many types parameters is = sym (length-map types view_type) ∙ ap length is

module _ (first : Stms) (count wanted : ℕ) (same : count ≡ wanted) (called : List Typed → Option Exp) (gives : Option JType) (n : ℕ) (stack : List Pending) where
  pub call-untaken : None ≡ taken_from count [] stack → None ≡ behind first (called_built wanted called gives n stack)
  call-untaken none = stops first (taken_from wanted [] stack) (λ found. and_then (called found.0) (result_built n found.1 gives)) (none ∙ ap (λ many. taken_from many [] stack) same)

  pub call-stops : (are : List Typed) (below : List Pending) → Some (are, below) ≡ taken_from count [] stack → None ≡ called are → None ≡ behind first (called_built wanted called gives n stack)
  call-stops are below taken none =
      goes-on first (taken_from wanted [] stack) (λ found. and_then (called found.0) (result_built n found.1 gives)) (are, below) None (taken ∙ ap (λ many. taken_from many [] stack) same)
      (stops first (called are) (result_built n below gives) none)

  pub call-done : (are : List Typed) (below : List Pending) (exp : Exp) (built : Option Built) → Some (are, below) ≡ taken_from count [] stack → Some exp ≡ called are → built ≡ behind first (result_built n below gives exp) → built ≡ behind first (called_built wanted called gives n stack)
  call-done are below exp built taken is done =
      goes-on first (taken_from wanted [] stack) (λ found. and_then (called found.0) (result_built n found.1 gives)) (are, below) built (taken ∙ ap (λ many. taken_from many [] stack) same)
      (goes-on first (called are) (result_built n below gives) exp built is done)
