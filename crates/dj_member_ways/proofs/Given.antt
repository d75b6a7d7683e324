-- Arguments as they are written for a call, with their types.
use Rattle.std.proofs.Common.{◌≡◌, ℕ, Bool, true, false, if◌then◌else◌, length, List, [], ◌∷◌, map, Option, Some, None, sym, ap, subst, ◌∙◌}
use Rattle.dj_names.specs.declared.header.Header.{Header}
use Rattle.dj_names.specs.Headers.{Name}
use Rattle.dj_names.specs.Types.{JType, StaticType, Of, parameters_of}
use Rattle.dj_syntax.specs.Trees.{Exps}
use Rattle.dj_instructions.specs.Instructions.{MethodRef}
use Rattle.dj_meaning.specs.Members.{Members}
use Rattle.dj_meaning.specs.StaticTypes.{Context, Scope}
use Rattle.dj_meaning.specs.StaticTypes as static_types
use Rattle.dj_meaning.specs.Variables.{EachInExps}
use Rattle.dj_places.specs.Constants.{Surroundings}
use Rattle.dj_typing.specs.Expressions.{is_whole_static}
use Rattle.dj_widened.specs.Meant.{AreAllWhole}
use Rattle.dj_rebuilding.specs.Pending.{Typed}
use Rattle.dj_rebuilding.specs.Agreeing.{IsBelow}
use Rattle.dj_rebuilt.specs.Standing.{AreOperands}
use Rattle.dj_members_shown.specs.Alone.{is_alone_in}
use Rattle.dj_members_shown.specs.Casts.{stays}
use Rattle.dj_members_shown.specs.Choosing.{ChooseAlikeIn}
use Rattle.dj_members_shown.specs.Operands.{all_dressed, dressed_types}
use Rattle.dj_members_shown.proofs.Dressing.{dressed-choose, all-have-types}
use Rattle.dj_member_nodes.specs.Going as own
use Rattle.dj_member_nodes.specs.Going.{may_be_given, froms_of}
use Rattle.dj_member_nodes.specs.Nodes.{given_to}
use Rattle.dj_member_nodes.proofs.Alone.{all-small}
use Rattle.dj_member_nodes.proofs.Fitting.{all-fit-many, given-fit, given-whole}
use Rattle.dj_member_nodes.proofs.Operands.{same-exps, same-types, all-go, typed-operands}
use Rattle.dj_strict_entries.specs.Entries as strict
use Rattle.dj_strict_entries.specs.Entries.{AllGo}

-- what arguments choose alike through a class, if there is one
choose-in : (world : List Header) (members : List Members) (name : Name) (searched : Option Name) (froms : List StaticType) (tos : List JType) → length froms ≡ length tos
    → ChooseAlikeIn world members name searched (dressed_types world (is_alone_in world members name searched tos) froms tos) tos
choose-in world members name None froms tos same = record { alike = tt }
choose-in world members name (Some class) froms tos same = record { alike = dressed-choose world members name class froms tos same }

-- types that are whole stay so
all-whole : (world : List Header) (only : Bool) (froms : List StaticType) (tos : List JType) → AreAllWhole world froms → AreAllWhole world (map Of tos) → AreAllWhole world (dressed_types world only froms tos)
all-whole world only [] tos whole wanted = tt
all-whole world only (from ∷ froms) [] whole wanted = tt
all-whole world only (from ∷ froms) (to ∷ tos) whole wanted = (by (stays world only from to), all-whole world only froms tos whole.1 wanted.1)
  where
    by : (test : Bool) → is_whole_static world (if test then from else Of to) ≡ true
    by true = whole.0
    by false = wanted.0

module _ (known : Surroundings) (context : Context) (members : known.members ≡ context.members) (n : ℕ) (scope : Scope) (method : MethodRef) (name : Name) (searched : Option Name) (are : List Typed) where
  abbrev pub world : List Header
  world = known.headers

  abbrev pub wanted_types : List JType
  wanted_types = parameters_of method.descriptor

  abbrev pub only : Bool
  only = is_alone_in world context.members name searched wanted_types

  -- as they are written, and their types then
  abbrev pub written : Exps
  written = all_dressed world only (strict.types_of are) wanted_types (strict.exps_of are)

  abbrev pub written_types : List StaticType
  written_types = dressed_types world only (strict.types_of are) wanted_types

  pub given-same : given_to known method name searched are ≡ written
  given-same =
      ap (λ found. all_dressed world (is_alone_in world found name searched wanted_types) (froms_of are) wanted_types (own.exps_of are)) members
      ∙ ap (λ froms. all_dressed world only froms wanted_types (own.exps_of are)) (same-types are)
      ∙ ap (all_dressed world only (strict.types_of are) wanted_types) (same-exps are)

  -- what is known of them
  pub record AreGiven : Type 0 where
    pub as_many : length (strict.types_of are) ≡ length wanted_types
    pub whole : AreAllWhole world (strict.types_of are)
    pub go : AllGo world are wanted_types
    pub types : static_types.types_of context scope (strict.exps_of are) ≡ Some (strict.types_of are)
    pub written_as : static_types.types_of context scope written ≡ Some written_types
    pub written_whole : AreAllWhole world written_types
    pub alike : ChooseAlikeIn world context.members name searched written_types wanted_types
    pub small : EachInExps (IsBelow n) (given_to known method name searched are)

  pub are-given : AreAllWhole world (map Of wanted_types) → may_be_given world are wanted_types ≡ true → AreOperands context n scope are → AreGiven
  are-given wanted given typed =
      let many : length (strict.types_of are) ≡ length wanted_types = sym (ap length (same-types are)) ∙ all-fit-many world are wanted_types (given-fit world are wanted_types given) in
      let whole : AreAllWhole world (strict.types_of are) = subst (AreAllWhole world) (same-types are) (given-whole world are wanted_types given) in
      let types = typed-operands context n scope are typed in
      record {
        as_many = many;
        whole = whole;
        go = all-go world are wanted_types (given-fit world are wanted_types given);
        types = types;
        written_as = all-have-types world only context scope (strict.exps_of are) (strict.types_of are) wanted_types many types;
        written_whole = all-whole world only (strict.types_of are) wanted_types whole wanted;
        alike = choose-in world context.members name searched (strict.types_of are) wanted_types many;
        small = all-small context n scope world (is_alone_in world known.members name searched wanted_types) are wanted_types typed;
      }
