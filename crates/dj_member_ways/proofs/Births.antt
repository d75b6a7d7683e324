-- What stands for the birth of an object makes it, evaluates the arguments, calls the constructor, and gives the object.
use Rattle.std.proofs.Common.{◌≡◌, ℕ, Bool, true, false, ◌&&◌, if◌then◌else◌, inl, inr, List, ◌∷◌, map, Option, Some, refl, sym, ap, subst, ◌∙◌, codes}
use Rattle.std.proofs.lemmas.Bool.{and_parts}
use Rattle.dj_names.specs.declared.header.Header.{Header}
use Rattle.dj_names.specs.Headers.{Name}
use Rattle.dj_names.specs.MethodNames.{is_constructor}
use Rattle.dj_names.specs.Types.{JType, Class, Of, parameters_of}
use Rattle.dj_syntax.specs.Trees.{Exp, New}
use Rattle.dj_instructions.specs.Instructions.{MethodRef}
use Rattle.dj_values.specs.Values.{Value, Special}
use Rattle.dj_values.specs.Values as action
use Rattle.dj_values.specs.Fits.{class_of}
use Rattle.dj_values.specs.Deciding.{is_type}
use Rattle.dj_values.specs.Outcomes.{Reply, ask, State, Outcome, Is, Stops, bind, outside}
use Rattle.dj_bytecode.specs.Objects.{special_owner, object_called}
use Rattle.dj_meaning.specs.StaticTypes.{Context, Scope}
use Rattle.dj_meaning.specs.Runs.{Store, pure, stuck}
use Rattle.dj_meaning.specs.Expressions.{value}
use Rattle.dj_loaded.specs.Loaded.{MayRun}
use Rattle.dj_places.specs.Constants.{Surroundings}
use Rattle.dj_typing.specs.Sites.{is_whole}
use Rattle.dj_widened.specs.Meant.{AreAllWhole}
use Rattle.dj_rebuilding.specs.Shows.{Refines}
use Rattle.dj_rebuilding.specs.Pending.{Typed, is_kept, checked, entry, operands}
use Rattle.dj_rebuilding.specs.Agreeing.{IsEntry}
use Rattle.dj_rebuilding.proofs.Outcomes.{refines-is}
use Rattle.dj_rebuilt.specs.Standing.{AreOperands, born, IsBirth}
use Rattle.dj_blocks_formed.proofs.Blocks.{made-if}
use Rattle.dj_members_shown.specs.Sorts as raw
use Rattle.dj_members_shown.specs.Sorts.{OnIs}
use Rattle.dj_members_shown.specs.Laws.{Runs}
use Rattle.dj_members_shown.specs.Meant.{IsOfNew}
use Rattle.dj_members_shown.specs.Operands as operand
use Rattle.dj_members_shown.proofs.Binding.{bind-bind, bind-same}
use Rattle.dj_members_shown.proofs.Built.{new-built}
use Rattle.dj_members_shown.proofs.Calling.{Birth}
use Rattle.dj_members_shown.proofs.Dressing.{one-type}
use Rattle.dj_members_shown.proofs.Owners.{of-new}
use Rattle.dj_member_nodes.specs.Going.{may_be_given}
use Rattle.dj_member_nodes.specs.Nodes.{given_to, birth_of}
use Rattle.dj_member_nodes.proofs.Alone.{call-nothing}
use Rattle.dj_member_nodes.proofs.Standing.{nothing-again, stuck-refines}
use Rattle.dj_strict_entries.specs.Entries as strict
use Rattle.dj_strict_entries.specs.Entries.{EntriesAreOperands}
use Rattle.dj_strict_entries.proofs.Operating.{new-kept}
use Rattle.dj_strict_entries.proofs.Replying.{entries-are, passes}
use Rattle.dj_member_ways.proofs.Given.{given-same, AreGiven, are-given}
use Rattle.dj_member_ways.proofs.Results.{constructor-nothing}

module _ (known : Surroundings) (context : Context) (runs : Runs known.headers context) (members : known.members ≡ context.members) (may : MayRun known.headers context.headers) (n : ℕ) (scope : Scope) (method : MethodRef)
    (is : IsOfNew known.headers context.members context.class method) (class_whole : is_whole known.headers is.class ≡ true) (wanted : AreAllWhole known.headers (map Of (parameters_of method.descriptor))) where
  abbrev world : List Header
  world = known.headers

  abbrev tos : List JType
  tos = parameters_of method.descriptor

  -- what the constructor's call does
  abbrev operation : List Value → Reply (Option Value)
  operation all = object_called Special (special_owner context.headers context.class method) method all

  abbrev test : Value → State Store → Outcome Store Value
  test = checked context.headers (Of (Class is.class))

  -- a new object is one of its class
  made-kept : (state after : State Store) (object : Value) → born context is.class state ≡ Is object after → is_kept context.headers (Of (Class is.class)) object ≡ true
  made-kept state after object made =
      passed (is_kept context.headers (Of (Class is.class)) object)
      (sym (ap (λ run. bind run test) made) ∙ passes context.headers (Of (Class is.class)) (ask (action.New is.class)) (new-kept context.headers is.class) state ∙ made)
    where
      passed : (kept : Bool) → (if kept then pure object else stuck) after ≡ Is object after → kept ≡ true
      passed true e = refl
      passed false e = absurd (cc)

  module _ (are : List Typed) (fit : may_be_given world are tos ≡ true) (h : AreOperands context n scope are) where
    given : AreGiven known context members n scope method (codes "<init>") (Some is.class) are
    given = are-given known context members n scope method (codes "<init>") (Some is.class) are wanted fit h

    abbrev birth_exp : Exp
    birth_exp = New is.class (given_to known method (codes "<init>") (Some is.class) are)

    -- where arguments are what the laws ask, the expression is the birth
    is-birth : (state : State Store) → OnIs (λ object after. operand.AreOperands context scope (strict.exps_of are) (strict.types_of are) tos after) (born context is.class state)
        → value context scope birth_exp state ≡ Birth context scope is.class method (strict.exps_of are) state
    is-birth state ops =
        ap (λ exps. value context scope (New is.class exps) state) (given-same known context members n scope method (codes "<init>") (Some is.class) are)
        ∙ new-built world context scope runs.wide runs.paired runs.whole method is (strict.exps_of are) (strict.types_of are) state class_whole given.whole wanted given.as_many given.types ops

    -- what follows the making of the object, on either side
    abbrev machine : Value → State Store → Outcome Store Value
    machine object after = bind (bind (operands context scope are after) (λ all. outside context.headers (operation (object ∷ all)))) (λ given. pure object)

    abbrev called : Value → List Value → State Store → Outcome Store Value
    called object found behind = bind (outside context.headers (object_called Special (Class is.class) method (object ∷ found)) behind) (λ nothing. Is object)

    same-machine : (object : Value) (after : State Store) → operands context scope are after ≡ raw.operands context scope (strict.exps_of are) after → machine object after ≡ bind (raw.operands context scope (strict.exps_of are) after) (called object)
    same-machine object after same =
        ap (λ run. bind (bind run (λ all. outside context.headers (operation (object ∷ all)))) (λ given. pure object)) same
        ∙ ap (λ owner. bind (bind (raw.operands context scope (strict.exps_of are) after) (λ all. outside context.headers (object_called Special owner method (object ∷ all)))) (λ given. pure object))
        (of-new world context.headers runs.wide context.members runs.paired context.class runs.whole method is)
        ∙ bind-bind (raw.operands context scope (strict.exps_of are) after) (λ all. outside context.headers (object_called Special (Class is.class) method (object ∷ all))) (λ given. pure object)

    still-object : (object : Value) → is_kept context.headers (Of (Class is.class)) object ≡ true → (run : Outcome Store (Option Value)) → bind (bind run (λ nothing. Is object)) test ≡ bind run (λ nothing. Is object)
    still-object object kept (Is nothing after) = ap (λ (kept : Bool). (if kept then pure object else stuck) after) kept
    still-object object kept (Stops why after) = refl

    means : (state : State Store) → Refines (bind (born context is.class state) machine) (entry context scope (Of (Class is.class)) birth_exp state)
    means state = by (born context is.class state) refl
      where
        Wanted : Outcome Store Value → Type 0
        Wanted run = Refines (bind run machine) (bind (value context scope birth_exp state) test)

        made : (object : Value) (after : State Store) → born context is.class state ≡ Is object after → EntriesAreOperands context scope are tos after → Wanted (Is object after)
        made object after at (inl is_stuck) =
            subst (λ run. Refines run (bind (value context scope birth_exp state) test)) (sym (bind-bind (operands context scope are after) (λ all. outside context.headers (operation (object ∷ all))) (λ given. pure object)))
            (stuck-refines (operands context scope are after) (λ all behind. bind (outside context.headers (operation (object ∷ all)) behind) (λ given. pure object)) (bind (value context scope birth_exp state) test) is_stuck)
        made object after at (inr found) =
            let ops = subst (OnIs (λ object after. operand.AreOperands context scope (strict.exps_of are) (strict.types_of are) tos after)) (sym at) found.0 in
            refines-is (
            same-machine object after found.1
            ∙ bind-same (raw.operands context scope (strict.exps_of are) after) (called object) (λ all behind. bind (called object all behind) test)
            (λ all behind. sym (still-object object (made-kept state after object at) (outside context.headers (object_called Special (Class is.class) method (object ∷ all)) behind)))
            ∙ sym (bind-bind (raw.operands context scope (strict.exps_of are) after) (called object) test)
            ∙ sym (ap (λ run. bind (bind run (λ object after. bind (raw.operands context scope (strict.exps_of are) after) (called object))) test) at)
            ∙ sym (ap (λ run. bind run test) (is-birth state ops)))

        by : (run : Outcome Store Value) → born context is.class state ≡ run → Wanted run
        by (Stops why after) at =
            let ops = subst (OnIs (λ object after. operand.AreOperands context scope (strict.exps_of are) (strict.types_of are) tos after)) (sym at) tt in
            refines-is (sym (ap (λ run. bind run test) (is-birth state ops ∙ ap (λ run. bind run (λ object after. bind (raw.operands context scope (strict.exps_of are) after) (called object))) at)))
        by (Is object after) at = made object after at (entries-are world context scope may are tos given.go after)

    birth-done : IsBirth context scope is.class operation are birth_exp × IsEntry context n scope (Of (Class is.class)) birth_exp
    birth-done = (
      record {
        nothing = λ all state. nothing-again context scope (operation all) (call-nothing context.headers Special (special_owner context.headers context.class method) method (constructor-nothing world context.members context.class method is) all) state;
        means = means;
      },
      record { small = given.small; typed = refl },
    )

  -- ---- as it is rebuilt

  pub born-done : (made : Name) (are : List Typed) (exp : Exp) → birth_of known method made are ≡ Some exp → AreOperands context n scope are → IsBirth context scope made operation are exp × IsEntry context n scope (Of (Class made)) exp
  born-done made are exp e h =
      let fit_all = may_be_given world are tos in
      let m = made-if (is_constructor method.name && (is_type method.owner (Class made) && fit_all)) (Some (New made (given_to known method (codes "<init>") (Some made) are))) exp e in
      let a = and_parts (is_constructor method.name) (is_type method.owner (Class made) && fit_all) m.0 in
      let b = and_parts (is_type method.owner (Class made)) fit_all a.1 in
      let same : New made (given_to known method (codes "<init>") (Some made) are) ≡ exp = (let some = m.1 in cc) in
      let class_is : is.class ≡ made = (let some : Some is.class ≡ Some made = sym (ap class_of is.owner) ∙ ap class_of (one-type method.owner (Class made) b.0) in cc) in
      subst (λ one. IsBirth context scope made operation are one × IsEntry context n scope (Of (Class made)) one) same
      (subst (λ class. IsBirth context scope class operation are (New class (given_to known method (codes "<init>") (Some class) are)) × IsEntry context n scope (Of (Class class)) (New class (given_to known method (codes "<init>") (Some class) are))) class_is (birth-done are b.1 h))
