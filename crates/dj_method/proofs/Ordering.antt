-- Wherever a method runs, the classes that run stand in order for its body.
use Rattle.std.proofs.Common.{◌≡◌, ℕ, Bool, true, false, List, [], ◌∷◌, map, IsSomeAnd, sym, subst}
use Rattle.std.proofs.lemmas.Bool.{and_parts, false≢true, not-true}
use Rattle.dj_names.specs.declared.header.Header.{Header}
use Rattle.dj_names.specs.declared.members.ClassMembers.{ClassMembers}
use Rattle.dj_names.specs.MethodNames.{is_constructor}
use Rattle.dj_names.specs.Types.{JType, Class, parameters_of}
use Rattle.dj_syntax.specs.Trees.{Body}
use Rattle.dj_values.specs.Values.{Value, Int, Long, Null, Ref}
use Rattle.dj_values.specs.Fits.{AreArguments, IsThis, is_static, this_of}
use Rattle.dj_code.specs.MethodCode.{Code}
use Rattle.dj_loaded.specs.Loaded.{HasCore, MayRun}
use Rattle.dj_loaded.proofs.Roots.{roots}
use Rattle.dj_declaring.specs.Widens.{Widens}
use Rattle.dj_meaning.specs.Members.{view_members}
use Rattle.dj_meaning.specs.Meaning.{context_of}
use Rattle.dj_typing.specs.Sites.{is_whole, may_name}
use Rattle.dj_declaring.specs.Bodies.{Writing, site_in, around_in}
use Rattle.dj_declaring.specs.Values.{IsHeld}
use Rattle.dj_declaring.specs.Running.{AreMembers, HasThis, IsInOrder}
use Rattle.dj_declaring.proofs.Goes.{fits_object}
use Rattle.dj_declaring.specs.Laws.{running_in}
use Rattle.dj_bytecode.specs.SameShows.{AreArgumentsOf}
use Rattle.dj_blocks_shown.specs.Composing.{IsBodyOfCode}

-- the classes that may run widen those of a world that has the core
widened : (world headers : List Header) → HasCore world → MayRun world headers → Widens world headers
widened world headers core may = record {
  others = may.others;
  first = may.first;
  distinct = may.loadable.distinct;
  no_circle = may.loadable.no_circle;
  roots = roots world headers core may;
  object = core.object;
}

-- ---- `this`

this-held : (headers : List Header) (class : List ℕ) (first : Value) → IsThis headers class first → IsHeld headers (Class class) first
this-held headers class (Int number) is = absurd is
this-held headers class (Long number) is = absurd is
this-held headers class Null is = absurd is
this-held headers class (Ref reference) is = fits_object headers (Class class) reference is

this-there : (headers : List Header) (class : List ℕ) (static : Bool) (types : List JType) (arguments : List Value) → AreArguments headers class static types arguments → static ≡ false → IsSomeAnd (this_of static arguments) (IsHeld headers (Class class))
this-there headers class true types arguments fit is = absurd (false≢true (sym is))
this-there headers class false types [] fit is = absurd fit
this-there headers class false types (first ∷ rest) fit is = this-held headers class first fit.0

-- the arguments of code fit the method of its head
fit-method : (headers : List Header) (code : Code) (method : Body) → IsBodyOfCode code method → (arguments : List Value) → AreArgumentsOf headers code arguments
    → AreArguments headers method.class (is_static method.flags) (parameters_of method.descriptor) arguments
fit-method headers code method of arguments fit =
    subst (λ (class : List ℕ). AreArguments headers class (is_static method.flags) (parameters_of method.descriptor) arguments) (sym of.class)
    (subst (λ (flags : ℕ). AreArguments headers code.class (is_static flags) (parameters_of method.descriptor) arguments) (sym of.flags)
    (subst (λ descriptor. AreArguments headers code.class (is_static code.flags) (parameters_of descriptor) arguments) (sym of.descriptor) fit))

-- ---- the order

pub runs-in-order : (world headers : List Header) (members : List ClassMembers) (writing : Writing) (method : Body) (code : Code) → IsBodyOfCode code method → HasCore world → MayRun world headers
    → may_name (site_in writing world members method) method.class ≡ true → AreMembers world (map view_members members) → (is_constructor method.name ≡ true → is_static method.flags ≡ false)
    → (arguments : List Value) → AreArgumentsOf headers code arguments → IsInOrder (running_in headers (context_of headers members method arguments).this (around_in writing world members method))
runs-in-order world headers members writing method code of core may named lawful constructor arguments fit =
    let there : is_static method.flags ≡ false → HasThis (running_in headers (context_of headers members method arguments).this (around_in writing world members method)) =
    this-there headers method.class (is_static method.flags) (parameters_of method.descriptor) arguments (fit-method headers code method of arguments fit) in
    record {
      widens = widened world headers core may;
      whole = (and_parts (writing.can_say method.class) (is_whole world method.class) named).1;
      members = lawful;
      this = λ has. there (not-true (is_static method.flags) has);
      constructs = λ is. there (constructor is);
    }
