-- Constructors on what is on top of the stack.
use Rattle.std.proofs.Common.{◌≡◌, ◌↔◌, ℕ, List, [], ◌∷◌, Option, Some, None, Bool, true, false, drop, refl, sym, subst, ap, ◌∙◌}
use Rattle.dj_names.specs.declared.header.Header.{Header}
use Rattle.dj_names.specs.Types.{JType, Class}
use Rattle.dj_names.specs.Headers.{Name, HasSuperclass}
use Rattle.dj_tags.specs.Laxly.{IsUnknown}
use Rattle.dj_frames.specs.Frames.{Tag, Top, Int, Float, Double, Long, Null, UnbornThis, Object, Unborn, is_unborn_this, is_unborn_at}
use Rattle.dj_code.specs.MethodCode.{Code}
use Rattle.dj_tags.specs.Goes.{Assignability, Working}
use Rattle.dj_effects.specs.Works.{Bears}
use Rattle.dj_effects.specs.Rows.{arguments}
use Rattle.dj_frames.specs.declared.unborn.Unborn as code_unborn
use Rattle.dj_frames.specs.declared.unborn.Unborn.TheVariants as unborn
use Rattle.dj_effects.specs.Operands.{AreWanted, under, CanBeBorn, IsNewOf, ConstructsThis, own, above, unknown}
use Rattle.dj_effects.specs.Effects.{borne, with_born}
use Rattle.dj_effects.specs.Doing.{unborn_on}
use Rattle.dj_applying.specs.Done.{Did}

-- what holds of a constructor's call, by the object
abbrev pub CanBe : List Header → Code → JType → Option code_unborn.Unborn → Type 0
CanBe headers code owner None = ⊥
CanBe headers code owner (Some unborn.This) = ConstructsThis headers code.class owner
CanBe headers code owner (Some (unborn.At pc)) = IsNewOf code pc owner

abbrev pub left_of : Code → JType → Working → Option code_unborn.Unborn → List Tag → Working
left_of code owner frame None stack = frame
left_of code owner frame (Some unborn.This) stack = with_born is_unborn_this (Object (Class code.class)) false frame (drop 1 stack)
left_of code owner frame (Some (unborn.At pc)) stack = with_born (is_unborn_at pc) (Object owner) frame.unborn_this frame (drop 1 stack)

pub record Told (headers : List Header) (code : Code) (owner : JType) (frame : Working) (stack : List Tag) (found : Option code_unborn.Unborn) : Type 0 where
  pub can : CanBeBorn headers code owner stack ↔ CanBe headers code owner found
  pub left : borne code owner frame stack ≡ left_of code owner frame found stack

told : (headers : List Header) (code : Code) (owner : JType) (frame : Working) (stack : List Tag) → Told headers code owner frame stack (unborn_on stack)
told headers code owner frame [] = record { can = (λ c. c, λ c. c); left = refl }
told headers code owner frame (Top ∷ below) = record { can = (λ c. c, λ c. c); left = refl }
told headers code owner frame (Int ∷ below) = record { can = (λ c. c, λ c. c); left = refl }
told headers code owner frame (Float ∷ below) = record { can = (λ c. c, λ c. c); left = refl }
told headers code owner frame (Double ∷ below) = record { can = (λ c. c, λ c. c); left = refl }
told headers code owner frame (Long ∷ below) = record { can = (λ c. c, λ c. c); left = refl }
told headers code owner frame (Null ∷ below) = record { can = (λ c. c, λ c. c); left = refl }
told headers code owner frame (UnbornThis ∷ below) = record { can = (λ c. c, λ c. c); left = refl }
told headers code owner frame (Object type ∷ below) = record { can = (λ c. c, λ c. c); left = refl }
told headers code owner frame (Unborn pc ∷ below) = record { can = (λ c. c, λ c. c); left = refl }

pub told_by : (headers : List Header) (code : Code) (owner : JType) (frame : Working) (stack : List Tag) (found : Option code_unborn.Unborn) → found ≡ unborn_on stack → Told headers code owner frame stack found
told_by headers code owner frame stack found is = subst (Told headers code owner frame stack) (sym is) (told headers code owner frame stack)

-- ---- constructors called on `this`

pub data Way (headers : List Header) (class : Name) (owner : JType) : Type 0 where
  own_class : owner ≡ Class class → Way headers class owner
  upper_class : (upper : Name) → HasSuperclass headers class upper → owner ≡ Class upper → Way headers class owner
  any_class : (upper : Name) → IsUnknown headers class → owner ≡ Class upper → Way headers class owner

pub way_of : (headers : List Header) (class : Name) (owner : JType) → ConstructsThis headers class owner → Way headers class owner
way_of headers class owner own = own_class refl
way_of headers class owner (above {upper} has) = upper_class upper has refl
way_of headers class owner (unknown {upper} none) = any_class upper none refl

pub by_way : (headers : List Header) (class : Name) (owner : JType) → Way headers class owner → ConstructsThis headers class owner
by_way headers class owner (own_class is) = rw is own
by_way headers class owner (upper_class upper has is) = rw is (above has)
by_way headers class owner (any_class upper none is) = rw is (unknown none)

-- ---- the whole call

pub born_did : (Goes : Assignability) (headers : List Header) (code : Code) (pc : ℕ) (types : List JType) (owner : JType) (old new : Working) (done : Bool) (found : Option code_unborn.Unborn) (rest : List Tag)
    → AreWanted Goes (arguments types) old.stack → rest ≡ under (arguments types) old.stack → found ≡ unborn_on rest → (done ≡ true) ↔ CanBe headers code owner found → (done ≡ true → new ≡ left_of code owner old found rest)
    → Did Goes headers code pc (Bears (arguments types) owner) old done new
born_did Goes headers code pc types owner old new done found rest wanted below is can left =
    let told : Told headers code owner old rest found = told_by headers code owner old rest found is in
    record {
      operands = (
        λ yes. (wanted, subst (CanBeBorn headers code owner) below (told.can.1 (can.0 yes))),
        λ has. can.1 (told.can.0 (subst (CanBeBorn headers code owner) (sym below) has.1)),
      );
      effect = λ yes. left yes ∙ sym told.left ∙ ap (borne code owner old) below;
    }
