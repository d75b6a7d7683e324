-- One parameter after another comes into scope.
use Rattle.std.proofs.Common.{◌≡◌, ◌==◌, ◌+◌, ◌<◌, ◌≤◌, ℕ, zero, suc, List, [], ◌∷◌, ◌++◌, length, take, min, get_or, Some, None, slice_get, if◌then◌else◌, refl, sym, ap, subst, ◌∙◌, arith, inl, inr}
use Rattle.std.proofs.lemmas.Bool.{cases_lt}
use Rattle.std.proofs.lemmas.Bool.Decides.{eqb_tells}
use Rattle.std.proofs.lemmas.List.{map_more, take_all, take-map, length-take, length-map}
use Rattle.dj_names.specs.declared.types.JType as code
use Rattle.dj_names.specs.Types.{JType, view_type, view_types}
use Rattle.dj_syntax.specs.declared.variable.VarKind.{VarKind}
use Rattle.dj_syntax.specs.declared.variable.VarKind.TheVariants as kind
use Rattle.dj_syntax.specs.declared.variable.Var.{Var}
use Rattle.dj_meaning.specs.StaticTypes.{Scope, is_same_variable, with_type}
use Rattle.dj_meaning.specs.Meaning.{of_parameter}
use Rattle.dj_scopes.specs.Parameters.{parameter, parameters_in}

at_end : {A : Type 0} (items : List A) (one : A) → Some one ≡ slice_get (items ++ one ∷ []) (length items)
at_end [] one = refl
at_end (first ∷ rest) one = at_end rest one

before_end : {A : Type 0} (items : List A) (one : A) (number : ℕ) → (number ≡ length items → ⊥) → slice_get items number ≡ slice_get (items ++ one ∷ []) number
before_end [] one zero apart = absurd (apart refl)
before_end [] one (suc number) apart = refl
before_end (first ∷ rest) one zero apart = refl
before_end (first ∷ rest) one (suc number) apart = before_end rest one number (λ same. apart (ap suc same))

got_push : {A : Type 0} (items : List A) (one : A) (number : ℕ) → (if number == length items then Some one else slice_get items number) ≡ slice_get (items ++ one ∷ []) number
got_push items one number =
    elim (eqb_tells number (length items)) [
      | inl here ↦ rw here.0 (subst (λ n. Some one ≡ slice_get (items ++ one ∷ []) n) (sym here.1) (at_end items one))
      | inr other ↦ rw other.0 (before_end items one number other.1)
    ]

pushed : {A : Type 0} (items : List A) (one : A) (other : VarKind) (number : ℕ)
    → (if is_same_variable (record { kind = other; number = number }) (parameter (length items)) then Some one else of_parameter items (record { kind = other; number = number })) ≡ of_parameter (items ++ one ∷ []) (record { kind = other; number = number })
pushed items one kind.Param number = got_push items one number
pushed items one kind.Local number = refl
pushed items one kind.Caught number = refl
pushed items one kind.State number = refl

none_of : (other : VarKind) (number : ℕ) → None ≡ of_parameter {A = JType} [] (record { kind = other; number = number })
none_of kind.Param number = refl
none_of kind.Local number = refl
none_of kind.Caught number = refl
none_of kind.State number = refl

-- the variables of the first parameters alone are in scope
pub record Opens (kinds : List code.JType) (count : ℕ) (scope : Scope) : Type 0 where
  pub within : count ≤ length kinds
  pub scoped : (variable : Var) → scope variable ≡ of_parameter (view_types (take count kinds)) variable

pub opens_none : (kinds : List code.JType) (scope : Scope) → ((variable : Var) → scope variable ≡ None) → Opens kinds 0 scope
opens_none kinds scope none = record { within = omega arith; scoped = λ variable. none variable ∙ none_of variable.kind variable.number }

pub opens_one : (kinds : List code.JType) (count : ℕ) (kind : code.JType) (before after : Scope) → count < length kinds → kind ≡ get_or kinds count kind
    → ((variable : Var) → after variable ≡ with_type (parameter count) (view_type kind) before variable) → Opens kinds count before → Opens kinds (count + 1) after
opens_one kinds count kind before after inside is declared so_far = record { within = omega (arith, inside); scoped = one }
  where
    many : length (view_types (take count kinds)) ≡ count
    many = length-map (take count kinds) view_type ∙ length-take count kinds ∙ omega (arith, inside)

    one : (variable : Var) → after variable ≡ of_parameter (view_types (take (count + 1) kinds)) variable
    one variable =
        declared variable
        ∙ ap (λ found. if is_same_variable variable (parameter count) then Some (view_type kind) else found) (so_far.scoped variable)
        ∙ ap (λ n. if is_same_variable variable (parameter n) then Some (view_type kind) else of_parameter (view_types (take count kinds)) variable) (sym many)
        ∙ pushed (view_types (take count kinds)) (view_type kind) variable.kind variable.number
        ∙ ap (λ (last : code.JType). of_parameter (view_types (take count kinds) ++ view_type last ∷ []) variable) is
        ∙ ap (λ types. of_parameter types variable) (sym (map_more view_type kinds count kind inside))

all_of : (kinds : List code.JType) (count : ℕ) → count ≡ min (length kinds) 4294967295 → view_types (take count kinds) ≡ take 4294967295 (view_types kinds)
all_of kinds count is =
    elim (cases_lt (length kinds) 4294967295) [
      | inl below ↦
          (let long = length-map kinds view_type in
          ap view_types (take_all count kinds (omega (arith, is, below))) ∙ sym (take_all 4294967295 (view_types kinds) (omega (arith, long, below))))
      | inr from ↦ (let same : count ≡ 4294967295 = omega (arith, is, from) in ap (λ n. view_types (take n kinds)) same ∙ sym (take-map view_type 4294967295 kinds))
    ]

pub opens_all : (kinds : List code.JType) (count : ℕ) (scope : Scope) → count ≡ min (length kinds) 4294967295 → Opens kinds count scope → scope ≡ parameters_in (view_types kinds)
opens_all kinds count scope is all = λ i variable. (all.scoped variable ∙ ap (λ types. of_parameter types variable) (all_of kinds count is)) i
