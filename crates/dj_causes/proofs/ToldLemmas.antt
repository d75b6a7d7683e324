-- Causes of members, found one after another.
use Rattle.std.proofs.Common.{◌≡◌, ℕ, ◌<◌, List, [], ◌∷◌, ◌++◌, Option, Some, None, IsSomeAnd, map, length, get_or, slice_get, refl, subst, sym, ap, inl, inr, ◌∙◌, arith}
use Rattle.std.specs.Prelude.{option_map}
use Rattle.std.proofs.lemmas.List.{length-map}
use Rattle.std.proofs.lemmas.Option.{slice_get_read, slice_get-map}
use Rattle.dj_names.specs.Headers.{Name}
use Rattle.dj_class.specs.declared.class.ClassFile.{ClassFile}
use Rattle.dj_class.specs.declared.method.Method.{Method}
use Rattle.dj_class.specs.Described.{MethodOf}
use Rattle.dj_class.specs.Views.{view_class, view_method}
use Rattle.dj_world.specs.Worlds.{WorldOf}
use Rattle.dj_members.proofs.ChainLemmas.{get-cases}
use Rattle.dj_causes.specs.declared.cause.Cause.{Cause}
use Rattle.dj_causes.specs.BareCauses.{IsUnsaid, IsBareCause}
use Rattle.dj_causes.specs.Tables.{IsToldOf, TellsMethods}

-- what holds at each place holds with one more
pub each_more : {A : Type 0} (P : ℕ → A → Type 0) (xs new : List A) (x : A) (at : ℕ) → new ≡ xs ++ x ∷ [] → length xs ≡ at → P at x
    → ((place : ℕ) (y : A) → slice_get xs place ≡ Some y → P place y) → (place : ℕ) (y : A) → slice_get new place ≡ Some y → P place y
each_more {A} P xs new x at pushed size here each place y is = elim (get-cases xs x place y (subst (λ (zs : List A). slice_get zs place ≡ Some y) pushed is)) [
  | inl before ↦ each place y before
  | inr last ↦ subst (λ (k : ℕ). P k y) (sym (last.0 ∙ size)) (subst (P at) last.1 here)
]

-- what was found of the method at a place, which has no code
module _ (world : WorldOf) (class : ClassFile) (found : List (Option Cause)) (at : ℕ) (method : Method) (stored cause : Option Cause) (told : TellsMethods world (view_class class) found) (within : at < length class.methods)
    (is : method ≡ get_or class.methods at method) (bare : method.code ≡ None) (kept : stored ≡ get_or found at stored) (same : cause ≡ stored) where
  there : slice_get (map view_method class.methods) at ≡ Some (view_method method)
  there = slice_get-map view_method class.methods at ∙ ap (option_map view_method) (slice_get_read class.methods (length class.methods) at method refl within is)

  of_method : IsToldOf world (view_class class) at cause
  of_method = subst (IsToldOf world (view_class class) at) (sym same)
      (told.each at stored (slice_get_read found (length found) at stored refl (let size = told.size in omega (arith, size, length-map class.methods view_method, within)) kept))

  pub first_told : IsBareCause world (view_class class) at cause
  first_told = of_method.first (view_method method) there bare

  pub said_told : cause ≡ None → (name : Name) → ¬ IsSomeAnd (slice_get (map view_method class.methods) at) (λ (m : MethodOf). IsUnsaid world (view_class class) m name)
  said_told none name unsaid = of_method.said (view_method method) there bare none name (subst (λ (o : Option MethodOf). IsSomeAnd o (λ (m : MethodOf). IsUnsaid world (view_class class) m name)) there unsaid)
