-- When the roots are in order: where listed classes are interfaces, an interface names Object as its superclass, and Throwable is none.
use Rattle.std.proofs.Common.{◌≡◌, ◌≢◌, false, List, [], ◌∷◌, Contains, codes, refl, sym, subst, ◌∙◌, inl, inr}
use Rattle.std.proofs.lemmas.Bool.{false≢true}
use Rattle.dj_names.specs.declared.header.Header.{Header}
use Rattle.dj_names.specs.Headers.{Name, IsInterface, HasSuperclass, HasInterface, HasParent, IsPath}
use Rattle.dj_names.specs.Assignable.{object_name, above_arrays}
use Rattle.dj_values.specs.Fits.{throwable_name}
use Rattle.dj_values.specs.Deciding.{is_name}
use Rattle.dj_values.proofs.Deciding.{Decides-name}
use Rattle.dj_widened.specs.Widens.{HasRoots}
use Rattle.dj_widened.proofs.Paths.{In, in_contained}

-- headers of classes as class files have them (JVMS 4.1), with the roots that the language has
pub record AreClasses (headers : List Header) : Type 0 where
  pub listed : (lower upper : Name) → HasInterface headers lower upper → IsInterface headers upper
  pub above : (lower upper : Name) → IsInterface headers lower → HasSuperclass headers lower upper → upper ≡ object_name
  pub object : (upper : Name) → ¬ HasParent headers object_name upper
  pub throwable : ¬ IsInterface headers throwable_name
  pub arrays : (class upper : Name) → Contains above_arrays class → HasParent headers class upper → upper ≡ object_name

-- two names that a test tells apart
pub apart : (first second : Name) → is_name first second ≡ false → first ≢ second
apart first second differ same = false≢true (sym differ ∙ (Decides-name first second).1 same)

module _ (headers : List Header) (are : AreClasses headers) where
  other_names : object_name ≢ throwable_name
  other_names = apart object_name throwable_name refl

  from_object : (path : List Name) → ¬ IsPath (HasParent headers) object_name path throwable_name
  from_object [] same = other_names same
  from_object (next ∷ path) (step, rest) = are.object next step

  -- no interface leads to Throwable
  from_interface : (lower : Name) (path : List Name) → IsInterface headers lower → ¬ IsPath (HasParent headers) lower path throwable_name
  from_interface lower [] interface same = are.throwable (subst (IsInterface headers) same interface)
  from_interface lower (next ∷ path) interface (inl super, rest) =
      from_object path (subst (λ name. IsPath (HasParent headers) name path throwable_name) (are.above lower next interface super) rest)
  from_interface lower (next ∷ path) interface (inr listed, rest) = from_interface next path (are.listed lower next listed) rest

  by_superclasses : (lower : Name) (path : List Name) → IsPath (HasParent headers) lower path throwable_name → IsPath (HasSuperclass headers) lower path throwable_name
  by_superclasses lower [] same = same
  by_superclasses lower (next ∷ path) (inl super, rest) = (super, by_superclasses next path rest)
  by_superclasses lower (next ∷ path) (inr listed, rest) = absurd (from_interface next path (are.listed lower next listed) rest)

  no_array : (class : Name) → In class above_arrays → class ≢ throwable_name
  no_array class (inl is) same = apart object_name throwable_name refl (sym is ∙ same)
  no_array class (inr (inl is)) same = apart (codes "java/lang/Cloneable") throwable_name refl (sym is ∙ same)
  no_array class (inr (inr (inl is))) same = apart (codes "java/io/Serializable") throwable_name refl (sym is ∙ same)
  no_array class (inr (inr (inr none))) same = none

  from_array : (class : Name) → Contains above_arrays class → (path : List Name) → ¬ IsPath (HasParent headers) class path throwable_name
  from_array class within [] same = no_array class (in_contained above_arrays class within) same
  from_array class within (next ∷ path) (step, rest) = from_object path (subst (λ name. IsPath (HasParent headers) name path throwable_name) (are.arrays class next within step) rest)

  pub roots_in_order : HasRoots headers
  roots_in_order = record {
    object = are.object;
    throwables = λ class above. record { path = above.path; is_path = by_superclasses class above.path above.is_path };
    arrays = λ class within above. from_array class within above.path above.is_path;
  }
