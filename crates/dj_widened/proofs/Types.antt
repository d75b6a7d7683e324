-- What goes where in a world goes there where other classes run beside its own, and of types that the world has whole nothing more.
use Rattle.std.proofs.Common.{◌≡◌, true, ◌&&◌, ◌||◌, List, [], ◌∷◌, ◌++◌, refl, sym, ap, subst, ◌∙◌, inl, inr, ◌⊎◌, arith}
use mathlib.Core.Path.{fun_ext}
use Rattle.std.specs.List.{list_any}
use Rattle.std.proofs.lemmas.Bool.{false≢true, and_parts, and_from}
use Rattle.dj_names.specs.declared.header.Header.{Header}
use Rattle.dj_names.specs.Headers.{Name, HasParent, IsPath}
use Rattle.dj_names.specs.Types as types
use Rattle.dj_names.specs.Types.{JType, Boolean, Byte, Char, Short, Int, Long, Float, Double, Class, Array, StaticType, Of}
use Rattle.dj_names.specs.Assignable.{object_name, above_arrays, IsSubtype, own_type, wider_number, parent, object, elements, array}
use Rattle.dj_names.proofs.AssignableLemmas.{class_cases, GoesUp}
use Rattle.dj_values.specs.Fits.{class_of, element_of}
use Rattle.dj_values.specs.Deciding.{is_name, is_some_and, is_reference, is_own_or_wider, goes_up, is_subtype}
use Rattle.dj_values.proofs.Deciding.{Decides-subtype}
use Rattle.dj_meaning.specs.Calls.{all_pairs, is_assignable}
use Rattle.dj_typing.specs.Sites.{is_whole_type}
use Rattle.dj_typing.specs.Expressions.{is_whole_static}
use Rattle.dj_widened.specs.Widens.{Widens}
use Rattle.dj_widened.specs.Meant.{AreAllWhole}
use Rattle.dj_widened.proofs.Paths.{IsWhole, whole_from_test, above_itself, implements_same, interface_same, implements_up, interface_up}

module _ (world headers : List Header) (wide : Widens world headers) where
  -- ---- of whole types nothing more

  pub goes_up_same : (from : Name) → IsWhole world from → goes_up headers from ≡ goes_up world from
  goes_up_same from whole =
      fun_ext (λ to. λ i. implements_same world headers wide from to whole i || (interface_same world headers wide from (whole from (above_itself world from)) i && is_name to object_name))

  pub subtype_same : (from : JType) → is_whole_type world from ≡ true → is_subtype headers from ≡ is_subtype world from
  subtype_same Boolean whole = refl
  subtype_same Byte whole = refl
  subtype_same Char whole = refl
  subtype_same Short whole = refl
  subtype_same Int whole = refl
  subtype_same Long whole = refl
  subtype_same Float whole = refl
  subtype_same Double whole = refl
  subtype_same (Class from) whole =
      fun_ext (λ to. λ i. is_own_or_wider (Class from) to || is_some_and (class_of to) (goes_up_same from (whole_from_test world from whole) i))
  subtype_same (Array from) whole =
      fun_ext (λ to. λ i. is_own_or_wider (Array from) to
      || ((is_reference from && is_some_and (element_of to) (subtype_same from whole i)) || is_some_and (class_of to) (λ name. list_any (λ above. is_name above name) above_arrays)))

  pub assignable_same : (from : StaticType) → is_whole_static world from ≡ true → is_assignable headers from ≡ is_assignable world from
  assignable_same types.Null whole = refl
  assignable_same (Of from) whole = subtype_same from whole

  pub all_assignable_same : (from : List StaticType) → AreAllWhole world from → all_pairs (is_assignable headers) from ≡ all_pairs (is_assignable world) from
  all_assignable_same [] whole = fun_ext none
    where
      none : (to : List JType) → all_pairs (is_assignable headers) [] to ≡ all_pairs (is_assignable world) [] to
      none [] = refl
      none (other ∷ to) = refl
  all_assignable_same (first ∷ rest) whole = fun_ext (go (assignable_same first whole.0) (all_assignable_same rest whole.1))
    where
      go : is_assignable headers first ≡ is_assignable world first → all_pairs (is_assignable headers) rest ≡ all_pairs (is_assignable world) rest
          → (to : List JType) → all_pairs (is_assignable headers) (first ∷ rest) to ≡ all_pairs (is_assignable world) (first ∷ rest) to
      go one more [] = refl
      go one more (type ∷ to) = λ i. one i type && more i to

  -- ---- what is so stays so

  pub subtype_kept : {from to : JType} → IsSubtype world from to → IsSubtype headers from to
  subtype_kept own_type = own_type
  subtype_kept (wider_number within) = wider_number within
  subtype_kept (parent above) = parent (implements_up world headers wide above)
  subtype_kept (object interface) = object (interface_up world headers wide interface)
  subtype_kept (elements reference goes) = elements reference (subtype_kept goes)
  subtype_kept (array above) = array above

  pub subtype_true : (from to : JType) → is_subtype world from to ≡ true → is_subtype headers from to ≡ true
  subtype_true from to is = (Decides-subtype headers from to).1 (subtype_kept ((Decides-subtype world from to).0 is))

  pub all_subtypes_true : (from to : List JType) → all_pairs (is_subtype world) from to ≡ true → all_pairs (is_subtype headers) from to ≡ true
  all_subtypes_true [] [] is = refl
  all_subtypes_true [] (second ∷ to) is = is
  all_subtypes_true (first ∷ from) [] is = is
  all_subtypes_true (first ∷ from) (second ∷ to) is =
      let both = and_parts (is_subtype world first second) (all_pairs (is_subtype world) from to) is in
      and_from _ _ (subtype_true first second both.0) (all_subtypes_true from to both.1)

  -- ---- no two types go to one another

  names_apart : (lower upper : Name) (up down : List Name) → IsPath (HasParent headers) lower up upper → IsPath (HasParent headers) upper down lower → lower ≡ upper
  names_apart lower upper [] down same back = same
  names_apart lower upper (next ∷ up) [] path same = sym same
  names_apart lower upper (next ∷ up) (other ∷ down) (step, rest) back = absurd (wide.no_circle lower next (up ++ other ∷ down) step (joined next up rest))
    where
      joined : (from : Name) (path : List Name) → IsPath (HasParent headers) from path upper → IsPath (HasParent headers) from (path ++ other ∷ down) lower
      joined from [] same = subst (λ name. IsPath (HasParent headers) name (other ∷ down) lower) (sym same) back
      joined from (further ∷ path) (up, more) = (up, joined further path more)

  nothing_above : (name : Name) (path : List Name) → IsPath (HasParent headers) object_name path name → object_name ≡ name
  nothing_above name [] same = same
  nothing_above name (next ∷ path) (step, rest) = absurd (wide.roots.object next step)

  classes_apart : (lower upper : Name) → GoesUp headers lower upper → GoesUp headers upper lower → lower ≡ upper
  classes_apart lower upper (inl above) (inl back) = names_apart lower upper above.path back.path above.is_path back.is_path
  classes_apart lower upper (inr (interface, is)) (inl back) = sym (nothing_above lower back.path (subst (λ name. IsPath (HasParent headers) name back.path lower) is back.is_path)) ∙ sym is
  classes_apart lower upper (inl above) (inr (interface, is)) = is ∙ nothing_above upper above.path (subst (λ name. IsPath (HasParent headers) name above.path upper) is above.is_path)
  classes_apart lower upper (inr (first, is)) (inr (second, same)) = same ∙ sym is

  array_cases : {first second : JType} → IsSubtype headers (Array first) (Array second) → (first ≡ second) ⊎ IsSubtype headers first second
  array_cases own_type = inl refl
  array_cases (wider_number (k, within, is)) = absurd (omega arith)
  array_cases (elements reference goes) = inr goes

  tests_apart : (from to : JType) → is_subtype headers from to ≡ true → is_subtype headers to from ≡ true → from ≡ to
  tests_apart Boolean Boolean is back = refl
  tests_apart Byte Byte is back = refl
  tests_apart Char Char is back = refl
  tests_apart Short Short is back = refl
  tests_apart Int Int is back = refl
  tests_apart Long Long is back = refl
  tests_apart Float Float is back = refl
  tests_apart Double Double is back = refl
  tests_apart (Class first) (Class second) is back =
      ap Class (classes_apart first second (class_cases headers first second ((Decides-subtype headers (Class first) (Class second)).0 is)) (class_cases headers second first ((Decides-subtype headers (Class second) (Class first)).0 back)))
  tests_apart (Array first) (Array second) is back =
      elim (array_cases ((Decides-subtype headers (Array first) (Array second)).0 is)) [
        | inl same ↦ ap Array same
        | inr goes ↦ elim (array_cases ((Decides-subtype headers (Array second) (Array first)).0 back)) [
          | inl same ↦ ap Array (sym same)
          | inr again ↦ ap Array (tests_apart first second ((Decides-subtype headers first second).1 goes) ((Decides-subtype headers second first).1 again))
        ]
      ]
  tests_apart (Array first) second is back = absurd (false≢true back)
  tests_apart from to is back = absurd (false≢true (and_from (is_subtype headers from to) (is_subtype headers to from) is back))

  pub all_apart : (from to : List JType) → all_pairs (is_subtype headers) from to ≡ true → all_pairs (is_subtype headers) to from ≡ true → from ≡ to
  all_apart [] [] is back = refl
  all_apart [] (second ∷ to) is back = absurd (false≢true is)
  all_apart (first ∷ from) [] is back = absurd (false≢true is)
  all_apart (first ∷ from) (second ∷ to) is back =
      let goes = and_parts (is_subtype headers first second) (all_pairs (is_subtype headers) from to) is in
      let again = and_parts (is_subtype headers second first) (all_pairs (is_subtype headers) to from) back in
      λ i. tests_apart first second goes.0 again.0 i ∷ all_apart from to goes.1 again.1 i
