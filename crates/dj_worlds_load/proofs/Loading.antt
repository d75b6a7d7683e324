-- Lawful headers, as a machine loads them.
use Rattle.std.proofs.Common.{◌≡◌, ◌≢◌, ◌⊎◌, ℕ, zero, suc, ◌<◌, List, [], length, get_or, slice_get, nat_eq, bit_and, Contains, Option, Some, None, refl, sym, ap, subst, inl, inr, ◌∙◌, arith}
use Rattle.std.proofs.lemmas.Bool.{cases_Bool, cases_lt, eqb-true, eqb-false}
use Rattle.std.proofs.lemmas.List.{length-map, get_or_default, append-nil}
use Rattle.std.proofs.lemmas.Option.{slice_get-get_or, none-some, same_Some}
use Rattle.dj_names.specs.declared.header.Header.{Header}
use Rattle.dj_names.specs.Headers.{Name, names, IsInterface, HasSuperclass, HasInterface, HasParent}
use Rattle.dj_names.specs.Assignable.{object_name, above_arrays}
use Rattle.dj_values.specs.Fits.{throwable_name}
use Rattle.dj_headers.proofs.HeaderLemmas.{interface_at}
use Rattle.dj_headers.proofs.PlaceLemmas.{same_name}
use Rattle.dj_loaded.specs.Loaded.{AreLoadable, MayRun}
use Rattle.dj_world.specs.CoreKinds.{core_interfaces, core_plain, BreaksCore}
use Rattle.dj_world.specs.Clashes.{IsLawful}

-- a superclass is Object, or it isn't
object_or_not : (superclass : Option Name) → (superclass ≡ Some object_name) ⊎ (superclass ≢ Some object_name)
object_or_not None = inr (λ some. none-some object_name some)
object_or_not (Some name) = elim (same_name name object_name) [ inl same ↦ inl (ap Some same) | inr ne ↦ inr (λ some. ne (same_Some name object_name some)) ]

set_or_not : (bits : ℕ) → (bits ≢ 0) ⊎ ¬ (bits ≢ 0)
set_or_not bits = elim (cases_Bool (nat_eq bits 0)) [ inl is ↦ inr (λ ne. ne (eqb-true bits 0 is)) | inr isnt ↦ inl (eqb-false bits 0 isnt) ]

-- the names that arrays go to, as core classes
is_object_or_interface : (class : Name) → Contains above_arrays class → (class ≡ object_name) ⊎ Contains core_interfaces class
unfolding core_interfaces
is_object_or_interface class (zero, within, is) = inl (sym is)
is_object_or_interface class (suc zero, within, is) = inr (0, omega arith, is)
is_object_or_interface class (suc (suc zero), within, is) = inr (1, omega arith, is)
is_object_or_interface class (suc (suc (suc at)), within, is) = absurd (omega arith)

object_above_arrays : Contains above_arrays object_name
object_above_arrays = (0, omega arith, refl)

throwable_plain : Contains core_plain throwable_name
unfolding core_plain
throwable_plain = (4, omega arith, refl)

module _ (headers : List Header) (lawful : IsLawful headers) where
  -- no header says of a core class what isn't so
  unbroken : (at : ℕ) (header : Header) → at < length headers → get_or headers at header ≡ header → ¬ BreaksCore header
  unbroken at header within is breaks = lawful.no_wrong_kind (inr (at, header, within, is, breaks))

  -- headers of one name are one
  one_header : (first second : ℕ) (low high : Header) → first < length headers → second < length headers → get_or headers first low ≡ low → get_or headers second high ≡ high → low.name ≡ high.name → low ≡ high
  one_header first second low high first_in second_in low_is high_is same =
      let first_at : get_or headers first high ≡ low = get_or_default headers first high low first_in ∙ low_is in
      elim (cases_lt first second) [
        | inl before ↦ absurd (lawful.distinct first second high before second_in (ap (λ (h : Header). h.name) first_at ∙ same ∙ ap (λ (h : Header). h.name) (sym high_is)))
        | inr after ↦ elim (cases_lt second first) [
          | inl behind ↦ absurd (lawful.distinct second first high behind first_in (ap (λ (h : Header). h.name) high_is ∙ sym same ∙ ap (λ (h : Header). h.name) (sym first_at)))
          | inr not_behind ↦ (let at : first ≡ second = omega (arith, after, not_behind) in sym first_at ∙ ap (λ (k : ℕ). get_or headers k high) at ∙ high_is)
        ]
      ]

  interface_or_not : (class : Name) → Header → Contains (names headers) class → IsInterface headers class ⊎ ¬ IsInterface headers class
  interface_or_not class default (at, within, is) =
      let inside : at < length headers = omega (arith, within, length-map headers (λ (h : Header). h.name)) in
      let header = get_or headers at default in
      let here : header ≡ get_or headers at header = sym (get_or_default headers at header default inside) in
      let listed : slice_get (names headers) at ≡ Some class = slice_get-get_or (names headers) at class within ∙ ap Some is in
      let told = interface_at headers class at header lawful.distinct listed inside here in
      elim (set_or_not (bit_and header.flags 512)) [ inl bit ↦ inl (told.1 bit) | inr unset ↦ inr (λ interface. unset (told.0 interface)) ]

  listed_is_interface : (lower upper : Name) → HasInterface headers lower upper → Contains (names headers) upper → IsInterface headers upper
  listed_is_interface lower upper listed there = elim (interface_or_not upper listed.1 there) [
    | inl interface ↦ interface
    | inr class ↦ absurd (lawful.no_wrong_kind (inl (inr (record { lower = lower; upper = upper; is_listed = listed; is_class = (there, class) }))))
  ]

  extended_is_class : (lower upper : Name) → HasSuperclass headers lower upper → ¬ IsInterface headers upper
  extended_is_class lower upper super interface = lawful.no_wrong_kind (inl (inl (record { lower = lower; upper = upper; is_superclass = super; is_interface = interface })))

  extends_object : (class : Name) → IsInterface headers class → HasSuperclass headers class object_name
  extends_object class (at, header, within, is, (named, bit)) = elim (object_or_not header.superclass) [
    | inl super ↦ (at, header, within, is, (named, super))
    | inr ne ↦ absurd (unbroken at header within is (inr (inr (bit, ne))))
  ]

  extends_alone : (lower upper : Name) → IsInterface headers lower → HasSuperclass headers lower upper → upper ≡ object_name
  extends_alone lower upper interface (at, header, within, is, (named, super)) =
      let (k, other, k_in, k_is, (k_named, object)) = extends_object lower interface in
      let same : header ≡ other = one_header at k header other within k_in is k_is (named ∙ sym k_named) in
      same_Some upper object_name (sym super ∙ ap (λ (h : Header). h.superclass) same ∙ object)

  listless : (class upper : Name) → Contains above_arrays class → ¬ HasInterface headers class upper
  listless class upper root (at, header, within, is, (named, there)) =
      unbroken at header within is (inr (inl (inl (subst (λ (n : Name). Contains above_arrays n) (sym named) root, λ none. none_in (subst (λ (ns : List Name). Contains ns upper) none there)))))
    where
      none_in : ¬ Contains [] upper
      none_in (at, within, is) = omega arith

  object_alone : (upper : Name) → ¬ HasParent headers object_name upper
  object_alone upper (inl (at, header, within, is, (named, super))) =
      unbroken at header within is (inr (inl (inr (named, λ none. none-some upper (sym none ∙ super)))))
  object_alone upper (inr listed) = listless object_name upper object_above_arrays listed

  arrays_alone : (class upper : Name) → Contains above_arrays class → HasParent headers class upper → upper ≡ object_name
  arrays_alone class upper root (inr listed) = absurd (listless class upper root listed)
  arrays_alone class upper root (inl super) = elim (is_object_or_interface class root) [
    | inl object ↦ absurd (object_alone upper (inl (subst (λ (n : Name). HasSuperclass headers n upper) object super)))
    | inr core ↦ (
        let (at, header, within, is, (named, parent)) = super in
        elim (set_or_not (bit_and header.flags 512)) [
          | inl bit ↦ extends_alone class upper (at, header, within, is, (named, bit)) super
          | inr unset ↦ absurd (unbroken at header within is (inl (inl (inr (subst (λ (n : Name). Contains core_interfaces n) (sym named) core, unset)))))
        ])
  ]

  throwable_is_class : ¬ IsInterface headers throwable_name
  throwable_is_class (at, header, within, is, (named, bit)) = unbroken at header within is (inl (inl (inl (subst (λ (n : Name). Contains core_plain n) (sym named) throwable_plain, bit))))

  pub loadable : AreLoadable headers
  loadable = record {
    distinct = lawful.distinct;
    no_circle = λ class next path parent is_path. lawful.no_circle (record { lower = class; upper = next; is_parent = parent; back = record { path = path; is_path = is_path } });
    listed = listed_is_interface;
    extended = extended_is_class;
    interfaces = extends_object;
    alone = extends_alone;
    object = object_alone;
    arrays = arrays_alone;
    throwable = throwable_is_class;
  }

  pub run : MayRun headers headers
  run = record { others = []; first = sym (append-nil headers); loadable = loadable }
