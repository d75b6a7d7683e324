-- The premises can be met: a small world, and one more class that runs beside its own.
use Rattle.std.proofs.Common.{◌≡◌, ℕ, zero, suc, ◌<◌, false, if◌then◌else◌, codes, List, [], ◌∷◌, ◌++◌, Option, Some, None, refl, sym, ap, subst, inl, inr, ◌⊎◌, arith}
use Rattle.dj_names.specs.declared.header.Header.{Header}
use Rattle.dj_names.specs.Headers.{Name, HasDistinctNames, HasSuperclass, HasParent, IsPath, Implements}
use Rattle.dj_names.specs.Assignable.{object_name, above_arrays}
use Rattle.dj_values.specs.Fits.{throwable_name}
use Rattle.dj_values.specs.Deciding.{is_name, parents_of}
use Rattle.dj_widened.specs.Widens.{HasNoCircle, HasRoots, Widens}
use Rattle.dj_widened.proofs.Paths.{In, in_contained, parent_header}
use Rattle.dj_widened.proofs.Roots.{apart}

-- ---- a rank shows that there is no circle

module _ (headers : List Header) (rank : Name → ℕ) (falls : (lower upper : Name) → HasParent headers lower upper → rank upper < rank lower) where
  path_falls : (lower : Name) (path : List Name) (upper : Name) → IsPath (HasParent headers) lower path upper → rank upper < suc (rank lower)
  path_falls lower [] upper same = subst (λ name. rank name < suc (rank lower)) same (omega arith)
  path_falls lower (next ∷ path) upper (step, rest) =
      let less = falls lower next step in
      let more = path_falls next path upper rest in
      omega (arith, less, more)

  pub ranked : HasNoCircle headers
  ranked class next path step rest =
      let less = falls class next step in
      let more = path_falls next path class rest in
      omega (arith, less, more)

-- ---- Object, Throwable and C, and E, a Throwable, beside them

abbrev class_of : Name → Option Name → Header
class_of name superclass = record { name = name; superclass = superclass; interfaces = []; flags = 0x0021 }

abbrev world : List Header
world = class_of object_name None ∷ class_of throwable_name (Some object_name) ∷ class_of (codes "C") (Some object_name) ∷ []

abbrev headers : List Header
headers = world ++ class_of (codes "E") (Some throwable_name) ∷ []

abbrev rank : Name → ℕ
rank name = if is_name name object_name then 0 else (if is_name name (codes "E") then 2 else 1)

-- each step goes from a header to the superclass that it names
abbrev IsStep : Name → Name → Type 0
IsStep lower upper =
    ((throwable_name ≡ lower) × (upper ≡ object_name)) ⊎ ((codes "C" ≡ lower) × (upper ≡ object_name)) ⊎ ((codes "E" ≡ lower) × (upper ≡ throwable_name))

step_is : (lower upper : Name) → HasParent headers lower upper → IsStep lower upper
step_is lower upper step = by found.0 found.1 found.2 found.3
  where
    found : (header : Header) × In header headers × (header.name ≡ lower) × In upper (parents_of header)
    found = parent_header headers lower upper step

    by : (header : Header) → In header headers → header.name ≡ lower → In upper (parents_of header) → IsStep lower upper
    by header (inl is) named above = absurd (subst (λ (h : Header). In upper (parents_of h)) is above)
    by header (inr (inl is)) named above =
        elim (subst (λ (h : Header). In upper (parents_of h)) is above) [ inl same ↦ inl (subst (λ (h : Header). h.name ≡ lower) is named, same) | inr none ↦ absurd none ]
    by header (inr (inr (inl is))) named above =
        elim (subst (λ (h : Header). In upper (parents_of h)) is above) [ inl same ↦ inr (inl (subst (λ (h : Header). h.name ≡ lower) is named, same)) | inr none ↦ absurd none ]
    by header (inr (inr (inr (inl is)))) named above =
        elim (subst (λ (h : Header). In upper (parents_of h)) is above) [ inl same ↦ inr (inr (subst (λ (h : Header). h.name ≡ lower) is named, same)) | inr none ↦ absurd none ]
    by header (inr (inr (inr (inr none)))) named above = absurd none

falls : (lower upper : Name) → HasParent headers lower upper → rank upper < rank lower
falls lower upper step = by (step_is lower upper step)
  where
    by : IsStep lower upper → rank upper < rank lower
    by (inl both) = subst (λ name. rank upper < rank name) both.0 (subst (λ name. rank name < 1) (sym both.1) (omega arith))
    by (inr (inl both)) = subst (λ name. rank upper < rank name) both.0 (subst (λ name. rank name < 1) (sym both.1) (omega arith))
    by (inr (inr both)) = subst (λ name. rank upper < rank name) both.0 (subst (λ name. rank name < 2) (sym both.1) (omega arith))

superclass_step : (lower upper : Name) → HasParent headers lower upper → HasSuperclass headers lower upper
superclass_step lower upper step = by (step_is lower upper step)
  where
    by : IsStep lower upper → HasSuperclass headers lower upper
    by (inl both) = (1, class_of throwable_name (Some object_name), omega arith, refl, (both.0, ap Some (sym both.1)))
    by (inr (inl both)) = (2, class_of (codes "C") (Some object_name), omega arith, refl, (both.0, ap Some (sym both.1)))
    by (inr (inr both)) = (3, class_of (codes "E") (Some throwable_name), omega arith, refl, (both.0, ap Some (sym both.1)))

path_is : (lower : Name) (path : List Name) (upper : Name) → IsPath (HasParent headers) lower path upper → IsPath (HasSuperclass headers) lower path upper
path_is lower [] upper same = same
path_is lower (next ∷ path) upper (step, rest) = (superclass_step lower next step, path_is next path upper rest)

-- a name that no header below Object has leads to itself alone
leads_nowhere : (name : Name) → is_name throwable_name name ≡ false → is_name (codes "C") name ≡ false → is_name (codes "E") name ≡ false → ¬ Implements headers name throwable_name
leads_nowhere name first second third above = by above.path above.is_path
  where
    by : (path : List Name) → IsPath (HasParent headers) name path throwable_name → ⊥
    by [] same = apart throwable_name name first (sym same)
    by (next ∷ path) (step, rest) = go (step_is name next step)
      where
        go : IsStep name next → ⊥
        go (inl both) = apart throwable_name name first both.0
        go (inr (inl both)) = apart (codes "C") name second both.0
        go (inr (inr both)) = apart (codes "E") name third both.0

in_order : HasRoots headers
in_order = record {
  object = λ above step. elim (step_is object_name above step) [
    | inl both ↦ apart throwable_name object_name refl both.0
    | inr rest ↦ elim rest [ inl both ↦ apart (codes "C") object_name refl both.0 | inr both ↦ apart (codes "E") object_name refl both.0 ]
  ];
  throwables = λ class above. record { path = above.path; is_path = path_is class above.path throwable_name above.is_path };
  arrays = λ class within. by class (in_contained above_arrays class within);
}
  where
    by : (class : Name) → In class above_arrays → ¬ Implements headers class throwable_name
    by class (inl is) = subst (λ name. ¬ Implements headers name throwable_name) (sym is) (leads_nowhere object_name refl refl refl)
    by class (inr (inl is)) = subst (λ name. ¬ Implements headers name throwable_name) (sym is) (leads_nowhere (codes "java/lang/Cloneable") refl refl refl)
    by class (inr (inr (inl is))) = subst (λ name. ¬ Implements headers name throwable_name) (sym is) (leads_nowhere (codes "java/io/Serializable") refl refl refl)
    by class (inr (inr (inr none))) = absurd none

distinct : HasDistinctNames headers
distinct zero (suc zero) d below within = apart object_name throwable_name refl
distinct zero (suc (suc zero)) d below within = apart object_name (codes "C") refl
distinct zero (suc (suc (suc zero))) d below within = apart object_name (codes "E") refl
distinct (suc zero) (suc (suc zero)) d below within = apart throwable_name (codes "C") refl
distinct (suc zero) (suc (suc (suc zero))) d below within = apart throwable_name (codes "E") refl
distinct (suc (suc zero)) (suc (suc (suc zero))) d below within = apart (codes "C") (codes "E") refl
distinct i j d below within = absurd (omega (arith, below, within))

pub widens : Widens world headers
widens = record {
  others = class_of (codes "E") (Some throwable_name) ∷ [];
  first = refl;
  distinct = distinct;
  no_circle = ranked headers rank falls;
  roots = in_order;
  object = (0, omega arith, refl);
}
