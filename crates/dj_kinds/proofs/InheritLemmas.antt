-- Ways up through superclasses that stay in a package.
use Rattle.std.proofs.Common.{◌≡◌, ◌≢◌, ℕ, suc, ◌+◌, ◌≤◌, List, [], ◌∷◌, Some, None, Bool, true, false, bytes_eq, if◌then◌else◌, slice_get, length, refl, sym, ap, subst, ◌∙◌, arith}
use Rattle.std.specs.Prelude.{option_map}
use Rattle.std.proofs.lemmas.Option.{same_Some, none-some, slice_get_read, slice_get-map}
use Rattle.std.proofs.lemmas.Slice.Eq.{bytes_eq-Decides}
use Rattle.dj_names.specs.declared.header.Header.{Header}
use Rattle.dj_names.specs.Headers.{Name, names, HasDistinctNames, HasSuperclass, IsPath}
use Rattle.dj_names.proofs.PathLemmas.{short_subclass}
use Rattle.dj_kinds.specs.Search.{header_of, superclass_in}
use Rattle.dj_kinds.specs.Access.{package_of}
use Rattle.dj_kinds.proofs.HeaderLemmas.{header_of-at}
use Rattle.dj_kinds.specs.Inherited.{HasSuperclassInPackage, InheritsInPackage}

-- ---- the one superclass of a class

up_by : (header : Header) (headers : List Header) (class upper : Name) (b : Bool) → bytes_eq header.name class ≡ b → superclass_in (if b then Some header else header_of headers class) ≡ Some upper
    → (superclass_in (header_of headers class) ≡ Some upper → HasSuperclass headers class upper) → HasSuperclass (header ∷ headers) class upper
up_by header headers class upper true is there rest = (0, header, omega arith, refl, ((bytes_eq-Decides header.name class).0 is, there))
up_by header headers class upper false is there rest = let found = rest there in (suc found.0, found.1, omega (arith, found.2), found.3, found.4)

-- the superclass that a class's header names is right above it
pub superclass_up : (headers : List Header) (class upper : Name) → superclass_in (header_of headers class) ≡ Some upper → HasSuperclass headers class upper
superclass_up [] class upper is = absurd (none-some upper is)
superclass_up (header ∷ headers) class upper is = up_by header headers class upper (bytes_eq header.name class) refl is (superclass_up headers class upper)

superclass_only : (headers : List Header) (class upper : Name) → HasDistinctNames headers → HasSuperclass headers class upper → superclass_in (header_of headers class) ≡ Some upper
superclass_only headers class upper distinct (k, header, within, is, both) =
    let there : slice_get headers k ≡ Some header = slice_get_read headers (length headers) k header refl within (sym is) in
    let named : slice_get (names headers) k ≡ Some class = slice_get-map (λ (h : Header). h.name) headers k ∙ ap (option_map (λ (h : Header). h.name)) there ∙ ap Some both.0 in
    ap superclass_in (header_of-at headers k class distinct named ∙ there) ∙ both.1

-- ---- a walk upward

-- a way up that is short enough for the steps that are left
record IsNear (headers : List Header) (owner at : Name) (steps : ℕ) : Type 0 where
  path : List Name
  is_path : IsPath (HasSuperclass headers) at path owner
  short : length path + steps ≤ length headers

-- after so many steps from a class all that is left to know is told by where the walk stands
pub record IsWalk (headers : List Header) (owner class at : Name) (steps : ℕ) : Type 0 where
  to : InheritsInPackage headers owner at → InheritsInPackage headers owner class
  back : InheritsInPackage headers owner class → InheritsInPackage headers owner at
  near : InheritsInPackage headers owner class → IsNear headers owner at steps

any_package : (headers : List Header) (owner class : Name) (path : List Name) → IsPath (HasSuperclassInPackage headers owner) class path owner → IsPath (HasSuperclass headers) class path owner
any_package headers owner class [] same = same
any_package headers owner class (next ∷ path) steps = (steps.0.0, any_package headers owner next path steps.1)

module _ (headers : List Header) (owner class : Name) where
  pub walk_start : IsWalk headers owner class class 0
  walk_start = record {
    to = λ h. h;
    back = λ h. h;
    near = λ h.
        let s = short_subclass headers class owner (record { path = h.path; is_path = any_package headers owner class h.path h.is_path }) in
        record { path = s.path; is_path = s.is_path; short = omega (arith, s.short) };
  }

  module _ (at : Name) (steps : ℕ) (walk : IsWalk headers owner class at steps) where
    pub walk_ends : at ≡ owner → InheritsInPackage headers owner class
    walk_ends same = walk.to (record { path = []; is_path = same })

    module _ (other : at ≢ owner) where
      leaves : (path : List Name) → IsPath (HasSuperclassInPackage headers owner) at path owner → (package_of at ≢ package_of owner) → ⊥
      leaves [] same outside = other same
      leaves (next ∷ path) up outside = outside up.0.1

      pub walk_leaves : package_of at ≢ package_of owner → ¬ InheritsInPackage headers owner class
      walk_leaves outside h = let there = walk.back h in leaves there.path there.is_path outside

      module _ (distinct : HasDistinctNames headers) where
        stops : (path : List Name) → IsPath (HasSuperclass headers) at path owner → None ≡ superclass_in (header_of headers at) → ⊥
        stops [] same none = other same
        stops (next ∷ path) up none = none-some next (none ∙ superclass_only headers at next distinct up.0)

        pub walk_stops : None ≡ superclass_in (header_of headers at) → ¬ InheritsInPackage headers owner class
        walk_stops none h = let near = walk.near h in stops near.path near.is_path none

        module _ (next : Name) (super : Some next ≡ superclass_in (header_of headers at)) where
          same_next : (upper : Name) → HasSuperclass headers at upper → upper ≡ next
          same_next upper up = same_Some upper next (sym (superclass_only headers at upper distinct up) ∙ sym super)

          on : (path : List Name) → IsPath (HasSuperclassInPackage headers owner) at path owner → InheritsInPackage headers owner next
          on [] same = absurd (other same)
          on (upper ∷ path) up = subst (λ n. InheritsInPackage headers owner n) (same_next upper up.0.0) (record { path = path; is_path = up.1 })

          nearer : (path : List Name) → IsPath (HasSuperclass headers) at path owner → length path + steps ≤ length headers → IsNear headers owner next (steps + 1)
          nearer [] same short = absurd (other same)
          nearer (upper ∷ path) up short = subst (λ n. IsNear headers owner n (steps + 1)) (same_next upper up.0) (record { path = path; is_path = up.1; short = omega (arith, short) })

          pub walk_on : package_of at ≡ package_of owner → IsWalk headers owner class next (steps + 1)
          walk_on inside = record {
            to = λ h. walk.to (record { path = next ∷ h.path; is_path = ((superclass_up headers at next (sym super), inside), h.is_path) });
            back = λ h. let there = walk.back h in on there.path there.is_path;
            near = λ h. let there = walk.near h in nearer there.path there.is_path there.short;
          }

    -- a way has no more steps than there are headers
    pub walk_over : length headers + 1 ≤ steps → ¬ InheritsInPackage headers owner class
    walk_over over h = let near = walk.near h in (let short = near.short in omega (arith, short, over))
