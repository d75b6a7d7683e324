-- The classes that the head of a method names, gathered one after another.
use Rattle.std.proofs.Common.{◌≡◌, ◌⊎◌, ◌↔◌, ℕ, zero, suc, ◌+◌, ◌<◌, ◌≤◌, List, [], ◌∷◌, ◌++◌, Any, Contains, Option, Some, None, IsSomeAnd, length, take, get_or, map, append_assoc, refl, sym, ap, subst, inl, inr, ◌∙◌, arith}
use Rattle.std.specs.Prelude.{option_map}
use Rattle.std.specs.Option.{option_and_then}
use Rattle.std.proofs.lemmas.List.{take_more, take_all}
use Rattle.std.proofs.lemmas.Option.{same_Some}
use Rattle.dj_names.specs.declared.types.JType as code
use Rattle.dj_names.specs.declared.descriptor.Descriptor as code_descriptor
use Rattle.dj_names.specs.declared.descriptor.Descriptor.TheVariants as variants
use Rattle.dj_names.specs.Headers.{Name}
use Rattle.dj_names.specs.Types.{JType, view_type, view_descriptor}
use Rattle.dj_world.specs.Named.{class_of, NamesClass}
use Rattle.dj_class.specs.Described.{MethodOf}
use Rattle.dj_sayable.specs.Gathering.{Gains}
use Rattle.dj_sayable.proofs.GatheringLemmas.{gains_none, gains_like, gains_then, gains_behind, gains_one, any_more}
use Rattle.dj_causes.specs.BareCauses.{IsInHead}

-- ---- types

pub gains_class : (old new : List Name) (name : Name) (found : Option Name) → Some name ≡ found → new ≡ old ++ name ∷ [] → Gains old new (λ other. found ≡ Some other)
gains_class old new name found is behind =
    gains_like old new (λ (other : Name). name ≡ other) (λ (other : Name). found ≡ Some other) (λ other. (λ same. sym is ∙ ap Some same, λ one. same_Some name other (is ∙ one)))
    (subst (λ (names : List Name). Gains old names (λ other. name ≡ other)) (sym behind) (gains_one old name))

pub gains_no_class : (names : List Name) (found : Option Name) → None ≡ found → Gains names names (λ other. found ≡ Some other)
gains_no_class names found is = gains_none names (λ (other : Name). found ≡ Some other) (λ other one. (let e : None ≡ Some other = is ∙ one in cc))

module _ {A : Type 0} (P : Name → A → Type 0) (xs : List A) where
  pub gained_none : (names : List Name) → Gains names names (λ name. Any (P name) (take 0 xs))
  gained_none names = gains_none names (λ name. Any (P name) (take 0 xs)) (λ name some. (let within = some.2 in omega arith))

  pub gained_more : (i : ℕ) (x : A) (old between new : List Name) → i < length xs → x ≡ get_or xs i x → Gains old between (λ name. Any (P name) (take i xs)) → Gains between new (λ name. P name x)
      → Gains old new (λ name. Any (P name) (take (i + 1) xs))
  gained_more i x old between new within is before here =
      gains_like old new (λ name. Any (P name) (take i xs) ⊎ P name x) (λ name. Any (P name) (take (i + 1) xs)) (λ name. any_more xs i x within is (P name))
      (gains_then old between new (λ name. Any (P name) (take i xs)) (λ name. P name x) before here)

  pub gained_all : (i : ℕ) (old new : List Name) → length xs ≤ i → Gains old new (λ name. Any (P name) (take i xs)) → Gains old new (λ name. Any (P name) xs)
  gained_all i old new end gains = subst (λ (ys : List A). Gains old new (λ name. Any (P name) ys)) (take_all i xs end) gains

-- one more name behind the first ones
pub behind_more : (old more : List Name) (i : ℕ) (x : Name) (between new : List Name) → i < length more → x ≡ get_or more i x → between ≡ old ++ take i more → new ≡ between ++ x ∷ [] → new ≡ old ++ take (i + 1) more
behind_more old more i x between new within is before here =
    here ∙ ap (λ (ys : List Name). ys ++ x ∷ []) before ∙ append_assoc old (take i more) (x ∷ [])
    ∙ ap (λ (ys : List Name). old ++ ys) (sym (take_more more i x within ∙ ap (λ (y : Name). take i more ++ y ∷ []) (sym is)))

-- ---- descriptors

any_to_map : {A B : Type 0} (P : B → Type 0) (f : A → B) (xs : List A) → Any (λ x. P (f x)) xs → Any P (map f xs)
any_to_map P f [] (k, x, within, is, holds) = absurd (omega arith)
any_to_map P f (y ∷ xs) (zero, x, within, is, holds) = (0, f x, omega arith, ap f is, holds)
any_to_map P f (y ∷ xs) (suc k, x, within, is, holds) =
    let rest = any_to_map P f xs (k, x, omega arith, is, holds) in
    (suc rest.0, rest.1, (let within' = rest.2 in omega arith), rest.3, rest.4)

any_from_map : {A B : Type 0} (P : B → Type 0) (f : A → B) (xs : List A) → Any P (map f xs) → Any (λ x. P (f x)) xs
any_from_map P f [] (k, y, within, is, holds) = absurd (omega arith)
any_from_map P f (x ∷ xs) (zero, y, within, is, holds) = (0, x, omega arith, refl, subst P (sym is) holds)
any_from_map P f (x ∷ xs) (suc k, y, within, is, holds) =
    let rest = any_from_map P f xs (k, y, omega arith, is, holds) in
    (suc rest.0, rest.1, (let within' = rest.2 in omega arith), rest.3, rest.4)

-- the class of a result
abbrev pub InResult : Option code.JType → Name → Type 0
InResult result name = IsSomeAnd result (λ kind. class_of (view_type kind) ≡ Some name)

result_named : (result : Option code.JType) (name : Name) → InResult result name ↔ (option_and_then class_of (option_map view_type result) ≡ Some name)
result_named None name = (λ none. absurd none, λ e. cc)
result_named (Some kind) name = (λ h. h, λ h. h)

pub gains_some_result : (old new : List Name) (found : Option code.JType) (kind : code.JType) → found ≡ Some kind → Gains old new (λ name. class_of (view_type kind) ≡ Some name) → Gains old new (InResult found)
gains_some_result old new found kind is gains = subst (λ (o : Option code.JType). Gains old new (InResult o)) (sym is) gains

pub gains_no_result : (names : List Name) (found : Option code.JType) → found ≡ None → Gains names names (InResult found)
gains_no_result names found is = subst (λ (o : Option code.JType). Gains names names (InResult o)) (sym is) (gains_none names (InResult None) (λ name none. none))

pub gains_field : (old new : List Name) (descriptor : code_descriptor.Descriptor) (kind : code.JType) → descriptor ≡ variants.Field kind → Gains old new (λ name. class_of (view_type kind) ≡ Some name) → Gains old new (NamesClass (view_descriptor descriptor))
gains_field old new descriptor kind is gains = subst (λ (d : code_descriptor.Descriptor). Gains old new (NamesClass (view_descriptor d))) (sym is) gains

pub gains_method : (old between new : List Name) (descriptor : code_descriptor.Descriptor) (parameters : List code.JType) (result : Option code.JType) → descriptor ≡ variants.Method parameters result
    → Gains old between (λ name. Any (λ kind. class_of (view_type kind) ≡ Some name) parameters) → Gains between new (InResult result) → Gains old new (NamesClass (view_descriptor descriptor))
gains_method old between new descriptor parameters result is first second =
    subst (λ (d : code_descriptor.Descriptor). Gains old new (NamesClass (view_descriptor d))) (sym is)
    (gains_like old new (λ (name : Name). Any (λ (kind : code.JType). class_of (view_type kind) ≡ Some name) parameters ⊎ InResult result name) (NamesClass (view_descriptor (variants.Method parameters result))) (λ name. (
      λ either. elim either [
        | inl there ↦ inl (any_to_map (λ (t : JType). class_of t ≡ Some name) view_type parameters there)
        | inr there ↦ inr ((result_named result name).0 there)
      ],
      λ either. elim either [
        | inl there ↦ inl (any_from_map (λ (t : JType). class_of t ≡ Some name) view_type parameters there)
        | inr there ↦ inr ((result_named result name).1 there)
      ],
    ))
    (gains_then old between new (λ (name : Name). Any (λ (kind : code.JType). class_of (view_type kind) ≡ Some name) parameters) (InResult result) first second))

-- ---- the head

-- the names of a head are those of its descriptor and those that it declares to throw
pub in_head : (method : MethodOf) (names all : List Name) → Gains [] names (NamesClass method.descriptor) → all ≡ names ++ method.thrown → (name : Name) → Contains all name ↔ IsInHead method name
in_head method names all gains behind name =
    let both : Gains [] (names ++ method.thrown) (λ (n : Name). NamesClass method.descriptor n ⊎ Contains method.thrown n) = gains_then [] names (names ++ method.thrown) (NamesClass method.descriptor) (Contains method.thrown) gains (gains_behind names method.thrown) in (
      λ has. elim ((both.each name).0 (subst (λ (ns : List Name). Contains ns name) behind has)) [ inl none ↦ absurd (let w = none.1 in omega arith) | inr holds ↦ holds ],
      λ holds. subst (λ (ns : List Name). Contains ns name) (sym behind) ((both.each name).1 (inr holds)),
    )
