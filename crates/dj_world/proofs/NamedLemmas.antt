-- Names that descriptors, entries and members of a class file give.
use Rattle.std.proofs.Common.{◌≡◌, ◌⊎◌, ◌↔◌, ℕ, zero, suc, List, [], ◌∷◌, map, Any, Contains, Option, Some, None, IsSomeAnd, option_map, sym, ap, subst, refl, inl, inr, ◌∙◌, arith}
use Rattle.std.specs.Option.{option_and_then}
use Rattle.std.specs.Ordering.{nat_cmp}
use Rattle.std.specs.Cmp.Lexicographic.{slice_cmp, nat_list_cmp_total}
use Rattle.std.specs.List.Sorted.{IsStrictlySortedBy}
use Rattle.std.specs.BTreeMap.{is_at}
use Rattle.std.specs.BTreeSet.{BTreeSet, IsEmpty}
use Rattle.std.specs.List.{list_any}
use Rattle.std.proofs.lemmas.Option.{same_Some}
use Rattle.std.proofs.lemmas.Bool.{false≢true}
use Rattle.std.proofs.lemmas.Map.Lookups.{exact_bytes}
use Rattle.std.proofs.lemmas.Map.Views.{btree_set_contains_iff}
use Rattle.dj_names.specs.declared.types.JType as code
use Rattle.dj_names.specs.declared.descriptor.Descriptor as code_descriptor
use Rattle.dj_names.specs.declared.descriptor.Descriptor.TheVariants as variants
use Rattle.dj_names.specs.Headers.{Name}
use Rattle.dj_names.specs.ClassNames.{IsClassName}
use Rattle.dj_names.specs.Types.{JType, Descriptor, view_type, view_descriptor}
use Rattle.dj_names.specs.Descriptors.{SpellsDescriptor}
use Rattle.dj_names.proofs.DescriptorLemmas.{one_spelled}
use Rattle.dj_pool.specs.declared.entry.Entry.{Entry}
use Rattle.dj_pool.specs.PoolFormat.{text_at, first_with, second_with}
use Rattle.dj_pool.specs.PoolTable.{IsReadOf}
use Rattle.dj_class.specs.declared.class.ClassFile.{ClassFile}
use Rattle.dj_world.specs.Named.{class_of, NamesClass, IsInDescriptor, IsInClassText, IsInClassEntry, IsInNameAndType, IsInEntry, IsNamed, own, in_pool, in_field, in_method, AreNamed}
use Rattle.dj_world.specs.Learning.{Has, Learns}
use Rattle.dj_world.proofs.LearningLemmas.{learns_none, learns_like, learns_then}

and_some : {A : Type 0} (P : A → Type 0) (found : Option A) → IsSomeAnd found P → (x : A) × (found ≡ Some x) × P x
and_some P None none = absurd none
and_some P (Some x) holds = (x, refl, holds)

some_and : {A : Type 0} (P : A → Type 0) (found : Option A) (x : A) → found ≡ Some x → P x → IsSomeAnd found P
some_and P found x is holds = subst (λ o. IsSomeAnd o P) (sym is) holds

-- ---- types

pub learns_known : (old new : BTreeSet Name) (name : Name) (found : Option Name) → Some name ≡ found → Learns old new (λ other. name ≡ other) → Learns old new (λ other. found ≡ Some other)
learns_known old new name found is learns =
    learns_like old new (λ (other : Name). name ≡ other) (λ (other : Name). found ≡ Some other) (λ other. (λ same. sym is ∙ ap Some same, λ one. same_Some name other (is ∙ one))) learns

pub learns_unknown : (names : BTreeSet Name) (found : Option Name) → None ≡ found → Learns names names (λ other. found ≡ Some other)
learns_unknown names found is = learns_none names (λ (other : Name). found ≡ Some other) (λ other one. (let e : None ≡ Some other = is ∙ one in cc))

-- ---- descriptors

Any-to_map : {A B : Type 0} (P : B → Type 0) (f : A → B) (xs : List A) → Any (λ x. P (f x)) xs → Any P (map f xs)
Any-to_map P f [] (k, x, within, is, holds) = absurd (omega arith)
Any-to_map P f (y ∷ xs) (zero, x, within, is, holds) = (0, f x, omega arith, ap f is, holds)
Any-to_map P f (y ∷ xs) (suc k, x, within, is, holds) =
    let rest = Any-to_map P f xs (k, x, omega arith, is, holds) in
    (suc rest.0, rest.1, (let within' = rest.2 in omega arith), rest.3, rest.4)

Any-from_map : {A B : Type 0} (P : B → Type 0) (f : A → B) (xs : List A) → Any P (map f xs) → Any (λ x. P (f x)) xs
Any-from_map P f [] (k, y, within, is, holds) = absurd (omega arith)
Any-from_map P f (x ∷ xs) (zero, y, within, is, holds) = (0, x, omega arith, refl, subst P (sym is) holds)
Any-from_map P f (x ∷ xs) (suc k, y, within, is, holds) =
    let rest = Any-from_map P f xs (k, y, omega arith, is, holds) in
    (suc rest.0, rest.1, (let within' = rest.2 in omega arith), rest.3, rest.4)

-- the classes of a result
abbrev pub InResult : Option code.JType → Name → Type 0
InResult result name = IsSomeAnd result (λ kind. class_of (view_type kind) ≡ Some name)

result_named : (result : Option code.JType) (name : Name) → InResult result name ↔ (option_and_then class_of (option_map view_type result) ≡ Some name)
result_named None name = (λ none. absurd none, λ e. cc)
result_named (Some kind) name = (λ h. h, λ h. h)

pub learns_some_result : (old new : BTreeSet Name) (found : Option code.JType) (kind : code.JType) → found ≡ Some kind → Learns old new (λ name. class_of (view_type kind) ≡ Some name) → Learns old new (InResult found)
learns_some_result old new found kind is learns = subst (λ (o : Option code.JType). Learns old new (InResult o)) (sym is) learns

pub learns_no_result : (names : BTreeSet Name) (found : Option code.JType) → found ≡ None → Learns names names (InResult found)
learns_no_result names found is = subst (λ (o : Option code.JType). Learns names names (InResult o)) (sym is) (learns_none names (InResult None) (λ name none. none))

pub learns_field : (old new : BTreeSet Name) (descriptor : code_descriptor.Descriptor) (kind : code.JType) → descriptor ≡ variants.Field kind → Learns old new (λ name. class_of (view_type kind) ≡ Some name) → Learns old new (NamesClass (view_descriptor descriptor))
learns_field old new descriptor kind is learns = subst (λ (d : code_descriptor.Descriptor). Learns old new (NamesClass (view_descriptor d))) (sym is) learns

pub learns_method : (old between new : BTreeSet Name) (descriptor : code_descriptor.Descriptor) (parameters : List code.JType) (result : Option code.JType) → descriptor ≡ variants.Method parameters result
    → Learns old between (λ name. Any (λ kind. class_of (view_type kind) ≡ Some name) parameters) → Learns between new (InResult result) → Learns old new (NamesClass (view_descriptor descriptor))
learns_method old between new descriptor parameters result is first second =
    subst (λ (d : code_descriptor.Descriptor). Learns old new (NamesClass (view_descriptor d))) (sym is)
    (learns_like old new (λ (name : Name). Any (λ (kind : code.JType). class_of (view_type kind) ≡ Some name) parameters ⊎ InResult result name) (NamesClass (view_descriptor (variants.Method parameters result))) (λ name. (
      λ either. elim either [
        | inl there ↦ inl (Any-to_map (λ (t : JType). class_of t ≡ Some name) view_type parameters there)
        | inr there ↦ inr ((result_named result name).0 there)
      ],
      λ either. elim either [
        | inl there ↦ inl (Any-from_map (λ (t : JType). class_of t ≡ Some name) view_type parameters there)
        | inr there ↦ inr ((result_named result name).1 there)
      ],
    ))
    (learns_then old between new (λ (name : Name). Any (λ (kind : code.JType). class_of (view_type kind) ≡ Some name) parameters) (InResult result) first second))

-- ---- texts

abbrev InText : Option (List ℕ) → Name → Type 0
InText found name = IsSomeAnd found (λ units. IsInDescriptor units name)

in_text : (found : Option (List ℕ)) (read : code_descriptor.Descriptor) (name : Name) → IsSomeAnd found (λ units. SpellsDescriptor units (view_descriptor read)) → NamesClass (view_descriptor read) name ↔ InText found name
in_text None read name none = absurd none
in_text (Some units) read name spelled = (
  λ names_class. record { descriptor = view_descriptor read; spelled = spelled; names_class = names_class },
  λ there. subst (λ (d : Descriptor). NamesClass d name) (one_spelled units there.descriptor (view_descriptor read) there.spelled spelled) there.names_class,
)

pub learns_read : (old new : BTreeSet Name) (found : Option (List ℕ)) (read : code_descriptor.Descriptor) → IsReadOf found (Some read) → Learns old new (NamesClass (view_descriptor read)) → Learns old new (λ name. IsSomeAnd found (λ units. IsInDescriptor units name))
learns_read old new found read spelled learns = learns_like old new (NamesClass (view_descriptor read)) (InText found) (λ name. in_text found read name spelled) learns

pub learns_unread : (names : BTreeSet Name) (found : Option (List ℕ)) → IsReadOf found None → Learns names names (λ name. IsSomeAnd found (λ units. IsInDescriptor units name))
learns_unread names found none =
    learns_none names (InText found) (λ name there.
    (let some = and_some (λ (units : List ℕ). IsInDescriptor units name) found there in
    none some.2.descriptor (some_and (λ (units : List ℕ). SpellsDescriptor units some.2.descriptor) found some.0 some.1 some.2.spelled)))

abbrev IsNameIn : Option (List ℕ) → Name → Type 0
IsNameIn found name = IsSomeAnd found (λ units. IsClassName units × (units ≡ name))

pub learns_no_name : (names : BTreeSet Name) (found : Option (List ℕ)) → ¬ IsSomeAnd found IsClassName → Learns names names (λ name. IsSomeAnd found (λ units. IsClassName units × (units ≡ name)))
learns_no_name names found none =
    learns_none names (IsNameIn found) (λ name there.
    (let some = and_some (λ (units : List ℕ). IsClassName units × (units ≡ name)) found there in none (some_and IsClassName found some.0 some.1 some.2.0)))

pub learns_text : (old new : BTreeSet Name) (found : Option (List ℕ)) (units given : Name) → Some units ≡ found → given ≡ units → Learns old new (λ other. given ≡ other) → Learns old new (λ other. found ≡ Some other)
learns_text old new found units given is same learns = learns_known old new given found (ap Some same ∙ is) learns

pub learns_name : (old new : BTreeSet Name) (found : Option (List ℕ)) → IsSomeAnd found IsClassName → Learns old new (λ name. found ≡ Some name) → Learns old new (λ name. IsSomeAnd found (λ units. IsClassName units × (units ≡ name)))
learns_name old new found class learns =
    let some = and_some IsClassName found class in
    learns_like old new (λ (name : Name). found ≡ Some name) (IsNameIn found) (λ name. (
      λ is. some_and (λ (units : List ℕ). IsClassName units × (units ≡ name)) found some.0 some.1 (some.2, same_Some some.0 name (sym some.1 ∙ is)),
      λ there. (let one = and_some (λ (units : List ℕ). IsClassName units × (units ≡ name)) found there in one.1 ∙ ap Some one.2.1),
    ))
    learns

class_text : (found : Option (List ℕ)) (name : Name) → (IsNameIn found name ⊎ InText found name) ↔ IsSomeAnd found (λ units. IsInClassText units name)
class_text None name = (λ either. elim either [ inl none ↦ none | inr none ↦ none ], λ none. absurd none)
class_text (Some units) name = (λ either. either, λ either. either)

pub learns_class_text : (old between new : BTreeSet Name) (found : Option (List ℕ)) → Learns old between (λ name. IsSomeAnd found (λ units. IsClassName units × (units ≡ name))) → Learns between new (λ name. IsSomeAnd found (λ units. IsInDescriptor units name))
    → Learns old new (λ name. IsSomeAnd found (λ units. IsInClassText units name))
learns_class_text old between new found first second =
    learns_like old new (λ (name : Name). IsNameIn found name ⊎ InText found name) (λ (name : Name). IsSomeAnd found (λ units. IsInClassText units name)) (class_text found)
    (learns_then old between new (IsNameIn found) (InText found) first second)

-- ---- entries

-- what is behind an index that an entry may have
behind : (P : List ℕ → Name → Type 0) (pool : List Entry) (old new : BTreeSet Name) (found : Option ℕ) (index : ℕ) → Some index ≡ found → Learns old new (λ name. IsSomeAnd (text_at pool index) (λ units. P units name))
    → Learns old new (λ name. IsSomeAnd (option_and_then (text_at pool) found) (λ units. P units name))
behind P pool old new found index is learns =
    subst (λ (o : Option ℕ). Learns old new (λ (name : Name). IsSomeAnd (option_and_then (text_at pool) o) (λ units. P units name))) is learns

behind_none : (P : List ℕ → Name → Type 0) (pool : List Entry) (names : BTreeSet Name) (found : Option ℕ) → None ≡ found → Learns names names (λ name. IsSomeAnd (option_and_then (text_at pool) found) (λ units. P units name))
behind_none P pool names found is =
    subst (λ (o : Option ℕ). Learns names names (λ (name : Name). IsSomeAnd (option_and_then (text_at pool) o) (λ units. P units name))) is
    (learns_none names (λ (name : Name). IsSomeAnd (option_and_then (text_at pool) None) (λ units. P units name)) (λ name none. none))

module _ (pool : List Entry) (entry : Entry) where
  pub learns_class : (old new : BTreeSet Name) (index : ℕ) → Some index ≡ first_with 7 entry → Learns old new (λ name. IsSomeAnd (text_at pool index) (λ units. IsInClassText units name)) → Learns old new (IsInClassEntry pool entry)
  learns_class old new index = behind IsInClassText pool old new (first_with 7 entry) index

  pub learns_no_class : (names : BTreeSet Name) → None ≡ first_with 7 entry → Learns names names (IsInClassEntry pool entry)
  learns_no_class names = behind_none IsInClassText pool names (first_with 7 entry)

  pub learns_pair : (old new : BTreeSet Name) (index : ℕ) → Some index ≡ second_with 12 entry → Learns old new (λ name. IsSomeAnd (text_at pool index) (λ units. IsInDescriptor units name)) → Learns old new (IsInNameAndType pool entry)
  learns_pair old new index = behind IsInDescriptor pool old new (second_with 12 entry) index

  pub learns_no_pair : (names : BTreeSet Name) → None ≡ second_with 12 entry → Learns names names (IsInNameAndType pool entry)
  learns_no_pair names = behind_none IsInDescriptor pool names (second_with 12 entry)

-- ---- a class file

has_none : (names : BTreeSet Name) (name : Name) → IsEmpty names → ¬ Has names name
has_none names name empty has = false≢true (sym (ap (list_any (is_at (slice_cmp nat_cmp name))) empty) ∙ has)

module _ (class : ClassFile) where
  abbrev InPool : Name → Type 0
  InPool name = Any (λ entry. IsInEntry class.pool entry name) class.pool

  abbrev InFields : Name → Type 0
  InFields name = Any (λ field. class_of (view_type field.descriptor) ≡ Some name) class.fields

  abbrev InMethods : Name → Type 0
  InMethods name = Any (λ method. NamesClass (view_descriptor method.descriptor) name) class.methods

  pub are_named : (named : List Name) (none first second third last : BTreeSet Name) → IsEmpty none → Learns none first (λ other. class.this_class ≡ other) → Learns first second InPool → Learns second third InFields → Learns third last InMethods
      → named ≡ last.keys → IsStrictlySortedBy (slice_cmp nat_cmp) named → AreNamed class named
  are_named named none first second third last empty own_name pool fields methods listed rising = record {
    rising = rising;
    exact = λ name.
        let is_key = btree_set_contains_iff nat_list_cmp_total exact_bytes last name in (
          λ there. elim ((methods.each name).0 (is_key.1 (subst (λ (ns : List Name). Contains ns name) listed there))) [
            | inl before ↦ elim ((fields.each name).0 before) [
              | inl earlier ↦ elim ((pool.each name).0 earlier) [
                | inl earliest ↦ elim ((own_name.each name).0 earliest) [ inl has ↦ absurd (has_none none name empty has) | inr is ↦ own is ]
                | inr there' ↦ in_pool there'
              ]
              | inr there' ↦ in_field there'
            ]
            | inr there' ↦ in_method there'
          ],
          λ is_named. subst (λ (ns : List Name). Contains ns name) (sym listed) (is_key.0 (learned name is_named)),
        );
  }
    where
      learned : (name : Name) → IsNamed class name → Has last name
      learned name (own is) = (methods.each name).1 (inl ((fields.each name).1 (inl ((pool.each name).1 (inl ((own_name.each name).1 (inr is)))))))
      learned name (in_pool there) = (methods.each name).1 (inl ((fields.each name).1 (inl ((pool.each name).1 (inr there)))))
      learned name (in_field there) = (methods.each name).1 (inl ((fields.each name).1 (inr there)))
      learned name (in_method there) = (methods.each name).1 (inr there)
