-- The first cause of a class: those before it don't hold.
use Rattle.std.proofs.Common.{Bool, false, IsTrue, MatchOption, Option, Some, ◌≡◌, ◌↔◌, ℕ, ◌≤◌, List, [], ◌∷◌, ◌++◌, None, IsBitSet, sym, ap, inl, inr, ◌∙◌, arith}
use Rattle.std.proofs.lemmas.Bool.{both_ways}
use Rattle.std.specs.Option.{option_to_list}
use Rattle.dj_names.specs.Headers.{Name}
use Rattle.dj_kinds.specs.Access.{package_of}
use Rattle.dj_class.specs.Described.{ClassOf}
use Rattle.dj_world.specs.Worlds.{WorldOf}
use Rattle.dj_causes.specs.declared.cause.ClassCause.{ClassCause}
use Rattle.dj_causes.specs.declared.cause.ClassCause.TheVariants as cause
use Rattle.dj_causes.specs.Firsts.{IsFirstWith, IsLeastCause}
use Rattle.dj_causes.specs.ClassCauses.{DescribesPackage, IsFirstUnsaid, IsFirstUnset, IsSaid, IsOwnSaid, parent_names, HasClassCause, class_number}

-- the names of the parents, by whether there is a superclass
pub parents_below : (class : ClassOf) (name : Name) → class.super_class ≡ Some name → name ∷ class.interfaces ≡ parent_names class
parents_below class name is = ap (λ (o : Option Name). option_to_list o ++ class.interfaces) (sym is)

pub parents_alone : (class : ClassOf) → class.super_class ≡ None → class.interfaces ≡ parent_names class
parents_alone class is = ap (λ (o : Option Name). option_to_list o ++ class.interfaces) (sym is)

-- a test that fails denies what it tests
pub fails : (r : Bool) (P : Type 0) → IsTrue r ↔ P → r ≡ false → ¬ P
fails r P is untrue holds = both_ways r untrue (is.1 holds)

append_cancel : (xs ys zs : List ℕ) → xs ++ ys ≡ xs ++ zs → ys ≡ zs
append_cancel [] ys zs same = same
append_cancel (x ∷ xs) ys zs same = append_cancel xs ys zs (cc)

-- a class whose simple name is a word
pub simple_is : (class simple word : Name) → package_of class ++ simple ≡ class → (word ≡ simple) ↔ (class ≡ package_of class ++ word)
simple_is class simple word parts = (
  λ is. sym parts ∙ ap (λ (s : Name). package_of class ++ s) (sym is),
  λ is. sym (append_cancel (package_of class) simple word (parts ∙ is)),
)

module _ (world : WorldOf) (class : ClassOf) where
  -- the first name that a class can't say, where it can say its own
  pub unsaid_parent : (found : Option Name) → IsOwnSaid world class.this_class
      → MatchOption found ((name : Name) → ¬ IsFirstWith (λ parent. ¬ IsSaid world class.this_class parent) (parent_names class) name) (IsFirstWith (λ parent. ¬ IsSaid world class.this_class parent) (parent_names class))
      → MatchOption found ((name : Name) → ¬ IsFirstUnsaid world class name) (IsFirstUnsaid world class)
  unsaid_parent None own none = λ name first. elim first [ inl unsaid ↦ unsaid.0 own | inr parent ↦ none name parent.1 ]
  unsaid_parent (Some name) own first = inr (own, first)

  from_first : (other : ClassCause) → HasClassCause world class other → 1 ≤ class_number other
  from_first cause.Enum holds = omega arith
  from_first cause.Annotation holds = omega arith
  from_first cause.Package holds = omega arith
  from_first cause.Root holds = omega arith
  from_first (cause.Name name) holds = omega arith
  from_first (cause.Constant name) holds = omega arith

  past_enum : ¬ IsBitSet class.flags 14 → (other : ClassCause) → HasClassCause world class other → 2 ≤ class_number other
  past_enum n1 cause.Enum holds = absurd (n1 holds)
  past_enum n1 cause.Annotation holds = omega arith
  past_enum n1 cause.Package holds = omega arith
  past_enum n1 cause.Root holds = omega arith
  past_enum n1 (cause.Name name) holds = omega arith
  past_enum n1 (cause.Constant name) holds = omega arith

  past_annotation : ¬ IsBitSet class.flags 14 → ¬ IsBitSet class.flags 13 → (other : ClassCause) → HasClassCause world class other → 3 ≤ class_number other
  past_annotation n1 n2 cause.Enum holds = absurd (n1 holds)
  past_annotation n1 n2 cause.Annotation holds = absurd (n2 holds)
  past_annotation n1 n2 cause.Package holds = omega arith
  past_annotation n1 n2 cause.Root holds = omega arith
  past_annotation n1 n2 (cause.Name name) holds = omega arith
  past_annotation n1 n2 (cause.Constant name) holds = omega arith

  past_package : ¬ IsBitSet class.flags 14 → ¬ IsBitSet class.flags 13 → ¬ DescribesPackage class.this_class → (other : ClassCause) → HasClassCause world class other → 4 ≤ class_number other
  past_package n1 n2 n3 cause.Enum holds = absurd (n1 holds)
  past_package n1 n2 n3 cause.Annotation holds = absurd (n2 holds)
  past_package n1 n2 n3 cause.Package holds = absurd (n3 holds)
  past_package n1 n2 n3 cause.Root holds = omega arith
  past_package n1 n2 n3 (cause.Name name) holds = omega arith
  past_package n1 n2 n3 (cause.Constant name) holds = omega arith

  past_root : ¬ IsBitSet class.flags 14 → ¬ IsBitSet class.flags 13 → ¬ DescribesPackage class.this_class → ¬ (class.super_class ≡ None) → (other : ClassCause) → HasClassCause world class other → 5 ≤ class_number other
  past_root n1 n2 n3 n4 cause.Enum holds = absurd (n1 holds)
  past_root n1 n2 n3 n4 cause.Annotation holds = absurd (n2 holds)
  past_root n1 n2 n3 n4 cause.Package holds = absurd (n3 holds)
  past_root n1 n2 n3 n4 cause.Root holds = absurd (n4 holds)
  past_root n1 n2 n3 n4 (cause.Name name) holds = omega arith
  past_root n1 n2 n3 n4 (cause.Constant name) holds = omega arith

  past_name : ¬ IsBitSet class.flags 14 → ¬ IsBitSet class.flags 13 → ¬ DescribesPackage class.this_class → ¬ (class.super_class ≡ None) → ((name : Name) → ¬ IsFirstUnsaid world class name) → (other : ClassCause) → HasClassCause world class other → 6 ≤ class_number other
  past_name n1 n2 n3 n4 n5 cause.Enum holds = absurd (n1 holds)
  past_name n1 n2 n3 n4 n5 cause.Annotation holds = absurd (n2 holds)
  past_name n1 n2 n3 n4 n5 cause.Package holds = absurd (n3 holds)
  past_name n1 n2 n3 n4 n5 cause.Root holds = absurd (n4 holds)
  past_name n1 n2 n3 n4 n5 (cause.Name name) holds = absurd (n5 name holds)
  past_name n1 n2 n3 n4 n5 (cause.Constant name) holds = omega arith

  pub least_enum : IsBitSet class.flags 14 → IsLeastCause class_number (HasClassCause world class) cause.Enum
  least_enum holds = record { holds = holds; least = from_first }

  pub least_annotation : ¬ IsBitSet class.flags 14 → IsBitSet class.flags 13 → IsLeastCause class_number (HasClassCause world class) cause.Annotation
  least_annotation n1 holds = record { holds = holds; least = past_enum n1 }

  pub least_package : ¬ IsBitSet class.flags 14 → ¬ IsBitSet class.flags 13 → DescribesPackage class.this_class → IsLeastCause class_number (HasClassCause world class) cause.Package
  least_package n1 n2 holds = record { holds = holds; least = past_annotation n1 n2 }

  pub least_root : ¬ IsBitSet class.flags 14 → ¬ IsBitSet class.flags 13 → ¬ DescribesPackage class.this_class → class.super_class ≡ None → IsLeastCause class_number (HasClassCause world class) cause.Root
  least_root n1 n2 n3 holds = record { holds = holds; least = past_package n1 n2 n3 }

  pub least_name : (found : Name) → ¬ IsBitSet class.flags 14 → ¬ IsBitSet class.flags 13 → ¬ DescribesPackage class.this_class → ¬ (class.super_class ≡ None) → IsFirstUnsaid world class found → IsLeastCause class_number (HasClassCause world class) (cause.Name found)
  least_name found n1 n2 n3 n4 holds = record { holds = holds; least = past_root n1 n2 n3 n4 }

  pub least_constant : (found : Name) → ¬ IsBitSet class.flags 14 → ¬ IsBitSet class.flags 13 → ¬ DescribesPackage class.this_class → ¬ (class.super_class ≡ None) → ((name : Name) → ¬ IsFirstUnsaid world class name) → (IsBitSet class.flags 9 × IsFirstUnset class.fields found) → IsLeastCause class_number (HasClassCause world class) (cause.Constant found)
  least_constant found n1 n2 n3 n4 n5 holds = record { holds = holds; least = past_name n1 n2 n3 n4 n5 }

  pub none_of_class : ¬ IsBitSet class.flags 14 → ¬ IsBitSet class.flags 13 → ¬ DescribesPackage class.this_class → ¬ (class.super_class ≡ None) → ((name : Name) → ¬ IsFirstUnsaid world class name) → ((name : Name) → ¬ (IsBitSet class.flags 9 × IsFirstUnset class.fields name)) → (other : ClassCause) → ¬ HasClassCause world class other
  none_of_class n1 n2 n3 n4 n5 n6 cause.Enum holds = n1 holds
  none_of_class n1 n2 n3 n4 n5 n6 cause.Annotation holds = n2 holds
  none_of_class n1 n2 n3 n4 n5 n6 cause.Package holds = n3 holds
  none_of_class n1 n2 n3 n4 n5 n6 cause.Root holds = n4 holds
  none_of_class n1 n2 n3 n4 n5 n6 (cause.Name name) holds = n5 name holds
  none_of_class n1 n2 n3 n4 n5 n6 (cause.Constant name) holds = n6 name holds
