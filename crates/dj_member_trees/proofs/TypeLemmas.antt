-- The tests of where types go decide it.
use Rattle.std.proofs.Common.{◌≡◌, Bool, true, false, Decides, List, [], ◌∷◌, Some, None, refl, sym, ap, ◌∙◌}
use Rattle.std.proofs.lemmas.Bool.{and_parts, false≢true}
use Rattle.std.proofs.lemmas.Option.{none-some}
use Rattle.dj_names.specs.declared.header.Header.{Header}
use Rattle.dj_names.specs.Headers.{Name}
use Rattle.dj_names.specs.Types.{JType, StaticType, Boolean, Byte, Char, Short, Int, Long, Float, Double, Class, Array}
use Rattle.dj_values.specs.Fits.{class_of}
use Rattle.dj_values.specs.Deciding.{is_type}
use Rattle.dj_names.specs.Assignable.{IsAssignable}
use Rattle.dj_meaning.specs.Calls.{is_assignable}
use Rattle.dj_static.proofs.TypeLemmas.{Decides-types, Decides-all_assignable}

pub Decides-assignable : (headers : List Header) (from : StaticType) (to : JType) → Decides (is_assignable headers from to) (IsAssignable headers from to)
Decides-assignable headers from to = (
  λ is. ((Decides-all_assignable headers (from ∷ []) (to ∷ [])).0 (rw is refl)).0,
  λ goes. (and_parts (is_assignable headers from to) true ((Decides-all_assignable headers (from ∷ []) (to ∷ [])).1 (goes, tt))).0,
)

pub Decides-type : (first second : JType) → Decides (is_type first second) (first ≡ second)
Decides-type first second = (
  λ is. let same : (first ∷ []) ≡ (second ∷ []) = (Decides-types (first ∷ []) (second ∷ [])).0 (rw is refl) in cc,
  λ same. (and_parts (is_type first second) true ((Decides-types (first ∷ []) (second ∷ [])).1 (ap (λ (type : JType). type ∷ []) same))).0,
)

-- ---- classes

class-named : (type : JType) (name : Name) → Some name ≡ class_of type → type ≡ Class name
class-named Boolean name is = absurd (cc)
class-named Byte name is = absurd (cc)
class-named Char name is = absurd (cc)
class-named Short name is = absurd (cc)
class-named Int name is = absurd (cc)
class-named Long name is = absurd (cc)
class-named Float name is = absurd (cc)
class-named Double name is = absurd (cc)
class-named (Class own) name is = let same : own ≡ name = cc in ap Class same
class-named (Array inner) name is = absurd (cc)

-- a type is a class, where its name is the same
pub is-class : (type : JType) (name class : Name) (same : Bool) → Some name ≡ class_of type → Decides same (name ≡ class) → same ≡ is_type type (Class class)
is-class type name class same is decides =
    by-same same (is_type type (Class class)) refl refl
  where
    one_name : (first second : Name) → Class first ≡ Class second → first ≡ second
    one_name first second e = cc

    by-same : (one other : Bool) → same ≡ one → is_type type (Class class) ≡ other → one ≡ other
    by-same true true f s = refl
    by-same true false f s = absurd (false≢true (sym s ∙ (Decides-type type (Class class)).1 (class-named type name is ∙ ap Class (decides.0 f))))
    by-same false true f s = absurd (false≢true (sym f ∙ decides.1 (one_name name class (sym (class-named type name is) ∙ (Decides-type type (Class class)).0 s))))
    by-same false false f s = refl

pub no-class : (type : JType) (class : Name) → None ≡ class_of type → false ≡ is_type type (Class class)
no-class type class none = by-test (is_type type (Class class)) refl
  where
    by-test : (test : Bool) → is_type type (Class class) ≡ test → false ≡ test
    by-test true is = absurd (none-some class (none ∙ ap class_of ((Decides-type type (Class class)).0 is)))
    by-test false is = refl
