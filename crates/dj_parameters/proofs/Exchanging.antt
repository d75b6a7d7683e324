-- A variable and the parameter that it holds exchange their names: no two get one, and both have one type and one value as a run begins.
use Rattle.std.proofs.Common.{arith, Decides, ℕ, Bool, true, false, List, [], ◌∷◌, Option, Some, None, ◌≡◌, refl, sym, ap, ◌∙◌, subst}
use Rattle.std.specs.Prelude.{slice_get, option_map, if◌then◌else◌}
use Rattle.std.proofs.lemmas.Bool.{and_parts, and_from, false≢true}
use Rattle.dj_names.specs.declared.header.Header.{Header}
use Rattle.dj_names.specs.Types.{JType}
use Rattle.dj_syntax.specs.declared.variable.VarKind.{VarKind}
use Rattle.dj_syntax.specs.declared.variable.VarKind.TheVariants as kind
use Rattle.dj_syntax.specs.declared.variable.Var.{Var}
use Rattle.dj_values.specs.Values.{Value}
use Rattle.dj_values.specs.Fits.{AreValuesOf}
use Rattle.dj_values.specs.Deciding.{is_type}
use Rattle.dj_static.proofs.TypeLemmas.{Decides-types}
use Rattle.dj_meaning.specs.StaticTypes.{is_same_variable}
use Rattle.dj_renaming.specs.Renaming.{AreApart}
use Rattle.dj_formed.specs.Formed.{local_type}
use Rattle.dj_declare.proofs.Heads.{same_variable}
use Rattle.dj_declare.proofs.Named.{same_is}
use Rattle.dj_declare.specs.Heads.{dummy_value}
use Rattle.dj_declaring.specs.declared.entry.Entry.{Entry}
use Rattle.dj_declaring.specs.Entries.{parameter, is_it, place_in, or_value, first_argument, first_held, first_store}
use Rattle.dj_declaring.specs.Starting.{tree_scope}
use Rattle.dj_declaring.proofs.Copying.{is_it_so, it_is, found_place, argument_there}
use Rattle.dj_parameters.specs.Parameters.{is_one, place_if, held_parameter, parameter_or, holder_or, with_copy, parameter_names}

-- the variable of a number
abbrev pub local : ℕ → Var
local number = record { kind = kind.Local; number = number }

-- what is known of a variable that holds a parameter
pub record Holds (parameters kinds : List JType) (entry : Entry) (number place : ℕ) : Type 0 where
  pub other : is_it entry.itself number ≡ false
  pub found : place_in entry.parameters 0 number ≡ Some place
  pub type : JType
  pub kind_is : slice_get kinds number ≡ Some type
  pub given_is : slice_get parameters place ≡ Some type

same_place : (first second : ℕ) → Some first ≡ Some second → first ≡ second
same_place first second e = cc

no_place : (place : ℕ) → None ≡ Some place → ⊥
no_place place e = cc

one_type : (first second : JType) → is_type first second ≡ true → first ≡ second
one_type first second is =
    let same : first ∷ [] ≡ second ∷ [] = (Decides-types (first ∷ []) (second ∷ [])).0 (and_from (is_type first second) true is refl) in cc

pub decides_type : (first second : JType) → Decides (is_type first second) (first ≡ second)
decides_type first second = (
  one_type first second,
  λ same. (and_parts (is_type first second) true ((Decides-types (first ∷ []) (second ∷ [])).1 (ap (λ one. one ∷ []) same))).0,
)

-- types that are one
record AreOne (first second : Option JType) : Type 0 where
  type : JType
  first_is : first ≡ Some type
  second_is : second ≡ Some type

one_so : (first second : Option JType) → is_one first second ≡ true → AreOne first second
one_so None second e = absurd (false≢true e)
one_so (Some first) None e = absurd (false≢true e)
one_so (Some first) (Some second) e = record { type = first; first_is = refl; second_is = ap Some (sym (one_type first second e)) }

module _ (parameters kinds : List JType) (entry : Entry) where
  abbrev held : ℕ → Option ℕ
  held number = held_parameter parameters kinds entry number

  abbrev other_name : Var → Var
  other_name = with_copy parameters kinds entry

  pub holds_so : (number place : ℕ) → held number ≡ Some place → Holds parameters kinds entry number place
  holds_so number place e = go (is_it entry.itself number) refl (place_in entry.parameters 0 number) refl e
    where
      one : (at : ℕ) → is_it entry.itself number ≡ false → place_in entry.parameters 0 number ≡ Some at → (same : Bool) → is_one (slice_get kinds number) (slice_get parameters at) ≡ same
          → (if same then Some at else None) ≡ Some place → Holds parameters kinds entry number place
      one at not_it found true s e =
          let are = one_so (slice_get kinds number) (slice_get parameters at) s in
          let same : at ≡ place = same_place at place e in
          record { other = not_it; found = found ∙ e; type = are.type; kind_is = are.first_is; given_is = subst (λ at. slice_get parameters at ≡ Some are.type) same are.second_is }
      one at not_it found false s e = absurd (no_place place e)

      go : (it : Bool) → is_it entry.itself number ≡ it → (at : Option ℕ) → place_in entry.parameters 0 number ≡ at
          → (if it then None else place_if parameters (slice_get kinds number) at) ≡ Some place → Holds parameters kinds entry number place
      go true i at a e = absurd (no_place place e)
      go false i None a e = absurd (no_place place e)
      go false i (Some at) a e = one at i a (is_one (slice_get kinds number) (slice_get parameters at)) refl e

  -- ---- the other names

  forth : (number place : ℕ) → held number ≡ Some place → other_name (local number) ≡ parameter place
  forth number place e = ap (parameter_or (local number)) e

  back : (number place : ℕ) → held number ≡ Some place → other_name (parameter place) ≡ local number
  back number place e =
      let there = found_place entry.parameters 0 number place (holds_so number place e).found in
      let same : there.at ≡ place = sym (there.counted ∙ (omega arith)) in
      ap (holder_or parameters kinds entry (parameter place)) (subst (λ at. slice_get entry.parameters at ≡ Some (Some number)) same there.holds)
      ∙ ap (λ (it : Bool). if it then local number else parameter place) (ap (λ one. is_it one place) e ∙ it_is place)

  -- a variable keeps its name, or gets that of the parameter that it holds, or is a parameter that gets that of its copy
  pub data IsTold (variable : Var) : Type 0 where
    stays : other_name variable ≡ variable → IsTold variable
    goes : (number place : ℕ) → variable ≡ local number → other_name variable ≡ parameter place → held number ≡ Some place → IsTold variable
    comes : (number place : ℕ) → variable ≡ parameter place → other_name variable ≡ local number → held number ≡ Some place → IsTold variable

  told_local : (number : ℕ) (found : Option ℕ) → held number ≡ found → IsTold (local number)
  told_local number None e = stays (ap (parameter_or (local number)) e)
  told_local number (Some place) e = goes number place refl (forth number place e) e

  told_parameter : (place : ℕ) (found : Option (Option ℕ)) → slice_get entry.parameters place ≡ found → IsTold (parameter place)
  told_parameter place None e = stays (ap (holder_or parameters kinds entry (parameter place)) e)
  told_parameter place (Some None) e = stays (ap (holder_or parameters kinds entry (parameter place)) e)
  told_parameter place (Some (Some number)) e = go (is_it (held number) place) refl
    where
      go : (it : Bool) → is_it (held number) place ≡ it → IsTold (parameter place)
      go true i =
          comes number place refl (ap (holder_or parameters kinds entry (parameter place)) e ∙ ap (λ (it : Bool). if it then local number else parameter place) i)
          (is_it_so (held number) place i)
      go false i = stays (ap (holder_or parameters kinds entry (parameter place)) e ∙ ap (λ (it : Bool). if it then local number else parameter place) i)

  pub told : (variable : Var) → IsTold variable
  told variable = go variable.kind variable.number
    where
      go : (one : VarKind) (number : ℕ) → IsTold (record { kind = one; number = number })
      go kind.Param number = told_parameter number (slice_get entry.parameters number) refl
      go kind.Local number = told_local number (held number) refl
      go kind.Caught number = stays refl
      go kind.State number = stays refl

  -- ---- no two get one name

  twice : (variable : Var) → other_name (other_name variable) ≡ variable
  twice variable = go (told variable)
    where
      go : IsTold variable → other_name (other_name variable) ≡ variable
      go (stays e) = ap other_name e ∙ e
      go (goes number place is named e) = ap other_name named ∙ back number place e ∙ sym is
      go (comes number place is named e) = ap other_name named ∙ forth number place e ∙ sym is

  both_ways : (first second : Bool) → (first ≡ true → second ≡ true) → (second ≡ true → first ≡ true) → first ≡ second
  both_ways true second on over = sym (on refl)
  both_ways false true on over = over refl
  both_ways false false on over = refl

  pub names_apart : AreApart (parameter_names parameters kinds entry)
  names_apart = record {
    variables = λ first second.
        both_ways (is_same_variable (other_name first) (other_name second)) (is_same_variable first second)
        (λ e. subst (λ one. is_same_variable first one ≡ true) (sym (twice first) ∙ ap other_name (same_is (other_name first) (other_name second) e) ∙ twice second) (same_variable first))
        (λ e. subst (λ one. is_same_variable (other_name first) (other_name one) ≡ true) (same_is first second e) (same_variable (other_name first)));
    labels = λ first second. refl;
  }

  -- ---- both have the same

  -- what is the same of a variable and of the parameter that it holds is the same by the other names
  pub same_by_names : {A : Type 0} (of : Var → A) → ((number place : ℕ) → held number ≡ Some place → of (local number) ≡ of (parameter place)) → (variable : Var) → of variable ≡ of (other_name variable)
  same_by_names of agree variable = go (told variable)
    where
      go : IsTold variable → of variable ≡ of (other_name variable)
      go (stays e) = sym (ap of e)
      go (goes number place is named e) = ap of is ∙ agree number place e ∙ sym (ap of named)
      go (comes number place is named e) = ap of is ∙ sym (agree number place e) ∙ sym (ap of named)

  pub same_types : (variable : Var) → tree_scope parameters kinds variable ≡ tree_scope parameters kinds (other_name variable)
  same_types = same_by_names (tree_scope parameters kinds) (λ number place e.
      let h = holds_so number place e in ap (λ found. local_type found false) h.kind_is ∙ sym h.given_is)

  pub same_values : (headers : List Header) (this : Option Value) (arguments : List Value) → AreValuesOf headers parameters arguments → (variable : Var)
      → (first_store kinds this arguments entry).variables variable ≡ (first_store kinds this arguments entry).variables (other_name variable)
  same_values headers this arguments fit = same_by_names (first_store kinds this arguments entry).variables (λ number place e.
      let h = holds_so number place e in
      let given = argument_there headers parameters arguments place h.type fit h.given_is in
      ap (option_map (λ type. first_held this arguments entry type number)) h.kind_is
      ∙ ap (λ (it : Bool). Some (if it then or_value (dummy_value h.type) this else first_argument arguments h.type (place_in entry.parameters 0 number))) h.other
      ∙ ap (λ found. Some (first_argument arguments h.type found)) h.found
      ∙ ap (λ found. Some (or_value (dummy_value h.type) found)) given.1
      ∙ sym given.1)
