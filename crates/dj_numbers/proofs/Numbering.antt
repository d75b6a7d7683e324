-- The number of a variable, by its slot and its type.
use Rattle.std.proofs.Common.{◌≡◌, ◌≢◌, ◌⊎◌, inl, inr, ℕ, zero, suc, ◌<◌, ◌≤◌, ◌==◌, eqb, nat_eq, Bool, true, false, List, [], ◌∷◌, ◌++◌, length, Option, Some, None, option_map, ⊎_elim, refl, sym, ap, ◌∙◌, subst, arith}
use Rattle.std.specs.Prelude.{if◌then◌else◌, ◌&&◌, slice_get, slice_index_or, slice_set}
use Rattle.std.proofs.lemmas.Bool.Decides.{eqb_tells}
use Rattle.std.proofs.lemmas.Bool.{eqb-true, cases_lt}
use Rattle.std.proofs.lemmas.Slice.Eq.{bytes_eq-Decides}
use Rattle.std.proofs.lemmas.Option.{slice_get-map, slice_get_within}
use Rattle.std.proofs.lemmas.List.{length_push, map-append, get_or-set_same, get_or-set_other}
use Rattle.dj_names.specs.Types as types
use Rattle.dj_names.specs.Types.{JType, Boolean, Byte, Char, Short, Float, Double, Class, Array, view_type}
use Rattle.dj_names.specs.Descriptors.{spell_type}
use Rattle.dj_names.proofs.OneSpelling.{primitive}
use Rattle.dj_values.specs.Deciding.{is_type}
use Rattle.dj_numbers.specs.declared.numbers.Variable.{Variable}
use Rattle.dj_numbers.specs.Numbers.{Typing, view_variable, view_variables, is_of, number_of, with_new, AreDistinct, IsLast, IsChained, IsSought, counted}

-- ---- plain facts

never : true ≡ false → ⊥
never e = cc

some-is : {A : Type 0} (one other : A) → Some one ≡ Some other → one ≡ other
some-is one other e = cc

none-some : {A P : Type 0} (one : A) → None ≡ Some one → P
none-some one e = absurd (no one e)
  where
    no : {A : Type 0} (one : A) → None ≡ Some one → ⊥
    no one e = cc

both-true : (one other : Bool) → (one && other) ≡ true → (one ≡ true) × (other ≡ true)
both-true true true e = (refl, refl)
both-true true false e = absurd (never (sym e))
both-true false other e = absurd (never (sym e))

eqb-same : (one other : ℕ) → one ≡ other → eqb one other ≡ true
eqb-same one other same = ⊎_elim (λ both. both.0) (λ both. absurd (both.1 same)) (eqb_tells one other)

-- ---- types are told by what spells them

-- all but the last
abbrev front : List ℕ → List ℕ
front [] = []
front (unit ∷ []) = []
front (unit ∷ next ∷ units) = unit ∷ front (next ∷ units)

front-push : (units : List ℕ) (last : ℕ) → front (units ++ last ∷ []) ≡ units
front-push [] last = refl
front-push (unit ∷ []) last = refl
front-push (unit ∷ next ∷ units) last = ap (λ list. unit ∷ list) (front-push (next ∷ units) last)

-- the type that units spell
abbrev spelled : List ℕ → Option JType
spelled [] = None
spelled (unit ∷ units) = if nat_eq unit 91 then option_map Array (spelled units) else (if nat_eq unit 76 then Some (Class (front units)) else primitive unit)

spelled-spell : (type : JType) → spelled (spell_type type) ≡ Some type
spelled-spell Boolean = refl
spelled-spell Byte = refl
spelled-spell Char = refl
spelled-spell Short = refl
spelled-spell types.Int = refl
spelled-spell types.Long = refl
spelled-spell Float = refl
spelled-spell Double = refl
spelled-spell (Class name) = ap (λ units. Some (Class units)) (front-push name 59)
spelled-spell (Array element) = ap (option_map Array) (spelled-spell element)

one-type : (first second : JType) → spell_type first ≡ spell_type second → first ≡ second
one-type first second same = some-is first second (sym (spelled-spell first) ∙ ap spelled same ∙ spelled-spell second)

type-is : (first second : JType) → is_type first second ≡ true → first ≡ second
type-is first second e = one-type first second ((bytes_eq-Decides (spell_type first) (spell_type second)).0 e)

is-type : (type : JType) → is_type type type ≡ true
is-type type = (bytes_eq-Decides (spell_type type) (spell_type type)).1 refl

-- ---- numbers

of-is : (slot : ℕ) (type : JType) (typing : Typing) → is_of slot type typing ≡ true → typing ≡ record { slot = slot; type = type }
of-is slot type typing e =
    let both = both-true (typing.slot == slot) (is_type typing.type type) e in
    ap (λ (n : ℕ). record { slot = n; type = typing.type }) (eqb-true typing.slot slot both.0) ∙ ap (λ (t : JType). record { slot = slot; type = t }) (type-is typing.type type both.1)

is-of : (slot : ℕ) (type : JType) → is_of slot type (record { slot = slot; type = type }) ≡ true
is-of slot type = ap (λ (test : Bool). test && is_type type type) (eqb-same slot slot refl) ∙ is-type type

-- where none is of the slot and the type there is no number
pub number-none : (list : List Typing) (slot : ℕ) (type : JType) → ((number : ℕ) (typing : Typing) → slice_get list number ≡ Some typing → typing ≢ record { slot = slot; type = type }) → number_of list slot type ≡ None
number-none [] slot type no_one = refl
number-none (first ∷ rest) slot type no_one = by (number-none rest slot type (λ number typing there. no_one (suc number) typing there)) (is_of slot type first) refl
  where
    by : number_of rest slot type ≡ None → (test : Bool) → is_of slot type first ≡ test → (if test then Some 0 else option_map suc (number_of rest slot type)) ≡ None
    by others true e = absurd (no_one 0 first refl (of-is slot type first e))
    by others false e = ap (option_map suc) others

-- a number is that of a variable of the slot and the type
pub number-is : (list : List Typing) (slot : ℕ) (type : JType) (number : ℕ) → number_of list slot type ≡ Some number → slice_get list number ≡ Some (record { slot = slot; type = type })
number-is [] slot type number e = none-some number e
number-is (first ∷ rest) slot type number e = by (λ at f. number-is rest slot type at f) (is_of slot type first) refl e
  where
    later : ((at : ℕ) → number_of rest slot type ≡ Some at → slice_get rest at ≡ Some (record { slot = slot; type = type })) → (found : Option ℕ) → number_of rest slot type ≡ found → option_map suc found ≡ Some number → slice_get (first ∷ rest) number ≡ Some (record { slot = slot; type = type })
    later others None f e = none-some number e
    later others (Some at) f e = subst (λ (n : ℕ). slice_get (first ∷ rest) n ≡ Some (record { slot = slot; type = type })) (some-is (suc at) number e) (others at f)

    by : ((at : ℕ) → number_of rest slot type ≡ Some at → slice_get rest at ≡ Some (record { slot = slot; type = type }))
        → (test : Bool) → is_of slot type first ≡ test → (if test then Some 0 else option_map suc (number_of rest slot type)) ≡ Some number → slice_get (first ∷ rest) number ≡ Some (record { slot = slot; type = type })
    by others true f e = subst (λ (n : ℕ). slice_get (first ∷ rest) n ≡ Some (record { slot = slot; type = type })) (some-is 0 number e) (ap Some (of-is slot type first f))
    by others false f e = later others (number_of rest slot type) refl e

-- and what stands at a number has one
pub number-there : (list : List Typing) (slot : ℕ) (type : JType) (number : ℕ) → slice_get list number ≡ Some (record { slot = slot; type = type }) → (found : ℕ) × (number_of list slot type ≡ Some found)
number-there [] slot type number e = none-some (record { slot = slot; type = type }) e
number-there (first ∷ rest) slot type number e = by (λ number e. number-there rest slot type number e) (is_of slot type first) refl number e
  where
    by : ((number : ℕ) → slice_get rest number ≡ Some (record { slot = slot; type = type }) → (found : ℕ) × (number_of rest slot type ≡ Some found)) → (test : Bool) → is_of slot type first ≡ test → (number : ℕ) → slice_get (first ∷ rest) number ≡ Some (record { slot = slot; type = type }) → (found : ℕ) × ((if test then Some 0 else option_map suc (number_of rest slot type)) ≡ Some found)
    by others true f number e = (0, refl)
    by others false f zero e = absurd (never (sym (is-of slot type) ∙ ap (is_of slot type) (sym (some-is first (record { slot = slot; type = type }) e)) ∙ f))
    by others false f (suc number) e = let later = others number e in (suc later.0, ap (option_map suc) later.1)

pub number-found : (list : List Typing) → AreDistinct list → (slot : ℕ) (type : JType) (number : ℕ) → slice_get list number ≡ Some (record { slot = slot; type = type }) → number_of list slot type ≡ Some number
number-found list distinct slot type number e =
    let found = number-there list slot type number e in
    found.1 ∙ ap Some (distinct found.0 number (record { slot = slot; type = type }) (number-is list slot type found.0 found.1) e)

-- ---- the chain of a slot

seen-variable : (variables : List Variable) (number : ℕ) (variable : Variable) → slice_get variables number ≡ Some variable → slice_get (view_variables variables) number ≡ Some (view_variable variable)
seen-variable variables number variable e = slice_get-map view_variable variables number ∙ ap (option_map view_variable) e

of-seen : (variables : List Variable) (number : ℕ) (typing : Typing) → slice_get (view_variables variables) number ≡ Some typing → (variable : Variable) × (slice_get variables number ≡ Some variable) × (view_variable variable ≡ typing)
of-seen variables number typing e = by (slice_get variables number) refl (sym (slice_get-map view_variable variables number) ∙ e)
  where
    by : (found : Option Variable) → slice_get variables number ≡ found → option_map view_variable found ≡ Some typing → (variable : Variable) × (slice_get variables number ≡ Some variable) × (view_variable variable ≡ typing)
    by None f e = none-some typing e
    by (Some variable) f e = (variable, f, some-is (view_variable variable) typing e)

pub sought-first : (variables : List Variable) (lasts : List (Option ℕ)) (slot : ℕ) (type : JType) → IsChained variables lasts → IsSought variables slot type (slice_index_or lasts slot None)
sought-first variables lasts slot type chained = record {
  bound = length variables;
  within = omega arith;
  last = chained.ends slot;
  behind = λ number variable least there. absurd (let less = slice_get_within variables number variable there in omega (arith, less, least));
}

-- the one that is looked at, where it is of another type, is left for the one before it
pub sought-next : (variables : List Variable) (lasts : List (Option ℕ)) (slot : ℕ) (type : JType) (number : ℕ) (variable : Variable) → IsChained variables lasts → slice_get variables number ≡ Some variable → view_type variable.kind ≢ type
    → IsSought variables slot type (Some number) → IsSought variables slot type variable.before
sought-next variables lasts slot type number variable chained there differs sought = record {
  bound = number;
  within = (let less = slice_get_within variables number variable there in omega (arith, less));
  last = subst (λ (n : ℕ). IsLast variables number n variable.before) (sought.last.of_slot variable there) (chained.befores number variable there);
  behind = λ other found least at. elim (cases_lt number other) [
    | inl more ↦ elim (cases_lt other sought.bound) [
      | inl less ↦ λ same. sought.last.none other found more less at (ap (λ (typing : Typing). typing.slot) same)
      | inr past ↦ sought.behind other found past at
    ]
    | inr most ↦ λ same. differs (ap view_type_of (some-is variable found (sym there ∙ ap (slice_get variables) (let equal : number ≡ other = omega (arith, least, most) in equal) ∙ at)) ∙ ap (λ (typing : Typing). typing.type) same)
  ];
}
  where
    view_type_of : Variable → JType
    view_type_of one = view_type one.kind

pub before-less : (variables : List Variable) (number slot : ℕ) (before : Option ℕ) → IsLast variables number slot before → counted before < suc number
before-less variables number slot None h = omega arith
before-less variables number slot (Some other) h = let less = h.within in omega (arith, less)

pub sought-none : (variables : List Variable) (slot : ℕ) (type : JType) → IsSought variables slot type None → number_of (view_variables variables) slot type ≡ None
sought-none variables slot type sought = number-none (view_variables variables) slot type (λ number typing there same.
    let found = of-seen variables number typing there in
    elim (cases_lt number sought.bound) [
      | inl less ↦ sought.last number found.0 less found.1 (ap (λ (one : Typing). one.slot) (found.2 ∙ same))
      | inr past ↦ sought.behind number found.0 past found.1 (found.2 ∙ same)
    ])

pub sought-found : (variables : List Variable) (lasts : List (Option ℕ)) (slot : ℕ) (type : JType) (number : ℕ) (variable : Variable) → IsChained variables lasts → slice_get variables number ≡ Some variable → view_type variable.kind ≡ type
    → IsSought variables slot type (Some number) → number_of (view_variables variables) slot type ≡ Some number
sought-found variables lasts slot type number variable chained there same sought =
    number-found (view_variables variables) chained.distinct slot type number
    (seen-variable variables number variable there ∙ ap Some (ap (λ (n : ℕ). record { slot = n; type = view_type variable.kind }) (sought.last.of_slot variable there) ∙ ap (λ (t : JType). record { slot = slot; type = t }) same))

-- ---- one variable more

pub pushed : {A : Type 0} (list : List A) (one : A) (number : ℕ) (found : A) → slice_get (list ++ one ∷ []) number ≡ Some found → (slice_get list number ≡ Some found) ⊎ ((number ≡ length list) × (one ≡ found))
pushed [] one zero found e = inr (refl, some-is one found e)
pushed [] one (suc number) found e = none-some found e
pushed (first ∷ rest) one zero found e = inl e
pushed (first ∷ rest) one (suc number) found e = elim (pushed rest one number found e) [ inl old ↦ inl old | inr new ↦ inr (ap suc new.0, new.1) ]

pub at-end : {A : Type 0} (list : List A) (one : A) → slice_get (list ++ one ∷ []) (length list) ≡ Some one
at-end [] one = refl
at-end (first ∷ rest) one = at-end rest one

-- the last of a slot below a bound stays
last-keep : (variables : List Variable) (one : Variable) (bound slot : ℕ) (number : Option ℕ) → bound ≤ length variables → IsLast variables bound slot number → IsLast (variables ++ one ∷ []) bound slot number
last-keep variables one bound slot None within h = λ other variable less there. elim (pushed variables one other variable there) [
  | inl old ↦ h other variable less old
  | inr new ↦ absurd (let equal = new.0 in omega (arith, equal, less, within))
]
last-keep variables one bound slot (Some number) within h = record {
  within = h.within;
  of_slot = λ variable there. elim (pushed variables one number variable there) [ inl old ↦ h.of_slot variable old | inr new ↦ absurd (let equal = new.0 in let less = h.within in omega (arith, equal, less, within)) ];
  none = λ other variable more less there. elim (pushed variables one other variable there) [
    | inl old ↦ h.none other variable more less old
    | inr new ↦ absurd (let equal = new.0 in omega (arith, equal, less, within))
  ];
}

-- and so does that of all, where the new one is of another slot
last-more : (variables : List Variable) (one : Variable) (slot : ℕ) (number : Option ℕ) → one.slot ≢ slot → IsLast variables (length variables) slot number → IsLast (variables ++ one ∷ []) (length (variables ++ one ∷ [])) slot number
last-more variables one slot None differs h = λ other variable less there. elim (pushed variables one other variable there) [
  | inl old ↦ h other variable (slice_get_within variables other variable old) old
  | inr new ↦ λ same. differs (ap (λ (found : Variable). found.slot) new.1 ∙ same)
]
last-more variables one slot (Some number) differs h = record {
  within = (let less = h.within in let more = length_push variables one in omega (arith, less, more));
  of_slot = λ variable there. elim (pushed variables one number variable there) [ inl old ↦ h.of_slot variable old | inr new ↦ absurd (let equal = new.0 in let less = h.within in omega (arith, equal, less)) ];
  none = λ other variable more less there. elim (pushed variables one other variable there) [
    | inl old ↦ h.none other variable more (slice_get_within variables other variable old) old
    | inr new ↦ λ same. differs (ap (λ (found : Variable). found.slot) new.1 ∙ same)
  ];
}

-- the new one is the last of its slot
last-new : (variables : List Variable) (one : Variable) → IsLast (variables ++ one ∷ []) (length (variables ++ one ∷ [])) one.slot (Some (length variables))
last-new variables one = record {
  within = (let more = length_push variables one in omega (arith, more));
  of_slot = λ variable there. ap (λ (found : Variable). found.slot) (some-is variable one (sym there ∙ at-end variables one));
  none = λ other variable more less there. absurd (let longer = length_push variables one in omega (arith, more, less, longer));
}

module _ (variables : List Variable) (lasts roomed : List (Option ℕ)) (one : Variable) (chained : IsChained variables lasts) (same : (other : ℕ) → slice_index_or roomed other None ≡ slice_index_or lasts other None)
    (room : one.slot < length roomed) (before : one.before ≡ slice_index_or roomed one.slot None) (new : number_of (view_variables variables) one.slot (view_type one.kind) ≡ None) where
  ends-more : (slot : ℕ) → IsLast (variables ++ one ∷ []) (length (variables ++ one ∷ [])) slot (slice_index_or (slice_set roomed one.slot (Some (length variables))) slot None)
  ends-more slot = ⊎_elim (λ both. here both.1) (λ both. there both.1) (eqb_tells slot one.slot)
    where
      here : slot ≡ one.slot → IsLast (variables ++ one ∷ []) (length (variables ++ one ∷ [])) slot (slice_index_or (slice_set roomed one.slot (Some (length variables))) slot None)
      here e = subst (λ (at : ℕ). IsLast (variables ++ one ∷ []) (length (variables ++ one ∷ [])) at (slice_index_or (slice_set roomed one.slot (Some (length variables))) at None)) (sym e)
          (subst (IsLast (variables ++ one ∷ []) (length (variables ++ one ∷ [])) one.slot) (sym (get_or-set_same roomed one.slot (Some (length variables)) None room)) (last-new variables one))

      there : slot ≢ one.slot → IsLast (variables ++ one ∷ []) (length (variables ++ one ∷ [])) slot (slice_index_or (slice_set roomed one.slot (Some (length variables))) slot None)
      there differs = subst (IsLast (variables ++ one ∷ []) (length (variables ++ one ∷ [])) slot) (sym (get_or-set_other roomed one.slot slot (Some (length variables)) None differs ∙ same slot))
          (last-more variables one slot (slice_index_or lasts slot None) (λ e. differs (sym e)) (chained.ends slot))

  seen-more : view_variables (variables ++ one ∷ []) ≡ view_variables variables ++ view_variable one ∷ []
  seen-more = map-append view_variable variables (one ∷ [])

  distinct-more : AreDistinct (view_variables (variables ++ one ∷ []))
  distinct-more = subst AreDistinct (sym seen-more) (λ first other typing e f.
      elim (pushed (view_variables variables) (view_variable one) first typing e) [
        | inl old ↦ elim (pushed (view_variables variables) (view_variable one) other typing f) [
          | inl also ↦ chained.distinct first other typing old also
          | inr last ↦ absurd (not-there first (old ∙ ap Some (sym last.1)))
        ]
        | inr at ↦ elim (pushed (view_variables variables) (view_variable one) other typing f) [
          | inl also ↦ absurd (not-there other (also ∙ ap Some (sym at.1)))
          | inr last ↦ at.0 ∙ sym last.0
        ]
      ])
    where
      not-there : (number : ℕ) → slice_get (view_variables variables) number ≡ Some (view_variable one) → ⊥
      not-there number e = let found = number-there (view_variables variables) one.slot (view_type one.kind) number e in none-some found.0 (sym new ∙ found.1)

  pub chained-more : IsChained (variables ++ one ∷ []) (slice_set roomed one.slot (Some (length variables)))
  chained-more = record {
    ends = ends-more;
    befores = λ number variable e. elim (pushed variables one number variable e) [
      | inl old ↦ last-keep variables one number variable.slot variable.before (let less = slice_get_within variables number variable old in omega (arith, less)) (chained.befores number variable old)
      | inr last ↦ subst (λ (found : Variable). IsLast (variables ++ one ∷ []) number found.slot found.before) last.1
          (subst (λ (n : ℕ). IsLast (variables ++ one ∷ []) n one.slot one.before) (sym last.0)
          (last-keep variables one (length variables) one.slot one.before (omega arith) (subst (IsLast variables (length variables) one.slot) (sym (before ∙ same one.slot)) (chained.ends one.slot))))
    ];
    distinct = distinct-more;
  }

  pub with-more : view_variables (variables ++ one ∷ []) ≡ with_new (view_variables variables) one.slot (view_type one.kind) (number_of (view_variables variables) one.slot (view_type one.kind))
  with-more = seen-more ∙ sym (ap (with_new (view_variables variables) one.slot (view_type one.kind)) new)

  pub number-more : number_of (view_variables (variables ++ one ∷ [])) one.slot (view_type one.kind) ≡ Some (length variables)
  number-more = number-found (view_variables (variables ++ one ∷ [])) distinct-more one.slot (view_type one.kind) (length variables) (seen-variable (variables ++ one ∷ []) (length variables) one (at-end variables one))

-- a variable that is there stays the only one
pub with-old : (variables : List Typing) (slot : ℕ) (type : JType) (number : ℕ) → number_of variables slot type ≡ Some number → variables ≡ with_new variables slot type (number_of variables slot type)
with-old variables slot type number e = sym (ap (with_new variables slot type) e)

pub chained-none : IsChained [] []
chained-none = record {
  ends = λ slot other variable less there. none-some variable there;
  befores = λ number variable there. none-some variable there;
  distinct = λ one other typing there also. none-some typing there;
}
