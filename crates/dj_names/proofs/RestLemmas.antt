-- What may follow while a method descriptor is read, parameter by parameter.
use Rattle.std.proofs.Common.{◌≡◌, ◌≢◌, ℕ, ◌+◌, ◌-◌, ◌≤◌, ◌⊎◌, List, [], ◌∷◌, ◌++◌, Option, Some, None, IfSome, All, flat_map, sum_by, refl, sym, ap, subst, inl, inr, ◌∙◌, arith}
use Rattle.std.proofs.lemmas.List.{append_assoc, append-nil}
use Rattle.std.proofs.lemmas.List.Concat.{flat_map-append}
use Rattle.std.proofs.lemmas.List.Elements.{All-nil, All-cons, All-head, All-tail, All-push}
use Rattle.std.proofs.lemmas.List.Sums.{sum_by-cons, sum_by_push}
use Rattle.dj_names.specs.Types.{JType, Boolean, Byte, Char, Short, Int, Long, Float, Double, Class, Array}
use Rattle.dj_names.specs.Descriptors.{spell_type, spell_result, words, IsType}
use Rattle.dj_names.specs.Reading.{Begins, IsStuck, StopsIn, StopsAt, IsTypeWithin, SpellsType, SpellsResult, AreParameters, SpellsRest}
use Rattle.dj_names.specs.declared.descriptors.Stop.{Stop}
use Rattle.dj_names.specs.declared.descriptors.Stop.TheVariants.{Here, Memory}
use Rattle.dj_names.proofs.Stopping.{stops_here, stops_after, stops_wider}
use Rattle.dj_names.proofs.OneSpelling.{one_type, no_type}
use Rattle.dj_names.proofs.TypeLemmas.{spell_type-nonempty, words-le}

pub IsType-within : (room : ℕ) (type : JType) → IsTypeWithin 255 room type → IsType type
IsType-within room type t = record { class_name = t.class_name; dimensions_fit = t.dimensions_fit }

pub within-IsType : (room : ℕ) (type : JType) → IsType type → words type ≤ room → IsTypeWithin 255 room type
within-IsType room type t fits = record { class_name = t.class_name; dimensions_fit = t.dimensions_fit; words_fit = fits }

words-some : (type : JType) → 1 ≤ words type
words-some Boolean = omega arith
words-some Byte = omega arith
words-some Char = omega arith
words-some Short = omega arith
words-some Int = omega arith
words-some Long = omega arith
words-some Float = omega arith
words-some Double = omega arith
words-some (Class name) = omega arith
words-some (Array element) = omega arith

-- the first parameter of what is left, and the rest
record FirstType (room : ℕ) (units : List ℕ) : Type 0 where
  type : JType
  type_is : IsType type
  words_fit : words type ≤ room
  more : List ℕ
  rest : SpellsRest (room - words type) more
  spelled : spell_type type ++ more ≡ units

first_of : (room : ℕ) (units : List ℕ) (type : JType) (parameters : List JType) (result : Option JType) → AreParameters room (type ∷ parameters) → IfSome result IsType
    → flat_map spell_type (type ∷ parameters) ++ (41 ∷ spell_result result) ≡ units → FirstType room units
first_of room units type parameters result are result_is spelled =
    let s = sum_by-cons words type parameters in
    record {
      type = type;
      type_is = All-head IsType type parameters are.types;
      words_fit = omega (arith, s, are.words_fit);
      more = flat_map spell_type parameters ++ (41 ∷ spell_result result);
      rest = record {
        parameters = parameters;
        result = result;
        parameters_are = record { types = All-tail IsType type parameters are.types; words_fit = omega (arith, s, are.words_fit) };
        result_is = result_is;
        spelled = refl;
      };
      spelled = sym (append_assoc (spell_type type) (flat_map spell_type parameters) (41 ∷ spell_result result)) ∙ spelled;
    }

-- what is left begins with `)`, or with a parameter
rest_cases : (room : ℕ) (units : List ℕ) (parameters : List JType) (result : Option JType) → AreParameters room parameters → IfSome result IsType
    → flat_map spell_type parameters ++ (41 ∷ spell_result result) ≡ units → ((u : List ℕ) × (41 ∷ u ≡ units) × SpellsResult u) ⊎ FirstType room units
rest_cases room units [] result are result_is spelled = inl (spell_result result, spelled, record { result = result; result_is = result_is; spelled = refl })
rest_cases room units (type ∷ parameters) result are result_is spelled = inr (first_of room units type parameters result are result_is spelled)

cases_of : (room : ℕ) (units : List ℕ) → SpellsRest room units → ((u : List ℕ) × (41 ∷ u ≡ units) × SpellsResult u) ⊎ FirstType room units
cases_of room units s = rest_cases room units s.parameters s.result s.parameters_are s.result_is s.spelled

closed_into : (room : ℕ) (u : List ℕ) → SpellsResult u → SpellsRest room (41 ∷ u)
closed_into room u s = record {
  parameters = [];
  result = s.result;
  parameters_are = record { types = All-nil IsType; words_fit = omega arith };
  result_is = s.result_is;
  spelled = ap (λ units. 41 ∷ units) s.spelled;
}

closed_out : (room : ℕ) (u : List ℕ) → SpellsRest room (41 ∷ u) → SpellsResult u
closed_out room u s = elim (cases_of room (41 ∷ u) s) [
  | inl closed ↦ subst SpellsResult (let e : closed.0 ≡ u = cc (closed.1) in e) closed.2
  | inr first ↦ absurd (no_type 41 u first.type first.more refl first.type_is.class_name first.spelled)
]

-- where the result stops, what follows the `)` does
pub result_stops : (room : ℕ) (units left : List ℕ) → StopsIn SpellsResult units left → StopsIn (SpellsRest room) (41 ∷ units) left
result_stops room units left s = stops_after (SpellsRest room) SpellsResult (41 ∷ []) units left (closed_into room) (closed_out room) s

pub type_into : (room : ℕ) (type : JType) → IsTypeWithin 255 room type → (u : List ℕ) → SpellsRest (room - words type) u → SpellsRest room (spell_type type ++ u)
type_into room type t u s = record {
  parameters = type ∷ s.parameters;
  result = s.result;
  parameters_are = record {
    types = All-cons IsType type s.parameters (IsType-within room type t) s.parameters_are.types;
    words_fit = omega (arith, sum_by-cons words type s.parameters, s.parameters_are.words_fit, t.words_fit);
  };
  result_is = s.result_is;
  spelled = append_assoc (spell_type type) (flat_map spell_type s.parameters) (41 ∷ spell_result s.result) ∙ ap (λ units. spell_type type ++ units) s.spelled;
}

same_first : (room : ℕ) (type : JType) (u : List ℕ) → IsTypeWithin 255 room type → FirstType room (spell_type type ++ u) → SpellsRest (room - words type) u
same_first room type u t first =
    let same = one_type first.type type first.more u first.type_is.class_name t.class_name first.spelled in
    subst (λ other. SpellsRest (room - words other) u) same.0 (subst (SpellsRest (room - words first.type)) same.1 first.rest)

pub type_out : (room : ℕ) (type : JType) → IsTypeWithin 255 room type → (u : List ℕ) → SpellsRest room (spell_type type ++ u) → SpellsRest (room - words type) u
type_out room type t u s = elim (cases_of room (spell_type type ++ u) s) [
  | inl closed ↦ absurd (no_type 41 closed.0 type u refl t.class_name (sym closed.1))
  | inr first ↦ same_first room type u t first
]

rest_begins : (room : ℕ) → Begins (SpellsRest room) []
rest_begins room = record { rest = 41 ∷ 86 ∷ []; whole = closed_into room (86 ∷ []) (record { result = None; result_is = tt; spelled = refl }) }

nonempty_first : (type : JType) (more : List ℕ) → (spell_type type ++ more) ≢ []
nonempty_first type more e = spell_type-nonempty type (first_part (spell_type type) more e)
  where
    first_part : (xs ys : List ℕ) → xs ++ ys ≡ [] → xs ≡ []
    first_part [] ys e = refl
    first_part (x ∷ xs) ys e = absurd (let none : ⊥ = cc in none)

rest_is_some : (room : ℕ) → ¬ SpellsRest room []
rest_is_some room s = elim (cases_of room [] s) [
  | inl closed ↦ (let e : 41 ∷ closed.0 ≡ [] = closed.1 in cc)
  | inr first ↦ nonempty_first first.type first.more first.spelled
]

pub rest_stops_at_end : (room : ℕ) (old : List ℕ) → old ≡ [] → StopsIn (SpellsRest room) old old
rest_stops_at_end room old is = subst (λ u. StopsIn (SpellsRest room) u u) (sym is) (stops_here (SpellsRest room) [] (rest_begins room) (rest_is_some room) tt)

no_room : (unit : ℕ) (u : List ℕ) → unit ≢ 41 → ¬ SpellsRest 0 (unit ∷ u)
no_room unit u going s = elim (cases_of 0 (unit ∷ u) s) [
  | inl closed ↦ (let e : 41 ∷ closed.0 ≡ unit ∷ u = closed.1 in going (let h : unit ≡ 41 = cc in h))
  | inr first ↦ absurd (omega (arith, words-some first.type, first.words_fit))
]

-- no parameter fits any more
pub rest_stops_full : (room unit : ℕ) (old : List ℕ) → room ≡ 0 → unit ≢ 41 → (rest : List ℕ) × (old ≡ unit ∷ rest) → StopsIn (SpellsRest room) old old
rest_stops_full room unit old none going (rest, is) =
    subst (λ r. StopsIn (SpellsRest r) old old) (sym none)
    (subst (λ u. StopsIn (SpellsRest 0) u u) (sym is) (stops_here (SpellsRest 0) (unit ∷ rest) (rest_begins 0) (rest_is_some 0) (λ b. no_room unit b.rest going b.whole)))

-- two ways to cut one list: the second cut stands after the first, or before it
pub two_cuts : (xs ys bs ds : List ℕ) → xs ++ ys ≡ bs ++ ds → ((c : List ℕ) × (bs ≡ xs ++ c) × (ys ≡ c ++ ds)) ⊎ ((c : List ℕ) × (xs ≡ bs ++ c) × (ds ≡ c ++ ys))
two_cuts [] ys bs ds e = inl (bs, refl, e)
two_cuts (x ∷ xs) ys [] ds e = inr (x ∷ xs, refl, sym e)
two_cuts (x ∷ xs) ys (b ∷ bs) ds e =
    let h : x ≡ b = cc in
    let t : xs ++ ys ≡ bs ++ ds = cc in
    elim (two_cuts xs ys bs ds t) [
      | inl later ↦ inl (later.0, (let f : b ∷ bs ≡ x ∷ (xs ++ later.0) = cc (later.1, h) in f), later.2)
      | inr earlier ↦ inr (earlier.0, (let f : x ∷ xs ≡ b ∷ (bs ++ earlier.0) = cc (earlier.1, h) in f), earlier.2)
    ]

empty_front : (xs ys : List ℕ) → xs ++ ys ≡ [] → xs ≡ []
empty_front [] ys e = refl
empty_front (x ∷ xs) ys e = absurd (let none : ⊥ = cc in none)

nonempty_push : (xs : List ℕ) (y : ℕ) → (xs ++ y ∷ []) ≢ []
nonempty_push [] y e = (let none : ⊥ = cc in none)
nonempty_push (x ∷ xs) y e = (let none : ⊥ = cc in none)

-- what begins as units without a `)` in front does begins with none
not_closed : (front left units u v : List ℕ) (first : ℕ) (later : List ℕ) → units ≡ first ∷ later → first ≢ 41 → front ++ left ≡ units → front ≢ [] → 41 ∷ u ≡ front ++ v → ⊥
not_closed [] left units u v first later is going split some e = some refl
not_closed (x ∷ front) left units u v first later is going split some e =
    let h : x ∷ (front ++ left) ≡ first ∷ later = split ∙ is in
    let a : x ≡ first = cc in
    let b : 41 ≡ x = cc in
    going (sym a ∙ sym b)

module _ (room : ℕ) (units left : List ℕ) (s : StopsIn (SpellsType 255 room) units left) where
  -- what was read of a type has no whole type in front
  no_whole : (type : JType) (c : List ℕ) → IsTypeWithin 255 room type → s.front ≡ spell_type type ++ c → ⊥
  no_whole type c t is =
      let w = s.begins.whole in
      let e : spell_type type ++ (c ++ s.begins.rest) ≡ spell_type w.type ++ [] =
      sym (append_assoc (spell_type type) c s.begins.rest) ∙ ap (λ u. u ++ s.begins.rest) (sym is) ∙ sym w.spelled ∙ sym (append-nil (spell_type w.type)) in
      let same = one_type type w.type (c ++ s.begins.rest) [] t.class_name w.type_is.class_name e in
      s.unfinished (record { type = type; type_is = t; spelled = sym (append-nil (spell_type type)) ∙ ap (λ u. spell_type type ++ u) (sym (empty_front c s.begins.rest same.1)) ∙ sym is })

  -- nor does a type begin with it and the next unit
  no_longer : (type : JType) (c more u : List ℕ) → IsTypeWithin 255 room type → IsStuck (SpellsType 255 room) s.front left → (unit : ℕ) (rest : List ℕ) → left ≡ unit ∷ rest
      → spell_type type ≡ s.front ++ c → unit ∷ u ≡ c ++ more → ⊥
  no_longer type [] more u t stuck unit rest is spelled e =
      s.unfinished (record { type = type; type_is = t; spelled = spelled ∙ append-nil s.front })
  no_longer type (x ∷ c) more u t stuck unit rest is spelled e =
      let h : x ≡ unit = cc in
      let stuck_there : IsStuck (SpellsType 255 room) s.front (unit ∷ rest) = subst (IsStuck (SpellsType 255 room) s.front) is stuck in
      stuck_there (record {
        rest = c;
        whole = record { type = type; type_is = t; spelled = spelled ∙ ap (λ v. s.front ++ (v ∷ c)) h ∙ sym (append_assoc s.front (unit ∷ []) c) };
      })

  begins_rest : Begins (SpellsRest room) s.front
  begins_rest =
      let w = s.begins.whole in
      record {
        rest = s.begins.rest ++ 41 ∷ 86 ∷ [];
        whole = subst (SpellsRest room) (ap (λ u. u ++ 41 ∷ 86 ∷ []) w.spelled ∙ append_assoc s.front s.begins.rest (41 ∷ 86 ∷ []))
            (type_into room w.type w.type_is (41 ∷ 86 ∷ []) (closed_into (room - words w.type) (86 ∷ []) (record { result = None; result_is = tt; spelled = refl })));
      }

  module _ (first : ℕ) (later : List ℕ) (is : units ≡ first ∷ later) (going : first ≢ 41) where
    unfinished_rest : ¬ SpellsRest room s.front
    unfinished_rest h = elim (cases_of room s.front h) [
      | inl closed ↦ not_closed s.front left units closed.0 [] first later is going s.split (λ empty. (let f : 41 ∷ closed.0 ≡ [] = closed.1 ∙ empty in let none : ⊥ = cc in none)) (closed.1 ∙ sym (append-nil s.front))
      | inr whole ↦ no_whole whole.type whole.more (within-IsType room whole.type whole.type_is whole.words_fit) (sym whole.spelled)
    ]

    stuck_rest_at : (unit : ℕ) (rest u : List ℕ) → left ≡ unit ∷ rest → ¬ SpellsRest room ((s.front ++ unit ∷ []) ++ u)
    stuck_rest_at unit rest u at h = elim (cases_of room ((s.front ++ unit ∷ []) ++ u) h) [
      | inl closed ↦ not_closed (s.front ++ unit ∷ []) rest units closed.0 u first later is going (append_assoc s.front (unit ∷ []) rest ∙ ap (λ v. s.front ++ v) (sym at) ∙ s.split) (nonempty_push s.front unit) closed.1
      | inr whole ↦
          (let t = within-IsType room whole.type whole.type_is whole.words_fit in
          elim (two_cuts s.front (unit ∷ u) (spell_type whole.type) whole.more (sym (append_assoc s.front (unit ∷ []) u) ∙ sym whole.spelled)) [
            | inl longer ↦ no_longer whole.type longer.0 whole.more u t s.stuck unit rest at longer.1 longer.2
            | inr shorter ↦ no_whole whole.type shorter.0 t shorter.1
          ])
    ]

    stuck_rest : (after : List ℕ) → left ≡ after → IsStuck (SpellsRest room) s.front after
    stuck_rest [] at = tt
    stuck_rest (unit ∷ rest) at = λ b. stuck_rest_at unit rest b.rest at b.whole

    -- where a parameter's type stops, what may follow in the method does
    pub type_stops : StopsIn (SpellsRest room) units left
    type_stops = record { front = s.front; split = s.split; begins = begins_rest; stuck = stuck_rest left refl; unfinished = unfinished_rest }

pub type_stopped : (stop : Stop) (room unit : ℕ) (units left : List ℕ) → unit ≢ 41 → (rest : List ℕ) × (units ≡ unit ∷ rest) → StopsAt stop (SpellsType 255 room) units left → StopsAt stop (SpellsRest room) units left
type_stopped Here room unit units left going (rest, is) s = type_stops room units left s unit rest is going
type_stopped (Memory error) room unit units left going is s = tt

-- these parameters were read from what was there, with room for so many more words, and this is left
pub record ParametersRead (parameters : List JType) (room : ℕ) (old left : List ℕ) : Type 0 where
  pub types : All IsType parameters
  pub words_are : room + sum_by words parameters ≡ 255
  pub split : flat_map spell_type parameters ++ left ≡ old
  pub into : (u : List ℕ) → SpellsRest room u → SpellsRest 255 (flat_map spell_type parameters ++ u)
  pub out : (u : List ℕ) → SpellsRest 255 (flat_map spell_type parameters ++ u) → SpellsRest room u

pub ParametersRead-none : (old : List ℕ) → ParametersRead [] 255 old old
ParametersRead-none old = record { types = All-nil IsType; words_are = refl; split = refl; into = λ u h. h; out = λ u h. h }

flat_map-push : (parameters : List JType) (type : JType) (u : List ℕ) → flat_map spell_type (parameters ++ type ∷ []) ++ u ≡ flat_map spell_type parameters ++ (spell_type type ++ u)
flat_map-push parameters type u =
    ap (λ v. v ++ u) (flat_map-append spell_type parameters (type ∷ []) ∙ ap (λ v. flat_map spell_type parameters ++ v) (append-nil (spell_type type)))
    ∙ append_assoc (flat_map spell_type parameters) (spell_type type) u

pub ParametersRead-push : (parameters : List JType) (room : ℕ) (old left after : List ℕ) (type : JType) → ParametersRead parameters room old left
    → IsTypeWithin 255 room type → spell_type type ++ after ≡ left → ParametersRead (parameters ++ type ∷ []) (room - words type) old after
ParametersRead-push parameters room old left after type h t is = record {
  types = All-push IsType parameters type h.types (IsType-within room type t);
  words_are = omega (arith, sum_by_push words parameters type, h.words_are, t.words_fit);
  split = flat_map-push parameters type after ∙ ap (λ u. flat_map spell_type parameters ++ u) is ∙ h.split;
  into = λ u s. subst (SpellsRest 255) (sym (flat_map-push parameters type u)) (h.into (spell_type type ++ u) (type_into room type t u s));
  out = λ u s. type_out room type t u (h.out (spell_type type ++ u) (subst (SpellsRest 255) (flat_map-push parameters type u) s));
}

pub ParametersRead-stops : (parameters : List JType) (room : ℕ) (old units left : List ℕ) → ParametersRead parameters room old units → StopsIn (SpellsRest room) units left → StopsIn (SpellsRest 255) old left
ParametersRead-stops parameters room old units left h s =
    subst (λ u. StopsIn (SpellsRest 255) u left) h.split (stops_after (SpellsRest 255) (SpellsRest room) (flat_map spell_type parameters) units left h.into h.out s)

pub ParametersRead-stopped : (stop : Stop) (parameters : List JType) (room : ℕ) (old units left : List ℕ) → ParametersRead parameters room old units → StopsAt stop (SpellsRest room) units left → StopsAt stop (SpellsRest 255) old left
ParametersRead-stopped Here parameters room old units left h s = ParametersRead-stops parameters room old units left h s
ParametersRead-stopped (Memory error) parameters room old units left h s = tt

pub ParametersRead-are : (parameters : List JType) (room : ℕ) (old left : List ℕ) → ParametersRead parameters room old left → AreParameters 255 parameters
ParametersRead-are parameters room old left h = record { types = h.types; words_fit = omega (arith, h.words_are) }

-- where the result stops after these parameters and the `)`, the whole does
pub result_stopped : (stop : Stop) (parameters : List JType) (room : ℕ) (old closed units left : List ℕ) → ParametersRead parameters room old closed → closed ≡ 41 ∷ units
    → StopsAt stop SpellsResult units left → StopsAt stop (SpellsRest 255) old left
result_stopped Here parameters room old closed units left h is s =
    ParametersRead-stops parameters room old closed left h (subst (λ u. StopsIn (SpellsRest room) u left) (sym is) (result_stops room units left s))
result_stopped (Memory error) parameters room old closed units left h is s = tt

-- a result is a type where no `V` stands
pub result_is_type : (stop : Stop) (units left : List ℕ) → ((rest : List ℕ) → units ≢ 86 ∷ rest) → StopsAt stop (SpellsType 255 2) units left → StopsAt stop SpellsResult units left
result_is_type Here units left no_void s = stops_wider SpellsResult (SpellsType 255 2) units left widen empty narrow s
  where
    widen : (u : List ℕ) → SpellsType 255 2 u → SpellsResult u
    widen u h = record { result = Some h.type; result_is = IsType-within 2 h.type h.type_is; spelled = h.spelled }

    empty : ¬ SpellsResult []
    empty h = no_result h.result h.spelled
      where
        no_result : (result : Option JType) → spell_result result ≢ []
        no_result None e = (let none : ⊥ = cc in none)
        no_result (Some type) e = spell_type-nonempty type e

    some_type : (result : Option JType) (first : ℕ) (rest u : List ℕ) → units ≡ first ∷ rest → IfSome result IsType → spell_result result ≡ first ∷ u → SpellsType 255 2 (first ∷ u)
    some_type None first rest u is result_is e = absurd (no_void rest (is ∙ ap (λ unit. unit ∷ rest) (let h : first ≡ 86 = cc in h)))
    some_type (Some type) first rest u is result_is e = record { type = type; type_is = within-IsType 2 type result_is (words-le type); spelled = e }

    narrow : (first : ℕ) (rest u : List ℕ) → units ≡ first ∷ rest → SpellsResult (first ∷ u) → SpellsType 255 2 (first ∷ u)
    narrow first rest u is h = some_type h.result first rest u is h.result_is h.spelled
result_is_type (Memory error) units left no_void s = tt
