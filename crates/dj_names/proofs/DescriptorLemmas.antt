-- Where units stop being a descriptor, and that a descriptor begins no other.
use Rattle.std.proofs.Common.{◌≡◌, ◌≢◌, ℕ, zero, suc, ◌-◌, ◌<◌, ◌≤◌, List, [], ◌∷◌, ◌++◌, length, take, Option, Some, None, IfSome, All, flat_map, refl, sym, ap, subst, ◌∙◌, arith}
use Rattle.std.proofs.lemmas.List.{append_assoc, append-nil, length-append, take_at}
use Rattle.std.proofs.lemmas.List.Elements.{All-head, All-tail}
use Rattle.dj_names.specs.Types.{JType, Descriptor, Field, Method}
use Rattle.dj_names.specs.Descriptors.{spell_type, spell_result, spell_descriptor, IsType, IsDescriptor, SpellsDescriptor, BeginsDescriptor, IsNoDescriptor}
use Rattle.dj_names.specs.Reading.{IsStuck, StopsIn, StopsAt, SpellsType, SpellsRest, SpellsSome, HaltsUnspelled, HaltsAt}
use Rattle.dj_names.specs.declared.descriptors.Stop.{Stop}
use Rattle.dj_names.specs.declared.descriptors.Stop.TheVariants.{Here, Memory}
use Rattle.dj_names.proofs.Stopping.{stops_after, stops_wider}
use Rattle.dj_names.proofs.OneSpelling.{one_type, no_type}
use Rattle.dj_names.proofs.TypeLemmas.{spell_type-nonempty, words-le}
use Rattle.dj_names.proofs.RestLemmas.{IsType-within, within-IsType}

-- a method descriptor, with what follows the `(` by itself
method_spelling : (parameters : List JType) (result : Option JType) → spell_descriptor (Method parameters result) ≡ 40 ∷ (flat_map spell_type parameters ++ (41 ∷ spell_result result))
method_spelling parameters result = ap (λ units. 40 ∷ units) (append_assoc (flat_map spell_type parameters) (41 ∷ []) (spell_result result))

method_into : (u : List ℕ) → SpellsRest 255 u → SpellsSome (40 ∷ u)
method_into u s = record {
  descriptor = Method s.parameters s.result;
  spells = record {
    descriptor_is = (s.parameters_are.types, s.parameters_are.words_fit, s.result_is);
    spelled = method_spelling s.parameters s.result ∙ ap (λ units. 40 ∷ units) s.spelled;
  };
}

method_part : (u : List ℕ) (descriptor : Descriptor) → IsDescriptor descriptor → spell_descriptor descriptor ≡ 40 ∷ u → SpellsRest 255 u
method_part u (Field type) h e = absurd (no_type 40 u type [] refl h.class_name (append-nil (spell_type type) ∙ e))
method_part u (Method parameters result) h e = record {
  parameters = parameters;
  result = result;
  parameters_are = record { types = h.0; words_fit = h.1 };
  result_is = h.2;
  spelled = (let f : 40 ∷ (flat_map spell_type parameters ++ (41 ∷ spell_result result)) ≡ 40 ∷ u = sym (method_spelling parameters result) ∙ e in cc);
}

method_out : (u : List ℕ) → SpellsSome (40 ∷ u) → SpellsRest 255 u
method_out u s = method_part u s.descriptor s.spells.descriptor_is s.spells.spelled

pub method_stopped : (stop : Stop) (old units left : List ℕ) → old ≡ 40 ∷ units → StopsAt stop (SpellsRest 255) units left → StopsAt stop SpellsSome old left
method_stopped Here old units left is s = subst (λ u. StopsIn SpellsSome u left) (sym is) (stops_after SpellsSome (SpellsRest 255) (40 ∷ []) units left method_into method_out s)
method_stopped (Memory error) old units left is s = tt

spell_descriptor-nonempty : (descriptor : Descriptor) → spell_descriptor descriptor ≢ []
spell_descriptor-nonempty (Field type) e = spell_type-nonempty type e
spell_descriptor-nonempty (Method parameters result) e = (let f : 40 ∷ (flat_map spell_type parameters ++ (41 ∷ spell_result result)) ≡ [] = sym (method_spelling parameters result) ∙ e in let none : ⊥ = cc in none)

field_part : (first : ℕ) (u : List ℕ) (descriptor : Descriptor) → first ≢ 40 → IsDescriptor descriptor → spell_descriptor descriptor ≡ first ∷ u → SpellsType 255 2 (first ∷ u)
field_part first u (Field type) other h e = record { type = type; type_is = within-IsType 2 type h (words-le type); spelled = e }
field_part first u (Method parameters result) other h e =
    absurd (other (let f : 40 ∷ (flat_map spell_type parameters ++ (41 ∷ spell_result result)) ≡ first ∷ u = sym (method_spelling parameters result) ∙ e in let g : first ≡ 40 = cc in g))

pub field_stopped : (stop : Stop) (units left : List ℕ) → ((rest : List ℕ) → units ≢ 40 ∷ rest) → StopsAt stop (SpellsType 255 2) units left → StopsAt stop SpellsSome units left
field_stopped Here units left no_method s = stops_wider SpellsSome (SpellsType 255 2) units left widen empty narrow s
  where
    widen : (u : List ℕ) → SpellsType 255 2 u → SpellsSome u
    widen u h = record { descriptor = Field h.type; spells = record { descriptor_is = IsType-within 2 h.type h.type_is; spelled = h.spelled } }

    empty : ¬ SpellsSome []
    empty h = spell_descriptor-nonempty h.descriptor h.spells.spelled

    narrow : (first : ℕ) (rest u : List ℕ) → units ≡ first ∷ rest → SpellsSome (first ∷ u) → SpellsType 255 2 (first ∷ u)
    narrow first rest u is h = field_part first u h.descriptor (λ begun. no_method rest (is ∙ ap (λ unit. unit ∷ rest) begun)) h.spells.descriptor_is h.spells.spelled
field_stopped (Memory error) units left no_method s = tt

one_result : (result other : Option JType) (rest more : List ℕ) → IfSome result IsType → IfSome other IsType → spell_result result ++ rest ≡ spell_result other ++ more → (result ≡ other) × (rest ≡ more)
one_result None None rest more h k e = (refl, (let f : 86 ∷ rest ≡ 86 ∷ more = e in cc))
one_result None (Some type) rest more h k e = absurd (no_type 86 rest type more refl k.class_name (sym e))
one_result (Some type) None rest more h k e = absurd (no_type 86 more type rest refl h.class_name e)
one_result (Some type) (Some other) rest more h k e =
    let same = one_type type other rest more h.class_name k.class_name e in
    (ap (λ (t : JType). Some t) same.0, same.1)

one_list : (parameters others : List JType) (rest more : List ℕ) → All IsType parameters → All IsType others → flat_map spell_type parameters ++ (41 ∷ rest) ≡ flat_map spell_type others ++ (41 ∷ more)
    → (parameters ≡ others) × (rest ≡ more)
one_list [] [] rest more h k e = (refl, (let f : 41 ∷ rest ≡ 41 ∷ more = e in cc))
one_list [] (type ∷ others) rest more h k e =
    absurd (no_type 41 rest type (flat_map spell_type others ++ (41 ∷ more)) refl (All-head IsType type others k).class_name (sym (append_assoc (spell_type type) (flat_map spell_type others) (41 ∷ more)) ∙ sym e))
one_list (type ∷ parameters) [] rest more h k e =
    absurd (no_type 41 more type (flat_map spell_type parameters ++ (41 ∷ rest)) refl (All-head IsType type parameters h).class_name (sym (append_assoc (spell_type type) (flat_map spell_type parameters) (41 ∷ rest)) ∙ e))
one_list (type ∷ parameters) (other ∷ others) rest more h k e =
    let f = sym (append_assoc (spell_type type) (flat_map spell_type parameters) (41 ∷ rest)) ∙ e ∙ append_assoc (spell_type other) (flat_map spell_type others) (41 ∷ more) in
    let first = one_type type other (flat_map spell_type parameters ++ (41 ∷ rest)) (flat_map spell_type others ++ (41 ∷ more)) (All-head IsType type parameters h).class_name (All-head IsType other others k).class_name f in
    let later = one_list parameters others rest more (All-tail IsType type parameters h) (All-tail IsType other others k) first.1 in
    ((let g : type ∷ parameters ≡ other ∷ others = cc (first.0, later.0) in g), later.1)

-- two descriptors that units begin with are one
pub one_descriptor : (descriptor other : Descriptor) (rest more : List ℕ) → IsDescriptor descriptor → IsDescriptor other → spell_descriptor descriptor ++ rest ≡ spell_descriptor other ++ more → (descriptor ≡ other) × (rest ≡ more)
one_descriptor (Field type) (Field other) rest more h k e =
    let same = one_type type other rest more h.class_name k.class_name e in
    (ap (λ (t : JType). Field t) same.0, same.1)
one_descriptor (Field type) (Method parameters result) rest more h k e =
    absurd (no_type 40 ((flat_map spell_type parameters ++ 41 ∷ []) ++ spell_result result ++ more) type rest refl h.class_name e)
one_descriptor (Method parameters result) (Field type) rest more h k e =
    absurd (no_type 40 ((flat_map spell_type parameters ++ 41 ∷ []) ++ spell_result result ++ rest) type more refl k.class_name (sym e))
one_descriptor (Method parameters result) (Method others other) rest more h k e =
    let spread = λ (ps : List JType) (r : Option JType) (u : List ℕ).
    ap (λ units. units ++ u) (method_spelling ps r) ∙ ap (λ units. 40 ∷ units) (append_assoc (flat_map spell_type ps) (41 ∷ spell_result r) u) in
    let f : 40 ∷ (flat_map spell_type parameters ++ (41 ∷ (spell_result result ++ rest))) ≡ 40 ∷ (flat_map spell_type others ++ (41 ∷ (spell_result other ++ more)))
    = sym (spread parameters result rest) ∙ e ∙ spread others other more in
    let lists = one_list parameters others (spell_result result ++ rest) (spell_result other ++ more) h.0 k.0 (let g : flat_map spell_type parameters ++ (41 ∷ (spell_result result ++ rest)) ≡ flat_map spell_type others ++ (41 ∷ (spell_result other ++ more)) = cc in g) in
    let results = one_result result other rest more h.2 k.2 lists.1 in
    ((let g : Method parameters result ≡ Method others other = cc (lists.0, results.0) in g), results.1)

-- units spell one descriptor
pub one_spelled : (units : List ℕ) (descriptor other : Descriptor) → SpellsDescriptor units descriptor → SpellsDescriptor units other → descriptor ≡ other
one_spelled units descriptor other first second =
    (one_descriptor descriptor other [] [] first.descriptor_is second.descriptor_is (append-nil (spell_descriptor descriptor) ∙ first.spelled ∙ sym second.spelled ∙ sym (append-nil (spell_descriptor other)))).0

-- the same for a reader that began with all of the units
pub only_descriptor : (units all old : List ℕ) (read : Descriptor) → old ≡ all → all ≡ units → SpellsDescriptor old read → (descriptor : Descriptor) → SpellsDescriptor units descriptor → read ≡ descriptor
only_descriptor units all old read is whole spells descriptor other =
    one_spelled units read descriptor (subst (λ u. SpellsDescriptor u read) (is ∙ whole) spells) other

-- a reader that stops in a descriptor has read none
unspelled_at : (left units front : List ℕ) → front ++ left ≡ units → IsStuck SpellsSome front left → ¬ SpellsSome front → ¬ SpellsSome units
unspelled_at [] units front split stuck unfinished whole = unfinished (subst SpellsSome (sym split ∙ append-nil front) whole)
unspelled_at (unit ∷ left) units front split stuck unfinished whole =
    stuck (record { rest = left; whole = subst SpellsSome (sym split ∙ sym (append_assoc front (unit ∷ []) left)) whole })

pub halts_stopped : (stop : Stop) (units left : List ℕ) → StopsAt stop SpellsSome units left → HaltsAt stop units left
halts_stopped Here units left s = record { front = s.front; split = s.split; begins = s.begins; stuck = s.stuck; unspelled = unspelled_at left units s.front s.split s.stuck s.unfinished }
halts_stopped (Memory error) units left s = tt

trailing : (units left : List ℕ) (descriptor : Descriptor) (unit : ℕ) (rest : List ℕ) → IsDescriptor descriptor → spell_descriptor descriptor ++ (unit ∷ rest) ≡ units → HaltsUnspelled units (unit ∷ rest)
trailing units left descriptor unit rest h split = record {
  front = spell_descriptor descriptor;
  split = split;
  begins = record { rest = []; whole = record { descriptor = descriptor; spells = record { descriptor_is = h; spelled = sym (append-nil (spell_descriptor descriptor)) } } };
  stuck = λ b. no_more b.rest (append_assoc (spell_descriptor descriptor) (unit ∷ []) b.rest) b.whole;
  unspelled = λ whole. no_more rest (sym split) whole;
}
  where
    no_more : (more : List ℕ) {u : List ℕ} → u ≡ spell_descriptor descriptor ++ (unit ∷ more) → ¬ SpellsSome u
    no_more more is whole =
        let e = one_descriptor descriptor whole.descriptor (unit ∷ more) [] h whole.spells.descriptor_is (sym is ∙ sym whole.spells.spelled ∙ sym (append-nil (spell_descriptor whole.descriptor))) in
        (let f : unit ∷ more ≡ [] = e.1 in let none : ⊥ = cc in none)

-- a descriptor that something follows
pub halts_after : (units left : List ℕ) (descriptor : Descriptor) (unit : ℕ) → IsDescriptor descriptor → spell_descriptor descriptor ++ left ≡ units → (rest : List ℕ) × (left ≡ unit ∷ rest) → HaltsUnspelled units left
halts_after units left descriptor unit h split (rest, is) =
    subst (HaltsUnspelled units) (sym is) (trailing units left descriptor unit rest h (ap (λ u. spell_descriptor descriptor ++ u) (sym is) ∙ split))

-- the first units of a list, past a front and the next unit
longer_take : (front : List ℕ) (unit : ℕ) (left : List ℕ) (n : ℕ) → length front < n → (rest : List ℕ) × (take n (front ++ (unit ∷ left)) ≡ (front ++ unit ∷ []) ++ rest)
longer_take [] unit left zero l = absurd (omega arith)
longer_take [] unit left (suc n) l = (take n left, refl)
longer_take (x ∷ front) unit left zero l = absurd (omega arith)
longer_take (x ∷ front) unit left (suc n) l =
    let more = longer_take front unit left n (omega arith) in
    (more.0, ap (λ u. x ∷ u) more.1)

none_longer : (units front left : List ℕ) → front ++ left ≡ units → IsStuck SpellsSome front left → (n : ℕ) → length front < n → n ≤ length units → ¬ BeginsDescriptor (take n units)
none_longer units front [] split stuck n l m b = absurd (omega (arith, ap length split, ap length (append-nil front)))
none_longer units front (unit ∷ left) split stuck n l m b =
    let more = longer_take front unit left n l in
    let is : take n units ≡ (front ++ unit ∷ []) ++ more.0 = ap (take n) (sym split) ∙ more.1 in
    stuck (record {
      rest = more.0 ++ b.rest;
      whole = subst SpellsSome (ap (λ u. u ++ b.rest) is ∙ append_assoc (front ++ unit ∷ []) more.0 b.rest) (record { descriptor = b.descriptor; spells = b.spells });
    })

-- where a reader halts, the longest prefix that begins a descriptor ends
pub halts_place : (units left : List ℕ) (h : HaltsUnspelled units left) → IsNoDescriptor units (length units - length left)
halts_place units left h =
    let size : length units - length left ≡ length h.front = omega (arith, ap length h.split, length-append h.front left) in
    subst (IsNoDescriptor units) (sym size) (record {
      unspelled = λ descriptor spells. h.unspelled (record { descriptor = descriptor; spells = spells });
      within = omega (arith, ap length h.split, length-append h.front left);
      begins = subst BeginsDescriptor (sym (take_at h.front left (length h.front) refl) ∙ ap (take (length h.front)) h.split)
          (record { rest = h.begins.rest; descriptor = h.begins.whole.descriptor; spells = h.begins.whole.spells });
      longest = none_longer units h.front left h.split h.stuck;
    })

-- the same for a reader that began with all of the units
pub halted : (stop : Stop) (units all old left : List ℕ) → stop ≡ Here → old ≡ all → all ≡ units → HaltsAt stop old left → IsNoDescriptor units (length units - length left)
halted stop units all old left here is whole h =
    halts_place units left (subst (λ u. HaltsUnspelled u left) (is ∙ whole) (subst (λ s. HaltsAt s old left) here h))
