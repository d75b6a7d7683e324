-- Numbers for slots and types are the variables of code.
use Rattle.std.proofs.Common.{◌≡◌, ◌⊎◌, inl, inr, ℕ, zero, suc, ◌<◌, List, [], ◌∷◌, ◌++◌, length, Option, Some, None, refl, sym, ap, ◌∙◌, subst, arith}
use Rattle.std.specs.Prelude.{slice_get, option_map}
use Rattle.std.proofs.lemmas.Option.{slice_get-map}
use Rattle.std.proofs.lemmas.Bool.{cases_lt}
use Rattle.std.proofs.lemmas.List.{length-map}
use Rattle.dj_names.specs.Types.{JType}
use Rattle.dj_code.specs.MethodCode.{Typed}
use Rattle.dj_tags.specs.Goes.{Working}
use Rattle.dj_numbers.specs.Numbers.{Typing, number_of, number_of_any, with_new, with_variable, with_slots, AreDistinct}
use Rattle.dj_numbers.proofs.Numbering.{number-is, number-found, number-there, pushed, at-end}
use Rattle.dj_vars.specs.Slots.{slot_tag}
use Rattle.dj_numbers.specs.Frames.{type_of_slot}
use Rattle.dj_vars.specs.Naming.{Vars, Begins, HasType, at_start, by_write, AreVars}
use Rattle.dj_numbering.specs.Numbered.{AreMet, SlotsAreMet, IsNumbered, NumberedAreVars}

some-is : {A : Type 0} (one other : A) → Some one ≡ Some other → one ≡ other
some-is one other e = cc

none-some : {A P : Type 0} (one : A) → None ≡ Some one → P
none-some one e = absurd (no one e)
  where
    no : {A : Type 0} (one : A) → None ≡ Some one → ⊥
    no one e = cc

below-or : (other slot : ℕ) → other < suc slot → (other < slot) ⊎ (other ≡ slot)
below-or other slot less = elim (cases_lt other slot) [ inl lower ↦ inl lower | inr past ↦ inr (omega (arith, less, past)) ]

slice_get-front : {A : Type 0} (list : List A) (one : A) (number : ℕ) (found : A) → slice_get list number ≡ Some found → slice_get (list ++ one ∷ []) number ≡ Some found
slice_get-front [] one number found e = none-some found e
slice_get-front (first ∷ rest) one zero found e = e
slice_get-front (first ∷ rest) one (suc number) found e = slice_get-front rest one number found e

slice_get-past : {A : Type 0} (list : List A) (place : ℕ) → place < length list → slice_get list place ≡ None → ⊥
slice_get-past [] place less e = omega (arith, less)
slice_get-past (first ∷ rest) zero less e = none-some first (sym e)
slice_get-past (first ∷ rest) (suc place) less e = slice_get-past rest place (omega (arith, less)) e

-- ---- slots that are met

-- a number stays behind one more
pub kept-push : (list : List Typing) (one : Typing) (slot : ℕ) (type : JType) (number : ℕ) → AreDistinct (list ++ one ∷ []) → number_of list slot type ≡ Some number → number_of (list ++ one ∷ []) slot type ≡ Some number
kept-push list one slot type number distinct e = number-found (list ++ one ∷ []) distinct slot type number (slice_get-front list one number (record { slot = slot; type = type }) (number-is list slot type number e))

-- what is new makes no two the same
distinct-push : (list : List Typing) (slot : ℕ) (type : JType) → AreDistinct list → number_of list slot type ≡ None → AreDistinct (list ++ record { slot = slot; type = type } ∷ [])
distinct-push list slot type distinct new first other typing e f =
    elim (pushed list (record { slot = slot; type = type }) first typing e) [
      | inl old ↦ elim (pushed list (record { slot = slot; type = type }) other typing f) [
        | inl also ↦ distinct first other typing old also
        | inr last ↦ absurd (not-there first (old ∙ ap Some (sym last.1)))
      ]
      | inr at ↦ elim (pushed list (record { slot = slot; type = type }) other typing f) [
        | inl also ↦ absurd (not-there other (also ∙ ap Some (sym at.1)))
        | inr last ↦ at.0 ∙ sym last.0
      ]
    ]
  where
    not-there : (number : ℕ) → slice_get list number ≡ Some (record { slot = slot; type = type }) → ⊥
    not-there number e = let found = number-there list slot type number e in none-some found.0 (sym new ∙ found.1)

-- one slot more
next-met : (before after : List Typing) (of_slot : ℕ → Option JType) (slot : ℕ) → AreMet before after of_slot slot → AreMet before (with_variable after slot (of_slot slot)) of_slot (suc slot)
next-met before after of_slot slot met = by (of_slot slot) refl
  where
    new : (type : JType) → of_slot slot ≡ Some type → (found : Option ℕ) → number_of after slot type ≡ found → AreMet before (with_new after slot type found) of_slot (suc slot)
    new type is None none =
        let distinct = distinct-push after slot type met.distinct none in
        let one : Typing = record { slot = slot; type = type } in
        record {
          distinct = distinct;
          kept = λ other kind number e. kept-push after one other kind number distinct (met.kept other kind number e);
          each = λ other kind less e. elim (below-or other slot less) [
            | inl lower ↦ (let old = met.each other kind lower e in record { number = old.number; is = kept-push after one other kind old.number distinct old.is })
            | inr same ↦ record {
              number = length after;
              is = number-found (after ++ one ∷ []) distinct other kind (length after) (at-end after one ∙ ap Some (ap (λ (n : ℕ). record { slot = n; type = type }) (sym same) ∙ ap (λ (t : JType). record { slot = other; type = t }) (some-is type kind (sym is ∙ ap of_slot (sym same) ∙ e))));
            }
          ];
          only = λ number typing e. elim (pushed after one number typing e) [
            | inl old ↦ elim (met.only number typing old) [ inl first ↦ inl first | inr at ↦ inr (wider typing at.0, at.1) ]
            | inr last ↦ inr (subst (λ (t : Typing). t.slot < suc slot) last.1 (omega arith), subst (λ (t : Typing). of_slot t.slot ≡ Some t.type) last.1 is)
          ];
        }
      where
        wider : (typing : Typing) → typing.slot < slot → typing.slot < suc slot
        wider typing less = omega (arith, less)
    new type is (Some number) there = record {
      distinct = met.distinct;
      kept = met.kept;
      each = λ other kind less e. elim (below-or other slot less) [
        | inl lower ↦ met.each other kind lower e
        | inr same ↦ record {
          number = number;
          is = ap (λ (n : ℕ). number_of after n kind) same ∙ ap (number_of after slot) (some-is kind type (sym e ∙ ap of_slot same ∙ is)) ∙ there;
        }
      ];
      only = λ number typing e. elim (met.only number typing e) [ inl first ↦ inl first | inr at ↦ inr ((let less = at.0 in omega (arith, less)), at.1) ];
    }

    by : (type : Option JType) → of_slot slot ≡ type → AreMet before (with_variable after slot type) of_slot (suc slot)
    by None is = record {
      distinct = met.distinct;
      kept = met.kept;
      each = λ other kind less e. elim (below-or other slot less) [
        | inl lower ↦ met.each other kind lower e
        | inr same ↦ none-some kind (sym is ∙ ap of_slot (sym same) ∙ e)
      ];
      only = λ number typing e. elim (met.only number typing e) [ inl first ↦ inl first | inr at ↦ inr ((let less = at.0 in omega (arith, less)), at.1) ];
    }
    by (Some type) is = new type is (number_of after slot type) refl

pub slots_are_met : SlotsAreMet
slots_are_met variables of_slot zero distinct = record {
  distinct = distinct;
  kept = λ slot type number e. e;
  each = λ slot type less e. absurd (omega (arith, less));
  only = λ number typing e. inl e;
}
slots_are_met variables of_slot (suc count) distinct = next-met variables (with_slots variables of_slot count) of_slot count (slots_are_met variables of_slot count distinct)

-- ---- the variables

-- a number, or 0 where there is none
abbrev or_zero : Option ℕ → ℕ
or_zero None = 0
or_zero (Some number) = number

module _ (typed : Typed) (starts : List ℕ) (variables : List Typing) (vars : Vars) (is : IsNumbered typed starts variables vars) where
  abbrev number : ℕ → JType → ℕ
  number slot type = or_zero (number_of variables slot type)

  numbered : (slot : ℕ) (type : JType) → HasType typed starts slot type → number_of variables slot type ≡ Some (number slot type)
  numbered slot type has = let found = is.each slot type has in found.is ∙ ap Some (sym (ap or_zero found.is))

  there : (slot : ℕ) (type : JType) → HasType typed starts slot type → slice_get variables (number slot type) ≡ Some (record { slot = slot; type = type })
  there slot type has = number-is variables slot type (number slot type) (numbered slot type has)

  firsts : (block : ℕ) (frame : Working) → Begins typed starts block frame → (slot : ℕ) (type : Option JType) → type_of_slot (slot_tag typed.code frame slot) ≡ type → number_of_any variables slot type ≡ option_map (number slot) type
  firsts block frame begins slot None e = refl
  firsts block frame begins slot (Some type) e = numbered slot type (at_start begins e)

  of-type : (block slot variable : ℕ) → vars.of block slot ≡ Some variable → (type : JType) × HasType typed starts slot type × (number slot type ≡ variable)
  of-type block slot variable e =
      let at = is.of_none block slot variable e in
      by at.frame at.begins (type_of_slot (slot_tag typed.code at.frame slot)) refl (sym at.is ∙ e)
    where
      by : (frame : Working) → Begins typed starts block frame → (type : Option JType) → type_of_slot (slot_tag typed.code frame slot) ≡ type → number_of_any variables slot type ≡ Some variable
          → (type : JType) × HasType typed starts slot type × (number slot type ≡ variable)
      by frame begins None f e = none-some variable e
      by frame begins (Some type) f e = (type, at_start begins f, ap or_zero e)

  each-one : (variable : ℕ) → variable < length vars.kinds → (typing : Typing) × HasType typed starts typing.slot typing.type × (number typing.slot typing.type ≡ variable)
  each-one variable less = by (slice_get variables variable) refl
    where
      within : variable < length variables
      within = let same = ap length is.kinds in let long = length-map variables (λ (typing : Typing). typing.type) in omega (arith, less, same, long)

      by : (found : Option Typing) → slice_get variables variable ≡ found → (typing : Typing) × HasType typed starts typing.slot typing.type × (number typing.slot typing.type ≡ variable)
      by None e = absurd (slice_get-past variables variable within e)
      by (Some typing) e = (record { slot = typing.slot; type = typing.type }, is.only variable typing e, ap or_zero (number-found variables is.distinct typing.slot typing.type variable e))

  all-vars : AreVars typed starts vars
  all-vars = record {
    number = number;
    first = λ block frame begins slot. is.of block frame begins slot ∙ firsts block frame begins slot (type_of_slot (slot_tag typed.code frame slot)) refl;
    of_type = of-type;
    written = λ pc slot type writes. is.after pc slot type writes ∙ numbered slot type (by_write writes);
    unwritten = is.after_none;
    kinds = λ slot type has. ap (λ list. slice_get list (number slot type)) is.kinds ∙ slice_get-map (λ (typing : Typing). typing.type) variables (number slot type) ∙ ap (option_map (λ (typing : Typing). typing.type)) (there slot type has);
    apart = λ one other has having same.
        let e = sym (there one.slot one.type has) ∙ ap (slice_get variables) same ∙ there other.slot other.type having in
        let equal = some-is (record { slot = one.slot; type = one.type }) (record { slot = other.slot; type = other.type }) e in
        ap (λ (typing : Typing). record { slot = typing.slot; type = typing.type }) equal;
    each = each-one;
  }

pub numbered_are_vars : NumberedAreVars
numbered_are_vars typed starts variables vars is = all-vars typed starts variables vars is
