-- The body of a straight method is typed.
use Rattle.std.proofs.Common.{◌≡◌, ℕ, zero, suc, ◌<◌, ◌≤◌, true, false, List, [], ◌∷◌, take, replicate, Some, refl, sym, ap, subst, ◌∙◌, inl, inr, arith}
use Rattle.std.specs.Prelude.{slice_get, nat_eq}
use Rattle.std.proofs.lemmas.Bool.{and_parts, cases_Bool, eqb-true}
use Rattle.std.proofs.lemmas.List.{take_all, length-replicate}
use Rattle.dj_layout.specs.Parts.{number}
use Rattle.dj_names.specs.declared.header.Header.{Header}
use Rattle.dj_names.specs.declared.members.ClassMembers.{ClassMembers}
use Rattle.dj_names.specs.Headers.{Name}
use Rattle.dj_names.specs.Identifiers.{IsLetter, IsIdentifierChars}
use Rattle.dj_names.specs.MethodNames.{is_constructor}
use Rattle.dj_names.specs.Types as types
use Rattle.dj_names.specs.Types.{JType, Method, Of}
use Rattle.dj_syntax.specs.Trees.{Exp, Return, And, Empty, Stms, Body}
use Rattle.dj_syntax.specs.UnitText.{is_initialiser}
use Rattle.dj_class.specs.Described.{ClassOf, MethodOf}
use Rattle.dj_places.specs.Rules.{Holds}
use Rattle.dj_places.specs.Surroundings.{around_body}
use Rattle.dj_scopes.specs.Parameters.{parameter}
use Rattle.dj_sayable.specs.Saying.{CanBeSaid}
use Rattle.dj_typing.specs.Sites.{Site, has_header, is_whole}
use Rattle.dj_thrown.specs.Bodies.{scope_in, body_throws}
use Rattle.dj_thrown.specs.Catching.{escaping}
use Rattle.dj_thrown.specs.Settings.{setting_in}
use Rattle.dj_variables.specs.Sets.{everything}
use Rattle.dj_typed.specs.Bodies.{Writing, site_in, body_types, IsTyped}
use Rattle.dj_reach.specs.Bodies.{body_reach}
use Rattle.dj_assigned.specs.Bodies.{body_reads}
use Rattle.dj_thrown.specs.Bodies.{body_thrown}
use Rattle.dj_straight.specs.Straight.{Formula, exp_of, UsesParameters}
use Rattle.dj_straight.specs.StraightMethod.{IsStraightMethod, IsBodyOf}
use Rattle.dj_straight_typed.proofs.Writable.{named_there, right_writing, writing_is_right}
use Rattle.dj_straight_typed.proofs.Rules.{is_int, keeps_types, keeps_reads, throws_nothing}

-- ---- names

not_special : (unit : ℕ) → IsLetter unit → nat_eq unit 60 ≡ false
not_special unit letter = elim (cases_Bool (nat_eq unit 60)) [ inl is ↦ absurd (apart (eqb-true unit 60 is) letter) | inr isnt ↦ isnt ]
  where
    apart : unit ≡ 60 → IsLetter unit → ⊥
    apart same (inl upper) = omega (arith, same, upper.0, upper.1)
    apart same (inr (inl lower)) = omega (arith, same, lower.0, lower.1)
    apart same (inr (inr (inl line))) = omega (arith, same, line)
    apart same (inr (inr (inr dollar))) = omega (arith, same, dollar)

no_constructor : (name : List ℕ) → IsIdentifierChars name → is_constructor name ≡ false
no_constructor [] chars = absurd chars
no_constructor (first ∷ rest) chars = rw (not_special first chars.0) refl

no_initialiser : (name : List ℕ) → IsIdentifierChars name → is_initialiser name ≡ false
no_initialiser [] chars = absurd chars
no_initialiser (first ∷ rest) chars = rw (not_special first chars.0) refl

-- ---- parameters

int_at : (count slot : ℕ) → slot < count → slice_get (replicate count types.Int) slot ≡ Some types.Int
int_at zero slot within = absurd (omega arith)
int_at (suc count) zero within = refl
int_at (suc count) (suc slot) within = int_at count slot (omega (arith, within))

abbrev most : ℕ
most = 4294967295

first_int : (count slot : ℕ) → count ≤ most → slot < count → slice_get (take most (replicate count types.Int)) slot ≡ Some types.Int
first_int count slot few within =
    subst (λ (list : List JType). slice_get list slot ≡ Some types.Int) (sym (take_all most (replicate count types.Int) (subst (λ n. n ≤ most) (sym (length-replicate count types.Int)) few))) (int_at count slot within)

-- ---- the body

module _ (world : List Header) (members : List ClassMembers) (class name : Name) (flags : ℕ) (thrown : List Name) (count : ℕ) (formula : Formula)
    (uses : UsesParameters count formula) (few : count ≤ most) (chars : IsIdentifierChars name) (whole : is_whole world class ≡ true) (said : CanBeSaid world members class class) where
  abbrev made : Body
  made = record {
    class = class;
    flags = flags;
    name = name;
    descriptor = Method (replicate count types.Int) (Some types.Int);
    thrown = thrown;
    statements = And (Return (Some (exp_of formula))) Empty;
  }

  abbrev writing : Writing
  writing = right_writing world members class

  abbrev site : Site
  site = site_in writing world members made

  typed : (slot : ℕ) → slot < count → scope_in made (parameter slot) ≡ Some types.Int
  typed slot within = first_int count slot few within

  can_say : writing.can_say class ≡ true
  can_say = ((writing_is_right world members class).says class).1 (named_there world class (and_parts (has_header world class) _ whole).0, said)

  by_types : Holds (body_types writing world members made)
  by_types = (
    rw (can_say, whole) refl,
    (
      rw (no_constructor name chars) refl,
      ((rw (is_int site (scope_in made) count typed formula uses) refl, keeps_types site (scope_in made) count typed formula uses 1), tt),
    ),
  )

  by_reach : Holds (body_reach world members made)
  by_reach = (rw (no_initialiser name chars) refl, (refl, (rw (no_initialiser name chars) refl, tt)))

  by_reads : Holds (body_reads world members made)
  by_reads = (keeps_reads (around_body world members made) formula everything 1 (λ variable. refl), tt)

  nothing_thrown : body_throws world members made ≡ []
  nothing_thrown = rw (throws_nothing (setting_in world members made) (scope_in made) formula 1) refl

  by_thrown : Holds (body_thrown world members made)
  by_thrown = ((tt, tt), subst (λ list. Holds (escaping world thrown list)) (sym nothing_thrown) tt)

  made_is_typed : IsTyped world members made
  made_is_typed = record { writing = writing; right = writing_is_right world members class; holds = (by_types, (by_reach, (by_reads, by_thrown))) }

-- code has as many locals as two bytes tell (JVMS 4.7.3)
few_locals : (class : ClassOf) (before : List MethodOf) (method : MethodOf) (exp : Exp) → (straight : IsStraightMethod class before method exp) → straight.spelled.content.max_locals < 65536
unfolding number
few_locals class before method exp straight = straight.spelled.has.laid_out.fits.1.0

-- a body that returns the expression of a straight method keeps the rules
pub straight_methods_are_typed : (class : ClassOf) (before : List MethodOf) (method : MethodOf) (exp : Exp) (body : Body) (world : List Header) (members : List ClassMembers)
    → IsStraightMethod class before method exp → IsBodyOf class method exp body → is_whole world class.this_class ≡ true → CanBeSaid world members class.this_class class.this_class → IsTyped world members body
straight_methods_are_typed class before method exp body world members straight of_method whole said =
    let own : body.class ≡ class.this_class = of_method.class in
    let few : straight.parameters ≤ most =
    (let room = straight.candidate.plain.locals in let same = straight.spelled.head.max_locals in let small = few_locals class before method exp straight in omega (arith, room, same, small)) in
    let chars : IsIdentifierChars body.name = subst IsIdentifierChars (sym of_method.name) straight.candidate.name.chars in
    let typed = made_is_typed world members body.class body.name body.flags body.thrown straight.parameters straight.formula straight.postfix.straight.slots few chars
    (subst (λ (n : Name). is_whole world n ≡ true) (sym own) whole) (subst (λ (n : Name). CanBeSaid world members n n) (sym own) said) in
    subst (λ (list : Stms). IsTyped world members (record body { statements = list })) (sym (of_method.returns ∙ ap (λ value. And (Return (Some value)) Empty) straight.tree))
    (subst (λ descriptor. IsTyped world members (record body { descriptor = descriptor; statements = And (Return (Some (exp_of straight.formula))) Empty })) (sym (of_method.descriptor ∙ straight.candidate.descriptor)) typed)
