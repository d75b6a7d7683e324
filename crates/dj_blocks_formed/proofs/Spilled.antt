-- Pending expressions that are assigned to fresh variables keep the rules.
use Rattle.std.proofs.Common.{ℕ, suc, ◌+◌, ◌≤◌, ◌≡◌, Bool, true, false, not, List, [], ◌∷◌, Option, Some, None, refl, sym, ap, ◌∙◌, subst, arith}
use Rattle.std.specs.Prelude.{◌&&◌, is_some, if◌then◌else◌, codes}
use Rattle.std.proofs.lemmas.Bool.{and_parts}
use Rattle.dj_names.specs.declared.header.Header.{Header}
use Rattle.dj_names.specs.Types as types
use Rattle.dj_names.specs.Types.{JType, Class, Array, StaticType, Of}
use Rattle.dj_names.specs.Assignable.{own_type}
use Rattle.dj_values.proofs.Deciding.{Decides-subtype}
use Rattle.dj_syntax.specs.declared.variable.Var.{Var}
use Rattle.dj_syntax.specs.Trees.{Exp, Stm, Declare, Stms, Empty, And}
use Rattle.dj_meaning.specs.Calls.{is_assignable}
use Rattle.dj_meaning.specs.StaticTypes.{Scope, is_same_variable, with_type, typed, type_of}
use Rattle.dj_meaning.specs.Declarations.{declared, within, behind, joined}
use Rattle.dj_meaning.specs.Statements.{Elsewhere}
use Rattle.dj_places.specs.Rules.{Holds}
use Rattle.dj_typing.specs.Sites.{Site, context_of, is_whole, is_whole_type, may_name_type}
use Rattle.dj_typing.specs.Operands.{if_typed}
use Rattle.dj_typing.specs.Expressions.{goes, is_whole_static}
use Rattle.dj_typed.specs.Statements.{Around}
use Rattle.dj_formed.specs.Formed.{constants_of}
use Rattle.dj_rebuilding.specs.Pending.{Pending, Kept, Whole, Born, Again, Named, exp_of, declared_type, also, stays, Built, fresh, single, and_then, save, keep, spill}
use Rattle.dj_rebuilding.specs.Agreeing.{SameTypes, IsClear}
use Rattle.dj_rebuilding.proofs.Names.{same-itself, apart, both-true}
use Rattle.dj_rebuilding.proofs.Spills.{types-fresh}
use Rattle.dj_blocks_formed.specs.Ruled.{IsRuled, AreRuled, IsFull, IsRuledStm, AreRuledStms}
use Rattle.dj_blocks_formed.proofs.Reading.{declared-reads, declared-full}
use Rattle.dj_blocks_formed.proofs.Joined.{behind-joined, none-ruled, one-ruled, joined-ruled}
use Rattle.dj_blocks_formed.proofs.Later.{ruled-later, all-ruled-later}

-- a value goes into a variable that is declared for its type
pub declared-goes : (headers : List Header) (type : StaticType) → is_assignable headers type (declared_type type) ≡ true
declared-goes headers types.Null = refl
declared-goes headers (Of type) = (Decides-subtype headers type type).1 own_type

module _ (site : Site) where
  -- what can be named is whole
  pub named-whole : (type : JType) → may_name_type site type ≡ true → is_whole_type site.headers type ≡ true
  named-whole types.Boolean named = refl
  named-whole types.Byte named = refl
  named-whole types.Char named = refl
  named-whole types.Short named = refl
  named-whole types.Int named = refl
  named-whole types.Long named = refl
  named-whole types.Float named = refl
  named-whole types.Double named = refl
  named-whole (Class name) named = (and_parts (site.can_say name) (is_whole site.headers name) named).1
  named-whole (Array element) named = named-whole element named

  -- a variable of a type that can be named keeps the rules
  pub variable-ruled : (n : ℕ) (scope : Scope) (variable : Var) (type : JType) → suc variable.number ≤ n → scope variable ≡ Some type → may_name_type site type ≡ true → IsRuled site n scope (Of type) (exp_of (Named variable))
  variable-ruled n scope variable type old known named = record {
    entry = record { small = old; typed = ap typed known };
    keeps = λ place. (ap is_some known, ap (λ found. if_typed (typed found) (is_whole_static site.headers)) known ∙ named-whole type named);
    named = named;
  }

module _ (around : Around) where
  -- what was spilled: statements and atoms that keep the rules, in a scope that grew by fresh variables
  pub record AreSpilled (n : ℕ) (scope : Scope) (built : Built) : Type 0 where
    pub later : n ≤ built.next
    pub clear : IsClear built.next (behind built.emitted scope)
    pub same : SameTypes n scope (behind built.emitted scope)
    pub entries : AreRuled around.site built.next (behind built.emitted scope) built.stack
    pub emitted : AreRuledStms around scope built.emitted

  -- a declaration of a fresh variable
  declaration-ruled : (k : ℕ) (scope : Scope) (type : StaticType) (exp : Exp) → IsClear k scope → IsRuled around.site k scope type exp → IsRuledStm around scope (Declare (fresh k) (declared_type type) (Some exp))
  declaration-ruled k scope type exp clear h =
      let inner = with_type (fresh k) (declared_type type) scope in
      let there = ruled-later around.site k k scope inner type exp (omega arith) (types-fresh k k (declared_type type) scope (omega arith)) h in
      record {
        types = λ place. (
          both-true (not (is_some (scope (fresh k)))) (may_name_type around.site (declared_type type)) (ap (λ found. not (is_some found)) (clear k (omega arith))) h.named,
          (ap (λ found. goes around.site.headers found (Some (declared_type type))) there.entry.typed ∙ declared-goes around.site.headers type, there.keeps (place + 1)),
        );
        reads = λ set full place. declared-reads (constants_of around.site) set full k (place + 1) exp h.entry.small;
        full = λ set full. declared-full (constants_of around.site) set full (fresh k) exp;
      }

  saved : (n : ℕ) (scope : Scope) (type : StaticType) (exp : Exp) (so_far : Built) → IsRuled around.site n scope type exp → AreSpilled n scope so_far → AreSpilled n scope (save type exp so_far)
  saved n scope type exp so_far is h =
      let T = declared_type type in
      let k = so_far.next in
      let later : Scope = behind so_far.emitted scope in
      let inner : Scope = with_type (fresh k) T later in
      let statement = Declare (fresh k) T (Some exp) in
      let ends : behind (joined so_far.emitted (single statement)) scope ≡ inner = behind-joined so_far.emitted (single statement) scope in
      let there = ruled-later around.site n k scope later type exp h.later h.same is in
      let found : inner (fresh k) ≡ Some T = ap (λ (test : Bool). if test then Some T else later (fresh k)) (same-itself (fresh k)) in
      let entries : AreRuled around.site (k + 1) inner (Kept (Of T) (Named (fresh k)) ∷ so_far.stack) = (
        variable-ruled around.site (k + 1) inner (fresh k) T (omega arith) found is.named,
        all-ruled-later around.site k (k + 1) later inner so_far.stack (omega arith) (types-fresh k k T later (omega arith)) h.entries,
      ) in
      let clear : IsClear (k + 1) inner = λ other less. ap (λ (test : Bool). if test then Some T else later (fresh other)) (apart (fresh other) (fresh k) (omega (arith, less))) ∙ h.clear other (omega (arith, less)) in
      record {
        later = omega (arith, h.later);
        clear = subst (IsClear (k + 1)) (sym ends) clear;
        same = subst (SameTypes n scope) (sym ends) (λ variable below. h.same variable below ∙ types-fresh n k T later h.later variable below);
        entries = subst (λ within. AreRuled around.site (k + 1) within (Kept (Of T) (Named (fresh k)) ∷ so_far.stack)) (sym ends) entries;
        emitted = joined-ruled around scope so_far.emitted (single statement) h.emitted (one-ruled around later statement (declaration-ruled k later type exp h.clear there));
      }

  kept : (n : ℕ) (scope : Scope) (type : StaticType) (exp : Exp) (so_far : Built) → IsRuled around.site n scope type exp → AreSpilled n scope so_far → IsRuled around.site so_far.next (behind so_far.emitted scope) type exp
  kept n scope type exp so_far is h = ruled-later around.site n so_far.next scope (behind so_far.emitted scope) type exp h.later h.same is

  pub spilled-ruled : (assigned : Var → Bool) (n : ℕ) (scope : Scope) → IsClear n scope → (stack : List Pending) → AreRuled around.site n scope stack → (built : Built) → spill assigned n stack ≡ Some built → AreSpilled n scope built
  spilled-ruled assigned n scope clear [] entries built e =
      let is : record { emitted = Empty; stack = []; next = n } ≡ built = cc in
      subst (AreSpilled n scope) is (record { later = omega arith; clear = clear; same = λ variable below. refl; entries = tt; emitted = none-ruled around scope })
  spilled-ruled assigned n scope clear (Kept type atom ∷ below) entries built e = go (spill assigned n below) (λ so_far is. spilled-ruled assigned n scope clear below entries.1 so_far is) e
    where
      one : (so_far : Built) → AreSpilled n scope so_far → (test : Bool) → AreSpilled n scope (if test then keep type atom so_far else save type (exp_of atom) so_far)
      one so_far h true = record { later = h.later; clear = h.clear; same = h.same; entries = (kept n scope type (exp_of atom) so_far entries.0 h, h.entries); emitted = h.emitted }
      one so_far h false = saved n scope type (exp_of atom) so_far entries.0 h

      go : (found : Option Built) → ((so_far : Built) → found ≡ Some so_far → AreSpilled n scope so_far) → and_then found (λ so_far. Some (if stays assigned atom then keep type atom so_far else save type (exp_of atom) so_far)) ≡ Some built → AreSpilled n scope built
      go None h f = absurd (cc)
      go (Some so_far) h f =
          let is : (if stays assigned atom then keep type atom so_far else save type (exp_of atom) so_far) ≡ built = cc in
          subst (AreSpilled n scope) is (one so_far (h so_far refl) (stays assigned atom))
  spilled-ruled assigned n scope clear (Whole type exp ∷ below) entries built e = go (spill (also exp assigned) n below) (λ so_far is. spilled-ruled (also exp assigned) n scope clear below entries.1 so_far is) e
    where
      go : (found : Option Built) → ((so_far : Built) → found ≡ Some so_far → AreSpilled n scope so_far) → and_then found (λ so_far. Some (save type exp so_far)) ≡ Some built → AreSpilled n scope built
      go None h f = absurd (cc)
      go (Some so_far) h f =
          let is : save type exp so_far ≡ built = cc in
          subst (AreSpilled n scope) is (saved n scope type exp so_far entries.0 (h so_far refl))
  spilled-ruled assigned n scope clear (Born class ∷ below) entries built e = absurd (cc)
  spilled-ruled assigned n scope clear (Again ∷ below) entries built e = absurd (cc)
