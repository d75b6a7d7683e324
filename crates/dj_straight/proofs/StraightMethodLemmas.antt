-- What is found of a method, from what its parts are.
use Rattle.std.proofs.Common.{◌≡◌, ◌<◌, ◌^◌, ℕ, zero, suc, Bool, IsTrue, ◌↔◌, arith, List, [], ◌∷◌, length, replicate, Some, None, Result, Ok, Err, refl, sym, ap, ◌∙◌, subst, inl, inr}
use Rattle.std.specs.Prelude.{IfOk}
use Rattle.std.specs.List.{AllByRecursion}
use Rattle.std.specs.declared.alloc.AllocError.{AllocError}
use Rattle.dj_layout.specs.Whole.{IsWhole}
use Rattle.dj_layout.proofs.Laws.{whole_unique}
use Rattle.dj_names.specs.declared.types.JType as code_types
use Rattle.dj_names.specs.Types.{JType, Int, Descriptor, Field, Method, parameters_of, view_type, view_types}
use Rattle.dj_class.specs.Described.{ClassOf, MethodOf}
use Rattle.dj_frames.specs.declared.frame.Frame as code_frame
use Rattle.dj_frames.specs.Frames.{view_frames}
use Rattle.dj_code.specs.declared.content.CodeContent.{CodeContent}
use Rattle.dj_code.specs.CodeContent as layouts
use Rattle.dj_code.specs.MethodCode.{Code}
use Rattle.dj_code.specs.ReadCode.{HasContent, SpellsCode}
use Rattle.dj_code.proofs.ContentIsExact.{exact-content}
use Rattle.dj_code.proofs.Bounds.{code_is_short}
use Rattle.dj_straight.specs.declared.straight_method.Judged.{Judged}
use Rattle.dj_straight.specs.declared.straight_method.Judged.TheVariants.{Straight, NotYet}
use Rattle.dj_straight.specs.Ints.{AnswersInt}
use Rattle.dj_straight.specs.StraightMethod.{IsDeclared, IsPlainCode, IsCandidate, IsNotYet, no_candidate, breaks}
use Rattle.dj_straight.specs.DeclaredMethods.{IsAdmitted}
use Rattle.dj_straight.specs.Judged.{HasPlainHead, IsSpelledBy, IsJudgedCode, IsJudged}
use Rattle.dj_straight.proofs.DeclaredLemmas.{same_count}

-- ---- types that are all int

pub ints_are : (kinds : List code_types.JType) → AllByRecursion (λ kind. view_type kind ≡ Int) kinds → view_types kinds ≡ replicate (length kinds) Int
ints_are [] all = refl
ints_are (kind ∷ kinds) all = rw (all.0, ints_are kinds all.1) refl

-- each of so many ints is int
pub are_ints : (count : ℕ) (kinds : List code_types.JType) → view_types kinds ≡ replicate count Int → AllByRecursion (λ kind. view_type kind ≡ Int) kinds
are_ints count [] same = tt
are_ints zero (kind ∷ kinds) same = absurd cc
are_ints (suc count) (kind ∷ kinds) same =
    let both : (view_type kind ≡ Int) × (view_types kinds ≡ replicate count Int) = (cc, cc) in
    (both.0, are_ints count kinds both.1)

-- a descriptor from ints to an int
ints_to_int : (descriptor : Descriptor) (ints : List JType) → parameters_of descriptor ≡ ints → AnswersInt descriptor → descriptor ≡ Method ints (Some Int)
ints_to_int (Field kind) ints taken answers = absurd answers
ints_to_int (Method parameters result) ints taken answers = rw (taken, answers) refl

-- ---- what is no candidate

module _ (class : ClassOf) (before : List MethodOf) (method : MethodOf) (code : Code) (spelled : SpellsCode class method code) where
  pub not_first : IsAdmitted before method None → IsNotYet class before method 0
  not_first admitted = no_candidate spelled (λ parameters candidate.
      let ints : parameters_of method.descriptor ≡ replicate parameters Int = ap parameters_of candidate.descriptor in
      candidate.first (rw ints (admitted parameters ints)))

  pub not_plain_head : ¬ HasPlainHead class method → IsNotYet class before method 0
  not_plain_head other = no_candidate spelled (λ parameters candidate.
      other (record { name = candidate.name; static = candidate.static; public = candidate.public; no_bridge = candidate.no_bridge; thrown = candidate.thrown; answers = subst AnswersInt (sym candidate.descriptor) refl }))

-- ---- what is found of code

-- a method has one content of its Code
one_content : (method : MethodOf) (first second : CodeContent) → HasContent method first → HasContent method second → first ≡ second
one_content method first second one two =
    let same : two.bytes ≡ one.bytes = cc (one.body, two.body) in
    whole_unique layouts.content exact-content one.bytes first second one.laid_out (subst (λ these. IsWhole layouts.content these second) same two.laid_out)

module _ (class : ClassOf) (method : MethodOf) (parameters : ℕ) (code : Code) (spelled : SpellsCode class method code) (head : HasPlainHead class method) (ints : parameters_of method.descriptor ≡ replicate parameters Int) where
  -- no method among these takes as many ints under the same name
  abbrev IsFirst : List MethodOf → Type 0
  IsFirst before = ¬ IsDeclared before method.name (replicate parameters Int)

  candidate_of : (before : List MethodOf) → IsFirst before → IsPlainCode parameters code → IsCandidate class before method parameters code
  candidate_of before first plain = record {
    name = head.name;
    static = head.static;
    public = head.public;
    no_bridge = head.no_bridge;
    thrown = head.thrown;
    first = rw ints first;
    descriptor = ints_to_int method.descriptor (replicate parameters Int) ints head.answers;
    plain = plain;
  }

  -- a candidate takes as many ints
  plain_of : (before : List MethodOf) (count : ℕ) → IsCandidate class before method count code → IsPlainCode parameters code
  plain_of before count candidate =
      let number : count ≡ parameters = same_count count parameters (ap parameters_of (sym candidate.descriptor) ∙ ints) in
      subst (λ n. IsPlainCode n code) number candidate.plain

  found : (judged : Judged) → IsJudgedCode parameters spelled.content.code code judged → (before : List MethodOf) → IsFirst before → IsJudged class before method judged
  found (Straight exp) (plain, returned) before first = record {
    parameters = parameters;
    code = code;
    spelled = spelled;
    candidate = candidate_of before first plain;
    formula = returned.formula;
    postfix = returned.straight;
    tree = returned.tree;
  }
  found (NotYet pc) (inl other) before first =
      subst (IsNotYet class before method) (sym other.1) (no_candidate spelled (λ count candidate. other.0 (plain_of before count candidate)))
  found (NotYet pc) (inr plain) before first = breaks spelled (candidate_of before first plain.0) plain.1

  pub judged_by_code : (bytes : List ℕ) → IsSpelledBy method (Some bytes) → (result : Result Judged AllocError) → IfOk result (IsJudgedCode parameters bytes code) → IfOk result (λ judged. (before : List MethodOf) → IsFirst before → IsJudged class before method judged)
  judged_by_code bytes (content, has, is) (Ok judged) holds =
      let same : spelled.content ≡ content = one_content method spelled.content content spelled.has has in
      found judged (subst (λ these. IsJudgedCode parameters these code judged) (sym (ap (λ (c : CodeContent). c.code) same ∙ is)) holds)
  judged_by_code bytes by (Err error) holds = holds

-- the bytes of spelled code are there
pub has_bytes : (class : ClassOf) (method : MethodOf) (code : Code) → SpellsCode class method code → ¬ IsSpelledBy method None
has_bytes class method code spelled none = none spelled.content spelled.has

-- and they are few
pub bytes_are_short : (method : MethodOf) (bytes : List ℕ) → IsSpelledBy method (Some bytes) → length bytes < 2 ^ 32
bytes_are_short method bytes (content, has, is) = omega (arith, code_is_short has.bytes content has.laid_out, ap length is)

-- the frames of the code and those seen
pub no_frames_are : (frames : List (ℕ × code_frame.Frame)) (empty : Bool) → IsTrue empty ↔ (frames ≡ []) → IsTrue empty ↔ (view_frames frames ≡ [])
no_frames_are [] empty tells = (λ yes. refl, λ none. tells.1 refl)
no_frames_are (first ∷ frames) empty tells = (λ yes. absurd (cc (tells.0 yes)), λ none. absurd (cc))
