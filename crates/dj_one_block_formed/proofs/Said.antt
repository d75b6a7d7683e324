-- What code names can be named, where each of its classes can: the types of its parameters, and those that given frames speak of.
use Rattle.std.proofs.Common.{arith, ℕ, suc, ◌-◌, ◌==◌, ◌≡◌, Bool, true, false, List, [], ◌∷◌, length, replicate, Some, inl, inr, refl, subst}
use Rattle.std.specs.Prelude.{if◌then◌else◌, option_map, Any}
use Rattle.dj_names.specs.Headers.{Name}
use Rattle.dj_names.specs.Types as type
use Rattle.dj_names.specs.Types.{JType, Class, Array, Descriptor, Method, Field, parameters_of, result_of}
use Rattle.dj_world.specs.Named.{class_of, NamesClass}
use Rattle.dj_frames.specs.Frames.{Tag, Top, Int, Float, Double, Long, Null, UnbornThis, Object, Unborn, Frame}
use Rattle.dj_code.specs.MethodCode.{Code}
use Rattle.dj_tags.specs.Goes.{Working, reversed, top_down}
use Rattle.dj_verify.specs.Rules.{padded, frame_in, given}
use Rattle.dj_typing.specs.Sites.{Site, may_name, may_name_type}
use Rattle.dj_code_causes.specs.NamedIn.{IsInTag, IsInFrame, IsInCode, in_frame}
use Rattle.dj_member_nodes.specs.Named.{AreNamed}
use Rattle.dj_one_block_formed.proofs.Naming.{AreSaid, SaysWell, said-append, said-tops}

-- ---- some of a list

any-here : {X : Type 0} (P : X → Type 0) (first : X) (rest : List X) → P first → Any P (first ∷ rest)
any-here P first rest holds = (0, first, omega arith, refl, holds)

any-later : {X : Type 0} (P : X → Type 0) (first : X) (rest : List X) → Any P rest → Any P (first ∷ rest)
any-later P first rest some = (suc some.0, some.1, omega (arith, some.2), some.3, some.4)

module _ (site : Site) where
  -- a type can be named, where its class can
  pub type-named : (one : JType) → ((name : Name) → class_of one ≡ Some name → may_name site name ≡ true) → may_name_type site one ≡ true
  type-named type.Boolean can = refl
  type-named type.Byte can = refl
  type-named type.Char can = refl
  type-named type.Short can = refl
  type-named type.Int can = refl
  type-named type.Long can = refl
  type-named type.Float can = refl
  type-named type.Double can = refl
  type-named (Class name) can = can name refl
  type-named (Array element) can = type-named element can

  types-named : (types : List JType) → ((name : Name) → Any (λ one. class_of one ≡ Some name) types → may_name site name ≡ true) → AreNamed site types
  types-named [] can = tt
  types-named (first ∷ rest) can = (
    type-named first (λ name is. can name (any-here (λ one. class_of one ≡ Some name) first rest is)),
    types-named rest (λ name some. can name (any-later (λ one. class_of one ≡ Some name) first rest some)),
  )

  pub parameters-named : (descriptor : Descriptor) → ((name : Name) → NamesClass descriptor name → may_name site name ≡ true) → AreNamed site (parameters_of descriptor)
  parameters-named (Field kind) can = tt
  parameters-named (Method parameters result) can = types-named parameters (λ name some. can name (inl some))

  -- ---- frames

  tag-said : (tag : Tag) → ((name : Name) → IsInTag tag name → may_name site name ≡ true) → AreSaid site (tag ∷ [])
  tag-said Top can = (tt, tt)
  tag-said Int can = (tt, tt)
  tag-said Float can = (tt, tt)
  tag-said Double can = (tt, tt)
  tag-said Long can = (tt, tt)
  tag-said Null can = (tt, tt)
  tag-said UnbornThis can = (tt, tt)
  tag-said (Object one) can = (type-named one can, tt)
  tag-said (Unborn pc) can = (tt, tt)

  tags-said : (tags : List Tag) → ((name : Name) → Any (λ tag. IsInTag tag name) tags → may_name site name ≡ true) → AreSaid site tags
  tags-said [] can = tt
  tags-said (first ∷ rest) can = (
    (tag-said first (λ name is. can name (any-here (λ tag. IsInTag tag name) first rest is))).0,
    tags-said rest (λ name some. can name (any-later (λ tag. IsInTag tag name) first rest some)),
  )

  said-reversed : (tags : List Tag) → AreSaid site tags → AreSaid site (reversed tags)
  said-reversed [] are = tt
  said-reversed (first ∷ rest) are = said-append site (reversed rest) (first ∷ []) (said-reversed rest are.1) (are.0, tt)

  frame-said : (most : ℕ) (frame : Frame) → ((name : Name) → IsInFrame frame name → may_name site name ≡ true) → SaysWell site (padded most (top_down frame))
  frame-said most frame can = record {
    locals = said-append site frame.locals (replicate (most - length frame.locals) Top) (tags-said frame.locals (λ name some. can name (inl some))) (said-tops site (most - length frame.locals));
    stack = said-reversed frame.stack (tags-said frame.stack (λ name some. can name (inr some)));
  }

  listed-said : (most pc : ℕ) (frames : List (ℕ × Frame)) → ((name : Name) → Any (λ (at : ℕ × Frame). IsInFrame at.1 name) frames → may_name site name ≡ true)
      → (frame : Working) → option_map (λ frame. padded most (top_down frame)) (frame_in pc frames) ≡ Some frame → SaysWell site frame
  listed-said most pc [] can frame e = absurd (cc)
  listed-said most pc (first ∷ rest) can frame e = by (first.0 == pc) e (listed-said most pc rest (λ name some. can name (any-later (λ (at : ℕ × Frame). IsInFrame at.1 name) first rest some)) frame)
    where
      by : (test : Bool) → option_map (λ frame. padded most (top_down frame)) (if test then Some first.1 else frame_in pc rest) ≡ Some frame
          → (option_map (λ frame. padded most (top_down frame)) (frame_in pc rest) ≡ Some frame → SaysWell site frame) → SaysWell site frame
      by true e later =
          let same : padded most (top_down first.1) ≡ frame = cc in
          subst (SaysWell site) same (frame-said most first.1 (λ name is. can name (any-here (λ (at : ℕ × Frame). IsInFrame at.1 name) first rest is)))
      by false e later = later e

  pub given-said : (code : Code) → ((name : Name) → IsInCode code name → may_name site name ≡ true) → (pc : ℕ) (frame : Working) → given code pc ≡ Some frame → SaysWell site frame
  given-said code can pc frame e = listed-said code.max_locals pc code.frames (λ name some. can name (in_frame some)) frame e
