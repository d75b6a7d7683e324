-- The classes that code names, gathered one after another, and the least of them.
use Rattle.std.proofs.Common.{◌≡◌, ◌↔◌, ℕ, zero, suc, ◌+◌, ◌<◌, List, [], ◌∷◌, ◌++◌, Any, Contains, Some, Option, IsSomeAnd, length, take, map, slice_get, refl, sym, ap, subst, inl, inr, arith}
use Rattle.std.proofs.lemmas.List.Elements.{Contains-append_left, Contains-append_right, Contains-append_cases, Contains-push_cases}
use Rattle.std.proofs.lemmas.Option.{slice_get_cases}
use Rattle.dj_names.specs.Headers.{Name}
use Rattle.dj_names.specs.declared.header.Header.{Header}
use Rattle.dj_names.specs.Types.{view_descriptor}
use Rattle.dj_instructions.specs.declared.instruction.Instruction as code_instruction
use Rattle.dj_instructions.specs.Instructions.{Instruction, view_instruction}
use Rattle.dj_frames.specs.declared.frame.Frame as code_frame
use Rattle.dj_frames.specs.declared.tag.Tag as code_tag
use Rattle.dj_frames.specs.Frames.{Tag, Frame, view_tag, view_frame}
use Rattle.dj_code.specs.declared.method_code.Handler.{Handler}
use Rattle.dj_code.specs.declared.method_code.Code as code_code
use Rattle.dj_code.specs.MethodCode.{view_code}
use Rattle.dj_world.specs.Named.{NamesClass}
use Rattle.dj_sayable.specs.Gathering.{Gains}
use Rattle.dj_sayable.specs.Above.{IsAtOrAbove}
use Rattle.dj_sayable.proofs.GatheringLemmas.{gains_like, gains_one}
use Rattle.dj_causes.specs.BareCauses.{core_names}
use Rattle.dj_causes.proofs.HeadLemmas.{gained_more}
use Rattle.dj_code_causes.specs.NamedIn.{IsInInstruction, IsInTag, IsInFrame, IsInCode, of_class, in_descriptor, in_thrown, in_instruction, in_frame, in_handler, of_core}
use Rattle.dj_code_causes.specs.Gathered.{IsInTags}

-- ---- some item, and what it is seen as

pub any_to_map : {A B : Type 0} (P : B → Type 0) (f : A → B) (xs : List A) → Any (λ x. P (f x)) xs → Any P (map f xs)
any_to_map P f [] (k, x, within, is, holds) = absurd (omega arith)
any_to_map P f (y ∷ xs) (zero, x, within, is, holds) = (0, f x, omega arith, ap f is, holds)
any_to_map P f (y ∷ xs) (suc k, x, within, is, holds) =
    let rest = any_to_map P f xs (k, x, omega arith, is, holds) in
    (suc rest.0, rest.1, (let within' = rest.2 in omega arith), rest.3, rest.4)

pub any_from_map : {A B : Type 0} (P : B → Type 0) (f : A → B) (xs : List A) → Any P (map f xs) → Any (λ x. P (f x)) xs
any_from_map P f [] (k, y, within, is, holds) = absurd (omega arith)
any_from_map P f (x ∷ xs) (zero, y, within, is, holds) = (0, x, omega arith, refl, subst P (sym is) holds)
any_from_map P f (x ∷ xs) (suc k, y, within, is, holds) =
    let rest = any_from_map P f xs (k, y, omega arith, is, holds) in
    (suc rest.0, rest.1, (let within' = rest.2 in omega arith), rest.3, rest.4)

-- a name that is put behind others
pub gains_name : (old new : List Name) (name : Name) → new ≡ old ++ name ∷ [] → Gains old new (λ other. name ≡ other)
gains_name old new name behind = subst (λ (names : List Name). Gains old names (λ other. name ≡ other)) (sym behind) (gains_one old name)

-- names that are gained where there were none are just these
just_these : (names : List Name) (P : Name → Type 0) → Gains [] names P → (name : Name) → Contains names name ↔ P name
just_these names P gains name = (
  λ has. elim ((gains.each name).0 has) [ inl none ↦ absurd (let within = none.1 in omega (arith, within)) | inr holds ↦ holds ],
  λ holds. (gains.each name).1 (inr holds),
)

-- and so they are where they are put behind others, or those of them that are new
pub gains_these : (old new names : List Name) (P : Name → Type 0) → Gains [] names P → Gains old new (Contains names) → Gains old new P
gains_these old new names P gains more = gains_like old new (Contains names) P (just_these names P gains) more

-- what stands above alike names is alike
pub above_alike : (headers : List Header) (P Q : Name → Type 0) → ((name : Name) → P name ↔ Q name) → (all : List Name) → ((name : Name) → Contains all name ↔ IsAtOrAbove headers P name) → (name : Name) → Contains all name ↔ IsAtOrAbove headers Q name
above_alike headers P Q like all above name = (
  λ has. (let up = (above name).0 has in record { lower = up.lower; is_one = (like up.lower).0 up.is_one; above = up.above }),
  λ up. (above name).1 (record { lower = up.lower; is_one = (like up.lower).1 up.is_one; above = up.above }),
)

-- ---- tags

pub gains_tags : (old new : List Name) (tags : List code_tag.Tag) → Gains old new (λ name. Any (λ tag. IsInTag (view_tag tag) name) tags) → Gains old new (IsInTags tags)
gains_tags old new tags gains =
    gains_like old new (λ (name : Name). Any (λ (tag : code_tag.Tag). IsInTag (view_tag tag) name) tags) (IsInTags tags)
    (λ name. (any_to_map (λ (tag : Tag). IsInTag tag name) view_tag tags, any_from_map (λ (tag : Tag). IsInTag tag name) view_tag tags)) gains

-- the tag in a slot
abbrev pub InSlot : List code_tag.Tag → ℕ → Name → Type 0
InSlot tags slot name = IsSomeAnd (slice_get tags slot) (λ tag. IsInTag (view_tag tag) name)

pub gains_slot : (old new : List Name) (tags : List code_tag.Tag) (slot : ℕ) (tag : code_tag.Tag) → slice_get tags slot ≡ Some tag → Gains old new (IsInTag (view_tag tag)) → Gains old new (InSlot tags slot)
gains_slot old new tags slot tag is gains = subst (λ (o : Option code_tag.Tag). Gains old new (λ name. IsSomeAnd o (λ t. IsInTag (view_tag t) name))) (sym is) gains

pub gains_more_tags : (old between new : List Name) (tags : List code_tag.Tag) (slot : ℕ) → slot < length tags → Gains old between (λ name. Any (λ tag. IsInTag (view_tag tag) name) (take slot tags)) → Gains between new (InSlot tags slot)
    → Gains old new (λ name. Any (λ tag. IsInTag (view_tag tag) name) (take (slot + 1) tags))
gains_more_tags old between new tags slot within before here = elim (slice_get_cases tags slot).1 [
  | inl there ↦
      gained_more (λ (name : Name) (one : code_tag.Tag). IsInTag (view_tag one) name) tags slot there.0 old between new within (sym there.3) before
      (subst (λ (o : Option code_tag.Tag). Gains between new (λ name. IsSomeAnd o (λ t. IsInTag (view_tag t) name))) there.2 here)
  | inr past ↦ absurd (omega (arith, past.0))
]

-- ---- all of code

module _ (code : code_code.Code) where
  abbrev pub Instructed : Name → Type 0
  Instructed name = Any (λ at. IsInInstruction (view_instruction at.1) name) code.instructions

  abbrev pub Framed : Name → Type 0
  Framed name = Any (λ at. IsInFrame (view_frame at.1) name) code.frames

  abbrev pub Handled : Name → Type 0
  Handled name = Any (λ (handler : Handler). handler.class ≡ Some name) code.handlers

  pub in_code : (first second third fourth fifth last : List Name) → first ≡ code.class ∷ core_names → Gains first second (NamesClass (view_descriptor code.descriptor)) → third ≡ second ++ code.thrown
      → Gains third fourth Instructed → Gains fourth fifth Framed → Gains fifth last Handled → (name : Name) → Contains last name ↔ IsInCode (view_code code) name
  in_code first second third fourth fifth last begins described behind instructed framed handled name = (to, from)
    where
      to_instruction : Instructed name → IsInCode (view_code code) name
      to_instruction some = in_instruction (any_to_map (λ (at : ℕ × Instruction). IsInInstruction at.1 name) (λ (x : ℕ × code_instruction.Instruction). (x.0, view_instruction x.1)) code.instructions some)

      to_frame : Framed name → IsInCode (view_code code) name
      to_frame some = in_frame (any_to_map (λ (at : ℕ × Frame). IsInFrame at.1 name) (λ (x : ℕ × code_frame.Frame). (x.0, view_frame x.1)) code.frames some)

      of_first : Contains first name → IsInCode (view_code code) name
      of_first has = elim (Contains-append_cases (code.class ∷ []) core_names name (subst (λ (ns : List Name). Contains ns name) begins has)) [
        | inl own ↦ elim (Contains-push_cases [] code.class name own) [ inl none ↦ absurd (let w = none.1 in omega arith) | inr is ↦ of_class is ]
        | inr core ↦ of_core core
      ]

      of_third : Contains third name → IsInCode (view_code code) name
      of_third has = elim (Contains-append_cases second code.thrown name (subst (λ (ns : List Name). Contains ns name) behind has)) [
        | inl earlier ↦ elim ((described.each name).0 earlier) [ inl had ↦ of_first had | inr named ↦ in_descriptor named ]
        | inr thrown ↦ in_thrown thrown
      ]

      to : Contains last name → IsInCode (view_code code) name
      to has = elim ((handled.each name).0 has) [
        | inl earlier ↦ elim ((framed.each name).0 earlier) [
          | inl before ↦ elim ((instructed.each name).0 before) [ inl had ↦ of_third had | inr some ↦ to_instruction some ]
          | inr some ↦ to_frame some
        ]
        | inr some ↦ in_handler some
      ]

      in_fourth : Contains fourth name → Contains last name
      in_fourth has = (handled.each name).1 (inl ((framed.each name).1 (inl has)))

      in_third : Contains third name → Contains last name
      in_third has = in_fourth ((instructed.each name).1 (inl has))

      in_second : Contains second name → Contains last name
      in_second has = in_third (subst (λ (ns : List Name). Contains ns name) (sym behind) (Contains-append_left second code.thrown name has))

      in_first : Contains (code.class ∷ core_names) name → Contains last name
      in_first has = in_second ((described.each name).1 (inl (subst (λ (ns : List Name). Contains ns name) (sym begins) has)))

      from : IsInCode (view_code code) name → Contains last name
      from (of_class is) = in_first (0, omega arith, is)
      from (in_descriptor named) = in_second ((described.each name).1 (inr named))
      from (in_thrown thrown) = in_third (subst (λ (ns : List Name). Contains ns name) (sym behind) (Contains-append_right second code.thrown name thrown))
      from (in_instruction some) = in_fourth ((instructed.each name).1 (inr (any_from_map (λ (at : ℕ × Instruction). IsInInstruction at.1 name) (λ (x : ℕ × code_instruction.Instruction). (x.0, view_instruction x.1)) code.instructions some)))
      from (in_frame some) = (handled.each name).1 (inl ((framed.each name).1 (inr (any_from_map (λ (at : ℕ × Frame). IsInFrame at.1 name) (λ (x : ℕ × code_frame.Frame). (x.0, view_frame x.1)) code.frames some))))
      from (in_handler some) = (handled.each name).1 (inr some)
      from (of_core core) = in_first (Contains-append_right (code.class ∷ []) core_names name core)
