-- What an instruction writes, by its definition and as a relation.
use Rattle.std.proofs.Common.{◌≡◌, ℕ, Option, Some, None, refl, ap, ◌∙◌, subst}
use Rattle.std.proofs.lemmas.Option.{none-some, same_Some}
use Rattle.dj_names.specs.Types as types
use Rattle.dj_names.specs.Types.{JType}
use Rattle.dj_instructions.specs.Instructions.{Instruction, Store, Iinc}
use Rattle.dj_frames.specs.Frames as tag
use Rattle.dj_frames.specs.Frames.{Tag, Frame}
use Rattle.dj_tags.specs.Goes.{top_down}
use Rattle.dj_numbers.specs.Numbers.{Typing}
use Rattle.dj_numbers.specs.Frames.{type_of_tag, type_of_slot}
use Rattle.dj_vars.specs.Naming.{Writes, by_store, by_count}
use Rattle.dj_code_variables.specs.Stores.{write_of, top_tag, typing_at, typing_of}
use Rattle.dj_code_variables.proofs.Bottoms.{top-is, top-of}

-- an instruction writes a slot with a value of a type
pub record HasWritten (frame : Frame) (instruction : Instruction) (typing : Typing) : Type 0 where
  pub tag : Tag
  pub writes : Writes (top_down frame) instruction typing.slot tag
  pub born : type_of_tag tag ≡ Some typing.type

pub writes-is : (frame : Frame) (instruction : Instruction) (slot : ℕ) (tag : Tag) (type : JType) → Writes (top_down frame) instruction slot tag → type_of_tag tag ≡ Some type
    → typing_of (write_of instruction) frame ≡ Some (record { slot = slot; type = type })
writes-is frame instruction slot tag type (by_store {rest = below} e) born =
    ap (λ (found : Option Tag). typing_at slot (type_of_slot found)) (top-is frame.stack tag below e) ∙ ap (typing_at slot) born
writes-is frame instruction slot tag type by_count born = ap (typing_at slot) born

-- a slot with a type that a tag gives it
born-at : (frame : Frame) (instruction : Instruction) (slot : ℕ) (found : Option Tag) → ((tag : Tag) → found ≡ Some tag → Writes (top_down frame) instruction slot tag) → (typing : Typing)
    → typing_at slot (type_of_slot found) ≡ Some typing → HasWritten frame instruction typing
born-at frame instruction slot None writes typing e = absurd (none-some typing e)
born-at frame instruction slot (Some tag) writes typing e = by (type_of_tag tag) refl e
  where
    by : (type : Option JType) → type_of_tag tag ≡ type → typing_at slot type ≡ Some typing → HasWritten frame instruction typing
    by None f e = absurd (none-some typing e)
    by (Some type) f e = subst (HasWritten frame instruction) (same_Some (record { slot = slot; type = type }) typing e) (record { tag = tag; writes = writes tag refl; born = f })

pub is-writes : (frame : Frame) (instruction : Instruction) (typing : Typing) → typing_of (write_of instruction) frame ≡ Some typing → HasWritten frame instruction typing
is-writes frame (Store kind slot) typing e = born-at frame (Store kind slot) slot (top_tag frame) (λ tag f. by_store (top-of frame.stack tag f).is) typing e
is-writes frame (Iinc slot by) typing e = subst (HasWritten frame (Iinc slot by)) (same_Some (record { slot = slot; type = types.Int }) typing e) (record { tag = tag.Int; writes = by_count; born = refl })
is-writes frame other typing e = absurd (none-some typing e)
