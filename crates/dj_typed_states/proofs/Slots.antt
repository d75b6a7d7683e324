-- Locals that are written, by slot, and values whose tags change as objects are born.
use Rattle.std.proofs.Common.{◌≡◌, ℕ, zero, suc, ◌+◌, ◌<◌, ◌==◌, Bool, true, false, List, [], ◌∷◌, ◌++◌, length, map, replicate, Option, Some, None, IsSomeAnd, refl, sym, subst, arith}
use Rattle.std.specs.Prelude.{if◌then◌else◌, slice_get, slice_set, slice_index_or}
use Rattle.std.proofs.lemmas.Bool.{false≢true, eqb-true}
use Rattle.dj_names.specs.Types.{JType, Class}
use Rattle.dj_names.specs.Headers.{Name}
use Rattle.dj_values.specs.Values.{RefValue, Value, Ref}
use Rattle.dj_instructions.specs.declared.kinds.Kind.{Kind}
use Rattle.dj_instructions.specs.declared.kinds.Kind.TheVariants as kind
use Rattle.dj_frames.specs.Frames as tag
use Rattle.dj_frames.specs.Frames.{Tag, is_unborn_this, is_unborn_at}
use Rattle.dj_tags.specs.Goes.{words}
use Rattle.dj_effects.specs.Operands.{HasKind}
use Rattle.dj_effects.specs.Effects.{or_top, cut_below, stored, instead}
use Rattle.dj_bytecode.specs.Machine.{Locals}
use Rattle.dj_typed_states.specs.Facts.{Facts}
use Rattle.dj_typed_states.specs.Held.{IsHeld, unknown, int, long, null, unborn_this, no_object, object, unborn, IsLocal, anything, known, AllAre, none, more, AreLocals}

mapped_slot : (change : Tag → Tag) (tags : List Tag) (slot : ℕ) → change tag.Top ≡ tag.Top → or_top (slice_get (map change tags) slot) ≡ change (or_top (slice_get tags slot))
mapped_slot change [] slot top = sym top
mapped_slot change (first ∷ rest) zero top = refl
mapped_slot change (first ∷ rest) (suc slot) top = mapped_slot change rest slot top

top_beyond : (count slot : ℕ) → or_top (slice_get (replicate count tag.Top) slot) ≡ tag.Top
top_beyond zero slot = refl
top_beyond (suc count) zero = refl
top_beyond (suc count) (suc slot) = top_beyond count slot

module _ {facts : Facts} where
  -- ---- writes

  -- nothing more is known of a slot
  topped_at : (tags : List Tag) (at slot : ℕ) {local : Option Value} → IsLocal facts (or_top (slice_get tags slot)) local → IsLocal facts (or_top (slice_get (slice_set tags at tag.Top) slot)) local
  topped_at [] at slot is = is
  topped_at (first ∷ rest) zero zero is = anything
  topped_at (first ∷ rest) zero (suc slot) is = is
  topped_at (first ∷ rest) (suc at) zero is = is
  topped_at (first ∷ rest) (suc at) (suc slot) is = topped_at rest at slot is

  topped : (tags : List Tag) (at : ℕ) (locals : Locals) → AreLocals facts tags locals → AreLocals facts (slice_set tags at tag.Top) locals
  topped tags at locals are slot = topped_at tags at slot (are slot)

  topped_if : (test : Bool) (tags : List Tag) (at : ℕ) (locals : Locals) → AreLocals facts tags locals → AreLocals facts (if test then slice_set tags at tag.Top else tags) locals
  topped_if true tags at locals are = topped tags at locals are
  topped_if false tags at locals are = are

  -- a value is known where it is written
  written_at : (tags : List Tag) (locals : Locals) (at slot : ℕ) {held : Tag} {value : Value} → at < length locals → IsHeld facts held value → IsLocal facts (or_top (slice_get tags slot)) (slice_index_or locals slot None) → IsLocal facts (or_top (slice_get (slice_set tags at held) slot)) (slice_index_or (slice_set locals at (Some value)) slot None)
  written_at [] locals at slot within held is = anything
  written_at (first ∷ rest) [] at slot within held is = absurd (omega arith)
  written_at (first ∷ rest) (local ∷ locals) zero zero within held is = known held
  written_at (first ∷ rest) (local ∷ locals) zero (suc slot) within held is = is
  written_at (first ∷ rest) (local ∷ locals) (suc at) zero within held is = is
  written_at (first ∷ rest) (local ∷ locals) (suc at) (suc slot) within held is = written_at rest locals at slot (omega arith) held is

  cut_locals : (at : ℕ) (tags : List Tag) (locals : Locals) → AreLocals facts tags locals → AreLocals facts (cut_below at tags) locals
  cut_locals zero tags locals are = are
  cut_locals (suc below) tags locals are = topped_if (words (or_top (slice_get tags below)) == 2) tags below locals are

  -- the locals behind a store
  pub stored_locals : (at : ℕ) (tags : List Tag) (locals : Locals) {held : Tag} {value : Value} → at < length locals → IsHeld facts held value → AreLocals facts tags locals → AreLocals facts (stored at held tags) (slice_set locals at (Some value))
  stored_locals at tags locals {held} {value} within is are =
      topped_if (words held == 2) (slice_set (cut_below at tags) at held) (at + 1) (slice_set locals at (Some value))
      (λ slot. written_at (cut_below at tags) locals at slot within is (cut_locals at tags locals are slot))

  -- an int in the place of an int
  counted_at : (tags : List Tag) (locals : Locals) (at slot : ℕ) {held : Tag} {value : Value} → at < length locals → slice_get tags at ≡ Some held → IsHeld facts held value → IsLocal facts (or_top (slice_get tags slot)) (slice_index_or locals slot None) → IsLocal facts (or_top (slice_get tags slot)) (slice_index_or (slice_set locals at (Some value)) slot None)
  counted_at [] locals at slot within here held is = absurd (cc)
  counted_at (first ∷ rest) [] at slot within here held is = absurd (omega arith)
  counted_at (first ∷ rest) (local ∷ locals) zero zero {held} {value} within here is was = let e : held ≡ first = cc in known (subst (λ t. IsHeld facts t value) e is)
  counted_at (first ∷ rest) (local ∷ locals) zero (suc slot) within here held is = is
  counted_at (first ∷ rest) (local ∷ locals) (suc at) zero within here held is = is
  counted_at (first ∷ rest) (local ∷ locals) (suc at) (suc slot) within here held is = counted_at rest locals at slot (omega arith) here held is

  pub counted_locals : (at : ℕ) (tags : List Tag) (locals : Locals) {held : Tag} {value : Value} → at < length locals → slice_get tags at ≡ Some held → IsHeld facts held value → AreLocals facts tags locals → AreLocals facts tags (slice_set locals at (Some value))
  counted_locals at tags locals within here held are slot = counted_at tags locals at slot within here held (are slot)

  -- a local of a kind is there
  pub local_there : (wanted : Kind) (found : Option Tag) (local : Option Value) → IsSomeAnd found (HasKind wanted) → IsLocal facts (or_top found) local → (held : Tag) × (value : Value) × (found ≡ Some held) × (local ≡ Some value) × HasKind wanted held × IsHeld facts held value
  local_there wanted None local has is = absurd has
  local_there wanted (Some held) local has is = go wanted has is
    where
      no_kind : (wanted : Kind) → HasKind wanted tag.Top → ⊥
      no_kind kind.Ref has = false≢true has
      no_kind wanted has = absurd (cc)

      go : {held : Tag} {local : Option Value} (wanted : Kind) → HasKind wanted held → IsLocal facts held local → (kept : Tag) × (value : Value) × (Some held ≡ Some kept) × (local ≡ Some value) × HasKind wanted kept × IsHeld facts kept value
      go wanted has anything = absurd (no_kind wanted has)
      go wanted has (known {held} {value} is) = (held, value, refl, refl, has, is)

  -- ---- births

  -- what is held stays so where an object is born
  pub born_this : (class : Name) → ((one : RefValue) → facts.this one → facts.of (Class class) one) → (held : Tag) (value : Value) → IsHeld facts held value → IsHeld facts (instead is_unborn_this (tag.Object (Class class)) held) value
  born_this class of held value unknown = unknown
  born_this class of held value int = int
  born_this class of held value long = long
  born_this class of held value null = null
  born_this class of held value (unborn_this {reference} is) = object (of reference is)
  born_this class of held value no_object = no_object
  born_this class of held value (object is) = object is
  born_this class of held value (unborn is) = unborn is

  pub born_at : (pc : ℕ) (owner : JType) → ((one : RefValue) → facts.made pc one → facts.of owner one) → (held : Tag) (value : Value) → IsHeld facts held value → IsHeld facts (instead (is_unborn_at pc) (tag.Object owner) held) value
  born_at pc owner of held value unknown = unknown
  born_at pc owner of held value int = int
  born_at pc owner of held value long = long
  born_at pc owner of held value null = null
  born_at pc owner of held value (unborn_this is) = unborn_this is
  born_at pc owner of held value no_object = no_object
  born_at pc owner of held value (object is) = object is
  born_at pc owner of held value (unborn {pc = other} {reference} is) = go (other == pc) refl
    where
      go : (test : Bool) → other == pc ≡ test → IsHeld facts (if test then tag.Object owner else tag.Unborn other) (Ref reference)
      go true same = object (of reference (subst (λ at. facts.made at reference) (eqb-true other pc same) is))
      go false differ = unborn is

  -- a local is known where it was, or no more
  lost_local : (pc : ℕ) {held : Tag} {local : Option Value} → IsLocal facts held local → IsLocal facts (instead (is_unborn_at pc) tag.Top held) local
  lost_local pc anything = anything
  lost_local pc (known unknown) = known unknown
  lost_local pc (known int) = known int
  lost_local pc (known long) = known long
  lost_local pc (known null) = known null
  lost_local pc (known (unborn_this is)) = known (unborn_this is)
  lost_local pc (known no_object) = known no_object
  lost_local pc (known (object is)) = known (object is)
  lost_local pc (known (unborn {pc = other} {reference} is)) = go (other == pc)
    where
      go : (test : Bool) → IsLocal facts (if test then tag.Top else tag.Unborn other) (Some (Ref reference))
      go true = anything
      go false = known (unborn is)

  born_local : (change : Tag → Tag) → ((held : Tag) (value : Value) → IsHeld facts held value → IsHeld facts (change held) value) → {held : Tag} {local : Option Value} → change tag.Top ≡ tag.Top → IsLocal facts held local → IsLocal facts (change held) local
  born_local change f {local = local} top anything = subst (λ t. IsLocal facts t local) (sym top) anything
  born_local change f top (known {held} {value} is) = known (f held value is)

  mapped_locals : (change : Tag → Tag) (tags : List Tag) (locals : Locals) → change tag.Top ≡ tag.Top → ((slot : ℕ) → IsLocal facts (change (or_top (slice_get tags slot))) (slice_index_or locals slot None)) → AreLocals facts (map change tags) locals
  mapped_locals change tags locals top are slot = subst (λ t. IsLocal facts t (slice_index_or locals slot None)) (sym (mapped_slot change tags slot top)) (are slot)

  pub lost_locals : (pc : ℕ) (tags : List Tag) (locals : Locals) → AreLocals facts tags locals → AreLocals facts (map (instead (is_unborn_at pc) tag.Top) tags) locals
  lost_locals pc tags locals are = mapped_locals (instead (is_unborn_at pc) tag.Top) tags locals refl (λ slot. lost_local pc (are slot))

  module _ (change : Tag → Tag) (top : change tag.Top ≡ tag.Top) (f : (held : Tag) (value : Value) → IsHeld facts held value → IsHeld facts (change held) value) where
    pub changed_locals : (tags : List Tag) (locals : Locals) → AreLocals facts tags locals → AreLocals facts (map change tags) locals
    changed_locals tags locals are = mapped_locals change tags locals top (λ slot. born_local change f top (are slot))

    pub changed_stack : {tags : List Tag} {stack : List Value} → AllAre (IsHeld facts) tags stack → AllAre (IsHeld facts) (map change tags) stack
    changed_stack none = none
    changed_stack (more {first} {other} held are) = more (f first other held) (changed_stack are)

  -- ---- where a method begins

  -- locals that are known, and nothing of those behind them
  pub first_locals_are : (count : ℕ) (beyond : Locals) {tags : List Tag} {locals : Locals} → AllAre (IsLocal facts) tags locals → AreLocals facts (tags ++ replicate count tag.Top) (locals ++ beyond)
  first_locals_are count beyond none slot = subst (λ t. IsLocal facts t (slice_index_or beyond slot None)) (sym (top_beyond count slot)) anything
  first_locals_are count beyond (more is are) zero = is
  first_locals_are count beyond (more is are) (suc slot) = first_locals_are count beyond are slot
