-- What stands in a constructor before its call of another one takes no `this` from the stack.
use Rattle.std.proofs.Common.{◌≡◌, ◌⊎◌, ℕ, zero, suc, ◌≤◌, Bool, true, false, List, [], ◌∷◌, ◌++◌, map, drop, length, replicate, Option, Some, None, IsSome, inl, inr, refl, sym, ap, subst, ◌∙◌, arith}
use Rattle.std.specs.Prelude.{◌&&◌, if◌then◌else◌, slice_get, reverse}
use Rattle.std.proofs.lemmas.Bool.{false≢true}
use Rattle.std.proofs.lemmas.List.{length-map, reverse-append}
use Rattle.dj_names.specs.declared.header.Header.{Header}
use Rattle.dj_names.specs.Types.{JType, parameters_of, result_of}
use Rattle.dj_names.specs.MethodNames.{is_constructor}
use Rattle.dj_instructions.specs.declared.kinds.Kind.{Kind}
use Rattle.dj_instructions.specs.declared.kinds.Kind.TheVariants as kind
use Rattle.dj_instructions.specs.declared.kinds.Calc.{Calc}
use Rattle.dj_instructions.specs.declared.kinds.Calc.TheVariants as calc
use Rattle.dj_instructions.specs.declared.kinds.Element.{Element}
use Rattle.dj_instructions.specs.declared.kinds.Element.TheVariants as element
use Rattle.dj_instructions.specs.Instructions.{Instruction, MethodRef}
use Rattle.dj_instructions.specs.Instructions as op
use Rattle.dj_frames.specs.Frames.{Tag, Top, Int, Null, UnbornThis, Object, Unborn, Frame, is_unborn_at, tag_of}
use Rattle.dj_code.specs.MethodCode.{Code}
use Rattle.dj_tags.specs.Goes.{Assignability, Working, reversed, top_down}
use Rattle.dj_effects.specs.Works.{Want, Of, Form, Work, Plain, Moves, Loads, Stores, Counts, Makes, Bears, Elements, Sets, Supers, Leaves, Never, dup_forms, form}
use Rattle.dj_effects.specs.Spelled.{is_spelled}
use Rattle.dj_effects.specs.Operands.{AreWanted, there, CanBeBorn, HasElement, HasOperands, begins, element_tag, form_of, moved_words, under}
use Rattle.dj_effects.specs.Effects.{borne, effect, instead, moved, or_top, pushed}
use Rattle.dj_effects.specs.Rows.{arguments, birth, number_tag, object, of_number, operands, read, row, super_call, work}
use Rattle.dj_starts.specs.declared.roles.Role.TheVariants as role
use Rattle.dj_starts.specs.Births.{role_of}
use Rattle.dj_receivers.specs.OwnCalls.{calls_own, is_some_begun}
use Rattle.dj_rebuildable.specs.Beside.{is_unborn, AreBorn}
use Rattle.dj_standing.proofs.Tags.{first_of}
use Rattle.dj_rebuildable.proofs.Strict.{all-arguments, all-arguments-alone, all-born, only-arguments}

-- ---- `this` above the lowest entry

-- `this`, not yet constructed, lies on a stack above another entry; the top first
abbrev pub LiesHigher : List Tag → Type 0
LiesHigher [] = ⊥
LiesHigher (first ∷ rest) = ((first ≡ UnbornThis) × (1 ≤ length rest)) ⊎ LiesHigher rest

-- it doesn't where there is one entry
pub too_low : (tags : List Tag) → length tags ≤ 1 → LiesHigher tags → ⊥
too_low [] few lies = lies
too_low (first ∷ rest) few (inl here) = let some = here.1 in omega (arith, few, some)
too_low (first ∷ rest) few (inr later) = too_low rest (omega (arith, few)) later

not_this : {P : Type 0} (tag : Tag) → tag ≡ UnbornThis → is_unborn tag ≡ false → P
not_this tag same born = absurd (false≢true (sym born ∙ ap is_unborn same))

-- entries that are born may be taken
pub higher_drop : (count : ℕ) (tags : List Tag) → AreBorn count tags → LiesHigher tags → LiesHigher (drop count tags)
higher_drop zero [] born lies = lies
higher_drop zero (first ∷ rest) born lies = lies
higher_drop (suc count) [] born lies = absurd born
higher_drop (suc count) (first ∷ rest) born (inl here) = not_this first here.0 born.0
higher_drop (suc count) (first ∷ rest) born (inr later) = higher_drop count rest born.1 later

higher_pushed : (gives : Option Tag) (tags : List Tag) → LiesHigher tags → LiesHigher (pushed gives tags)
higher_pushed None tags lies = lies
higher_pushed (Some tag) tags lies = inr lies

this_stays : (pc : ℕ) (now tag : Tag) → tag ≡ UnbornThis → instead (is_unborn_at pc) now tag ≡ UnbornThis
this_stays pc now tag same = ap (instead (is_unborn_at pc) now) same

-- another object may be constructed
higher_instead : (pc : ℕ) (now : Tag) (tags : List Tag) → LiesHigher tags → LiesHigher (map (instead (is_unborn_at pc) now) tags)
higher_instead pc now [] lies = lies
higher_instead pc now (first ∷ rest) (inl here) =
    inl (this_stays pc now first here.0, let some = here.1 in let many = length-map rest (instead (is_unborn_at pc) now) in omega (arith, some, many))
higher_instead pc now (first ∷ rest) (inr later) = inr (higher_instead pc now rest later)

-- the topmost entry may be doubled
higher_dup : (test : Bool) (tags : List Tag) → LiesHigher tags → LiesHigher (moved (if test then Some (form (1 ∷ []) (0 ∷ 0 ∷ [])) else None) tags)
higher_dup false tags lies = lies
higher_dup true [] lies = absurd lies
higher_dup true (first ∷ rest) lies = inr lies

-- ---- `this` in local 0

-- nothing else than that, if anything is known
abbrev pub MayBeThis : Tag → Type 0
MayBeThis tag = (tag ≡ UnbornThis) ⊎ (tag ≡ Top)

abbrev pub IsInFirst : Working → Type 0
IsInFirst frame = MayBeThis (or_top (slice_get frame.locals 0))

first_instead : (pc : ℕ) (now : Tag) (tags : List Tag) → MayBeThis (or_top (slice_get tags 0)) → MayBeThis (or_top (slice_get (map (instead (is_unborn_at pc) now) tags) 0))
first_instead pc now [] is = is
first_instead pc now (first ∷ rest) (inl same) = inl (this_stays pc now first same)
first_instead pc now (first ∷ rest) (inr same) = inr (ap (instead (is_unborn_at pc) now) same)

-- ---- works that leave both

module _ (Goes : Assignability) (headers : List Header) (code : Code) (pc : ℕ) (frame : Working) where
  -- what is wanted is born
  abbrev pub AreSolid : List Want → Type 0
  AreSolid wants = (tags : List Tag) → AreWanted Goes wants tags → AreBorn (length wants) tags

  -- a work takes born entries, calls no constructor on `this`, and stores nothing
  abbrev pub Spares : Work → Type 0
  Spares (Plain wants gives) = AreSolid wants
  Spares (Moves forms) = forms ≡ dup_forms
  Spares (Loads kind slot) = Unit {0}
  Spares (Stores kind slot) = ⊥
  Spares (Counts slot) = Unit {0}
  Spares Makes = Unit {0}
  Spares (Bears wants owner) = AreSolid wants × (first_of (under wants frame.stack) ≡ Some UnbornThis → ⊥)
  Spares Elements = Unit {0}
  Spares (Sets type owner) = ⊥
  Spares (Supers owner wants gives) = AreSolid wants
  Spares Leaves = Unit {0}
  Spares Never = Unit {0}

  -- behind it both are as before
  pub record LeavesBoth (stack : List Tag) (after : Working) : Type 0 where
    pub first : IsInFirst frame → IsInFirst after
    pub higher : LiesHigher stack → LiesHigher after.stack

  keeps_borne : (owner : JType) (tags : List Tag) → CanBeBorn headers code owner tags → (first_of tags ≡ Some UnbornThis → ⊥) → LeavesBoth tags (borne code owner frame tags)
  keeps_borne owner [] can not_on = absurd can
  keeps_borne owner (UnbornThis ∷ below) can not_on = absurd (not_on refl)
  keeps_borne owner (Unborn start ∷ below) can not_on = record {
    first = λ is. first_instead start (Object owner) frame.locals is;
    higher = λ lies. higher_instead start (Object owner) below (behind_other lies);
  }
    where
      behind_other : LiesHigher (Unborn start ∷ below) → LiesHigher below
      behind_other (inl here) = absurd (let same : Unborn start ≡ UnbornThis = here.0 in cc)
      behind_other (inr later) = later
  keeps_borne owner (tag ∷ below) can not_on = absurd can

  keeps_elements : (tags : List Tag) → HasElement tags → LiesHigher tags → LiesHigher (drop 2 tags)
  keeps_elements [] has lies = absurd has
  keeps_elements (index ∷ []) has lies = absurd has
  keeps_elements (index ∷ array ∷ below) has lies = higher_drop 2 (index ∷ array ∷ below) (ap is_unborn has.0, (array_born array has.1, tt)) lies
    where
      array_born : (array : Tag) → IsSome (element_tag array) → is_unborn array ≡ false
      array_born Null some = refl
      array_born (Object type) some = refl
      array_born array some = absurd (false≢true some)

  pub keeps : (work : Work) → Spares work → HasOperands Goes headers code pc work frame → LeavesBoth frame.stack (effect code pc work frame)
  keeps (Plain wants gives) solid has = record { first = λ is. is; higher = λ lies. higher_pushed gives (under wants frame.stack) (higher_drop (length wants) frame.stack (solid frame.stack has) lies) }
  keeps (Moves forms) same has = record {
    first = λ is. is;
    higher = λ lies. subst (λ (forms : List Form). LiesHigher (moved (form_of forms (map moved_words frame.stack)) frame.stack)) (sym same) (higher_dup (begins (1 ∷ []) (map moved_words frame.stack)) frame.stack lies);
  }
  keeps (Loads kind slot) free has = record { first = λ is. is; higher = λ lies. inr lies }
  keeps (Stores kind slot) none has = absurd none
  keeps (Counts slot) free has = record { first = λ is. is; higher = λ lies. lies }
  keeps Makes free has = record { first = λ is. first_instead pc Top frame.locals is; higher = λ lies. inr lies }
  keeps (Bears wants owner) solid has =
      let both = keeps_borne owner (under wants frame.stack) has.1 solid.1 in
      record { first = both.first; higher = λ lies. both.higher (higher_drop (length wants) frame.stack (solid.0 frame.stack has.0) lies) }
  keeps Elements free has = record { first = λ is. is; higher = λ lies. inr (keeps_elements frame.stack has lies) }
  keeps (Sets type owner) none has = absurd none
  keeps (Supers owner wants gives) solid has = record { first = λ is. is; higher = λ lies. higher_pushed gives (under wants frame.stack) (higher_drop (length wants) frame.stack (solid frame.stack has.1) lies) }
  keeps Leaves free has = record { first = λ is. is; higher = λ lies. lies }
  keeps Never free has = absurd has

  -- ---- rows

  solid_calc : (operation : Calc) (of : Kind) → Spares (of_number (number_tag of) (λ tag. Plain (operands operation tag) (Some tag)))
  solid_calc calc.Neg kind.Int = λ tags are. all-born Goes refl are
  solid_calc operation kind.Ref = tt
  solid_calc operation of = λ tags are. all-born Goes refl are

  solid_convert : (from : Kind) (to : JType) → Spares (of_number (number_tag from) (λ tag. Plain (Of tag ∷ []) (Some (tag_of to))))
  solid_convert kind.Ref to = tt
  solid_convert from to = λ tags are. all-born Goes refl are

  solid_compare : (of : Kind) → Spares (of_number (number_tag of) (λ tag. Plain (Of tag ∷ Of tag ∷ []) (Some Int)))
  solid_compare kind.Ref = tt
  solid_compare of = λ tags are. all-born Goes refl are

  solid_read : (of : Element) → Spares (read of)
  solid_read element.Ref = tt
  solid_read of = λ tags are. all-born Goes refl are

  solid_sizes : (sizes : ℕ) → AreSolid (replicate sizes (Of Int))
  solid_sizes zero tags are = tt
  solid_sizes (suc sizes) [] are = elim are [ ]
  solid_sizes (suc sizes) (top ∷ below) (there is rest) = (ap is_unborn is, solid_sizes sizes below rest)

  -- what calls no constructor on `this`
  solid_birth : (method : MethodRef) (constructs : Bool) (result : Option JType) → (first_of (drop (length (arguments (parameters_of method.descriptor))) frame.stack) ≡ Some UnbornThis → constructs ≡ true → ⊥)
      → Spares (if constructs then birth method.descriptor method.owner result else super_call code method.descriptor method.owner)
  solid_birth method false result not_on = λ tags are. all-born Goes (all-arguments (parameters_of method.descriptor) (Of (object code.class) ∷ []) refl) are
  solid_birth method true None not_on = (λ tags are. all-born Goes (all-arguments-alone (parameters_of method.descriptor)) are, λ on. not_on on refl)
  solid_birth method true (Some type) not_on = tt

-- ---- instructions

reversed_is : {A : Type 0} (list : List A) → reversed list ≡ reverse list
reversed_is [] = refl
reversed_is (first ∷ rest) = ap (λ done. done ++ first ∷ []) (reversed_is rest) ∙ sym (reverse-append (first ∷ []) rest)

first_under : (tags : List Tag) (count : ℕ) → slice_get tags count ≡ first_of (drop count tags)
first_under [] zero = refl
first_under [] (suc count) = refl
first_under (first ∷ rest) zero = refl
first_under (first ∷ rest) (suc count) = first_under rest count

module _ (Goes : Assignability) (headers : List Header) (code : Code) (pc : ℕ) (frame : Frame) where
  abbrev SparesHere : Work → Type 0
  SparesHere = Spares Goes headers code pc (top_down frame)

  -- `this` under the arguments of a constructor's call
  on_this : (method : MethodRef) → calls_own (op.InvokeSpecial method) frame ≡ false → first_of (drop (length (arguments (parameters_of method.descriptor))) (reversed frame.stack)) ≡ Some UnbornThis → is_constructor method.name ≡ true → ⊥
  on_this method other on constructs =
      let here : slice_get (reverse frame.stack) (length (parameters_of method.descriptor)) ≡ Some UnbornThis =
      ap (λ (stack : List Tag). slice_get stack (length (parameters_of method.descriptor))) (sym (reversed_is frame.stack)) ∙ first_under (reversed frame.stack) (length (parameters_of method.descriptor))
      ∙ ap (λ count. first_of (drop count (reversed frame.stack))) (sym (only-arguments (parameters_of method.descriptor))) ∙ on in
      false≢true (sym other ∙ ap (λ (test : Bool). test && is_some_begun (slice_get (reverse frame.stack) (length (parameters_of method.descriptor)))) constructs ∙ ap is_some_begun here)

  spares_row : (instruction : Instruction) → (role_of instruction ≡ role.Never → ⊥) → calls_own instruction frame ≡ false → SparesHere (row code instruction)
  spares_row op.Nop may other = λ tags are. tt
  spares_row (op.Load kind slot) may other = tt
  spares_row (op.Store kind slot) may other = absurd (may refl)
  spares_row (op.ArrayLoad of) may other = solid_read Goes headers code pc (top_down frame) of
  spares_row (op.ArrayStore of) may other = absurd (may refl)
  spares_row op.Pop may other = absurd (may refl)
  spares_row op.Pop2 may other = absurd (may refl)
  spares_row op.Dup may other = refl
  spares_row op.DupX1 may other = absurd (may refl)
  spares_row op.DupX2 may other = absurd (may refl)
  spares_row op.Dup2 may other = absurd (may refl)
  spares_row op.Dup2X1 may other = absurd (may refl)
  spares_row op.Dup2X2 may other = absurd (may refl)
  spares_row op.Swap may other = absurd (may refl)
  spares_row (op.Calc operation of) may other = solid_calc Goes headers code pc (top_down frame) operation of
  spares_row (op.Iinc slot by) may other = absurd (may refl)
  spares_row (op.Convert from to) may other = solid_convert Goes headers code pc (top_down frame) from to
  spares_row (op.Compare of greater) may other = solid_compare Goes headers code pc (top_down frame) of
  spares_row (op.IfZero test target) may other = absurd (may refl)
  spares_row (op.IfInts test target) may other = absurd (may refl)
  spares_row (op.IfRefs equal target) may other = absurd (may refl)
  spares_row (op.IfNull null target) may other = absurd (may refl)
  spares_row (op.Goto target) may other = absurd (may refl)
  spares_row (op.TableSwitch low targets last) may other = absurd (may refl)
  spares_row (op.LookupSwitch cases last) may other = absurd (may refl)
  spares_row (op.Return of) may other = absurd (may refl)
  spares_row (op.PutStatic field) may other = absurd (may refl)
  spares_row (op.PutField field) may other = absurd (may refl)
  spares_row (op.InvokeVirtual method) may other = λ tags are. all-born Goes (all-arguments (parameters_of method.descriptor) (Of (Object method.owner) ∷ []) refl) are
  spares_row (op.InvokeSpecial method) may other = solid_birth Goes headers code pc (top_down frame) method (is_constructor method.name) (result_of method.descriptor) (on_this method other)
  spares_row (op.InvokeStatic method) may other = λ tags are. all-born Goes (all-arguments (parameters_of method.descriptor) [] refl) are
  spares_row (op.InvokeInterface method) may other = λ tags are. all-born Goes (all-arguments (parameters_of method.descriptor) (Of (Object method.owner) ∷ []) refl) are
  spares_row (op.InvokeDynamic bootstrap name descriptor) may other = λ tags are. all-born Goes (all-arguments (parameters_of descriptor) [] refl) are
  spares_row (op.New class) may other = tt
  spares_row (op.MultiNewArray class sizes) may other = solid_sizes Goes headers code pc (top_down frame) sizes
  spares_row op.Throw may other = absurd (may refl)
  spares_row op.MonitorEnter may other = absurd (may refl)
  spares_row op.MonitorExit may other = absurd (may refl)
  spares_row instruction may other = λ tags are. all-born Goes refl are

  -- what may stand in the arguments of the call leaves both
  pub leaves_both : (instruction : Instruction) → (role_of instruction ≡ role.Never → ⊥) → calls_own instruction frame ≡ false → HasOperands Goes headers code pc (work code instruction) (top_down frame)
      → LeavesBoth Goes headers code pc (top_down frame) (top_down frame).stack (effect code pc (work code instruction) (top_down frame))
  leaves_both instruction may other has = by (is_spelled instruction) has
    where
      by : (spelled : Bool) → HasOperands Goes headers code pc (if spelled then row code instruction else Never) (top_down frame)
          → LeavesBoth Goes headers code pc (top_down frame) (top_down frame).stack (effect code pc (if spelled then row code instruction else Never) (top_down frame))
      by true has = keeps Goes headers code pc (top_down frame) (row code instruction) (spares_row instruction may other) has
      by false has = absurd has
