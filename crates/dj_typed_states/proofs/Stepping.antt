-- Where an instruction leads by its family, from a state that the frame before it describes.
use Rattle.std.proofs.Common.{◌≡◌, ℕ, ℤ, ◌+◌, ◌<◌, ◌≤◌, Bool, true, List, [], ◌∷◌, length, map, drop, Option, Some, None, IsSomeAnd, refl, sym, ap, subst, arith}
use Rattle.std.proofs.lemmas.List.{length-set}
use Rattle.std.specs.Prelude.{slice_get, slice_set, slice_index_or}
use Rattle.std.specs.Int.{w32, int_wrapping_add}
use Rattle.dj_names.specs.declared.header.Header.{Header}
use Rattle.dj_names.specs.Types.{JType, result_of}
use Rattle.dj_values.specs.Values.{Value, Int}
use Rattle.dj_values.specs.Outcomes.{Reply, Gives, there, then_on, State, Outcome, Is, bind, outside}
use Rattle.dj_instructions.specs.declared.kinds.Kind.{Kind}
use Rattle.dj_instructions.specs.declared.kinds.Kind.TheVariants as kind
use Rattle.dj_instructions.specs.Instructions.{Instructions}
use Rattle.dj_frames.specs.Frames as tag
use Rattle.dj_frames.specs.Frames.{Tag}
use Rattle.dj_code.specs.MethodCode.{Code}
use Rattle.dj_tags.specs.Goes.{Assignability, Working}
use Rattle.dj_effects.specs.Works.{Want, Form, Work, Plain, Moves, Loads, Stores, Counts}
use Rattle.dj_effects.specs.Operands.{HasKind, HasOperands, under}
use Rattle.dj_effects.specs.Effects as effects
use Rattle.dj_effects.specs.Effects.{or_top, effect, kind_words, locals_needed}
use Rattle.dj_bytecode.specs.Operands.{with_int, of_kind}
use Rattle.dj_bytecode.specs.Shuffles.{shuffled}
use Rattle.dj_bytecode.specs.Meanings.{Family, Strict, Moves as MovesBy, Loads as LoadsAs, Stores as StoresAs, Counts as CountsBy, Leads, Returns}
use Rattle.dj_bytecode.specs.Machine.{Locals, local_slots, Place, Before, Returned, pushed, strict, code_from, led_to, jumped, topmost, written, step}
use Rattle.dj_typed_states.specs.Facts.{Facts, AreKept}
use Rattle.dj_typed_states.specs.Held.{IsHeld, int, IsLocal, known, AllAre, none, more, AreLocals, Describes}
use Rattle.dj_typed_states.specs.Wanted.{IsMeant, Meets}
use Rattle.dj_typed_states.proofs.Replies.{Replies, replies-then, Ends, ends-bind, ThrowsFrom, outside-comes}
use Rattle.dj_typed_states.proofs.Taking.{meets, onto, IsGiven, taken_replies, strict_replies, jumped_replies}
use Rattle.dj_typed_states.proofs.Moving.{as_moved, are_lawful, moves_replies}
use Rattle.dj_typed_states.proofs.Slots.{stored_locals, counted_locals, local_there}
use Rattle.dj_typed_states.proofs.Operations.{Any, int_replies, kind_replies}

-- an instruction that is about to run: what is known of references; by which of them the code is typed, over which headers, and which run; the code, the offset of the instruction, those behind it, whether it may lead there, and what is known of its targets; and the frame before it, with the state
pub record Site : Type 1 where
  pub facts : Facts
  pub Goes : Assignability
  pub world : List Header
  pub headers : List Header
  pub code : Code
  pub pc : ℕ
  pub rest : Instructions
  pub falls : Bool
  pub Target : ℕ → Type 0
  pub frame : Working
  pub stack : List Value
  pub state : State Locals

-- where an instruction leads: behind it, if it may; to a target; or out of the method
pub data LeadsOn (site : Site) (after : Working) : Place → Locals → Type 0 where
  behind : {stack : List Value} {locals : Locals} → site.falls ≡ true → Describes site.facts site.code after stack locals → LeadsOn site after (Before site.rest stack) locals
  jump : {stack : List Value} {locals : Locals} (target : ℕ) → site.Target target → Describes site.facts site.code after stack locals → LeadsOn site after (Before (code_from target site.code.instructions) stack) locals
  out : {value : Option Value} {locals : Locals} → LeadsOn site after (Returned value) locals

-- a choice leads behind, if it may, or to a target
abbrev pub CanLead : Site → Option ℕ → Type 0
CanLead site None = site.falls ≡ true
CanLead site (Some target) = site.Target target

slot_within : (most slot many : ℕ) (of : Kind) → slot + kind_words of ≤ most → most ≤ many → slot < many
slot_within most slot many kind.Int needed room = omega arith
slot_within most slot many kind.Long needed room = omega arith
slot_within most slot many kind.Float needed room = omega arith
slot_within most slot many kind.Double needed room = omega arith
slot_within most slot many kind.Ref needed room = omega arith

-- what is known of an instruction with this work: its operands are in the frame, which describes the state; the method has the locals that it writes; and what is known of references is kept
pub record Ready (site : Site) (work : Work) : Type 0 where
  pub operands : HasOperands site.Goes site.world site.code site.pc work site.frame
  pub describes : Describes site.facts site.code site.frame site.stack site.state.store
  pub writes : locals_needed work ≤ site.code.max_locals
  pub kept : AreKept site.Goes site.headers site.code site.facts

-- an outcome leads on, with what it throws thrown from the same locals
abbrev pub Steps : Site → Working → Outcome Locals Place → Type 0
Steps site after = Ends (λ place next. LeadsOn site after place next.store) (ThrowsFrom site.facts site.state.store)

-- what an instruction of a family does
abbrev pub does : Site → Family → Outcome Locals Place
does site family = step site.headers local_slots site.code family site.rest site.stack site.state

-- and that it leads on, by its work
abbrev pub Does : Site → Work → Family → Type 0
Does site work family = Steps site (effect site.code site.pc work site.frame) (does site family)

module _ {site : Site} where
  -- behind an operation on the stack alone
  stack_steps : {work : Work} (after : Working) (reply : Reply (List Value)) → site.falls ≡ true → Ready site work → AreLocals site.facts after.locals site.state.store → Replies site.facts site.headers (AllAre (IsHeld site.facts) after.stack) reply → Steps site after (bind (outside site.headers reply site.state) (λ next. Is (Before site.rest next)))
  stack_steps after reply falling r locals replies =
      ends-bind (λ next now. AllAre (IsHeld site.facts) after.stack next × (now.store ≡ site.state.store)) (λ place next. LeadsOn site after place next.store) (ThrowsFrom site.facts site.state.store) (outside site.headers reply site.state) (λ next. Is (Before site.rest next))
      (outside-comes site.facts site.headers (AllAre (IsHeld site.facts) after.stack) reply replies site.state)
      (λ next now held. behind falling (record { on_stack = held.0; in_locals = subst (AreLocals site.facts after.locals) (sym held.1) locals; room = subst (λ store. site.code.max_locals ≤ length store) (sym held.1) r.describes.room }))

  -- an instruction that takes and gives values
  pub strict_steps : {work : Work} (wants : List Want) (gives : Option Tag) (tags : List Tag) (after : Working) (count : ℕ) (operation : List Value → Reply (Option Value)) → site.falls ≡ true → Ready site work → count ≡ length wants → Meets site.facts wants tags site.stack → after.stack ≡ effects.pushed gives tags → AreLocals site.facts after.locals site.state.store
      → ((operands : List Value) → AllAre (IsMeant site.facts) (onto wants []) operands → Replies site.facts site.headers (IsGiven site.facts gives) (operation operands)) → Steps site after (does site (Strict count operation))
  strict_steps wants gives tags after count operation falling r many meet is locals h =
      stack_steps after (strict count operation site.stack) falling r locals
      (subst (λ list. Replies site.facts site.headers (AllAre (IsHeld site.facts) list) (strict count operation site.stack)) (sym is) (strict_replies site.facts site.headers wants gives count operation many meet h))

  -- one whose work is just that
  pub plain_steps : (wants : List Want) (gives : Option Tag) (count : ℕ) (operation : List Value → Reply (Option Value)) → site.falls ≡ true → count ≡ length wants → Ready site (Plain wants gives)
      → ((operands : List Value) → AllAre (IsMeant site.facts) (onto wants []) operands → Replies site.facts site.headers (IsGiven site.facts gives) (operation operands)) → Does site (Plain wants gives) (Strict count operation)
  plain_steps wants gives count operation falling many r h =
      strict_steps wants gives (under wants site.frame.stack) (effect site.code site.pc (Plain wants gives) site.frame) count operation falling r many (meets r.kept r.operands r.describes.on_stack) refl r.describes.in_locals h

  pub plain_none : (gives : Option Tag) (operation : List Value → Reply (Option Value)) → site.falls ≡ true → Ready site (Plain [] gives) → Replies site.facts site.headers (IsGiven site.facts gives) (operation []) → Does site (Plain [] gives) (Strict 0 operation)
  plain_none gives operation falling r h = plain_steps [] gives 0 operation falling refl r none_there
    where
      none_there : (operands : List Value) → AllAre (IsMeant site.facts) [] operands → Replies site.facts site.headers (IsGiven site.facts gives) (operation operands)
      none_there operands none = h

  pub plain_one : (want : Want) (gives : Option Tag) (operation : List Value → Reply (Option Value)) → site.falls ≡ true → Ready site (Plain (want ∷ []) gives) → ((value : Value) → IsMeant site.facts want value → Replies site.facts site.headers (IsGiven site.facts gives) (operation (value ∷ [])))
      → Does site (Plain (want ∷ []) gives) (Strict 1 operation)
  plain_one want gives operation falling r h = plain_steps (want ∷ []) gives 1 operation falling refl r one_there
    where
      one_there : (operands : List Value) → AllAre (IsMeant site.facts) (want ∷ []) operands → Replies site.facts site.headers (IsGiven site.facts gives) (operation operands)
      one_there operands (more {other = value} is none) = h value is

  -- the wanted are the top one and the one below it, the operands in the other order
  pub plain_two : (upper lower : Want) (gives : Option Tag) (operation : List Value → Reply (Option Value)) → site.falls ≡ true → Ready site (Plain (upper ∷ lower ∷ []) gives) → ((first second : Value) → IsMeant site.facts lower first → IsMeant site.facts upper second → Replies site.facts site.headers (IsGiven site.facts gives) (operation (first ∷ second ∷ [])))
      → Does site (Plain (upper ∷ lower ∷ []) gives) (Strict 2 operation)
  plain_two upper lower gives operation falling r h = plain_steps (upper ∷ lower ∷ []) gives 2 operation falling refl r two_there
    where
      two_there : (operands : List Value) → AllAre (IsMeant site.facts) (lower ∷ upper ∷ []) operands → Replies site.facts site.headers (IsGiven site.facts gives) (operation operands)
      two_there operands (more {other = first} is (more {other = second} also none)) = h first second is also

  pub plain_three : (upper middle lower : Want) (gives : Option Tag) (operation : List Value → Reply (Option Value)) → site.falls ≡ true → Ready site (Plain (upper ∷ middle ∷ lower ∷ []) gives)
      → ((first second third : Value) → IsMeant site.facts lower first → IsMeant site.facts middle second → IsMeant site.facts upper third → Replies site.facts site.headers (IsGiven site.facts gives) (operation (first ∷ second ∷ third ∷ [])))
      → Does site (Plain (upper ∷ middle ∷ lower ∷ []) gives) (Strict 3 operation)
  plain_three upper middle lower gives operation falling r h = plain_steps (upper ∷ middle ∷ lower ∷ []) gives 3 operation falling refl r three_there
    where
      three_there : (operands : List Value) → AllAre (IsMeant site.facts) (lower ∷ middle ∷ upper ∷ []) operands → Replies site.facts site.headers (IsGiven site.facts gives) (operation operands)
      three_there operands (more {other = first} is (more {other = second} also (more {other = third} too none))) = h first second third is also too

  -- a shuffle
  pub moves_steps : (forms : List Form) → site.falls ≡ true → are_lawful forms ≡ true → Ready site (Moves forms) → Does site (Moves forms) (MovesBy (map as_moved forms))
  moves_steps forms falling lawful r =
      stack_steps (effect site.code site.pc (Moves forms) site.frame) (there (shuffled (map as_moved forms) site.stack)) falling r r.describes.in_locals (moves_replies site.facts site.headers forms lawful r.operands r.describes.on_stack)

  -- a local that is pushed
  pub loads_steps : (of : Kind) (slot : ℕ) → site.falls ≡ true → Ready site (Loads of slot) → Does site (Loads of slot) (LoadsAs (of_kind of) slot)
  loads_steps of slot falling r =
      let after : Working = effect site.code site.pc (Loads of slot) site.frame in
      let local : Option Value = slice_index_or site.state.store slot None in
      let reply : Reply Value = then_on (there local) (of_kind of) in
      let Held : Value → Type 0 = λ value. IsHeld site.facts (or_top (slice_get site.frame.locals slot)) value in
      let found = local_there of (slice_get site.frame.locals slot) local r.operands.1 (r.describes.in_locals slot) in
      let kept : or_top (slice_get site.frame.locals slot) ≡ found.0 = ap or_top found.2 in
      let given : Replies site.facts site.headers (λ value. IsHeld site.facts found.0 value) (of_kind of found.1) = kind_replies r.kept of found.0 found.4 found.5 in
      let replies : Replies site.facts site.headers Held reply = subst (λ o. Replies site.facts site.headers Held (then_on (there o) (of_kind of))) (sym found.3) (subst (λ t. Replies site.facts site.headers (λ value. IsHeld site.facts t value) (of_kind of found.1)) (sym kept) given) in
      ends-bind (λ value now. Held value × (now.store ≡ site.state.store)) (λ place next. LeadsOn site after place next.store) (ThrowsFrom site.facts site.state.store) (outside site.headers reply site.state) (λ value. Is (Before site.rest (value ∷ site.stack)))
      (outside-comes site.facts site.headers Held reply replies site.state)
      (λ value now held. behind falling (record {
        on_stack = more held.0 r.describes.on_stack;
        in_locals = subst (AreLocals site.facts site.frame.locals) (sym held.1) r.describes.in_locals;
        room = subst (λ store. site.code.max_locals ≤ length store) (sym held.1) r.describes.room;
      }))

  -- what is written to a local, with a stack
  written_steps : {work : Work} (after : Working) (slot : ℕ) (reply : Reply (Value × List Value)) (P : Value × List Value → Type 0) → site.falls ≡ true → Ready site work → Replies site.facts site.headers P reply → ((given : Value × List Value) → P given → Describes site.facts site.code after given.1 (slice_set site.state.store slot (Some given.0)))
      → Steps site after (bind (outside site.headers reply site.state) (written local_slots slot site.rest))
  written_steps after slot reply P falling r replies h =
      ends-bind (λ given now. P given × (now.store ≡ site.state.store)) (λ place next. LeadsOn site after place next.store) (ThrowsFrom site.facts site.state.store) (outside site.headers reply site.state) (written local_slots slot site.rest)
      (outside-comes site.facts site.headers P reply replies site.state)
      (λ given now held. behind falling (subst (λ store. Describes site.facts site.code after given.1 (slice_set store slot (Some given.0))) (sym held.1) (h given held.0)))

  -- a value that is stored
  pub stores_steps : (of : Kind) (slot : ℕ) → site.falls ≡ true → Ready site (Stores of slot) → Does site (Stores of slot) (StoresAs (of_kind of) slot)
  stores_steps of slot falling r = go site.frame.stack site.stack r.operands r.describes.on_stack
    where
      within : slot < length site.state.store
      within = slot_within site.code.max_locals slot (length site.state.store) of r.writes r.describes.room

      go : (tags : List Tag) (values : List Value) → IsSomeAnd (slice_get tags 0) (HasKind of) → AllAre (IsHeld site.facts) tags values
          → Steps site (record { locals = effects.stored slot (or_top (slice_get tags 0)) site.frame.locals; stack = drop 1 tags; unborn_this = site.frame.unborn_this }) (bind (outside site.headers (then_on (topmost values) (λ top. then_on (of_kind of top.0) (λ value. Gives (value, top.1)))) site.state) (written local_slots slot site.rest))
      go [] values has are = absurd has
      go (first ∷ tags) [] has are = elim are [ ]
      go (first ∷ tags) (value ∷ values) has (more held are) =
          let after : Working = record { locals = effects.stored slot first site.frame.locals; stack = tags; unborn_this = site.frame.unborn_this } in
          written_steps after slot (then_on (of_kind of value) (λ kept. Gives (kept, values))) (λ given. IsHeld site.facts first given.0 × (given.1 ≡ values)) falling r
          (replies-then site.facts site.headers (λ kept. IsHeld site.facts first kept) (λ given. IsHeld site.facts first given.0 × (given.1 ≡ values)) (of_kind of value) (λ kept. Gives (kept, values)) (kind_replies r.kept of first has held) (λ kept is. (is, refl)))
          (λ given is. record {
            on_stack = subst (AllAre (IsHeld site.facts) tags) (sym is.1) are;
            in_locals = stored_locals slot site.frame.locals site.state.store within is.0 r.describes.in_locals;
            room = subst (λ n. site.code.max_locals ≤ n) (sym (length-set site.state.store slot (Some given.0))) r.describes.room;
          })

  -- an int in a local that is added to
  pub counts_steps : (slot : ℕ) (by : ℤ) → site.falls ≡ true → Ready site (Counts slot) → Does site (Counts slot) (CountsBy slot by)
  counts_steps slot by falling r =
      let local : Option Value = slice_index_or site.state.store slot None in
      let next : ℤ → Reply (Value × List Value) = λ number. Gives (Int (int_wrapping_add w32 number by), site.stack) in
      let P : Value × List Value → Type 0 = λ given. IsHeld site.facts tag.Int given.0 × (given.1 ≡ site.stack) in
      let here : IsLocal site.facts tag.Int local = subst (λ found. IsLocal site.facts (or_top found) local) r.operands.1 (r.describes.in_locals slot) in
      let within : slot < length site.state.store = let a = r.operands.0 in let b = r.describes.room in omega arith in
      written_steps site.frame slot (then_on (there local) (λ value. with_int value next)) P falling r
      (there_int P (λ value. with_int value next) here (λ value held. int_replies r.kept P next held (λ number. (int, refl))))
      (λ given is. record {
        on_stack = subst (AllAre (IsHeld site.facts) site.frame.stack) (sym is.1) r.describes.on_stack;
        in_locals = counted_locals slot site.frame.locals site.state.store within r.operands.1 is.0 r.describes.in_locals;
        room = subst (λ n. site.code.max_locals ≤ n) (sym (length-set site.state.store slot (Some given.0))) r.describes.room;
      })
    where
      there_int : {A : Type 0} (P : A → Type 0) (next : Value → Reply A) {local : Option Value} → IsLocal site.facts tag.Int local → ((value : Value) → IsHeld site.facts tag.Int value → Replies site.facts site.headers P (next value)) → Replies site.facts site.headers P (then_on (there local) next)
      there_int P next (known {value = value} held) h = h value held

  -- a jump that takes values
  pub jump_steps : (wants : List Want) (count : ℕ) (choice : List Value → Reply (Option ℕ)) → count ≡ length wants → Ready site (Plain wants None) → ((operands : List Value) → AllAre (IsMeant site.facts) (onto wants []) operands → Replies site.facts site.headers (CanLead site) (choice operands))
      → Does site (Plain wants None) (Leads count choice)
  jump_steps wants count choice many r h =
      let after : Working = effect site.code site.pc (Plain wants None) site.frame in
      let P : Option ℕ × List Value → Type 0 = λ led. CanLead site led.0 × AllAre (IsHeld site.facts) (under wants site.frame.stack) led.1 in
      ends-bind (λ led now. P led × (now.store ≡ site.state.store)) (λ place next. LeadsOn site after place next.store) (ThrowsFrom site.facts site.state.store) (outside site.headers (jumped count choice site.stack) site.state) (λ led. Is (led_to site.code.instructions site.rest led))
      (outside-comes site.facts site.headers P (jumped count choice site.stack) (jumped_replies site.facts site.headers wants (CanLead site) count choice many (meets r.kept r.operands r.describes.on_stack) h) site.state)
      (λ led now held. leads led.0 led.1 now held.0.0 (record { on_stack = held.0.1; in_locals = subst (AreLocals site.facts site.frame.locals) (sym held.1) r.describes.in_locals; room = subst (λ store. site.code.max_locals ≤ length store) (sym held.1) r.describes.room }))
    where
      leads : (led : Option ℕ) (values : List Value) (now : State Locals) → CanLead site led → Describes site.facts site.code (effect site.code site.pc (Plain wants None) site.frame) values now.store → LeadsOn site (effect site.code site.pc (Plain wants None) site.frame) (led_to site.code.instructions site.rest (led, values)) now.store
      leads None values now may describes = behind may describes
      leads (Some target) values now may describes = jump target may describes

  -- a return
  pub returns_steps : {work : Work} (after : Working) (gives : Option JType → List Value → Reply (Option Value)) → Ready site work → Replies site.facts site.headers Any (gives (result_of site.code.descriptor) site.stack) → Steps site after (does site (Returns gives))
  returns_steps after gives r replies =
      ends-bind (λ value now. Any value × (now.store ≡ site.state.store)) (λ place next. LeadsOn site after place next.store) (ThrowsFrom site.facts site.state.store) (outside site.headers (gives (result_of site.code.descriptor) site.stack) site.state) (λ value. Is (Returned value))
      (outside-comes site.facts site.headers Any (gives (result_of site.code.descriptor) site.stack) replies site.state) (λ value now held. out)

  -- an instruction that only throws
  pub throws_steps : (want : Want) (operation : List Value → Reply (Option Value)) (after : Working) → Ready site (Plain (want ∷ []) None) → ((value : Value) → IsMeant site.facts want value → Replies site.facts site.headers (λ given. ⊥) (operation (value ∷ []))) → Steps site after (does site (Strict 1 operation))
  throws_steps want operation after r h =
      ends-bind (λ next now. ⊥ × (now.store ≡ site.state.store)) (λ place next. LeadsOn site after place next.store) (ThrowsFrom site.facts site.state.store) (outside site.headers (strict 1 operation site.stack) site.state) (λ next. Is (Before site.rest next))
      (outside-comes site.facts site.headers (λ next. ⊥) (strict 1 operation site.stack)
      (taken_replies site.facts site.headers (λ next. ⊥) (λ operands below. then_on (operation operands) (λ given. Gives (pushed below given))) [] [] (meets r.kept r.operands r.describes.on_stack) none one_there) site.state)
      (λ next now held. absurd held.0)
    where
      one_there : (operands below : List Value) → AllAre (IsMeant site.facts) (want ∷ []) operands → AllAre (IsHeld site.facts) (under (want ∷ []) site.frame.stack) below → Replies site.facts site.headers (λ next. ⊥) (then_on (operation operands) (λ given. Gives (pushed below given)))
      one_there operands below (more {other = value} is none) are = replies-then site.facts site.headers (λ given. ⊥) (λ next. ⊥) (operation (value ∷ [])) (λ given. Gives (pushed below given)) (h value is) (λ given never. absurd never)
