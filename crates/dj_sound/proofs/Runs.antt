-- From a state that the frame before an instruction describes, no run of typed code is stuck.
use Rattle.std.proofs.Common.{◌≡◌, ◌≢◌, ℕ, zero, suc, ◌<◌, ◌≤◌, ◌==◌, ◌&&◌, nat_le, nat_lt, Bool, true, false, List, [], ◌∷◌, length, drop, All, Option, Some, None, IsSome, IsSomeAnd, IfSome, refl, sym, ap, ◌∙◌, subst, arith}
use Rattle.std.specs.Prelude.{if◌then◌else◌, slice_get}
use Rattle.std.specs.List.{Contains}
use Rattle.std.proofs.lemmas.Bool.{false≢true, and_parts}
use Rattle.std.proofs.lemmas.Bool.Decides.{Decides-eqb, nat_tests}
use Rattle.std.proofs.lemmas.List.Elements.{All-head, All-tail, All-contains}
use Rattle.dj_names.specs.declared.header.Header.{Header}
use Rattle.dj_names.specs.Types.{JType, Class, Array}
use Rattle.dj_names.specs.Headers.{Name}
use Rattle.dj_names.specs.Assignable.{IsReference, IsSubtype, parent}
use Rattle.dj_values.specs.Values.{RefValue, Value, Ref}
use Rattle.dj_values.specs.Fits.{throwable_name, IsThrowable}
use Rattle.dj_values.specs.Deciding.{is_instance}
use Rattle.dj_values.proofs.Deciding.{Decides-subclass}
use Rattle.dj_values.specs.Outcomes.{Throws, More, Stuck, State, Outcome, Is, Stops, opening}
use Rattle.dj_class.specs.Described.{MethodOf, ClassOf}
use Rattle.dj_instructions.proofs.ListingReading.{no_listing}
use Rattle.dj_instructions.specs.Instructions.{Instruction, Instructions, instruction_at}
use Rattle.dj_frames.specs.Frames as tag
use Rattle.dj_code.specs.declared.method_code.Handler.{Handler}
use Rattle.dj_code.specs.MethodCode.{Code, Typed}
use Rattle.dj_code.specs.ReadCode.{SpellsCode}
use Rattle.dj_code.specs.Targets.{IsStart, targets_of}
use Rattle.dj_tags.specs.Goes.{Assignability, Working, FrameGoes}
use Rattle.dj_tags.specs.Laxly.{Laxly, Strictly}
use Rattle.dj_effects.specs.Rows.{work}
use Rattle.dj_effects.specs.Works.{Want}
use Rattle.dj_effects.specs.Operands.{AreWanted, HasOperands, under}
use Rattle.dj_effects.specs.Effects.{locals_needed}
use Rattle.dj_bytecode.specs.Meanings.{meaning_of}
use Rattle.dj_bytecode.specs.Machine.{Locals, local_slots, Place, Before, Returned, code_from, step, step_first, takes, handler_for, caught, pc_of, onward, steps, first_locals}
use Rattle.dj_bytecode.specs.SameShows.{AreArgumentsOf}
use Rattle.dj_verify.specs.declared.rule.Rule.TheVariants as rule
use Rattle.dj_verify.specs.Rules as rules_of
use Rattle.dj_verify.specs.Rules.{entry, given, falls, Reaches, caught_class, thrown_frame, HandlerTakes, Covers, effect_at, FrameKeeps}
use Rattle.dj_verify.specs.Table.{or_else, frame_at, flow_behind, Keeps, KeepsAll, rules, AreFrames}
use Rattle.dj_verify.specs.Verified.{IsTyped}
use Rattle.dj_loaded.specs.Loaded.{HasCore, IsInstanceOf}
use Rattle.dj_loaded.proofs.Paths.{subclass-above}
use Rattle.dj_loaded.proofs.Roots.{roots}
use Rattle.dj_loaded.proofs.Going.{throwable}
use Rattle.dj_typed_states.specs.Facts.{Facts, IsThrown, AreKept, shapes, classes}
use Rattle.dj_typed_states.specs.Held.{IsHeld, no_object, object, none, more, Describes}
use Rattle.dj_typed_states.specs.Wanted.{Meets, GoesAs}
use Rattle.dj_typed_states.proofs.Replies.{Ends, ends-bind, ThrowsFrom}
use Rattle.dj_typed_states.proofs.Shaped.{shapes_kept, describes_shaped}
use Rattle.dj_typed_states.proofs.Classed.{classes_kept}
use Rattle.dj_typed_states.proofs.Holding.{lax_shape, frame_goes}
use Rattle.dj_typed_states.proofs.Taking.{meets}
use Rattle.dj_typed_states.proofs.Stepping.{Site, LeadsOn, behind, jump, out}
use Rattle.dj_sound.specs.States.{table_of, Stands, StandsAt, StepsWell, RunsStrictly}
use Rattle.dj_sound.specs.Runs.{IsStuck, run, NeverGoesWrong}
use Rattle.dj_sound.proofs.Instructions.{work_steps}
use Rattle.dj_sound.proofs.Starts.{entry_describes}

-- ---- a place that keeps the rules, with its frame

record Kept (Goes : Assignability) (world : List Header) (code : Code) (place : rules_of.Place) (frame : Working) : Type 0 where
  into : IfSome (given code place.pc) (λ other. IfSome place.flow (λ flow. FrameGoes Goes flow other))
  operands : HasOperands Goes world code place.pc (work code place.instruction) frame
  writes : locals_needed (work code place.instruction) ≤ code.max_locals
  targets : All (Reaches Goes code (effect_at code place frame)) (targets_of place.instruction)
  handlers : All (λ handler. Covers handler place.pc → HandlerTakes Goes code frame handler) code.handlers
  past : falls place.instruction ≡ true → place.rest ≡ [] → ⊥

at_frame : (found : Option Working) (frame : Working) (P : Working → Type 0) → found ≡ Some frame → IfSome found P → P frame
at_frame found frame P is h = subst (λ o. IfSome o P) is h

rules_kept : (Goes : Assignability) (world : List Header) (code : Code) (place : rules_of.Place) (frame : Working) → frame_at code place ≡ Some frame → KeepsAll (Keeps Goes world code place) rules → Kept Goes world code place frame
rules_kept Goes world code place frame is (no_frame, (into, (operands, (room, (targets, (handlers, (past, nothing))))))) =
    let at = at_frame (frame_at code place) frame in
    record {
      into = into;
      operands = at (λ f. FrameKeeps Goes world code place f rule.Operands) is operands;
      writes = (at (λ f. FrameKeeps Goes world code place f rule.Room) is room).2;
      targets = at (λ f. FrameKeeps Goes world code place f rule.Target) is targets;
      handlers = at (λ f. FrameKeeps Goes world code place f rule.Handler) is handlers;
      past = at (λ f. FrameKeeps Goes world code place f rule.Past) is past;
    }

-- ---- places of the table

-- a frame of the table with what is known of it: its instruction and those behind it, each with its frame
record FrameAt (Goes : Assignability) (world : List Header) (code : Code) (place : ℕ) (part : Instructions) (frames : List Working) (frame : Working) : Type 0 where
  flow : Option Working
  others : List Working
  are : AreFrames Goes world code flow (drop place part) (frame ∷ others)
  many : suc (length others) ≡ length (drop place part)
  next : (other : Working) (rest : List Working) → others ≡ other ∷ rest → slice_get frames (suc place) ≡ Some other

-- the first instruction at an offset, with its frame
record Found (code : Code) (pc : ℕ) (part : Instructions) (frames : List Working) : Type 0 where
  place : ℕ
  here : drop place part ≡ code_from pc part
  frame : Working
  there : slice_get frames place ≡ Some frame
  flow : Option Working
  at : or_else (given code pc) flow ≡ Some frame

first_there : (frames : List Working) (other : Working) (rest : List Working) → frames ≡ other ∷ rest → slice_get frames 0 ≡ Some other
first_there frames other rest is = ap (λ list. slice_get list 0) is

drop_next : (place : ℕ) (list : Instructions) (first : ℕ × Instruction) (rest : Instructions) → drop place list ≡ first ∷ rest → drop (suc place) list ≡ rest
drop_next zero [] first rest is = absurd (cc)
drop_next (suc place) [] first rest is = absurd (cc)
drop_next zero (head ∷ tail) first rest is = cc
drop_next (suc place) (head ∷ tail) first rest is = drop_next place tail first rest is

-- an instruction that others stand behind is one of them
drop_contains : (place : ℕ) (list : Instructions) (first : ℕ × Instruction) (rest : Instructions) → drop place list ≡ first ∷ rest → Contains list first
drop_contains zero [] first rest is = absurd (cc)
drop_contains (suc place) [] first rest is = absurd (cc)
drop_contains zero (head ∷ tail) first rest is = (0, omega arith, let same : head ≡ first = cc in same)
drop_contains (suc place) (head ∷ tail) first rest is = let later = drop_contains place tail first rest is in (suc later.0, omega (arith, later.1), later.2)

same_some : {A : Type 0} (first second : A) → Some first ≡ Some second → first ≡ second
same_some first second is = cc

module _ {Goes : Assignability} {headers : List Header} {code : Code} {facts : Facts} (kept : AreKept Goes headers code facts) (world : List Header) where
  -- what flows in is described by the frame there
  flown : (flowing frame : Working) (other : Option Working) (stack : List Value) (locals : Locals) → or_else other (Some flowing) ≡ Some frame → IfSome other (λ o. FrameGoes Goes flowing o) → Describes facts code flowing stack locals → Describes facts code frame stack locals
  flown flowing frame None stack locals is goes describes = subst (λ f. Describes facts code f stack locals) (same_some flowing frame is) describes
  flown flowing frame (Some other) stack locals is goes describes = subst (λ f. Describes facts code f stack locals) (same_some other frame is) (frame_goes kept code flowing other stack locals goes describes)

  -- and what reaches a given one
  reached : (reaching frame : Working) (other flow : Option Working) (stack : List Value) (locals : Locals) → or_else other flow ≡ Some frame → IsSomeAnd other (FrameGoes Goes reaching) → Describes facts code reaching stack locals → Describes facts code frame stack locals
  reached reaching frame None flow stack locals is goes describes = absurd goes
  reached reaching frame (Some other) flow stack locals is goes describes = subst (λ f. Describes facts code f stack locals) (same_some other frame is) (frame_goes kept code reaching other stack locals goes describes)

  frames_at : (place : ℕ) (part : Instructions) (flow : Option Working) (frames : List Working) (frame : Working) → AreFrames Goes world code flow part frames → length frames ≡ length part → slice_get frames place ≡ Some frame → FrameAt Goes world code place part frames frame
  frames_at place part flow [] frame are many is = absurd (cc)
  frames_at place [] flow (head ∷ frames) frame are many is = absurd are
  frames_at zero (first ∷ rest) flow (head ∷ frames) frame are many is = record {
    flow = flow;
    others = frames;
    are = subst (λ f. AreFrames Goes world code flow (first ∷ rest) (f ∷ frames)) (same_some head frame is) are;
    many = many;
    next = first_there frames;
  }
  frames_at (suc place) (first ∷ rest) flow (head ∷ frames) frame are many is =
      let later = frames_at place rest (flow_behind code (record { flow = flow; pc = first.0; instruction = first.1; rest = rest }) head) frames frame are.2 (omega (arith, many)) is in
      record { flow = later.flow; others = later.others; are = later.are; many = later.many; next = later.next }

  find : (pc : ℕ) (part : Instructions) (flow : Option Working) (frames : List Working) → AreFrames Goes world code flow part frames → length frames ≡ length part → IsStart part pc → Found code pc part frames
  find pc [] flow frames are many start = absurd (false≢true start)
  find pc (first ∷ rest) flow [] are many start = absurd (omega (arith, many))
  find pc (first ∷ rest) flow (frame ∷ frames) are many start =
      go (first.0 == pc) refl start (find pc rest (flow_behind code (record { flow = flow; pc = first.0; instruction = first.1; rest = rest }) frame) frames are.2 (omega (arith, many)))
    where
      go : (test : Bool) → first.0 == pc ≡ test → IsSome (if test then Some first.1 else instruction_at rest pc) → (IsStart rest pc → Found code pc rest frames) → Found code pc (first ∷ rest) (frame ∷ frames)
      go true same start later = record {
        place = 0;
        here = rw same refl;
        frame = frame;
        there = refl;
        flow = flow;
        at = subst (λ n. or_else (given code n) flow ≡ Some frame) ((Decides-eqb first.0 pc).0 same) are.0;
      }
      go false other start later =
          let f = later start in
          record { place = suc f.place; here = rw other f.here; frame = f.frame; there = f.there; flow = f.flow; at = f.at }

  module _ (all : List Working) (table : AreFrames Goes world code (Some (entry code)) code.instructions all) (as_many : length all ≡ length code.instructions) where
    -- behind an instruction, with what flows out of it
    stands_behind : (place : ℕ) (flow : Option Working) (after : Working) (rest : Instructions) (frames : List Working) (stack : List Value) (locals : Locals) → drop place code.instructions ≡ rest → ((other : Working) (others : List Working) → frames ≡ other ∷ others → slice_get all place ≡ Some other)
        → flow ≡ Some after → AreFrames Goes world code flow rest frames → length frames ≡ length rest → (rest ≡ [] → ⊥) → Describes facts code after stack locals → Stands facts code all rest stack locals
    stands_behind place flow after [] frames stack locals here there is are many past describes = absurd (past refl)
    stands_behind place flow after (next ∷ later) [] stack locals here there is are many past describes = absurd (omega (arith, many))
    stands_behind place flow after (next ∷ later) (frame ∷ frames) stack locals here there is are many past describes =
        let at : rules_of.Place = record { flow = Some after; pc = next.0; instruction = next.1; rest = later } in
        let mine : AreFrames Goes world code (Some after) (next ∷ later) (frame ∷ frames) = subst (λ f. AreFrames Goes world code f (next ∷ later) (frame ∷ frames)) is are in
        let k = rules_kept Goes world code at frame mine.0 mine.1 in
        record { place = place; here = here; frame = frame; there = there frame frames refl; describes = flown after frame (given code next.0) stack locals mine.0 k.into describes }

    -- where a frame reaches
    stands_at : (reaching : Working) (pc : ℕ) (stack : List Value) (locals : Locals) → Reaches Goes code reaching pc → Describes facts code reaching stack locals → Stands facts code all (code_from pc code.instructions) stack locals
    stands_at reaching pc stack locals reaches describes =
        let f = find pc code.instructions (Some (entry code)) all table as_many reaches.instruction in
        record { place = f.place; here = f.here; frame = f.frame; there = f.there; describes = reached reaching f.frame (given code pc) f.flow stack locals f.at reaches.given describes }

    -- ---- exceptions

    -- a class that the headers say to be below another goes there
    instance_goes : (type : JType) (upper : Name) → is_instance headers type upper ≡ true → IsSubtype headers type (Class upper)
    instance_goes (Class class) upper is = parent (subclass-above ((Decides-subclass headers class upper).0 is))
    instance_goes (Array element) upper is = absurd (false≢true is)
    instance_goes type upper is = absurd (false≢true is)

    -- what a handler takes is of the class that it names
    caught_fact : (pc : ℕ) (reference : RefValue) (handler : Handler) → takes headers pc reference handler ≡ true → IsThrown facts reference → facts.of (Class (caught_class handler.class)) reference
    caught_fact pc reference handler taken thrown = by handler.class taken
      where
        by : (class : Option Name) → takes headers pc reference (record handler { class = class }) ≡ true → facts.of (Class (caught_class class)) reference
        by None taken = thrown
        by (Some class) taken = kept.cast (Class throwable_name) (Class class) reference thrown (instance_goes reference.class class (and_parts (nat_le handler.start pc && nat_lt pc handler.end) (is_instance headers reference.class class) taken).1)

    -- the frame that a handler begins with
    record IsHandled (reference : RefValue) (frame : Working) (target : ℕ) : Type 0 where
      class : Option Name
      caught : facts.of (Class (caught_class class)) reference
      reaches : Reaches Goes code (thrown_frame class frame) target

    handled : (pc : ℕ) (reference : RefValue) → IsThrown facts reference → (frame : Working) (handlers : List Handler) (target : ℕ) → All (λ handler. Covers handler pc → HandlerTakes Goes code frame handler) handlers → handler_for headers pc reference handlers ≡ Some target → IsHandled reference frame target
    handled pc reference thrown frame [] target all is = absurd (cc)
    handled pc reference thrown frame (first ∷ handlers) target all is =
        go (takes headers pc reference first) refl is (handled pc reference thrown frame handlers target (All-tail (λ handler. Covers handler pc → HandlerTakes Goes code frame handler) first handlers all))
      where
        go : (test : Bool) → takes headers pc reference first ≡ test → (if test then Some first.target else handler_for headers pc reference handlers) ≡ Some target → (handler_for headers pc reference handlers ≡ Some target → IsHandled reference frame target) → IsHandled reference frame target
        go true test same later =
            let from : first.start ≤ pc = grind (arith, nat_tests) in
            let to : pc < first.end = grind (arith, nat_tests) in
            let taken = All-head (λ handler. Covers handler pc → HandlerTakes Goes code frame handler) first handlers all (record { from = from; to = to }) in
            record { class = first.class; caught = caught_fact pc reference first test thrown; reaches = subst (Reaches Goes code (thrown_frame first.class frame)) (same_some first.target target same) taken.reaches }
        go false test same later = later same

    thrown_describes : (class : Option Name) (frame : Working) (stack : List Value) (locals : Locals) (reference : RefValue) → facts.of (Class (caught_class class)) reference → Describes facts code frame stack locals → Describes facts code (thrown_frame class frame) (Ref reference ∷ []) locals
    thrown_describes class frame stack locals reference is describes = record { on_stack = more (object is) none; in_locals = describes.in_locals; room = describes.room }

    -- a handler in whose range an instruction is, with what may be thrown there
    handler_stands : (first : ℕ × Instruction) (rest : Instructions) (stack : List Value) (locals : Locals) → Stands facts code all (first ∷ rest) stack locals → (handler : Handler) → Contains code.handlers handler → Covers handler first.0
        → (reference : RefValue) → facts.of (Class (caught_class handler.class)) reference → Stands facts code all (code_from handler.target code.instructions) (Ref reference ∷ []) locals
    handler_stands first rest stack locals stands handler has covers reference is =
        let at = frames_at stands.place code.instructions (Some (entry code)) all stands.frame table as_many stands.there in
        let are : AreFrames Goes world code at.flow (first ∷ rest) (stands.frame ∷ at.others) = subst (λ part. AreFrames Goes world code at.flow part (stands.frame ∷ at.others)) stands.here at.are in
        let k = rules_kept Goes world code (record { flow = at.flow; pc = first.0; instruction = first.1; rest = rest }) stands.frame are.0 are.1 in
        let takes = All-contains (λ handler. Covers handler first.0 → HandlerTakes Goes code stands.frame handler) code.handlers handler k.handlers has covers in
        stands_at (thrown_frame handler.class stands.frame) handler.target (Ref reference ∷ []) locals takes.reaches (thrown_describes handler.class stands.frame stack locals reference is stands.describes)

    -- an outcome of an instruction, and the handler of what it throws
    caught_well : (pc : ℕ) (frame : Working) (stack : List Value) (locals : Locals) (Leads : Place → Locals → Type 0) → ((place : Place) (now : Locals) → Leads place now → StandsAt facts code all place now) → All (λ handler. Covers handler pc → HandlerTakes Goes code frame handler) code.handlers → Describes facts code frame stack locals
        → (outcome : Outcome Locals Place) → Ends (λ place next. Leads place next.store) (ThrowsFrom facts locals) outcome → StepsWell facts code all (caught headers code pc outcome)
    caught_well pc frame stack locals Leads f handlers describes (Is place state) h = f place state.store h
    caught_well pc frame stack locals Leads f handlers describes (Stops More state) h = tt
    caught_well pc frame stack locals Leads f handlers describes (Stops Stuck state) h = h
    caught_well pc frame stack locals Leads f handlers describes (Stops (Throws reference) state) h = go (handler_for headers pc reference code.handlers) refl
      where
        go : (found : Option ℕ) → handler_for headers pc reference code.handlers ≡ found → StepsWell facts code all (caught headers code pc (Stops (Throws reference) state))
        go None is = rw is h.0
        go (Some target) is =
            let handler = handled pc reference h.0 frame code.handlers target handlers is in
            let same : Describes facts code frame stack state.store = subst (Describes facts code frame stack) (sym h.1) describes in
            rw is (stands_at (thrown_frame handler.class frame) target (Ref reference ∷ []) state.store handler.reaches (thrown_describes handler.class frame stack state.store reference handler.caught same))

    -- ---- steps

    step_well : (rest : Instructions) (stack : List Value) (state : State Locals) → Stands facts code all rest stack state.store → StepsWell facts code all (caught headers code (pc_of rest) (step_first headers local_slots code rest stack state))
    step_well [] stack state stands =
        let at = frames_at stands.place code.instructions (Some (entry code)) all stands.frame table as_many stands.there in
        absurd (subst (λ part. AreFrames Goes world code at.flow part (stands.frame ∷ at.others)) stands.here at.are)
    step_well (first ∷ rest) stack state stands =
        caught_well first.0 stands.frame stack state.store (LeadsOn site after) leads k.handlers stands.describes (step headers local_slots code (meaning_of headers code.class first.1) rest stack state)
        (work_steps first.1 has refl k.targets (record { operands = k.operands; describes = stands.describes; writes = k.writes; kept = kept }))
      where
        at : FrameAt Goes world code stands.place code.instructions all stands.frame
        at = frames_at stands.place code.instructions (Some (entry code)) all stands.frame table as_many stands.there

        are : AreFrames Goes world code at.flow (first ∷ rest) (stands.frame ∷ at.others)
        are = subst (λ part. AreFrames Goes world code at.flow part (stands.frame ∷ at.others)) stands.here at.are

        has : Contains code.instructions first
        has = drop_contains stands.place code.instructions first rest stands.here

        many : suc (length at.others) ≡ suc (length rest)
        many = at.many ∙ ap length stands.here

        place : rules_of.Place
        place = record { flow = at.flow; pc = first.0; instruction = first.1; rest = rest }

        k : Kept Goes world code place stands.frame
        k = rules_kept Goes world code place stands.frame are.0 are.1

        after : Working
        after = effect_at code place stands.frame

        site : Site
        site = record { facts = facts; Goes = Goes; world = world; headers = headers; code = code; pc = first.0; rest = rest; falls = falls first.1; Target = Reaches Goes code after; frame = stands.frame; stack = stack; state = state }

        leads : (to : Place) (locals : Locals) → LeadsOn site after to locals → StandsAt facts code all to locals
        leads to locals (behind {stack = next} falling describes) =
            stands_behind (suc stands.place) (flow_behind code place stands.frame) after rest at.others next locals (drop_next stands.place code.instructions first rest stands.here) at.next (rw falling refl) are.2 (omega (arith, many)) (k.past falling) describes
        leads to locals (jump {stack = next} target reaches describes) = stands_at after target next locals reaches describes
        leads to locals out = tt

    -- what is asked of the first instruction where a run stands
    asked : (first : ℕ × Instruction) (rest : Instructions) (stack : List Value) (locals : Locals) → (stands : Stands facts code all (first ∷ rest) stack locals) → HasOperands Goes world code first.0 (work code first.1) stands.frame
    asked first rest stack locals stands =
        let at = frames_at stands.place code.instructions (Some (entry code)) all stands.frame table as_many stands.there in
        let are : AreFrames Goes world code at.flow (first ∷ rest) (stands.frame ∷ at.others) = subst (λ part. AreFrames Goes world code at.flow part (stands.frame ∷ at.others)) stands.here at.are in
        let k = rules_kept Goes world code (record { flow = at.flow; pc = first.0; instruction = first.1; rest = rest }) stands.frame are.0 are.1 in
        k.operands

    -- ---- runs

    abbrev Unstuck : Outcome Locals (Option Value) → Type 0
    Unstuck = Ends (λ value next. Unit {0}) (λ reference next. IsThrown facts reference)

    well_ended : (outcome : Outcome Locals Place) → StepsWell facts code all outcome → Ends (λ place next. StandsAt facts code all place next.store) (λ reference next. IsThrown facts reference) outcome
    well_ended (Is place state) h = h
    well_ended (Stops (Throws reference) state) h = h
    well_ended (Stops More state) h = tt
    well_ended (Stops Stuck state) h = h

    onward_well : (go_on : Instructions → List Value → State Locals → Outcome Locals (Option Value)) → ((rest : Instructions) (stack : List Value) (state : State Locals) → Stands facts code all rest stack state.store → Unstuck (go_on rest stack state)) → (place : Place) (state : State Locals) → StandsAt facts code all place state.store → Unstuck (onward go_on place state)
    onward_well go_on h (Before rest stack) state stands = h rest stack state stands
    onward_well go_on h (Returned value) state stands = tt

    runs_well : (bound : ℕ) (rest : Instructions) (stack : List Value) (state : State Locals) → Stands facts code all rest stack state.store → Unstuck (steps headers local_slots code bound rest stack state)
    runs_well zero rest stack state stands = tt
    runs_well (suc bound) rest stack state stands =
        ends-bind (λ place next. StandsAt facts code all place next.store) (λ value next. Unit {0}) (λ reference next. IsThrown facts reference) (caught headers code (pc_of rest) (step_first headers local_slots code rest stack state)) (onward (steps headers local_slots code bound))
        (well_ended (caught headers code (pc_of rest) (step_first headers local_slots code rest stack state)) (step_well rest stack state stands)) (onward_well (steps headers local_slots code bound) (runs_well bound))

-- ---- typed code

module _ {Goes : Assignability} {headers : List Header} {facts : Facts} (world : List Header) (typed : Typed) (kept : AreKept Goes headers typed.code facts) (table : IsTyped Goes world typed) where
  steps_so : (rest : Instructions) (stack : List Value) (state : State Locals) → Stands facts typed.code (table_of typed) rest stack state.store
      → StepsWell facts typed.code (table_of typed) (caught headers typed.code (pc_of rest) (step_first headers local_slots typed.code rest stack state))
  steps_so rest stack state stands = step_well kept world (table_of typed) table.are table.number rest stack state stands

  handlers_so : (first : ℕ × Instruction) (rest : Instructions) (stack : List Value) (locals : Locals) → Stands facts typed.code (table_of typed) (first ∷ rest) stack locals
      → (handler : Handler) → Contains typed.code.handlers handler → Covers handler first.0 → (reference : RefValue) → facts.of (Class (caught_class handler.class)) reference
      → Stands facts typed.code (table_of typed) (code_from handler.target typed.code.instructions) (Ref reference ∷ []) locals
  handlers_so first rest stack locals stands handler has covers reference of = handler_stands kept world (table_of typed) table.are table.number first rest stack locals stands handler has covers reference of

  begins_so : typed.code.instructions ≢ [] → (arguments : List Value) → AreArgumentsOf headers typed.code arguments
      → Stands facts typed.code (table_of typed) typed.code.instructions [] (first_locals typed.code.max_locals arguments)
  begins_so some arguments fit =
      let code = typed.code in
      stands_behind kept world (table_of typed) table.are table.number 0 (Some (entry code)) (entry code) code.instructions (table_of typed) [] (first_locals code.max_locals arguments) refl (first_there (table_of typed)) refl table.are table.number some
      (entry_describes kept arguments fit)

  operands_so : (first : ℕ × Instruction) (rest : Instructions) (stack : List Value) (locals : Locals) → (stands : Stands facts typed.code (table_of typed) (first ∷ rest) stack locals)
      → HasOperands Goes world typed.code first.0 (work typed.code first.1) stands.frame
  operands_so first rest stack locals stands = asked kept world (table_of typed) table.are table.number first rest stack locals stands

-- ---- by shapes

lax_kept : (world headers : List Header) (code : Code) → AreKept (Laxly world) headers code shapes
lax_kept world headers code = shapes_kept (Laxly world) headers code (lax_shape world)

pub steps_well : (world : List Header) (typed : Typed) → IsTyped (Laxly world) world typed → (headers : List Header) (rest : Instructions) (stack : List Value) (state : State Locals) → Stands shapes typed.code (table_of typed) rest stack state.store
    → StepsWell shapes typed.code (table_of typed) (caught headers typed.code (pc_of rest) (step_first headers local_slots typed.code rest stack state))
steps_well world typed table headers rest stack state stands = steps_so world typed (lax_kept world headers typed.code) table rest stack state stands

pub handlers_stand : (world : List Header) (typed : Typed) → IsTyped (Laxly world) world typed → (first : ℕ × Instruction) (rest : Instructions) (stack : List Value) (locals : Locals) → Stands shapes typed.code (table_of typed) (first ∷ rest) stack locals
    → (handler : Handler) → Contains typed.code.handlers handler → Covers handler first.0 → (reference : RefValue) → IsReference reference.class → Stands shapes typed.code (table_of typed) (code_from handler.target typed.code.instructions) (Ref reference ∷ []) locals
handlers_stand world typed table first rest stack locals stands handler has covers reference is = handlers_so world typed (lax_kept world world typed.code) table first rest stack locals stands handler has covers reference (is, is)

pub stands_first : (world : List Header) (typed : Typed) → typed.code.instructions ≢ [] → IsTyped (Laxly world) world typed → (headers : List Header) (arguments : List Value) → AreArgumentsOf headers typed.code arguments
    → Stands shapes typed.code (table_of typed) typed.code.instructions [] (first_locals typed.code.max_locals arguments)
stands_first world typed some table headers arguments fit = begins_so world typed (lax_kept world headers typed.code) table some arguments fit

-- ---- by classes

module _ (world headers : List Header) (typed : Typed) (runs : RunsStrictly world headers typed) where
  pub strictly_kept : AreKept (Strictly world) headers typed.code (classes headers typed.code)
  strictly_kept = classes_kept world headers typed.code runs.may runs.strict.rising

  pub steps_strictly : (rest : Instructions) (stack : List Value) (state : State Locals) → Stands (classes headers typed.code) typed.code (table_of typed) rest stack state.store
      → StepsWell (classes headers typed.code) typed.code (table_of typed) (caught headers typed.code (pc_of rest) (step_first headers local_slots typed.code rest stack state))
  steps_strictly rest stack state stands = steps_so world typed strictly_kept runs.strict.table rest stack state stands

  pub handlers_strictly : (first : ℕ × Instruction) (rest : Instructions) (stack : List Value) (locals : Locals) → Stands (classes headers typed.code) typed.code (table_of typed) (first ∷ rest) stack locals
      → (handler : Handler) → Contains typed.code.handlers handler → Covers handler first.0 → (reference : RefValue) → IsInstanceOf headers (Class (caught_class handler.class)) reference
      → Stands (classes headers typed.code) typed.code (table_of typed) (code_from handler.target typed.code.instructions) (Ref reference ∷ []) locals
  handlers_strictly first rest stack locals stands handler has covers reference of = handlers_so world typed strictly_kept runs.strict.table first rest stack locals stands handler has covers reference of

  pub begins_strictly : typed.code.instructions ≢ [] → (arguments : List Value) → AreArgumentsOf headers typed.code arguments
      → Stands (classes headers typed.code) typed.code (table_of typed) typed.code.instructions [] (first_locals typed.code.max_locals arguments)
  begins_strictly some arguments fit = begins_so world typed strictly_kept runs.strict.table some arguments fit

  pub operands_strictly : (first : ℕ × Instruction) (rest : Instructions) (stack : List Value) (locals : Locals) → (stands : Stands (classes headers typed.code) typed.code (table_of typed) (first ∷ rest) stack locals)
      → HasOperands (Strictly world) world typed.code first.0 (work typed.code first.1) stands.frame
  operands_strictly first rest stack locals stands = operands_so world typed strictly_kept runs.strict.table first rest stack locals stands

  -- the values that are wanted are there
  pub meets_strictly : (rest : Instructions) (stack : List Value) (locals : Locals) → (stands : Stands (classes headers typed.code) typed.code (table_of typed) rest stack locals) → (wants : List Want) → AreWanted (Strictly world) wants stands.frame.stack
      → Meets (classes headers typed.code) wants (under wants stands.frame.stack) stack
  meets_strictly rest stack locals stands wants wanted = meets strictly_kept wanted stands.describes.on_stack

  pub thrown_strictly : HasCore world → (reference : RefValue) → IsThrown (classes headers typed.code) reference → IsThrowable headers reference
  thrown_strictly core reference of = throwable headers (roots world headers core runs.may) reference of

  -- a run that stands by the classes stands by shapes, at the same frame
  abbrev pub stands_shaped : {rest : Instructions} {stack : List Value} {locals : Locals} → Stands (classes headers typed.code) typed.code (table_of typed) rest stack locals → Stands shapes typed.code (table_of typed) rest stack locals
  stands_shaped stands = record { place = stands.place; here = stands.here; frame = stands.frame; there = stands.there; describes = describes_shaped strictly_kept stands.describes }

  pub described_shaped : (rest : Instructions) (stack : List Value) (locals : Locals) → (stands : Stands (classes headers typed.code) typed.code (table_of typed) rest stack locals) → Describes shapes typed.code stands.frame stack locals
  described_shaped rest stack locals stands = describes_shaped strictly_kept stands.describes

-- an object of a type goes there
pub held_goes : (headers : List Header) (code : Code) (to : JType) (value : Value) → IsHeld (classes headers code) (tag.Object to) value → GoesAs headers to value
held_goes headers code to value no_object = tt
held_goes headers code to value (object of) = of.assignable

-- ---- runs

unstuck : (outcome : Outcome Locals (Option Value)) → Ends (λ value next. Unit {0}) (λ reference next. IsThrown shapes reference) outcome → ¬ IsStuck outcome
unstuck (Is value state) h stuck = stuck
unstuck (Stops (Throws reference) state) h stuck = stuck
unstuck (Stops More state) h stuck = stuck
unstuck (Stops Stuck state) h stuck = h

pub never_wrong : (world : List Header) (typed : Typed) → typed.code.instructions ≢ [] → IsTyped (Laxly world) world typed → NeverGoesWrong typed.code
never_wrong world typed some table headers arguments fit answers bound =
    let code = typed.code in
    unstuck (run headers code arguments answers bound)
    (runs_well (lax_kept world headers code) world (table_of typed) table.are table.number bound code.instructions [] (record { store = first_locals code.max_locals arguments; world = opening answers }) (stands_first world typed some table headers arguments fit))

-- code that is read has an instruction, since it has a byte
code_some : (class : ClassOf) (method : MethodOf) (code : Code) → SpellsCode class method code → code.instructions ≢ []
code_some class method code spells empty =
    let no_bytes : length spells.content.code ≡ 0 = no_listing class.pool spells.content.code code.instructions spells.listed empty in
    let least : nat_le 1 (length spells.content.code) && nat_le (length spells.content.code) 65535 ≡ true = spells.has.laid_out.fits.1.1.0.0.1 in
    some_byte (length spells.content.code) least no_bytes
  where
    some_byte : (bytes : ℕ) → nat_le 1 bytes && nat_le bytes 65535 ≡ true → bytes ≡ 0 → ⊥
    some_byte zero least is = false≢true least
    some_byte (suc bytes) least is = absurd (omega arith)

pub read_never_wrong : (world : List Header) (class : ClassOf) (method : MethodOf) (typed : Typed) → SpellsCode class method typed.code → IsTyped (Laxly world) world typed → NeverGoesWrong typed.code
read_never_wrong world class method typed spells = never_wrong world typed (code_some class method typed.code spells)
