-- A whole method of five instructions meets all that is asked of its code and of what rebuilding rests on: `static void f(int a, int b) { b = a - b; }`.
use Rattle.std.proofs.Common.{◌≡◌, ℕ, zero, suc, ◌==◌, Bool, true, false, List, [], ◌∷◌, ◌++◌, drop, length, Contains, All, get_or, Option, Some, None, IsSome, codes, inl, inr, refl, sym, ap, ◌∙◌, subst, arith}
use Rattle.std.specs.Prelude.{if◌then◌else◌, slice_get, ◌&&◌}
use Rattle.std.proofs.lemmas.List.Elements.{Contains-get_or}
use Rattle.dj_names.specs.declared.header.Header.{Header}
use Rattle.dj_names.specs.Types as types
use Rattle.dj_names.specs.Assignable.{IsReference}
use Rattle.dj_values.specs.Fits.{innermost}
use Rattle.dj_names.specs.Types.{JType, StaticType, Of, Method}
use Rattle.dj_syntax.specs.declared.variable.Var.{Var}
use Rattle.dj_syntax.specs.declared.operator.Op.TheVariants as operator
use Rattle.dj_syntax.specs.Trees as trees
use Rattle.dj_syntax.specs.Trees.{Stms, Empty, And}
use Rattle.dj_values.specs.Values.{Value}
use Rattle.dj_values.specs.Outcomes.{Reply}
use Rattle.dj_instructions.specs.declared.kinds.Calc.TheVariants as calcs
use Rattle.dj_instructions.specs.declared.kinds.Kind.{Kind}
use Rattle.dj_instructions.specs.declared.kinds.Kind.TheVariants as kinds
use Rattle.dj_instructions.specs.Instructions.{Instruction, Instructions, IsRising, Load, Store, Calc, Return, New, InvokeSpecial, Iinc}
use Rattle.dj_frames.specs.Frames as tag
use Rattle.dj_frames.specs.Frames.{Tag, Frame}
use Rattle.dj_code.specs.MethodCode.{Code, Typed}
use Rattle.dj_code.specs.Targets.{IsStart, targets_of, AllJumpRight}
use Rattle.dj_tags.specs.Goes.{Working, reversed}
use Rattle.dj_effects.specs.Rows.{work}
use Rattle.dj_effects.specs.Operands.{HasKind, there, enough}
use Rattle.dj_effects.specs.Effects.{effect, pushed}
use Rattle.dj_starts.specs.Edges as ways_of
use Rattle.dj_starts.specs.Edges.{Reaches}
use Rattle.dj_starts.specs.Starts as begins
use Rattle.dj_starts.specs.Births.{first_role}
use Rattle.dj_starts.specs.Starts.{BeginsBlock, IsBlockStart}
use Rattle.dj_bytecode.specs.Machine.{pc_of, code_from}
use Rattle.dj_bytecode.specs.Meanings.{Strict, meaning_of}
use Rattle.dj_sound.specs.States.{table_of, IsStrict}
use Rattle.dj_members_shown.specs.Suits.{SuitsWell, int}
use Rattle.dj_rebuilding.specs.Pending.{Named, Typed as Operand, fresh}
use Rattle.dj_rebuilt.specs.Nodes.{is_whole, as_int}
use Rattle.dj_rebuilt.specs.Known.{constant_of, own_nodes}
use Rattle.dj_rebuilt.specs.Sorts.{sort_of}
use Rattle.dj_rebuilt.specs.Rebuilding.{Names, Ways, takes_kind, continues, rebuilt}
use Rattle.dj_rebuildable.specs.Beside.{is_unborn, is_open, AreSuited, nothing, IsBeside, settled, AreNamedBeside}
use Rattle.dj_rebuildable.specs.Walking.{moves_run_kind, is_run, makes, Compares, IsReachedAt, MayStand, AllMayStand}
use Rattle.dj_rebuildable.specs.Serving.{IsStrictAt, IsTakenAt, AreAtomic, IsServed, node as one_node, HasTarget, Serves}
use Rattle.dj_rebuildable.proofs.Stepping.{whole-is}
use Rattle.dj_rebuildable.proofs.Blocks.{block-rebuilt}
use Rattle.dj_exits.specs.Exits.{Edges, leave, fall}
use Rattle.dj_exits.specs.Leading.{LeadsTo, jumps, falls, EdgesServe}
use Rattle.dj_exits.specs.Ways.{before, after}
use Rattle.dj_exits.proofs.Calm.{before-calm, compares-atoms}
use Rattle.dj_exits.proofs.Leaving.{leaves}
use Rattle.dj_blocks_shown.specs.Leaving.{is_start}
use Rattle.dj_blocks_shown.specs.Walks.{AreStarts}
use Rattle.dj_standing.specs.Standing.{IsPlain}
use Rattle.dj_standing.proofs.Exits.{never}
use Rattle.dj_standing.proofs.Places.{some-same, head-is, code-here, placed}
use Rattle.dj_standing.proofs.Standing.{blocks-may-stand}

-- ---- the code

abbrev listing : Instructions
listing = (0, Load kinds.Int 0) ∷ (1, Load kinds.Int 1) ∷ (2, Calc calcs.Sub kinds.Int) ∷ (3, Store kinds.Int 1) ∷ (4, Return None) ∷ []

abbrev code : Code
code = record {
  class = codes "C";
  name = codes "f";
  flags = 8;
  interface = false;
  descriptor = Method (types.Int ∷ types.Int ∷ []) None;
  thrown = [];
  max_stack = 2;
  max_locals = 2;
  instructions = listing;
  handlers = [];
  frames = [];
}

-- the frame with this stack
abbrev framed : List Tag → Frame
framed stack = record { locals = tag.Int ∷ tag.Int ∷ []; stack = stack; unborn_this = false }

abbrev typed : Typed
typed = record { code = code; frames = framed [] ∷ framed (tag.Int ∷ []) ∷ framed (tag.Int ∷ tag.Int ∷ []) ∷ framed (tag.Int ∷ []) ∷ framed [] ∷ [] }

abbrev working : List Tag → Working
working stack = record { locals = tag.Int ∷ tag.Int ∷ []; stack = stack; unborn_this = false }

-- the world has no classes
abbrev none_known : List Header
none_known = []

nothing-here : {P : Type 0} (pc : ℕ) (instruction : Instruction) (rest : Instructions) (place : ℕ) → drop place [] ≡ (pc, instruction) ∷ rest → P
nothing-here pc instruction rest zero e = absurd (cc)
nothing-here pc instruction rest (suc place) e = absurd (cc)

-- each instruction of it, with its frame
module _ (P : ℕ → Instruction → Instructions → Working → Type 0) (p0 : P 0 (Load kinds.Int 0) (drop 1 listing) (working [])) (p1 : P 1 (Load kinds.Int 1) (drop 2 listing) (working (tag.Int ∷ [])))
    (p2 : P 2 (Calc calcs.Sub kinds.Int) (drop 3 listing) (working (tag.Int ∷ tag.Int ∷ []))) (p3 : P 3 (Store kinds.Int 1) (drop 4 listing) (working (tag.Int ∷ []))) (p4 : P 4 (Return None) [] (working [])) where
  is-so : (one : ℕ × Instruction) (some : Instructions) (held : Working) → P one.0 one.1 some held → (pc : ℕ) (instruction : Instruction) (rest : Instructions) (frame : Working) → one ∷ some ≡ (pc, instruction) ∷ rest → Some held ≡ Some frame → P pc instruction rest frame
  is-so one some held p pc instruction rest frame e f =
      subst (λ (at : ℕ × Instruction). P at.0 at.1 rest frame) (head-is one (pc, instruction) some rest e)
      (subst (λ (list : Instructions). P one.0 one.1 list frame) (tails one (pc, instruction) some rest e) (subst (P one.0 one.1 some) (some-same held frame f) p))
    where
      tails : (one other : ℕ × Instruction) (more rest : Instructions) → one ∷ more ≡ other ∷ rest → more ≡ rest
      tails one other more rest e = cc

  at-place : (place pc : ℕ) (instruction : Instruction) (rest : Instructions) (frame : Working) → drop place listing ≡ (pc, instruction) ∷ rest → slice_get (table_of typed) place ≡ Some frame → P pc instruction rest frame
  at-place zero pc instruction rest frame e f = is-so (0, Load kinds.Int 0) _ (working []) p0 pc instruction rest frame e f
  at-place (suc zero) pc instruction rest frame e f = is-so (1, Load kinds.Int 1) _ (working (tag.Int ∷ [])) p1 pc instruction rest frame e f
  at-place (suc (suc zero)) pc instruction rest frame e f = is-so (2, Calc calcs.Sub kinds.Int) _ (working (tag.Int ∷ tag.Int ∷ [])) p2 pc instruction rest frame e f
  at-place (suc (suc (suc zero))) pc instruction rest frame e f = is-so (3, Store kinds.Int 1) _ (working (tag.Int ∷ [])) p3 pc instruction rest frame e f
  at-place (suc (suc (suc (suc zero)))) pc instruction rest frame e f = is-so (4, Return None) _ (working []) p4 pc instruction rest frame e f
  at-place (suc (suc (suc (suc (suc place))))) pc instruction rest frame e f = nothing-here pc instruction rest place e

  each : (pc : ℕ) (instruction : Instruction) (rest : Instructions) (frame : Working) → IsReachedAt typed pc instruction frame → code_from pc listing ≡ (pc, instruction) ∷ rest → P pc instruction rest frame
  each pc instruction rest frame at listed =
      let same : at.at.rest ≡ rest = tails (sym (code-here (pc, instruction) at.at.rest listing at.at.place rising at.at.here) ∙ listed) in
      subst (λ (list : Instructions). P pc instruction list frame) same (at-place at.at.place pc instruction at.at.rest frame at.at.here at.at.there)
    where
      tails : (pc, instruction) ∷ at.at.rest ≡ (pc, instruction) ∷ rest → at.at.rest ≡ rest
      tails e = cc

      rising : IsRising listing
      rising = (refl, (omega arith, (omega arith, (omega arith, (omega arith, tt)))))

-- ---- it is plain

nothing-in : {A P : Type 0} (one : A) → Contains {X = A} [] one → P
nothing-in one has = let less = has.1 in absurd (omega arith)

-- each instruction of the listing
listed : (Q : ℕ × Instruction → Type 0) → Q (0, Load kinds.Int 0) → Q (1, Load kinds.Int 1) → Q (2, Calc calcs.Sub kinds.Int) → Q (3, Store kinds.Int 1) → Q (4, Return None) → (at : ℕ × Instruction) → Contains listing at → Q at
listed Q q0 q1 q2 q3 q4 at (zero, less, is) = subst Q is q0
listed Q q0 q1 q2 q3 q4 at (suc zero, less, is) = subst Q is q1
listed Q q0 q1 q2 q3 q4 at (suc (suc zero), less, is) = subst Q is q2
listed Q q0 q1 q2 q3 q4 at (suc (suc (suc zero)), less, is) = subst Q is q3
listed Q q0 q1 q2 q3 q4 at (suc (suc (suc (suc zero))), less, is) = subst Q is q4
listed Q q0 q1 q2 q3 q4 at (suc (suc (suc (suc (suc place)))), less, is) = absurd (omega (arith, less))

strict : IsStrict none_known typed
strict = record {
  table = record {
    number = refl;
    are = (
      refl,
      (refl, (tt, ((omega arith, refl), ((record { locals = omega arith; stack = omega arith }, record { locals = omega arith; stack = omega arith }, omega arith, omega arith), ((λ place other less. absurd (omega (arith, less))), ((λ place other less. absurd (omega (arith, less))), (λ on e. absurd (cc), tt))))))),
      (
        refl,
        (refl, (tt, ((omega arith, refl), ((record { locals = omega arith; stack = omega arith }, record { locals = omega arith; stack = omega arith }, omega arith, omega arith), ((λ place other less. absurd (omega (arith, less))), ((λ place other less. absurd (omega (arith, less))), (λ on e. absurd (cc), tt))))))),
        (
          refl,
          (refl, (tt, (there refl (there refl enough), ((record { locals = omega arith; stack = omega arith }, record { locals = omega arith; stack = omega arith }, omega arith, omega arith), ((λ place other less. absurd (omega (arith, less))), ((λ place other less. absurd (omega (arith, less))), (λ on e. absurd (cc), tt))))))),
          (
            refl,
            (refl, (tt, (refl, ((record { locals = omega arith; stack = omega arith }, record { locals = omega arith; stack = omega arith }, omega arith, omega arith), ((λ place other less. absurd (omega (arith, less))), ((λ place other less. absurd (omega (arith, less))), (λ on e. absurd (cc), tt))))))),
            (
              refl,
              (refl, (tt, ((λ constructs. refl), ((record { locals = omega arith; stack = omega arith }, record { locals = omega arith; stack = omega arith }, omega arith, omega arith), ((λ place other less. absurd (omega (arith, less))), ((λ place other less. absurd (omega (arith, less))), (λ on e. never on, tt))))))),
              tt,
            ),
          ),
        ),
      ),
    );
  };
  rising = (refl, (omega arith, (omega arith, (omega arith, (omega arith, tt)))));
}

-- a place of the listing holds no `new`
no-new : (place pc : ℕ) (class : List ℕ) (rest : Instructions) → drop place listing ≡ (pc, New class) ∷ rest → ⊥
no-new zero pc class rest e = never (ap (λ (at : ℕ × Instruction). makes at.1) (head-is (0, Load kinds.Int 0) (pc, New class) _ rest e))
no-new (suc zero) pc class rest e = never (ap (λ (at : ℕ × Instruction). makes at.1) (head-is (1, Load kinds.Int 1) (pc, New class) _ rest e))
no-new (suc (suc zero)) pc class rest e = never (ap (λ (at : ℕ × Instruction). makes at.1) (head-is (2, Calc calcs.Sub kinds.Int) (pc, New class) _ rest e))
no-new (suc (suc (suc zero))) pc class rest e = never (ap (λ (at : ℕ × Instruction). makes at.1) (head-is (3, Store kinds.Int 1) (pc, New class) _ rest e))
no-new (suc (suc (suc (suc zero)))) pc class rest e = never (ap (λ (at : ℕ × Instruction). makes at.1) (head-is (4, Return None) (pc, New class) _ rest e))
no-new (suc (suc (suc (suc (suc place))))) pc class rest e = nothing-here pc (New class) rest place e

plain : IsPlain none_known typed
plain = record {
  strict = strict;
  jumps = λ place other less. jumps-right place other less;
  ranges = λ handler has. nothing-in handler has;
  kinds = λ pc instruction has. listed (λ at. moves_run_kind at.1 ≡ true) refl refl refl refl refl (pc, instruction) has;
  run = λ pc instruction has. listed (λ at. is_run (meaning_of none_known code.class at.1) ≡ true) refl refl refl refl refl (pc, instruction) has;
  births = λ start reached new. let found = placed listing start (New new.class) new.here in absurd (no-new found.0 start new.class found.1 found.2);
}
  where
    jumps-right : AllJumpRight listing
    jumps-right place other less = listed (λ at. All (IsStart listing) (targets_of at.1)) none none none none none (get_or listing place other) (Contains-get_or listing place other less)
      where
        none : All (IsStart listing) []
        none place other less = absurd (omega (arith, less))

-- ---- one block

nothing-begins : (pc : ℕ) → BeginsBlock typed pc → pc ≡ 0
nothing-begins pc (begins.entry is) = is
nothing-begins pc (begins.given is) = absurd is
nothing-begins pc (begins.table is) = absurd is
nothing-begins pc (begins.code is) = absurd (asks is)
  where
    no-target : Contains {X = ℕ} [] pc → ⊥
    no-target has = let less = has.1 in omega arith

    false-true : false ≡ true → ⊥
    false-true e = cc

    asks : begins.CodeAsks [] listing typed.frames pc → ⊥
    asks (inl to) = no-target to
    asks (inr (inl (at, inl ends))) = false-true ends
    asks (inr (inl (at, inr changes))) = false-true changes.1
    asks (inr (inr (inl to))) = no-target to
    asks (inr (inr (inr (inl (at, inl ends))))) = false-true ends
    asks (inr (inr (inr (inl (at, inr changes))))) = false-true changes.1
    asks (inr (inr (inr (inr (inl to))))) = no-target to
    asks (inr (inr (inr (inr (inr (inl (at, inl ends))))))) = false-true ends
    asks (inr (inr (inr (inr (inr (inl (at, inr changes))))))) = false-true changes.1
    asks (inr (inr (inr (inr (inr (inr (inl to))))))) = no-target to
    asks (inr (inr (inr (inr (inr (inr (inr (inl (at, inl ends))))))))) = false-true ends
    asks (inr (inr (inr (inr (inr (inr (inr (inl (at, inr changes))))))))) = false-true changes.1
    asks (inr (inr (inr (inr (inr (inr (inr (inr (inl to))))))))) = no-target to
    asks (inr (inr (inr (inr (inr (inr (inr (inr (inr (inl none)))))))))) = none
    asks (inr (inr (inr (inr (inr (inr (inr (inr (inr (inr none)))))))))) = none

starts-are : AreStarts typed (0 ∷ [])
starts-are = record {
  exact = λ pc. (
    λ has. subst (IsBlockStart typed) (zero-only has) (record { at = refl; reached = ways_of.start; begins = begins.entry refl }),
    λ start. (0, omega arith, sym (nothing-begins pc start.begins)),
  );
}
  where
    zero-only : {pc : ℕ} → Contains (0 ∷ []) pc → 0 ≡ pc
    zero-only (zero, less, is) = is
    zero-only (suc place, less, is) = absurd (omega (arith, less))

abbrev starts : ℕ → Bool
starts = is_start (0 ∷ [])

-- each instruction may stand where it does
stands : AllMayStand none_known code (IsReachedAt typed) starts false 0 (working []) listing
stands = blocks-may-stand none_known typed plain (0 ∷ []) starts-are 0 (0, Load kinds.Int 0) (drop 1 listing) (working []) refl refl ways_of.start (record { locals = refl; stack = refl })

-- ---- what rebuilding rests on

-- an int is one
int-well : SuitsWell none_known (Of types.Int) tag.Int
int-well = record { suits = int refl; rooted = λ own same reference. absurd (subst (λ type. IsReference (innermost type)) (sym (own-is own same)) reference) }
  where
    own-is : (own : JType) → Of types.Int ≡ Of own → types.Int ≡ own
    own-is own e = cc

-- no edge has an answer
abbrev edges : Edges
edges = record { puts = λ names stack target variable. false; jump = λ names stack target. None; fits = λ static type. true; compares = λ one other. false }

-- the variable of the second parameter's slot is written at 3
abbrev target_at : Bool → Option (Var × JType)
target_at true = Some (fresh 1, types.Int)
target_at false = None

abbrev ways : Ways
ways = record {
  constant = constant_of;
  node = own_nodes;
  effect = λ instruction are. None;
  target = λ pc. target_at (pc == 3);
  leave = λ names n stack list. leave none_known None edges names n stack list;
  fall = λ names n stack rest. fall edges names n stack rest;
  birth = λ instruction class are. None;
  before = before;
  after = after;
  goes = λ static type. is_whole static;
}

-- an instruction of the code, where it may stand
abbrev May : Bool → ℕ → ℕ → Instruction → Instructions → Working → Type 0
May just_made atoms pc instruction rest frame = MayStand none_known code (IsReachedAt typed) starts just_made atoms pc instruction rest frame

-- what holds of each of the five holds of each that may stand
may-each : (P : ℕ → Instruction → Instructions → Working → Type 0) → P 0 (Load kinds.Int 0) (drop 1 listing) (working []) → P 1 (Load kinds.Int 1) (drop 2 listing) (working (tag.Int ∷ []))
    → P 2 (Calc calcs.Sub kinds.Int) (drop 3 listing) (working (tag.Int ∷ tag.Int ∷ [])) → P 3 (Store kinds.Int 1) (drop 4 listing) (working (tag.Int ∷ [])) → P 4 (Return None) [] (working [])
    → {just_made : Bool} {atoms pc : ℕ} {instruction : Instruction} {rest : Instructions} {frame : Working} → May just_made atoms pc instruction rest frame → P pc instruction rest frame
may-each P p0 p1 p2 p3 p4 {pc = pc} {instruction} {rest} {frame} may = each P p0 p1 p2 p3 p4 pc instruction rest frame may.lawful may.listed

-- no instruction leads to a block
leads-nowhere : {just_made : Bool} {atoms pc : ℕ} {instruction : Instruction} {rest : Instructions} {frame : Working} → May just_made atoms pc instruction rest frame → (target : ℕ) → LeadsTo starts instruction rest target → ⊥
leads-nowhere = may-each (λ pc instruction rest frame. (target : ℕ) → LeadsTo starts instruction rest target → ⊥) nowhere-0 nowhere-1 nowhere-2 nowhere-3 ended
  where
    false-true : false ≡ true → ⊥
    false-true e = cc

    no-target : {target : ℕ} → Contains {X = ℕ} [] target → ⊥
    no-target has = let less = has.1 in omega arith

    nowhere-0 : (target : ℕ) → LeadsTo starts (Load kinds.Int 0) (drop 1 listing) target → ⊥
    nowhere-0 target (jumps to is) = no-target to
    nowhere-0 target (falls on is) = false-true is

    nowhere-1 : (target : ℕ) → LeadsTo starts (Load kinds.Int 1) (drop 2 listing) target → ⊥
    nowhere-1 target (jumps to is) = no-target to
    nowhere-1 target (falls on is) = false-true is

    nowhere-2 : (target : ℕ) → LeadsTo starts (Calc calcs.Sub kinds.Int) (drop 3 listing) target → ⊥
    nowhere-2 target (jumps to is) = no-target to
    nowhere-2 target (falls on is) = false-true is

    nowhere-3 : (target : ℕ) → LeadsTo starts (Store kinds.Int 1) (drop 4 listing) target → ⊥
    nowhere-3 target (jumps to is) = no-target to
    nowhere-3 target (falls on is) = false-true is

    ended : (target : ℕ) → LeadsTo starts (Return None) [] target → ⊥
    ended target (jumps to is) = no-target to
    ended target (falls on is) = false-true on

edges-serve : EdgesServe none_known code (IsReachedAt typed) starts edges
edges-serve = record {
  jumps = λ just_made atoms pc instruction rest frame may target leads names stack at all. absurd (leads-nowhere may target leads);
  fits = λ static held to suits goes. refl;
}

-- each of two operands is an int
both-ints : (are : List Operand) (tags : List Tag) → length tags ≡ 2 → tag.Int ∷ tag.Int ∷ [] ≡ reversed tags ++ [] → AreSuited none_known are tags → IsServed none_known ways (Calc calcs.Sub kinds.Int) are (Some tag.Int)
both-ints are [] many same suited = absurd (cc)
both-ints are (one ∷ []) many same suited = absurd (cc)
both-ints are (one ∷ other ∷ third ∷ more) many same suited = absurd (let long = many in cc)
both-ints [] (one ∷ other ∷ []) many same suited = absurd suited
both-ints (first ∷ []) (one ∷ other ∷ []) many same suited = absurd suited.1
both-ints (first ∷ second ∷ third ∷ rest) (one ∷ other ∷ []) many same suited = absurd suited.1.1
both-ints (first ∷ second ∷ []) (one ∷ other ∷ []) many same suited =
    let other_int : tag.Int ≡ other = cc in
    let one_int : tag.Int ≡ one = cc in
    one_node refl refl (ap (λ (test : Bool). if test then Some (Of types.Int, trees.Binary operator.Sub (as_int first.0 first.1) (as_int second.0 second.1)) else None)
    (ap (λ (test : Bool). test && is_whole second.0) (whole-is none_known suited.0 (sym one_int)) ∙ whole-is none_known suited.1.0 (sym other_int))) int-well

-- a difference takes two ints and gives one
difference : (count : ℕ) → 2 ≡ count → (gives : Option Tag) → tag.Int ∷ [] ≡ pushed gives (drop count (tag.Int ∷ tag.Int ∷ [])) → (are : List Operand) (tags : List Tag) → length tags ≡ count
    → tag.Int ∷ tag.Int ∷ [] ≡ reversed tags ++ drop count (tag.Int ∷ tag.Int ∷ []) → AreSuited none_known are tags → IsServed none_known ways (Calc calcs.Sub kinds.Int) are gives
difference count two gives gives_int are tags many on_top suited =
    subst (IsServed none_known ways (Calc calcs.Sub kinds.Int) are) (given gives (gives_int ∙ ap (λ count. pushed gives (drop count (tag.Int ∷ tag.Int ∷ []))) (sym two)))
    (both-ints are tags (many ∙ sym two) (on_top ∙ ap (λ count. reversed tags ++ drop count (tag.Int ∷ tag.Int ∷ [])) (sym two)) suited)
  where
    given : (gives : Option Tag) → tag.Int ∷ [] ≡ pushed gives [] → Some tag.Int ≡ gives
    given None e = absurd (cc)
    given (Some one) e = ap (λ one. Some one) (head-is tag.Int one [] [] e)

takes-int : (kind : Kind) → HasKind kind tag.Int → takes_kind kind types.Int ≡ true
takes-int kinds.Int has = refl
takes-int kinds.Long has = absurd (cc)
takes-int kinds.Float has = absurd (cc)
takes-int kinds.Double has = absurd (cc)
takes-int kinds.Ref has = never has

serves : Serves none_known code (IsReachedAt typed) starts ways
serves = record {
  strict = λ just_made atoms pc instruction rest frame may. may-each
      (λ pc instruction rest frame. (count : ℕ) (operation : List Value → Reply (Option Value)) → meaning_of none_known code.class instruction ≡ Strict count operation → (gives : Option Tag) → IsStrictAt code pc instruction frame count gives
      → (are : List Operand) → IsTakenAt none_known frame count are → (Compares instruction → AreAtomic are) → IsServed none_known ways instruction are gives)
      (λ count operation e. absurd (cc)) (λ count operation e. absurd (cc))
      (λ count operation e gives at are taken atomic. difference count (strict-two count operation e) gives (ap (λ (frame : Working). frame.stack) at.after) are taken.tags taken.many taken.on_top taken.suited)
      (λ count operation e. absurd (cc)) (λ count operation e. absurd (cc)) may;
  births = λ just_made atoms pc method rest frame may. absurd (may-each (λ pc instruction rest frame. instruction ≡ InvokeSpecial method → ⊥) (λ e. cc) (λ e. cc) (λ e. cc) (λ e. cc) (λ e. cc) may refl);
  stores = λ just_made atoms pc kind slot rest frame may. may-each
      (λ pc instruction rest frame. instruction ≡ Store kind slot → (top : Tag) (below : List Tag) → frame.stack ≡ top ∷ below → is_unborn top ≡ false → HasTarget none_known ways pc top)
      (λ e. absurd (cc)) (λ e. absurd (cc)) (λ e. absurd (cc)) (λ e top below same born. subst (HasTarget none_known ways 3) (head-is tag.Int top [] below same) int-target) (λ e. absurd (cc)) may refl;
  counts = λ just_made atoms pc slot amount rest frame may. absurd (may-each (λ pc instruction rest frame. instruction ≡ Iinc slot amount → ⊥) (λ e. cc) (λ e. cc) (λ e. cc) (λ e. cc) (λ e. cc) may refl);
  before = before-calm;
  compares = compares-atoms;
  after = λ just_made atoms pc instruction rest frame may stack beside begun. absurd (may-each (λ pc instruction rest frame. is_open (effect code pc (work code instruction) frame).stack ≡ true → ⊥) never never never never never may begun);
  leaves = λ just_made atoms pc instruction rest frame may off names n stack at.
      leaves none_known code (IsReachedAt typed) starts edges edges-serve just_made atoms pc rest frame names n at.entries at.locals at.closed instruction may off;
  falls = λ just_made atoms pc instruction rest frame may on at_start. absurd
      (may-each (λ pc instruction rest frame. continues (sort_of instruction) (meaning_of none_known code.class instruction) ≡ true → starts (pc_of rest) ≡ true → ⊥) (λ on e. never e) (λ on e. never e) (λ on e. never e) (λ on e. never e) (λ on e. never on) may on at_start);
}
  where
    strict-two : (count : ℕ) (operation : List Value → Reply (Option Value)) → meaning_of none_known code.class (Calc calcs.Sub kinds.Int) ≡ Strict count operation → 2 ≡ count
    strict-two count operation e = cc

    int-target : HasTarget none_known ways 3 tag.Int
    int-target = record { target = fresh 1; type = types.Int; is = refl; suits = int-well; takes = takes-int; goes = λ static suits. whole-is none_known suits refl }

-- ---- its statements

abbrev names : Names
names zero = Some (types.Int, Named (fresh 0))
names (suc zero) = Some (types.Int, Named (fresh 1))
names (suc (suc slot)) = None

beside : IsBeside none_known code false 0 (first_role listing) names [] (working [])
beside = record { entries = settled refl nothing; locals = named; on_top = tt }
  where
    named : AreNamedBeside none_known code names (tag.Int ∷ tag.Int ∷ [])
    named zero = record { type = types.Int; atom = Named (fresh 0); is = refl; suits = int-well; takes = takes-int }
    named (suc zero) = record { type = types.Int; atom = Named (fresh 1); is = refl; suits = int-well; takes = takes-int }
    named (suc (suc zero)) = tt
    named (suc (suc (suc slot))) = tt

-- rebuilding has an answer by the law
is-rebuilt : IsSome (rebuilt none_known code.class ways starts names 2 [] listing)
is-rebuilt = block-rebuilt none_known code (IsReachedAt typed) starts ways serves false 0 (working []) listing stands names 2 [] beside

-- and this is it
is-so-rebuilt : rebuilt none_known code.class ways starts names 2 [] listing
    ≡ Some (And (trees.Set (fresh 1) (trees.Binary operator.Sub (trees.Variable (fresh 0)) (trees.Variable (fresh 1)))) (And (trees.Return None) Empty))
is-so-rebuilt = refl
