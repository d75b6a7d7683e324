-- Up to the call of another constructor nothing is made of `this`: what is pending keeps the rules where it may not be named, and assigns nothing.
use Rattle.std.proofs.Common.{arith, ℕ, zero, suc, ◌+◌, ◌<◌, ◌≤◌, ◌==◌, ◌≡◌, Bool, true, false, List, [], ◌∷◌, ◌++◌, length, Contains, Option, Some, None, ◌⊎◌, inl, inr, refl, sym, ap, ◌∙◌, subst}
use Rattle.std.specs.Prelude.{◌&&◌, not, is_none, if◌then◌else◌}
use Rattle.std.proofs.lemmas.Bool.{and_parts, eqb-true, false≢true, true≢false}
use Rattle.dj_names.specs.Headers.{Name}
use Rattle.dj_names.specs.Types as types
use Rattle.dj_names.specs.Types.{JType, Class, StaticType, Of, parameters_of, result_of}
use Rattle.dj_syntax.specs.declared.variable.Var.{Var}
use Rattle.dj_syntax.specs.Trees.{Exp, This, Stm, Stms, Empty, And}
use Rattle.dj_instructions.specs.declared.kinds.Kind.{Kind}
use Rattle.dj_instructions.specs.Instructions.{MethodRef, Instruction, Instructions, IsRisingFrom}
use Rattle.dj_instructions.specs.Instructions as op
use Rattle.dj_starts.specs.declared.roles.Role.{Role}
use Rattle.dj_starts.specs.declared.roles.Role.TheVariants as role
use Rattle.dj_starts.specs.Births.{role_of, role_of_call}
use Rattle.dj_receivers.specs.Passing.{Own as Loaded, Takes, pass_of, pass_of_load}
use Rattle.dj_birth_causes.specs.Beginning.{is_own}
use Rattle.dj_bytecode.specs.Shuffles.{Form}
use Rattle.dj_bytecode.specs.Meanings.{Family, Strict, meaning_of}
use Rattle.dj_bytecode.specs.Machine.{pc_of}
use Rattle.dj_meaning.specs.StaticTypes.{Scope}
use Rattle.dj_meaning.specs.Declarations.{joined}
use Rattle.dj_typing.specs.Sites.{Site}
use Rattle.dj_rebuilding.specs.Pending.{Atom, Number, Wide, Units, Nothing, Own, Named, exp_of, Pending, Kept, Whole, Born, Again, Built, Typed, sets, single, none, and_then, keep, save, stays, also, spill, emit, grown, with_operands}
use Rattle.dj_rebuilt.specs.Known.{constant_of}
use Rattle.dj_rebuilt.specs.Sorts.{Sort, Loading, Storing, Counting, Moving, Doubling, Dropping, Making, Calling, Throwing, Idle, Other, sort_of}
use Rattle.dj_rebuilt.specs.Rebuilding.{Names, Plain, Step, under, atom_type, static_of, takes_kind, load, dropped, ended_birth, born_built, or_else, strictly_built, strict_step, double, advance, behind_spilled, first_spilled, then_spilled, advance_one, continues}
use Rattle.dj_rebuilt.proofs.Rebuilt.{made-if, under-is, both-are}
use Rattle.dj_blocks_formed.specs.Formed.{constants_of}
use Rattle.dj_blocks_formed.specs.Ruled.{IsRuled, AreRuled, AreRuledOperands}
use Rattle.dj_blocks_shown.specs.Leaving.{Parts}
use Rattle.dj_members_shown.specs.Meant.{Receiver}
use Rattle.dj_member_nodes.specs.Nodes.{node_of, member_effect, member_birth}
use Rattle.dj_member_nodes.specs.Named.{RootsAreNamed, IsAllowed}
use Rattle.dj_member_nodes.proofs.Rules.{constants-keep-rules, nodes-keep-rules, births-keep-rules}
use Rattle.dj_exits.specs.Numbers.{AssignsNothing, AssignNothing, AreCalm}
use Rattle.dj_exits.proofs.Spending.{atom-still}
use Rattle.dj_one_block.specs.OneBlock.{lone_ways}
use Rattle.dj_constructors.specs.Opening.{is_still, is_empty, is_own_alone, own_operands, constructor_in, own_call, Opened, quiet_step, before_call, called_at, opened}
use Rattle.dj_constructors_formed.proofs.Still.{node-still, birth-still}

-- ---- what is emitted

joined-empty : (first second : Stms) → joined first second ≡ Empty → (first ≡ Empty) × (second ≡ Empty)
joined-empty Empty second e = (refl, e)
joined-empty (And first rest) second e = absurd (cc)

empty-is : (list : Stms) → is_empty list ≡ true → list ≡ Empty
empty-is Empty e = refl
empty-is (And first rest) e = absurd (false≢true e)

single-never : (first : Stms) (statement : Stm) → joined first (single statement) ≡ Empty → ⊥
single-never first statement e = let last = (joined-empty first (single statement) e).1 in cc

-- a statement is emitted
emit-never : (assigned : Var → Bool) (n : ℕ) (below : List Pending) (statement : Stm) (built : Built) → emit assigned n below statement ≡ Some built → built.emitted ≡ Empty → ⊥
emit-never assigned n below statement built e empty =
    let b = both-are (spill assigned n below) (λ so_far. Some (record { emitted = joined so_far.emitted (single statement); stack = so_far.stack; next = so_far.next })) built e in
    let same : record { emitted = joined b.one.emitted (single statement); stack = b.one.stack; next = b.one.next } ≡ built = (let some = b.then_is in cc) in
    single-never b.one.emitted statement (ap (λ (one : Built). one.emitted) same ∙ empty)

stays-there : (atom : Atom) → stays none atom ≡ true
stays-there (Number number) = refl
stays-there (Wide number) = refl
stays-there (Units units) = refl
stays-there Nothing = refl
stays-there Own = refl
stays-there (Named variable) = refl

-- where nothing is emitted, what is spilled stays
record IsSame (n : ℕ) (stack : List Pending) (built : Built) : Type 0 where
  stack_is : built.stack ≡ stack
  next_is : built.next ≡ n

spilled-same : (n : ℕ) (stack : List Pending) (built : Built) → spill none n stack ≡ Some built → built.emitted ≡ Empty → IsSame n stack built
spilled-same n [] built e empty =
    let same : record { emitted = Empty; stack = []; next = n } ≡ built = cc in
    subst (IsSame n []) same (record { stack_is = refl; next_is = refl })
spilled-same n (Kept type atom ∷ below) built e empty =
    let b = both-are (spill none n below) (λ so_far. Some (if stays none atom then keep type atom so_far else save type (exp_of atom) so_far)) built e in
    by b.one (λ empty. spilled-same n below b.one b.is empty) (stays none atom) (stays-there atom) b.then_is
  where
    by : (so_far : Built) → (so_far.emitted ≡ Empty → IsSame n below so_far) → (test : Bool) → test ≡ true → Some (if test then keep type atom so_far else save type (exp_of atom) so_far) ≡ Some built → IsSame n (Kept type atom ∷ below) built
    by so_far further true there f =
        let same : keep type atom so_far ≡ built = cc in
        let rest = further (ap (λ (one : Built). one.emitted) same ∙ empty) in
        subst (IsSame n (Kept type atom ∷ below)) same (record { stack_is = ap (λ (list : List Pending). Kept type atom ∷ list) rest.stack_is; next_is = rest.next_is })
    by so_far further false there f = absurd (false≢true there)
spilled-same n (Whole type exp ∷ below) built e empty =
    let b = both-are (spill (also exp none) n below) (λ so_far. Some (save type exp so_far)) built e in
    let same : save type exp b.one ≡ built = (let some = b.then_is in cc) in
    absurd (single-never b.one.emitted _ (ap (λ (one : Built). one.emitted) same ∙ empty))
spilled-same n (Born class ∷ below) built e empty = absurd (cc)
spilled-same n (Again ∷ below) built e empty = absurd (cc)

-- ---- sorts and roles

moving-never : (instruction : Instruction) (forms : List Form) → sort_of instruction ≡ Moving forms → role_of instruction ≡ role.Never
moving-never op.DupX1 forms e = refl
moving-never op.DupX2 forms e = refl
moving-never op.Dup2 forms e = refl
moving-never op.Dup2X1 forms e = refl
moving-never op.Dup2X2 forms e = refl
moving-never op.Swap forms e = refl
moving-never instruction forms e = absurd (cc)

dropping-never : (instruction : Instruction) (two : Bool) → sort_of instruction ≡ Dropping two → role_of instruction ≡ role.Never
dropping-never op.Pop two e = refl
dropping-never op.Pop2 two e = refl
dropping-never instruction two e = absurd (cc)

doubling-dup : (instruction : Instruction) → sort_of instruction ≡ Doubling → role_of instruction ≡ role.Dup
doubling-dup op.Dup e = refl
doubling-dup instruction e = absurd (cc)

-- only `new` makes an object
record IsMaking (instruction : Instruction) : Type 0 where
  class : Name
  sort_is : sort_of instruction ≡ Making class

call-not-new : (descriptor : types.Descriptor) → role_of_call descriptor ≡ role.New → ⊥
call-not-new descriptor e = by (result_of descriptor) e
  where
    by : (found : Option JType) → (if is_none found then role.Silent else role.Plain) ≡ role.New → ⊥
    by None f = cc
    by (Some one) f = cc

new-makes : (instruction : Instruction) → role_of instruction ≡ role.New → IsMaking instruction
new-makes (op.New class) e = record { class = class; sort_is = refl }
new-makes (op.InvokeVirtual method) e = absurd (call-not-new method.descriptor e)
new-makes (op.InvokeSpecial method) e = absurd (call-not-new method.descriptor e)
new-makes (op.InvokeStatic method) e = absurd (call-not-new method.descriptor e)
new-makes (op.InvokeInterface method) e = absurd (call-not-new method.descriptor e)
new-makes (op.InvokeDynamic bootstrap name descriptor) e = absurd (call-not-new descriptor e)
new-makes instruction e = absurd (cc)

loading-pass : (instruction : Instruction) (of : Kind) (slot : ℕ) → sort_of instruction ≡ Loading of slot → pass_of instruction ≡ pass_of_load slot
loading-pass (op.Load kind at) of slot e = let same : at ≡ slot = cc in ap pass_of_load same
loading-pass instruction of slot e = absurd (cc)

-- a load that isn't of `this` is of another slot
other-slot : (slot : ℕ) → is_own (pass_of_load slot) ≡ false → (slot == 0) ≡ false
other-slot slot e = by (slot == 0) e
  where
    by : (test : Bool) → is_own (if test then Loaded else Takes 0 true) ≡ false → test ≡ false
    by true f = absurd (true≢false f)
    by false f = refl

-- ---- what is known of instructions

-- an instruction before the call may stand in a birth
pub record MayStand (site : Site) (receivers : ℕ → Receiver) (before : Role) (pc : ℕ) (instruction : Instruction) : Type 0 where
  pub allowed : IsAllowed site receivers pc instruction
  pub never : role_of instruction ≡ role.Never → ⊥
  pub dup : role_of instruction ≡ role.Dup → (before ≡ role.New → ⊥) → ⊥

-- and doesn't load `this`, unless it is the first
pub record IsBefore (site : Site) (receivers : ℕ → Receiver) (before : Role) (pc : ℕ) (instruction : Instruction) : Type 0 where
  pub may : MayStand site receivers before pc instruction
  pub sole : 0 < pc → is_own (pass_of instruction) ≡ false

-- so are those of some instructions that stand before an offset
abbrev pub AreBefore : Site → (ℕ → Receiver) → ℕ → Role → Instructions → Type 0
AreBefore site receivers own before [] = Unit {0}
AreBefore site receivers own before (first ∷ rest) = (first.0 < own → IsBefore site receivers before first.0 first.1) × AreBefore site receivers own (role_of first.1) rest

-- the call that is found, and what is behind it
pub record IsCalled (site : Site) (own n : ℕ) (scope : Scope) (list : Instructions) (found : Opened) : Type 0 where
  pub instruction : Instruction
  pub there : Contains list (own, instruction)
  pub method_is : constructor_in instruction ≡ Some found.0
  pub ruled : AreRuledOperands site n scope found.1
  pub still : AssignNothing found.1
  pub behind : (one : ℕ × Instruction) → Contains found.2 one → Contains list one × (own < one.0)

-- ---- what is pending

-- no entry is `this`
abbrev LacksOwn : List Pending → Type 0
LacksOwn [] = Unit {0}
LacksOwn (Kept type atom ∷ below) = (atom ≡ Own → ⊥) × LacksOwn below
LacksOwn (Whole type exp ∷ below) = LacksOwn below
LacksOwn (Born class ∷ below) = LacksOwn below
LacksOwn (Again ∷ below) = LacksOwn below

-- the topmost entry is an object whose birth has begun
abbrev IsBornTop : List Pending → Type 0
IsBornTop [] = ⊥
IsBornTop (Kept type atom ∷ below) = ⊥
IsBornTop (Whole type exp ∷ below) = ⊥
IsBornTop (Born class ∷ below) = Unit {0}
IsBornTop (Again ∷ below) = ⊥

module _ (site : Site) (without : site.has_this ≡ false) (roots : RootsAreNamed site) (receivers : ℕ → Receiver) (parts : Parts) (starts : ℕ → Bool) (own n : ℕ) (scope : Scope) (names : Names)
    (type_of_this : JType) (this_is : (slot : ℕ) → (slot == 0) ≡ true → names slot ≡ Some (type_of_this, Own))
    (lawful : (slot : ℕ) → (slot == 0) ≡ false → (type : JType) (atom : Atom) → names slot ≡ Some (type, atom) → IsRuled site n scope (atom_type type atom) (exp_of atom)) where
  -- entries that keep the rules and assign nothing
  record AreGood (stack : List Pending) : Type 0 where
    ruled : AreRuled site n scope stack
    calm : AreCalm stack

  -- such entries above `this`, which lies below them alone
  record IsOver (stack : List Pending) : Type 0 where
    above : List Pending
    type : StaticType
    is : stack ≡ above ++ Kept type Own ∷ []
    good : AreGood above

  -- `this` lies below all others, which are good, or nowhere
  data IsOpen (stack : List Pending) : Type 0 where
    lost : LacksOwn stack → IsOpen stack
    over : IsOver stack → IsOpen stack

  -- what keeps the rules here isn't `this`
  apart : (type : StaticType) (atom : Atom) → IsRuled site n scope type (exp_of atom) → atom ≡ Own → ⊥
  apart type atom is same =
      let here : IsRuled site n scope type This = subst (IsRuled site n scope type) (ap exp_of same) is in
      true≢false (sym (here.keeps 0).0 ∙ without)

  -- ---- operands

  -- the operands of an instruction, and what lies below them
  record IsTaken (next : List Typed → List Pending → Option Built) (built : Built) : Type 0 where
    are : List Typed
    below : List Pending
    goes : next are below ≡ Some built
    open_below : LacksOwn below ⊎ (AreRuledOperands site n scope are × AssignNothing are × IsOver below)

  taken-lost : (count : ℕ) (before : List Typed) (stack : List Pending) (next : List Typed → List Pending → Option Built) (built : Built) → LacksOwn stack → with_operands count before stack next ≡ Some built → IsTaken next built
  taken-lost zero before stack next built lacks e = record { are = before; below = stack; goes = e; open_below = inl lacks }
  taken-lost (suc count) before [] next built lacks e = absurd (cc)
  taken-lost (suc count) before (Kept type atom ∷ below) next built lacks e = taken-lost count ((type, exp_of atom) ∷ before) below next built lacks.1 e
  taken-lost (suc count) before (Whole type exp ∷ below) next built lacks e = taken-lost count ((type, exp) ∷ before) below next built lacks e
  taken-lost (suc count) before (Born class ∷ below) next built lacks e = absurd (cc)
  taken-lost (suc count) before (Again ∷ below) next built lacks e = absurd (cc)

  taken-over : (count : ℕ) (before : List Typed) (above : List Pending) (type : StaticType) (next : List Typed → List Pending → Option Built) (built : Built) → AreRuledOperands site n scope before → AssignNothing before → AreRuled site n scope above → AreCalm above
      → with_operands count before (above ++ Kept type Own ∷ []) next ≡ Some built → IsTaken next built
  taken-over zero before above type next built ruled still entries calm e =
      record { are = before; below = above ++ Kept type Own ∷ []; goes = e; open_below = inr (ruled, still, record { above = above; type = type; is = refl; good = record { ruled = entries; calm = calm } }) }
  taken-over (suc count) before [] type next built ruled still entries calm e = taken-lost count ((type, This) ∷ before) [] next built tt e
  taken-over (suc count) before (Kept own_type atom ∷ above) type next built ruled still entries calm e =
      taken-over count ((own_type, exp_of atom) ∷ before) above type next built (entries.0, ruled) (atom-still atom, still) entries.1 calm e
  taken-over (suc count) before (Whole own_type exp ∷ above) type next built ruled still entries calm e =
      taken-over count ((own_type, exp) ∷ before) above type next built (entries.0, ruled) (calm.0, still) entries.1 calm.1 e
  taken-over (suc count) before (Born class ∷ above) type next built ruled still entries calm e = absurd (cc)
  taken-over (suc count) before (Again ∷ above) type next built ruled still entries calm e = absurd (cc)

  taken : (count : ℕ) (stack : List Pending) (next : List Typed → List Pending → Option Built) (built : Built) → IsOpen stack → with_operands count [] stack next ≡ Some built → IsTaken next built
  taken count stack next built (lost lacks) e = taken-lost count [] stack next built lacks e
  taken count stack next built (over o) e = taken-over count [] o.above o.type next built tt tt o.good.ruled o.good.calm (subst (λ (list : List Pending). with_operands count [] list next ≡ Some built) o.is e)

  -- ---- one entry more

  grown-over : (top : Pending) (below : List Pending) → ((above : List Pending) → AreGood above → AreGood (top ∷ above)) → IsOver below → IsOver (top ∷ below)
  grown-over top below good o = record { above = top ∷ o.above; type = o.type; is = ap (λ (list : List Pending). top ∷ list) o.is; good = good o.above o.good }

  open-kept : (type : StaticType) (atom : Atom) (below : List Pending) → IsRuled site n scope type (exp_of atom) → IsOpen below → IsOpen (Kept type atom ∷ below)
  open-kept type atom below is (lost lacks) = lost (apart type atom is, lacks)
  open-kept type atom below is (over o) = over (grown-over (Kept type atom) below (λ above good. record { ruled = (is, good.ruled); calm = good.calm }) o)

  open-born : (class : Name) (below : List Pending) → IsOpen below → IsOpen (Born class ∷ below)
  open-born class below (lost lacks) = lost lacks
  open-born class below (over o) = over (grown-over (Born class) below (λ above good. record { ruled = good.ruled; calm = good.calm }) o)

  open-again : (below : List Pending) → IsOpen below → IsOpen (Again ∷ below)
  open-again below (lost lacks) = lost lacks
  open-again below (over o) = over (grown-over Again below (λ above good. record { ruled = good.ruled; calm = good.calm }) o)

  abbrev OpensBelow : List Typed → List Pending → Type 0
  OpensBelow are below = LacksOwn below ⊎ (AreRuledOperands site n scope are × AssignNothing are × IsOver below)

  open-below : (are : List Typed) (below : List Pending) → OpensBelow are below → IsOpen below
  open-below are below (inl lacks) = lost lacks
  open-below are below (inr h) = over h.2

  -- an expression that is made of operands
  open-whole : (are : List Typed) (below : List Pending) (type : StaticType) (exp : Exp) → OpensBelow are below → (AreRuledOperands site n scope are → IsRuled site n scope type exp) → (AssignNothing are → AssignsNothing exp) → IsOpen (Whole type exp ∷ below)
  open-whole are below type exp (inl lacks) ruled still = lost lacks
  open-whole are below type exp (inr h) ruled still = over (grown-over (Whole type exp) below (λ above good. record { ruled = (ruled h.0, good.ruled); calm = (still h.1, good.calm) }) h.2)

  -- below an object whose birth has begun
  under-birth : (class : Name) (below : List Pending) → IsOver (Again ∷ Born class ∷ below) → IsOver below
  under-birth class below o = by o.above o.is o.good.ruled o.good.calm
    where
      by : (above : List Pending) → (Again ∷ Born class ∷ below) ≡ above ++ Kept o.type Own ∷ [] → AreRuled site n scope above → AreCalm above → IsOver below
      by [] e ruled calm = absurd (cc)
      by (first ∷ []) e ruled calm = absurd (cc)
      by (first ∷ second ∷ above) e ruled calm =
          let first_is : first ≡ Again = cc in
          let second_is : second ≡ Born class = cc in
          let rest_is : below ≡ above ++ Kept o.type Own ∷ [] = cc in
          record {
            above = above;
            type = o.type;
            is = rest_is;
            good = record {
              ruled = subst (λ (one : Pending). AreRuled site n scope (one ∷ above)) second_is (subst (λ (one : Pending). AreRuled site n scope (one ∷ second ∷ above)) first_is ruled);
              calm = subst (λ (one : Pending). AreCalm (one ∷ above)) second_is (subst (λ (one : Pending). AreCalm (one ∷ second ∷ above)) first_is calm);
            };
          }

  -- ---- each instruction

  abbrev class : Name
  class = parts.typed.code.class

  -- behind one step
  record IsNext (found : Step) : Type 0 where
    open_there : IsOpen found.0.stack
    names_are : found.1 ≡ names

  next-grown : (new : List Pending) → IsOpen new → (found : Step) → under names (grown n new) ≡ Some found → IsNext found
  next-grown new is found e =
      let same : (record { emitted = Empty; stack = new; next = n }, names) ≡ found = cc in
      subst IsNext same (record { open_there = is; names_are = refl })

  loaded-open : (slot : ℕ) (stack : List Pending) → IsOpen stack → ((slot == 0) ≡ false) ⊎ (stack ≡ []) → (one : JType × Atom) → names slot ≡ Some one → IsOpen (Kept (static_of one) one.1 ∷ stack)
  loaded-open slot stack is (inl other) one named = open-kept (static_of one) one.1 stack (lawful slot other one.0 one.1 named) is
  loaded-open slot stack is (inr empty) one named = by (slot == 0) refl
    where
      by : (test : Bool) → (slot == 0) ≡ test → IsOpen (Kept (static_of one) one.1 ∷ stack)
      by true at =
          let same : (type_of_this, Own) ≡ one = (let some : Some (type_of_this, Own) ≡ Some one = sym (this_is slot at) ∙ named in cc) in
          subst (λ (one : JType × Atom). IsOpen (Kept (static_of one) one.1 ∷ stack)) same
          (over (record { above = []; type = Of type_of_this; is = ap (λ (list : List Pending). Kept (Of type_of_this) Own ∷ list) empty; good = record { ruled = tt; calm = tt } }))
      by false other = open-kept (static_of one) one.1 stack (lawful slot other one.0 one.1 named) is

  loaded : (of : Kind) (slot : ℕ) (stack : List Pending) → IsOpen stack → ((slot == 0) ≡ false) ⊎ (stack ≡ []) → (one : Option (JType × Atom)) → names slot ≡ one → (found : Step) → load of names n stack one ≡ Some found → IsNext found
  loaded of slot stack is at None named found e = absurd (cc)
  loaded of slot stack is at (Some one) named found e =
      let made = made-if (takes_kind of one.0) (under names (grown n (Kept (static_of one) one.1 ∷ stack))) found e in
      next-grown (Kept (static_of one) one.1 ∷ stack) (loaded-open slot stack is at one named) found made.1

  -- what is made of operands
  operated : (pc : ℕ) (instruction : Instruction) → IsAllowed site receivers pc instruction → (are : List Typed) (below : List Pending) → OpensBelow are below → (built : Built) → built.emitted ≡ Empty
      → (constant : Option (StaticType × Atom)) → constant_of instruction ≡ constant → (one : Option Typed) → node_of (constants_of site) instruction are ≡ one → (effect : Option Plain) → strictly_built n below constant one effect ≡ Some built → IsNext (built, names)
  operated pc instruction allowed are below is built empty (Some constant) c_is one n_is effect e =
      next-grown (Kept constant.0 constant.1 ∷ below) (open-kept constant.0 constant.1 below (constants-keep-rules site roots instruction constant c_is n scope) (open-below are below is)) (built, names) (ap (under names) e)
  operated pc instruction allowed are below is built empty None c_is (Some one) n_is effect e =
      next-grown (Whole one.0 one.1 ∷ below)
      (open-whole are below one.0 one.1 is (λ ruled. nodes-keep-rules site roots receivers pc instruction allowed are one n_is n scope ruled) (λ still. node-still (constants_of site) instruction are one n_is still)) (built, names) (ap (under names) e)
  operated pc instruction allowed are below is built empty None c_is None n_is (Some effect) e = absurd (emit-never (sets effect.1) n below effect.0 built e empty)
  operated pc instruction allowed are below is built empty None c_is None n_is None e = absurd (cc)

  strict-next : (pc : ℕ) (instruction : Instruction) → IsAllowed site receivers pc instruction → (stack : List Pending) → IsOpen stack → (family : Family) (found : Step)
      → under names (strict_step (lone_ways (constants_of site) parts) instruction n stack family) ≡ Some found → found.0.emitted ≡ Empty → IsNext found
  strict-next pc instruction allowed stack is (Strict count operation) found e empty =
      let next = λ (are : List Typed) (below : List Pending). strictly_built n below (constant_of instruction) (node_of (constants_of site) instruction are) (member_effect (constants_of site) instruction are) in
      let u = under-is names (with_operands count [] stack next) found e in
      let t = taken count stack next u.built is u.is in
      subst IsNext u.step_is
      (operated pc instruction allowed t.are t.below t.open_below u.built (ap (λ (step : Step). step.0.emitted) u.step_is ∙ empty) (constant_of instruction) refl (node_of (constants_of site) instruction t.are) refl (member_effect (constants_of site) instruction t.are) t.goes)
  strict-next pc instruction allowed stack is family found e empty = absurd (cc)

  -- the object of a birth that a call ends
  born-next : (pc : ℕ) (instruction : Instruction) → IsAllowed site receivers pc instruction → (are : List Typed) (below : List Pending) → OpensBelow are below → (built : Built) → built.emitted ≡ Empty
      → born_built (lone_ways (constants_of site) parts) instruction n are below ≡ Some built → IsNext (built, names)
  born-next pc instruction allowed are [] is built empty e = absurd (cc)
  born-next pc instruction allowed are (Kept type atom ∷ below) is built empty e = absurd (cc)
  born-next pc instruction allowed are (Whole type exp ∷ below) is built empty e = absurd (cc)
  born-next pc instruction allowed are (Born made ∷ below) is built empty e =
      let b = both-are (member_birth (constants_of site) instruction made are) (λ exp. and_then (dropped exp) (λ statement. emit (sets statement.1) n below statement.0)) built e in
      let c = both-are (dropped b.one) (λ statement. emit (sets statement.1) n below statement.0) built b.then_is in
      absurd (emit-never (sets c.one.1) n below c.one.0 built c.then_is empty)
  born-next pc instruction allowed are (Again ∷ []) is built empty e = absurd (cc)
  born-next pc instruction allowed are (Again ∷ Kept type atom ∷ below) is built empty e = absurd (cc)
  born-next pc instruction allowed are (Again ∷ Whole type exp ∷ below) is built empty e = absurd (cc)
  born-next pc instruction allowed are (Again ∷ Again ∷ below) is built empty e = absurd (cc)
  born-next pc instruction allowed are (Again ∷ Born made ∷ below) is built empty e = by (member_birth (constants_of site) instruction made are) refl e
    where
      below_it : OpensBelow are (Again ∷ Born made ∷ below) → OpensBelow are below
      below_it (inl lacks) = inl lacks
      below_it (inr h) = inr (h.0, h.1, under-birth made below h.2)

      by : (found : Option Exp) → member_birth (constants_of site) instruction made are ≡ found → ended_birth n made below found ≡ Some built → IsNext (built, names)
      by None b f = absurd (cc)
      by (Some exp) b f =
          next-grown (Whole (Of (Class made)) exp ∷ below)
          (open-whole are below (Of (Class made)) exp (below_it is) (λ ruled. births-keep-rules site roots receivers pc instruction allowed made are exp b n scope ruled) (λ still. birth-still (constants_of site) instruction made are exp b still)) (built, names) (ap (under names) f)

  call-next : (count pc : ℕ) (instruction : Instruction) → IsAllowed site receivers pc instruction → (stack : List Pending) → IsOpen stack → (found : Step) → found.0.emitted ≡ Empty → (born : Option Built)
      → with_operands count [] stack (λ are below. born_built (lone_ways (constants_of site) parts) instruction n are below) ≡ born
      → under names (or_else born (strict_step (lone_ways (constants_of site) parts) instruction n stack (meaning_of site.headers class instruction))) ≡ Some found → IsNext found
  call-next count pc instruction allowed stack is found empty None b e = strict-next pc instruction allowed stack is (meaning_of site.headers class instruction) found e empty
  call-next count pc instruction allowed stack is found empty (Some built) b e =
      let same : (built, names) ≡ found = cc in
      let t = taken count stack (λ are below. born_built (lone_ways (constants_of site) parts) instruction n are below) built is b in
      subst IsNext same (born-next pc instruction allowed t.are t.below t.open_below built (ap (λ (step : Step). step.0.emitted) same ∙ empty) t.goes)

  double-next : (stack : List Pending) → IsOpen stack → ((IsBornTop stack → ⊥) → ⊥) → (found : Step) → double names n stack ≡ Some found → IsNext found
  double-next [] is top found e = absurd (top (λ not. not))
  double-next (Kept type atom ∷ below) is top found e = absurd (top (λ not. not))
  double-next (Whole type exp ∷ below) is top found e = absurd (top (λ not. not))
  double-next (Born made ∷ below) is top found e = next-grown (Again ∷ Born made ∷ below) (open-again (Born made ∷ below) is) found e
  double-next (Again ∷ below) is top found e = absurd (top (λ not. not))

  next-by : (before : Role) (pc : ℕ) (instruction : Instruction) → MayStand site receivers before pc instruction → (stack : List Pending) → IsOpen stack → (before ≡ role.New → IsBornTop stack) → (is_own (pass_of instruction) ≡ false) ⊎ (stack ≡ [])
      → (sort : Sort) → sort_of instruction ≡ sort → is_still sort ≡ true → (found : Step) → advance site.headers class (lone_ways (constants_of site) parts) names pc instruction n stack sort ≡ Some found → found.0.emitted ≡ Empty → IsNext found
  next-by before pc instruction may stack is top sole (Loading of slot) s still found e empty = loaded of slot stack is (at sole) (names slot) refl found e
    where
      at : (is_own (pass_of instruction) ≡ false) ⊎ (stack ≡ []) → ((slot == 0) ≡ false) ⊎ (stack ≡ [])
      at (inl other) = inl (other-slot slot (sym (ap is_own (loading-pass instruction of slot s)) ∙ other))
      at (inr nothing) = inr nothing
  next-by before pc instruction may stack is top sole (Storing of slot) s still found e empty = absurd (false≢true still)
  next-by before pc instruction may stack is top sole (Counting slot by) s still found e empty = absurd (false≢true still)
  next-by before pc instruction may stack is top sole (Moving forms) s still found e empty = absurd (may.never (moving-never instruction forms s))
  next-by before pc instruction may stack is top sole Doubling s still found e empty = double-next stack is (λ not. may.dup (doubling-dup instruction s) (λ new. not (top new))) found e
  next-by before pc instruction may stack is top sole (Dropping two) s still found e empty = absurd (may.never (dropping-never instruction two s))
  next-by before pc instruction may stack is top sole (Making made) s still found e empty = next-grown (Born made ∷ stack) (open-born made stack is) found e
  next-by before pc instruction may stack is top sole (Calling count) s still found e empty =
      call-next count pc instruction may.allowed stack is found empty (with_operands count [] stack (λ are below. born_built (lone_ways (constants_of site) parts) instruction n are below)) refl e
  next-by before pc instruction may stack is top sole Throwing s still found e empty = absurd (false≢true still)
  next-by before pc instruction may stack is top sole Idle s still found e empty = next-grown stack is found e
  next-by before pc instruction may stack is top sole Other s still found e empty = strict-next pc instruction may.allowed stack is (meaning_of site.headers class instruction) found e empty

  -- behind `new` its object is the topmost entry
  born-top : (pc : ℕ) (instruction : Instruction) → role_of instruction ≡ role.New → (stack : List Pending) (found : Step) → advance site.headers class (lone_ways (constants_of site) parts) names pc instruction n stack (sort_of instruction) ≡ Some found → IsBornTop found.0.stack
  born-top pc instruction new stack found e =
      let makes = new-makes instruction new in
      top makes.class (subst (λ (sort : Sort). advance site.headers class (lone_ways (constants_of site) parts) names pc instruction n stack sort ≡ Some found) makes.sort_is e)
    where
      top : (made : Name) → under names (grown n (Born made ∷ stack)) ≡ Some found → IsBornTop found.0.stack
      top made f =
          let same : (record { emitted = Empty; stack = Born made ∷ stack; next = n }, names) ≡ found = cc in
          subst (λ (one : Step). IsBornTop one.0.stack) same tt

  -- ---- one step that emits nothing

  record IsQuiet (pc : ℕ) (instruction : Instruction) (stack : List Pending) (step : Step) : Type 0 where
    found : Step
    is : advance site.headers class (lone_ways (constants_of site) parts) names pc instruction n stack (sort_of instruction) ≡ Some found
    empty : found.0.emitted ≡ Empty
    stack_is : found.0.stack ≡ step.0.stack
    names_is : found.1 ≡ step.1

  abbrev Advance : ℕ → Instruction → ℕ → List Pending → Option Step
  Advance pc instruction from entries = advance site.headers class (lone_ways (constants_of site) parts) names pc instruction from entries (sort_of instruction)

  quiet-first : (pc : ℕ) (instruction : Instruction) (stack : List Pending) (test : Bool) (step : Step) → first_spilled test n stack (λ from entries. Advance pc instruction from entries) ≡ Some step → step.0.emitted ≡ Empty → IsQuiet pc instruction stack step
  quiet-first pc instruction stack false step e empty = record { found = step; is = e; empty = empty; stack_is = refl; names_is = refl }
  quiet-first pc instruction stack true step e empty =
      let b = both-are (spill none n stack) (λ so_far. and_then (Advance pc instruction so_far.next so_far.stack) (λ found. Some (behind_spilled so_far found))) step e in
      let so_far = b.one in
      let c = both-are (Advance pc instruction so_far.next so_far.stack) (λ found. Some (behind_spilled so_far found)) step b.then_is in
      let same : behind_spilled so_far c.one ≡ step = (let some = c.then_is in cc) in
      let both = joined-empty so_far.emitted c.one.0.emitted (ap (λ (one : Step). one.0.emitted) same ∙ empty) in
      let held = spilled-same n stack so_far b.is both.0 in
      record {
        found = c.one;
        is = subst (λ (from : ℕ). Advance pc instruction from stack ≡ Some c.one) held.next_is (subst (λ (entries : List Pending). Advance pc instruction so_far.next entries ≡ Some c.one) held.stack_is c.is);
        empty = both.1;
        stack_is = ap (λ (one : Step). one.0.stack) same;
        names_is = ap (λ (one : Step). one.1) same;
      }

  quiet-later : (pc : ℕ) (instruction : Instruction) (stack : List Pending) (first step : Step) → IsQuiet pc instruction stack first → first.0.stack ≡ step.0.stack → first.1 ≡ step.1 → IsQuiet pc instruction stack step
  quiet-later pc instruction stack first step q stack_same names_same = record { found = q.found; is = q.is; empty = q.empty; stack_is = q.stack_is ∙ stack_same; names_is = q.names_is ∙ names_same }

  quiet-then : (pc : ℕ) (instruction : Instruction) (stack : List Pending) (first : Step) → (first.0.emitted ≡ Empty → IsQuiet pc instruction stack first) → (test : Bool) (step : Step) → then_spilled test first ≡ Some step → step.0.emitted ≡ Empty → IsQuiet pc instruction stack step
  quiet-then pc instruction stack first quiet false step e empty =
      let same : first ≡ step = cc in
      subst (IsQuiet pc instruction stack) same (quiet (ap (λ (one : Step). one.0.emitted) same ∙ empty))
  quiet-then pc instruction stack first quiet true step e empty =
      let b = both-are (spill none first.0.next first.0.stack) (λ so_far. Some (record { emitted = joined first.0.emitted so_far.emitted; stack = so_far.stack; next = so_far.next }, first.1)) step e in
      let same : (record { emitted = joined first.0.emitted b.one.emitted; stack = b.one.stack; next = b.one.next }, first.1) ≡ step = (let some = b.then_is in cc) in
      let both = joined-empty first.0.emitted b.one.emitted (ap (λ (one : Step). one.0.emitted) same ∙ empty) in
      let held = spilled-same first.0.next first.0.stack b.one b.is both.1 in
      quiet-later pc instruction stack first step (quiet both.0) (sym held.stack_is ∙ ap (λ (one : Step). one.0.stack) same) (ap (λ (one : Step). one.1) same)

  quiet-one : (pc : ℕ) (instruction : Instruction) (stack : List Pending) (step : Step) → advance_one site.headers class (lone_ways (constants_of site) parts) names pc instruction n stack ≡ Some step → step.0.emitted ≡ Empty → IsQuiet pc instruction stack step
  quiet-one pc instruction stack step e empty =
      let b = both-are (first_spilled ((lone_ways (constants_of site) parts).before instruction stack) n stack (λ from entries. Advance pc instruction from entries)) (λ found. then_spilled ((lone_ways (constants_of site) parts).after found.0.stack) found) step e in
      quiet-then pc instruction stack b.one (λ empty. quiet-first pc instruction stack ((lone_ways (constants_of site) parts).before instruction stack) b.one b.is empty) ((lone_ways (constants_of site) parts).after b.one.0.stack) step b.then_is empty

  -- ---- the walk

  rising-least : (least : ℕ) (list : Instructions) → IsRisingFrom least list → (one : ℕ × Instruction) → Contains list one → least ≤ one.0
  rising-least least [] rising one (place, less, is) = absurd (omega (arith, less))
  rising-least least (first ∷ rest) rising one (zero, less, is) = let same : first.0 ≡ one.0 = ap (λ (at : ℕ × Instruction). at.0) is in omega (arith, same, rising.0)
  rising-least least (first ∷ rest) rising one (suc place, less, is) = let later = rising-least (first.0 + 1) rest rising.1 one (place, omega (arith, less), is) in omega (arith, later, rising.0)

  abbrev Opens : Names → List Pending → Instructions → Option Opened
  Opens held stack list = opened site.headers class (lone_ways (constants_of site) parts) starts own n held stack list

  abbrev BeforeCall : Names → ℕ × Instruction → Instructions → List Pending → Option Step
  BeforeCall held first rest stack = before_call site.headers class (lone_ways (constants_of site) parts) starts own n held first rest stack

  -- the call is there
  opened-there : (list : Instructions) (held : Names) (stack : List Pending) (found : Opened) → Opens held stack list ≡ Some found → (instruction : Instruction) × Contains list (own, instruction)
  opened-there [] held stack found e = absurd (cc)
  opened-there (first ∷ rest) held stack found e = by (first.0 == own) refl e (λ held stack e. opened-there rest held stack found e)
    where
      by : (test : Bool) → (first.0 == own) ≡ test
          → (if test then called_at site.headers class (lone_ways (constants_of site) parts) starts own n first rest stack else and_then (BeforeCall held first rest stack) (λ step. Opens step.1 step.0.stack rest)) ≡ Some found
          → ((held : Names) (stack : List Pending) → Opens held stack rest ≡ Some found → (instruction : Instruction) × Contains rest (own, instruction)) → (instruction : Instruction) × Contains (first ∷ rest) (own, instruction)
      by true at f further = (first.1, (0, omega arith, ap (λ (pc : ℕ). (pc, first.1)) (eqb-true first.0 own at)))
      by false at f further =
          let b = both-are (BeforeCall held first rest stack) (λ step. Opens step.1 step.0.stack rest) found f in
          let later = further b.one.1 b.one.0.stack b.then_is in
          (later.0, (suc later.1.0, omega (arith, later.1.1), later.1.2))

  -- its operands, above `this`
  own-taken : (count : ℕ) (before : List Typed) (above : List Pending) (type : StaticType) (are : List Typed) → AreRuledOperands site n scope before → AssignNothing before → AreRuled site n scope above → AreCalm above
      → own_operands count before (above ++ Kept type Own ∷ []) ≡ Some are → AreRuledOperands site n scope are × AssignNothing are
  own-taken zero before above type are ruled still entries calm e =
      let made = made-if (is_own_alone (above ++ Kept type Own ∷ [])) (Some before) are e in
      let same : before ≡ are = (let some = made.1 in cc) in
      (subst (AreRuledOperands site n scope) same ruled, subst AssignNothing same still)
  own-taken (suc zero) before [] type are ruled still entries calm e = absurd (cc)
  own-taken (suc (suc count)) before [] type are ruled still entries calm e = absurd (cc)
  own-taken (suc count) before (Kept own_type atom ∷ above) type are ruled still entries calm e =
      own-taken count ((own_type, exp_of atom) ∷ before) above type are (entries.0, ruled) (atom-still atom, still) entries.1 calm e
  own-taken (suc count) before (Whole own_type exp ∷ above) type are ruled still entries calm e =
      own-taken count ((own_type, exp) ∷ before) above type are (entries.0, ruled) (calm.0, still) entries.1 calm.1 e
  own-taken (suc count) before (Born made ∷ above) type are ruled still entries calm e = absurd (cc)
  own-taken (suc count) before (Again ∷ above) type are ruled still entries calm e = absurd (cc)

  lacks-alone : (stack : List Pending) → LacksOwn stack → is_own_alone stack ≡ true → ⊥
  lacks-alone [] lacks e = false≢true e
  lacks-alone (Kept type (Number number) ∷ below) lacks e = false≢true e
  lacks-alone (Kept type (Wide number) ∷ below) lacks e = false≢true e
  lacks-alone (Kept type (Units units) ∷ below) lacks e = false≢true e
  lacks-alone (Kept type Nothing ∷ below) lacks e = false≢true e
  lacks-alone (Kept type Own ∷ below) lacks e = lacks.0 refl
  lacks-alone (Kept type (Named variable) ∷ below) lacks e = false≢true e
  lacks-alone (Whole type exp ∷ below) lacks e = false≢true e
  lacks-alone (Born made ∷ below) lacks e = false≢true e
  lacks-alone (Again ∷ below) lacks e = false≢true e

  own-lost : (count : ℕ) (before : List Typed) (stack : List Pending) (are : List Typed) → LacksOwn stack → own_operands count before stack ≡ Some are → ⊥
  own-lost zero before stack are lacks e = lacks-alone stack lacks (made-if (is_own_alone stack) (Some before) are e).0
  own-lost (suc count) before [] are lacks e = cc
  own-lost (suc count) before (Kept type atom ∷ below) are lacks e = own-lost count ((type, exp_of atom) ∷ before) below are lacks.1 e
  own-lost (suc count) before (Whole type exp ∷ below) are lacks e = own-lost count ((type, exp) ∷ before) below are lacks e
  own-lost (suc count) before (Born made ∷ below) are lacks e = cc
  own-lost (suc count) before (Again ∷ below) are lacks e = cc

  own-open : (count : ℕ) (stack : List Pending) (are : List Typed) → IsOpen stack → own_operands count [] stack ≡ Some are → AreRuledOperands site n scope are × AssignNothing are
  own-open count stack are (lost lacks) e = absurd (own-lost count [] stack are lacks e)
  own-open count stack are (over o) e =
      own-taken count [] o.above o.type are tt tt o.good.ruled o.good.calm (subst (λ (list : List Pending). own_operands count [] list ≡ Some are) o.is e)

  called : (first : ℕ × Instruction) (rest : Instructions) → IsRisingFrom (first.0 + 1) rest → (stack : List Pending) → IsOpen stack → (found : Opened) → first.0 ≡ own
      → (if starts (pc_of rest) then None else and_then (own_call first.1 stack) (λ call. Some (call.0, call.1, rest))) ≡ Some found → IsCalled site own n scope (first ∷ rest) found
  called first rest rising stack is found at e = by (starts (pc_of rest)) e
    where
      by : (test : Bool) → (if test then None else and_then (own_call first.1 stack) (λ call. Some (call.0, call.1, rest))) ≡ Some found → IsCalled site own n scope (first ∷ rest) found
      by true f = absurd (cc)
      by false f =
          let b = both-are (own_call first.1 stack) (λ call. Some (call.0, call.1, rest)) found f in
          let c = both-are (constructor_in first.1) (λ method. and_then (own_operands (length (parameters_of method.descriptor)) [] stack) (λ are. Some (method, are))) b.one b.is in
          let d = both-are (own_operands (length (parameters_of c.one.descriptor)) [] stack) (λ are. Some (c.one, are)) b.one c.then_is in
          let pair : (c.one, d.one) ≡ b.one = (let some = d.then_is in cc) in
          let same : (b.one.0, b.one.1, rest) ≡ found = (let some = b.then_is in cc) in
          let method_is : c.one ≡ found.0 = ap (λ (one : MethodRef × List Typed). one.0) pair ∙ ap (λ (one : Opened). one.0) same in
          let are_is : d.one ≡ found.1 = ap (λ (one : MethodRef × List Typed). one.1) pair ∙ ap (λ (one : Opened). one.1) same in
          let good = own-open (length (parameters_of c.one.descriptor)) stack d.one is d.is in
          record {
            instruction = first.1;
            there = (0, omega arith, ap (λ (pc : ℕ). (pc, first.1)) at);
            method_is = c.is ∙ ap (λ (one : MethodRef). Some one) method_is;
            ruled = subst (AreRuledOperands site n scope) are_is good.0;
            still = subst AssignNothing are_is good.1;
            behind = λ one has.
                let inside = subst (λ (list : Instructions). Contains list one) (sym (ap (λ (one : Opened). one.2) same)) has in
                let least = rising-least (first.0 + 1) rest rising one inside in
                ((suc inside.0, omega (arith, inside.1), inside.2), omega (arith, least, at));
          }

  -- behind one instruction before the call
  record IsAhead (first : ℕ × Instruction) (step : Step) : Type 0 where
    next : IsNext step
    top : role_of first.1 ≡ role.New → IsBornTop step.0.stack

  ahead : (before : Role) (first : ℕ × Instruction) (rest : Instructions) → MayStand site receivers before first.0 first.1 → (stack : List Pending) → IsOpen stack → (before ≡ role.New → IsBornTop stack) → (is_own (pass_of first.1) ≡ false) ⊎ (stack ≡ [])
      → (step : Step) → BeforeCall names first rest stack ≡ Some step → IsAhead first step
  ahead before first rest may stack is top sole step e =
      let made = made-if (continues (sort_of first.1) (meaning_of site.headers class first.1) && (is_still (sort_of first.1) && not (starts (pc_of rest)))) (quiet_step n (advance_one site.headers class (lone_ways (constants_of site) parts) names first.0 first.1 n stack)) step e in
      let still = (and_parts (is_still (sort_of first.1)) (not (starts (pc_of rest))) (and_parts (continues (sort_of first.1) (meaning_of site.headers class first.1)) (is_still (sort_of first.1) && not (starts (pc_of rest))) made.0).1).0 in
      by (advance_one site.headers class (lone_ways (constants_of site) parts) names first.0 first.1 n stack) refl still made.1
    where
      by : (found : Option Step) → advance_one site.headers class (lone_ways (constants_of site) parts) names first.0 first.1 n stack ≡ found → is_still (sort_of first.1) ≡ true → quiet_step n found ≡ Some step → IsAhead first step
      by None a still f = absurd (cc)
      by (Some one) a still f =
          let made = made-if (is_empty one.0.emitted && one.0.next == n) (Some one) step f in
          let same : one ≡ step = (let some = made.1 in cc) in
          let empty = empty-is one.0.emitted (and_parts (is_empty one.0.emitted) (one.0.next == n) made.0).0 in
          let q = quiet-one first.0 first.1 stack one a empty in
          let next = next-by before first.0 first.1 may stack is top sole (sort_of first.1) refl still q.found q.is q.empty in
          subst (IsAhead first) same (record {
            next = record { open_there = subst IsOpen q.stack_is next.open_there; names_are = sym q.names_is ∙ next.names_are };
            top = λ new. subst IsBornTop q.stack_is (born-top first.0 first.1 new stack q.found q.is);
          })

  walks : (list : Instructions) (least : ℕ) → IsRisingFrom least list → (before : Role) → AreBefore site receivers own before list → (stack : List Pending) → (least ≡ 0 → stack ≡ []) → IsOpen stack → (before ≡ role.New → IsBornTop stack)
      → (found : Opened) → Opens names stack list ≡ Some found → IsCalled site own n scope list found
  walks [] least rising before are stack nothing is top found e = absurd (cc)
  walks (first ∷ rest) least rising before are stack nothing is top found e =
      by (first.0 == own) refl e (λ stack nothing is top e. walks rest (first.0 + 1) rising.1 (role_of first.1) are.1 stack nothing is top found e)
    where
      sole : (pc : ℕ) → least ≤ pc → (0 < pc → is_own (pass_of first.1) ≡ false) → (is_own (pass_of first.1) ≡ false) ⊎ (stack ≡ [])
      sole zero low other = inr (nothing (omega (arith, low)))
      sole (suc pc) low other = inl (other (omega arith))

      by : (test : Bool) → (first.0 == own) ≡ test
          → (if test then called_at site.headers class (lone_ways (constants_of site) parts) starts own n first rest stack else and_then (BeforeCall names first rest stack) (λ step. Opens step.1 step.0.stack rest)) ≡ Some found
          → ((stack : List Pending) → (first.0 + 1 ≡ 0 → stack ≡ []) → IsOpen stack → (role_of first.1 ≡ role.New → IsBornTop stack) → Opens names stack rest ≡ Some found → IsCalled site own n scope rest found) → IsCalled site own n scope (first ∷ rest) found
      by true at f further = called first rest rising.1 stack is found (eqb-true first.0 own at) f
      by false at f further =
          let b = both-are (BeforeCall names first rest stack) (λ step. Opens step.1 step.0.stack rest) found f in
          let later = opened-there rest b.one.1 b.one.0.stack found b.then_is in
          let less = rising-least (first.0 + 1) rest rising.1 (own, later.0) later.1 in
          let known = are.0 (omega (arith, less)) in
          let a = ahead before first rest known.may stack is top (sole first.0 rising.0 known.sole) b.one b.is in
          let c = further b.one.0.stack (λ never. absurd (omega (arith, never))) a.next.open_there a.top (subst (λ (held : Names). Opens held b.one.0.stack rest ≡ Some found) a.next.names_are b.then_is) in
          record {
            instruction = c.instruction;
            there = (suc c.there.0, omega (arith, c.there.1), c.there.2);
            method_is = c.method_is;
            ruled = c.ruled;
            still = c.still;
            behind = λ one has. let h = c.behind one has in ((suc h.0.0, omega (arith, h.0.1), h.0.2), h.1);
          }

  -- the walk from the beginning
  pub call-found : (list : Instructions) → IsRisingFrom 0 list → AreBefore site receivers own role.Plain list → (found : Opened)
      → opened site.headers parts.typed.code.class (lone_ways (constants_of site) parts) starts own n names [] list ≡ Some found → IsCalled site own n scope list found
  call-found list rising are found e = walks list 0 rising role.Plain are [] (λ same. refl) (lost tt) (λ same. absurd (cc)) found e
