-- The variables of code belong to slots, each to its own; as the one block begins, the slots are named by such variables, and what an instruction writes is one of its slot.
use Rattle.std.proofs.Common.{arith, ℕ, zero, suc, ◌+◌, ◌<◌, ◌≤◌, ◌==◌, ◌≡◌, ◌≢◌, Bool, true, false, List, [], ◌∷◌, length, drop, Contains, Option, Some, None, IfSome, ⊎_elim, refl, sym, ap, ◌∙◌, subst}
use Rattle.std.specs.Prelude.{◌&&◌, nat_lt, if◌then◌else◌, slice_get}
use Rattle.std.proofs.lemmas.Bool.{and_parts, ltb-true, lt-ltb, eqb-true, false≢true}
use Rattle.std.proofs.lemmas.Bool.Decides.{eqb_tells}
use Rattle.std.proofs.lemmas.Option.{slice_get_within, slice_get_past}
use Rattle.dj_names.specs.declared.header.Header.{Header}
use Rattle.dj_names.specs.MethodNames.{is_constructor}
use Rattle.dj_names.specs.Types.{JType, Class, Of, result_of, parameters_of}
use Rattle.dj_syntax.specs.declared.variable.Var.{Var}
use Rattle.dj_instructions.specs.declared.kinds.Kind.{Kind}
use Rattle.dj_instructions.specs.declared.kinds.Kind.TheVariants as kinds
use Rattle.dj_instructions.specs.Instructions.{MethodRef, Instruction, Instructions, IsRising}
use Rattle.dj_instructions.specs.Instructions as op
use Rattle.dj_frames.specs.Frames.{Tag}
use Rattle.dj_code.specs.MethodCode.{Code, Typed}
use Rattle.dj_tags.specs.Goes.{Working}
use Rattle.dj_tags.specs.Laxly.{Strictly}
use Rattle.dj_effects.specs.Rows.{birth, super_call, leave, work}
use Rattle.dj_effects.specs.Spelled.{is_spelled}
use Rattle.dj_effects.specs.Works.{Never}
use Rattle.dj_effects.specs.Effects.{kind_words, locals_needed}
use Rattle.dj_effects.specs.Operands.{HasOperands}
use Rattle.dj_verify.specs.declared.rule.Rule.TheVariants as rule
use Rattle.dj_verify.specs.Rules.{FrameKeeps, entry}
use Rattle.dj_verify.specs.Rules as rules_of
use Rattle.dj_bytecode.specs.Meanings.{meaning_of}
use Rattle.dj_bytecode.specs.Machine.{code_from}
use Rattle.dj_sound.specs.States.{table_of, IsStrict}
use Rattle.dj_meaning.specs.StaticTypes.{Context, Scope}
use Rattle.dj_meaning.specs.StaticTypes as static_types
use Rattle.dj_rebuilding.specs.Pending.{Atom, Own, Named, exp_of, and_then}
use Rattle.dj_rebuilding.specs.Agreeing.{IsEntry}
use Rattle.dj_rebuilt.specs.Sorts.{Storing, Counting, sort_of}
use Rattle.dj_rebuilt.specs.Rebuilding.{Ways, atom_type}
use Rattle.dj_rebuilt.specs.Located.{IsReady, AreNames, WritesTo, by_store, by_count, Owns, AllOwn}
use Rattle.dj_vars.specs.Naming.{Typing, Vars, IsAt, Writes, WritesAt, HasType, by_write, AreVars, written_slot}
use Rattle.dj_vars.specs.Naming as naming
use Rattle.dj_vars.specs.Agreeing.{local_variable}
use Rattle.dj_blocks_shown.specs.Leaving.{Parts}
use Rattle.dj_standing.proofs.Places.{one-place, head-is, frame-at, frame-there}
use Rattle.dj_edges.specs.Edges.{keeps_this}
use Rattle.dj_declaring.specs.Formed.{local_type}
use Rattle.dj_declaring.specs.Starting.{tree_scope}
use Rattle.dj_one_block.specs.OneBlock.{variable_of, first_name}

some-is : {A : Type 0} (one other : A) → Some one ≡ Some other → one ≡ other
some-is one other e = cc

-- ---- where an instruction stands

-- code begins with its first instruction
pub begins-whole : (list : Instructions) → IsRising list → code_from 0 list ≡ list
begins-whole [] rising = refl
begins-whole (first ∷ rest) rising = by (first.0) rising.0
  where
    by : (pc : ℕ) → pc ≡ 0 → (if pc == 0 then first ∷ rest else code_from 0 rest) ≡ first ∷ rest
    by zero e = refl
    by (suc pc) e = absurd (omega (arith, e))

-- an instruction of code finds its operands, and has room for what it writes
record Stays (world : List Header) (code : Code) (first : ℕ × Instruction) (frame : Working) : Type 0 where
  operands : HasOperands (Strictly world) world code first.0 (work code first.1) frame
  room : locals_needed (work code first.1) ≤ code.max_locals

stays : (world : List Header) (typed : Typed) → IsStrict world typed → (place : ℕ) (first : ℕ × Instruction) (rest : Instructions) → drop place typed.code.instructions ≡ first ∷ rest → (frame : Working) × Stays world typed.code first frame
stays world typed strict place first rest e =
    let frame = frame-there typed.code.instructions (table_of typed) place first rest strict.table.number e in
    let found = frame-at (Strictly world) world typed.code (Some (entry typed.code)) typed.code.instructions (table_of typed) strict.table.are place first rest frame.0 e frame.1 in
    let here : rules_of.Place = record { flow = found.flow; pc = first.0; instruction = first.1; rest = rest } in (
      frame.0,
      record {
        operands = subst (λ (held : Option Working). IfSome held (λ f. FrameKeeps (Strictly world) world typed.code here f rule.Operands)) found.are.0 found.are.1.1.1.0;
        room = (subst (λ (held : Option Working). IfSome held (λ f. FrameKeeps (Strictly world) world typed.code here f rule.Room)) found.are.0 found.are.1.1.1.1.0).2;
      },
    )

-- the place of an instruction of code
pub place-of : (list : Instructions) (first : ℕ × Instruction) → Contains list first → (place : ℕ) × (rest : Instructions) × (drop place list ≡ first ∷ rest)
place-of [] first (place, less, is) = absurd (omega (arith, less))
place-of (one ∷ more) first (zero, less, is) = (0, more, ap (λ (at : ℕ × Instruction). at ∷ more) is)
place-of (one ∷ more) first (suc place, less, is) = let found = place-of more first (place, omega (arith, less), is) in (suc found.0, found.1, found.2)

-- `return` stands in methods without a result alone
pub returns-nothing : (world : List Header) (typed : Typed) → IsStrict world typed → (pc : ℕ) (instruction : Instruction) → Contains typed.code.instructions (pc, instruction) → instruction ≡ op.Return None → result_of typed.code.descriptor ≡ None
returns-nothing world typed strict pc instruction has is =
    let at = place-of typed.code.instructions (pc, instruction) has in
    let kept = stays world typed strict at.0 (pc, instruction) at.1 at.2 in
    by (result_of typed.code.descriptor) kept.0 (subst (λ (one : Instruction). HasOperands (Strictly world) world typed.code pc (work typed.code one) kept.0) is kept.1.operands)
  where
    by : (result : Option JType) (frame : Working) → HasOperands (Strictly world) world typed.code pc (leave result None) frame → result ≡ None
    by None frame has = refl
    by (Some type) frame has = absurd has

-- a constructor that is called gives nothing
pub constructs-nothing : (world : List Header) (typed : Typed) → IsStrict world typed → (pc : ℕ) (method : MethodRef) → Contains typed.code.instructions (pc, op.InvokeSpecial method) → is_constructor method.name ≡ true → result_of method.descriptor ≡ None
constructs-nothing world typed strict pc method has named =
    let at = place-of typed.code.instructions (pc, op.InvokeSpecial method) has in
    let kept = stays world typed strict at.0 (pc, op.InvokeSpecial method) at.1 at.2 in
    by (is_spelled (op.InvokeSpecial method)) (is_constructor method.name) (result_of method.descriptor) kept.0 named kept.1.operands
  where
    by : (spelled constructs : Bool) (result : Option JType) (frame : Working) → constructs ≡ true
        → HasOperands (Strictly world) world typed.code pc (if spelled then (if constructs then birth method.descriptor method.owner result else super_call typed.code method.descriptor method.owner) else Never) frame → result ≡ None
    by true true None frame named has = refl
    by true true (Some type) frame named has = absurd has
    by true false result frame named has = absurd (false≢true named)
    by false constructs result frame named has = absurd has

-- ---- what instructions write

-- the slot of an instruction that writes one
abbrev own_slot : Instruction → Option ℕ
own_slot instruction = written_slot (meaning_of [] [] instruction)

-- it is there
record IsWritten (world : List Header) (code : Code) (pc : ℕ) (instruction : Instruction) (slot : ℕ) : Type 0 where
  own : own_slot instruction ≡ Some slot
  within : (frame : Working) → Stays world code (pc, instruction) frame → slot < code.max_locals

words : (most slot : ℕ) (of : Kind) → slot + kind_words of ≤ most → slot < most
words most slot kinds.Int h = omega arith
words most slot kinds.Long h = omega arith
words most slot kinds.Float h = omega arith
words most slot kinds.Double h = omega arith
words most slot kinds.Ref h = omega arith

writes-is : (world : List Header) (code : Code) (pc : ℕ) (instruction : Instruction) (slot : ℕ) → WritesTo (sort_of instruction) slot → IsWritten world code pc instruction slot
writes-is world code pc op.Nop slot writes = elim writes [ ]
writes-is world code pc op.PushNull slot writes = elim writes [ ]
writes-is world code pc (op.Push constant) slot writes = elim writes [ ]
writes-is world code pc (op.PushClass type) slot writes = elim writes [ ]
writes-is world code pc (op.PushHandle kind interface owner name descriptor) slot writes = elim writes [ ]
writes-is world code pc (op.PushMethodType descriptor) slot writes = elim writes [ ]
writes-is world code pc (op.Load kind other) slot writes = elim writes [ ]
writes-is world code pc (op.Store kind other) slot writes = by writes
  where
    by : {slot : ℕ} → WritesTo (Storing kind other) slot → IsWritten world code pc (op.Store kind other) slot
    by by_store = record { own = refl; within = λ frame kept. words code.max_locals other kind kept.room }
writes-is world code pc (op.ArrayLoad element) slot writes = elim writes [ ]
writes-is world code pc (op.ArrayStore element) slot writes = elim writes [ ]
writes-is world code pc op.Pop slot writes = elim writes [ ]
writes-is world code pc op.Pop2 slot writes = elim writes [ ]
writes-is world code pc op.Dup slot writes = elim writes [ ]
writes-is world code pc op.DupX1 slot writes = elim writes [ ]
writes-is world code pc op.DupX2 slot writes = elim writes [ ]
writes-is world code pc op.Dup2 slot writes = elim writes [ ]
writes-is world code pc op.Dup2X1 slot writes = elim writes [ ]
writes-is world code pc op.Dup2X2 slot writes = elim writes [ ]
writes-is world code pc op.Swap slot writes = elim writes [ ]
writes-is world code pc (op.Calc operation kind) slot writes = elim writes [ ]
writes-is world code pc (op.Iinc other by) slot writes = at writes
  where
    at : {slot : ℕ} → WritesTo (Counting other by) slot → IsWritten world code pc (op.Iinc other by) slot
    at by_count = record { own = refl; within = λ frame kept. kept.operands.0 }
writes-is world code pc (op.Convert from to) slot writes = elim writes [ ]
writes-is world code pc (op.Compare kind greater) slot writes = elim writes [ ]
writes-is world code pc (op.IfZero test target) slot writes = elim writes [ ]
writes-is world code pc (op.IfInts test target) slot writes = elim writes [ ]
writes-is world code pc (op.IfRefs equal target) slot writes = elim writes [ ]
writes-is world code pc (op.IfNull null target) slot writes = elim writes [ ]
writes-is world code pc (op.Goto target) slot writes = elim writes [ ]
writes-is world code pc (op.TableSwitch low targets other) slot writes = elim writes [ ]
writes-is world code pc (op.LookupSwitch cases other) slot writes = elim writes [ ]
writes-is world code pc (op.Return kind) slot writes = elim writes [ ]
writes-is world code pc (op.GetStatic field) slot writes = elim writes [ ]
writes-is world code pc (op.PutStatic field) slot writes = elim writes [ ]
writes-is world code pc (op.GetField field) slot writes = elim writes [ ]
writes-is world code pc (op.PutField field) slot writes = elim writes [ ]
writes-is world code pc (op.InvokeVirtual method) slot writes = elim writes [ ]
writes-is world code pc (op.InvokeSpecial method) slot writes = elim writes [ ]
writes-is world code pc (op.InvokeStatic method) slot writes = elim writes [ ]
writes-is world code pc (op.InvokeInterface method) slot writes = elim writes [ ]
writes-is world code pc (op.InvokeDynamic bootstrap name descriptor) slot writes = elim writes [ ]
writes-is world code pc (op.New name) slot writes = elim writes [ ]
writes-is world code pc (op.NewArray element) slot writes = elim writes [ ]
writes-is world code pc (op.MultiNewArray type sizes) slot writes = elim writes [ ]
writes-is world code pc op.ArrayLength slot writes = elim writes [ ]
writes-is world code pc op.Throw slot writes = elim writes [ ]
writes-is world code pc (op.CheckCast type) slot writes = elim writes [ ]
writes-is world code pc (op.InstanceOf type) slot writes = elim writes [ ]
writes-is world code pc op.MonitorEnter slot writes = elim writes [ ]
writes-is world code pc op.MonitorExit slot writes = elim writes [ ]

writes-own : (frame : Working) (instruction : Instruction) (slot : ℕ) (tag : Tag) → Writes frame instruction slot tag → own_slot instruction ≡ Some slot
writes-own frame instruction slot tag (naming.by_store e) = refl
writes-own frame instruction slot tag naming.by_count = refl

-- ---- the slots of variables

module _ (parts : Parts) (are : AreVars parts.typed parts.starts parts.vars) where
  abbrev pub base : ℕ
  base = length parts.vars.kinds

  abbrev owner_by : (number : ℕ) (test : Bool) → nat_lt number base ≡ test → ℕ
  owner_by number true less = (are.each number (ltb-true number base less)).0.slot
  owner_by number false less = 0

  -- that of a variable of the code
  abbrev pub owner : Var → ℕ
  owner variable = owner_by variable.number (nat_lt variable.number base) refl

  owns-by : (slot : ℕ) (type : JType) → HasType parts.typed parts.starts slot type → (test : Bool) (e : nat_lt (are.number slot type) base ≡ test) → owner_by (are.number slot type) test e ≡ slot
  owns-by slot type has true e =
      let one = are.each (are.number slot type) (ltb-true (are.number slot type) base e) in
      ap (λ (typing : Typing). typing.slot) (are.apart one.0 (record { slot = slot; type = type }) one.1 has one.2)
  owns-by slot type has false e = absurd (false≢true (sym e ∙ lt-ltb (are.number slot type) base (slice_get_within parts.vars.kinds (are.number slot type) type (are.kinds slot type has))))

  pub owner-of : (slot variable : ℕ) (type : JType) → HasType parts.typed parts.starts slot type → are.number slot type ≡ variable → owner (local_variable variable) ≡ slot
  owner-of slot variable type has same = subst (λ (number : ℕ). owner (local_variable number) ≡ slot) same (owns-by slot type has (nat_lt (are.number slot type) base) refl)

  -- ---- names at the start

  -- the name of a slot as the code begins: `this`, or a variable
  pub data NameAt (slot : ℕ) : JType → Atom → Type 0 where
    by_this : keeps_this parts.typed.code ≡ true → slot ≡ 0 → NameAt slot (Class parts.typed.code.class) Own
    by_variable : {variable : ℕ} {type : JType} → (keeps_this parts.typed.code && slot == 0) ≡ false → parts.vars.of 0 slot ≡ Some variable → slice_get parts.vars.kinds variable ≡ Some type → NameAt slot type (Named (local_variable variable))

  pub name-at : (slot : ℕ) (type : JType) (atom : Atom) → first_name parts slot ≡ Some (type, atom) → (nat_lt slot parts.typed.code.max_locals ≡ true) × NameAt slot type atom
  name-at slot type atom e = outer (nat_lt slot parts.typed.code.max_locals) refl e
    where
      kinded : (variable : ℕ) (kind : Option JType) → slice_get parts.vars.kinds variable ≡ kind → parts.vars.of 0 slot ≡ Some variable → (keeps_this parts.typed.code && slot == 0) ≡ false
          → and_then {A = Var × JType} {B = JType × Atom} (and_then {A = JType} {B = Var × JType} kind (λ type. Some (local_variable variable, type))) (λ found. Some (found.1, Named found.0)) ≡ Some (type, atom) → NameAt slot type atom
      kinded variable None is named other e = absurd (cc)
      kinded variable (Some kind) is named other e =
          let same : (kind, Named (local_variable variable)) ≡ (type, atom) = some-is (kind, Named (local_variable variable)) (type, atom) e in
          subst (λ (one : JType × Atom). NameAt slot one.0 one.1) same (by_variable other named is)

      variable-at : (number : Option ℕ) → parts.vars.of 0 slot ≡ number → (keeps_this parts.typed.code && slot == 0) ≡ false
          → and_then {A = Var × JType} {B = JType × Atom} (variable_of parts.vars.kinds number) (λ found. Some (found.1, Named found.0)) ≡ Some (type, atom) → NameAt slot type atom
      variable-at None named other e = absurd (cc)
      variable-at (Some variable) named other e = kinded variable (slice_get parts.vars.kinds variable) refl named other e

      middle : (test : Bool) → (keeps_this parts.typed.code && slot == 0) ≡ test → (if test then Some (Class parts.typed.code.class, Own) else and_then {A = Var × JType} {B = JType × Atom} (variable_of parts.vars.kinds (parts.vars.of 0 slot)) (λ found. Some (found.1, Named found.0))) ≡ Some (type, atom) → NameAt slot type atom
      middle true is e =
          let both = and_parts (keeps_this parts.typed.code) (slot == 0) is in
          let same : (Class parts.typed.code.class, Own) ≡ (type, atom) = some-is (Class parts.typed.code.class, Own) (type, atom) e in
          subst (λ (one : JType × Atom). NameAt slot one.0 one.1) same (by_this both.0 (eqb-true slot 0 both.1))
      middle false is e = variable-at (parts.vars.of 0 slot) refl is e

      outer : (test : Bool) → nat_lt slot parts.typed.code.max_locals ≡ test → (if test then (if keeps_this parts.typed.code && slot == 0 then Some (Class parts.typed.code.class, Own) else and_then {A = Var × JType} {B = JType × Atom} (variable_of parts.vars.kinds (parts.vars.of 0 slot)) (λ found. Some (found.1, Named found.0))) else None) ≡ Some (type, atom)
          → (nat_lt slot parts.typed.code.max_locals ≡ true) × NameAt slot type atom
      outer true is e = (is, middle (keeps_this parts.typed.code && slot == 0) refl e)
      outer false is e = absurd (cc)

  abbrev pub code_scope : Scope
  code_scope = tree_scope (parameters_of parts.typed.code.descriptor) parts.vars.kinds

  -- with fresh variables from a number on that is past those of the code
  module _ (n : ℕ) (low : base ≤ n) (context : Context) (class : context.class ≡ parts.typed.code.class) where
    pub names-lawful : AreNames context n parts.typed.code.max_locals code_scope owner (first_name parts)
    names-lawful = record {
      within = λ slot type atom e. ltb-true slot parts.typed.code.max_locals (name-at slot type atom e).0;
      entries = λ slot type atom e. are-entries slot type atom (name-at slot type atom e).1;
      owned = λ slot type variable e. are-owned slot type (Named variable) (name-at slot type (Named variable) e).1 variable refl;
    }
      where
        are-entries : (slot : ℕ) (type : JType) (atom : Atom) → NameAt slot type atom → IsEntry context n code_scope (atom_type type atom) (exp_of atom)
        are-entries slot type atom (by_this keeps first) = record { small = tt; typed = ap (λ (name : List ℕ). Some (Of (Class name))) class }
        are-entries slot type atom (by_variable {variable} {type = kind} other named is) = record { small = (let less = slice_get_within parts.vars.kinds variable kind is in omega (arith, less, low)); typed = ap (λ (found : Option JType). static_types.typed (local_type found false)) is }

        are-owned : (slot : ℕ) (type : JType) (atom : Atom) → NameAt slot type atom → (variable : Var) → atom ≡ Named variable → owner variable ≡ slot
        are-owned slot type atom (by_this keeps first) variable same = absurd (cc)
        are-owned slot type atom (by_variable {variable = number} other named is) variable same =
            let mine = are.of_type 0 slot number named in
            subst (λ (one : Var). owner one ≡ slot) (let is_it : local_variable number ≡ variable = cc in is_it) (owner-of slot number mine.0 mine.1 mine.2)

    pub begins-ready : IsReady context n code_scope n code_scope []
    begins-ready = record {
      low = omega arith;
      clear = λ k less. ap (λ (found : Option JType). local_type found false) (slice_get_past parts.vars.kinds k (omega (arith, less, low)));
      same = λ variable below. refl;
      entries = tt;
    }

  -- ---- what is written

  module _ (n : ℕ) (low : base ≤ n) (world : List Header) (strict : IsStrict world parts.typed) (ways : Ways) (target : (pc : ℕ) → ways.target pc ≡ variable_of parts.vars.kinds (parts.vars.after pc)) where
    same-slot-at : (place : ℕ) (pc : ℕ) (instruction : Instruction) (rest : Instructions) → drop place parts.typed.code.instructions ≡ (pc, instruction) ∷ rest → (slot other : ℕ) (type : JType) → own_slot instruction ≡ Some slot → WritesAt parts.typed pc other type → other ≡ slot
    same-slot-at place pc instruction rest here slot other type own writes =
        let at = writes.at in
        let one : place ≡ at.place = one-place (pc, instruction) rest (pc, writes.instruction) at.rest parts.typed.code.instructions place at.place strict.rising here at.here refl in
        let same : (pc, instruction) ≡ (pc, writes.instruction) = head-is (pc, instruction) (pc, writes.instruction) rest at.rest (sym here ∙ ap (λ (at : ℕ). drop at parts.typed.code.instructions) one ∙ at.here) in
        some-is other slot (sym (writes-own writes.frame writes.instruction other writes.tag writes.writes) ∙ ap (λ (at : ℕ × Instruction). own_slot at.1) (sym same) ∙ own)

    owner-written : (place : ℕ) (pc : ℕ) (instruction : Instruction) (rest : Instructions) → drop place parts.typed.code.instructions ≡ (pc, instruction) ∷ rest → (slot variable : ℕ) → own_slot instruction ≡ Some slot → parts.vars.after pc ≡ Some variable → owner (local_variable variable) ≡ slot
    owner-written place pc instruction rest here slot variable own after = ⊎_elim (λ told. told.1) (λ told. absurd (none told.1)) (eqb_tells (owner (local_variable variable)) slot)
      where
        none : owner (local_variable variable) ≢ slot → ⊥
        none differ = impossible (sym (are.unwritten pc (λ other type writes.
            let same : are.number other type ≡ variable = some-is (are.number other type) variable (sym (are.written pc other type writes) ∙ after) in
            differ (owner-of other variable type (by_write writes) same ∙ same-slot-at place pc instruction rest here slot other type own writes))) ∙ after)
          where
            impossible : None ≡ Some variable → ⊥
            impossible e = cc

    abbrev Owned : ℕ → Var → JType → Type 0
    Owned slot variable type = (slot < parts.typed.code.max_locals) × (variable.number < n) × (code_scope variable ≡ Some type) × (owner variable ≡ slot)

    one-owns : (place : ℕ) (pc : ℕ) (instruction : Instruction) (rest : Instructions) → drop place parts.typed.code.instructions ≡ (pc, instruction) ∷ rest → Owns n parts.typed.code.max_locals code_scope owner ways pc instruction
    one-owns place pc instruction rest here =
        let kept = stays world parts.typed strict place (pc, instruction) rest here in
        record {
          within = λ slot writes. (writes-is world parts.typed.code pc instruction slot writes).within kept.0 kept.1;
          owns = λ slot writes variable type e.
              let is = writes-is world parts.typed.code pc instruction slot writes in
              owned slot is.own (is.within kept.0 kept.1) variable type (parts.vars.after pc) refl (sym (target pc) ∙ e);
        }
      where
        kinded : (slot number : ℕ) → own_slot instruction ≡ Some slot → slot < parts.typed.code.max_locals → parts.vars.after pc ≡ Some number → (variable : Var) (type : JType) (kind : Option JType) → slice_get parts.vars.kinds number ≡ kind
            → and_then {A = JType} {B = Var × JType} kind (λ type. Some (local_variable number, type)) ≡ Some (variable, type) → Owned slot variable type
        kinded slot number own within after variable type None is e = absurd (cc)
        kinded slot number own within after variable type (Some kind) is e =
            let same : (local_variable number, kind) ≡ (variable, type) = some-is (local_variable number, kind) (variable, type) e in
            subst (λ (one : Var × JType). Owned slot one.0 one.1) same
            (within, (let less = slice_get_within parts.vars.kinds number kind is in omega (arith, less, low)), ap (λ (found : Option JType). local_type found false) is, owner-written place pc instruction rest here slot number own after)

        owned : (slot : ℕ) → own_slot instruction ≡ Some slot → slot < parts.typed.code.max_locals → (variable : Var) (type : JType) (after : Option ℕ) → parts.vars.after pc ≡ after → variable_of parts.vars.kinds after ≡ Some (variable, type) → Owned slot variable type
        owned slot own within variable type None after e = absurd (cc)
        owned slot own within variable type (Some number) after e = kinded slot number own within after variable type (slice_get parts.vars.kinds number) refl e

    pub all-own : (part : Instructions) (place : ℕ) → drop place parts.typed.code.instructions ≡ part → AllOwn n parts.typed.code.max_locals code_scope owner ways part
    all-own [] place e = tt
    all-own (first ∷ rest) place e = (one-owns place first.0 first.1 rest e, all-own rest (suc place) (drop-next parts.typed.code.instructions place first rest e))
      where
        drop-next : (list : Instructions) (place : ℕ) (first : ℕ × Instruction) (rest : Instructions) → drop place list ≡ first ∷ rest → drop (suc place) list ≡ rest
        drop-next [] zero first rest e = absurd (cc)
        drop-next [] (suc place) first rest e = absurd (cc)
        drop-next (one ∷ more) zero first rest e = let same : more ≡ rest = cc in same
        drop-next (one ∷ more) (suc place) first rest e = drop-next more place first rest e
