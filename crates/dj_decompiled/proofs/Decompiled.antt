-- The body that is printed of a method of one block shows what the method's code shows, and is typed.
use Rattle.std.proofs.Common.{◌≡◌, ◌≢◌, ℕ, Bool, true, false, List, [], ◌∷◌, Option, Some, None, Contains, ap, sym, subst, refl, ◌∙◌, inl, inr, arith}
use Rattle.std.specs.Prelude.{◌==◌, ◌⊎◌, ◌<◌, not, ◌||◌, if◌then◌else◌, bit_and, bit_or, IsBitSet, IsTrue, IsSomeAnd, slice_get}
use Rattle.std.proofs.lemmas.Bool.{both_ways, cases_Bool, eqb-true, or_left}
use Rattle.std.proofs.lemmas.Nat.{and_assoc, and_or_apart}
use Rattle.std.proofs.lemmas.Option.{none-some}
use Rattle.dj_names.specs.MethodNames.{is_constructor}
use Rattle.dj_syntax.specs.Trees.{Body}
use Rattle.dj_syntax.specs.UnitText.{is_initialiser, method_bits}
use Rattle.dj_class.specs.Described.{ClassOf, MethodOf}
use Rattle.dj_values.specs.Fits.{is_static}
use Rattle.dj_world.specs.Worlds.{WorldOf, IsWorld}
use Rattle.dj_instructions.specs.Instructions.{Instruction, Instructions}
use Rattle.dj_code.specs.declared.method_code.Handler.{Handler}
use Rattle.dj_code.specs.MethodCode.{Code, Typed}
use Rattle.dj_starts.specs.declared.control.Control.{Control}
use Rattle.dj_starts.specs.declared.control.Control.TheVariants as leaves
use Rattle.dj_starts.specs.Control.{control_of}
use Rattle.dj_starts.specs.Starts.{in_range}
use Rattle.dj_code.specs.Targets.{IsStart}
use Rattle.dj_signatures.specs.Signatures.{BreaksSignature}
use Rattle.dj_code_causes.specs.Places.{IsOne}
use Rattle.dj_code_causes.specs.Monitors.{takes_monitor, is_on_monitor, HasMonitorAt}
use Rattle.dj_method_causes.specs.Telling.{HasNoCause}
use Rattle.dj_method_causes.proofs.Told.{no_cause}
use Rattle.dj_typed.specs.Bodies.{Writing, IsRight, IsTyped}
use Rattle.dj_straight_typed.proofs.Writable.{right_writing, writing_is_right}
use Rattle.dj_one_block_formed.specs.Ready.{IsSpokenFor, site_of}
use Rattle.dj_one_block_formed.specs.Entering.{IsSaidThrough}
use Rattle.dj_one_block_shown.specs.Shown.{IsKnown, IsLoneMethod, IsShown, OneBlockMethodsAreShown}
use Rattle.dj_given.specs.Given.{IsFree, NamesAreGiven, MembersAreGiven, RunsAreGiven, StrictIsGiven, HeadsAreGiven, AllIsNamed, AllAreAllowed, IsRun, IsHeadRight}
use Rattle.dj_known_world.specs.Known.{KnownWorlds}
use Rattle.dj_one_block_shown.proofs.Method.{methods-shown}
use Rattle.dj_given.proofs.Together.{names_given, members_given, runs_given, strict_given, heads_given}
use Rattle.dj_known_world.proofs.Knowing.{known_worlds}
use Rattle.dj_decompiled.specs.Decompiled.{is_jump, is_barred, first_barred, lone_parts, held_flags, IsDecompiled, IsJudgedFree, IsProved, DecompiledBodiesShow}
use Rattle.dj_decompiled.proofs.Flags.{same_alike, typed_alike}

-- ---- no monitors

-- what is one of monitors is a jump
monitor-jumps : (control : Control) → takes_monitor control ≡ true → is_jump control ≡ true
monitor-jumps leaves.On takes = takes
monitor-jumps leaves.OnOrThrown takes = takes
monitor-jumps leaves.Branch takes = refl
monitor-jumps leaves.Jump takes = refl
monitor-jumps leaves.Return takes = takes
monitor-jumps leaves.Throw takes = takes
monitor-jumps leaves.Enter takes = refl
monitor-jumps leaves.Exit takes = refl

pub no-monitor : (handlers : List Handler) (instructions : Instructions) → first_barred handlers instructions ≡ None → (pc : ℕ) → ¬ IsOne is_on_monitor instructions pc
no-monitor handlers [] straight pc one = one
no-monitor handlers (at ∷ rest) straight pc one = go (λ none. no-monitor handlers rest none pc) (is_barred handlers at) refl straight one
  where
    go : (first_barred handlers rest ≡ None → ¬ IsOne is_on_monitor rest pc) → (barred : Bool) → is_barred handlers at ≡ barred → (if barred then Some at.0 else first_barred handlers rest) ≡ None → ((pc ≡ at.0) × IsTrue (is_on_monitor at.1)) ⊎ IsOne is_on_monitor rest pc → ⊥
    go behind true is none found = none-some at.0 (sym none)
    go behind false is none (inl here) = both_ways (is_barred handlers at) is (or_left (is_jump (control_of at.1)) (in_range handlers at.0) (monitor-jumps (control_of at.1) here.1))
    go behind false is none (inr there) = behind none there

-- ---- flags

-- what the text of a method shows of its flags, and what it implies beside them, keep whether it is static
static-shown : (flags bits implied : ℕ) → bit_and bits 0x0008 ≡ 0x0008 → bit_and implied 0x0008 ≡ 0 → is_static (bit_or (bit_and flags bits) implied) ≡ is_static flags
static-shown flags bits implied shown apart =
    ap (λ static. not (static == 0)) (and_or_apart 0x0008 (bit_and flags bits) implied apart ∙ and_assoc 0x0008 flags bits ∙ ap (bit_and flags) shown)

-- so do those of code
static-held : (code : Code) → (is_initialiser code.name ≡ true → is_static code.flags ≡ true) → is_static (held_flags code) ≡ is_static code.flags
static-held code initialises = go code.interface (is_initialiser code.name) refl
  where
    go : (interface initialiser : Bool) → is_initialiser code.name ≡ initialiser
        → is_static (if initialiser then 0x0008 else bit_or (bit_and code.flags (method_bits interface)) (if interface then 0x0001 else 0)) ≡ is_static code.flags
    go interface true is = sym (initialises is)
    go true false is = static-shown code.flags 0x0008 0x0001 refl refl
    go false false is = static-shown code.flags 0x053f 0 refl refl

-- ---- the law

module _ (lone : OneBlockMethodsAreShown) (names : NamesAreGiven) (allow : MembersAreGiven) (runs : RunsAreGiven) (keeps : StrictIsGiven) (heads : HeadsAreGiven) (have : KnownWorlds)
    (world : WorldOf) (class : ClassOf) (at : ℕ) (typed : Typed) (body : Body) (judged : IsJudgedFree world class at typed) (is : IsDecompiled world typed body) where
  free : HasNoCause world class at typed
  free = no_cause world class at typed judged.untold (no-monitor typed.code.handlers typed.code.instructions is.candidate.straight)

  given : IsFree world class at typed
  given = record { is_world = judged.is_world; method = judged.method; here = judged.here; spells = judged.spells; table = judged.table; free = free }

  abbrev writing : Writing
  writing = right_writing world.headers world.members typed.code.class

  right : IsRight world.headers world.members typed.code.class writing
  right = writing_is_right world.headers world.members typed.code.class

  some : typed.code.instructions ≢ []
  some none = both_ways false refl (subst (λ (instructions : Instructions). IsStart instructions 0) none ((is.one 0).0 (0, omega arith, refl)).at)

  named : AllIsNamed writing world typed.code
  named = names world class at typed writing given right

  allowed : AllAreAllowed writing world typed.code
  allowed = allow world class at typed writing given right is.candidate.unowned

  run : IsRun typed.code
  run = runs world class at typed given

  head : IsHeadRight typed.code
  head = heads world class at typed given some is.candidate.locals

  spoken : IsSpokenFor world.headers world.members writing allowed.receivers (lone_parts typed is.vars)
  spoken = record {
    right = right;
    roots = named.roots;
    allowed = allowed.allowed;
    named = named.class;
    result = named.result;
    strict = keeps world class at typed given;
    few = head.few;
    initialises = head.initialises;
    plain = is.candidate.plain;
  }

  said : IsSaidThrough (site_of writing world.headers world.members typed.code) typed.code
  said = record { classes = named.classes; linked = run.linked; floats = run.floats; plain = run.head }

  method : IsLoneMethod world.headers world.members writing allowed.receivers class judged.method (lone_parts typed is.vars)
  method = record {
    cut = record {
      spells = judged.spells;
      verified = judged.table;
      strict = keeps world class at typed given;
      some = some;
      starts = record { exact = is.one };
      rise = λ i j below behind within. absurd (omega (arith, below, behind, within));
      vars = is.are;
    };
    lone = record { one = refl; uncaught = is.candidate.uncaught };
    spoken = spoken;
    said = said;
  }

  known : IsKnown world.headers world.members
  known = let both = have world judged.is_world is.candidate.known in record { core = both.0; lawful = both.1 }

  shown : IsShown world.headers world.members typed.code is.made
  shown = lone world.headers world.members known writing allowed.receivers class judged.method (lone_parts typed is.vars) method is.made is.printed

  -- a static initialiser is static, or cause Signature holds
  initialises : is_initialiser typed.code.name ≡ true → is_static typed.code.flags ≡ true
  initialises named =
      elim (cases_Bool (bit_and typed.code.flags 0x0008 == 0)) [
        | inl none ↦
            let unset : ¬ IsBitSet judged.method.flags 3 = λ set. set (subst (λ (flags : ℕ). bit_and flags 0x0008 ≡ 0) judged.spells.head.flags (eqb-true _ _ none)) in
            let breaks : BreaksSignature class at judged.method = inr (inr (inr (inl (subst (λ (name : List ℕ). IsTrue (is_initialiser name)) judged.spells.head.name named, inr (inl unset))))) in
            absurd (free.early.members.signature (subst (λ (found : Option MethodOf). IsSomeAnd found (BreaksSignature class at)) (sym judged.here) breaks))
        | inr set ↦ rw set refl
      ]

  static : is_static (held_flags typed.code) ≡ is_static is.made.flags
  static = static-held typed.code initialises ∙ ap is_static (sym shown.of_code.flags)

  pub proved : IsProved world class at typed body
  proved = record {
    free = free;
    shows = rw is.is (same_alike world.headers world.members typed.code is.made (held_flags typed.code) static shown.same);
    lawful = rw is.is (typed_alike world.headers world.members is.made (held_flags typed.code) static (shown.typed is.thrown));
  }

pub bodies-show : DecompiledBodiesShow
bodies-show world class at typed body judged is =
    proved methods-shown names_given members_given runs_given strict_given heads_given known_worlds world class at typed body judged is
