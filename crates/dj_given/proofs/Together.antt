-- What the absence of causes gives, fact by fact.
use Rattle.std.proofs.Common.{◌≡◌, ◌≢◌, ℕ, zero, suc, ◌≤◌, Bool, true, false, [], ◌∷◌, Contains, Option, Some, None, inl, inr, refl, sym, ap, subst, ◌∙◌, arith}
use Rattle.std.proofs.lemmas.Bool.{cases_Bool}
use Rattle.std.proofs.lemmas.List.{length-map}
use Rattle.dj_names.specs.Headers.{Name}
use Rattle.dj_names.specs.MethodNames.{is_constructor, is_initialiser}
use Rattle.dj_names.specs.Types.{JType, Descriptor, Method, result_of}
use Rattle.dj_class.specs.Described.{ClassOf}
use Rattle.dj_world.specs.Worlds.{WorldOf}
use Rattle.dj_instructions.specs.Instructions.{Instruction, Instructions, IsRising}
use Rattle.dj_instructions.proofs.ListingReading.{listing_rises}
use Rattle.dj_code.specs.MethodCode.{Typed}
use Rattle.dj_tags.specs.Laxly.{Laxly}
use Rattle.dj_sound.specs.States.{IsStrict}
use Rattle.dj_meaning.specs.Members.{view_members}
use Rattle.dj_typed.specs.Bodies.{Writing, IsRight}
use Rattle.dj_signatures.specs.Signatures.{BreaksSignature}
use Rattle.dj_code_causes.specs.Places.{IsOne}
use Rattle.dj_code_causes.specs.NamedIn.{of_class}
use Rattle.dj_causes_given.proofs.Naming.{names_may_be_named}
use Rattle.dj_given.specs.Given.{IsFree, CallsNoOwn, AllIsNamed, AllAreAllowed, OthersAreAllowed, IsHeadRight, IsRun, IsInWorld, NamesAreGiven, MembersAreGiven, OthersAreGiven, RunsAreGiven, StrictIsGiven, HeadsAreGiven, ClassesAreGiven}
use Rattle.dj_given.proofs.Names.{all_named, class_there}
use Rattle.dj_given.proofs.Spelled.{spelled, few_parameters}
use Rattle.dj_given.proofs.Allowed.{others_allowed}

module _ (world : WorldOf) (class : ClassOf) (at : ℕ) (typed : Typed) (is : IsFree world class at typed) where
  rising : IsRising typed.code.instructions
  rising = listing_rises class.pool is.spells.content.code typed.code.instructions is.spells.listed

  named_by : (writing : Writing) → IsRight world.headers world.members typed.code.class writing → AllIsNamed writing world typed.code
  named_by writing right =
      all_named world typed.code writing right is.free.early.names.missing is.free.early.names.unsaid is.is_world.lawful (spelled (Laxly world.headers) world.headers typed is.table)

  others_by : (writing : Writing) → IsRight world.headers world.members typed.code.class writing → OthersAreAllowed writing world typed
  others_by writing right =
      others_allowed world typed writing is.is_world.lawful (named_by writing right) (class_there world typed.code writing right is.free.early.names.missing is.free.early.names.unsaid)
      is.table rising is.free.early.members.member

  allowed_by : (writing : Writing) → IsRight world.headers world.members typed.code.class writing → CallsNoOwn typed → AllAreAllowed writing world typed.code
  allowed_by writing right no_own =
      let others = others_by writing right in
      record { receivers = others.receivers; allowed = λ pc instruction has. others.allowed pc instruction has (no_own pc) }

  strict_by : IsStrict world.headers typed
  strict_by = record { table = is.free.early.members.strict; rising = rising }

  -- ---- what isn't run

  one_of : (test : Instruction → Bool) (list : Instructions) (pc : ℕ) (instruction : Instruction) → Contains list (pc, instruction) → test instruction ≡ true → IsOne test list pc
  one_of test [] pc instruction (k, within, same) passes = absurd (omega (arith, within))
  one_of test (first ∷ rest) pc instruction (zero, within, same) passes =
      inl (sym (ap (λ (one : ℕ × Instruction). one.0) same), ap (λ (one : ℕ × Instruction). test one.1) same ∙ passes)
  one_of test (first ∷ rest) pc instruction (suc k, within, same) passes = inr (one_of test rest pc instruction (k, omega (arith, within), same) passes)

  none_of : (test : Instruction → Bool) → ((pc : ℕ) → ¬ IsOne test typed.code.instructions pc) → (pc : ℕ) (instruction : Instruction) → Contains typed.code.instructions (pc, instruction) → test instruction ≡ false
  none_of test none pc instruction there = elim (cases_Bool (test instruction)) [
    | inl passes ↦ absurd (none pc (one_of test typed.code.instructions pc instruction there passes))
    | inr fails ↦ fails
  ]

  not_true : (test : Bool) → ¬ (test ≡ true) → test ≡ false
  not_true test none = elim (cases_Bool test) [ inl passes ↦ absurd (none passes) | inr fails ↦ fails ]

  run : IsRun typed.code
  run = record {
    linked = none_of _ is.free.early.instructions.dynamic;
    floats = none_of _ (λ pc one. is.free.early.instructions.float pc (inr one));
    head = not_true _ (λ passes. is.free.early.instructions.float 0 (inl (refl, passes)));
  }

  -- ---- the head

  right_signature : ¬ BreaksSignature class at is.method
  right_signature breaks = is.free.early.members.signature (rw is.here breaks)

  nothing : (found : Option JType) → ¬ ¬ (found ≡ None) → found ≡ None
  nothing None denied = refl
  nothing (Some type) denied = absurd (denied (λ e. cc))

  no_result : (descriptor : Descriptor) → descriptor ≡ Method [] None → result_of descriptor ≡ None
  no_result descriptor same = ap result_of same

  initialises : is_initialiser typed.code.name ≡ true → result_of typed.code.descriptor ≡ None
  initialises e =
      ap result_of is.spells.head.descriptor
      ∙ nothing (result_of is.method.descriptor) (λ some. right_signature (inr (inr (inr (inl (subst (λ (name : Name). is_initialiser name ≡ true) is.spells.head.name e, inl (λ same. some (no_result is.method.descriptor same))))))))

  constructs : is_constructor typed.code.name ≡ true → result_of typed.code.descriptor ≡ None
  constructs e =
      ap result_of is.spells.head.descriptor
      ∙ nothing (result_of is.method.descriptor) (λ some. right_signature (inr (inr (inr (inr (subst (λ (name : Name). is_constructor name ≡ true) is.spells.head.name e, inl some))))))

  head : typed.code.instructions ≢ [] → typed.code.max_locals ≤ 65535 → IsHeadRight typed.code
  head some most = record { few = (let few = few_parameters (Laxly world.headers) world.headers typed is.table some in omega (arith, few, most)); initialises = initialises; constructs = constructs }

  in_world : IsInWorld world typed.code
  in_world = record {
    whole = (names_may_be_named world typed.code is.free.early.names.missing is.free.early.names.unsaid typed.code.class (of_class refl)).whole;
    paired = let same = is.is_world.paired in omega (arith, same, length-map world.members view_members);
  }

pub names_given : NamesAreGiven
names_given world class at typed writing is right = named_by world class at typed is writing right

pub members_given : MembersAreGiven
members_given world class at typed writing is right no_own = allowed_by world class at typed is writing right no_own

pub others_given : OthersAreGiven
others_given world class at typed writing is right = others_by world class at typed is writing right

pub runs_given : RunsAreGiven
runs_given world class at typed is = run world class at typed is

pub strict_given : StrictIsGiven
strict_given world class at typed is = strict_by world class at typed is

pub heads_given : HeadsAreGiven
heads_given world class at typed is some most = head world class at typed is some most

pub classes_given : ClassesAreGiven
classes_given world class at typed is = in_world world class at typed is
