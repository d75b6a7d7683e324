-- What the absence of causes gives for constructors, fact by fact.
use Rattle.std.proofs.Common.{◌≡◌, ◌≢◌, ℕ, ◌<◌, ◌≤◌, Bool, true, false, ◌==◌, ◌∷◌, [], Contains, zero, suc, inl, inr, refl, ap, subst, ◌∙◌, arith}
use Rattle.std.specs.Prelude.{bytes_eq, map, if◌then◌else◌, not, bit_and, IsBitSet}
use Rattle.std.proofs.lemmas.Bool.{cases_Bool, both_ways, and_parts, eq-eqb}
use Rattle.dj_names.specs.Headers.{Name}
use Rattle.dj_names.specs.MethodNames.{is_constructor}
use Rattle.dj_names.specs.Types.{parameters_of}
use Rattle.dj_class.specs.Described.{ClassOf}
use Rattle.dj_world.specs.Worlds.{WorldOf}
use Rattle.dj_instructions.specs.Instructions.{Instruction, Instructions, InvokeSpecial}
use Rattle.dj_instructions.proofs.ListingReading.{listing_rises}
use Rattle.dj_values.specs.Fits.{is_static}
use Rattle.dj_names.specs.Assignable.{object_name}
use Rattle.dj_code.specs.MethodCode.{Code, Typed}
use Rattle.dj_meaning.specs.Members.{view_members}
use Rattle.dj_meaning.specs.Meaning.{context_of}
use Rattle.dj_tags.specs.Laxly.{Laxly}
use Rattle.dj_starts.specs.declared.roles.Role.TheVariants as role
use Rattle.dj_starts.specs.Starts.{IsGiven}
use Rattle.dj_signatures.specs.Signatures.{BreaksSignature}
use Rattle.dj_typing.specs.Sites.{is_whole}
use Rattle.dj_typed.specs.Bodies.{Writing, IsRight}
use Rattle.dj_birth_causes.specs.Beginning.{IsUpToCall, BreaksBefore, MayNotStand, begins_with_receiver, receiver, inside, given, range, thrown, compares}
use Rattle.dj_member_ways.proofs.Holding.{member-ways-hold}
use Rattle.dj_one_block.specs.OneBlock.{head_of}
use Rattle.dj_given.specs.Given.{IsFree, AllIsNamed, OthersAreAllowed, site_of}
use Rattle.dj_given.proofs.Together.{names_given, others_given as all_others_given}
use Rattle.dj_constructors.specs.Opening.{without}
use Rattle.dj_constructors.specs.Shown.{IsConstructor, CallsOwn}
use Rattle.dj_constructors_given.specs.Given.{IsBegunAt, OthersAreAllowedBut, IsOpening, ConstructorsAreGiven, OthersAreGivenBut, OthersDoTheirs, OwnCallsAreGiven, OpeningsAreGiven}
use Rattle.dj_constructors_given.proofs.Opening.{sole}
use Rattle.dj_constructors_given.proofs.Calling.{told_by, all_whole}

-- what is left without the instruction at an offset is in the code, and elsewhere
left_in : (own : ℕ) (list : Instructions) (pc : ℕ) (instruction : Instruction) → Contains (without own list) (pc, instruction) → Contains list (pc, instruction) × (pc ≢ own)
left_in own [] pc instruction (k, within, is) = absurd (omega (arith, within))
left_in own (first ∷ rest) pc instruction has = by (first.0 == own) refl has (left_in own rest pc instruction)
  where
    later : Contains rest (pc, instruction) → Contains (first ∷ rest) (pc, instruction)
    later (k, within, is) = (suc k, omega (arith, within), is)

    kept : first.0 == own ≡ false → Contains (first ∷ without own rest) (pc, instruction) → (Contains (without own rest) (pc, instruction) → Contains rest (pc, instruction) × (pc ≢ own)) → Contains (first ∷ rest) (pc, instruction) × (pc ≢ own)
    kept other (zero, within, is) behind =
        ((0, omega arith, is), λ (same : pc ≡ own). both_ways (first.0 == own) other (ap (λ (one : ℕ). one == own) (ap (λ (one : ℕ × Instruction). one.0) is ∙ same) ∙ eq-eqb own own refl))
    kept other (suc k, within, is) behind = let found = behind (k, omega (arith, within), is) in (later found.0, found.1)

    by : (test : Bool) → first.0 == own ≡ test → Contains (if test then without own rest else first ∷ without own rest) (pc, instruction)
        → (Contains (without own rest) (pc, instruction) → Contains rest (pc, instruction) × (pc ≢ own)) → Contains (first ∷ rest) (pc, instruction) × (pc ≢ own)
    by true same has behind = let found = behind has in (later found.0, found.1)
    by false other has behind = kept other has behind

module _ (world : WorldOf) (class : ClassOf) (at : ℕ) (typed : Typed) (own : ℕ) (is : IsFree world class at typed) (begun : IsBegunAt typed own) where
  abbrev code : Code
  code = typed.code

  -- ---- the head

  constructs : is_constructor code.name ≡ true
  constructs = (and_parts (is_constructor code.name) (not (bytes_eq code.class object_name)) begun.unborn).0

  right_signature : ¬ BreaksSignature class at is.method
  right_signature breaks = is.free.early.members.signature (rw is.here breaks)

  -- a static one breaks the signature of constructors
  instance : is_static code.flags ≡ false
  instance = elim (cases_Bool (bit_and code.flags 0x0008 == 0)) [
    | inl none ↦ ap not none
    | inr some ↦ (
        let set : IsBitSet is.method.flags 3 = λ (zeroed : bit_and is.method.flags 0x0008 ≡ 0). both_ways (bit_and code.flags 0x0008 == 0) some (ap (λ (flags : ℕ). bit_and flags 0x0008 == 0) is.spells.head.flags ∙ eq-eqb (bit_and is.method.flags 0x0008) 0 zeroed) in
        absurd (right_signature (inr (inr (inr (inr (subst (λ (name : Name). is_constructor name ≡ true) is.spells.head.name constructs, inr set)))))))
  ]

  pub constructor : IsConstructor code
  constructor = record { named = constructs; instance = instance; unborn = begun.unborn }

  -- ---- what stands before the call

  none_breaks : (pc : ℕ) → ¬ BreaksBefore world typed pc
  none_breaks pc breaks = is.free.births.before pc (record { constructor = constructs; breaks = breaks })

  up_to : (pc : ℕ) → pc ≤ own → IsUpToCall typed pc
  up_to pc within call calls = let same = begun.only call calls in omega (arith, within, same)

  receiver_first : begins_with_receiver code.instructions typed.frames ≡ true
  receiver_first = elim (cases_Bool (begins_with_receiver code.instructions typed.frames)) [
    | inl begins ↦ begins
    | inr other ↦ absurd (none_breaks 0 (receiver refl other))
  ]

  inside_plain : (pc : ℕ) → pc < own → ¬ MayNotStand typed role.Plain code.instructions pc
  inside_plain pc less may = none_breaks pc (inside (λ call calls. let same = begun.only call calls in omega (arith, less, same)) may)

  none_given : (pc : ℕ) → 0 < pc → pc ≤ own → ¬ IsGiven code.frames pc
  none_given pc behind within one = none_breaks pc (given (up_to pc within) behind one)

  pub opening : IsOpening world typed own
  opening = record {
    receiver = receiver_first;
    sole = sole (Laxly world.headers) world.headers typed own is.table (listing_rises class.pool is.spells.content.code code.instructions is.spells.listed) instance begun.unborn begun.only receiver_first inside_plain none_given;
    inside = inside_plain;
    given = none_given;
    uncovered = λ pc within one. none_breaks pc (range (up_to pc within) one);
    thrown = λ pc within one. none_breaks pc (thrown (up_to pc within) one);
    plain = λ pc within one. none_breaks pc (compares (up_to pc within) one);
  }

  -- ---- instructions

  module _ (writing : Writing) (right : IsRight world.headers world.members code.class writing) where
    named : AllIsNamed writing world code
    named = names_given world class at typed writing is right

    others : OthersAreAllowed writing world typed
    others = all_others_given world class at typed writing is right

    pub others_but : OthersAreAllowedBut writing world code own
    others_but = record { receivers = others.receivers; allowed = λ pc instruction has other. others.allowed pc instruction has (λ calls. other (begun.only pc calls)) }

    pub calls_own : CallsOwn world.headers world.members code own
    calls_own = record {
      means = λ method has constructs. others.own own method has begun.calls constructs;
      told = λ method has constructs. told_by world.headers (map view_members world.members) code.class method (others.own own method has begun.calls constructs) named.roots.above;
      whole = λ method has. all_whole (site_of writing world code) (parameters_of method.descriptor) (named.instructions own (InvokeSpecial method) has).parameters;
    }

pub constructors_given : ConstructorsAreGiven
constructors_given world class at typed own is begun = constructor world class at typed own is begun

pub others_given : OthersAreGivenBut
others_given world class at typed own writing is right begun = others_but world class at typed own is begun writing right

pub own_calls_given : OwnCallsAreGiven
own_calls_given world class at typed own writing is right begun = calls_own world class at typed own is begun writing right

pub openings_given : OpeningsAreGiven
openings_given world class at typed own is begun = opening world class at typed own is begun

pub others_do : OthersDoTheirs
others_do world class at parts own writing is right begun known headers may arguments fit bound =
    let code = parts.typed.code in
    let named = names_given world class at parts.typed writing is right in
    let others = others_but world class at parts.typed own is begun writing right in
    member-ways-hold (site_of writing world code) named.roots others.receivers (record code { instructions = without own code.instructions }) refl
    (λ pc instruction has. let found = left_in own code.instructions pc instruction has in others.allowed pc instruction found.0 found.1)
    (context_of headers world.members (head_of code) arguments)
    (record { core = known.core; may = may; members = refl; class = refl; lawful = known.lawful; whole = (and_parts (writing.can_say code.class) (is_whole world.headers code.class) named.class).1 }) bound _
    (record { constant = λ instruction. refl; node = λ instruction are. refl; effect = λ instruction are. refl; birth = λ instruction class are. refl; goes = λ from to. refl })
