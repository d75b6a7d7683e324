-- The tree of a constructor of one block may be declared as the constructor's body.
use Rattle.std.proofs.Common.{arith, ℕ, suc, ◌+◌, ◌<◌, ◌==◌, ◌≡◌, Bool, true, false, List, [], ◌∷◌, length, Contains, Option, Some, inl, inr, refl, sym, ap, ◌∙◌, subst, codes}
use Rattle.std.specs.Prelude.{is_none, if◌then◌else◌, IfSome}
use Rattle.std.proofs.lemmas.Bool.{and_from}
use Rattle.std.proofs.lemmas.List.{take_all}
use Rattle.std.proofs.lemmas.Option.{slice_get_within}
use Rattle.std.proofs.lemmas.Slice.Eq.{bytes_eq-Decides}
use Rattle.dj_names.specs.declared.header.Header.{Header}
use Rattle.dj_names.specs.declared.members.ClassMembers.{ClassMembers}
use Rattle.dj_names.specs.Headers.{Name}
use Rattle.dj_names.specs.MethodNames.{is_constructor}
use Rattle.dj_names.specs.Types.{JType, Class, parameters_of}
use Rattle.dj_syntax.specs.Trees.{Exps, NoExps, AndExp, Stm, Construct, Stms, And}
use Rattle.dj_syntax.specs.UnitText.{is_initialiser}
use Rattle.dj_syntax.specs.Weight.{weight_of_exp}
use Rattle.dj_instructions.specs.Instructions.{Instruction, Instructions, IsRising, IsRisingFrom}
use Rattle.dj_instructions.specs.Instructions as op
use Rattle.dj_starts.specs.declared.roles.Role.{Role}
use Rattle.dj_starts.specs.declared.roles.Role.TheVariants as role
use Rattle.dj_starts.specs.Births.{role_of}
use Rattle.dj_birth_causes.specs.Beginning.{MayNotStand}
use Rattle.dj_code.specs.MethodCode.{Code}
use Rattle.dj_verify.specs.Rules.{frame_in}
use Rattle.dj_bytecode.specs.Machine.{pc_of}
use Rattle.dj_meaning.specs.StaticTypes.{Scope}
use Rattle.dj_meaning.specs.Meaning.{of_parameter}
use Rattle.dj_places.specs.Constants.{Surroundings}
use Rattle.dj_places.specs.Rules.{Holds}
use Rattle.dj_conditions.specs.Conditions.{after_exp}
use Rattle.dj_conditions.specs.Reads.{reads_each}
use Rattle.dj_variables.specs.Sets.{Set, everything}
use Rattle.dj_typing.specs.Sites.{may_name_type}
use Rattle.dj_typed.specs.Statements.{Around, means_constructor, without_this}
use Rattle.dj_thrown.specs.Bodies.{scope_in}
use Rattle.dj_formed.specs.Formed.{constants_of, IsFormed, CallIsFormed}
use Rattle.dj_rebuilding.specs.Pending.{Atom, Own, Named, exp_of}
use Rattle.dj_rebuilt.specs.Rebuilding.{atom_type, rebuilt}
use Rattle.dj_rebuilt.proofs.Rebuilt.{made-if, both-are}
use Rattle.dj_vars.specs.Agreeing.{parameter_variable}
use Rattle.dj_vars.specs.Parameters.{parameter_slots}
use Rattle.dj_blocks_formed.specs.Ruled.{IsRuled, IsFull}
use Rattle.dj_blocks_formed.specs.Ways.{IsRuledAt}
use Rattle.dj_blocks_formed.proofs.Reading.{full-reads, full-behind}
use Rattle.dj_blocks_formed.proofs.Spilled.{variable-ruled}
use Rattle.dj_blocks_shown.specs.Leaving.{Parts, is_start}
use Rattle.dj_members_shown.specs.Meant.{Receiver, constructed_class}
use Rattle.dj_member_nodes.specs.Going.{may_be_given}
use Rattle.dj_member_nodes.specs.Nodes.{given_to}
use Rattle.dj_member_nodes.specs.Together.{AreMemberWays, ExitsRule}
use Rattle.dj_member_nodes.proofs.Together.{methods-are-formed}
use Rattle.dj_exits.proofs.Ending.{ends}
use Rattle.dj_declaring.specs.Bodies.{Writing, around_in}
use Rattle.dj_declaring.specs.Starting.{tree_scope, MayEnter}
use Rattle.dj_declaring.specs.Declaring.{IsReady}
use Rattle.dj_method.specs.Parts.{entry_of}
use Rattle.dj_one_block.specs.OneBlock.{head_of, known_in, lone_ways, first_name}
use Rattle.dj_one_block.specs.Flat.{IsFlatTree}
use Rattle.dj_one_block.proofs.Flat.{rest-flat}
use Rattle.dj_one_block_formed.specs.Ready.{site_of}
use Rattle.dj_one_block_formed.proofs.Entering.{named-parameter}
use Rattle.dj_one_block_formed.proofs.Exits.{left-ended, goes-none, some-none}
use Rattle.dj_one_block_formed.proofs.Starting.{all-stand, begins, target-ruled, names-ruled}
use Rattle.dj_constructors.specs.Opening.{parameter_at, opening_name, is_of_own, construct, opened, fresh_from, Opened, constructor_tree}
use Rattle.dj_constructors.proofs.Beginning.{parameter-is}
use Rattle.dj_constructors_formed.specs.Ready.{IsBegunRight, ConstructorTreesAreReady}
use Rattle.dj_constructors_formed.proofs.Still.{given-still}
use Rattle.dj_constructors_formed.proofs.Without.{types-without, method-without, roots-without, allowed-without}
use Rattle.dj_constructors_formed.proofs.Walking.{AreBefore, IsCalled, call-found}
use Rattle.dj_constructors_formed.proofs.Calling.{constructor-is, AreArguments, arguments-are}

-- each of these expressions reads what is assigned, where all is
each-read : (around : Surroundings) (set : Set) → IsFull set → (place : ℕ) (exps : Exps) → Holds (reads_each around set place exps)
each-read around set full place NoExps = tt
each-read around set full place (AndExp first rest) = (full-reads set full around place first, each-read around (after_exp around first set) (full-behind set full around first) (place + weight_of_exp first) rest)

-- a constructor is no static initialiser
not-initialiser : (name : Name) → is_constructor name ≡ true → is_initialiser name ≡ false
not-initialiser name constructor = ap is_initialiser ((bytes_eq-Decides name (codes "<init>")).0 constructor)

-- ---- the tree

module _ (world : List Header) (members : List ClassMembers) (writing : Writing) (receivers : ℕ → Receiver) (parts : Parts) (own : ℕ) (spoken : IsBegunRight world members writing receivers parts own)
    (enters : MayEnter (site_of writing world members parts.typed.code) (parameters_of parts.typed.code.descriptor) parts.vars.kinds (entry_of parts)) where
  abbrev code : Code
  code = parts.typed.code

  abbrev around : Around
  around = around_in writing world members (head_of code)

  abbrev scope : Scope
  scope = tree_scope (parameters_of code.descriptor) parts.vars.kinds

  abbrev known : Surroundings
  known = known_in world members code

  -- the scope of the call: the parameters
  abbrev parameters : Scope
  parameters = of_parameter (parameters_of code.descriptor)

  parameters-are : parameters ≡ scope_in (head_of code)
  parameters-are = sym (ap of_parameter (take_all 4294967295 (parameters_of code.descriptor) spoken.few))

  -- a name but `this` is a parameter, and keeps the rules
  named-slot : (slot : ℕ) → (slot == 0) ≡ false → (type : JType) (atom : Atom) → opening_name code slot ≡ Some (type, atom) → IsRuled (without_this around.site) (fresh_from parts) parameters (atom_type type atom) (exp_of atom)
  named-slot slot other type atom e =
      let is = parameter-is (parameter_slots code) (parameters_of code.descriptor) 0 slot type atom
      (sym (ap (λ (test : Bool). if test then Some (Class code.class, Own) else parameter_at (parameter_slots code) (parameters_of code.descriptor) 0 slot) other) ∙ e) in
      let within = slice_get_within (parameters_of code.descriptor) is.number type is.type_is in
      let same : Named (parameter_variable is.number) ≡ atom = ap (λ (number : ℕ). Named (parameter_variable number)) (omega arith) ∙ is.atom_is in
      subst (λ (one : Atom). IsRuled (without_this around.site) (fresh_from parts) parameters (atom_type type one) (exp_of one)) same
      (variable-ruled (without_this around.site) (fresh_from parts) parameters (parameter_variable is.number) type (omega (arith, within)) is.type_is
      (named-parameter (without_this around.site) (parameters_of code.descriptor) (types-without around.site (parameters_of code.descriptor) spoken.parameters) is.number type is.type_is))

  this-slot : (slot : ℕ) → (slot == 0) ≡ true → opening_name code slot ≡ Some (Class code.class, Own)
  this-slot slot at = ap (λ (test : Bool). if test then Some (Class code.class, Own) else parameter_at (parameter_slots code) (parameters_of code.descriptor) 0 slot) at

  -- what is known of the instructions before the call
  before-it : (before : Role) (list : Instructions) → ((one : ℕ × Instruction) → Contains list one → Contains code.instructions one) → ((pc : ℕ) → pc < own → ¬ MayNotStand parts.typed before list pc) → AreBefore (without_this around.site) receivers own before list
  before-it before [] within may = tt
  before-it before (first ∷ rest) within may = (
    (λ less. record {
      may = record {
        allowed = allowed-without around.site receivers first.0 first.1 (spoken.allowed first.0 first.1 (within first (0, omega arith, refl)) (λ same. omega (arith, less, same)));
        never = λ is. may first.0 less (inl (refl, λ allowed. allowed.never is));
        dup = λ is not. may first.0 less (inl (refl, λ allowed. not (allowed.dup is)));
      };
      sole = λ positive. spoken.sole first.0 first.1 (within first (0, omega arith, refl)) positive less;
    }),
    before-it (role_of first.1) rest (λ one has. within one (suc has.0, omega (arith, has.1), has.2)) (λ pc less bad. may pc less (inr bad)),
  )

  rises : (list : Instructions) → IsRising list → IsRisingFrom 0 list
  rises [] rising = tt
  rises (first ∷ rest) rising = (omega arith, subst (λ (pc : ℕ). IsRisingFrom (pc + 1) rest) (sym rising.0) rising.1)

  abbrev Called : Opened → Type 0
  Called found = IsCalled (without_this around.site) own (fresh_from parts) parameters code.instructions found

  call-is : (found : Opened) → opened known.headers code.class (lone_ways known parts) (is_start parts.starts) own (fresh_from parts) (opening_name code) [] code.instructions ≡ Some found → Called found
  call-is found e =
      call-found (without_this around.site) refl (roots-without around.site spoken.roots) receivers parts (is_start parts.starts) own (fresh_from parts) parameters (opening_name code) (Class code.class) this-slot named-slot
      code.instructions (rises code.instructions spoken.strict.rising) (before-it role.Plain code.instructions (λ one has. has) spoken.inside) found e

  -- ---- the call

  abbrev arguments_of : Opened → Exps
  arguments_of found = given_to known found.0 (codes "<init>") (constructed_class known.headers code.class (is_of_own known found.0)) found.1

  call-formed : (found : Opened) → Called found → may_be_given known.headers found.1 (parameters_of found.0.descriptor) ≡ true → CallIsFormed around (scope_in (head_of code)) (Some (is_of_own known found.0, arguments_of found))
  call-formed found called given =
      let special = constructor-is called.instruction found.0 called.method_is in
      let has : Contains code.instructions (own, op.InvokeSpecial found.0) = subst (λ (one : Instruction). Contains code.instructions (own, one)) special.is called.there in
      let means = spoken.calls.means found.0 has special.constructs in
      let named = method-without around.site found.0 (spoken.names own (op.InvokeSpecial found.0) has) in
      let are = subst (λ (of_own : Bool). AreArguments around.site parameters of_own (given_to known found.0 (codes "<init>") (constructed_class known.headers code.class of_own) found.1)) (spoken.calls.told found.0 has special.constructs)
      (arguments-are around.site (fresh_from parts) parameters found.0 means named found.1 given called.ruled) in
      subst (λ (inner : Scope). CallIsFormed around inner (Some (is_of_own known found.0, arguments_of found))) parameters-are (
        and_from (is_constructor code.name) (means_constructor around.site parameters (is_of_own known found.0) (arguments_of found)) spoken.constructor.named are.meant,
        (are.keeps 0, each-read (constants_of around.site) everything (λ variable. refl) 0 (arguments_of found)),
      )

  -- ---- the statements behind it

  ways-are : AreMemberWays (constants_of around.site) (lone_ways known parts)
  ways-are = record { constant = λ instruction. refl; node = λ instruction are. refl; effect = λ instruction are. refl; birth = λ instruction class are. refl; goes = λ from to. refl }

  nothing-given : IfSome around.result (λ type. may_name_type around.site type ≡ true)
  nothing-given = subst (λ (result : Option JType). IfSome result (λ type. may_name_type around.site type ≡ true)) (sym spoken.result) tt

  exits-rule : (list : Instructions) → ExitsRule around world code.class (length parts.vars.kinds) scope (is_start parts.starts) (lone_ways known parts) list
  exits-rule list = record {
    targets = λ pc instruction there slot writes target type e. target-ruled around.site (parameters_of code.descriptor) parts.vars.kinds enters.written (parts.vars.after pc) (target, type) e;
    falls = λ names lawful n inner stack ready rest start statements e. absurd (some-none (goes-none world names n stack (pc_of rest)) e);
    leaves = λ names lawful n inner stack ready pc instruction rest there stops statements e.
        left-ended around n inner ready.clear nothing-given spoken.roots.throwable names stack ready.entries (pc_of rest) instruction (ends world code.class instruction stops) (λ is. spoken.result) statements e;
  }

  begins-past : IsRuledAt around.site (length parts.vars.kinds) scope (fresh_from parts) scope []
  begins-past =
      let start = begins around.site (parameters_of code.descriptor) parts.vars.kinds enters.written in
      record { low = omega arith; clear = λ k less. start.clear k (omega (arith, less)); same = start.same; entries = tt }

  rest-formed : (found : Opened) → Called found → (rest : Stms) → rebuilt known.headers code.class (lone_ways known parts) (is_start parts.starts) (first_name parts) (fresh_from parts) [] found.2 ≡ Some rest → IsFormed around scope rest
  rest-formed found called rest e =
      methods-are-formed around spoken.roots receivers found.2 (λ pc instruction there. let h = called.behind (pc, instruction) there in spoken.allowed pc instruction h.0 (λ same. omega (arith, h.1, same)))
      world code.class (length parts.vars.kinds) scope (is_start parts.starts) (lone_ways known parts) ways-are (exits-rule found.2) found.2 (all-stand found.2 found.2 (λ one h. h))
      (first_name parts) (names-ruled around.site parts (parameters_of code.descriptor) refl refl spoken.named enters.written) (fresh_from parts) scope [] begins-past rest e

  -- ---- together

  made-ready : (found : Opened) → Called found → may_be_given known.headers found.1 (parameters_of found.0.descriptor) ≡ true → (rest : Stms) → IsFlatTree rest → IsFormed around scope rest
      → IsReady world members writing (head_of code) parts.vars.kinds (entry_of parts) 0 (And (Construct (is_of_own known found.0) (arguments_of found)) rest)
  made-ready found called given rest flat formed = record {
    right = spoken.right;
    named = spoken.named;
    few = spoken.few;
    initialises = λ is. spoken.result;
    constructs = λ is. spoken.result;
    enters = enters;
    formed = (call-formed found called given, not-initialiser code.name spoken.constructor.named, formed, given-still known found.0 (codes "<init>") (constructed_class known.headers code.class (is_of_own known found.0)) found.1 called.still);
    quiet = (tt, flat.quiet);
    lacks = flat.lacks 0;
  }

  pub constructor-ready : (tree : Stms) → constructor_tree known parts own ≡ Some tree → IsReady world members writing (head_of code) parts.vars.kinds (entry_of parts) 0 tree
  constructor-ready tree e =
      let made = made-if (is_none (frame_in 0 code.frames)) _ tree e in
      let call = both-are (opened known.headers code.class (lone_ways known parts) (is_start parts.starts) own (fresh_from parts) (opening_name code) [] code.instructions) _ tree made.1 in
      let first = both-are (construct known call.one.0 call.one.1) _ tree call.then_is in
      let rest = both-are (rebuilt known.headers code.class (lone_ways known parts) (is_start parts.starts) (first_name parts) (fresh_from parts) [] call.one.2) (λ (rest : Stms). Some (And first.one rest)) tree first.then_is in
      let given = made-if (may_be_given known.headers call.one.1 (parameters_of call.one.0.descriptor)) (Some (Construct (is_of_own known call.one.0) (arguments_of call.one))) first.one first.is in
      let first_is : Construct (is_of_own known call.one.0) (arguments_of call.one) ≡ first.one = (let some = given.1 in cc) in
      let tree_is : And first.one rest.one ≡ tree = (let some = rest.then_is in cc) in
      let called = call-is call.one call.is in
      subst (λ (tree : Stms). IsReady world members writing (head_of code) parts.vars.kinds (entry_of parts) 0 tree) (ap (λ (one : Stm). And one rest.one) first_is ∙ tree_is)
      (made-ready call.one called given.0 rest.one (rest-flat known parts (first_name parts) (fresh_from parts) [] call.one.2 rest.one rest.is) (rest-formed call.one called rest.one rest.is))

pub constructor-trees-are-ready : ConstructorTreesAreReady
constructor-trees-are-ready world members writing receivers parts own spoken enters tree e = constructor-ready world members writing receivers parts own spoken enters tree e
