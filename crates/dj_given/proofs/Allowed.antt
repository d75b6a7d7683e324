-- Instructions of a method without a cause may stand in source.
use Rattle.std.proofs.Common.{◌≡◌, ℕ, suc, ◌==◌, Bool, true, false, [], ◌∷◌, length, Contains, Option, Some, None, inl, inr, refl, sym, ap, subst, ◌∙◌, arith}
use Rattle.std.specs.Prelude.{map, if◌then◌else◌}
use Rattle.std.specs.List.{list_any}
use Rattle.std.proofs.lemmas.Bool.{both_ways, cases_Bool, eqb-true}
use Rattle.std.proofs.lemmas.List.{length-map}
use Rattle.dj_names.specs.Headers.{Name, names}
use Rattle.dj_names.specs.MethodNames.{is_constructor}
use Rattle.dj_names.specs.Types.{Class, parameters_of}
use Rattle.dj_kinds.specs.Search.{header_of, superclass_in, interfaces_of}
use Rattle.dj_values.specs.Deciding.{is_name}
use Rattle.dj_world.specs.Named.{class_of}
use Rattle.dj_world.specs.Worlds.{WorldOf}
use Rattle.dj_world.specs.Clashes.{IsLawful}
use Rattle.dj_instructions.specs.Instructions.{MethodRef, Instruction, Instructions, InvokeSpecial, IsRising, instruction_at}
use Rattle.dj_code.specs.MethodCode.{Typed}
use Rattle.dj_meaning.specs.Members.{view_members}
use Rattle.dj_tags.specs.Laxly.{Laxly}
use Rattle.dj_tags.specs.Goes.{top_down}
use Rattle.dj_verify.specs.Verified.{IsTyped}
use Rattle.dj_typed_states.proofs.Classed.{stands_there}
use Rattle.dj_typing.specs.Sites.{Site}
use Rattle.dj_typing.specs.Expressions.{means_abstract}
use Rattle.dj_typed.specs.Bodies.{Writing}
use Rattle.dj_typed.specs.Stores.{may_assign}
use Rattle.dj_meant.specs.Meant as meant
use Rattle.dj_meant.specs.Meant.{exact, Receiver, Made, Begun, Other, IsOfConstruct}
use Rattle.dj_receivers.specs.OwnCalls.{calls_own}
use Rattle.dj_receivers.specs.Receivers.{IsOnThis}
use Rattle.dj_code_causes.specs.NamedIn.{IsInCode, in_instruction}
use Rattle.dj_member_cause.specs.Lawful.{HasMember}
use Rattle.dj_member_cause.specs.Lacking.{LacksMember}
use Rattle.dj_member_nodes.specs.Named.{RootsAreNamed, IsNamed, IsBehindSuper, IsAllowed}
use Rattle.dj_member_nodes.specs.Named as named
use Rattle.dj_standing.proofs.Places.{frame-there}
use Rattle.dj_birth_causes.specs.OwnCalls.{IsOwnCall}
use Rattle.dj_given.specs.Given.{site_of, AllIsNamed, OthersAreAllowed}
use Rattle.dj_given.proofs.Above.{not_listed}
use Rattle.dj_given.proofs.Members.{served, no_own_call, own_served, own_means}
use Rattle.dj_given.proofs.Spelled.{from_place, in_place, stands_in, passes_there}

one_class : (one other : Name) → Class one ≡ Class other → one ≡ other
one_class one other e = cc

one_some : {A : Type 0} (one other : A) (found : Option A) → found ≡ Some one → found ≡ Some other → one ≡ other
one_some one other found e f = cc

-- ---- what stands behind `super` isn't abstract

module _ (site : Site) (lawful : IsLawful site.headers) (roots : RootsAreNamed site) (method : MethodRef) (plain : is_constructor method.name ≡ false)
    (there : (name : Name) → method.owner ≡ Class name → Contains (names site.headers) name) where
  abbrev IsConcrete : Option Name → Type 0
  IsConcrete above = means_abstract site above method.name (Some (exact (parameters_of method.descriptor))) ≡ false

  -- an interface that the class lists
  abbrev IsListed : Name → Type 0
  IsListed interface = list_any (λ name. is_name name interface) (interfaces_of site.headers site.class) ≡ true

  concrete_behind : (above upper : Name) → superclass_in (header_of site.headers site.class) ≡ Some above → superclass_in (header_of site.headers site.class) ≡ Some upper
      → meant.is_abstract_above site.headers site.members site.class above method ≡ false → IsConcrete None
  concrete_behind above upper is same concrete = rw is concrete

  concrete_lawful : (receiver : Receiver) → meant.IsLawful site.headers site.members site.class method receiver → (above : Option Name) → IsBehindSuper site method above → IsConcrete above
  concrete_lawful receiver (meant.lawful_new is) above behind = absurd (both_ways (is_constructor method.name) plain is.constructs)
  concrete_lawful receiver (meant.lawful_construct is) above behind = absurd (both_ways (is_constructor method.name) plain is.constructs)
  concrete_lawful receiver (meant.lawful_private owner no_constructor object) None (named.class {above = upper} in_class superclass begins) =
      absurd (roots.above (superclass ∙ ap Some (one_class upper site.class (sym begins ∙ roots.own method owner ∙ owner))))
  concrete_lawful receiver (meant.lawful_private owner no_constructor object) (Some interface) (named.interface owned listed) =
      absurd (both_ways (list_any (λ name. is_name name site.class) (interfaces_of site.headers site.class)) roots.listed (subst IsListed (one_class interface site.class (sym owned ∙ owner)) listed))
  concrete_lawful receiver (meant.lawful_super is) None (named.class {above = upper} in_class superclass begins) = concrete_behind is.above upper is.superclass superclass is.concrete
  concrete_lawful receiver (meant.lawful_super is) (Some interface) (named.interface owned listed) =
      absurd (not_listed site.headers lawful site.class is.above interface method is.superclass is.owner owned listed (there interface owned))
  concrete_lawful receiver (meant.lawful_interface is) None (named.class {above = upper} in_class superclass begins) =
      absurd (not_listed site.headers lawful site.class upper is.interface method superclass begins is.owner is.listed (there is.interface is.owner))
  concrete_lawful receiver (meant.lawful_interface is) (Some interface) (named.interface owned listed) =
      subst (λ (name : Name). meant.is_abstract_above site.headers site.members site.class name method ≡ false) (one_class is.interface interface (sym is.owner ∙ owned)) is.concrete

lawful_of : (site : Site) (receiver : Receiver) (method : MethodRef) → meant.HasMember site.headers site.members site.class (may_assign site) receiver (InvokeSpecial method) → meant.IsLawful site.headers site.members site.class method receiver
lawful_of site receiver method (meant.invoke_special is) = is
lawful_of site receiver method (meant.none e) = absurd (cc)

one_method : (one other : MethodRef) → InvokeSpecial one ≡ InvokeSpecial other → one ≡ other
one_method one other e = cc

-- ---- each instruction

same_pair : (at : ℕ × Instruction) (pc : ℕ) (instruction : Instruction) → at.0 ≡ pc → at.1 ≡ instruction → at ≡ (pc, instruction)
same_pair at pc instruction first second = ap (λ (one : ℕ). (one, at.1)) first ∙ ap (λ (one : Instruction). (pc, one)) second

-- what stands at an offset is in the code
found_in : (list : Instructions) (pc : ℕ) (instruction : Instruction) → instruction_at list pc ≡ Some instruction → Contains list (pc, instruction)
found_in [] pc instruction e = absurd (cc)
found_in (first ∷ rest) pc instruction e = by (first.0 == pc) refl e (found_in rest pc instruction)
  where
    some : (one other : Instruction) → Some one ≡ Some other → one ≡ other
    some one other e = cc

    by : (test : Bool) → (first.0 == pc) ≡ test → (if test then Some first.1 else instruction_at rest pc) ≡ Some instruction → (instruction_at rest pc ≡ Some instruction → Contains rest (pc, instruction)) → Contains (first ∷ rest) (pc, instruction)
    by true same e later = (0, omega arith, same_pair first pc instruction (eqb-true first.0 pc same) (some first.1 instruction e))
    by false differ e later = let (k, within, is) = later e in (suc k, omega (arith, within), is)

module _ (world : WorldOf) (typed : Typed) (writing : Writing) (lawful : IsLawful world.headers) (all_named : AllIsNamed writing world typed.code)
    (there : (name : Name) → IsInCode typed.code name → Contains (names world.headers) name)
    (table : IsTyped (Laxly world.headers) world.headers typed) (rising : IsRising typed.code.instructions)
    (member : (pc : ℕ) → ¬ LacksMember world typed pc) where
  abbrev site : Site
  site = site_of writing world typed.code

  -- so each instruction is served by a receiver
  record IsServedAt (pc : ℕ) (instruction : Instruction) : Type 0 where
    receiver : Receiver
    has : meant.HasMember site.headers site.members site.class (may_assign site) receiver instruction
    born : ¬ IsOwnCall typed pc → (method : MethodRef) → instruction ≡ InvokeSpecial method → is_constructor method.name ≡ true → receiver ≡ Made
    begun : IsOwnCall typed pc → receiver ≡ Begun

  many : length typed.frames ≡ length typed.code.instructions
  many = sym (length-map typed.frames top_down) ∙ table.number

  served_at : (pc : ℕ) (instruction : Instruction) → Contains typed.code.instructions (pc, instruction) → IsServedAt pc instruction
  served_at pc instruction (k, within, is) =
      let (rest, e) = from_place typed.code.instructions k (pc, instruction) within is in
      let (frame, here) = frame-there typed.code.instructions typed.frames k (pc, instruction) rest many e in
      let not_lacking : ¬ ¬ HasMember world.headers (map view_members world.members) typed.code.class (IsOnThis typed pc) frame instruction = λ lacks. member pc (in_place (λ at one found. (pc ≡ at) × ¬ HasMember world.headers (map view_members world.members) typed.code.class (IsOnThis typed pc) found one)
      typed.code.instructions typed.frames k pc instruction frame within is here (refl, lacks)) in
      elim (cases_Bool (calls_own instruction frame)) [
        | inl own ↦ record {
          receiver = Begun;
          has = own_served world.headers (map view_members world.members) typed.code.class (IsOnThis typed pc) frame instruction own not_lacking;
          born = λ not_own. absurd (not_own (stands_in calls_own typed.code.instructions typed.frames k pc instruction frame within is here own));
          begun = λ calls. refl;
        }
        | inr other ↦ (
            let one = served world.headers (map view_members world.members) typed.code.class (IsOnThis typed pc) frame instruction
            (no_own_call instruction frame (λ calls. both_ways (calls_own instruction frame) other calls)) not_lacking in
            record {
              receiver = one.receiver;
              has = one.has;
              born = λ not_own. one.born;
              begun = λ calls. absurd (both_ways (calls_own instruction frame) other (passes_there calls_own typed.code.instructions typed.frames k pc instruction frame rising within is here calls));
            })
      ]

  receiver_of : (pc : ℕ) (found : Option Instruction) → instruction_at typed.code.instructions pc ≡ found → Receiver
  receiver_of pc None none = Other
  receiver_of pc (Some instruction) some = (served_at pc instruction (found_in typed.code.instructions pc instruction some)).receiver

  receivers : ℕ → Receiver
  receivers pc = receiver_of pc (instruction_at typed.code.instructions pc) refl

  -- what holds of each instruction with its receiver
  by_receiver : (pc : ℕ) (instruction : Instruction) (P : Receiver → Type 0) → ((is : Contains typed.code.instructions (pc, instruction)) → P (served_at pc instruction is).receiver)
      → (found : Option Instruction) (e : instruction_at typed.code.instructions pc ≡ found) → found ≡ Some instruction → P (receiver_of pc found e)
  unfolding receiver_of
  by_receiver pc instruction P each None e same = absurd (cc)
  by_receiver pc instruction P each (Some one) e same = subst (λ (other : Instruction). ((is : Contains typed.code.instructions (pc, other)) → P (served_at pc other is).receiver)) (sym (some one instruction same)) each (found_in typed.code.instructions pc one e)
    where
      some : (one other : Instruction) → Some one ≡ Some other → one ≡ other
      some one other e = cc

  named_at : (pc : ℕ) (instruction : Instruction) → Contains typed.code.instructions (pc, instruction) → IsNamed site instruction
  named_at = all_named.instructions

  owner_there : (pc : ℕ) (method : MethodRef) → Contains typed.code.instructions (pc, InvokeSpecial method) → (name : Name) → method.owner ≡ Class name → Contains (names world.headers) name
  owner_there pc method (k, within, is) name owner = there name (in_instruction (k, (pc, InvokeSpecial method), within, is, inl (ap class_of owner)))

  member_at : (pc : ℕ) (instruction : Instruction) → instruction_at typed.code.instructions pc ≡ Some instruction → meant.HasMember site.headers site.members site.class (may_assign site) (receivers pc) instruction
  unfolding receivers
  member_at pc instruction at =
      by_receiver pc instruction (λ receiver. meant.HasMember site.headers site.members site.class (may_assign site) receiver instruction) (λ is. (served_at pc instruction is).has) (instruction_at typed.code.instructions pc) refl at

  allowed : (pc : ℕ) (instruction : Instruction) → Contains typed.code.instructions (pc, instruction) → ¬ IsOwnCall typed pc → IsAllowed site receivers pc instruction
  unfolding receivers
  allowed pc instruction has not_own = record {
    member = member_at pc instruction at;
    concrete = λ method same plain above behind. concrete_lawful site lawful all_named.roots method plain (owner_there pc method (subst (λ (one : Instruction). Contains typed.code.instructions (pc, one)) same has)) (receivers pc)
        (lawful_of site (receivers pc) method (subst (λ (one : Instruction). meant.HasMember site.headers site.members site.class (may_assign site) (receivers pc) one) same (member_at pc instruction at))) above behind;
    born = λ method same constructs. by_receiver pc instruction (λ receiver. receiver ≡ Made) (λ is. (served_at pc instruction is).born not_own method same constructs) (instruction_at typed.code.instructions pc) refl at;
    named = all_named.instructions pc instruction has;
  }
    where
      at : instruction_at typed.code.instructions pc ≡ Some instruction
      at = stands_there typed.code.instructions pc instruction rising has

  -- the call of another constructor on `this` has the one that source means by it
  own : (pc : ℕ) (method : MethodRef) → Contains typed.code.instructions (pc, InvokeSpecial method) → IsOwnCall typed pc → is_constructor method.name ≡ true → IsOfConstruct site.headers site.members site.class method
  unfolding receivers
  own pc method has calls constructs =
      own_means world.headers (map view_members world.members) typed.code.class method constructs
      (subst (λ (receiver : Receiver). meant.HasMember site.headers site.members site.class (may_assign site) receiver (InvokeSpecial method)) begun (member_at pc (InvokeSpecial method) at))
    where
      at : instruction_at typed.code.instructions pc ≡ Some (InvokeSpecial method)
      at = stands_there typed.code.instructions pc (InvokeSpecial method) rising has

      begun : receivers pc ≡ Begun
      begun = by_receiver pc (InvokeSpecial method) (λ receiver. receiver ≡ Begun) (λ is. (served_at pc (InvokeSpecial method) is).begun calls) (instruction_at typed.code.instructions pc) refl at

  pub others_allowed : OthersAreAllowed writing world typed
  others_allowed = record { receivers = receivers; allowed = allowed; own = own }
