-- Core classes, taken one by one.
use Rattle.std.proofs.Common.{arith, ◌≡◌, ℕ, ◌+◌, ◌≤◌, length, flat_map, List, [], ◌∷◌, ◌++◌, take, slice_get, Option, Some, None, IsSomeAnd, sym, ap, subst, refl, ◌∙◌}
use Rattle.std.proofs.lemmas.List.{take_more, length-map, length-take, length_push}
use Rattle.std.proofs.Math.Nat.{min-le_left}
use Rattle.std.proofs.lemmas.List.Folds.{length-flat_map-take}
use Rattle.std.proofs.lemmas.Option.{slice_get_within, get_or_from_slice_get}
use Rattle.dj_names.specs.declared.header.Header.{Header}
use Rattle.dj_names.specs.declared.members.ClassMembers.{ClassMembers}
use Rattle.dj_core.specs.CoreClass.{CoreClass, view_head, IsMade}
use Rattle.dj_core.specs.CoreTable.{core_classes}
use Rattle.dj_world.specs.declared.fault.ClashKind.{ClashKind}
use Rattle.dj_world.specs.Clashes.{Clashes, IsLeastClash}
use Rattle.dj_world.specs.declared.fault.AddFault.{AddFault}
use Rattle.dj_world.specs.declared.fault.AddFault.TheVariants as refused
use Rattle.dj_world.specs.Worlds.{WorldOf, IsAdded, IsAddFault}
use Rattle.dj_world.specs.Filling.{Takes, added, passed_over, Fills}

and_some : {A : Type 0} (P : A → Type 0) (found : Option A) → IsSomeAnd found P → (x : A) × (found ≡ Some x) × P x
and_some P None none = absurd none
and_some P (Some x) holds = (x, refl, holds)

Fills-last : (old between new : WorldOf) (cores : List CoreClass) (core : CoreClass) → Fills old cores between → Takes between core new → Fills old (cores ++ core ∷ []) new
Fills-last old between new [] core same last = (new, subst (λ (w : WorldOf). Takes w core new) (sym same) last, refl)
Fills-last old between new (first ∷ cores) core before last = (before.0, before.1, Fills-last before.0 between new cores core before.2 last)

pub Fills-more : (cores : List CoreClass) (at : ℕ) (old between new : WorldOf) → Fills old (take at cores) between → IsSomeAnd (slice_get cores at) (λ core. Takes between core new) → Fills old (take (at + 1) cores) new
Fills-more cores at old between new before some =
    let found = and_some (λ (core : CoreClass). Takes between core new) (slice_get cores at) some in
    let core = found.0 in
    subst (λ (cs : List CoreClass). Fills old cs new)
    (sym (take_more cores at core (slice_get_within cores at core found.1) ∙ ap (λ (c : CoreClass). take at cores ++ c ∷ []) (get_or_from_slice_get cores at core core found.1)))
    (Fills-last old between new (take at cores) core before found.2)

-- a core class that was made and clashes is passed over
pub takes_clash : (found : Option CoreClass) (header : Header) (members : ClassMembers) (old new : WorldOf) (kind : ClashKind) → IsSomeAnd found (λ core. IsMade core header members) → IsLeastClash old.headers header kind → new ≡ old
    → IsSomeAnd found (λ core. Takes old core new)
takes_clash None header members old new kind none clash same = absurd none
takes_clash (Some core) header members old new kind made clash same = passed_over kind (subst (λ (h : Header). Clashes old.headers h kind) made.header_is clash.applies) same

-- one that was made and added is there
pub takes_added : (found : Option CoreClass) (header : Header) (members : ClassMembers) (old new : WorldOf) → IsSomeAnd found (λ core. IsMade core header members) → IsAdded old header members new → IsSomeAnd found (λ core. Takes old core new)
takes_added None header members old new none is = absurd none
takes_added (Some core) header members old new made is = added members made.are_members (subst (λ (h : Header). IsAdded old h members new) made.header_is is)

-- the clash that a refusal tells
pub least_of : (headers : List Header) (header : Header) (fault : AddFault) (kind : ClashKind) → fault ≡ refused.Clash kind → IsAddFault headers header fault → IsLeastClash headers header kind
least_of headers header fault kind is clash = subst (λ (f : AddFault). IsAddFault headers header f) is clash

-- ---- how many classes and methods there are

-- each of these classes has at most as many methods as all together
few_in : (cores : List CoreClass) (at : ℕ) (core : CoreClass) → slice_get cores at ≡ Some core → length core.methods ≤ length (flat_map (λ (c : CoreClass). c.methods) cores)
few_in cores at core is = omega (
  arith,
  length-flat_map-take (λ (c : CoreClass). c.methods) cores at core (slice_get_within cores at core is),
  ap (λ (c : CoreClass). length c.methods) (get_or_from_slice_get cores at core core is),
)

all_methods : length (flat_map (λ (c : CoreClass). c.methods) core_classes) ≡ 93
all_methods = refl

-- one that was made has few
pub made_few : (at : ℕ) (header : Header) (members : ClassMembers) → IsSomeAnd (slice_get core_classes at) (λ core. IsMade core header members) → length members.methods ≤ 93
made_few at header members made =
    let found = and_some (λ (core : CoreClass). IsMade core header members) (slice_get core_classes at) made in
    let same : length members.methods ≡ length found.0.methods = sym (length-map members.methods view_head) ∙ ap length found.2.are_members.methods in
    subst (λ (n : ℕ). length members.methods ≤ n) all_methods (subst (λ (n : ℕ). n ≤ length (flat_map (λ (c : CoreClass). c.methods) core_classes)) (sym same) (few_in core_classes at found.0 found.1))

Takes_few : (old new : WorldOf) (core : CoreClass) → Takes old core new → length new.members ≤ length old.members + 1
Takes_few old new core (added members are is) = omega (arith, ap length is.members ∙ length_push old.members members)
Takes_few old new core (passed_over kind clash same) = omega (arith, ap (λ (w : WorldOf). length w.members) same)

Fills_few : (old new : WorldOf) (cores : List CoreClass) → Fills old cores new → length new.members ≤ length old.members + length cores
Fills_few old new [] same = omega (arith, ap (λ (w : WorldOf). length w.members) same)
Fills_few old new (core ∷ cores) more = omega (arith, Takes_few old more.0 core more.1, Fills_few more.0 new cores more.2)

-- so many steps add at most so many classes
pub filled_few : (cores : List CoreClass) (at : ℕ) (old new : WorldOf) → Fills old (take at cores) new → length new.members ≤ length old.members + at
filled_few cores at old new fills = omega (arith, Fills_few old new (take at cores) fills, length-take at cores, min-le_left at (length cores))
