-- What is lawful is laid out: the last passes ask more than the first.
use Rattle.std.proofs.Common.{ℕ, Bool, List, [], ◌∷◌, ◌++◌, Some, None, refl, subst}
use Rattle.std.specs.List.{AllByRecursion}
use Rattle.std.proofs.lemmas.List.Elements.{recursion_from_All, All-from_recursion}
use Rattle.dj_layout.specs.Layout.{Layout, SpellsSome, SpellsAny}
use Rattle.dj_layout.specs.Passes.{asked, IsSequence}
use Rattle.dj_layout.proofs.Laws.{unique}
use Rattle.dj_pool.specs.declared.fault.BrokenKind.{BrokenKind}
use Rattle.dj_pool.specs.declared.fault.BrokenKind.TheVariants as kind
use Rattle.dj_pool.specs.declared.raw.Attribute.{Attribute}
use Rattle.dj_class.specs.Members.{RawMember, member}
use Rattle.dj_pool.specs.SharedParts.{u2, counted, attribute}
use Rattle.dj_pool.specs.declared.entry.Entry.{Entry}
use Rattle.dj_class.specs.declared.front.Front.{Front}
use Rattle.dj_pool.specs.PoolFormat.{IsClassIndex}
use Rattle.dj_class.specs.FileFormat.{Own, Listed, Rest, Raw, front, plain_own, plain_listed, plain_rest, file, named, counted_in_turn, lawful_in_field, lawful_in_method, HasBodyAs, method_attributes, field, method, class_indices, lawful_own, lawful_listed, lawful_rest, sound}
use Rattle.dj_pool.proofs.SharedAreExact.{exact-attributes}
use Rattle.dj_pool.proofs.PoolIsFiner.{entries_plain}

front_plain : (oldest : ℕ) (given : List Entry) (x : Front) → (front oldest (Some given)).Fits x → (front oldest None).Fits x
front_plain oldest given x fits = (fits.0, (fits.1.0, ((fits.1.1.0.0, entries_plain given _ x.pool fits.1.1.0.1), fits.1.1.1)))

-- ---- the rest

all_plain : {A : Type 0} (P Q : A → Type 0) → ((x : A) → P x → Q x) → (xs : List A) → AllByRecursion P xs → AllByRecursion Q xs
all_plain P Q weaker [] all = tt
all_plain P Q weaker (x ∷ xs) all = (weaker x all.0, all_plain P Q weaker xs all.1)

counted_plain : {A : Type 0} (one other : Layout BrokenKind A) → ((x : A) → one.Fits x → other.Fits x) → (xs : List A) → (counted one).Fits xs → (counted other).Fits xs
counted_plain one other plain xs fits = (fits.0, (refl, All-from_recursion other.Fits xs (all_plain one.Fits other.Fits plain xs (recursion_from_All one.Fits xs fits.1.1))))

sequence_items : (enough : List Attribute → Bool) (next : List Attribute → Layout BrokenKind Attribute) → ((before : List Attribute) (x : Attribute) → (next before).Fits x → attribute.Fits x) → (before xs : List Attribute) → IsSequence enough next before xs → AllByRecursion attribute.Fits xs
sequence_items enough next plain before [] are = tt
sequence_items enough next plain before (x ∷ xs) are = (plain before x are.1, sequence_items enough next plain (before ++ x ∷ []) xs are.2)

in_turn_plain : (next : List Attribute → Layout BrokenKind Attribute) → ((before : List Attribute) (x : Attribute) → (next before).Fits x → attribute.Fits x) → (xs : List Attribute) → (counted_in_turn next).Fits xs → (counted attribute).Fits xs
in_turn_plain next plain xs fits = (fits.0, (refl, All-from_recursion attribute.Fits xs (sequence_items _ next plain [] xs fits.1.0)))

pub field_attributes_plain : (pool : List Entry) (descriptor : ℕ) (xs : List Attribute) → (counted_in_turn (lawful_in_field pool descriptor)).Fits xs → (counted attribute).Fits xs
field_attributes_plain pool descriptor xs fits = in_turn_plain (lawful_in_field pool descriptor) (λ before x h. h.0.0) xs fits

pub method_attributes_plain : (pool : List Entry) (xs : List Attribute) → (counted_in_turn (lawful_in_method pool)).Fits xs → (counted attribute).Fits xs
method_attributes_plain pool xs fits = in_turn_plain (lawful_in_method pool) (λ before x h. h.0.0) xs fits

field_plain : (pool : List Entry) (x : RawMember) → (field pool).Fits x → member.Fits x
field_plain pool x fits = (fits.0.0, (fits.1.0.0, (fits.1.1.0.0, (field_attributes_plain pool x.descriptor x.attributes fits.1.1.1.0, fits.1.1.1.1))))

method_plain : (pool : List Entry) (x : RawMember) → (method pool).Fits x → member.Fits x
method_plain pool x fits = (fits.0.0, (fits.1.0.0, (fits.1.1.0.0, (fits.1.1.1.0.0.0, fits.1.1.1.1))))

pub classes_plain : (pool : List Entry) (xs : List ℕ) → (class_indices pool).Fits xs → (counted u2).Fits xs
classes_plain pool xs fits = counted_plain (asked u2 (IsClassIndex pool) kind.Index) u2 (λ x h. h.0) xs fits

own_plain : (pool : List Entry) (x : Own) → (lawful_own pool).Fits x → plain_own.Fits x
own_plain pool x fits = (fits.0.0, (fits.1.0.0, (fits.1.1.0.0, fits.1.1.1)))

listed_plain : (pool : List Entry) (x : Listed) → (lawful_listed pool).Fits x → plain_listed.Fits x
listed_plain pool x fits = (
  classes_plain pool x.interfaces fits.0,
  (
    counted_plain (field pool) member (field_plain pool) x.fields fits.1.0,
    (counted_plain (method pool) member (method_plain pool) x.methods fits.1.1.0, (counted_plain (named pool) attribute (λ a h. h.0) x.attributes fits.1.1.1.0, fits.1.1.1.1)),
  ),
)

rest_plain : (pool : List Entry) (x : Rest) → (lawful_rest pool).Fits x → plain_rest.Fits x
rest_plain pool x fits = (own_plain pool x.own fits.0, (listed_plain pool x.listed fits.1.0, fits.1.1))

-- what is lawful is laid out
pub sound_is_laid_out : (oldest : ℕ) (pool : List Entry) (raw : Raw) → (sound oldest pool).Fits raw → (file oldest).Fits raw
sound_is_laid_out oldest pool raw fits = (fits.0, (front_plain oldest pool raw.front fits.1.0, (rest_plain pool raw.rest fits.1.1.0, fits.1.1.1)))

-- ---- the two passes over the attributes of a method

pub both_passes : {B : Type 0} (pool : List Entry) (flags : ℕ) (Means : List Attribute → B → Type 0) (bytes r s : List ℕ) (found : B) → SpellsAny (asked (counted attribute) (HasBodyAs pool flags) kind.Attribute) bytes r
    → SpellsSome (counted_in_turn (lawful_in_method pool)) Means bytes found s → SpellsSome (method_attributes pool flags) Means bytes found s
both_passes pool flags Means bytes r s found body lawful =
    let plain : (counted attribute).Fits lawful.value = method_attributes_plain pool lawful.value lawful.spells.fits in
    let same = unique (counted attribute) exact-attributes bytes body.value lawful.value r s (record { fits = body.spells.fits.0; text = body.spells.text }) (record { fits = plain; text = lawful.spells.text }) in
    record {
      value = lawful.value;
      spells = record { fits = ((plain, subst (HasBodyAs pool flags) same.0 body.spells.fits.1), lawful.spells.fits); text = lawful.spells.text };
      means = lawful.means;
    }
