-- A file that is laid out has room for all that it holds.
use Rattle.std.proofs.Common.{ℕ, ◌==◌, Bool, true, false, List, [], ◌∷◌, ◌++◌, filter, flat_map, None, subst, arith, if◌then◌else◌}
use Rattle.std.specs.List.{All, AllByRecursion}
use Rattle.std.proofs.lemmas.List.Elements.{All-from_recursion, recursion_from_All}
use Rattle.dj_layout.specs.Parts.{number}
use Rattle.dj_layout.specs.Passes.{IsSequence}
use Rattle.dj_pool.specs.declared.entry.Entry.{Entry}
use Rattle.dj_pool.specs.declared.entry.Entry.TheVariants as entry
use Rattle.dj_pool.specs.declared.raw.Attribute.{Attribute}
use Rattle.dj_pool.specs.PoolFormat.{entry_within, isnt_skip, places, pool, spread, tag_of}
use Rattle.dj_pool.specs.SharedParts.{attribute, counted}
use Rattle.dj_class.specs.Members.{RawMember, member}
use Rattle.dj_class.specs.FileFormat.{Raw, file}
use Rattle.dj_write.specs.Files.{HasRoom, HasRoomForContent, HasRoomForMember, HasRoomForText}

-- ---- the texts of the pool

entry_room : (within : ℕ) (found : Entry) → (entry_within None within).Fits found → HasRoomForText found
unfolding number
entry_room within entry.Skip fits = omega arith
entry_room within (entry.Utf8 units) fits = fits.1.0.0
entry_room within (entry.Integer value) fits = omega arith
entry_room within (entry.Float bits) fits = omega arith
entry_room within (entry.Long value) fits = omega arith
entry_room within (entry.Double bits) fits = omega arith
entry_room within (entry.Class name) fits = omega arith
entry_room within (entry.Text units) fits = omega arith
entry_room within (entry.FieldRef class member) fits = omega arith
entry_room within (entry.MethodRef class member) fits = omega arith
entry_room within (entry.InterfaceMethodRef class member) fits = omega arith
entry_room within (entry.NameAndType name descriptor) fits = omega arith
entry_room within (entry.MethodHandle kind reference) fits = omega arith
entry_room within (entry.MethodType descriptor) fits = omega arith
entry_room within (entry.InvokeDynamic bootstrap member) fits = omega arith

sequence_room : (enough : List Entry → Bool) (within : List Entry → ℕ) (before found : List Entry) → IsSequence enough (λ these. entry_within None (within these)) before found → AllByRecursion HasRoomForText found
sequence_room enough within before [] is = tt
sequence_room enough within before (first ∷ found) is = (entry_room (within before) first is.1, sequence_room enough within (before ++ first ∷ []) found is.2)

all_both : (first second : List Entry) → AllByRecursion HasRoomForText first → AllByRecursion HasRoomForText second → AllByRecursion HasRoomForText (first ++ second)
all_both [] second all others = others
all_both (one ∷ first) second all others = (all.0, all_both first second all.1 others)

spread_room : (found : List Entry) → AllByRecursion HasRoomForText found → AllByRecursion HasRoomForText (flat_map spread found)
spread_room [] all = tt
spread_room (one ∷ found) all = all_both (spread one) (flat_map spread found) (go (places (tag_of one) == 2)) (spread_room found all.1)
  where
    go : (wide : Bool) → AllByRecursion HasRoomForText (if wide then one ∷ entry.Skip ∷ [] else one ∷ [])
    go true = (all.0, (omega arith, tt))
    go false = (all.0, tt)

texts_room : (found : List Entry) → (pool None).Fits found → All HasRoomForText found
texts_room found fits =
    All-from_recursion HasRoomForText found
    (subst (AllByRecursion HasRoomForText) fits.1.1 (omega arith, spread_room (filter isnt_skip found) (sequence_room _ _ [] (filter isnt_skip found) fits.1.0.0)))

-- ---- members and attributes

contents_room : (attributes : List Attribute) → AllByRecursion attribute.Fits attributes → AllByRecursion HasRoomForContent attributes
unfolding number
contents_room [] all = tt
contents_room (a ∷ attributes) all = (all.0.1.0.0, contents_room attributes all.1)

attributes_room : (attributes : List Attribute) → (counted attribute).Fits attributes → All HasRoomForContent attributes
attributes_room attributes fits = All-from_recursion HasRoomForContent attributes (contents_room attributes (recursion_from_All attribute.Fits attributes fits.1.1))

each_member_room : (members : List RawMember) → AllByRecursion member.Fits members → AllByRecursion HasRoomForMember members
unfolding number
each_member_room [] all = tt
each_member_room (m ∷ members) all = (record { few = all.0.1.1.1.0.0; contents = attributes_room m.attributes all.0.1.1.1.0 }, each_member_room members all.1)

members_room : (members : List RawMember) → (counted member).Fits members → All HasRoomForMember members
members_room members fits = All-from_recursion HasRoomForMember members (each_member_room members (recursion_from_All member.Fits members fits.1.1))

pub file_room : (oldest : ℕ) (raw : Raw) → (file oldest).Fits raw → HasRoom raw
unfolding number
file_room oldest raw fits =
    let listed = fits.1.1.0.1.0 in
    record {
      pool = fits.1.0.1.1.0.0.0;
      texts = texts_room raw.front.pool fits.1.0.1.1.0;
      interfaces = listed.0.0;
      fields = listed.1.0.0;
      each_field = members_room raw.rest.listed.fields listed.1.0;
      methods = listed.1.1.0.0;
      each_method = members_room raw.rest.listed.methods listed.1.1.0;
      attributes = listed.1.1.1.0.0;
      each_attribute = attributes_room raw.rest.listed.attributes listed.1.1.1.0;
    }
