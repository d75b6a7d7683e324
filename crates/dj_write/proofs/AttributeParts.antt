-- The attributes of members: those of a file, and those that are written for them.
use Rattle.std.proofs.Common.{◌≡◌, ℕ, ◌+◌, ◌*◌, ◌<◌, Bool, true, false, List, [], ◌∷◌, ◌++◌, length, map, filter, Option, Some, None, slice_get, refl, sym, ap, ◌∙◌, arith, if◌then◌else◌}
use Rattle.std.specs.Prelude.{IsSomeAnd}
use Rattle.std.specs.List.{AllByRecursion, flat_map}
use Rattle.std.specs.Option.{option_and_then}
use Rattle.std.proofs.lemmas.Bool.{false≢true}
use Rattle.std.proofs.lemmas.List.Elements.{All-from_recursion}
use Rattle.std.proofs.lemmas.Option.{none-some}
use Rattle.std.proofs.lemmas.Slice.Eq.{bytes_eq-Decides}
use Rattle.dj_layout.specs.Layout.{IsBytes, Layout}
use Rattle.dj_layout.specs.Parts.{number}
use Rattle.dj_layout.specs.Passes.{IsSequence}
use Rattle.dj_names.specs.declared.members.Constant.{Constant}
use Rattle.dj_names.specs.declared.members.Constant.TheVariants as constant
use Rattle.dj_pool.specs.declared.entry.Entry.{Entry}
use Rattle.dj_pool.specs.declared.entry.Entry.TheVariants as entry
use Rattle.dj_pool.specs.declared.fault.BrokenKind.{BrokenKind}
use Rattle.dj_pool.specs.declared.raw.Attribute.{Attribute}
use Rattle.dj_pool.specs.Attributes.{contents, is_name}
use Rattle.dj_pool.specs.PoolFormat.{HasTag, tag_of, text_at}
use Rattle.dj_pool.specs.SharedParts.{attribute, counted, u2}
use Rattle.dj_class.specs.Described.{constant_of}
use Rattle.dj_class.specs.FileFormat.{index_of}
use Rattle.dj_write.specs.Found.{constant_at}

-- ---- how they are spelled

pub bytes_of : (index : ℕ) → AllByRecursion (λ (b : ℕ). b < 256) (u2.spell index)
unfolding number
bytes_of index = (omega arith, (omega arith, tt))

all_both : (xs ys : List ℕ) → AllByRecursion (λ (b : ℕ). b < 256) xs → AllByRecursion (λ (b : ℕ). b < 256) ys → AllByRecursion (λ (b : ℕ). b < 256) (xs ++ ys)
all_both [] ys all others = others
all_both (x ∷ xs) ys all others = (all.0, all_both xs ys all.1 others)

bytes_of_all : (indices : List ℕ) → AllByRecursion (λ (b : ℕ). b < 256) (flat_map u2.spell indices)
bytes_of_all [] = tt
bytes_of_all (index ∷ indices) = all_both (u2.spell index) (flat_map u2.spell indices) (bytes_of index) (bytes_of_all indices)

pub index_bytes : (index : ℕ) → IsBytes (u2.spell index)
index_bytes index = All-from_recursion (λ (b : ℕ). b < 256) (u2.spell index) (bytes_of index)

pub indices_bytes : (indices : List ℕ) → IsBytes ((counted u2).spell indices)
indices_bytes indices =
    All-from_recursion (λ (b : ℕ). b < 256) ((counted u2).spell indices) (all_both (u2.spell (length indices)) (flat_map u2.spell indices) (bytes_of (length indices)) (bytes_of_all indices))

pub index_long : (index : ℕ) → length (u2.spell index) ≡ 2
unfolding number
index_long index = refl

length_all : (indices : List ℕ) → length (flat_map u2.spell indices) ≡ 2 * length indices
unfolding number
length_all [] = refl
length_all (index ∷ indices) = let others = length_all indices in omega arith

pub indices_long : (indices : List ℕ) → length ((counted u2).spell indices) ≡ 2 * length indices + 2
unfolding number
indices_long indices = let all = length_all indices in omega arith

pub index_back : (index : ℕ) → index < 65536 → index_of (u2.spell index) ≡ index
unfolding number
index_back index small = omega arith

-- an attribute with a small index and a content of bytes is laid out
pub attribute_fits : (name : ℕ) (content : List ℕ) → name < 65536 → length content < 4294967296 → IsBytes content → attribute.Fits (record { name = name; content = content })
unfolding number
attribute_fits name content small long bytes = (small, ((long, (refl, bytes)), refl))

-- ---- attributes of a name among those of a file

name_is : (name : List ℕ) (o : Option (List ℕ)) → is_name name o ≡ true → o ≡ Some name
name_is name None is = absurd (false≢true is)
name_is name (Some units) is = ap Some ((bytes_eq-Decides units name).0 is)

-- an attribute of the name, with this content
pub record IsThere (pool : List Entry) (P : Attribute → Type 0) (name content : List ℕ) : Type 0 where
  pub this : Attribute
  pub holds : P this
  pub named : text_at pool this.name ≡ Some name
  pub same : this.content ≡ content

no_head : (x : List ℕ) (xs : List (List ℕ)) → [] ≡ x ∷ xs → ⊥
no_head x xs is = absurd cc

same_head : (x y : List ℕ) (xs ys : List (List ℕ)) → x ∷ xs ≡ y ∷ ys → x ≡ y
same_head x y xs ys is = cc

pub named_there : (pool : List Entry) (P : Attribute → Type 0) (name content : List ℕ) (others : List (List ℕ)) (attributes : List Attribute) → AllByRecursion P attributes
    → contents pool name attributes ≡ content ∷ others → IsThere pool P name content
named_there pool P name content others [] all is = absurd (no_head content others is)
named_there pool P name content others (a ∷ attributes) all is =
    let kept = filter (λ (x : Attribute). is_name name (text_at pool x.name)) attributes in
    go kept (is_name name (text_at pool a.name)) refl (named_there pool P name content others attributes all.1) is
  where
    go : (kept : List Attribute) (b : Bool) → is_name name (text_at pool a.name) ≡ b → (map (λ (x : Attribute). x.content) kept ≡ content ∷ others → IsThere pool P name content)
        → map (λ (x : Attribute). x.content) (if b then a ∷ kept else kept) ≡ content ∷ others → IsThere pool P name content
    go kept true named rest same = record {
      this = a;
      holds = all.0;
      named = name_is name (text_at pool a.name) named;
      same = same_head a.content content (map (λ (x : Attribute). x.content) kept) others same;
    }
    go kept false named rest same = rest same

-- what each attribute has as those before it ask
pub each_in_turn : (enough : List Attribute → Bool) (P : Attribute → Type 0) (next : List Attribute → Layout BrokenKind Attribute) → ((before : List Attribute) (a : Attribute) → (next before).Fits a → P a)
    → (before attributes : List Attribute) → IsSequence enough next before attributes → AllByRecursion P attributes
each_in_turn enough P next gives before [] are = tt
each_in_turn enough P next gives before (a ∷ attributes) are = (gives before a are.1, each_in_turn enough P next gives (before ++ a ∷ []) attributes are.2)

-- ---- tags of constants

abbrev wanted : Option Constant → ℕ
wanted None = 0
wanted (Some (constant.Int number)) = 3
wanted (Some (constant.Long number)) = 5
wanted (Some (constant.Text units)) = 8
wanted (Some (constant.Float bits)) = 4
wanted (Some (constant.Double bits)) = 6

text_wanted : (o : Option (List ℕ)) (one : Constant) → option_and_then (λ found. Some (constant.Text found)) o ≡ Some one → 8 ≡ wanted (Some one)
text_wanted None one is = absurd (none-some one is)
text_wanted (Some units) one is = ap wanted is

-- an entry that is this constant has the constant's tag
tag_is : (pool : List Entry) (found : Entry) (one : Constant) → constant_of pool found ≡ Some one → tag_of found ≡ wanted (Some one)
tag_is pool entry.Skip one is = absurd (none-some one is)
tag_is pool (entry.Utf8 units) one is = absurd (none-some one is)
tag_is pool (entry.Integer value) one is = ap wanted is
tag_is pool (entry.Float bits) one is = ap wanted is
tag_is pool (entry.Long value) one is = ap wanted is
tag_is pool (entry.Double bits) one is = ap wanted is
tag_is pool (entry.Class name) one is = absurd (none-some one is)
tag_is pool (entry.Text index) one is = text_wanted (text_at pool index) one is
tag_is pool (entry.FieldRef class member) one is = absurd (none-some one is)
tag_is pool (entry.MethodRef class member) one is = absurd (none-some one is)
tag_is pool (entry.InterfaceMethodRef class member) one is = absurd (none-some one is)
tag_is pool (entry.NameAndType name descriptor) one is = absurd (none-some one is)
tag_is pool (entry.MethodHandle kind reference) one is = absurd (none-some one is)
tag_is pool (entry.MethodType descriptor) one is = absurd (none-some one is)
tag_is pool (entry.InvokeDynamic bootstrap member) one is = absurd (none-some one is)

same_tag_of : (pool : List Entry) (tag : ℕ) (one : Constant) (a b : Option Entry) → option_and_then (constant_of pool) a ≡ Some one → option_and_then (constant_of pool) b ≡ Some one
    → IsSomeAnd a (λ found. tag_of found ≡ tag) → IsSomeAnd b (λ found. tag_of found ≡ tag)
same_tag_of pool tag one None b first second has = absurd has
same_tag_of pool tag one (Some x) None first second has = absurd (none-some one second)
same_tag_of pool tag one (Some x) (Some y) first second has = tag_is pool y one second ∙ sym (tag_is pool x one first) ∙ has

-- indices of one constant have one tag
pub same_tag : (pool : List Entry) (tag : ℕ) (one : Constant) (a b : ℕ) → constant_at pool a ≡ Some one → constant_at pool b ≡ Some one → HasTag pool a tag → HasTag pool b tag
same_tag pool tag one a b first second has = same_tag_of pool tag one (slice_get pool a) (slice_get pool b) first second has
