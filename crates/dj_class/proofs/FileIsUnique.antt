-- Bytes are a class file of one class at most, or have one fault at most, and never both.
use Rattle.std.proofs.Common.{◌≡◌, ℕ, List, [], ◌∷◌, length, Option, Some, None, refl, sym, subst, ◌∙◌, inl, inr}
use Rattle.std.specs.Prelude.{IsSomeAnd}
use Rattle.std.specs.List.{AllZip}
use Rattle.std.specs.Option.{option_to_list}
use Rattle.dj_layout.specs.declared.fault.Fault.{Fault}
use Rattle.dj_layout.specs.Whole.{IsWhole}
use Rattle.dj_layout.proofs.Laws.{whole_unique, whole_has_no_fault, one_first_fault}
use Rattle.dj_names.specs.declared.members.Constant.{Constant}
use Rattle.dj_names.specs.Headers.{Name}
use Rattle.dj_names.specs.Types.{JType, Descriptor, Field}
use Rattle.dj_names.specs.Descriptors.{SpellsDescriptor}
use Rattle.dj_names.proofs.DescriptorLemmas.{one_spelled}
use Rattle.dj_pool.specs.declared.fault.BrokenKind.{BrokenKind}
use Rattle.dj_pool.specs.declared.fault.BrokenKind.TheVariants as kind
use Rattle.dj_class.specs.Members.{RawMember}
use Rattle.dj_pool.specs.SharedParts.{u2, counted}
use Rattle.dj_pool.specs.declared.entry.Entry.{Entry}
use Rattle.dj_class.specs.Described.{FieldOf, MethodOf, ClassOf, IsConstant, IsThrown, DescribesField, DescribesMethod, DescribesClass, SpellsClass, HasFault}
use Rattle.dj_class.specs.FileFormat.{Raw, LeadsTo, file, sound}
use Rattle.dj_pool.proofs.SharedAreExact.{exact-u2, exact-counted}
use Rattle.dj_class.proofs.FileIsExact.{exact-file, exact-sound}

-- ---- one value

pub one_descriptor : (units : Option (List ℕ)) (a b : Descriptor) → IsSomeAnd units (λ these. SpellsDescriptor these a) → IsSomeAnd units (λ these. SpellsDescriptor these b) → a ≡ b
one_descriptor None a b first second = absurd first
one_descriptor (Some units) a b first second = one_spelled units a b first second

one_value : {A : Type 0} (a b : Option A) → option_to_list a ≡ option_to_list b → a ≡ b
one_value None None same = refl
one_value None (Some b) same = absurd cc
one_value (Some a) None same = absurd cc
one_value (Some a) (Some b) same = cc

-- what a relation gives each item is one
one_list : {A B : Type 0} (R : A → B → Type 0) → ((x : A) (a b : B) → R x a → R x b → a ≡ b) → (xs : List A) (ys zs : List B) → AllZip R xs ys → AllZip R xs zs → ys ≡ zs
one_list R one [] [] [] first second = refl
one_list R one [] [] (y ∷ b) first second = absurd second
one_list R one [] (x ∷ a) b first second = absurd first
one_list R one (m ∷ xs) [] b first second = absurd first
one_list R one (m ∷ xs) (x ∷ a) [] first second = absurd second
one_list R one (m ∷ xs) (x ∷ a) (y ∷ b) first second =
    let head = one m x y first.0 second.0 in
    let tail = one_list R one xs a b first.1 second.1 in
    rw (head, tail) refl

one_name : (pool : List Entry) (index : ℕ) (a b : Name) → LeadsTo pool index a → LeadsTo pool index b → a ≡ b
one_name pool index a b first second = cc

one_constant : (pool : List Entry) (contents : List (List ℕ)) (a b : Option Constant) → IsConstant pool contents a → IsConstant pool contents b → a ≡ b
one_constant pool [] a b first second = first ∙ sym second
one_constant pool (content ∷ []) a b first second = first ∙ sym second
one_constant pool (content ∷ other ∷ others) a b first second = absurd first

one_thrown : (pool : List Entry) (contents : List (List ℕ)) (a b : List Name) → IsThrown pool contents a → IsThrown pool contents b → a ≡ b
one_thrown pool [] a b first second = first ∙ sym second
one_thrown pool (content ∷ []) a b (xs, xs_is, first) (ys, ys_is, second) =
    one_list (LeadsTo pool) (one_name pool) xs a b first (subst (λ (t : List ℕ). AllZip (LeadsTo pool) t b) (whole_unique (counted u2) (exact-counted u2 exact-u2) content ys xs ys_is xs_is) second)
one_thrown pool (content ∷ other ∷ others) a b first second = absurd first

field_with : ℕ → List ℕ → JType → Option Constant → FieldOf
field_with flags name descriptor constant = record { flags = flags; name = name; descriptor = descriptor; constant = constant }

one_field : (pool : List Entry) (member : RawMember) (a b : FieldOf) → DescribesField pool member a → DescribesField pool member b → a ≡ b
unfolding field_with
one_field pool member a b first second =
    let flags : a.flags ≡ b.flags = first.flags ∙ sym second.flags in
    let name : a.name ≡ b.name = cc (first.name, second.name) in
    let of_field : Field a.descriptor ≡ Field b.descriptor = one_descriptor _ (Field a.descriptor) (Field b.descriptor) first.descriptor second.descriptor in
    let descriptor : a.descriptor ≡ b.descriptor = cc in
    let constant = one_constant pool _ a.constant b.constant first.constant second.constant in
    let same : field_with a.flags a.name a.descriptor a.constant ≡ field_with b.flags b.name b.descriptor b.constant = rw (flags, name, descriptor, constant) refl in
    same

method_with : ℕ → List ℕ → Descriptor → List Name → Option (List ℕ) → MethodOf
method_with flags name descriptor thrown code = record { flags = flags; name = name; descriptor = descriptor; thrown = thrown; code = code }

one_method : (pool : List Entry) (member : RawMember) (a b : MethodOf) → DescribesMethod pool member a → DescribesMethod pool member b → a ≡ b
unfolding method_with
one_method pool member a b first second =
    let flags : a.flags ≡ b.flags = first.flags ∙ sym second.flags in
    let name : a.name ≡ b.name = cc (first.name, second.name) in
    let descriptor = one_descriptor _ a.descriptor b.descriptor first.descriptor second.descriptor in
    let thrown = one_thrown pool _ a.thrown b.thrown first.thrown second.thrown in
    let code = one_value a.code b.code (sym first.code ∙ second.code) in
    let same : method_with a.flags a.name a.descriptor a.thrown a.code ≡ method_with b.flags b.name b.descriptor b.thrown b.code = rw (flags, name, descriptor, thrown, code) refl in
    same

class_with : ℕ → ℕ → List Entry → ℕ → Name → Option Name → List Name → List FieldOf → List MethodOf → ClassOf
class_with minor major pool flags this_class super_class interfaces fields methods = record {
  minor = minor;
  major = major;
  pool = pool;
  flags = flags;
  this_class = this_class;
  super_class = super_class;
  interfaces = interfaces;
  fields = fields;
  methods = methods;
}

one_described : (raw : Raw) (a b : ClassOf) → DescribesClass raw a → DescribesClass raw b → a ≡ b
unfolding class_with
one_described raw a b x y =
    let minor : a.minor ≡ b.minor = x.minor ∙ sym y.minor in
    let major : a.major ≡ b.major = x.major ∙ sym y.major in
    let pool : a.pool ≡ b.pool = x.pool ∙ sym y.pool in
    let flags : a.flags ≡ b.flags = x.flags ∙ sym y.flags in
    let this_class = one_name raw.front.pool raw.rest.own.this_class a.this_class b.this_class x.this_class y.this_class in
    let super_class : a.super_class ≡ b.super_class = x.super_class ∙ sym y.super_class in
    let interfaces = one_list (LeadsTo raw.front.pool) (one_name raw.front.pool) raw.rest.listed.interfaces a.interfaces b.interfaces x.interfaces y.interfaces in
    let fields = one_list (DescribesField raw.front.pool) (one_field raw.front.pool) raw.rest.listed.fields a.fields b.fields x.fields y.fields in
    let methods = one_list (DescribesMethod raw.front.pool) (one_method raw.front.pool) raw.rest.listed.methods a.methods b.methods x.methods y.methods in
    let same : class_with a.minor a.major a.pool a.flags a.this_class a.super_class a.interfaces a.fields a.methods ≡ class_with b.minor b.major b.pool b.flags b.this_class b.super_class b.interfaces b.fields b.methods =
    rw (minor, major, pool, flags, this_class, super_class, interfaces, fields, methods) refl in
    same

-- bytes are a class file of one class
pub one_class : (bytes : List ℕ) (oldest : ℕ) (a b : ClassOf) → SpellsClass bytes oldest a → SpellsClass bytes oldest b → a ≡ b
one_class bytes oldest a b first second =
    let raw = whole_unique (file oldest) (exact-file oldest) bytes second.raw first.raw second.laid_out first.laid_out in
    one_described first.raw a b first.described (subst (λ (r : Raw). DescribesClass r b) raw second.described)

-- ---- one fault

-- the last passes spell as the first does
spelled_again : (oldest : ℕ) (pool : List Entry) (raw : Raw) → (sound oldest pool).spell raw ≡ (file oldest).spell raw
spelled_again oldest pool raw = refl

lawful_is_no_fault : (bytes : List ℕ) (oldest : ℕ) (raw : Raw) (fault : Fault BrokenKind) → IsWhole (file oldest) bytes raw → (sound oldest raw.front.pool).Fits raw
    → (sound oldest raw.front.pool).Halts (length bytes) bytes fault → ⊥
lawful_is_no_fault bytes oldest raw fault whole fits halts =
    let layout = sound oldest raw.front.pool in
    let again : IsWhole layout bytes raw = record { fits = fits; text = whole.text ∙ sym (spelled_again oldest raw.front.pool raw) } in
    whole_has_no_fault layout (exact-sound oldest raw.front.pool) kind.Trailing bytes raw fault again (inl halts)

-- a class file has no fault
pub file_has_no_fault : (bytes : List ℕ) (oldest : ℕ) (class : ClassOf) (fault : Fault BrokenKind) → SpellsClass bytes oldest class → HasFault bytes oldest fault → ⊥
file_has_no_fault bytes oldest class fault spells (inl first) = whole_has_no_fault (file oldest) (exact-file oldest) kind.Trailing bytes spells.raw fault spells.laid_out first
file_has_no_fault bytes oldest class fault spells (inr (raw, whole, halts)) =
    let same = whole_unique (file oldest) (exact-file oldest) bytes raw spells.raw whole spells.laid_out in
    lawful_is_no_fault bytes oldest spells.raw fault spells.laid_out spells.lawful (subst (λ (r : Raw). (sound oldest r.front.pool).Halts (length bytes) bytes fault) same halts)

-- bytes have one fault
pub one_file_fault : (bytes : List ℕ) (oldest : ℕ) (f g : Fault BrokenKind) → HasFault bytes oldest f → HasFault bytes oldest g → f ≡ g
one_file_fault bytes oldest f g (inl p) (inl q) = one_first_fault (file oldest) (exact-file oldest) kind.Trailing bytes f g p q
one_file_fault bytes oldest f g (inl p) (inr (raw, whole, halts)) = absurd (whole_has_no_fault (file oldest) (exact-file oldest) kind.Trailing bytes raw f whole p)
one_file_fault bytes oldest f g (inr (raw, whole, halts)) (inl q) = absurd (whole_has_no_fault (file oldest) (exact-file oldest) kind.Trailing bytes raw g whole q)
one_file_fault bytes oldest f g (inr (raw, whole, halts)) (inr (other, other_whole, other_halts)) =
    let same = whole_unique (file oldest) (exact-file oldest) bytes other raw other_whole whole in
    (exact-sound oldest raw.front.pool).one_fault (length bytes) bytes f g halts (subst (λ (r : Raw). (sound oldest r.front.pool).Halts (length bytes) bytes g) same other_halts)
