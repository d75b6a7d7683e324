-- A class file reads in one way, in each pass.
use Rattle.std.proofs.Common.{◌≡◌, ℕ, List, Option, None, Some, length, refl}
use Rattle.dj_layout.specs.Layout.{Layout}
use Rattle.dj_layout.specs.Exact.{IsExact}
use Rattle.dj_layout.proofs.PartsAreExact.{exact-number, exact-exactly, exact-headed, exact-tested}
use Rattle.dj_layout.proofs.PassesAreExact.{exact-asked, exact-again, exact-sequence}
use Rattle.dj_pool.specs.declared.fault.BrokenKind.{BrokenKind}
use Rattle.dj_pool.specs.declared.fault.BrokenKind.TheVariants as kind
use Rattle.dj_pool.specs.declared.raw.Attribute.{Attribute}
use Rattle.dj_class.specs.Members.{RawMember, member}
use Rattle.dj_pool.specs.SharedParts.{u2, attribute}
use Rattle.dj_pool.specs.declared.entry.Entry.{Entry}
use Rattle.dj_class.specs.declared.front.Front.{Front}
use Rattle.dj_pool.specs.PoolFormat.{pool}
use Rattle.dj_class.specs.FileFormat.{Own, Listed, Rest, Raw, magic, major, front, plain_own, plain_listed, rest_of, plain_rest, file_of, file, named, counted_in_turn, class_indices, field, method, method_attributes, lawful_own, lawful_listed, lawful_rest, sound}
use Rattle.dj_pool.proofs.SharedAreExact.{exact-u2, exact-counted, exact-attribute, exact-attributes}
use Rattle.dj_pool.proofs.PoolIsExact.{exact-pool}

-- ---- the first pass

exact-member : IsExact member
exact-member =
    exact-headed (λ m. m.flags) _ _ exact-u2 (λ flags. exact-headed (λ m. m.name) _ _ exact-u2 (λ name. exact-headed (λ m. m.descriptor) _ _ exact-u2 (λ descriptor.
    exact-headed (λ m. m.attributes) _ _ exact-attributes (λ attributes. exact-exactly (record { flags = flags; name = name; descriptor = descriptor; attributes = attributes })))))

exact-magic : IsExact magic
exact-magic = exact-tested _ _ _ (exact-number 4 kind.Short)

exact-major : (oldest : ℕ) → IsExact (major oldest)
exact-major oldest = exact-tested _ _ _ exact-u2

exact-front : (oldest : ℕ) (given : Option (List Entry)) → IsExact (front oldest given)
exact-front oldest given =
    exact-headed (λ (f : Front). f.minor) _ _ exact-u2 (λ minor. exact-headed (λ (f : Front). f.major) _ _ (exact-major oldest) (λ major. exact-headed (λ (f : Front). f.pool) _ _ (exact-pool given) (λ pool. exact-exactly (record { minor = minor; major = major; pool = pool }))))

exact-plain_own : IsExact plain_own
exact-plain_own =
    exact-headed (λ (o : Own). o.flags) _ _ exact-u2 (λ flags. exact-headed (λ (o : Own). o.this_class) _ _ exact-u2 (λ this_class. exact-headed (λ (o : Own). o.super_class) _ _ exact-u2 (λ super_class.
    exact-exactly (record { flags = flags; this_class = this_class; super_class = super_class }))))

exact-plain_listed : IsExact plain_listed
exact-plain_listed =
    exact-headed (λ (l : Listed). l.interfaces) _ _ (exact-counted u2 exact-u2) (λ interfaces. exact-headed (λ (l : Listed). l.fields) _ _ (exact-counted member exact-member) (λ fields.
    exact-headed (λ (l : Listed). l.methods) _ _ (exact-counted member exact-member) (λ methods. exact-headed (λ (l : Listed). l.attributes) _ _ (exact-counted attribute exact-attribute) (λ attributes.
    exact-exactly (record { interfaces = interfaces; fields = fields; methods = methods; attributes = attributes })))))

exact-rest_of : (own : Layout BrokenKind Own) (listed : Layout BrokenKind Listed) → IsExact own → IsExact listed → IsExact (rest_of own listed)
exact-rest_of own listed own_exact listed_exact =
    exact-headed (λ (r : Rest). r.own) _ _ own_exact (λ first. exact-headed (λ (r : Rest). r.listed) _ _ listed_exact (λ others. exact-exactly (record { own = first; listed = others })))

exact-plain_rest : IsExact plain_rest
exact-plain_rest = exact-rest_of _ _ exact-plain_own exact-plain_listed

exact-file_of : (front : Layout BrokenKind Front) (rest : Layout BrokenKind Rest) → IsExact front → IsExact rest → IsExact (file_of front rest)
exact-file_of front rest exact rest_exact =
    exact-headed _ _ _ exact-magic (λ _. exact-headed (λ (f : Raw). f.front) _ _ exact (λ start. exact-headed (λ (f : Raw). f.rest) _ _ rest_exact (λ others. exact-exactly (record { front = start; rest = others }))))

pub exact-file : (oldest : ℕ) → IsExact (file oldest)
exact-file oldest = exact-file_of _ _ (exact-front oldest None) exact-plain_rest

-- ---- the last passes

exact-named : (pool : List Entry) → IsExact (named pool)
exact-named pool = exact-asked _ _ _ exact-attribute

exact-in_turn : (next : List Attribute → Layout BrokenKind Attribute) → ((before : List Attribute) → IsExact (next before)) → ((before : List Attribute) (x : Attribute) → (next before).spell x ≡ attribute.spell x) → IsExact (counted_in_turn next)
exact-in_turn next exact same = exact-headed length _ _ exact-u2 (λ n. exact-sequence attribute.spell _ _ exact same)

exact-field : (pool : List Entry) → IsExact (field pool)
exact-field pool =
    exact-headed (λ (m : RawMember). m.flags) _ _ (exact-asked _ _ _ exact-u2) (λ flags. exact-headed (λ (m : RawMember). m.name) _ _ (exact-asked _ _ _ exact-u2) (λ name.
    exact-headed (λ (m : RawMember). m.descriptor) _ _ (exact-asked _ _ _ exact-u2) (λ descriptor.
    exact-headed (λ (m : RawMember). m.attributes) _ _ (exact-in_turn _ (λ before. exact-asked _ _ _ (exact-named pool)) (λ before x. refl)) (λ attributes. exact-exactly (record { flags = flags; name = name; descriptor = descriptor; attributes = attributes })))))

exact-method_attributes : (pool : List Entry) (flags : ℕ) → IsExact (method_attributes pool flags)
exact-method_attributes pool flags =
    exact-again _ _ (exact-asked _ _ _ (exact-counted attribute exact-attribute)) (λ _. exact-in_turn _ (λ before. exact-asked _ _ _ (exact-named pool)) (λ before x. refl)) (λ x y. refl)

exact-method : (pool : List Entry) → IsExact (method pool)
exact-method pool =
    exact-headed (λ (m : RawMember). m.flags) _ _ (exact-asked _ _ _ exact-u2) (λ flags. exact-headed (λ (m : RawMember). m.name) _ _ (exact-asked _ _ _ exact-u2) (λ name.
    exact-headed (λ (m : RawMember). m.descriptor) _ _ (exact-asked _ _ _ exact-u2) (λ descriptor.
    exact-headed (λ (m : RawMember). m.attributes) _ _ (exact-method_attributes pool flags) (λ attributes. exact-exactly (record { flags = flags; name = name; descriptor = descriptor; attributes = attributes })))))

pub exact-classes : (pool : List Entry) → IsExact (class_indices pool)
exact-classes pool = exact-counted _ (exact-asked _ _ _ exact-u2)

exact-lawful_own : (pool : List Entry) → IsExact (lawful_own pool)
exact-lawful_own pool =
    exact-headed (λ (o : Own). o.flags) _ _ (exact-asked _ _ _ exact-u2) (λ flags. exact-headed (λ (o : Own). o.this_class) _ _ (exact-asked _ _ _ exact-u2) (λ this_class.
    exact-headed (λ (o : Own). o.super_class) _ _ (exact-asked _ _ _ exact-u2) (λ super_class. exact-exactly (record { flags = flags; this_class = this_class; super_class = super_class }))))

exact-lawful_listed : (pool : List Entry) → IsExact (lawful_listed pool)
exact-lawful_listed pool =
    exact-headed (λ (l : Listed). l.interfaces) _ _ (exact-classes pool) (λ interfaces. exact-headed (λ (l : Listed). l.fields) _ _ (exact-counted _ (exact-field pool)) (λ fields.
    exact-headed (λ (l : Listed). l.methods) _ _ (exact-counted _ (exact-method pool)) (λ methods. exact-headed (λ (l : Listed). l.attributes) _ _ (exact-counted _ (exact-named pool)) (λ attributes.
    exact-exactly (record { interfaces = interfaces; fields = fields; methods = methods; attributes = attributes })))))

exact-lawful_rest : (pool : List Entry) → IsExact (lawful_rest pool)
exact-lawful_rest pool = exact-rest_of _ _ (exact-lawful_own pool) (exact-lawful_listed pool)

pub exact-sound : (oldest : ℕ) (pool : List Entry) → IsExact (sound oldest pool)
exact-sound oldest pool = exact-file_of _ _ (exact-front oldest (Some pool)) (exact-lawful_rest pool)
