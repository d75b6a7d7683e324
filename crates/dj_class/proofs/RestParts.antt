-- Parts of a class file that are read one after the other are the whole.
use Rattle.std.proofs.Common.{◌≡◌, ℕ, List, [], ◌++◌, Option, refl, sym, ap, subst, ◌∙◌, append_assoc, length, ◌==◌, IsTrue, arith}
use Rattle.std.proofs.lemmas.Bool.Decides.{nat_tests}
use Rattle.std.proofs.lemmas.List.{append-nil}
use Rattle.dj_layout.specs.Layout.{Layout, Spells}
use Rattle.dj_layout.specs.Parts.{run, number}
use Rattle.dj_layout.specs.Passes.{asked}
use Rattle.dj_pool.specs.declared.fault.BrokenKind.{BrokenKind}
use Rattle.dj_pool.specs.declared.fault.BrokenKind.TheVariants as kind
use Rattle.dj_pool.specs.declared.raw.Attribute.{Attribute}
use Rattle.dj_class.specs.Members.{RawMember, member}
use Rattle.dj_pool.specs.SharedParts.{u2, counted, attribute}
use Rattle.dj_pool.specs.PoolFormat.{IsClassIndex, pool}
use Rattle.dj_class.specs.FileFormat.{magic, major, front}
use Rattle.dj_pool.specs.declared.entry.Entry.{Entry}
use Rattle.dj_class.specs.declared.front.Front.{Front}
use Rattle.dj_class.specs.FileFormat.{Own, Listed, Rest, plain_own, plain_listed, rest_of, file_of, HasClassFlags, IsSuperIndex, lawful_own}

-- the bytes of two, three and four parts in a row
pub two_texts : (bytes r s a b : List ℕ) → bytes ≡ a ++ r → r ≡ b ++ s → bytes ≡ (a ++ (b ++ [])) ++ s
two_texts bytes r s a b p q = p ∙ ap (λ (t : List ℕ). a ++ t) q ∙ sym (simp (append_assoc, append-nil))

pub three_texts : (bytes r s t a b c : List ℕ) → bytes ≡ a ++ r → r ≡ b ++ s → s ≡ c ++ t → bytes ≡ (a ++ (b ++ (c ++ []))) ++ t
three_texts bytes r s t a b c p q w = p ∙ ap (λ (x : List ℕ). a ++ x) (q ∙ ap (λ (x : List ℕ). b ++ x) w) ∙ sym (simp (append_assoc, append-nil))

pub four_texts : (bytes r s t u a b c d : List ℕ) → bytes ≡ a ++ r → r ≡ b ++ s → s ≡ c ++ t → t ≡ d ++ u → bytes ≡ (a ++ (b ++ (c ++ (d ++ [])))) ++ u
four_texts bytes r s t u a b c d p q w z =
    p ∙ ap (λ (x : List ℕ). a ++ x) (q ∙ ap (λ (x : List ℕ). b ++ x) (w ∙ ap (λ (x : List ℕ). c ++ x) z)) ∙ sym (simp (append_assoc, append-nil))

-- a name, a length and a content
named_text : (bytes r s t a b c : List ℕ) → bytes ≡ a ++ r → r ≡ b ++ s → s ≡ c ++ t → bytes ≡ (a ++ ((b ++ c) ++ [])) ++ t
named_text bytes r s t a b c p q w = p ∙ ap (λ (x : List ℕ). a ++ x) (q ∙ ap (λ (x : List ℕ). b ++ x) w) ∙ sym (simp (append_assoc, append-nil))

pub attribute_spelled : (bytes r s t : List ℕ) (name len : ℕ) (content : List ℕ) → Spells u2 bytes name r → Spells (number 4 kind.Short) r len s → Spells (run len kind.Short) s content t
    → Spells attribute bytes (record { name = name; content = content }) t
attribute_spelled bytes r s t name len content p q w =
    record {
      fits = (p.fits, ((rw w.fits.0 q.fits, (refl, w.fits.1)), refl));
      text = named_text bytes r s t (u2.spell name) ((number 4 kind.Short).spell (length content)) content p.text (rw w.fits.0 q.text) w.text;
    }

pub member_spelled : (bytes r s t u : List ℕ) (flags name descriptor : ℕ) (attributes : List Attribute) → Spells u2 bytes flags r → Spells u2 r name s → Spells u2 s descriptor t → Spells (counted attribute) t attributes u
    → Spells member bytes (record { flags = flags; name = name; descriptor = descriptor; attributes = attributes }) u
member_spelled bytes r s t u flags name descriptor attributes p q w z =
    record { fits = (p.fits, (q.fits, (w.fits, (z.fits, refl)))); text = four_texts bytes r s t u (u2.spell flags) (u2.spell name) (u2.spell descriptor) ((counted attribute).spell attributes) p.text q.text w.text z.text }

pub own_spelled : (bytes r s t : List ℕ) (flags this_class super_class : ℕ) → Spells u2 bytes flags r → Spells u2 r this_class s → Spells u2 s super_class t
    → Spells plain_own bytes (record { flags = flags; this_class = this_class; super_class = super_class }) t
own_spelled bytes r s t flags this_class super_class p q w =
    record { fits = (p.fits, (q.fits, (w.fits, refl))); text = three_texts bytes r s t (u2.spell flags) (u2.spell this_class) (u2.spell super_class) p.text q.text w.text }

pub listed_spelled : (bytes r s t u : List ℕ) (interfaces : List ℕ) (fields methods : List RawMember) (attributes : List Attribute)
    → Spells (counted u2) bytes interfaces r → Spells (counted member) r fields s → Spells (counted member) s methods t → Spells (counted attribute) t attributes u
    → Spells plain_listed bytes (record { interfaces = interfaces; fields = fields; methods = methods; attributes = attributes }) u
listed_spelled bytes r s t u interfaces fields methods attributes p q w z =
    record {
      fits = (p.fits, (q.fits, (w.fits, (z.fits, refl))));
      text = four_texts bytes r s t u ((counted u2).spell interfaces) ((counted member).spell fields) ((counted member).spell methods) ((counted attribute).spell attributes) p.text q.text w.text z.text;
    }

pub rest_spelled : (of_own : Layout BrokenKind Own) (of_listed : Layout BrokenKind Listed) (bytes r s : List ℕ) (own : Own) (listed : Listed) → Spells of_own bytes own r → Spells of_listed r listed s
    → Spells (rest_of of_own of_listed) bytes (record { own = own; listed = listed }) s
rest_spelled of_own of_listed bytes r s own listed p q = record { fits = (p.fits, (q.fits, refl)); text = two_texts bytes r s (of_own.spell own) (of_listed.spell listed) p.text q.text }

the_magic : (bytes r : List ℕ) (m : ℕ) → Spells magic bytes m r → m ≡ 3405691582
the_magic bytes r m p = let same : IsTrue (m == 3405691582) = p.fits.1 in grind (arith, nat_tests)

pub front_spelled : (oldest : ℕ) (given : Option (List Entry)) (bytes r s t : List ℕ) (minor_version major_version : ℕ) (found : List Entry) → Spells u2 bytes minor_version r → Spells (major oldest) r major_version s → Spells (pool given) s found t
    → Spells (front oldest given) bytes (record { minor = minor_version; major = major_version; pool = found }) t
front_spelled oldest given bytes r s t minor_version major_version found p q w =
    record { fits = (p.fits, (q.fits, (w.fits, refl))); text = three_texts bytes r s t (u2.spell minor_version) ((major oldest).spell major_version) ((pool given).spell found) p.text q.text w.text }

pub file_spelled : (of_front : Layout BrokenKind Front) (of_rest : Layout BrokenKind Rest) (bytes r s t : List ℕ) (m : ℕ) (front : Front) (rest : Rest) → Spells magic bytes m r → Spells of_front r front s → Spells of_rest s rest t
    → Spells (file_of of_front of_rest) bytes (record { front = front; rest = rest }) t
file_spelled of_front of_rest bytes r s t m front rest p q w =
    let is = the_magic bytes r m p in
    record { fits = (subst (λ (k : ℕ). magic.Fits k) is p.fits, (q.fits, (w.fits, refl))); text = three_texts bytes r s t (magic.spell 3405691582) (of_front.spell front) (of_rest.spell rest) (subst (λ (k : ℕ). bytes ≡ magic.spell k ++ r) is p.text) q.text w.text }

pub lawful_own_spelled : (pool : List Entry) (bytes r s t : List ℕ) (flags this_class super_class : ℕ) → Spells (asked u2 HasClassFlags kind.Flags) bytes flags r → Spells (asked u2 (IsClassIndex pool) kind.Index) r this_class s
    → Spells (asked u2 (IsSuperIndex pool flags this_class) kind.Index) s super_class t → Spells (lawful_own pool) bytes (record { flags = flags; this_class = this_class; super_class = super_class }) t
lawful_own_spelled pool bytes r s t flags this_class super_class p q w =
    record { fits = (p.fits, (q.fits, (w.fits, refl))); text = three_texts bytes r s t (u2.spell flags) (u2.spell this_class) (u2.spell super_class) p.text q.text w.text }
