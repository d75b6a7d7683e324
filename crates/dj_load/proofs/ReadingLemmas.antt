-- What one more file adds to the files read and to their world; a class file has at most 65,535 fields, and as many methods.
use Rattle.std.proofs.Common.{◌≡◌, ℕ, ◌+◌, ◌<◌, ◌≤◌, ◌^◌, List, [], ◌∷◌, ◌++◌, length, map, refl, suc, sym, ap, ◌∙◌, arith}
use Rattle.std.specs.List.{AllZip}
use Rattle.std.proofs.lemmas.List.{length-map, length_push}
use Rattle.dj_layout.specs.Parts.{number}
use Rattle.dj_class.specs.declared.class.ClassFile.{ClassFile}
use Rattle.dj_class.specs.Views.{view_field, view_method}
use Rattle.dj_world.specs.Worlds.{WorldOf}
use Rattle.dj_load.specs.HeldFiles.{FileIs, IsClass, IsClash, IsBroken, IsClassFile, IsFile, AreFiles}

-- as many items are related as there are
zip_number : {A B : Type 0} (R : A → B → Type 0) (xs : List A) (ys : List B) → AllZip R xs ys → length ys ≡ length xs
zip_number R [] [] each = refl
zip_number R [] (y ∷ ys) each = absurd each
zip_number R (x ∷ xs) [] each = absurd each
zip_number R (x ∷ xs) (y ∷ ys) each = ap suc (zip_number R xs ys each.1)

-- the number of fields stands in two bytes (JVMS 4.1)
pub few_fields : (oldest : ℕ) (bytes : List ℕ) (class : ClassFile) → IsClassFile oldest bytes class → length class.fields < 2 ^ 32
unfolding number
few_fields oldest bytes class spelled =
    let raw = spelled.raw.rest.listed.fields in
    let number : length raw < 65536 = spelled.laid_out.fits.1.1.0.1.0.1.0.0 in
    let as_many : length class.fields ≡ length raw = sym (length-map class.fields view_field) ∙ zip_number _ raw (map view_field class.fields) spelled.described.fields in
    omega (arith, number, as_many)

-- the number of methods stands in two bytes (JVMS 4.1)
pub few_methods : (oldest : ℕ) (bytes : List ℕ) (class : ClassFile) → IsClassFile oldest bytes class → length class.methods < 2 ^ 32
unfolding number
few_methods oldest bytes class spelled =
    let raw = spelled.raw.rest.listed.methods in
    let number : length raw < 65536 = spelled.laid_out.fits.1.1.0.1.0.1.1.0.0 in
    let as_many : length class.methods ≡ length raw = sym (length-map class.methods view_method) ∙ zip_number _ raw (map view_method class.methods) spelled.described.methods in
    omega (arith, number, as_many)

-- a file adds one class at most
pub classes_more : (oldest : ℕ) (old new : WorldOf) (bytes : List ℕ) (file : FileIs) → IsFile oldest old bytes file new → length new.members ≤ length old.members + 1
classes_more oldest old new bytes (IsClass class) is = omega (arith, ap length is.1.is_added.members, length_push old.members is.1.its_members)
classes_more oldest old new bytes (IsClash kind) is = rw is.1 (omega arith)
classes_more oldest old new bytes (IsBroken kind offset) is = rw is.1 (omega arith)

-- one more file is read
pub files_more : (oldest : ℕ) (old between new : WorldOf) (contents : List (List ℕ)) (found : List FileIs) (bytes : List ℕ) (file : FileIs) → AreFiles oldest old contents found between → IsFile oldest between bytes file new
    → AreFiles oldest old (contents ++ bytes ∷ []) (found ++ file ∷ []) new
files_more oldest old between new [] [] bytes file are is = (new, rw (sym are) is, refl)
files_more oldest old between new [] (other ∷ found) bytes file are is = absurd are
files_more oldest old between new (other ∷ contents) [] bytes file are is = absurd are
files_more oldest old between new (other ∷ contents) (first ∷ found) bytes file are is = (are.0, are.1, files_more oldest are.0 between new contents found bytes file are.2 is)
