-- The definitions of whole class files on worked values.
use Rattle.std.proofs.Common.{◌≡◌, [], ◌∷◌, ◌++◌, refl}
use Rattle.std.specs.Prelude.{codes}
use Rattle.dj_layout.specs.Parts.{number}
use Rattle.dj_pool.specs.declared.entry.Entry.TheVariants as entry
use Rattle.dj_class.specs.FileFormat.{Raw, file}

-- the least class file, of java/lang/Object in version 52
least : Raw
least = record {
  front = record { minor = 0; major = 52; pool = entry.Skip ∷ entry.Utf8 (codes "java/lang/Object") ∷ entry.Class 1 ∷ [] };
  rest = record { own = record { flags = 33; this_class = 2; super_class = 0 }; listed = record { interfaces = []; fields = []; methods = []; attributes = [] } };
}

least_bytes : (file 50).spell least ≡ 202 ∷ 254 ∷ 186 ∷ 190 ∷ 0 ∷ 0 ∷ 0 ∷ 52 ∷ 0 ∷ 3 ∷ 1 ∷ 0 ∷ 16 ∷ codes "java/lang/Object" ++ 7 ∷ 0 ∷ 1 ∷ 0 ∷ 33 ∷ 0 ∷ 2 ∷ 0 ∷ 0 ∷ 0 ∷ 0 ∷ 0 ∷ 0 ∷ 0 ∷ 0 ∷ 0 ∷ 0 ∷ []
unfolding least number
least_bytes = refl
