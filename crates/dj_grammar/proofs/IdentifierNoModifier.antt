-- An identifier is no modifier (JLS 3.9). Numbers are places among the keywords.
use Rattle.std.proofs.Common.{◌≡◌, ℕ, List, refl, arith}
use Rattle.std.specs.Prelude.{codes, None}
use Rattle.dj_names.specs.Identifiers.{IsIdentifier}
use Rattle.dj_grammar.specs.Members.{modifier_of}
use Rattle.dj_grammar.proofs.IdentifiersAreWords.{no_keyword}

-- an identifier is no modifier
pub modifier_of-identifier : (word : List ℕ) → IsIdentifier word → modifier_of word ≡ None
modifier_of-identifier word identifier =
    let public = no_keyword word (codes "public") identifier (23, omega arith, refl) in
    let protected = no_keyword word (codes "protected") identifier (18, omega arith, refl) in
    let private = no_keyword word (codes "private") identifier (13, omega arith, refl) in
    let abstract = no_keyword word (codes "abstract") identifier (0, omega arith, refl) in
    let static = no_keyword word (codes "static") identifier (38, omega arith, refl) in
    let final = no_keyword word (codes "final") identifier (36, omega arith, refl) in
    let synchronized = no_keyword word (codes "synchronized") identifier (9, omega arith, refl) in
    let native = no_keyword word (codes "native") identifier (47, omega arith, refl) in
    let transient = no_keyword word (codes "transient") identifier (29, omega arith, refl) in
    let volatile = no_keyword word (codes "volatile") identifier (44, omega arith, refl) in
    let default = no_keyword word (codes "default") identifier (6, omega arith, refl) in
    rw (public, protected, private, abstract, static, final, synchronized, native, transient, volatile, default)
