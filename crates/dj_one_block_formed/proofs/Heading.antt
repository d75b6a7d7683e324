-- Where the tests say so, a method's variables may stand at the head of its body.
use Rattle.std.proofs.Common.{ℕ, zero, suc, ◌≡◌, true, List, [], ◌∷◌, Option, Some, None, sym, ap, ◌∙◌, subst}
use Rattle.std.specs.Prelude.{◌&&◌, slice_get}
use Rattle.std.proofs.lemmas.Bool.{and_parts}
use Rattle.dj_names.specs.declared.header.Header.{Header}
use Rattle.dj_names.specs.Types.{JType, Class}
use Rattle.dj_typing.specs.Sites.{Site, is_whole, is_whole_type, may_name_type}
use Rattle.dj_declare.specs.Heads.{has_dummy}
use Rattle.dj_declaring.specs.Entries.{may_copy}
use Rattle.dj_one_block_formed.specs.Heading.{all_may_stand, takes, takes_this, takes_parameter, takes_parameters, TestedMayEnter}

-- each of the types can be written, and has a dummy value
record Stands (site : Site) (type : JType) : Type 0 where
  pub named : may_name_type site type ≡ true
  pub dummy : has_dummy type ≡ true

same-type : (first second : JType) → Some first ≡ Some second → first ≡ second
same-type first second e = cc

each-stands : (site : Site) (kinds : List JType) → all_may_stand site kinds ≡ true → (number : ℕ) (type : JType) → slice_get kinds number ≡ Some type → Stands site type
each-stands site [] all number type e = absurd (cc)
each-stands site (first ∷ rest) all zero type e =
    let parts = and_parts (may_name_type site first) (has_dummy first && all_may_stand site rest) all in
    subst (Stands site) (same-type first type e) (record { named = parts.0; dummy = (and_parts (has_dummy first) (all_may_stand site rest) parts.1).0 })
each-stands site (first ∷ rest) all (suc number) type e =
    each-stands site rest (and_parts (has_dummy first) (all_may_stand site rest) (and_parts (may_name_type site first) (has_dummy first && all_may_stand site rest) all).1).1 number type e

-- `this` is copied, where it may be
this-copied : (site : Site) (kinds : List JType) (itself : Option ℕ) → takes_this site kinds itself ≡ true → (number : ℕ) (type : JType) → itself ≡ Some number → slice_get kinds number ≡ Some type
    → (site.has_this ≡ true) × (is_whole site.headers site.class ≡ true) × (may_copy site.headers (Class site.class) type ≡ true)
this-copied site kinds None fits number type is kind = absurd (cc)
this-copied site kinds (Some own) fits number type is kind =
    let first = and_parts site.has_this (is_whole site.headers site.class && takes site.headers (Class site.class) (slice_get kinds own)) fits in
    let second = and_parts (is_whole site.headers site.class) (takes site.headers (Class site.class) (slice_get kinds own)) first.1 in
    let same : own ≡ number = cc in
    (first.0, second.0, sym (ap (takes site.headers (Class site.class)) (ap (slice_get kinds) same ∙ kind)) ∙ second.1)

-- and so are parameters
parameter-copied : (headers : List Header) (kinds : List JType) (numbers : List (Option ℕ)) (parameters : List JType) → takes_parameters headers kinds numbers parameters ≡ true
    → (place number : ℕ) (given type : JType) → slice_get numbers place ≡ Some (Some number) → slice_get parameters place ≡ Some given → slice_get kinds number ≡ Some type
    → (is_whole_type headers given ≡ true) × (may_copy headers given type ≡ true)
parameter-copied headers kinds [] parameters fits place number given type is wanted kind = absurd (cc)
parameter-copied headers kinds (first ∷ rest) [] fits place number given type is wanted kind = absurd (cc)
parameter-copied headers kinds (first ∷ rest) (one ∷ more) fits zero number given type is wanted kind =
    let own : first ≡ Some number = cc in
    let same : one ≡ given = same-type one given wanted in
    let here : takes_parameter headers kinds (Some number) (Some given) ≡ true =
    sym (ap (λ number. takes_parameter headers kinds number (Some one)) own ∙ ap (λ type. takes_parameter headers kinds (Some number) (Some type)) same) ∙ (and_parts (takes_parameter headers kinds first (Some one)) (takes_parameters headers kinds rest more) fits).0 in
    let both = and_parts (is_whole_type headers given) (takes headers given (slice_get kinds number)) here in
    (both.0, sym (ap (takes headers given) kind) ∙ both.1)
parameter-copied headers kinds (first ∷ rest) (one ∷ more) fits (suc place) number given type is wanted kind =
    parameter-copied headers kinds rest more (and_parts (takes_parameter headers kinds first (Some one)) (takes_parameters headers kinds rest more) fits).1 place number given type is wanted kind

pub tested-may-enter : TestedMayEnter
tested-may-enter site parameters kinds entry tests =
    let first = and_parts (all_may_stand site kinds) (takes_this site kinds entry.itself && takes_parameters site.headers kinds entry.parameters parameters) tests in
    let second = and_parts (takes_this site kinds entry.itself) (takes_parameters site.headers kinds entry.parameters parameters) first.1 in
    record {
      written = λ number type e. (each-stands site kinds first.0 number type e).named;
      dummies = λ number type e. (each-stands site kinds first.0 number type e).dummy;
      itself = λ number type is kind. this-copied site kinds entry.itself second.0 number type is kind;
      copies = λ place number given type is wanted kind. parameter-copied site.headers kinds entry.parameters parameters second.1 place number given type is wanted kind;
    }
