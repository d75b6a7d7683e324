-- Classes that code names are whole and can be said where neither Missing nor Name holds.
use Rattle.std.proofs.Common.{Contains, inl, inr}
use Rattle.std.proofs.lemmas.Bool.{cases_Bool, both_ways}
use Rattle.dj_names.specs.Headers.{Name, names, Implements}
use Rattle.dj_headers.proofs.PathLemmas.{Implements-own, join_paths}
use Rattle.dj_code.specs.MethodCode.{Code}
use Rattle.dj_world.specs.Worlds.{WorldOf}
use Rattle.dj_typing.specs.Sites.{has_header}
use Rattle.dj_checked.proofs.WholeLemmas.{Decides-has, Decides-whole}
use Rattle.dj_code_causes.specs.NamedIn.{IsInCode, IsAboveCode, IsMissing, IsUnsaidIn, class_name}
use Rattle.dj_causes_given.specs.Given.{MayBeNamed, NamesMayBeNamed, NamesAboveMayBeNamed}

module _ (world : WorldOf) (code : Code) (found : (name : Name) → ¬ IsMissing world code name) (said : (name : Name) → ¬ IsUnsaidIn world code name) where
  -- a class above one that code names is in the world
  there : (name : Name) → IsAboveCode world code name → Contains (names world.headers) name
  there name above = elim (cases_Bool (has_header world.headers name)) [
    | inl known ↦ (Decides-has world.headers name).0 known
    | inr unknown ↦ absurd (found name (record { above = above; absent = λ has. both_ways (has_header world.headers name) unknown ((Decides-has world.headers name).1 has) }))
  ]

  -- what stands above such a class is such a class
  higher : (name upper : Name) → IsAboveCode world code name → Implements world.headers name upper → IsAboveCode world code upper
  higher name upper above up = record {
    lower = above.lower;
    is_one = above.is_one;
    above = join_paths world.headers above.lower name upper above.above.path above.above.is_path up;
  }

  pub may_be_above : (name : Name) → IsAboveCode world code name → MayBeNamed world code name
  may_be_above name above = record {
    whole = (Decides-whole world.headers name).1 (λ upper up. there upper (higher name upper above up));
    said = λ unsaid. said name (class_name above unsaid);
  }

  pub may_be_named : (name : Name) → IsInCode code name → MayBeNamed world code name
  may_be_named name is = may_be_above name (record { lower = name; is_one = is; above = Implements-own world.headers name })

pub names_may_be_named : NamesMayBeNamed
names_may_be_named world code found said name is = may_be_named world code found said name is

pub names_above_may_be_named : NamesAboveMayBeNamed
names_above_may_be_named world code found said name is = may_be_above world code found said name is
