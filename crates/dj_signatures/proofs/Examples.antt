-- Methods of one signature at worked examples: a wrong definition is refused here.
use Rattle.std.proofs.Common.{◌≡◌, ℕ, zero, suc, ◌<◌, List, [], ◌∷◌, Option, Some, None, IsBitSet, slice_get, inl, refl, subst, arith}
use Rattle.std.specs.Prelude.{codes}
use Rattle.std.proofs.lemmas.Option.{same_Some}
use Rattle.dj_names.specs.Headers.{Name}
use Rattle.dj_names.specs.Assignable.{object_name}
use Rattle.dj_names.specs.Types.{JType, Int, Class, Method}
use Rattle.dj_class.specs.Described.{MethodOf}
use Rattle.dj_signatures.specs.Signatures.{IsAlikeAndPlain, Counts, BreaksConstructor}

abbrev method : ℕ → Name → Option JType → MethodOf
method flags name result = record { flags = flags; name = name; descriptor = Method [] result; thrown = []; code = None }

-- a bridge `Object m()`, and behind it what it stands for, `String m()`
abbrev bridged : List MethodOf
bridged =
    method 0x1441 (codes "m") (Some (Class object_name))
    ∷ method 0x0401 (codes "m") (Some (Class (codes "java/lang/String")))
    ∷ []

-- the one that is no bridge counts
the_plain_one : Counts bridged (method 0x1441 (codes "m") (Some (Class object_name))) 1
the_plain_one = inl record {
  item = method 0x0401 (codes "m") (Some (Class (codes "java/lang/String")));
  is = refl;
  holds = (record { name = refl; parameters = refl }, λ bridge. bridge refl);
  first = none_before;
}
  where
    none_before : (earlier : ℕ) (other : MethodOf) → earlier < 1 → slice_get bridged earlier ≡ Some other → ¬ IsAlikeAndPlain (method 0x1441 (codes "m") (Some (Class object_name))) other
    none_before zero other below is alike = alike.1 (subst (λ (m : MethodOf). IsBitSet m.flags 6) (same_Some (method 0x1441 (codes "m") (Some (Class object_name))) other is) (λ none. absurd cc))
    none_before (suc earlier) other below is alike = omega arith

-- a constructor with a result
a_result : BreaksConstructor (method 0x0001 (codes "<init>") (Some Int))
a_result = inl (λ none. cc)
