-- The variables of a constructor of one block may stand at the head of its body.
use Rattle.std.proofs.Common.{◌≡◌, ℕ, Bool, true, Some, None, sym, ap, ◌∙◌}
use Rattle.std.specs.Prelude.{if◌then◌else◌, slice_get}
use Rattle.dj_names.specs.Types.{JType, Class}
use Rattle.dj_typing.specs.Sites.{is_whole}
use Rattle.dj_declaring.specs.Entries.{may_copy}
use Rattle.dj_method.specs.Parts.{entry_of}
use Rattle.dj_one_block_formed.specs.Ready.{site_of}
use Rattle.dj_one_block_formed.proofs.Entering.{IsSaidRight, variables-enter, unborn-none}
use Rattle.dj_constructors.proofs.Beginning.{own-slot}
use Rattle.dj_constructors_formed.specs.Entering.{ConstructorsMayEnter}

pub constructors-may-enter : ConstructorsMayEnter
constructors-may-enter world members writing receivers parts own spoken said speaks are one some = variables-enter world members writing parts whole said speaks are one some never-copied
  where
    whole : IsSaidRight (site_of writing world members parts.typed.code) world parts
    whole = record { roots = spoken.roots; named = spoken.named; names = spoken.names; strict = spoken.strict }

    never-copied : (number : ℕ) (to : JType) → (entry_of parts).itself ≡ Some number → slice_get parts.vars.kinds number ≡ Some to
        → ((site_of writing world members parts.typed.code).has_this ≡ true) × (is_whole world parts.typed.code.class ≡ true) × (may_copy world (Class parts.typed.code.class) to ≡ true)
    never-copied number to e kind =
        absurd (unborn-none world members writing parts whole said speaks are one some 0 (own-slot parts.typed.code spoken.constructor.instance spoken.constructor.unborn) number
        (sym (ap (λ (static : Bool). if static then None else parts.vars.of 0 0) spoken.constructor.instance) ∙ e))
