-- Parts that stand in a class file more than once (JVMS 4.1, 4.7).
use Rattle.std.specs.Prelude.{ℕ, List, length}
use Rattle.dj_layout.specs.Layout.{Layout}
use Rattle.dj_layout.specs.Parts.{number, run, exactly, headed, times}
use Rattle.dj_pool.specs.declared.fault.BrokenKind.{BrokenKind}
use Rattle.dj_pool.specs.declared.fault.BrokenKind.TheVariants as kind
use Rattle.dj_pool.specs.declared.raw.Attribute.{Attribute}

-- a number in two bytes
abbrev pub u2 : Layout BrokenKind ℕ
u2 = number 2 kind.Short

-- items behind their number
abbrev pub counted : {A : Type 0} → Layout BrokenKind A → Layout BrokenKind (List A)
counted item = headed length u2 (λ n. times n item)

-- bytes behind their number, in four
abbrev pub sized : Layout BrokenKind (List ℕ)
sized = headed length (number 4 kind.Short) (λ n. run n kind.Short)

-- an attribute: its name's index, its content (JVMS 4.7)
abbrev pub attribute : Layout BrokenKind Attribute
attribute =
    headed (λ a. a.name) u2 (λ name.
    headed (λ a. a.content) sized (λ content.
    exactly (record { name = name; content = content })))
