-- Where statements stand, as the program has it.
use Rattle.std.specs.Prelude.{List}
use Rattle.std.specs.BTreeSet.{BTreeSet, contains}
use Rattle.std.specs.Cmp.Lexicographic.{slice_cmp}
use Rattle.std.specs.Ordering.{nat_cmp}
use Rattle.dj_names.specs.Headers.{Name}
use Rattle.dj_names.specs.Types.{result_of, view_descriptor}
use Rattle.dj_meaning.specs.Statements as places
use Rattle.dj_reach.specs.declared.jump.Jump.{Jump}
use Rattle.dj_typed.specs.Statements.{Around}
use Rattle.dj_typed.specs.Bodies.{Writing}
use Rattle.dj_checked.specs.Sites.{site_of}
use Rattle.dj_typing.specs.Words.{is_identifier}
use Rattle.dj_body_types.specs.declared.around.Around as code_around
use Rattle.dj_body_types.specs.declared.around.Position.{Position}
use Rattle.dj_body_types.specs.declared.around.Position.TheVariants as positions

-- what stands around, and the jumps that are taken there
abbrev pub around_of : code_around.Around → List Jump → Around
around_of around targets = record { site = site_of around.site; result = result_of (view_descriptor around.descriptor.now); constructs = around.constructs; targets = targets }

-- the place of a statement
abbrev pub place_of : Position → places.Place
place_of positions.First = places.First
place_of (positions.Behind label) = places.Behind label
place_of positions.Elsewhere = places.Elsewhere

-- what can be written: the names of classes that are given, and each identifier of Java in ASCII
abbrev pub writing_of : BTreeSet Name → Writing
writing_of said = record { can_say = λ name. contains (slice_cmp nat_cmp) said name; can_name = is_identifier }
