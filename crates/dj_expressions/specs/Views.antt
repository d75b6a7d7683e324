-- How the code's readings of expressions are seen plainly. The code keeps what is open with the innermost last.
use Rattle.std.specs.Prelude.{List, map, reverse}
use Rattle.dj_names.specs.Types.{view_type}
use Rattle.dj_syntax.specs.Trees.{Exp, view_exp}
use Rattle.dj_expressions.specs.declared.frames.Callee as code_callee
use Rattle.dj_expressions.specs.declared.frames.Callee.TheVariants as callees
use Rattle.dj_expressions.specs.declared.frames.Joint as code_joint
use Rattle.dj_expressions.specs.declared.frames.Joint.TheVariants as joints
use Rattle.dj_expressions.specs.declared.frames.Opener as code_opener
use Rattle.dj_expressions.specs.declared.frames.Opener.TheVariants as openers
use Rattle.dj_expressions.specs.declared.frames.Pending as code_pending
use Rattle.dj_expressions.specs.declared.frames.Pending.TheVariants as pendings
use Rattle.dj_expressions.specs.declared.frames.Standing as code_standing
use Rattle.dj_expressions.specs.declared.readings.Reading as code_reading
use Rattle.dj_expressions.specs.declared.readings.Reading.TheVariants as readings
use Rattle.dj_tokens.specs.DottedViews.{view_name}
use Rattle.dj_grammar.specs.Frames.{Callee, OfObject, OfClass, Above, Creation, Own, Helper, Joint, Sign, Negated, Inverted, Enclosed, Converted, LeftOf, TypeTested, Asked, Answered, Assigned, Created, Opener, Parenthesis, Bracket, NameBracket, TypeBracket, Arguments, Size, Start, Stored, Initial, Pending, Joins, Opens}
use Rattle.dj_grammar.specs.Readings.{Reading, Wanted, Negation, Head, Named, Behind, Typed, Sized, Called, Declared, Selecting, Stands, Helping, Lost}

-- what is called
abbrev pub view_callee : code_callee.Callee → Callee
view_callee (callees.OfObject object name) = OfObject (view_exp object) name
view_callee (callees.OfClass class name) = OfClass class name
view_callee (callees.Above above name) = Above above name
view_callee (callees.Creation class) = Creation class
view_callee (callees.Own own) = Own own
view_callee callees.Helper = Helper

-- what waits for an operand
abbrev pub view_joint : code_joint.Joint → Joint
view_joint joints.Sign = Sign
view_joint joints.Negated = Negated
view_joint joints.Inverted = Inverted
view_joint (joints.Enclosed name) = Enclosed (view_name name)
view_joint (joints.Converted kind) = Converted (view_type kind)
view_joint (joints.LeftOf left operator) = LeftOf (view_exp left) operator
view_joint (joints.TypeTested operand) = TypeTested (view_exp operand)
view_joint (joints.Asked test) = Asked (view_exp test)
view_joint (joints.Answered test first) = Answered (view_exp test) (view_exp first)
view_joint (joints.Assigned variable) = Assigned variable
view_joint joints.Created = Created

-- what opens a place
abbrev pub view_opener : code_opener.Opener → Opener
view_opener openers.Parenthesis = Parenthesis
view_opener (openers.Bracket array) = Bracket (view_exp array)
view_opener (openers.NameBracket name) = NameBracket (view_name name)
view_opener (openers.TypeBracket kind) = TypeBracket (view_type kind)
view_opener (openers.Arguments callee arguments) = Arguments (view_callee callee) (map view_exp arguments)
view_opener (openers.Size kind sizes more) = Size (view_type kind) (map view_exp sizes) more
view_opener (openers.Start labels) = Start (reverse labels)
view_opener (openers.Stored labels target) = Stored (reverse labels) (view_exp target)
view_opener (openers.Initial labels kind variable) = Initial (reverse labels) (view_type kind) variable

-- what is open around an expression
abbrev pub view_pending : code_pending.Pending → Pending
view_pending (pendings.Joins joint) = Joins (view_joint joint)
view_pending (pendings.Opens opener) = Opens (view_opener opener)

-- all that is open, from the innermost out
abbrev pub view_open : List code_pending.Pending → List Pending
view_open pending = map view_pending (reverse pending)

-- a value, and what is open around it
abbrev pub view_standing : code_standing.Standing → Exp × List Pending
view_standing stands = (view_exp stands.value, view_open stands.pending)

-- how far an expression is read
abbrev pub view_reading : code_reading.Reading → Reading
view_reading (readings.Wanted pending) = Wanted (view_open pending)
view_reading (readings.Negation pending) = Negation (view_open pending)
view_reading (readings.Head pending) = Head (view_open pending)
view_reading (readings.Named name pending) = Named (view_name name) (view_open pending)
view_reading (readings.Behind name pending) = Behind (view_name name) (view_open pending)
view_reading (readings.Typed kind pending) = Typed (view_type kind) (view_open pending)
view_reading (readings.Sized kind sizes more pending) = Sized (view_type kind) (map view_exp sizes) more (view_open pending)
view_reading (readings.Called callee arguments pending) = Called (view_callee callee) (map view_exp arguments) (view_open pending)
view_reading (readings.Declared kind variable pending) = Declared (view_type kind) variable (view_open pending)
view_reading (readings.Selecting object pending) = Selecting (view_exp object) (view_open pending)
view_reading (readings.Stands value pending) = Stands (view_exp value) (view_open pending)
view_reading (readings.Helping pending) = Helping (view_open pending)
view_reading readings.Lost = Lost
