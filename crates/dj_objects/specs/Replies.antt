-- How what operations come to is seen as replies of the definition.
use Rattle.std.specs.Prelude.{Option, Some}
use Rattle.dj_values.specs.Values.{Value}
use Rattle.dj_values.specs.Views.{view_value, view_action}
use Rattle.dj_values.specs.Outcomes.{More, Stuck, Reply, Gives, Halts, ask, ask_value, trap}
use Rattle.dj_outside.specs.Runs.{trap_class}
use Rattle.dj_objects.specs.declared.replies.Reply as code_reply
use Rattle.dj_objects.specs.declared.replies.Reply.TheVariants as replies

-- as one that gives a value
abbrev pub view_value_reply : code_reply.Reply → Reply Value
view_value_reply (replies.Gives value) = Gives (view_value value)
view_value_reply (replies.Asks action) = ask_value (view_action action)
view_value_reply (replies.Traps trapped) = trap (trap_class trapped)
view_value_reply replies.More = Halts More
view_value_reply replies.Stuck = Halts Stuck

-- as one that gives a value or none
abbrev pub view_reply : code_reply.Reply → Reply (Option Value)
view_reply (replies.Gives value) = Gives (Some (view_value value))
view_reply (replies.Asks action) = ask (view_action action)
view_reply (replies.Traps trapped) = trap (trap_class trapped)
view_reply replies.More = Halts More
view_reply replies.Stuck = Halts Stuck
