-- Words that keep the grammar are taken by the command: no step of the parse has a fault.
use Rattle.std.proofs.Common.{◌≡◌, ◌∙◌, ℕ, Bool, true, false, not, ◌&&◌, ◌||◌, ◌==◌, ◌++◌, List, [], ◌∷◌, refl, sym, ap, ap₂, subst, codes, Option, Some, None, true≢false, flat_map, is_some, if◌then◌else◌}
use Rattle.std.specs.Prelude.{⊤}
use Rattle.std.specs.List.{list_all, list_any, fold}
use Rattle.std.specs.Str.{bytes_eq}
use Rattle.std.proofs.lemmas.List.Folds.{list_any-append}
use Rattle.clap.specs.Lexer.{long_of, short_of}
use Rattle.clap.specs.Kinds.{Kinds, or_else}
use Rattle.clap.specs.Walk.{Held, Row, Rule, Text, Waiting, Walk, arg_by_id, at_row, finished, has_row, idle, is_empty, more_values, nothing_held, option, positional, settled, settled_rows, used_by_id, walked, with_default, with_values, without}
use Rattle.clap.specs.Simple.{Shape, built, entered}
use Rattle.clap.specs.Faults.{built_fault, check_fault, default_fault, defaults_fault, entered_fault, fault_of, given_default_fault, settle_fault, turn_fault, walk_fault}
use Rattle.clap.specs.declared.builder.value_parser.Reading.{Reading}
use Rattle.clap.specs.declared.parser.matches.ValueSource.TheVariants.{CommandLine}
use Rattle.clap.proofs.WalkLemmas.{both}
use Rattle.clap.proofs.SimpleLemmas.{is_false, is_nil}
use Rattle.clap.proofs.FaultLemmas.{past}
use Rattle.clap.proofs.OnLiterals.{clap_on_literals}
use Rattle.dj_words.specs.Command.{command, is_taken}
use Rattle.dj_words.specs.Grammar.{Choice, World, Make, Raw, IsGrammatical, Line, choice_words, has_plain_value, is_make, is_once, is_plain, is_raw, is_world, line_words}

-- ---- tests

neither : (a b : Bool) → (a || b) ≡ false → (a ≡ false) × (b ≡ false)
neither true b e = absurd (true≢false e)
neither false b e = (refl, e)

none_of : (a b : Bool) → a ≡ false → b ≡ false → (a || b) ≡ false
none_of a b e f = rw e f

and_false : (b : Bool) → (b && false) ≡ false
and_false true = refl
and_false false = refl

either_way : (b : Bool) (x : Kinds) → x ≡ [] → (if b then [] else x) ≡ []
either_way true x e = refl
either_way false x e = e

of_either : (b : Bool) (other : Text) (x y : List Row) → has_row other x ≡ false → has_row other y ≡ false → has_row other (if b then x else y) ≡ false
of_either true other x y e f = e
of_either false other x y e f = f

-- ---- which rows there are

-- a change of the row of one id leaves that of another absent
absent_still : (id other : Text) (change : Row → List Row) (missing : List Row) (rows : List Row)
    → ((r : Row) → bytes_eq r.id other ≡ false → has_row other (change r) ≡ false) → has_row other missing ≡ false
    → has_row other rows ≡ false → has_row other (at_row id change missing rows) ≡ false
absent_still id other change missing [] kept none h = none
absent_still id other change missing (r ∷ rs) kept none h =
    let each = neither (bytes_eq r.id other) (has_row other rs) h in
    let here : has_row other (change r ++ rs) ≡ false = list_any-append (λ (x : Row). bytes_eq x.id other) (change r) rs ∙ none_of (has_row other (change r)) (has_row other rs) (kept r each.0) each.1 in
    let later : has_row other (r ∷ at_row id change missing rs) ≡ false = none_of (bytes_eq r.id other) (has_row other (at_row id change missing rs)) each.0 (absent_still id other change missing rs kept none each.1) in
    of_either (bytes_eq r.id id) other (change r ++ rs) (r ∷ at_row id change missing rs) here later

kept_absent : (id other : Text) (how : Reading) (values : List Text) (rows : List Row) → bytes_eq id other ≡ false → has_row other rows ≡ false
    → has_row other (with_values id how CommandLine values rows) ≡ false
kept_absent id other how values rows apart h =
    absent_still id other (more_values CommandLine values) (record { id = id; values = values; count = None; source = Some CommandLine; reading = how } ∷ []) rows
    (λ r e. none_of (bytes_eq r.id other) false e refl) (none_of (bytes_eq id other) false apart refl) h

set_absent : (id other : Text) (how : Reading) (values : List Text) (rows : List Row) → bytes_eq id other ≡ false → has_row other rows ≡ false
    → has_row other (with_values id how CommandLine values (without id rows)) ≡ false
set_absent id other how values rows apart h =
    kept_absent id other how values (without id rows) apart (absent_still id other (λ _. []) [] rows (λ r e. refl) refl h)

-- ---- plain words

no_hyphen : (x : ℕ) → not (x == 45) ≡ true → (x == 45) ≡ false
no_hyphen x e = is_false (x == 45) e

plain_dashes : (v : Text) → is_plain v ≡ true → bytes_eq v (45 ∷ 45 ∷ []) ≡ false
plain_dashes [] e = absurd (true≢false (sym e))
plain_dashes (x ∷ xs) e = rw (no_hyphen x e) refl

plain_long : (v : Text) → is_plain v ≡ true → long_of v ≡ None
plain_long [] e = absurd (true≢false (sym e))
plain_long (x ∷ xs) e = rw (no_hyphen x e) refl

plain_short : (v : Text) → is_plain v ≡ true → short_of v ≡ None
plain_short [] e = absurd (true≢false (sym e))
plain_short (x ∷ xs) e = rw (no_hyphen x e) refl

-- ---- the walk

-- what the parse reads of the command
unfoldable its_shape : Shape
its_shape = (built command).top

abbrev holding : List Row → Option (Text × List Text) → ℕ → Held
holding rows pending skip = record { rows = rows; pending = pending; skip = skip }

abbrev standing : List Row → Option (Text × List Text) → ℕ → Waiting → Walk
standing rows pending skip waiting = record { held = holding rows pending skip; waiting = waiting; position = 1; is_trailing = false; stopped = None }

-- the rows once what is pending is used
abbrev used_up : Option (Text × List Text) → List Row → List Row
used_up pending rows = settled_rows its_shape.rules pending rows

-- what is pending can be used
abbrev Settles : List Row → Option (Text × List Text) → ℕ → Type 0
Settles rows pending skip = settle_fault its_shape.rules its_shape.args_override_self (holding rows pending skip) ≡ []

-- an option waits for its value
abbrev asking : Text → List Row → ℕ → Walk
asking id rows skip = standing rows (Some (id, [])) skip (option id)

-- no option waits for its value
abbrev IsFree : Waiting → Type 0
IsFree idle = ⊤
IsFree (option id) = ⊥
IsFree positional = ⊤

-- what is left has such a choice once at most, and where it has one it wasn't there before
abbrev Unused : (Choice → Bool) → Text → List Choice → List Row → Type 0
Unused is id left rows = (is_once is left ≡ true) × (list_any is left ≡ true → has_row id rows ≡ false)

-- the walk may go on with these choices
record Ready (from : Walk) (left : List Choice) : Type 0 where
  rows : List Row
  pending : Option (Text × List Text)
  skip : ℕ
  waiting : Waiting
  is : from ≡ standing rows pending skip waiting
  free : IsFree waiting
  settles : Settles rows pending skip
  world : Unused is_world (codes "world") left (used_up pending rows)
  make : Unused is_make (codes "make") left (used_up pending rows)
  raw : Unused is_raw (codes "raw") left (used_up pending rows)
  values : list_all has_plain_value left ≡ true

-- the walk over the words has no fault, and ends well
record Goes (from : Walk) (words : List Text) : Type 0 where
  passes : walk_fault its_shape [] from words ≡ []
  ends : Ready (fold (walked its_shape.rules []) from words) []

one_more : (from next : Walk) (word : Text) (words : List Text) → turn_fault its_shape [] from word ≡ [] → walked its_shape.rules [] from word ≡ next
    → Goes next words → Goes from (word ∷ words)
unfolding walk_fault
one_more from next word words turn step goes = record {
  passes = past (turn_fault its_shape [] from word) (walk_fault its_shape [] (walked its_shape.rules [] from word) words) turn ∙ ap (λ (w : Walk). walk_fault its_shape [] w words) step ∙ goes.passes;
  ends = subst (λ (w : Walk). Ready (fold (walked its_shape.rules []) w words) []) (sym step) goes.ends;
}

-- ---- one word

world_turn : (rows : List Row) (pending : Option (Text × List Text)) (skip : ℕ) (waiting : Waiting) → IsFree waiting → Settles rows pending skip
    → turn_fault its_shape [] (standing rows pending skip waiting) (codes "--world") ≡ []
unfolding clap_on_literals its_shape
world_turn rows pending skip idle free e = ap (λ (x : Kinds). or_else x []) e
world_turn rows pending skip (option id) free e = absurd free
world_turn rows pending skip positional free e = ap (λ (x : Kinds). or_else x []) e

world_asks : (rows : List Row) (pending : Option (Text × List Text)) (skip : ℕ) (waiting : Waiting) → IsFree waiting
    → walked its_shape.rules [] (standing rows pending skip waiting) (codes "--world") ≡ asking (codes "world") (used_up pending rows) skip
unfolding clap_on_literals its_shape
world_asks rows pending skip idle free = refl
world_asks rows pending skip (option id) free = absurd free
world_asks rows pending skip positional free = refl

make_turn : (rows : List Row) (pending : Option (Text × List Text)) (skip : ℕ) (waiting : Waiting) → IsFree waiting → Settles rows pending skip
    → turn_fault its_shape [] (standing rows pending skip waiting) (codes "--make") ≡ []
unfolding clap_on_literals its_shape
make_turn rows pending skip idle free e = ap (λ (x : Kinds). or_else x []) e
make_turn rows pending skip (option id) free e = absurd free
make_turn rows pending skip positional free e = ap (λ (x : Kinds). or_else x []) e

make_asks : (rows : List Row) (pending : Option (Text × List Text)) (skip : ℕ) (waiting : Waiting) → IsFree waiting
    → walked its_shape.rules [] (standing rows pending skip waiting) (codes "--make") ≡ asking (codes "make") (used_up pending rows) skip
unfolding clap_on_literals its_shape
make_asks rows pending skip idle free = refl
make_asks rows pending skip (option id) free = absurd free
make_asks rows pending skip positional free = refl

value_turn : (id v : Text) (rows : List Row) (skip : ℕ) → is_plain v ≡ true → turn_fault its_shape [] (asking id rows skip) v ≡ []
value_turn id v rows skip plain = rw (plain_dashes v plain, plain_long v plain, plain_short v plain) refl

world_takes : (v : Text) (rows : List Row) (skip : ℕ) → is_plain v ≡ true
    → walked its_shape.rules [] (asking (codes "world") rows skip) v ≡ standing rows (Some (codes "world", v ∷ [])) skip idle
unfolding walked its_shape
world_takes v rows skip plain = rw (plain_dashes v plain, plain_long v plain, plain_short v plain) refl

make_takes : (v : Text) (rows : List Row) (skip : ℕ) → is_plain v ≡ true
    → walked its_shape.rules [] (asking (codes "make") rows skip) v ≡ standing rows (Some (codes "make", v ∷ [])) skip idle
unfolding walked its_shape
make_takes v rows skip plain = rw (plain_dashes v plain, plain_long v plain, plain_short v plain) refl

world_settles : (v : Text) (rows : List Row) (skip : ℕ) → has_row (codes "world") rows ≡ false → Settles rows (Some (codes "world", v ∷ [])) skip
unfolding its_shape
world_settles v rows skip absent = rw absent refl

make_settles : (v : Text) (rows : List Row) (skip : ℕ) → has_row (codes "make") rows ≡ false → Settles rows (Some (codes "make", v ∷ [])) skip
unfolding its_shape
make_settles v rows skip absent = rw absent refl

-- the rows once the flag is used
abbrev with_raw : List Row → List Row
with_raw rows = used_by_id (arg_by_id its_shape.rules (codes "raw")) [] rows

raw_turn : (rows : List Row) (pending : Option (Text × List Text)) (skip : ℕ) (waiting : Waiting) → IsFree waiting → Settles rows pending skip
    → has_row (codes "raw") (used_up pending rows) ≡ false → turn_fault its_shape [] (standing rows pending skip waiting) (codes "--raw") ≡ []
unfolding clap_on_literals its_shape
raw_turn rows pending skip idle free e absent = rw (e, absent) refl
raw_turn rows pending skip (option id) free e absent = absurd free
raw_turn rows pending skip positional free e absent = rw (e, absent) refl

raw_takes : (rows : List Row) (pending : Option (Text × List Text)) (skip : ℕ) (waiting : Waiting) → IsFree waiting
    → walked its_shape.rules [] (standing rows pending skip waiting) (codes "--raw") ≡ standing (with_raw (used_up pending rows)) None skip idle
unfolding clap_on_literals its_shape
raw_takes rows pending skip idle free = refl
raw_takes rows pending skip (option id) free = absurd free
raw_takes rows pending skip positional free = refl

class_turn : (v : Text) (rows : List Row) (pending : Option (Text × List Text)) (skip : ℕ) (waiting : Waiting) → IsFree waiting → Settles rows pending skip
    → is_plain v ≡ true → turn_fault its_shape [] (standing rows pending skip waiting) v ≡ []
unfolding its_shape
class_turn v rows pending skip idle free e plain = rw (plain_dashes v plain, plain_long v plain, plain_short v plain, and_false) e
class_turn v rows pending skip (option id) free e plain = absurd free
class_turn v rows pending skip positional free e plain = rw (plain_dashes v plain, plain_long v plain, plain_short v plain, and_false) e

class_takes : (v : Text) (rows : List Row) (pending : Option (Text × List Text)) (skip : ℕ) (waiting : Waiting) → IsFree waiting → is_plain v ≡ true
    → walked its_shape.rules [] (standing rows pending skip waiting) v ≡ standing (used_up pending rows) (Some (codes "CLASS", v ∷ [])) skip positional
unfolding walked its_shape
class_takes v rows pending skip idle free plain = rw (plain_dashes v plain, plain_long v plain, plain_short v plain, and_false) refl
class_takes v rows pending skip (option id) free plain = absurd free
class_takes v rows pending skip positional free plain = rw (plain_dashes v plain, plain_long v plain, plain_short v plain, and_false) refl

class_settles : (v : Text) (rows : List Row) (skip : ℕ) → Settles rows (Some (codes "CLASS", v ∷ [])) skip
unfolding its_shape
class_settles v rows skip = refl

-- ---- one choice, or one CLASS word

-- of a choice that stands here none is left
none_left : (is : Choice → Bool) (left : List Choice) → (not (list_any is left) && is_once is left) ≡ true
    → (is_once is left ≡ true) × (list_any is left ≡ false)
none_left is left once = let each = both (not (list_any is left)) (is_once is left) once in (each.1, is_false (list_any is left) each.0)

world_goes : (v : Text) (left : List Choice) (more : List Text) (from : Walk) → Ready from (World v ∷ left)
    → ((next : Walk) → Ready next left → Goes next more) → Goes from (codes "--world" ∷ v ∷ more)
unfolding its_shape
world_goes v left more from ready goes_on =
    let rows = used_up ready.pending ready.rows in
    let values = both (is_plain v) (list_all has_plain_value left) ready.values in
    let last = none_left is_world left ready.world.0 in
    let absent : has_row (codes "world") rows ≡ false = ready.world.1 refl in
    let next = standing rows (Some (codes "world", v ∷ [])) ready.skip idle in
    let next_ready : Ready next left = record {
      rows = rows;
      pending = Some (codes "world", v ∷ []);
      skip = ready.skip;
      waiting = idle;
      is = refl;
      free = tt;
      settles = world_settles v rows ready.skip absent;
      world = (last.0, λ h. absurd (true≢false (sym h ∙ last.1)));
      make = (ready.make.0, λ h. set_absent (codes "world") (codes "make") _ (v ∷ []) rows refl (ready.make.1 h));
      raw = (ready.raw.0, λ h. set_absent (codes "world") (codes "raw") _ (v ∷ []) rows refl (ready.raw.1 h));
      values = values.1;
    } in
    subst (λ (w : Walk). Goes w (codes "--world" ∷ v ∷ more)) (sym ready.is)
    (one_more _ _ _ _ (world_turn ready.rows ready.pending ready.skip ready.waiting ready.free ready.settles) (world_asks ready.rows ready.pending ready.skip ready.waiting ready.free)
    (one_more _ _ _ _ (value_turn (codes "world") v rows ready.skip values.0) (world_takes v rows ready.skip values.0) (goes_on next next_ready)))

make_goes : (v : Text) (left : List Choice) (more : List Text) (from : Walk) → Ready from (Make v ∷ left)
    → ((next : Walk) → Ready next left → Goes next more) → Goes from (codes "--make" ∷ v ∷ more)
unfolding its_shape
make_goes v left more from ready goes_on =
    let rows = used_up ready.pending ready.rows in
    let values = both (is_plain v) (list_all has_plain_value left) ready.values in
    let last = none_left is_make left ready.make.0 in
    let absent : has_row (codes "make") rows ≡ false = ready.make.1 refl in
    let next = standing rows (Some (codes "make", v ∷ [])) ready.skip idle in
    let next_ready : Ready next left = record {
      rows = rows;
      pending = Some (codes "make", v ∷ []);
      skip = ready.skip;
      waiting = idle;
      is = refl;
      free = tt;
      settles = make_settles v rows ready.skip absent;
      world = (ready.world.0, λ h. set_absent (codes "make") (codes "world") _ (v ∷ []) rows refl (ready.world.1 h));
      make = (last.0, λ h. absurd (true≢false (sym h ∙ last.1)));
      raw = (ready.raw.0, λ h. set_absent (codes "make") (codes "raw") _ (v ∷ []) rows refl (ready.raw.1 h));
      values = values.1;
    } in
    subst (λ (w : Walk). Goes w (codes "--make" ∷ v ∷ more)) (sym ready.is)
    (one_more _ _ _ _ (make_turn ready.rows ready.pending ready.skip ready.waiting ready.free ready.settles) (make_asks ready.rows ready.pending ready.skip ready.waiting ready.free)
    (one_more _ _ _ _ (value_turn (codes "make") v rows ready.skip values.0) (make_takes v rows ready.skip values.0) (goes_on next next_ready)))

raw_goes : (left : List Choice) (more : List Text) (from : Walk) → Ready from (Raw ∷ left)
    → ((next : Walk) → Ready next left → Goes next more) → Goes from (codes "--raw" ∷ more)
unfolding its_shape
raw_goes left more from ready goes_on =
    let rows = used_up ready.pending ready.rows in
    let last = none_left is_raw left ready.raw.0 in
    let absent : has_row (codes "raw") rows ≡ false = ready.raw.1 refl in
    let next = standing (with_raw rows) None ready.skip idle in
    let next_ready : Ready next left = record {
      rows = with_raw rows;
      pending = None;
      skip = ready.skip;
      waiting = idle;
      is = refl;
      free = tt;
      settles = refl;
      world = (ready.world.0, λ h. set_absent (codes "raw") (codes "world") _ (codes "true" ∷ []) rows refl (ready.world.1 h));
      make = (ready.make.0, λ h. set_absent (codes "raw") (codes "make") _ (codes "true" ∷ []) rows refl (ready.make.1 h));
      raw = (last.0, λ h. absurd (true≢false (sym h ∙ last.1)));
      values = ready.values;
    } in
    subst (λ (w : Walk). Goes w (codes "--raw" ∷ more)) (sym ready.is)
    (one_more _ _ _ _ (raw_turn ready.rows ready.pending ready.skip ready.waiting ready.free ready.settles absent) (raw_takes ready.rows ready.pending ready.skip ready.waiting ready.free) (goes_on next next_ready))

class_goes : (v : Text) (left : List Choice) (more : List Text) (from : Walk) → Ready from left → is_plain v ≡ true
    → ((next : Walk) → Ready next left → Goes next more) → Goes from (v ∷ more)
unfolding its_shape
class_goes v left more from ready plain goes_on =
    let rows = used_up ready.pending ready.rows in
    let next = standing rows (Some (codes "CLASS", v ∷ [])) ready.skip positional in
    let next_ready : Ready next left = record {
      rows = rows;
      pending = Some (codes "CLASS", v ∷ []);
      skip = ready.skip;
      waiting = positional;
      is = refl;
      free = tt;
      settles = class_settles v rows ready.skip;
      world = (ready.world.0, λ h. kept_absent (codes "CLASS") (codes "world") _ (v ∷ []) rows refl (ready.world.1 h));
      make = (ready.make.0, λ h. kept_absent (codes "CLASS") (codes "make") _ (v ∷ []) rows refl (ready.make.1 h));
      raw = (ready.raw.0, λ h. kept_absent (codes "CLASS") (codes "raw") _ (v ∷ []) rows refl (ready.raw.1 h));
      values = ready.values;
    } in
    subst (λ (w : Walk). Goes w (v ∷ more)) (sym ready.is)
    (one_more _ _ _ _ (class_turn v ready.rows ready.pending ready.skip ready.waiting ready.free ready.settles plain) (class_takes v ready.rows ready.pending ready.skip ready.waiting ready.free plain) (goes_on next next_ready))

-- ---- lines

choices_go : (choices later : List Choice) (more : List Text) (from : Walk) → Ready from (choices ++ later)
    → ((next : Walk) → Ready next later → Goes next more) → Goes from (flat_map choice_words choices ++ more)
choices_go [] later more from ready goes_on = goes_on from ready
choices_go (World v ∷ rest) later more from ready goes_on = world_goes v (rest ++ later) (flat_map choice_words rest ++ more) from ready (λ next r. choices_go rest later more next r goes_on)
choices_go (Make v ∷ rest) later more from ready goes_on = make_goes v (rest ++ later) (flat_map choice_words rest ++ more) from ready (λ next r. choices_go rest later more next r goes_on)
choices_go (Raw ∷ rest) later more from ready goes_on = raw_goes (rest ++ later) (flat_map choice_words rest ++ more) from ready (λ next r. choices_go rest later more next r goes_on)

classes_go : (classes : List Text) (left : List Choice) (more : List Text) (from : Walk) → Ready from left → list_all is_plain classes ≡ true
    → ((next : Walk) → Ready next left → Goes next more) → Goes from (classes ++ more)
classes_go [] left more from ready plain goes_on = goes_on from ready
classes_go (v ∷ rest) left more from ready plain goes_on =
    let each = both (is_plain v) (list_all is_plain rest) plain in
    class_goes v left (rest ++ more) from ready each.0 (λ next r. classes_go rest left more next r each.1 goes_on)

nothing_more : (from : Walk) → Ready from [] → Goes from []
unfolding walk_fault
nothing_more from ready = record { passes = refl; ends = ready }

behind_go : (choices : List Choice) (from : Walk) → Ready from choices → Goes from (flat_map choice_words choices)
behind_go [] from ready = nothing_more from ready
behind_go (World v ∷ rest) from ready = world_goes v rest (flat_map choice_words rest) from ready (λ next r. behind_go rest next r)
behind_go (Make v ∷ rest) from ready = make_goes v rest (flat_map choice_words rest) from ready (λ next r. behind_go rest next r)
behind_go (Raw ∷ rest) from ready = raw_goes rest (flat_map choice_words rest) from ready (λ next r. behind_go rest next r)

-- ---- behind the words

defaults_pass : (rules : List Rule) (rows : List Row) → list_all (λ (a : Rule). is_empty (given_default_fault a a.defaults)) rules ≡ true → defaults_fault rows rules ≡ []
unfolding defaults_fault
defaults_pass [] rows e = refl
defaults_pass (a ∷ rest) rows e =
    let each = both (is_empty (given_default_fault a a.defaults)) (list_all (λ (x : Rule). is_empty (given_default_fault x x.defaults)) rest) e in
    let first : default_fault rows a ≡ [] = either_way (has_row a.id rows || is_empty a.defaults) (given_default_fault a a.defaults) (is_nil (given_default_fault a a.defaults) each.0) in
    past (default_fault rows a) (defaults_fault (with_default rows a) rest) first ∙ defaults_pass rest (with_default rows a) each.1

its_defaults : list_all (λ (a : Rule). is_empty (given_default_fault a a.defaults)) its_shape.rules ≡ true
unfolding its_shape
its_defaults = refl

-- the fault of a parse whose walk has this fault and ends here
abbrev whole_fault : Kinds → Walk → Kinds
whole_fault first end =
    or_else first
    (or_else (entered_fault (built command) end.stopped)
    (or_else (settle_fault its_shape.rules its_shape.args_override_self end.held)
    (or_else (defaults_fault (settled its_shape.rules end.held).rows its_shape.rules)
    (check_fault its_shape (finished its_shape.rules end.held) (is_some (entered (built command) end.stopped))))))

whole_is : (words : List Text) → built_fault (built command) nothing_held words
    ≡ whole_fault (walk_fault its_shape [] (standing [] None 0 idle) words) (fold (walked its_shape.rules []) (standing [] None 0 idle) words)
unfolding its_shape
whole_is words = refl

checks_pass : (rows : List Row) → check_fault its_shape rows false ≡ []
unfolding its_shape
checks_pass rows = refl

ends_well : (rows : List Row) (pending : Option (Text × List Text)) (skip : ℕ) (waiting : Waiting) → Settles rows pending skip
    → whole_fault [] (standing rows pending skip waiting) ≡ []
ends_well rows pending skip waiting e =
    let settle = settle_fault its_shape.rules its_shape.args_override_self (holding rows pending skip) in
    let defaults = defaults_fault (used_up pending rows) its_shape.rules in
    let checks = check_fault its_shape (finished its_shape.rules (holding rows pending skip)) false in
    past settle (or_else defaults checks) e ∙ past defaults checks (defaults_pass its_shape.rules (used_up pending rows) its_defaults)
    ∙ checks_pass (finished its_shape.rules (holding rows pending skip))

-- each line that keeps the grammar is taken
pub grammatical_lines_are_taken : (program : Text) (line : Line) → IsGrammatical line → is_taken (program ∷ line_words line) ≡ true
grammatical_lines_are_taken program line g =
    let start : Ready (standing [] None 0 idle) (line.before ++ line.behind) = record {
      rows = [];
      pending = None;
      skip = 0;
      waiting = idle;
      is = refl;
      free = tt;
      settles = refl;
      world = (g.world, λ h. refl);
      make = (g.make, λ h. refl);
      raw = (g.raw, λ h. refl);
      values = g.values;
    } in
    let goes : Goes (standing [] None 0 idle) (line_words line) =
    choices_go line.before line.behind (line.classes ++ flat_map choice_words line.behind) _ start
    (λ next r. classes_go line.classes line.behind (flat_map choice_words line.behind) next r g.classes
    (λ after s. behind_go line.behind after s)) in
    let end = fold (walked its_shape.rules []) (standing [] None 0 idle) (line_words line) in
    let none : built_fault (built command) nothing_held (line_words line) ≡ [] =
    whole_is (line_words line) ∙ ap₂ whole_fault goes.passes goes.ends.is ∙ ends_well goes.ends.rows goes.ends.pending goes.ends.skip goes.ends.waiting goes.ends.settles in
    ap is_empty none
