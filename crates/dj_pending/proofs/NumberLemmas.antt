-- Numbers that are taken one by one are the operands of a node.
use Rattle.std.proofs.Common.{◌≡◌, ℕ, Bool, true, false, List, [], ◌∷◌, Option, Some, None, refl, sym, ap, ◌∙◌}
use Rattle.std.specs.Prelude.{if◌then◌else◌, ◌&&◌, is_some}
use Rattle.dj_names.specs.Types as types
use Rattle.dj_names.specs.Types.{JType, Boolean, Byte, Char, Short, Float, Double, Class, Array, StaticType, Of}
use Rattle.dj_syntax.specs.declared.operator.Op.{Op}
use Rattle.dj_syntax.specs.Trees.{Exp, Binary, Stms}
use Rattle.dj_rebuilding.specs.Pending.{Atom, Pending, Kept, Whole, Born, Again, Built, Typed, exp_of, and_then, grown}
use Rattle.dj_rebuilt.specs.Nodes.{is_wide, comparing, no_node, convert_node, cut_node, int_convert_nodes, long_convert_nodes}
use Rattle.dj_rebuilt.specs.Rebuilding.{takes_ints}
use Rattle.dj_rebuilt.specs.Known.{atom_of, both_atoms, compare_node}
use Rattle.dj_pending.specs.Operands.{taken_from}
use Rattle.dj_pending.specs.Spilling.{behind}
use Rattle.dj_pending.proofs.StepLemmas.{grown-behind}
use Rattle.dj_pending.specs.Strict.{put_built, node_built}
use Rattle.dj_pending.specs.Numbers.{is_number, as_number, number_type, number_of, found_above, number_taken, atom_only, atom_taken, one_built, two_built, compared_built, converts_int}

-- ---- two that are taken one by one

abbrev pub Make : Type 0
Make = Exp → Exp → List Pending → Option Built

abbrev pub Take : Type 0
Take = List Pending → Option (Exp × List Pending)

-- the other one is taken behind the first
abbrev then_next : Take → Make → Exp × List Pending → Option Built
then_next next make right = and_then (next right.1) (λ left. make left.0 right.0 left.1)

-- where both pass their tests
both-taken : (next : Take) (make : Make) (passes fits : Bool) (left right : Exp) (below rest : List Pending) → next below ≡ found_above rest (if passes then Some left else None)
    → and_then (found_above below (if fits then Some right else None)) (then_next next make) ≡ (if passes && fits then make left right rest else None)
both-taken next make true true left right below rest is = ap (λ (found : Option (Exp × List Pending)). and_then found (λ one. make one.0 right one.1)) is
both-taken next make false true left right below rest is = ap (λ (found : Option (Exp × List Pending)). and_then found (λ one. make one.0 right one.1)) is
both-taken next make true false left right below rest is = refl
both-taken next make false false left right below rest is = refl

-- where there is no other
none-taken-next : (next : Take) (make : Make) (fits : Bool) (right : Exp) (below : List Pending) → next below ≡ None
    → and_then (found_above below (if fits then Some right else None)) (then_next next make) ≡ None
none-taken-next next make true right below is = ap (λ (found : Option (Exp × List Pending)). and_then found (λ one. make one.0 right one.1)) is
none-taken-next next make false right below is = refl

-- an expression is pushed, or none
put-if : (test : Bool) (n : ℕ) (rest : List Pending) (found : Typed) → (if test then grown n (Whole found.0 found.1 ∷ rest) else None) ≡ put_built n rest (if test then Some found else None)
put-if true n rest found = refl
put-if false n rest found = refl

-- ---- two numbers

-- what a node makes of two numbers
abbrev pub IsTwoNode : (List Typed → Option Typed) → Op → Bool → Bool → Type 0
IsTwoNode node operator first second = (left right : Typed) → node (left ∷ right ∷ [])
    ≡ (if is_number first left.0 && is_number second right.0 then Some (Of (number_type first), Binary operator (as_number first left.0 left.1) (as_number second right.0 right.1)) else None)

pub two-is : (node : List Typed → Option Typed) (operator : Op) (first second : Bool) (n : ℕ) (stack : List Pending) → IsTwoNode node operator first second
    → two_built operator first second n stack ≡ node_built 2 node n stack
two-is node operator first second n stack is = by-stack stack
  where
    make : Make
    make left right rest = grown n (Whole (Of (number_type first)) (Binary operator left right) ∷ rest)

    both : (left right : Typed) (below rest : List Pending) → number_taken first below ≡ found_above rest (number_of first left)
        → and_then (found_above below (number_of second right)) (then_next (number_taken first) make) ≡ put_built n rest (node (left ∷ right ∷ []))
    both left right below rest taken =
        both-taken (number_taken first) make (is_number first left.0) (is_number second right.0) (as_number first left.0 left.1) (as_number second right.0 right.1) below rest taken
        ∙ put-if (is_number first left.0 && is_number second right.0) n rest (Of (number_type first), Binary operator (as_number first left.0 left.1) (as_number second right.0 right.1))
        ∙ ap (put_built n rest) (sym (is left right))

    by-next : (right : Typed) (below : List Pending) → and_then (found_above below (number_of second right)) (then_next (number_taken first) make) ≡ and_then (taken_from 1 (right ∷ []) below) (λ found. put_built n found.1 (node found.0))
    by-next right [] = none-taken-next (number_taken first) make (is_number second right.0) (as_number second right.0 right.1) [] refl
    by-next right (Kept type atom ∷ rest) = both (type, exp_of atom) right (Kept type atom ∷ rest) rest refl
    by-next right (Whole type exp ∷ rest) = both (type, exp) right (Whole type exp ∷ rest) rest refl
    by-next right (Born class ∷ rest) = none-taken-next (number_taken first) make (is_number second right.0) (as_number second right.0 right.1) (Born class ∷ rest) refl
    by-next right (Again ∷ rest) = none-taken-next (number_taken first) make (is_number second right.0) (as_number second right.0 right.1) (Again ∷ rest) refl

    by-stack : (stack : List Pending) → two_built operator first second n stack ≡ node_built 2 node n stack
    by-stack [] = refl
    by-stack (Kept type atom ∷ below) = by-next (type, exp_of atom) below
    by-stack (Whole type exp ∷ below) = by-next (type, exp) below
    by-stack (Born class ∷ below) = refl
    by-stack (Again ∷ below) = refl

-- ---- one number

-- what a node makes of a number
abbrev pub IsOneNode : (List Typed → Option Typed) → Bool → JType → (Exp → Exp) → Type 0
IsOneNode node wide type make = (one : Typed) → node (one ∷ []) ≡ (if is_number wide one.0 then Some (Of type, make (as_number wide one.0 one.1)) else None)

pub one-is : (node : List Typed → Option Typed) (wide : Bool) (type : JType) (make : Exp → Exp) (n : ℕ) (stack : List Pending) → IsOneNode node wide type make
    → one_built wide type make n stack ≡ node_built 1 node n stack
one-is node wide type make n stack is = by-stack stack
  where
    by-test : (test : Bool) (exp : Exp) (below : List Pending)
        → and_then (found_above below (if test then Some exp else None)) (λ found. grown n (Whole (Of type) (make found.0) ∷ found.1)) ≡ put_built n below (if test then Some (Of type, make exp) else None)
    by-test true exp below = refl
    by-test false exp below = refl

    by-one : (one : Typed) (below : List Pending) → and_then (found_above below (number_of wide one)) (λ found. grown n (Whole (Of type) (make found.0) ∷ found.1)) ≡ put_built n below (node (one ∷ []))
    by-one one below = by-test (is_number wide one.0) (as_number wide one.0 one.1) below ∙ ap (put_built n below) (sym (is one))

    by-stack : (stack : List Pending) → one_built wide type make n stack ≡ node_built 1 node n stack
    by-stack [] = refl
    by-stack (Kept kind atom ∷ below) = by-one (kind, exp_of atom) below
    by-stack (Whole kind exp ∷ below) = by-one (kind, exp) below
    by-stack (Born class ∷ below) = refl
    by-stack (Again ∷ below) = refl

-- no node
pub none-is : (count n : ℕ) (stack : List Pending) → None ≡ node_built count no_node n stack
none-is count n stack = by-taken (taken_from count [] stack)
  where
    by-taken : (found : Option (List Typed × List Pending)) → None ≡ and_then found (λ one. put_built n one.1 None)
    by-taken None = refl
    by-taken (Some found) = refl

-- ---- two longs that are atoms

-- an operand is one
abbrev fits : Typed → Bool
fits operand = is_wide operand.0 && is_some (atom_of operand.1)

atom-is : (one : Typed) (below : List Pending) → and_then (found_above below (number_of true one)) (λ found. found_above found.1 (atom_only found.0)) ≡ found_above below (if fits one then Some one.1 else None)
atom-is one below = by-tests (is_wide one.0) (is_some (atom_of one.1))
  where
    by-tests : (wide atom : Bool) → and_then (found_above below (if wide then Some one.1 else None)) (λ found. found_above found.1 (if is_some (atom_of found.0) then Some found.0 else None))
        ≡ found_above below (if wide && is_some (atom_of one.1) then Some one.1 else None)
    by-tests true atom = refl
    by-tests false atom = refl

both-atoms : (left right : Typed) (n : ℕ) (rest : List Pending) → (if fits left && fits right then grown n (Whole (Of types.Int) (comparing left.1 right.1) ∷ rest) else None) ≡ put_built n rest (both_atoms left right (atom_of left.1) (atom_of right.1))
both-atoms left right n rest = by-tests (is_wide left.0) (is_wide right.0) (atom_of left.1) (atom_of right.1) refl refl
  where
    by-tests : (first second : Bool) (one other : Option Atom) → first ≡ is_wide left.0 → second ≡ is_wide right.0
        → (if (first && is_some one) && (second && is_some other) then grown n (Whole (Of types.Int) (comparing left.1 right.1) ∷ rest) else None) ≡ put_built n rest (both_atoms left right one other)
    by-tests true true None other f s = refl
    by-tests true true (Some one) None f s = refl
    by-tests true true (Some one) (Some other) f s =
        ap (λ (test : Bool). put_built n rest (if test && true then Some (Of types.Int, comparing left.1 right.1) else None)) f
        ∙ ap (λ (test : Bool). put_built n rest (if is_wide left.0 && test then Some (Of types.Int, comparing left.1 right.1) else None)) s
    by-tests true false None other f s = refl
    by-tests true false (Some one) None f s = refl
    by-tests true false (Some one) (Some other) f s =
        ap (λ (test : Bool). put_built n rest (if test && false then Some (Of types.Int, comparing left.1 right.1) else None)) f
        ∙ ap (λ (test : Bool). put_built n rest (if is_wide left.0 && test then Some (Of types.Int, comparing left.1 right.1) else None)) s
    by-tests false second None other f s = refl
    by-tests false second (Some one) None f s = refl
    by-tests false second (Some one) (Some other) f s =
        ap (λ (test : Bool). put_built n rest (if test && is_wide right.0 then Some (Of types.Int, comparing left.1 right.1) else None)) f

pub compared-is : (n : ℕ) (stack : List Pending) → compared_built n stack ≡ node_built 2 compare_node n stack
compared-is n stack = by-stack stack
  where
    make : Make
    make left right rest = grown n (Whole (Of types.Int) (comparing left right) ∷ rest)

    -- the atom of an operand, and what lies below
    atom_above : Typed → List Pending → Option (Exp × List Pending)
    atom_above one below = and_then (found_above below (number_of true one)) (λ found. found_above found.1 (atom_only found.0))

    both : (left right : Typed) (below rest : List Pending) → atom_taken below ≡ atom_above left rest
        → and_then (atom_above right below) (then_next atom_taken make) ≡ put_built n rest (compare_node (left ∷ right ∷ []))
    both left right below rest taken =
        ap (λ (found : Option (Exp × List Pending)). and_then found (then_next atom_taken make)) (atom-is right below)
        ∙ both-taken atom_taken make (fits left) (fits right) left.1 right.1 below rest (taken ∙ atom-is left rest)
        ∙ both-atoms left right n rest

    neither : (right : Typed) (below : List Pending) → atom_taken below ≡ None → and_then (atom_above right below) (then_next atom_taken make) ≡ None
    neither right below none =
        ap (λ (found : Option (Exp × List Pending)). and_then found (then_next atom_taken make)) (atom-is right below)
        ∙ none-taken-next atom_taken make (fits right) right.1 below none

    by-next : (right : Typed) (below : List Pending) → and_then (atom_above right below) (then_next atom_taken make) ≡ and_then (taken_from 1 (right ∷ []) below) (λ found. put_built n found.1 (compare_node found.0))
    by-next right [] = neither right [] refl
    by-next right (Kept type atom ∷ rest) = both (type, exp_of atom) right (Kept type atom ∷ rest) rest refl
    by-next right (Whole type exp ∷ rest) = both (type, exp) right (Whole type exp ∷ rest) rest refl
    by-next right (Born class ∷ rest) = neither right (Born class ∷ rest) refl
    by-next right (Again ∷ rest) = neither right (Again ∷ rest) refl

    by-stack : (stack : List Pending) → compared_built n stack ≡ node_built 2 compare_node n stack
    by-stack [] = refl
    by-stack (Kept type atom ∷ below) = by-next (type, exp_of atom) below
    by-stack (Whole type exp ∷ below) = by-next (type, exp) below
    by-stack (Born class ∷ below) = refl
    by-stack (Again ∷ below) = refl

-- ---- as the program takes them

-- where nothing is taken, nothing is built
pub stops : {A : Type 0} (first : Stms) (found : Option A) (next : A → Option Built) → None ≡ found → None ≡ behind first (and_then found next)
stops {A} first found next none = ap (λ (one : Option A). behind first (and_then one next)) none

-- and otherwise what follows
pub goes-on : {A : Type 0} (first : Stms) (found : Option A) (next : A → Option Built) (one : A) (built : Option Built) → Some one ≡ found → built ≡ behind first (next one) → built ≡ behind first (and_then found next)
goes-on {A} first found next one built is so_far = so_far ∙ ap (λ (other : Option A). behind first (and_then other next)) is

-- an expression is pushed
pub pushed-as : (first : Stms) (n : ℕ) (below : List Pending) (type kind : StaticType) (exp made : Exp) (built : Built) → type ≡ kind → exp ≡ made
    → built ≡ record { emitted = first; stack = Whole type exp ∷ below; next = n } → Some built ≡ behind first (grown n (Whole kind made ∷ below))
pushed-as first n below type kind exp made built of same is =
    let with_entry : StaticType → Exp → Option Built = λ one other. Some (record { emitted = first; stack = Whole one other ∷ below; next = n }) in
    ap Some is ∙ ap (λ (one : StaticType). with_entry one exp) of ∙ ap (with_entry kind) same ∙ grown-behind first n (Whole kind made ∷ below)

-- an operator between two numbers
pub two-pushed : (operator : Op) (first second : Bool) (emitted : Stms) (n : ℕ) (stack middle below : List Pending) (left right exp : Exp) (type : StaticType) (built : Built)
    → Some (right, middle) ≡ number_taken second stack → Some (left, below) ≡ number_taken first middle → exp ≡ Binary operator left right → type ≡ Of (number_type first)
    → built ≡ record { emitted = emitted; stack = Whole type exp ∷ below; next = n } → Some built ≡ behind emitted (two_built operator first second n stack)
two-pushed operator first second emitted n stack middle below left right exp type built taken other made of is =
    goes-on emitted (number_taken second stack) (λ one. and_then (number_taken first one.1) (λ next. grown n (Whole (Of (number_type first)) (Binary operator next.0 one.0) ∷ next.1))) (right, middle) (Some built) taken
    (goes-on emitted (number_taken first middle) (λ next. grown n (Whole (Of (number_type first)) (Binary operator next.0 right) ∷ next.1)) (left, below) (Some built) other
    (pushed-as emitted n below type (Of (number_type first)) exp (Binary operator left right) built of made is))

-- an expression of one
pub one-pushed : (wide : Bool) (kind : JType) (make : Exp → Exp) (emitted : Stms) (n : ℕ) (stack below : List Pending) (one exp : Exp) (type : StaticType) (built : Built)
    → Some (one, below) ≡ number_taken wide stack → exp ≡ make one → type ≡ Of kind
    → built ≡ record { emitted = emitted; stack = Whole type exp ∷ below; next = n } → Some built ≡ behind emitted (one_built wide kind make n stack)
one-pushed wide kind make emitted n stack below one exp type built taken made of is =
    goes-on emitted (number_taken wide stack) (λ next. grown n (Whole (Of kind) (make next.0) ∷ next.1)) (one, below) (Some built) taken
    (pushed-as emitted n below type (Of kind) exp (make one) built of made is)

-- a comparison
pub compared-pushed : (emitted : Stms) (n : ℕ) (stack middle below : List Pending) (left right exp : Exp) (type : StaticType) (built : Built)
    → Some (right, middle) ≡ atom_taken stack → Some (left, below) ≡ atom_taken middle → exp ≡ comparing left right → type ≡ Of types.Int
    → built ≡ record { emitted = emitted; stack = Whole type exp ∷ below; next = n } → Some built ≡ behind emitted (compared_built n stack)
compared-pushed emitted n stack middle below left right exp type built taken other made of is =
    goes-on emitted (atom_taken stack) (λ one. and_then (atom_taken one.1) (λ next. grown n (Whole (Of types.Int) (comparing next.0 one.0) ∷ next.1))) (right, middle) (Some built) taken
    (goes-on emitted (atom_taken middle) (λ next. grown n (Whole (Of types.Int) (comparing next.0 right) ∷ next.1)) (left, below) (Some built) other
    (pushed-as emitted n below type (Of types.Int) exp (comparing left right) built of made is))

-- ---- conversions

pub int-converts : (type : JType) → converts_int type ≡ true → convert_node type ≡ int_convert_nodes type
int-converts Boolean e = absurd (cc)
int-converts Byte e = refl
int-converts Char e = refl
int-converts Short e = refl
int-converts types.Int e = absurd (cc)
int-converts types.Long e = refl
int-converts Float e = absurd (cc)
int-converts Double e = absurd (cc)
int-converts (Class name) e = absurd (cc)
int-converts (Array element) e = absurd (cc)

pub int-stays : (type : JType) → converts_int type ≡ false → no_node ≡ int_convert_nodes type
int-stays Boolean e = refl
int-stays Byte e = absurd (cc)
int-stays Char e = absurd (cc)
int-stays Short e = absurd (cc)
int-stays types.Int e = refl
int-stays types.Long e = absurd (cc)
int-stays Float e = refl
int-stays Double e = refl
int-stays (Class name) e = refl
int-stays (Array element) e = refl

pub long-converts : (type : JType) → takes_ints type ≡ true → cut_node ≡ long_convert_nodes type
long-converts Boolean e = absurd (cc)
long-converts Byte e = absurd (cc)
long-converts Char e = absurd (cc)
long-converts Short e = absurd (cc)
long-converts types.Int e = refl
long-converts types.Long e = absurd (cc)
long-converts Float e = absurd (cc)
long-converts Double e = absurd (cc)
long-converts (Class name) e = absurd (cc)
long-converts (Array element) e = absurd (cc)

pub long-stays : (type : JType) → takes_ints type ≡ false → no_node ≡ long_convert_nodes type
long-stays Boolean e = refl
long-stays Byte e = refl
long-stays Char e = refl
long-stays Short e = refl
long-stays types.Int e = absurd (cc)
long-stays types.Long e = refl
long-stays Float e = refl
long-stays Double e = refl
long-stays (Class name) e = refl
long-stays (Array element) e = refl

-- nothing is built by no node
pub unconverted : (emitted : Stms) (n : ℕ) (stack : List Pending) (node : List Typed → Option Typed) → no_node ≡ node → None ≡ behind emitted (node_built 1 node n stack)
unconverted emitted n stack node is = ap (behind emitted) (none-is 1 n stack) ∙ ap (λ (one : List Typed → Option Typed). behind emitted (node_built 1 one n stack)) is

-- and what a node builds is what an equal one builds
pub converted : (emitted : Stms) (n : ℕ) (stack : List Pending) (node other : List Typed → Option Typed) → node ≡ other → behind emitted (node_built 1 node n stack) ≡ behind emitted (node_built 1 other n stack)
converted emitted n stack node other is = ap (λ (one : List Typed → Option Typed). behind emitted (node_built 1 one n stack)) is
