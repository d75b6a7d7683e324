-- Worked rows and effects, by hand (JVMS 4.10.1.9).
use Rattle.std.proofs.Common.{◌≡◌, ℕ, List, [], ◌∷◌, None, Some, true, false, codes, pos, refl, map}
use Rattle.dj_names.specs.Types as type
use Rattle.dj_names.specs.Types.{JType, Class, Array, Descriptor, Method}
use Rattle.dj_names.specs.Assignable.{object_name}
use Rattle.dj_instructions.specs.declared.kinds.Kind.TheVariants as kind
use Rattle.dj_instructions.specs.declared.kinds.Calc.TheVariants as calc
use Rattle.dj_instructions.specs.Instructions.{Instructions, Calc, Convert, Compare, Return, InvokeVirtual, InvokeSpecial, New, MultiNewArray, TableSwitch}
use Rattle.dj_frames.specs.Frames.{Tag, Top, Int, Long, Null, UnbornThis, Object, Unborn}
use Rattle.dj_code.specs.MethodCode.{Code}
use Rattle.dj_tags.specs.Goes.{Working, top_down}
use Rattle.dj_effects.specs.Works.{Of, Plain, Moves, Stores, Makes, Bears, Elements, Leaves, Never, pop2_forms, dup2_forms, dup_x2_forms, dup2_x2_forms, swap_forms}
use Rattle.dj_effects.specs.Spelled.{is_spelled}
use Rattle.dj_effects.specs.Rows.{object, work}
use Rattle.dj_effects.specs.Operands.{form_of, moved_words, IsNewOf}
use Rattle.dj_effects.specs.Effects.{effect, stored, locals_needed}

-- the code of a method of class C with this name and descriptor, and these instructions
abbrev code : List ℕ → Descriptor → Instructions → Code
code name descriptor instructions = record { class = codes "C"; name = name; flags = 1; interface = false; descriptor = descriptor; thrown = []; max_stack = 4; max_locals = 4; instructions = instructions; handlers = []; frames = [] }

-- a method `void f()` of a `new C` at 0
abbrev plain : Code
plain = code (codes "f") (Method [] None) ((0, New (codes "C")) ∷ [])

-- a frame of these locals and this stack, the top first
abbrev frame : List Tag → List Tag → Working
frame locals stack = record { locals = locals; stack = stack; unborn_this = false }

-- ---- rows

-- a call `int g(long, C)` on an object of D: the last argument on top, the receiver below
call_row : work plain (InvokeVirtual (record { owner = Class (codes "D"); interface = false; name = codes "g"; descriptor = Method (type.Long ∷ Class (codes "C") ∷ []) (Some type.Int) }))
    ≡ Plain (Of (object (codes "C")) ∷ Of Long ∷ Of (object (codes "D")) ∷ []) (Some Int)
call_row = refl

-- a constructor has no result
birth_row : work plain (InvokeSpecial (record { owner = Class (codes "C"); interface = false; name = codes "<init>"; descriptor = Method (type.Int ∷ []) None })) ≡ Bears (Of Int ∷ []) (Class (codes "C"))
birth_row = refl

birth_with_result : work plain (InvokeSpecial (record { owner = Class (codes "C"); interface = false; name = codes "<init>"; descriptor = Method [] (Some type.Int) })) ≡ Never
birth_with_result = refl

-- what no opcode spells
init_by_virtual : work plain (InvokeVirtual (record { owner = Class (codes "C"); interface = false; name = codes "<init>"; descriptor = Method [] None })) ≡ Never
init_by_virtual = refl

float_shift : is_spelled (Calc calc.Shl kind.Float) ≡ false
float_shift = refl

int_to_int : is_spelled (Convert kind.Int type.Int) ≡ false
int_to_int = refl

int_to_byte : is_spelled (Convert kind.Int type.Byte) ≡ true
int_to_byte = refl

long_compared_greater : is_spelled (Compare kind.Long true) ≡ false
long_compared_greater = refl

too_many_sizes : is_spelled (MultiNewArray (Array (Array type.Int)) 3) ≡ false
too_many_sizes = refl

keys_past_the_ints : is_spelled (TableSwitch (pos 2147483647) (4 ∷ 8 ∷ []) 12) ≡ false
keys_past_the_ints = refl

last_key : is_spelled (TableSwitch (pos 2147483647) (4 ∷ []) 12) ≡ true
last_key = refl

-- a shift takes an int, whatever it shifts
long_shift : work plain (Calc calc.Shl kind.Long) ≡ Plain (Of Int ∷ Of Long ∷ []) (Some Long)
long_shift = refl

-- a return fits the method's result
void_return : work plain (Return None) ≡ Leaves
void_return = refl

int_return_of_void : work plain (Return (Some kind.Int)) ≡ Never
int_return_of_void = refl

-- a byte is returned as an int
byte_return : work (code (codes "f") (Method [] (Some type.Byte)) []) (Return (Some kind.Int)) ≡ Plain (Of Int ∷ []) None
byte_return = refl

-- ---- the stack

-- `dup2` of a long, and of two words
dup2_of_long : effect plain 0 (Moves dup2_forms) (frame [] (Long ∷ Int ∷ [])) ≡ frame [] (Long ∷ Long ∷ Int ∷ [])
dup2_of_long = refl

dup2_of_words : effect plain 0 (Moves dup2_forms) (frame [] (Int ∷ Null ∷ [])) ≡ frame [] (Int ∷ Null ∷ Int ∷ Null ∷ [])
dup2_of_words = refl

-- half of a long isn't taken, nor a Top
pop2_of_half : form_of pop2_forms (map moved_words (Int ∷ Long ∷ [])) ≡ None
pop2_of_half = refl

swap_of_top : form_of swap_forms (map moved_words (Int ∷ Top ∷ [])) ≡ None
swap_of_top = refl

-- `dup_x2` below a long
dup_x2_below_long : effect plain 0 (Moves dup_x2_forms) (frame [] (Int ∷ Long ∷ Null ∷ [])) ≡ frame [] (Int ∷ Long ∷ Int ∷ Null ∷ [])
dup_x2_below_long = refl

-- two words below a long
dup2_x2_words_below_long : effect plain 0 (Moves dup2_x2_forms) (frame [] (Int ∷ Null ∷ Long ∷ [])) ≡ frame [] (Int ∷ Null ∷ Long ∷ Int ∷ Null ∷ [])
dup2_x2_words_below_long = refl

-- an element of C[][] is a C[], of null is null
element_of_arrays : effect plain 0 Elements (frame [] (Int ∷ Object (Array (Array (Class (codes "C")))) ∷ Null ∷ [])) ≡ frame [] (Object (Array (Class (codes "C"))) ∷ Null ∷ [])
element_of_arrays = refl

element_of_null : effect plain 0 Elements (frame [] (Int ∷ Null ∷ [])) ≡ frame [] (Null ∷ [])
element_of_null = refl

-- from the bottom up, and from the top down
turned : top_down (record { locals = []; stack = Int ∷ Long ∷ []; unborn_this = true }) ≡ record { locals = []; stack = Long ∷ Int ∷ []; unborn_this = true }
turned = refl

-- ---- locals

-- an int over the second half of a long
over_second_half : stored 1 Int (Long ∷ Top ∷ Null ∷ []) ≡ Top ∷ Int ∷ Null ∷ []
over_second_half = refl

-- over the first half: of the second nothing is known
over_first_half : stored 0 Int (Long ∷ Top ∷ Null ∷ []) ≡ Int ∷ Top ∷ Null ∷ []
over_first_half = refl

-- a long takes the next slot too
long_over_ints : stored 1 Long (Int ∷ Int ∷ Int ∷ []) ≡ Int ∷ Long ∷ Top ∷ []
long_over_ints = refl

long_needs_two : locals_needed (Stores kind.Long 3) ≡ 5
long_needs_two = refl

-- ---- constructors

-- `new` forgets an object of its own that a local holds
made_again : effect plain 0 Makes (frame (Unborn 0 ∷ Unborn 4 ∷ []) (Int ∷ [])) ≡ frame (Top ∷ Unborn 4 ∷ []) (Unborn 0 ∷ Int ∷ [])
made_again = refl

-- the constructor is called on one copy, and all are constructed
born_everywhere : effect plain 4 (Bears [] (Class (codes "C"))) (frame (Unborn 0 ∷ []) (Unborn 0 ∷ Unborn 0 ∷ Unborn 8 ∷ [])) ≡ frame (object (codes "C") ∷ []) (object (codes "C") ∷ Unborn 8 ∷ [])
born_everywhere = refl

-- the call of another constructor on `this`
this_born : effect plain 1 (Bears (Of Int ∷ []) (Class object_name)) (record { locals = UnbornThis ∷ Int ∷ []; stack = Int ∷ UnbornThis ∷ []; unborn_this = true }) ≡ frame (object (codes "C") ∷ Int ∷ []) []
this_born = refl

-- what is constructed at 0 is a C
is_new_of_c : IsNewOf plain 0 (Class (codes "C"))
is_new_of_c = record { class = codes "C"; here = refl; same = refl }
