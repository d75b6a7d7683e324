-- What calls, stores and statements show at worked examples, by computation: a wrong definition is refused here.
use Rattle.std.proofs.Common.{◌≡◌, true, false, List, [], ◌∷◌, Some, None, refl}
use Rattle.std.specs.Prelude.{pos, codes}
use Rattle.dj_names.specs.Types as types
use Rattle.dj_names.specs.Types.{Class, Array, Method}
use Rattle.dj_syntax.specs.Trees.{NoExps, This, Call, StaticCall, SuperCall, Stms, And, Block, SetField, SetStatic, SetElement, Run, Construct}
use Rattle.dj_syntax.specs.Trees as trees
use Rattle.dj_values.specs.Values.{Int, Long, Ref, Virtual, Interface, Static, Special, Action, New, PutField, PutStatic, ArrayStore, Invoke, Trap, Given, Done, End, More, Return}
use Rattle.dj_values.specs.Outcomes.{shown}
use Rattle.dj_meaning.specs.Runs.{◌>>=◌}
use Rattle.dj_meaning.specs.Meaning.{run_statements, ended}
use Rattle.dj_meaning.proofs.ExampleWorld.{object_class, null_pointer, headers, members, object, this, ints, objects, scope, start, shows, parameter, int, one, only, gives}

-- what statements without a result show, where the last action isn't answered
abbrev acts : Stms → List Action → Type 0
acts list actions = shows None list [] 0 ≡ record { actions = actions; end = More }

-- ---- calls

-- `this.m(5)` means `m(int)` of C, which overrides that of B
a_call : gives types.Int (Call This (codes "m") (one (int 5))) (Given (Int (pos 9)) ∷ [])
    ≡ record { actions = Invoke Virtual (Class (codes "C")) (codes "m") (Method (types.Int ∷ []) (Some types.Int)) (Ref this ∷ Int (pos 5) ∷ []) ∷ []; end = Return (Some (Int (pos 9))) }
a_call = refl

-- `this.m(p1)` with a long means the other one
an_overload : acts (only (Run (Call This (codes "m") (one (parameter 1)))))
    (Invoke Virtual (Class (codes "C")) (codes "m") (Method (types.Long ∷ []) (Some types.Long)) (Ref this ∷ Long (pos 6) ∷ []) ∷ [])
an_overload = refl

-- the null is looked at after the arguments
a_call_on_null : acts (only (Run (Call (parameter 3) (codes "m") (one (Call This (codes "m") (one (int 5)))))))
    (Invoke Virtual (Class (codes "C")) (codes "m") (Method (types.Int ∷ []) (Some types.Int)) (Ref this ∷ Int (pos 5) ∷ []) ∷ [])
a_call_on_null = refl

a_null_receiver : acts (only (Run (Call (parameter 3) (codes "m") (one (int 5))))) (Trap null_pointer ∷ [])
a_null_receiver = refl

a_private_call : acts (only (Run (Call This (codes "own") NoExps))) (Invoke Special (Class (codes "C")) (codes "own") (Method [] None) (Ref this ∷ []) ∷ [])
a_private_call = refl

an_interface_call : acts (only (Run (Call (parameter 6) (codes "run") NoExps))) (Invoke Interface (Class (codes "I")) (codes "run") (Method [] None) (Ref this ∷ []) ∷ [])
an_interface_call = refl

-- an int goes into a long parameter
a_static_call : acts (only (Run (StaticCall (codes "C") (codes "t") (one (int 5)))))
    (Invoke Static (Class (codes "C")) (codes "t") (Method (types.Long ∷ []) (Some types.Int)) (Long (pos 5) ∷ []) ∷ [])
a_static_call = refl

-- a static method through an expression, which is evaluated and dropped
a_static_call_on_null : acts (only (Run (Call (parameter 3) (codes "t") (one (int 5)))))
    (Invoke Static (Class (codes "C")) (codes "t") (Method (types.Long ∷ []) (Some types.Int)) (Long (pos 5) ∷ []) ∷ [])
a_static_call_on_null = refl

a_super_call : acts (only (Run (SuperCall None (codes "m") (one (int 5)))))
    (Invoke Special (Class (codes "B")) (codes "m") (Method (types.Int ∷ []) (Some types.Int)) (Ref this ∷ Int (pos 5) ∷ []) ∷ [])
a_super_call = refl

-- an array has the methods of Object, and `clone` gives the array's type: its element can be read
a_clone : acts (only (Run (Call (parameter 2) (codes "clone") NoExps)))
    (Invoke Virtual (Array types.Int) (codes "clone") (Method [] (Some (Class object_class))) (Ref ints ∷ []) ∷ [])
a_clone = refl

an_element_of_a_clone : gives types.Int (trees.Field (Call (parameter 2) (codes "clone") NoExps) (codes "length")) (Given (Ref ints) ∷ [])
    ≡ record { actions = Invoke Virtual (Array types.Int) (codes "clone") (Method [] (Some (Class object_class))) (Ref ints ∷ []) ∷ []; end = Return (Some (Int (pos 2))) }
an_element_of_a_clone = refl

no_method : acts (only (Run (Call This (codes "m") (one trees.Null)))) []
no_method = refl

-- ---- new objects

-- the object is made before its constructor's arguments are evaluated
a_new_object : shows None (only (Run (trees.New (codes "C") (one (int 5))))) (Given (Ref (object 8 (codes "C"))) ∷ Done ∷ []) 0
    ≡ record { actions = New (codes "C") ∷ Invoke Special (Class (codes "C")) (codes "<init>") (Method (types.Int ∷ []) None) (Ref (object 8 (codes "C")) ∷ Int (pos 5) ∷ []) ∷ []; end = Return None }
a_new_object = refl

-- no constructor is inherited
no_constructor : acts (only (Run (trees.New (codes "C") NoExps))) []
no_constructor = refl

-- what statements show as those of a constructor's body, where the call of another constructor is answered
abbrev constructs : Stms → List Action → End → Type 0
constructs list actions end =
    shown ((run_statements (record { headers = headers; members = members; class = codes "C"; result = None; this = Some (Ref this); constructs = true }) scope 0 list >>= ended None) (start (Done ∷ [])))
    ≡ record { actions = actions; end = end }

-- `super()` in C
abbrev above : Action
above = Invoke Special (Class (codes "B")) (codes "<init>") (Method [] None) (Ref this ∷ [])

a_constructor_call : constructs (only (Construct false NoExps)) (above ∷ []) (Return None)
a_constructor_call = refl

-- it stands first, and nowhere else: not behind another one, not in a block
a_second_constructor_call : constructs (And (Construct false NoExps) (only (Construct false NoExps))) (above ∷ []) More
a_second_constructor_call = refl

a_constructor_call_in_a_block : constructs (only (Block (only (Construct false NoExps)))) [] More
a_constructor_call_in_a_block = refl

-- in a method there is none
no_constructor_call : acts (only (Construct false NoExps)) []
no_constructor_call = refl

-- ---- stores

a_field_store : acts (only (SetField This (codes "x") (int 5))) (PutField this (Class (codes "C")) (codes "x") types.Int (Int (pos 5)) ∷ [])
a_field_store = refl

a_field_store_to_null : acts (only (SetField (parameter 3) (codes "x") (int 5))) (Trap null_pointer ∷ [])
a_field_store_to_null = refl

-- an int goes into a long field
a_static_store : acts (only (SetStatic (codes "C") (codes "s") (int 5))) (PutStatic (Class (codes "C")) (codes "s") types.Long (Long (pos 5)) ∷ [])
a_static_store = refl

-- the object of a static field is dropped
a_static_store_to_null : acts (only (SetField (parameter 3) (codes "s") (int 5))) (PutStatic (Class (codes "C")) (codes "s") types.Long (Long (pos 5)) ∷ [])
a_static_store_to_null = refl

no_length_store : acts (only (SetField (parameter 2) (codes "length") (int 5))) []
no_length_store = refl

an_element_store : acts (only (SetElement (parameter 2) (int 1) (int 5))) (ArrayStore ints (pos 1) (Int (pos 5)) ∷ [])
an_element_store = refl

-- what is no array by its type is ruled out before anything is evaluated, as where an element is read
no_element_store : acts (only (SetElement This (int 1) (Call This (codes "m") (one (int 5))))) []
no_element_store = refl

-- an array of C holds no exception
a_wrong_element : acts (only (SetElement (parameter 4) (int 0) (parameter 5))) (Trap (codes "java/lang/ArrayStoreException") ∷ [])
a_wrong_element = refl

a_right_element : acts (only (SetElement (parameter 4) (int 0) This)) (ArrayStore objects (pos 0) (Ref this) ∷ [])
a_right_element = refl
