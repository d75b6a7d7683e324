-- Which answers an action can have, by the headers of the classes that run (JVMS 2.10, 6.5; JLS 10.7, 11.1).
use Rattle.std.specs.Prelude.{◌≡◌, ℕ, ◌≤◌, ⊤, codes, ℤ, pos, List, [], slice_get, Option, Some, IsNone, IsSomeAnd}
use Rattle.dj_names.specs.declared.header.Header.{Header}
use Rattle.dj_names.specs.Types.{JType, Class, Field, Method}
use Rattle.dj_values.specs.Values.{RefValue, Value, Int, Long, Null, Ref, Action, New, NewArray, GetField, PutField, GetStatic, PutStatic, ArrayLoad, ArrayStore, Invoke, ClassConstant, Enter, Exit, Trap, Answer, Given, Done, Thrown}
use Rattle.dj_values.specs.Fits.{element_of, IsArray, IsReferenceOf, IsValueOf, IsObject, IsThrowable}
pub use Rattle.dj_values.specs.Deciding.{is_name, is_subclass, is_answer}

-- ---- what an answer can be

-- a value that is a reference, not null, and such
abbrev pub IsReferenceAnd : (RefValue → Type 0) → Value → Type 0
IsReferenceAnd Is (Int number) = ⊥
IsReferenceAnd Is (Long number) = ⊥
IsReferenceAnd Is Null = ⊥
IsReferenceAnd Is (Ref reference) = Is reference

-- a new array: of exactly this type, and as long as the first size says (JVMS 6.5, `newarray`, `multianewarray`)
pub record IsNewArray (type : JType) (sizes : List ℤ) (reference : RefValue) : Type 0 where
  pub array : IsArray type
  pub exact : reference.class ≡ type
  pub length : slice_get sizes 0 ≡ Some (pos reference.length)
  pub most : reference.length ≤ 2147483647

-- a value that an array of this type holds
abbrev pub IsElementOf : List Header → JType → Value → Type 0
IsElementOf headers array value = IsSomeAnd (element_of array) (λ element. IsValueOf headers element value)

-- the method `clone` of an array (JLS 10.7)
pub record IsArrayClone (owner : JType) (name : List ℕ) (parameters : List JType) : Type 0 where
  pub array : IsArray owner
  pub clone : name ≡ codes "clone"
  pub alone : parameters ≡ []

-- what a call gives: a value of the method's result; and `clone` of an array one of the array's type, which isn't null
pub record IsResult (headers : List Header) (owner : JType) (name : List ℕ) (parameters : List JType) (result : Option JType) (value : Value) : Type 0 where
  pub of_result : IsSomeAnd result (λ type. IsValueOf headers type value)
  pub of_clone : IsArrayClone owner name parameters → IsReferenceAnd (IsReferenceOf headers owner) value

-- what the machine throws by itself: an exception of exactly this class (JVMS 2.10)
pub record IsTrapped (headers : List Header) (class : List ℕ) (reference : RefValue) : Type 0 where
  pub throwable : IsThrowable headers reference
  pub exact : reference.class ≡ Class class

-- ---- the table

-- a fact for each kind of answer: of a value, of none, and of an exception
abbrev pub MatchAnswer : Answer → (Value → Type 0) → Type 0 → (RefValue → Type 0) → Type 0
MatchAnswer (Given value) OnValue OnDone OnThrown = OnValue value
MatchAnswer Done OnValue OnDone OnThrown = OnDone
MatchAnswer (Thrown reference) OnValue OnDone OnThrown = OnThrown reference

-- no answer of the kind
abbrev pub Never : {A : Type 0} → A → Type 0
Never answer = ⊥

-- what an action can be answered by: which values, whether that it is done, and which exceptions;
-- nothing where a call isn't of a method
abbrev pub FitsAction : List Header → Action → Answer → Type 0
FitsAction headers (New class) answer = MatchAnswer answer (IsReferenceAnd (IsObject class)) ⊥ (IsThrowable headers)
FitsAction headers (NewArray type sizes) answer = MatchAnswer answer (IsReferenceAnd (IsNewArray type sizes)) ⊥ (IsThrowable headers)
FitsAction headers (GetField reference class name type) answer = MatchAnswer answer (IsValueOf headers type) ⊥ Never
FitsAction headers (PutField reference class name type value) answer = MatchAnswer answer Never ⊤ Never
FitsAction headers (GetStatic class name type) answer = MatchAnswer answer (IsValueOf headers type) ⊥ (IsThrowable headers)
FitsAction headers (PutStatic class name type value) answer = MatchAnswer answer Never ⊤ (IsThrowable headers)
FitsAction headers (ArrayLoad reference index) answer = MatchAnswer answer (IsElementOf headers reference.class) ⊥ Never
FitsAction headers (ArrayStore reference index value) answer = MatchAnswer answer Never ⊤ Never
FitsAction headers (Invoke kind owner name (Field type) values) answer = ⊥
FitsAction headers (Invoke kind owner name (Method parameters result) values) answer =
    MatchAnswer answer (IsResult headers owner name parameters result) (IsNone result) (IsThrowable headers)
FitsAction headers (ClassConstant type) answer = MatchAnswer answer (IsReferenceAnd (IsObject (codes "java/lang/Class"))) ⊥ (IsThrowable headers)
FitsAction headers (Enter reference) answer = MatchAnswer answer Never ⊤ Never
FitsAction headers (Exit reference) answer = MatchAnswer answer Never ⊤ Never
FitsAction headers (Trap class) answer = MatchAnswer answer Never ⊥ (IsTrapped headers class)
