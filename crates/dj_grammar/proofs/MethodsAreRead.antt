-- What the words of methods, constructors and static initialisers spell is read from them, whatever follows.
use Rattle.std.proofs.Common.{◌≡◌, ℕ, ◌==◌, Bool, true, false, ◌&&◌, List, ◌∷◌, ◌++◌, Option, Some, None, IfSome, is_some, bit_and, refl, sym, ap, ◌∙◌}
use Rattle.std.specs.Prelude.{codes, if◌then◌else◌}
use Rattle.std.specs.Int.Bits.{and_self}
use Rattle.dj_names.specs.Types.{JType, Descriptor, Method}
use Rattle.dj_syntax.specs.Trees.{Stm, Body, MethodText, CompilationUnit}
use Rattle.dj_syntax.specs.UnitText.{full_names, method_bits, is_initialiser}
use Rattle.dj_syntax.specs.WellFormed.{IsWellFormedMethod, IsWellFormedBody, HasHeadOf, held_method}
use Rattle.dj_tokens.specs.Words.{Words, begins, comes}
use Rattle.dj_tokens.specs.Names.{read_parameters, read_names}
use Rattle.dj_grammar.specs.Members.{Place, Members, head_of, body_of, method_of, read_body, read_method, read_named, read_modified, read_modifiers, with_method}
use Rattle.dj_grammar.proofs.StatementLists.{list_of, stms_of-list_of}
use Rattle.dj_grammar.proofs.StatementsAreRead.{body_read}
use Rattle.dj_grammar.proofs.UnitNames.{IsReadable, read_names_of}
use Rattle.dj_grammar.proofs.MaskLemmas.{and_and, or-zero}
use Rattle.dj_grammar.proofs.NamesAreRead.{names_words, names_are_read, EndsNames}
use Rattle.dj_grammar.proofs.TypesAreRead.{parameters_words, parameters_are_read}
use Rattle.dj_grammar.proofs.TypesBegin.{BeginsMember}
use Rattle.dj_grammar.proofs.ModifiersAreRead.{modifiers_end, modifier_bits}
use Rattle.dj_grammar.proofs.MethodsAreSpelled.{body_words, default_words, taking_words}

-- ---- bodies

-- the statements of a body, where there is one
abbrev statements_of : Option Body → Option (List Stm)
statements_of None = None
statements_of (Some body) = Some (list_of body.statements)

body_is_read : (unit : CompilationUnit) → IsReadable unit → (class : List ℕ) (method : MethodText) (body : Option Body) (list : Words) → IfSome body (IsWellFormedBody (is_some unit.helper) class method) → read_body (body_words unit body list) ≡ (statements_of body, list)
body_is_read unit own_is class method None list formed = refl
body_is_read unit own_is class method (Some body) list formed = rw (body_read (full_names unit) (is_some unit.helper) (read_names_of unit own_is) body.statements list formed.statements)

-- a body ends a list of names
body_ends : (unit : CompilationUnit) (body : Option Body) (list : Words) → (comes (codes "throws") (body_words unit body list) ≡ false) × EndsNames (body_words unit body list)
body_ends unit None list = (refl, (refl, refl))
body_ends unit (Some body) list = (refl, (refl, refl))

-- ---- the method that is made of its parts

pub method_bits-modifiers : (interface : Bool) → bit_and (method_bits interface) modifier_bits ≡ method_bits interface
method_bits-modifiers true = refl
method_bits-modifiers false = refl

method_bits-static : (interface : Bool) → bit_and (method_bits interface) 0x0008 ≡ 0x0008
method_bits-static true = refl
method_bits-static false = refl

-- the flags that a method holds are known from what it shows
held_shown : (interface : Bool) (name : List ℕ) (descriptor : Descriptor) (thrown : List (List ℕ)) (flags : ℕ) (body other : Option Body) → is_initialiser name ≡ false → is_some other ≡ is_some body
    → held_method interface (head_of (bit_and flags (method_bits interface)) name descriptor thrown other) ≡ held_method interface (head_of flags name descriptor thrown body)
held_shown interface name descriptor thrown flags body other method same =
    let mask = method_bits interface in
    let shown : bit_and (bit_and flags mask) mask ≡ bit_and flags mask = and_and flags mask mask ∙ ap (bit_and flags) (and_self mask) in
    let static : bit_and (bit_and flags mask) 0x0008 ≡ bit_and flags 0x0008 = and_and flags mask 0x0008 ∙ ap (bit_and flags) (method_bits-static interface) in
    rw (method, shown, static, same)

-- a body is made of its statements and the head of its method
pub body_is_made : (place : Place) (flags : ℕ) (name : List ℕ) (descriptor : Descriptor) (thrown : List (List ℕ)) (body : Body) → HasHeadOf place.class (head_of flags name descriptor thrown (Some body)) body
    → body_of place (head_of flags name descriptor thrown None) (list_of body.statements) ≡ body
body_is_made place flags name descriptor thrown body head = λ i. record {
  class = sym head.class i;
  flags = sym head.flags i;
  name = sym head.name i;
  descriptor = sym head.descriptor i;
  thrown = sym head.thrown i;
  statements = stms_of-list_of body.statements i;
}

-- a method is made of its parts
method_is_made : (unit : CompilationUnit) (place : Place) (flags : ℕ) (name : List ℕ) (descriptor : Descriptor) (thrown : List (List ℕ)) (body : Option Body) → is_initialiser name ≡ false → IsWellFormedMethod place.interface (is_some unit.helper) place.class (head_of flags name descriptor thrown body)
    → method_of place (bit_and flags (method_bits place.interface)) name descriptor thrown (statements_of body) ≡ head_of flags name descriptor thrown body
method_is_made unit place flags name descriptor thrown None method formed =
    ap (λ flags. head_of flags name descriptor thrown None) (held_shown place.interface name descriptor thrown flags None None method refl ∙ sym formed.flags)
method_is_made unit place flags name descriptor thrown (Some body) method formed =
    let statements = list_of body.statements in
    let shown = body_of place (head_of (bit_and flags (method_bits place.interface)) name descriptor thrown None) statements in
    ap (λ flags. head_of flags name descriptor thrown (Some (body_of place (head_of flags name descriptor thrown None) statements))) (held_shown place.interface name descriptor thrown flags (Some body) (Some shown) method refl ∙ sym formed.flags)
    ∙ ap (λ body. head_of flags name descriptor thrown (Some body)) (body_is_made place flags name descriptor thrown body formed.body.head)

-- ---- from the parenthesis on

method_goes_on : (place : Place) (bits : ℕ) (name : List ℕ) (result : Option JType) (kinds : List JType) (thrown : List (List ℕ)) (statements : Option (List Stm)) (parenthesis : List ℕ) (list behind_kinds behind_thrown behind : Words)
    → read_parameters list ≡ (kinds, behind_kinds) → read_names (codes "throws") behind_kinds ≡ (thrown, behind_thrown) → read_body behind_thrown ≡ (statements, behind)
    → read_method place bits name result (parenthesis ∷ list) ≡ (method_of place bits name (Method kinds result) thrown statements, behind)
method_goes_on place bits name result kinds thrown statements parenthesis list behind_kinds behind_thrown behind of_kinds of_thrown of_body = rw (of_kinds, of_thrown, of_body)

-- a method or a constructor is read from its parenthesis on
pub taken_is_read : (unit : CompilationUnit) → IsReadable unit → (place : Place) (flags : ℕ) (name : List ℕ) (kinds : List JType) (result : Option JType) (thrown : List (List ℕ)) (body : Option Body) (list : Words) → is_initialiser name ≡ false
    → IsWellFormedMethod place.interface (is_some unit.helper) place.class (head_of flags name (Method kinds result) thrown body)
    → read_method place (bit_and flags (method_bits place.interface)) name result (taking_words (head_of flags name (Method kinds result) thrown body) (body_words unit body list)) ≡ (head_of flags name (Method kinds result) thrown body, list)
taken_is_read unit own_is place flags name kinds result thrown body list method formed =
    let ends = body_ends unit body list in
    method_goes_on place (bit_and flags (method_bits place.interface)) name result kinds thrown (statements_of body) (codes "(") (parameters_words kinds ++ codes ")" ∷ (names_words (codes "throws") thrown ++ body_words unit body list)) (names_words (codes "throws") thrown ++ body_words unit body list) (body_words unit body list) list
    (parameters_are_read kinds (names_words (codes "throws") thrown ++ body_words unit body list) formed.descriptor.0)
    (names_are_read (codes "throws") thrown (body_words unit body list) refl ends.0 ends.1)
    (body_is_read unit own_is place.class (head_of flags name (Method kinds result) thrown body) body list formed.body)
    ∙ ap (λ method. (method, list)) (method_is_made unit place flags name (Method kinds result) thrown body method formed)

-- ---- behind the modifiers

pub default_is_read : (interface : Bool) (method : MethodText) (bits : ℕ) (list : Words) → BeginsMember list → read_modifiers bits (default_words interface method list) ≡ (bits, list)
default_is_read interface method bits list begins = go (interface && (is_some method.body && (bit_and method.flags 0x0008 == 0)))
  where
    go : (given : Bool) → read_modifiers bits (if given then codes "default" ∷ list else list) ≡ (bits, list)
    go true = ap (λ bits. read_modifiers bits list) (or-zero bits) ∙ modifiers_end bits list begins.modifier
    go false = modifiers_end bits list begins.modifier

pub constructor_goes_on : (place : Place) (members : Members) (bits : ℕ) (unit : CompilationUnit) (after : Words) (method : MethodText) (list : Words) → BeginsMember (unit.name ∷ after) → comes (codes "(") after ≡ true → read_method place bits (codes "<init>") None after ≡ (method, list)
    → read_modified place members bits (unit.name ∷ after) ≡ (with_method members method, list)
constructor_goes_on place members bits unit after method list begins parenthesis read =
    rw (begins.brace, begins.angle, parenthesis) (ap (λ read. (with_method members read.0, read.1)) read)

pub named_method_goes_on : (place : Place) (members : Members) (bits : ℕ) (result : Option JType) (name : List ℕ) (after : Words) (method : MethodText) (list : Words) → comes (codes "(") after ≡ true → read_method place bits name result after ≡ (method, list)
    → read_named place members bits result (name ∷ after) ≡ (with_method members method, list)
named_method_goes_on place members bits result name after method list parenthesis read =
    rw parenthesis (ap (λ read. (with_method members read.0, read.1)) read)
