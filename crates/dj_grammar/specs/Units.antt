-- A unit read from words (JLS 7.3, 8.1, 9.1).
use Rattle.std.specs.Prelude.{ℕ, Bool, if◌then◌else◌, List, ◌∷◌, ◌++◌, Option, Some, None, bit_or, codes}
use Rattle.dj_syntax.specs.Trees.{CompilationUnit}
use Rattle.dj_syntax.specs.WellFormed.{held_class}
use Rattle.dj_tokens.specs.Words.{Words, first_word, other_words, comes}
use Rattle.dj_tokens.specs.Names.{read_name, read_names}
use Rattle.dj_grammar.specs.Members.{Place, no_members, read_modifiers, read_members}

-- the package, where the text names one
abbrev pub read_package : Words → Option (List ℕ) × Words
read_package list =
    if comes (codes "package") list then (let name = read_name (other_words list) in (Some name.0, other_words name.1)) else (None, list)

-- the superclass, where a class names one
abbrev pub read_superclass : Bool → Words → Option (List ℕ) × Words
read_superclass interface list =
    if interface then (None, list)
    else (if comes (codes "extends") list then (let name = read_name (other_words list) in (Some name.0, name.1)) else (None, list))

-- the flags of a class or interface, from the bits that its text shows
abbrev pub class_flags : Bool → ℕ → ℕ
class_flags interface bits = held_class (if interface then bit_or bits 0x0200 else bits)

-- a class's name: its package's name, where there is one, and its own
abbrev pub name_in : Option (List ℕ) → List ℕ → List ℕ
name_in None name = name
name_in (Some package_name) name = package_name ++ 47 ∷ name

-- a unit of at most so many members
abbrev pub read_unit : ℕ → Words → CompilationUnit
read_unit most list =
    let in_package = read_package list in
    let head = read_modifiers 0 in_package.1 in
    let interface = comes (codes "interface") head.1 in
    let name = first_word (other_words head.1) in
    let superclass = read_superclass interface (other_words (other_words head.1)) in
    let interfaces = read_names (if interface then codes "extends" else codes "implements") superclass.1 in
    let place : Place = record { interface = interface; class = name_in in_package.0 name } in
    let members = read_members place most no_members (other_words interfaces.1) in
    record {
      «package» = in_package.0;
      flags = class_flags interface head.0;
      name = name;
      superclass = superclass.0;
      interfaces = interfaces.0;
      fields = members.fields;
      helper = members.helper;
      methods = members.methods;
    }
