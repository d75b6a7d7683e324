-- Which members a class has, and where they may be used, by tests (JLS 6.6, 8.2, 8.4.8, 9.2).
use Rattle.std.specs.Prelude.{ℕ, Bool, true, not, ◌&&◌, ◌||◌, List, [], ◌∷◌, ◌++◌, Option, Some, None, option_to_list, length, if◌then◌else◌}
use Rattle.dj_names.specs.declared.header.Header.{Header}
use Rattle.dj_names.specs.Headers.{Name}
use Rattle.dj_names.specs.Types.{JType}
use Rattle.dj_names.specs.Assignable.{object_name}
use Rattle.dj_values.specs.Fits.{class_of}
use Rattle.dj_values.specs.Deciding.{is_name, is_array, is_some_and, superclass_of, reaches, is_subclass, is_interface}
use Rattle.dj_kinds.specs.Search.{header_of, superclass_in, interfaces_of}
use Rattle.dj_kinds.specs.Access.{package_of}
use Rattle.dj_meaning.specs.Members.{Field, Method, Members, is_public, is_private, is_protected, is_of_class}

-- ---- the members of a class

-- the members of the class of this name, which stand at its header's place
abbrev pub members_of : List Header → List Members → Name → Option Members
members_of [] members class = None
members_of (header ∷ headers) [] class = None
members_of (header ∷ headers) (first ∷ rest) class = if is_name header.name class then Some first else members_of headers rest class

-- the fields among them, none where there is no such class
abbrev pub fields_in : Option Members → List Field
fields_in None = []
fields_in (Some declared) = declared.fields

-- the methods among them
abbrev pub methods_in : Option Members → List Method
methods_in None = []
methods_in (Some declared) = declared.methods

-- the superclass and the interfaces of a class
abbrev pub parents : List Header → Name → List Name
parents headers class = option_to_list (superclass_in (header_of headers class)) ++ interfaces_of headers class

-- ---- inheritance

-- two classes are of one package
abbrev pub is_in_package : Name → Name → Bool
is_in_package first second = is_name (package_of first) (package_of second)

-- the superclass that a header names, where the header's class is of the package of this one
abbrev pub superclass_in_package : Name → Header → List Name
superclass_in_package owner header = if is_in_package owner header.name then superclass_of header else []

-- a class has a member that a class above it declares with these flags: what it declares itself, and what is public; of classes
-- also what is protected, and what isn't private as long as the package stays (8.2, 8.4.8, 9.2)
abbrev pub is_inherited : List Header → Name → Name → ℕ → Bool
is_inherited headers class owner flags =
    is_name class owner || is_public flags
    || (is_protected flags && is_subclass headers class owner)
    || (not (is_private flags) && reaches (superclass_in_package owner) headers (length headers) class owner)

-- ---- access

-- there is none, or it passes the test
abbrev pub is_none_or : {A : Type 0} → Option A → (A → Bool) → Bool
is_none_or None test = true
is_none_or (Some one) test = test one

-- the type is the class, or below it by superclasses; an array has the superclass Object (10.8)
abbrev pub is_below : List Header → Name → JType → Bool
is_below headers class type = is_some_and (class_of type) (λ name. is_subclass headers name class) || (is_array type && is_name class object_name)

-- a protected member of a class may be used in a class below it, and what isn't static only through a type below that (6.6.2)
abbrev pub allows_below : List Header → Name → Name → ℕ → Option JType → Bool
allows_below headers from owner flags through =
    is_protected flags && is_subclass headers from owner && not (is_interface headers from)
    && (is_of_class flags || is_none_or through (is_below headers from))

-- a member of a class with these flags may be used in the class `from`, through an expression of a type or none (6.6.1)
abbrev pub allows : List Header → Name → Name → ℕ → Option JType → Bool
allows headers from owner flags through =
    is_public flags
    || (is_private flags && is_name from owner)
    || (not (is_private flags) && is_in_package from owner)
    || allows_below headers from owner flags through
