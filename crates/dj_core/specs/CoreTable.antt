-- The 24 classes that are known without a file, with the members that are known of them (own choice).
use Rattle.std.specs.Prelude.{ℕ, List, [], ◌∷◌, ◌++◌, Option, Some, None, codes}
use Rattle.dj_names.specs.Headers.{Name}
use Rattle.dj_names.specs.Types.{JType, Boolean, Char, Int, Long, Class, Method}
use Rattle.dj_core.specs.CoreClass.{CoreMethod, CoreClass}

-- ---- names

-- the class above all classes (JLS 4.3.2)
abbrev pub object : Name
object = codes "java/lang/Object"

-- an interface of every array (JLS 4.10.3)
abbrev pub serializable : Name
serializable = codes "java/io/Serializable"

-- the interface of what can be compared
abbrev pub comparable : Name
comparable = codes "java/lang/Comparable"

-- the interface of what is read char by char
abbrev pub char_sequence : Name
char_sequence = codes "java/lang/CharSequence"

-- the class of string literals (JLS 4.3.3)
abbrev pub string : Name
string = codes "java/lang/String"

-- the class that strings are built with
abbrev pub string_builder : Name
string_builder = codes "java/lang/StringBuilder"

-- the class above all that can be thrown (JLS 11.1.1)
abbrev pub throwable : Name
throwable = codes "java/lang/Throwable"

-- the class above checked exceptions (JLS 11.1.1)
abbrev pub exception : Name
exception = codes "java/lang/Exception"

-- the class above unchecked exceptions (JLS 11.1.1)
abbrev pub runtime_exception : Name
runtime_exception = codes "java/lang/RuntimeException"

-- ---- how a line of the table is read

-- a method of these flags; it throws nothing
abbrev pub method : ℕ → List ℕ → List JType → Option JType → CoreMethod
method flags name parameters result = record { flags = flags; name = name; descriptor = Method parameters result; thrown = [] }

-- ACC_PUBLIC (JVMS table 4.6-A)
abbrev pub public : List ℕ → List JType → Option JType → CoreMethod
public = method 0x0001

-- ACC_PUBLIC and ACC_FINAL
abbrev pub final : List ℕ → List JType → Option JType → CoreMethod
final = method 0x0011

-- ACC_PUBLIC and ACC_STATIC
abbrev pub static : List ℕ → List JType → Option JType → CoreMethod
static = method 0x0009

-- ACC_PUBLIC and ACC_ABSTRACT
abbrev pub abstract : List ℕ → List JType → Option JType → CoreMethod
abstract = method 0x0401

-- ACC_PROTECTED
abbrev pub protected : List ℕ → List JType → Option JType → CoreMethod
protected = method 0x0004

-- a public constructor
abbrev pub constructor : List JType → CoreMethod
constructor parameters = public (codes "<init>") parameters None

-- the method declares to throw this class
abbrev pub throwing : Name → CoreMethod → CoreMethod
throwing class declared = record declared { thrown = class ∷ [] }

-- an interface: ACC_PUBLIC, ACC_INTERFACE and ACC_ABSTRACT (JVMS table 4.1-A)
abbrev pub interface : Name → List CoreMethod → CoreClass
interface name methods = record { name = name; flags = 0x0601; superclass = Some object; interfaces = []; methods = methods }

-- a class below Throwable: ACC_PUBLIC and ACC_SUPER (JVMS table 4.1-A)
abbrev pub thrown_class : Name → Name → List CoreMethod → CoreClass
thrown_class name superclass constructors = record { name = name; flags = 0x0021; superclass = Some superclass; interfaces = []; methods = constructors }

-- ---- members

-- of java/lang/Object (JLS 4.3.2)
abbrev pub object_methods : List CoreMethod
object_methods =
    constructor [] ∷
    public (codes "equals") (Class object ∷ []) (Some Boolean) ∷
    public (codes "hashCode") [] (Some Int) ∷
    public (codes "toString") [] (Some (Class string)) ∷
    final (codes "getClass") [] (Some (Class (codes "java/lang/Class"))) ∷
    final (codes "notify") [] None ∷
    final (codes "notifyAll") [] None ∷
    throwing (codes "java/lang/InterruptedException") (final (codes "wait") [] None) ∷
    throwing (codes "java/lang/InterruptedException") (final (codes "wait") (Long ∷ []) None) ∷
    throwing (codes "java/lang/InterruptedException") (final (codes "wait") (Long ∷ Int ∷ []) None) ∷
    throwing (codes "java/lang/CloneNotSupportedException") (protected (codes "clone") [] (Some (Class object))) ∷
    throwing throwable (protected (codes "finalize") [] None) ∷
    []

-- of java/lang/CharSequence
abbrev pub char_sequence_methods : List CoreMethod
char_sequence_methods =
    abstract (codes "length") [] (Some Int) ∷
    abstract (codes "charAt") (Int ∷ []) (Some Char) ∷
    abstract (codes "subSequence") (Int ∷ Int ∷ []) (Some (Class char_sequence)) ∷
    abstract (codes "toString") [] (Some (Class string)) ∷
    []

-- of java/lang/String
abbrev pub string_methods : List CoreMethod
string_methods =
    public (codes "length") [] (Some Int) ∷
    public (codes "charAt") (Int ∷ []) (Some Char) ∷
    public (codes "equals") (Class object ∷ []) (Some Boolean) ∷
    public (codes "hashCode") [] (Some Int) ∷
    public (codes "isEmpty") [] (Some Boolean) ∷
    public (codes "concat") (Class string ∷ []) (Some (Class string)) ∷
    public (codes "compareTo") (Class string ∷ []) (Some Int) ∷
    public (codes "substring") (Int ∷ []) (Some (Class string)) ∷
    public (codes "substring") (Int ∷ Int ∷ []) (Some (Class string)) ∷
    static (codes "valueOf") (Int ∷ []) (Some (Class string)) ∷
    static (codes "valueOf") (Long ∷ []) (Some (Class string)) ∷
    static (codes "valueOf") (Char ∷ []) (Some (Class string)) ∷
    static (codes "valueOf") (Boolean ∷ []) (Some (Class string)) ∷
    static (codes "valueOf") (Class object ∷ []) (Some (Class string)) ∷
    []

-- of java/lang/StringBuilder
abbrev pub string_builder_methods : List CoreMethod
string_builder_methods =
    constructor [] ∷
    constructor (Class string ∷ []) ∷
    public (codes "append") (Boolean ∷ []) (Some (Class string_builder)) ∷
    public (codes "append") (Char ∷ []) (Some (Class string_builder)) ∷
    public (codes "append") (Int ∷ []) (Some (Class string_builder)) ∷
    public (codes "append") (Long ∷ []) (Some (Class string_builder)) ∷
    public (codes "append") (Class string ∷ []) (Some (Class string_builder)) ∷
    public (codes "append") (Class object ∷ []) (Some (Class string_builder)) ∷
    public (codes "length") [] (Some Int) ∷
    public (codes "toString") [] (Some (Class string)) ∷
    []

-- constructors of nothing and of a message
abbrev pub plain_constructors : List CoreMethod
plain_constructors = constructor [] ∷ constructor (Class string ∷ []) ∷ []

-- these, and constructors that take a cause
abbrev pub cause_constructors : List CoreMethod
cause_constructors = plain_constructors ++ constructor (Class string ∷ Class throwable ∷ []) ∷ constructor (Class throwable ∷ []) ∷ []

-- of java/lang/Throwable, beside its constructors
abbrev pub throwable_methods : List CoreMethod
throwable_methods =
    public (codes "getMessage") [] (Some (Class string)) ∷
    public (codes "getCause") [] (Some (Class throwable)) ∷
    public (codes "initCause") (Class throwable ∷ []) (Some (Class throwable)) ∷
    final (codes "addSuppressed") (Class throwable ∷ []) None ∷
    public (codes "toString") [] (Some (Class string)) ∷
    public (codes "printStackTrace") [] None ∷
    []

-- ---- classes, in the order in which they are filled in

-- the classes of the table
abbrev pub core_classes : List CoreClass
core_classes =
    record { name = object; flags = 0x0021; superclass = None; interfaces = []; methods = object_methods } ∷
    interface (codes "java/lang/Cloneable") [] ∷
    interface serializable [] ∷
    interface comparable (abstract (codes "compareTo") (Class object ∷ []) (Some Int) ∷ []) ∷
    interface char_sequence char_sequence_methods ∷
    record {
      name = codes "java/lang/Class";
      flags = 0x0031;
      superclass = Some object;
      interfaces = [];
      methods = public (codes "getName") [] (Some (Class string)) ∷ public (codes "desiredAssertionStatus") [] (Some Boolean) ∷ [];
    } ∷
    record { name = string; flags = 0x0031; superclass = Some object; interfaces = serializable ∷ comparable ∷ char_sequence ∷ []; methods = string_methods } ∷
    record { name = string_builder; flags = 0x0031; superclass = Some object; interfaces = serializable ∷ char_sequence ∷ []; methods = string_builder_methods } ∷
    record { name = throwable; flags = 0x0021; superclass = Some object; interfaces = serializable ∷ []; methods = cause_constructors ++ throwable_methods } ∷
    thrown_class exception throwable cause_constructors ∷
    thrown_class runtime_exception exception cause_constructors ∷
    thrown_class (codes "java/lang/Error") throwable cause_constructors ∷
    thrown_class (codes "java/lang/ArithmeticException") runtime_exception plain_constructors ∷
    thrown_class (codes "java/lang/IndexOutOfBoundsException") runtime_exception plain_constructors ∷
    thrown_class (codes "java/lang/ArrayStoreException") runtime_exception plain_constructors ∷
    thrown_class (codes "java/lang/ClassCastException") runtime_exception plain_constructors ∷
    thrown_class (codes "java/lang/NegativeArraySizeException") runtime_exception plain_constructors ∷
    thrown_class (codes "java/lang/NullPointerException") runtime_exception plain_constructors ∷
    thrown_class (codes "java/lang/IllegalMonitorStateException") runtime_exception plain_constructors ∷
    thrown_class (codes "java/lang/IllegalArgumentException") runtime_exception cause_constructors ∷
    thrown_class (codes "java/lang/ArrayIndexOutOfBoundsException") (codes "java/lang/IndexOutOfBoundsException") plain_constructors ∷
    thrown_class (codes "java/lang/CloneNotSupportedException") exception plain_constructors ∷
    thrown_class (codes "java/lang/InterruptedException") exception plain_constructors ∷
    thrown_class (codes "java/io/IOException") exception cause_constructors ∷
    []
