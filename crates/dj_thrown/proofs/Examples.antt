-- What is thrown and caught at worked examples (JLS 11): the first rule that is broken, or none, as Java compilers have it.
use Rattle.std.proofs.Common.{◌≡◌, List, [], ◌∷◌, Option, Some, None, refl}
use Rattle.std.specs.Prelude.{codes}
use Rattle.dj_names.specs.declared.header.Header.{Header}
use Rattle.dj_names.specs.declared.members.ClassMembers.{ClassMembers}
use Rattle.dj_names.specs.declared.descriptor.Descriptor.TheVariants as descriptors
use Rattle.dj_names.specs.Headers.{Name}
use Rattle.dj_names.specs.Types.{Class, Method}
use Rattle.dj_syntax.specs.declared.variable.Var.{Var}
use Rattle.dj_syntax.specs.declared.variable.VarKind.TheVariants.{Param, Caught}
use Rattle.dj_syntax.specs.Trees.{Variable, StaticCall, NoExps, Stm, Block, Set, Run, Return, Throw, Try, Finally, Stms, Catches, NoCatches, AndCatch, stms_of}
use Rattle.dj_places.specs.declared.kind.TypeKind.TheVariants as kinds
use Rattle.dj_faults.specs.declared.fault.Fault.{Fault}
use Rattle.dj_faults.specs.Faults.{first_fault}
use Rattle.dj_thrown.specs.Bodies.{body_thrown}

-- ---- classes

abbrev exception : Name
exception = codes "java/lang/Exception"

abbrev io_exception : Name
io_exception = codes "java/io/IOException"

abbrev no_file : Name
no_file = codes "java/io/FileNotFoundException"

abbrev header : Name → Name → Header
header name superclass = record { name = name; superclass = Some superclass; interfaces = []; flags = 0x0021 }

abbrev headers : List Header
headers =
    header (codes "C") (codes "java/lang/Object") ∷ header no_file io_exception ∷ header io_exception exception ∷ header exception (codes "java/lang/Throwable")
    ∷ header (codes "java/lang/Throwable") (codes "java/lang/Object") ∷ []

-- `static void m() throws IOException`, of C
abbrev members : List ClassMembers
members =
    record { fields = []; methods = record { flags = 0x0008; name = codes "m"; descriptor = descriptors.Method [] None; thrown = io_exception ∷ [] } ∷ []; named = [] }
    ∷ none ∷ none ∷ none ∷ none ∷ []
  where
    none : ClassMembers
    none = record { fields = []; methods = []; named = [] }

-- ---- bodies of `static void f(IOException p0)`

abbrev fault : List Name → List Stm → Option Fault
fault declared list =
    first_fault (body_thrown headers members (record {
      class = codes "C";
      flags = 0x0008;
      name = codes "f";
      descriptor = Method (Class io_exception ∷ []) None;
      thrown = declared;
      statements = stms_of list;
    }))

abbrev p0 : Var
p0 = record { kind = Param; number = 0 }

abbrev e0 : Var
e0 = record { kind = Caught; number = 0 }

abbrev throw_p0 : Stms
throw_p0 = stms_of (Throw (Variable p0) ∷ [])

abbrev catch : Name → List Stm → Catches
catch class list = AndCatch class e0 (stms_of list) NoCatches

-- throw p0;
thrown_at_once : fault [] (Throw (Variable p0) ∷ []) ≡ Some (record { place = 0; kind = kinds.Thrown })
thrown_at_once = refl

-- the same, of a method that declares it
declared : fault (io_exception ∷ []) (Throw (Variable p0) ∷ []) ≡ None
declared = refl

-- try { throw p0; } catch (IOException e0) { }
caught : fault [] (Try throw_p0 (catch io_exception []) ∷ []) ≡ None
caught = refl

-- try { { } } catch (IOException e0) { }
never_thrown : fault [] (Try (stms_of (Block (stms_of []) ∷ [])) (catch io_exception []) ∷ []) ≡ Some (record { place = 0; kind = kinds.Catch })
never_thrown = refl

-- try { { } } catch (Exception e0) { }
any_exception : fault [] (Try (stms_of (Block (stms_of []) ∷ [])) (catch exception []) ∷ []) ≡ None
any_exception = refl

-- try { throw p0; } catch (FileNotFoundException e0) { }
only_some : fault [] (Try throw_p0 (catch no_file []) ∷ []) ≡ Some (record { place = 1; kind = kinds.Thrown })
only_some = refl

-- try { throw p0; } finally { return; }
hidden : fault [] (Finally throw_p0 (stms_of (Return None ∷ [])) ∷ []) ≡ None
hidden = refl

-- try { throw p0; } catch (Exception e0) { throw e0; }, of a method that declares IOException: what e0 holds is one
thrown_again : fault (io_exception ∷ []) (Try throw_p0 (catch exception (Throw (Variable e0) ∷ [])) ∷ []) ≡ None
thrown_again = refl

-- try { throw p0; } catch (Exception e0) { e0 = p0; throw e0; }, likewise: it is assigned, so it counts by its type
assigned : fault (io_exception ∷ []) (Try throw_p0 (catch exception (Set e0 (Variable p0) ∷ Throw (Variable e0) ∷ [])) ∷ []) ≡ Some (record { place = 5; kind = kinds.Thrown })
assigned = refl

-- C.m();
called : fault [] (Run (StaticCall (codes "C") (codes "m") NoExps) ∷ []) ≡ Some (record { place = 1; kind = kinds.Thrown })
called = refl
