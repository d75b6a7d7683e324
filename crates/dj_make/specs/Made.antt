-- The class files that the program makes: for each k below 1,000 the class `g/Ck`, directly below Object, with three
-- methods that take and answer ints. Bytes of code stand with the instructions that they are (JVMS 6.5).
use Rattle.std.specs.Prelude.{ℕ, ◌+◌, ◌*◌, ◌%◌, List, [], ◌∷◌, ◌++◌, codes, flat_map}
use Rattle.std.specs.List.{range_with_len}
use Rattle.std.specs.Fmt.{decimal}
use Rattle.dj_layout.specs.Layout.{Layout}
use Rattle.dj_layout.specs.Parts.{number}
use Rattle.dj_pool.specs.declared.fault.BrokenKind.{BrokenKind}
use Rattle.dj_pool.specs.declared.fault.BrokenKind.TheVariants as kind
use Rattle.dj_pool.specs.declared.entry.Entry.{Entry}
use Rattle.dj_pool.specs.declared.entry.Entry.TheVariants as entry
use Rattle.dj_pool.specs.declared.raw.Attribute.{Attribute}
use Rattle.dj_pool.specs.SharedParts.{attribute, counted, sized, u2}
use Rattle.dj_class.specs.Members.{RawMember}
use Rattle.dj_class.specs.FileFormat.{Raw, file}

-- the texts that attributes, descriptors and methods are named by
abbrev pub other_texts : List Entry
other_texts = entry.Utf8 (codes "Code")
    ∷ entry.Utf8 (codes "StackMapTable")
    ∷ entry.Utf8 (codes "(II)I")
    ∷ entry.Utf8 (codes "m0")
    ∷ entry.Utf8 (codes "m1")
    ∷ entry.Utf8 (codes "m2")
    ∷ []

-- the pool from index 0 on, where no entry is
abbrev pub pool : ℕ → List Entry
pool k = entry.Skip
    ∷ entry.Utf8 (codes "g/C" ++ decimal k)
    ∷ entry.Class 1
    ∷ entry.Utf8 (codes "java/lang/Object")
    ∷ entry.Class 3
    ∷ other_texts

-- bipush (7 * j + k) mod 100, iadd
abbrev pub addition : ℕ → ℕ → List ℕ
addition k j = 16 ∷ ((7 * j + k) % 100) ∷ 96 ∷ []

-- iload_0, an addition for each j from 0 to k mod 50, iload_1, imul, ireturn
abbrev pub adding_code : ℕ → List ℕ
adding_code k = 26 ∷ flat_map (addition k) (range_with_len 0 (k % 50 + 1)) ++ 27 ∷ 104 ∷ 172 ∷ []

-- 0 iload_0, 1 iload_1, 2 if_icmpge 11, 5 iinc 0 by k mod 7 + 1, 8 goto 0, 11 iload_0, 12 ireturn
abbrev pub counting_code : ℕ → List ℕ
counting_code k = 26 ∷ 27 ∷ 162 ∷ 0 ∷ 9 ∷ 132 ∷ 0 ∷ (k % 7 + 1) ∷ 167 ∷ 255 ∷ 248 ∷ 26 ∷ 172 ∷ []

-- 0 iload_0, 1 tableswitch 0 to 2 to 28, 30, 28, default 33, 28 iload_1, 29 ireturn, 30 bipush k mod 100, 32 ireturn,
-- 33 iconst_0, 34 ireturn
abbrev pub choosing_code : ℕ → List ℕ
choosing_code k = 26 ∷ 170 ∷ 0 ∷ 0
    ∷ 0 ∷ 0 ∷ 0 ∷ 32
    ∷ 0 ∷ 0 ∷ 0 ∷ 0
    ∷ 0 ∷ 0 ∷ 0 ∷ 2
    ∷ 0 ∷ 0 ∷ 0 ∷ 27
    ∷ 0 ∷ 0 ∷ 0 ∷ 29
    ∷ 0 ∷ 0 ∷ 0 ∷ 27
    ∷ 27 ∷ 172 ∷ 16 ∷ (k % 100) ∷ 172 ∷ 3 ∷ 172 ∷ []

-- the content of a Code: a stack of 2, 2 locals, the code, no exception table, attributes (JVMS 4.7.3)
abbrev pub code_content : List ℕ → List Attribute → List ℕ
code_content code attributes = u2.spell 2 ++ u2.spell 2 ++ sized.spell code ++ u2.spell 0 ++ (counted attribute).spell attributes

-- a frame of the kind `same`: how far it lies behind the one before (JVMS 4.7.4)
abbrev pub same_frame : Layout BrokenKind ℕ
same_frame = number 1 kind.Short

-- a StackMapTable with such frames
abbrev pub frames : List ℕ → List Attribute
frames same = record { name = 6; content = (counted same_frame).spell same } ∷ []

-- a public static method of two ints and an int, with this name and this content of its Code
abbrev pub method : ℕ → List ℕ → RawMember
method name content = record { flags = 9; name = name; descriptor = 7; attributes = record { name = 5; content = content } ∷ [] }

-- the method that adds, without frames
abbrev pub adding : ℕ → RawMember
adding k = method 8 (code_content (adding_code k) [])

-- the method that counts, with frames at 0 and 11
abbrev pub counting : ℕ → RawMember
counting k = method 9 (code_content (counting_code k) (frames (0 ∷ 10 ∷ [])))

-- the method that chooses, with frames at 28, 30 and 33
abbrev pub choosing : ℕ → RawMember
choosing k = method 10 (code_content (choosing_code k) (frames (28 ∷ 1 ∷ 2 ∷ [])))

-- the class file by its indices
abbrev pub made : ℕ → Raw
made k = record {
  front = record { minor = 0; major = 52; pool = pool k };
  rest = record {
    own = record { flags = 33; this_class = 2; super_class = 4 };
    listed = record { interfaces = []; fields = []; methods = adding k ∷ counting k ∷ choosing k ∷ []; attributes = [] };
  };
}

-- the bytes of the class file
abbrev pub made_bytes : ℕ → List ℕ
made_bytes k = (file 52).spell (made k)
