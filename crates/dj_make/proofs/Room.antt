-- The counts and lengths of a made file have room in it.
use Rattle.std.proofs.Common.{◌≡◌, ◌∙◌, ◌+◌, ◌*◌, ◌/◌, ◌%◌, ◌<◌, ◌≤◌, ◌^◌, ◌&&◌, ℕ, Bool, true, false, List, [], ◌∷◌, ◌++◌, length, refl, ap, arith, append_assoc, codes, nat_le, flat_map, decimal, if◌then◌else◌}
use Rattle.std.specs.List.{All, range_with_len}
use Rattle.std.proofs.lemmas.List.{length-append}
use Rattle.std.proofs.lemmas.List.Elements.{All-from_recursion}
use Rattle.std.proofs.lemmas.List.FromFn.{length-range_with_len}
use Rattle.std.proofs.lemmas.Fmt.{length-decimal-le}
use Rattle.byteorder.specs.Endian.{big_bytes}
use Rattle.byteorder.specs.Numbers.{length-bytes_high_first}
use Rattle.dj_layout.specs.Parts.{number}
use Rattle.dj_names.specs.Utf8.{encode, spell_units}
use Rattle.dj_pool.specs.declared.entry.Entry.TheVariants as entry
use Rattle.dj_pool.specs.declared.raw.Attribute.{Attribute}
use Rattle.dj_write.specs.Files.{HasRoom, HasRoomForContent, HasRoomForMember, HasRoomForText}
use Rattle.dj_make.specs.Made.{adding, adding_code, addition, choosing, code_content, counting, made, pool}

of_sizes : (b c : Bool) (xs ys zs : List ℕ) → length xs ≤ 3 → length ys ≤ 3 → length zs ≤ 3 → length (if b then xs else (if c then ys else zs)) ≤ 3
of_sizes true c xs ys zs p q r = p
of_sizes false true xs ys zs p q r = q
of_sizes false false xs ys zs p q r = r

-- a unit has three bytes at most
short_unit : (unit : ℕ) → length (encode unit) ≤ 3
short_unit unit = of_sizes (nat_le 1 unit && nat_le unit 127) (nat_le unit 2047) (unit ∷ []) ((192 + unit / 64) ∷ (128 + unit % 64) ∷ [])
    ((224 + unit / 4096) ∷ (128 + unit / 64 % 64) ∷ (128 + unit % 64) ∷ []) (omega arith) (omega arith) (omega arith)

short_units : (units : List ℕ) → length (spell_units units) ≤ 3 * length units
short_units [] = omega arith
short_units (unit ∷ rest) =
    let one = short_unit unit in
    let others = short_units rest in
    let both = length-append (encode unit) (spell_units rest) in
    omega arith

-- an addition has three bytes
length_additions : (k : ℕ) (js : List ℕ) → length (flat_map (addition k) js) ≡ 3 * length js
length_additions k [] = refl
length_additions k (j ∷ js) = let others = length_additions k js in omega arith

pub length_adding : (k : ℕ) → length (adding_code k) ≤ 154
length_adding k =
    let additions = flat_map (addition k) (range_with_len 0 (k % 50 + 1)) in
    let each = length_additions k (range_with_len 0 (k % 50 + 1)) in
    let number = length-range_with_len 0 (k % 50 + 1) in
    let rest = length-append additions (27 ∷ 104 ∷ 172 ∷ []) in
    omega arith

content_parts : (size code : List ℕ) → ((((0 ∷ 2 ∷ []) ++ (0 ∷ 2 ∷ [])) ++ (size ++ code)) ++ (0 ∷ 0 ∷ [])) ++ (0 ∷ 0 ∷ []) ≡ 0 ∷ 2 ∷ 0 ∷ 2 ∷ ((size ++ code) ++ (0 ∷ 0 ∷ 0 ∷ 0 ∷ []))
content_parts size code = ap (λ (rest : List ℕ). 0 ∷ 2 ∷ 0 ∷ 2 ∷ rest) (append_assoc (size ++ code) (0 ∷ 0 ∷ []) (0 ∷ 0 ∷ []))

-- the content of the Code of `m0`, which has no attributes
adding_room : (k : ℕ) → length (code_content (adding_code k) []) < 2 ^ 32
unfolding number
adding_room k =
    let code : List ℕ = adding_code k in
    let short = length_adding k in
    let size : List ℕ = big_bytes 4 (length code) in
    let four = length-bytes_high_first 4 (length code) in
    let behind : List ℕ = 0 ∷ 0 ∷ 0 ∷ 0 ∷ [] in
    let all : code_content code [] ≡ 0 ∷ 2 ∷ 0 ∷ 2 ∷ ((size ++ code) ++ behind) = content_parts size code in
    let one = length-append size code in
    let two = length-append (size ++ code) behind in
    let whole = ap length all in
    omega arith

-- the texts of the pool
name_room : (k : ℕ) → k < 1000 → HasRoomForText (entry.Utf8 (codes "g/C" ++ decimal k))
name_room k few =
    let units = short_units (codes "g/C" ++ decimal k) in
    let digits = length-decimal-le 3 k (omega arith) (omega arith) (omega arith) in
    omega arith

texts_room : (k : ℕ) → k < 1000 → All HasRoomForText (pool k)
texts_room k few = All-from_recursion HasRoomForText (pool k)
    (omega arith, (name_room k few, (omega arith, (omega arith, (omega arith, (omega arith, (omega arith, (omega arith, (omega arith, (omega arith, (omega arith, tt)))))))))))

one_content : (a : Attribute) → HasRoomForContent a → All HasRoomForContent (a ∷ [])
one_content a h = All-from_recursion HasRoomForContent (a ∷ []) (h, tt)

methods_room : (k : ℕ) → All HasRoomForMember (adding k ∷ counting k ∷ choosing k ∷ [])
unfolding number
methods_room k = All-from_recursion HasRoomForMember (adding k ∷ counting k ∷ choosing k ∷ []) (
  record { few = omega arith; contents = one_content _ (adding_room k) },
  (
    record { few = omega arith; contents = one_content _ (omega arith) },
    (record { few = omega arith; contents = one_content _ (omega arith) }, tt),
  ),
)

pub made_has_room : (k : ℕ) → k < 1000 → HasRoom (made k)
made_has_room k few = record {
  pool = omega arith;
  texts = texts_room k few;
  interfaces = omega arith;
  fields = omega arith;
  each_field = All-from_recursion HasRoomForMember [] tt;
  methods = omega arith;
  each_method = methods_room k;
  attributes = omega arith;
  each_attribute = All-from_recursion HasRoomForContent [] tt;
}

-- one text after another
pub six_texts : {A : Type 0} (first second third fourth fifth sixth : A) (old p1 p2 p3 p4 p5 new : List A) → p1 ≡ old ++ first ∷ [] → p2 ≡ p1 ++ second ∷ [] → p3 ≡ p2 ++ third ∷ [] → p4 ≡ p3 ++ fourth ∷ [] → p5 ≡ p4 ++ fifth ∷ []
    → new ≡ p5 ++ sixth ∷ [] → new ≡ old ++ first ∷ second ∷ third ∷ fourth ∷ fifth ∷ sixth ∷ []
six_texts first second third fourth fifth sixth old p1 p2 p3 p4 p5 new e1 e2 e3 e4 e5 e6 =
    let q2 = e2 ∙ ap (λ these. these ++ second ∷ []) e1 ∙ append_assoc old (first ∷ []) (second ∷ []) in
    let q3 = e3 ∙ ap (λ these. these ++ third ∷ []) q2 ∙ append_assoc old (first ∷ second ∷ []) (third ∷ []) in
    let q4 = e4 ∙ ap (λ these. these ++ fourth ∷ []) q3 ∙ append_assoc old (first ∷ second ∷ third ∷ []) (fourth ∷ []) in
    let q5 = e5 ∙ ap (λ these. these ++ fifth ∷ []) q4 ∙ append_assoc old (first ∷ second ∷ third ∷ fourth ∷ []) (fifth ∷ []) in
    e6 ∙ ap (λ these. these ++ sixth ∷ []) q5 ∙ append_assoc old (first ∷ second ∷ third ∷ fourth ∷ fifth ∷ []) (sixth ∷ [])
