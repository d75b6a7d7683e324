-- Methods and the lines that spell them.
use Rattle.std.proofs.Common.{◌≡◌, ℕ, zero, suc, ◌+◌, ◌<◌, List, [], ◌∷◌, ◌++◌, length, map, take, get_or, All, refl, sym, ap, subst, ◌∙◌, arith}
use Rattle.std.specs.Prelude.{flat_map}
use Rattle.std.specs.List.{AllByRecursion}
use Rattle.std.proofs.lemmas.List.{append_assoc, append-nil, map-append, take_more, length-map, get_or-map}
use Rattle.std.proofs.lemmas.Grind.{flat_map-append}
use Rattle.std.proofs.lemmas.List.Elements.{All-from_recursion, recursion_from_All, All-push}
use Rattle.dj_names.specs.declared.members.MethodHead.{MethodHead}
use Rattle.dj_names.specs.Types.{Descriptor}
use Rattle.dj_names.specs.Headers.{Name}
use Rattle.dj_names.proofs.DescriptorLemmas.{one_spelled}
use Rattle.dj_core.specs.CoreClass.{CoreMethod, view_head}
use Rattle.dj_core.specs.Rows.{Line, IsSound, IsSpelling, HasSpellings, AddsLines, spell_method}

abbrev spell_head : MethodHead → Line
spell_head head = spell_method (view_head head)

-- ---- a line is of one method

rebuilt : ℕ → List ℕ → Descriptor → List Name → CoreMethod
rebuilt flags name descriptor thrown = record { flags = flags; name = name; descriptor = descriptor; thrown = thrown }

one_method : (x y : CoreMethod) → IsSound x → IsSound y → spell_method x ≡ spell_method y → x ≡ y
unfolding rebuilt
one_method x y sound other same =
    let spelled = ap (λ (l : Line). l.descriptor) same in
    let one : x.descriptor ≡ y.descriptor = one_spelled (spell_method y).descriptor x.descriptor y.descriptor (record { descriptor_is = sound; spelled = spelled }) (record { descriptor_is = other; spelled = refl }) in
    ap (λ (n : ℕ). rebuilt n x.name x.descriptor x.thrown) (ap (λ (l : Line). l.flags) same)
    ∙ ap (λ (n : List ℕ). rebuilt y.flags n x.descriptor x.thrown) (ap (λ (l : Line). l.name) same)
    ∙ ap (λ (d : Descriptor). rebuilt y.flags y.name d x.thrown) one
    ∙ ap (λ (t : List Name). rebuilt y.flags y.name y.descriptor t) (ap (λ (l : Line). l.thrown) same)

pub same_methods : (xs ys : List CoreMethod) → AllByRecursion IsSound xs → AllByRecursion IsSound ys → map spell_method xs ≡ map spell_method ys → xs ≡ ys
same_methods [] [] sound other same = refl
same_methods [] (y ∷ ys) sound other same = absurd cc
same_methods (x ∷ xs) [] sound other same = absurd cc
same_methods (x ∷ xs) (y ∷ ys) sound other same =
    let here : spell_method x ≡ spell_method y = cc in
    let rest : map spell_method xs ≡ map spell_method ys = cc in
    let one = one_method x y sound.0 other.0 here in
    let more = same_methods xs ys sound.1 other.1 rest in
    cc

-- ---- lines that are added

pub adds_none : (heads : List MethodHead) → AddsLines heads heads []
adds_none heads = record { spelled = sym (append-nil (map spell_head heads)); sound = λ all. all }

pub adds_one : (old between new : List MethodHead) (lines : List Line) (head : MethodHead) (l : Line) → AddsLines old between lines → spell_head head ≡ l → IsSound (view_head head) → new ≡ between ++ head ∷ [] → AddsLines old new (lines ++ l ∷ [])
adds_one old between new lines head l adds is sound pushed = record {
  spelled = ap (map spell_head) pushed ∙ map-append spell_head between (head ∷ []) ∙ ap (λ (ls : List Line). ls ++ spell_head head ∷ []) adds.spelled
      ∙ append_assoc (map spell_head old) lines (spell_head head ∷ []) ∙ ap (λ (last : Line). map spell_head old ++ (lines ++ last ∷ [])) is;
  sound = λ all. subst (All (λ (h : MethodHead). IsSound (view_head h))) (sym pushed) (All-push (λ (h : MethodHead). IsSound (view_head h)) between head (adds.sound all) sound);
}

pub adds_more : (old between new : List MethodHead) (lines more : List Line) → AddsLines old between lines → AddsLines between new more → AddsLines old new (lines ++ more)
adds_more old between new lines more adds then_adds = record {
  spelled = then_adds.spelled ∙ ap (λ (ls : List Line). ls ++ more) adds.spelled ∙ append_assoc (map spell_head old) lines more;
  sound = λ all. then_adds.sound (adds.sound all);
}

-- ---- loops

module _ {A : Type 0} (xs : List A) (i : ℕ) (d : A) (within : i < length xs) where
  pub adds_item : (f : A → Line) (old between new : List MethodHead) (head : MethodHead) → AddsLines old between (map f (take i xs)) → spell_head head ≡ f (get_or xs i d) → IsSound (view_head head) → new ≡ between ++ head ∷ []
      → AddsLines old new (map f (take (i + 1) xs))
  adds_item f old between new head adds line_is sound pushed =
      subst (AddsLines old new) (sym (ap (map f) (take_more xs i d within) ∙ map-append f (take i xs) (get_or xs i d ∷ [])))
      (adds_one old between new (map f (take i xs)) head (f (get_or xs i d)) adds line_is sound pushed)

  pub adds_items : (f : A → List Line) (old between new : List MethodHead) → AddsLines old between (flat_map f (take i xs)) → AddsLines between new (f (get_or xs i d)) → AddsLines old new (flat_map f (take (i + 1) xs))
  adds_items f old between new adds then_adds =
      subst (AddsLines old new)
      (sym (ap (flat_map f) (take_more xs i d within) ∙ flat_map-append f (take i xs) (get_or xs i d ∷ []) ∙ ap (λ (ls : List Line). flat_map f (take i xs) ++ ls) (append-nil (f (get_or xs i d)))))
      (adds_more old between new (flat_map f (take i xs)) (f (get_or xs i d)) adds then_adds)

-- a method of a group is spelled
pub item_spelled : {A : Type 0} (f : A → Line) (xs : List A) (i : ℕ) (d : A) → i < length xs → HasSpellings (map f xs) → IsSpelling (f (get_or xs i d)).descriptor
item_spelled f xs i d within all = subst (λ (l : Line). IsSpelling l.descriptor) (get_or-map f xs i d (f d) within) (all i (f d) (omega (arith, length-map xs f)))

parts_of : {X : Type 0} (P : X → Type 0) (xs ys : List X) → AllByRecursion P (xs ++ ys) → AllByRecursion P xs × AllByRecursion P ys
parts_of P [] ys all = (tt, all)
parts_of P (x ∷ xs) ys all = let rest = parts_of P xs ys all.1 in ((all.0, rest.0), rest.1)

part_of : {A X : Type 0} (P : X → Type 0) (f : A → List X) (xs : List A) (i : ℕ) (d : A) → i < length xs → AllByRecursion P (flat_map f xs) → AllByRecursion P (f (get_or xs i d))
part_of P f [] i d within all = absurd (omega arith)
part_of P f (x ∷ xs) zero d within all = (parts_of P (f x) (flat_map f xs) all).0
part_of P f (x ∷ xs) (suc i) d within all = part_of P f xs i d (omega arith) (parts_of P (f x) (flat_map f xs) all).1

-- of lines that are all spelled, those of one group are
pub part_spelled : {A : Type 0} (f : A → List Line) (xs : List A) (i : ℕ) (d : A) → i < length xs → HasSpellings (flat_map f xs) → HasSpellings (f (get_or xs i d))
part_spelled f xs i d within all =
    All-from_recursion (λ (l : Line). IsSpelling l.descriptor) (f (get_or xs i d)) (part_of (λ (l : Line). IsSpelling l.descriptor) f xs i d within (recursion_from_All (λ (l : Line). IsSpelling l.descriptor) (flat_map f xs) all))
