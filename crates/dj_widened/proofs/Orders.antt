-- Orders of search from a class that a world has whole are the same where other classes run beside its own: no search is cut.
use Rattle.std.proofs.Common.{◌≡◌, ℕ, zero, suc, ◌+◌, ◌<◌, ◌≤◌, Bool, true, false, if◌then◌else◌, length, List, [], ◌∷◌, ◌++◌, flat_map, Option, Some, None, option_to_list, is_some, refl, sym, ap, subst, ◌∙◌, inl, inr, arith}
use Rattle.std.proofs.lemmas.Bool.{false≢true}
use Rattle.dj_names.specs.declared.header.Header.{Header}
use Rattle.dj_names.specs.Headers.{Name, HasParent, IsPath, Implements}
use Rattle.dj_names.specs.MethodNames.{is_constructor}
use Rattle.dj_kinds.specs.Search.{header_of, superclass_in, interfaces_in, interfaces_of, upward, depth_first, beside, enough, classes_then_interfaces, method_order}
use Rattle.dj_values.specs.Deciding.{superclass_of, implements}
use Rattle.dj_values.proofs.Deciding.{Decides-implements}
use Rattle.dj_meaning.specs.Visible.{parents}
use Rattle.dj_meaning.specs.Members.{Members}
use Rattle.dj_meaning.specs.Fields.{own_field, field_owners}
use Rattle.dj_widened.specs.Widens.{HasNoCircle, Widens}
use Rattle.dj_widened.proofs.Paths.{In, in_front, in_back, in_either, HasHeader, found_header, header_parent, above_itself, above_again, above_parent, IsWhole, whole_above, parent_up, header_same}

-- ---- how many headers stand above a class

-- how many pass a test
abbrev counted : {A : Type 0} → (A → Bool) → List A → ℕ
counted test [] = zero
counted test (x ∷ xs) = if test x then suc (counted test xs) else counted test xs

counted_most : {A : Type 0} (test : A → Bool) (xs : List A) → counted test xs ≤ length xs
counted_most test [] = omega arith
counted_most test (x ∷ xs) = go (test x) (counted_most test xs)
  where
    go : (b : Bool) → counted test xs ≤ length xs → (if b then suc (counted test xs) else counted test xs) ≤ suc (length xs)
    go true most = omega (arith, most)
    go false most = omega (arith, most)

fewer_by : (a b : Bool) (m n : ℕ) → (a ≡ true → b ≡ true) → m ≤ n → (if a then suc m else m) ≤ (if b then suc n else n)
fewer_by true true m n more fewer = omega (arith, fewer)
fewer_by true false m n more fewer = absurd (false≢true (more refl))
fewer_by false true m n more fewer = omega (arith, fewer)
fewer_by false false m n more fewer = fewer

counted_fewer : {A : Type 0} (first second : A → Bool) (xs : List A) → ((x : A) → first x ≡ true → second x ≡ true) → counted first xs ≤ counted second xs
counted_fewer first second [] more = omega arith
counted_fewer first second (x ∷ xs) more = fewer_by (first x) (second x) (counted first xs) (counted second xs) (more x) (counted_fewer first second xs more)

one_fewer_by : (a b : Bool) (m n : ℕ) → a ≡ false → b ≡ true → m ≤ n → (if a then suc m else m) < (if b then suc n else n)
one_fewer_by true b m n fails passes fewer = absurd (false≢true (sym fails))
one_fewer_by false true m n fails passes fewer = omega (arith, fewer)
one_fewer_by false false m n fails passes fewer = absurd (false≢true passes)

still_fewer_by : (a b : Bool) (m n : ℕ) → (a ≡ true → b ≡ true) → m < n → (if a then suc m else m) < (if b then suc n else n)
still_fewer_by true true m n more fewer = omega (arith, fewer)
still_fewer_by true false m n more fewer = absurd (false≢true (more refl))
still_fewer_by false true m n more fewer = omega (arith, fewer)
still_fewer_by false false m n more fewer = fewer

one_fewer : {A : Type 0} (first second : A → Bool) (xs : List A) (x : A) → ((y : A) → first y ≡ true → second y ≡ true) → In x xs → first x ≡ false → second x ≡ true → counted first xs < counted second xs
one_fewer first second [] x more none fails passes = absurd none
one_fewer first second (y ∷ ys) x more (inl is) fails passes =
    one_fewer_by (first y) (second y) (counted first ys) (counted second ys) (subst (λ z. first z ≡ false) is fails) (subst (λ z. second z ≡ true) is passes) (counted_fewer first second ys more)
one_fewer first second (y ∷ ys) x more (inr later) fails passes =
    still_fewer_by (first y) (second y) (counted first ys) (counted second ys) (more y) (one_fewer first second ys x more later fails passes)

-- how many headers a class leads up to
abbrev height : List Header → Name → ℕ
height headers class = counted (λ (header : Header). implements headers class header.name) headers

module _ (headers : List Header) (no_circle : HasNoCircle headers) where
  no_way_back : (lower upper : Name) → HasParent headers lower upper → (b : Bool) → implements headers upper lower ≡ b → b ≡ false
  no_way_back lower upper step true is = absurd (let back = (Decides-implements headers upper lower).0 is in no_circle lower upper back.path step back.is_path)
  no_way_back lower upper step false is = refl

  -- what stands above a class leads up to fewer
  pub lower_height : (lower upper : Name) → HasHeader headers lower → HasParent headers lower upper → height headers upper < height headers lower
  lower_height lower upper (header, there, named) step =
      one_fewer (λ (other : Header). implements headers upper other.name) (λ (other : Header). implements headers lower other.name) headers header
      (λ other is. (Decides-implements headers lower other.name).1 (above_again (above_parent step) ((Decides-implements headers upper other.name).0 is)))
      there
      (subst (λ name. implements headers upper name ≡ false) (sym named) (no_way_back lower upper step (implements headers upper lower) refl))
      (subst (λ name. implements headers lower name ≡ true) (sym named) ((Decides-implements headers lower lower).1 (above_itself headers lower)))

-- ---- lists made of lists

pub flat_map_same : {A B : Type 0} (f g : A → List B) (xs : List A) → ((x : A) → In x xs → f x ≡ g x) → flat_map f xs ≡ flat_map g xs
flat_map_same f g [] same = refl
flat_map_same f g (x ∷ xs) same = ap (λ ys. ys ++ flat_map f xs) (same x (inl refl)) ∙ ap (λ ys. g x ++ ys) (flat_map_same f g xs (λ y there. same y (inr there)))

in_joined : {B : Type 0} (P : B → Type 0) (xs ys : List B) → ((y : B) → In y xs → P y) → ((y : B) → In y ys → P y) → (y : B) → In y (xs ++ ys) → P y
in_joined P xs ys first second y there = elim (in_either xs ys y there) [ inl here ↦ first y here | inr later ↦ second y later ]

in_flat_map : {A B : Type 0} (P : B → Type 0) (f : A → List B) (xs : List A) → ((x : A) → In x xs → (y : B) → In y (f x) → P y) → (y : B) → In y (flat_map f xs) → P y
in_flat_map P f [] each y none = absurd none
in_flat_map P f (x ∷ xs) each y there = in_joined P (f x) (flat_map f xs) (each x (inl refl)) (in_flat_map P f xs (λ z within. each z (inr within))) y there

-- ---- what a search comes to stands above where it begins

module _ (headers : List Header) where
  pub superclass_step : (class upper : Name) → HasHeader headers class → superclass_in (header_of headers class) ≡ Some upper → HasParent headers class upper
  superclass_step class upper has is =
      let found = found_header headers class has in
      let super : found.0.superclass ≡ Some upper = subst (λ header. superclass_in header ≡ Some upper) found.1 is in
      header_parent headers class upper found.0 found.2 found.3 (in_front (superclass_of found.0) found.0.interfaces upper (subst (λ name. In upper (option_to_list name)) (sym super) (inl refl)))

  pub interface_step : (class upper : Name) → HasHeader headers class → In upper (interfaces_of headers class) → HasParent headers class upper
  interface_step class upper has there =
      let found = found_header headers class has in
      header_parent headers class upper found.0 found.2 found.3 (in_back (superclass_of found.0) found.0.interfaces upper (subst (λ header. In upper (interfaces_in header)) found.1 there))

  line_above : (left : ℕ) (class upper : Name) (super : Option Name) → ((next : Name) → super ≡ Some next → HasParent headers class next)
      → ((next : Name) → HasParent headers class next → In upper (upward left headers (Some next)) → Implements headers next upper) → In upper (upward left headers super) → Implements headers class upper
  line_above zero class upper super step further none = absurd none
  line_above (suc left) class upper None step further none = absurd none
  line_above (suc left) class upper (Some next) step further there = above_again (above_parent (step next refl)) (further next (step next refl) there)

  -- a class that a whole one comes to, and is so reached
  pub upward_above : (most : ℕ) (class : Name) → IsWhole headers class → (upper : Name) → In upper (upward most headers (Some class)) → Implements headers class upper
  upward_above zero class whole upper none = absurd none
  upward_above (suc most) class whole upper (inl is) = subst (Implements headers class) (sym is) (above_itself headers class)
  upward_above (suc most) class whole upper (inr later) =
      line_above most class upper (superclass_in (header_of headers class)) (λ next. superclass_step class next (whole class (above_itself headers class)))
      (λ next step. upward_above most next (whole_above whole (above_parent step)) upper) later

  depth_above : (most : ℕ) (class : Name) → IsWhole headers class → (upper : Name) → In upper (depth_first most headers class) → Implements headers class upper
  depth_above zero class whole upper none = absurd none
  depth_above (suc most) class whole upper (inl is) = subst (Implements headers class) (sym is) (above_itself headers class)
  depth_above (suc most) class whole upper (inr later) =
      in_flat_map (Implements headers class) (depth_first most headers) (interfaces_of headers class)
      (λ next listed higher there.
      let step = interface_step class next (whole class (above_itself headers class)) listed in
      above_again (above_parent step) (depth_above most next (whole_above whole (above_parent step)) higher there)) upper later

  beside_above : (most : ℕ) (class : Name) → IsWhole headers class → (upper : Name) → In upper (beside most headers class) → Implements headers class upper
  beside_above most class whole =
      in_flat_map (Implements headers class) (depth_first most headers) (interfaces_of headers class)
      (λ next listed higher there.
      let step = interface_step class next (whole class (above_itself headers class)) listed in
      above_again (above_parent step) (depth_above most next (whole_above whole (above_parent step)) higher there))

  classes_above : (class : Name) → IsWhole headers class → (upper : Name) → In upper (classes_then_interfaces headers class) → Implements headers class upper
  classes_above class whole =
      in_joined (Implements headers class) (upward (enough headers) headers (Some class)) (flat_map (beside (enough headers) headers) (upward (enough headers) headers (Some class)))
      (upward_above (enough headers) class whole)
      (in_flat_map (Implements headers class) (beside (enough headers) headers) (upward (enough headers) headers (Some class)) (λ one within higher there.
      let above = upward_above (enough headers) class whole one within in
      above_again above (beside_above (enough headers) one (whole_above whole above) higher there)))

  pub order_above : (name class : Name) → IsWhole headers class → (upper : Name) → In upper (method_order headers name class) → Implements headers class upper
  order_above name class whole upper = go (is_constructor name)
    where
      go : (b : Bool) → In upper (if b then class ∷ [] else classes_then_interfaces headers class) → Implements headers class upper
      go true (inl is) = subst (Implements headers class) (sym is) (above_itself headers class)
      go true (inr none) = absurd none
      go false there = classes_above class whole upper there

-- ---- the same orders

module _ (world headers : List Header) (wide : Widens world headers) where
  pub no_circle_below : HasNoCircle world
  no_circle_below class next path step rest = wide.no_circle class next path (parent_up world headers wide class next step) (up next path class rest)
    where
      up : (lower : Name) (path : List Name) (upper : Name) → IsPath (HasParent world) lower path upper → IsPath (HasParent headers) lower path upper
      up lower [] upper same = same
      up lower (next ∷ path) upper (step, rest) = (parent_up world headers wide lower next step, up next path upper rest)

  pub interfaces_same : (class : Name) → HasHeader world class → interfaces_of headers class ≡ interfaces_of world class
  interfaces_same class has = ap interfaces_in (header_same world headers wide class has)

  pub superclass_same : (class : Name) → HasHeader world class → superclass_in (header_of headers class) ≡ superclass_in (header_of world class)
  superclass_same class has = ap superclass_in (header_same world headers wide class has)

  parents_same : (class : Name) → HasHeader world class → parents headers class ≡ parents world class
  parents_same class has = λ i. option_to_list (superclass_same class has i) ++ interfaces_same class has i

  in_parents : (class upper : Name) → HasHeader world class → In upper (parents world class) → HasParent world class upper
  in_parents class upper has there =
      let found = found_header world class has in
      header_parent world class upper found.0 found.2 found.3 (subst (λ header. In upper (option_to_list (superclass_in header) ++ interfaces_in header)) found.1 there)

  lower_by : (n : ℕ) (lower upper : Name) → HasHeader world lower → HasParent world lower upper → height world lower < suc n → height world upper < n
  lower_by n lower upper has step below = let less = lower_height world no_circle_below lower upper has step in omega (arith, less, below)

  line_by : (n : ℕ) (super : Option Name) → ((k m : ℕ) (next : Name) → super ≡ Some next → n ≤ k → n ≤ m → upward k headers (Some next) ≡ upward m world (Some next))
      → (k m : ℕ) → n ≤ k → n ≤ m → upward k headers super ≡ upward m world super
  line_by n None further zero zero first second = refl
  line_by n None further zero (suc m) first second = refl
  line_by n None further (suc k) zero first second = refl
  line_by n None further (suc k) (suc m) first second = refl
  line_by n (Some next) further k m first second = further k m next refl first second

  upward_by : (n k m : ℕ) (class : Name) → IsWhole world class → height world class < n → n ≤ k → n ≤ m → upward k headers (Some class) ≡ upward m world (Some class)
  upward_by zero k m class whole low first second = absurd (omega (arith, low))
  upward_by (suc n) zero m class whole low first second = absurd (omega (arith, first))
  upward_by (suc n) (suc k) zero class whole low first second = absurd (omega (arith, second))
  upward_by (suc n) (suc k) (suc m) class whole low first second =
      let has = whole class (above_itself world class) in
      ap (λ super. class ∷ upward k headers super) (superclass_same class has)
      ∙ ap (λ rest. class ∷ rest) (line_by n (superclass_in (header_of world class)) (λ k m next is.
      let step = superclass_step world class next has is in
      upward_by n k m next (whole_above whole (above_parent step)) (lower_by n class next has step low)) k m (omega (arith, first)) (omega (arith, second)))

  depth_by : (n k m : ℕ) (class : Name) → IsWhole world class → height world class < n → n ≤ k → n ≤ m → depth_first k headers class ≡ depth_first m world class
  depth_by zero k m class whole low first second = absurd (omega (arith, low))
  depth_by (suc n) zero m class whole low first second = absurd (omega (arith, first))
  depth_by (suc n) (suc k) zero class whole low first second = absurd (omega (arith, second))
  depth_by (suc n) (suc k) (suc m) class whole low first second =
      let has = whole class (above_itself world class) in
      ap (λ listed. class ∷ flat_map (depth_first k headers) listed) (interfaces_same class has)
      ∙ ap (λ rest. class ∷ rest) (flat_map_same (depth_first k headers) (depth_first m world) (interfaces_of world class) (λ next listed.
      let step = interface_step world class next has listed in
      depth_by n k m next (whole_above whole (above_parent step)) (lower_by n class next has step low) (omega (arith, first)) (omega (arith, second))))

  enough_below : (class : Name) → height world class < enough world
  enough_below class = let most = counted_most (λ (header : Header). implements world class header.name) world in omega (arith, most)

  more_above : enough world ≤ enough headers
  more_above = subst (λ all. enough world ≤ length all + 1) (sym wide.first) (longer world wide.others)
    where
      longer : (first second : List Header) → length first + 1 ≤ length (first ++ second) + 1
      longer [] second = omega arith
      longer (x ∷ first) second = let rest = longer first second in omega (arith, rest)

  upward_same : (class : Name) → IsWhole world class → upward (enough headers) headers (Some class) ≡ upward (enough world) world (Some class)
  upward_same class whole = upward_by (enough world) (enough headers) (enough world) class whole (enough_below class) more_above (omega arith)

  depth_same : (class : Name) → IsWhole world class → depth_first (enough headers) headers class ≡ depth_first (enough world) world class
  depth_same class whole = depth_by (enough world) (enough headers) (enough world) class whole (enough_below class) more_above (omega arith)

  beside_same : (class : Name) → IsWhole world class → beside (enough headers) headers class ≡ beside (enough world) world class
  beside_same class whole =
      let has = whole class (above_itself world class) in
      ap (flat_map (depth_first (enough headers) headers)) (interfaces_same class has)
      ∙ flat_map_same (depth_first (enough headers) headers) (depth_first (enough world) world) (interfaces_of world class) (λ next listed.
      depth_same next (whole_above whole (above_parent (interface_step world class next has listed))))

  classes_same : (class : Name) → IsWhole world class → classes_then_interfaces headers class ≡ classes_then_interfaces world class
  classes_same class whole =
      ap (λ line. line ++ flat_map (beside (enough headers) headers) line) (upward_same class whole)
      ∙ ap (λ rest. upward (enough world) world (Some class) ++ rest)
      (flat_map_same (beside (enough headers) headers) (beside (enough world) world) (upward (enough world) world (Some class))
      (λ one there. beside_same one (whole_above whole (upward_above world (enough world) class whole one there))))

  pub order_same : (name class : Name) → IsWhole world class → method_order headers name class ≡ method_order world name class
  order_same name class whole = ap (λ classes. if is_constructor name then class ∷ [] else classes) (classes_same class whole)

  module _ (members : List Members) (name : Name) (same_fields : own_field headers members name ≡ own_field world members name) where
    owners_by : (n k m : ℕ) (class : Name) → IsWhole world class → height world class < n → n ≤ k → n ≤ m → field_owners k headers members name class ≡ field_owners m world members name class
    owners_by zero k m class whole low first second = absurd (omega (arith, low))
    owners_by (suc n) zero m class whole low first second = absurd (omega (arith, first))
    owners_by (suc n) (suc k) zero class whole low first second = absurd (omega (arith, second))
    owners_by (suc n) (suc k) (suc m) class whole low first second =
        let has = whole class (above_itself world class) in
        ap (λ (own : Name → Option _). if is_some (own class) then class ∷ [] else flat_map (field_owners k headers members name) (parents headers class)) same_fields
        ∙ ap (λ above. if is_some (own_field world members name class) then class ∷ [] else above)
        (ap (flat_map (field_owners k headers members name)) (parents_same class has)
        ∙ flat_map_same (field_owners k headers members name) (field_owners m world members name) (parents world class) (λ next there.
        let step = in_parents class next has there in
        owners_by n k m next (whole_above whole (above_parent step)) (lower_by n class next has step low) (omega (arith, first)) (omega (arith, second))))

    pub owners_same : (class : Name) → IsWhole world class → field_owners (enough headers) headers members name class ≡ field_owners (enough world) world members name class
    owners_same class whole = owners_by (enough world) (enough headers) (enough world) class whole (enough_below class) more_above (omega arith)
