-- Reading a StackMapTable: one frame behind the others.
use Rattle.std.proofs.Common.{◌≡◌, ℕ, ◌+◌, ◌-◌, ◌<◌, ◌≤◌, ◌==◌, List, [], ◌∷◌, ◌++◌, length, take, Ok, Err, Option, Some, None, false, nat_eq, refl, sym, ap, subst, ◌∙◌, arith, inl, inr, length-append}
use Rattle.std.specs.Prelude.{MatchOption}
use Rattle.std.specs.List.{AllZip}
use Rattle.std.proofs.lemmas.List.{take-map, length-map, append-nil, length-take}
use Rattle.std.proofs.lemmas.Slice.Zip.{all_zipped_more}
use Rattle.std.proofs.lemmas.Bool.{false≢true}
use Rattle.dj_layout.specs.declared.fault.Fault.{Fault}
use Rattle.dj_layout.specs.declared.fault.Stop.{Stop}
use Rattle.dj_layout.specs.declared.fault.Stop.TheVariants as stop
use Rattle.dj_layout.specs.Layout.{Layout, Spells, SpellsSome, Stops, fault_of}
use Rattle.dj_layout.specs.Passes.{asked, sequence, HaltsOrIsnt}
use Rattle.dj_layout.proofs.PartsAreTotal.{together}
use Rattle.dj_pool.specs.declared.entry.Entry.{Entry}
use Rattle.dj_instructions.specs.declared.kinds.BadKind.{BadKind}
use Rattle.dj_instructions.specs.declared.kinds.BadKind.TheVariants as kind
use Rattle.dj_instructions.specs.Instructions.{Instructions}
use Rattle.dj_frames.specs.declared.tag.Tag as declared
use Rattle.dj_stack_map.specs.declared.form.Change.{Change}
use Rattle.dj_stack_map.specs.declared.form.Change.TheVariants as change
use Rattle.dj_frames.specs.declared.frame.Frame as code_frame
use Rattle.dj_stack_map.specs.declared.written.Written.{Written}
use Rattle.dj_stack_map.specs.declared.follow.Listed.{Listed}
use Rattle.dj_frames.specs.Frames.{Tag, Frame, view_tag, view_tags, view_frames, frame_of}
use Rattle.dj_stack_map.specs.StackMap.{RawFrame, Item, IsTagOf, IsItemOf, form_of, u2, tag, frame_with, changed, count_changed, count_behind, least_behind, last_offset, frames_from, Follows, told_at, frame_behind, spell_frame, table, ReadsFrames, broken, second}
use Rattle.dj_stack_map.specs.Reading.{view_written, CanFollow, IsBehind, locals_behind, IsListedTo, ReadsTable}
use Rattle.dj_stack_map.proofs.Turns.{same_length}

-- ---- the locals of a frame

-- fewer values, as plain data
pub chopped_tags : {A : Type 0} (locals now : List declared.Tag) (n : ℕ) (found : Option A) → MatchOption found (length locals < n) (λ _. now ≡ take (length locals - n) locals)
    → MatchOption found (n ≤ length locals → ⊥) (λ _. view_tags now ≡ take (length (view_tags locals) - n) (view_tags locals))
chopped_tags locals now n None fewer = λ le. omega arith
chopped_tags locals now n (Some done) is = ap view_tags is ∙ sym (take-map view_tag (length locals - n) locals) ∙ ap (λ (k : ℕ). take (k - n) (view_tags locals)) (sym (length-map locals view_tag))

length_changed : (how : Change) (before written : List Tag) → length (changed how before written) ≡ count_changed how (length before) (length written)
length_changed change.Keeps before written = refl
length_changed (change.Chops n) before written = let part = length-take (length before - n) before in omega arith
length_changed change.Appends before written = length-append before written
length_changed change.Replaces before written = refl

zip_length : {A B : Type 0} (R : A → B → Type 0) (xs : List A) (ys : List B) → AllZip R xs ys → length ys ≡ length xs
zip_length R [] [] all = refl
zip_length R [] (y ∷ ys) all = absurd all
zip_length R (x ∷ xs) [] all = absurd all
zip_length R (x ∷ xs) (y ∷ ys) all = let more = zip_length R xs ys all.1 in omega arith

module _ (pool : List Entry) (instructions : Instructions) where
  -- the number of values, by the frames as they are written
  count_is : (values : List Tag) (raws : List RawFrame) (items : List Item) → AllZip (IsItemOf pool instructions) raws items → length (locals_behind values items) ≡ count_behind (length values) raws
  count_is values [] [] meant = refl
  count_is values [] (item ∷ items) meant = absurd meant
  count_is values (raw ∷ raws) [] meant = absurd meant
  count_is values (raw ∷ raws) (item ∷ items) meant =
      let one = meant.0 in
      let long : length (changed (form_of item.kind).change values item.locals) ≡ count_changed (form_of raw.kind).change (length values) (length raw.locals) =
      rw (one.kind, ← zip_length (IsTagOf pool instructions) raw.locals item.locals one.locals) (length_changed (form_of raw.kind).change values item.locals) in
      count_is (changed (form_of item.kind).change values item.locals) raws items meant.1 ∙ ap (λ (n : ℕ). count_behind n raws) long

  -- a frame behind others
  frames_more : (least : ℕ) (values : List Tag) (raws : List RawFrame) (items : List Item) (item : Item) → AllZip (IsItemOf pool instructions) raws items
      → frames_from least values (items ++ item ∷ []) ≡ frames_from least values items ++ (least_behind least raws + item.delta, frame_of (changed (form_of item.kind).change (locals_behind values items) item.locals) item.stack) ∷ []
  frames_more least values [] [] item meant = refl
  frames_more least values [] (first ∷ items) item meant = absurd meant
  frames_more least values (raw ∷ raws) [] item meant = absurd meant
  frames_more least values (raw ∷ raws) (first ∷ items) item meant =
      let now = changed (form_of first.kind).change values first.locals in
      let later = frames_more (least + first.delta + 1) now raws items item meant.1 in
      let from : least_behind (least + first.delta + 1) raws ≡ least_behind (least + raw.delta + 1) raws = ap (λ (d : ℕ). least_behind (least + d + 1) raws) meant.0.delta in
      ap (λ (t : List (ℕ × Frame)). (least + first.delta, frame_of now first.stack) ∷ t) (later ∙ ap (λ (n : ℕ). frames_from (least + first.delta + 1) now items ++ (n + item.delta, frame_of (changed (form_of item.kind).change (locals_behind now items) item.locals) item.stack) ∷ []) from)

locals_more : (values : List Tag) (items : List Item) (item : Item) → locals_behind values (items ++ item ∷ []) ≡ changed (form_of item.kind).change (locals_behind values items) item.locals
locals_more values [] item = refl
locals_more values (first ∷ items) item = locals_more (changed (form_of first.kind).change values first.locals) items item

pub least_more : (least : ℕ) (raws : List RawFrame) (raw : RawFrame) → least_behind least (raws ++ raw ∷ []) ≡ least_behind least raws + raw.delta + 1
least_more least [] raw = refl
least_more least (first ∷ raws) raw = least_more (least + first.delta + 1) raws raw

-- a frame at its offset
abbrev placed : ℕ → List Tag → List Tag → ℕ × Frame
placed at values stack = (at, frame_of values stack)

placed_alike : (a b : ℕ) (x y stack : List Tag) → a ≡ b → x ≡ y → placed a x stack ≡ placed b y stack
placed_alike a b x y stack p q = rw (p, q) refl

module _ (pool : List Entry) (instructions : Instructions) (values : List Tag) (before : List RawFrame) (listed : Listed) (h : IsListedTo pool instructions values before listed) where
  count_listed : length listed.locals ≡ count_behind (length values) before
  count_listed = sym (length-map listed.locals view_tag) ∙ ap length h.locals ∙ count_is pool instructions values before h.items h.meant

  follows : (raw : RawFrame) (written : Written) → IsItemOf pool instructions raw (view_written written) → CanFollow instructions listed written → Follows instructions (length values) before raw
  follows raw written item can =
      let at : listed.least + written.delta ≡ least_behind 0 before + raw.delta = rw (h.least, item.delta) refl in
      let of : (form_of written.kind).change ≡ (form_of raw.kind).change = ap (λ (k : ℕ). (form_of k).change) item.kind in
      record { starts = rw at at can.starts; enough = rw (of, count_listed) at can.enough }

  can_follow : (raw : RawFrame) (written : Written) → IsItemOf pool instructions raw (view_written written) → Follows instructions (length values) before raw → CanFollow instructions listed written
  can_follow raw written item does =
      let at : least_behind 0 before + raw.delta ≡ listed.least + written.delta = rw (h.least, item.delta) refl in
      let of : (form_of raw.kind).change ≡ (form_of written.kind).change = ap (λ (k : ℕ). (form_of k).change) (sym item.kind) in
      record { starts = rw at at does.starts; enough = rw (of, ← count_listed) at does.enough }

  listed_more : (raw : RawFrame) (written : Written) (now : Listed) → IsItemOf pool instructions raw (view_written written) → IsBehind listed written now → IsListedTo pool instructions values (before ++ raw ∷ []) now
  listed_more raw written now item behind =
      let its_locals : view_tags now.locals ≡ changed (form_of written.kind).change (locals_behind values h.items) (view_tags written.locals) = behind.locals ∙ ap (λ (t : List Tag). changed (form_of written.kind).change t (view_tags written.locals)) h.locals in
      let its_frame = placed_alike (listed.least + written.delta) (least_behind 0 before + written.delta) (view_tags now.locals) (changed (form_of written.kind).change (locals_behind values h.items) (view_tags written.locals)) (view_tags written.stack) (ap (λ (n : ℕ). n + written.delta) h.least) its_locals in
      record {
        items = h.items ++ view_written written ∷ [];
        meant = all_zipped_more (IsItemOf pool instructions) before h.items raw (view_written written) h.meant item;
        frames = behind.frames ∙ ap (λ (t : List (ℕ × Frame)). t ++ placed (listed.least + written.delta) (view_tags now.locals) (view_tags written.stack) ∷ []) h.frames
            ∙ ap (λ (t : ℕ × Frame). frames_from 0 values h.items ++ t ∷ []) its_frame ∙ sym (frames_more pool instructions 0 values before h.items (view_written written) h.meant);
        locals = its_locals ∙ sym (locals_more values h.items (view_written written));
        least = behind.least ∙ rw (h.least, item.delta) (sym (least_more 0 before raw));
        low = behind.low;
      }

  -- a frame that can follow
  pub next_read : (written : Written) (now : Listed) (bytes rest : List ℕ) → SpellsSome (frame_with (tag pool instructions)) (IsItemOf pool instructions) bytes (view_written written) rest → CanFollow instructions listed written → IsBehind listed written now
      → SpellsSome (asked (frame_with (tag pool instructions)) (Follows instructions (length values) before) kind.Frame) (λ raw listed_now. IsListedTo pool instructions values (before ++ raw ∷ []) listed_now) bytes now rest
  next_read written now bytes rest read can behind = record {
    value = read.value;
    spells = record { fits = (read.spells.fits, follows read.value written read.means can); text = read.spells.text };
    means = listed_more read.value written now read.means behind;
  }

  -- a frame that can't
  pub next_halts : (written : Written) (end : ℕ) (bytes rest : List ℕ) (fault : Fault BadKind) → SpellsSome (frame_with (tag pool instructions)) (IsItemOf pool instructions) bytes (view_written written) rest → (CanFollow instructions listed written → ⊥)
      → fault ≡ fault_of end bytes kind.Frame → HaltsOrIsnt (frame_with (tag pool instructions)) (Follows instructions (length values) before) kind.Frame end bytes fault
  next_halts written end bytes rest fault read cannot at = inr (read.value, rest, read.spells, (λ does. cannot (can_follow read.value written read.means does)), at)

  -- a fault is told at the last frame
  pub told_behind : (end : ℕ) (bytes : List ℕ) (inner : Fault BadKind) (why : Stop BadKind) → (asked (frame_with (tag pool instructions)) (Follows instructions (length values) before) kind.Frame).Halts end bytes inner
      → why ≡ stop.Fault (record { kind = kind.Frame; offset = listed.least - 1 }) → Stops (frame_behind pool instructions (length values) before).Halts end bytes why
  told_behind end bytes inner why halts is =
      let at : stop.Fault (record { kind = kind.Frame; offset = listed.least - 1 }) ≡ stop.Fault (record { kind = kind.Frame; offset = last_offset before }) = rw h.least refl in
      subst (λ (w : Stop BadKind). Stops (frame_behind pool instructions (length values) before).Halts end bytes w) (sym (is ∙ at)) (inner, halts, refl)

-- the same part, its faults told elsewhere
pub read_told : {A B : Type 0} (part : Layout BadKind A) (Means : A → B → Type 0) (offset : ℕ) (bytes : List ℕ) (found : B) (rest : List ℕ) → SpellsSome part Means bytes found rest → SpellsSome (told_at part offset) Means bytes found rest
read_told part Means offset bytes found rest read = record { value = read.value; spells = record { fits = read.spells.fits; text = read.spells.text }; means = read.means }

-- frames behind their number
pub table_read : (pool : List Entry) (instructions : Instructions) (values : List Tag) (n : ℕ) (bytes r s : List ℕ) (listed : Listed) → Spells (told_at u2 0) bytes n r
    → SpellsSome (sequence spell_frame (λ xs. length xs == n) (frame_behind pool instructions (length values))) (IsListedTo pool instructions values) r listed s → SpellsSome (table pool instructions (length values)) (IsListedTo pool instructions values) bytes listed s
table_read pool instructions values n bytes r s listed count frames =
    let e = same_length (length frames.value) n frames.spells.fits.1 in
    record {
      value = frames.value;
      spells = together length (told_at u2 0) (λ (k : ℕ). sequence spell_frame (λ (xs : List RawFrame). length xs == k) (frame_behind pool instructions (length values))) n frames.value bytes r s e count frames.spells;
      means = frames.means;
    }

-- bytes are left
pub left_over : (pool : List Entry) (instructions : Instructions) (values : List Tag) (bytes rest : List ℕ) (listed : Listed) (why : Stop BadKind) → SpellsSome (table pool instructions (length values)) (IsListedTo pool instructions values) bytes listed rest
    → false ≡ nat_eq (length rest) 0 → why ≡ stop.Fault (record { kind = kind.Frame; offset = listed.least - 1 }) → ReadsTable pool instructions values bytes (Err why)
left_over pool instructions values bytes rest listed why read some is =
    rw is (refl, inr (read.value, rest, read.spells, (λ e. false≢true (some ∙ ap (λ (t : List ℕ). nat_eq (length t) 0) e)), ap (λ (n : ℕ). n - 1) read.means.least))

-- all bytes are read
pub all_read : (pool : List Entry) (instructions : Instructions) (values : List Tag) (bytes rest : List ℕ) (listed : Listed) → SpellsSome (table pool instructions (length values)) (IsListedTo pool instructions values) bytes listed rest
    → rest ≡ [] → ReadsTable pool instructions values bytes (Ok listed)
all_read pool instructions values bytes rest listed read none =
    (read.value, record { fits = read.spells.fits; text = read.spells.text ∙ ap (λ (t : List ℕ). (table pool instructions (length values)).spell read.value ++ t) none ∙ append-nil ((table pool instructions (length values)).spell read.value) }, read.means)

-- each fault of a table is one of frames
fault_kind : (pool : List Entry) (instructions : Instructions) (entry end : ℕ) (bytes : List ℕ) (fault : Fault BadKind) → (table pool instructions entry).Halts end bytes fault → fault ≡ record { kind = kind.Frame; offset = fault.offset }
fault_kind pool instructions entry end bytes fault (inl (inner, halts, is)) = is ∙ ap (λ (n : ℕ). record { kind = kind.Frame; offset = n }) (sym (ap (λ (f : Fault BadKind). f.offset) is))
fault_kind pool instructions entry end bytes fault (inr (n, rest, count, (items, after, are, few, text, (inner, halts, is)))) = is ∙ ap (λ (n : ℕ). record { kind = kind.Frame; offset = n }) (sym (ap (λ (f : Fault BadKind). f.offset) is))

-- the table stops
pub table_stops : (pool : List Entry) (instructions : Instructions) (values : List Tag) (bytes : List ℕ) (why : Stop BadKind) → Stops (table pool instructions (length values)).Halts (length bytes) bytes why → ReadsTable pool instructions values bytes (Err why)
table_stops pool instructions values bytes stop.Memory halts = tt
table_stops pool instructions values bytes (stop.Fault fault) halts = let is = fault_kind pool instructions (length values) (length bytes) bytes fault halts in (ap (λ (f : Fault BadKind). f.kind) is, inl (subst (λ (f : Fault BadKind). (table pool instructions (length values)).Halts (length bytes) bytes f) is halts))

-- ---- the tables of a method

-- no frame is listed yet
pub none_listed : (pool : List Entry) (instructions : Instructions) (entry : List declared.Tag) (frames : List (ℕ × code_frame.Frame)) → frames ≡ [] → IsListedTo pool instructions (view_tags entry) [] (record { frames = frames; locals = entry; least = 0; near = 0 })
none_listed pool instructions entry frames none = record { items = []; meant = tt; frames = ap view_frames none; locals = refl; least = refl; low = omega arith }

-- the frames of the one table
pub one_listed : (pool : List Entry) (instructions : Instructions) (values : List Tag) (content : List ℕ) (contents others : List (List ℕ)) (listed : Listed) → contents ≡ content ∷ others → others ≡ []
    → ReadsTable pool instructions values content (Ok listed) → ReadsFrames pool instructions values contents (Ok listed.frames)
one_listed pool instructions values content contents others listed is none (raws, whole, h) =
    rw (is, none) (record { raws = raws; laid_out = whole; items = h.items; meant = h.meant; frames_are = h.frames })

some_more : (others : List (List ℕ)) → (others ≡ [] → ⊥) → (other : List ℕ) × (rest : List (List ℕ)) × (others ≡ other ∷ rest)
some_more [] some = absurd (some refl)
some_more (other ∷ rest) some = (other, rest, refl)

-- there is a second table
pub two_tables : (pool : List Entry) (instructions : Instructions) (values : List Tag) (content : List ℕ) (contents others : List (List ℕ)) (listed : Listed) (why : Stop BadKind) → contents ≡ content ∷ others → (others ≡ [] → ⊥)
    → ReadsTable pool instructions values content (Ok listed) → why ≡ stop.Fault (record { kind = kind.Frame; offset = listed.least - 1 }) → ReadsFrames pool instructions values contents (Err why)
two_tables pool instructions values content contents others listed why is some (raws, whole, h) at =
    let more = some_more others some in rw (at, is, more.2) (refl, second raws whole (ap (λ (n : ℕ). n - 1) h.least))

-- the first table breaks
pub first_breaks : (pool : List Entry) (instructions : Instructions) (values : List Tag) (content : List ℕ) (contents others : List (List ℕ)) (why : Stop BadKind) → contents ≡ content ∷ others
    → ReadsTable pool instructions values content (Err why) → ReadsFrames pool instructions values contents (Err why)
first_breaks pool instructions values content contents others stop.Memory is reads = tt
first_breaks pool instructions values content contents others (stop.Fault fault) is reads = rw is (reads.0, broken reads.1)
