-- A frame as it is written, from its parts.
use Rattle.std.proofs.Common.{◌≡◌, ℕ, List, [], refl, inl, inr}
use Rattle.std.specs.List.{AllZip}
use Rattle.std.proofs.lemmas.List.Elements.{All-nil}
use Rattle.dj_layout.specs.declared.fault.Stop.{Stop}
use Rattle.dj_layout.specs.Layout.{Layout, Spells, SpellsSome, Stops}
use Rattle.dj_layout.specs.Parts.{times, tested}
use Rattle.dj_layout.proofs.Steps.{stops_in}
use Rattle.dj_pool.specs.declared.entry.Entry.{Entry}
use Rattle.dj_class.proofs.RestParts.{four_texts}
use Rattle.dj_instructions.specs.declared.kinds.BadKind.{BadKind}
use Rattle.dj_instructions.specs.declared.kinds.BadKind.TheVariants as kind
use Rattle.dj_instructions.specs.Instructions.{Instructions}
use Rattle.dj_stack_map.specs.declared.form.Count.{Count}
use Rattle.dj_stack_map.specs.declared.form.Count.TheVariants as count
use Rattle.dj_stack_map.specs.declared.form.Form.{Form}
use Rattle.dj_frames.specs.Frames.{Tag}
use Rattle.dj_stack_map.specs.StackMap.{RawTag, RawFrame, raw_tag, spell_frame, IsTagOf, IsItemOf, u1, is_kind, form_of, delta, many, tag, frame_with}

-- no items
pub none_as : {K A B : Type 0} (item : Layout K A) (Means : A → B → Type 0) (bytes : List ℕ) → SpellsSome (times 0 item) (AllZip Means) bytes [] bytes
none_as item Means bytes = record { value = []; spells = record { fits = (refl, All-nil item.Fits); text = refl }; means = tt }

many_alike : (pool : List Entry) (instructions : Instructions) (n : Count) (xs : List RawTag) → (many n (tag pool instructions)).spell xs ≡ (many n raw_tag).spell xs
many_alike pool instructions (count.Given n) xs = refl
many_alike pool instructions count.Counted xs = refl

-- a frame is spelled alike, whatever is asked of its tags
pub spelled_alike : (pool : List Entry) (instructions : Instructions) (x : RawFrame) → (frame_with (tag pool instructions)).spell x ≡ spell_frame x
spelled_alike pool instructions x = rw (many_alike pool instructions (form_of x.kind).locals x.locals, many_alike pool instructions (form_of x.kind).stack x.stack) refl

-- the locals aren't there
pub locals_stop : (pool : List Entry) (instructions : Instructions) (of_kind by end : ℕ) (form : Form) (bytes r s : List ℕ) (why : Stop BadKind) → form ≡ form_of of_kind → Spells (tested u1 is_kind kind.Frame) bytes of_kind r → Spells (delta form.delta) r by s
    → Stops (many form.locals (tag pool instructions)).Halts end s why → Stops (frame_with (tag pool instructions)).Halts end bytes why
locals_stop pool instructions of_kind by end form bytes r s why is p q halts =
    stops_in (many form.locals (tag pool instructions)).Halts (frame_with (tag pool instructions)).Halts end bytes s why halts (λ f h. inr (of_kind, r, p, inr (by, s, rw is at q, inl (rw is at h))))

-- the stack isn't there
pub stack_stop : (pool : List Entry) (instructions : Instructions) (of_kind by end : ℕ) (form : Form) (bytes r s t : List ℕ) (locals : List Tag) (why : Stop BadKind) → form ≡ form_of of_kind → Spells (tested u1 is_kind kind.Frame) bytes of_kind r → Spells (delta form.delta) r by s
    → SpellsSome (many form.locals (tag pool instructions)) (AllZip (IsTagOf pool instructions)) s locals t → Stops (many form.stack (tag pool instructions)).Halts end t why → Stops (frame_with (tag pool instructions)).Halts end bytes why
stack_stop pool instructions of_kind by end form bytes r s t locals why is p q w halts =
    stops_in (many form.stack (tag pool instructions)).Halts (frame_with (tag pool instructions)).Halts end bytes t why halts (λ f h. inr (of_kind, r, p, inr (by, s, rw is at q, inr (w.value, t, rw is at w.spells, inl (rw is at h)))))

-- all parts are there
pub frame_read : (pool : List Entry) (instructions : Instructions) (of_kind by : ℕ) (form : Form) (bytes r s t u : List ℕ) (locals stack : List Tag) → form ≡ form_of of_kind → Spells (tested u1 is_kind kind.Frame) bytes of_kind r → Spells (delta form.delta) r by s
    → SpellsSome (many form.locals (tag pool instructions)) (AllZip (IsTagOf pool instructions)) s locals t → SpellsSome (many form.stack (tag pool instructions)) (AllZip (IsTagOf pool instructions)) t stack u
    → SpellsSome (frame_with (tag pool instructions)) (IsItemOf pool instructions) bytes (record { kind = of_kind; delta = by; locals = locals; stack = stack }) u
frame_read pool instructions of_kind by form bytes r s t u locals stack is p q w z =
    let q' : Spells (delta (form_of of_kind).delta) r by s = rw is at q in
    let w' : Spells (many (form_of of_kind).locals (tag pool instructions)) s w.value t = rw is at w.spells in
    let z' : Spells (many (form_of of_kind).stack (tag pool instructions)) t z.value u = rw is at z.spells in
    record {
      value = record { kind = of_kind; delta = by; locals = w.value; stack = z.value };
      spells = record {
        fits = (p.fits, (q'.fits, (w'.fits, (z'.fits, refl))));
        text = four_texts bytes r s t u ((tested u1 is_kind kind.Frame).spell of_kind) ((delta (form_of of_kind).delta).spell by) ((many (form_of of_kind).locals (tag pool instructions)).spell w.value) ((many (form_of of_kind).stack (tag pool instructions)).spell z.value) p.text q'.text w'.text z'.text;
      };
      means = record { kind = refl; delta = refl; locals = w.means; stack = z.means };
    }
