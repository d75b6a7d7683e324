use Rattle.std.proofs.Common.{◌≡◌, ◌<◌, ◌≤◌, ◌∙◌, ap, sym, map, length, get_or, add-one, arith, Some, []}
use Rattle.std.proofs.lemmas.List.{length-map, get_or-map}
use Rattle.dj_frames.specs.Frames.{view_tags}
use Rattle.dj_applying.specs.declared.forms.Form.{Form}
use Rattle.dj_effects.specs.Operands.{moved_words}
use Rattle.dj_applying.specs.Done.{view_form}
use Rattle.dj_applying.proofs.Moving.{form_here, form_next, form_none}
use Rattle.dj_applying.proofs.forms.form_of.Goals as goal

abbrev none : Form
none = record { takes = record { ref_ptr = (0, 0); now = [] }; gives = record { ref_ptr = (0, 0); now = [] } }

pub returns-then-begins : goal.returns-then-begins
returns-then-begins c =
    let found = map moved_words (view_tags c.args.stack.now) in
    let forms = map view_form c.args.forms.now in
    let k = c.loop-form.form-index in
    let within : k < length forms = let e = length-map c.args.forms.now view_form in let t = c.loop-form-test.true in omega arith in
    let same : get_or forms k (view_form none) ≡ view_form (get_or c.args.forms.now k none) = get_or-map view_form c.args.forms.now k none (view_form none) c.loop-form-test.true in
    let here = form_here forms found k (view_form none) within (rw same (sym c.begins.ensures.begins ∙ c.if-begins.true)) in
    record { first = sym (sym c.loop-form.invariant ∙ here ∙ ap Some same) }

pub loop-form-preserved : goal.loop-form-preserved
loop-form-preserved c =
    let found = map moved_words (view_tags c.args.stack.now) in
    let forms = map view_form c.args.forms.now in
    let k = c.loop-form.form-index in
    let within : k < length forms = let e = length-map c.args.forms.now view_form in let t = c.loop-form-test.true in omega arith in
    let same : get_or forms k (view_form none) ≡ view_form (get_or c.args.forms.now k none) = get_or-map view_form c.args.forms.now k none (view_form none) c.loop-form-test.true in
    let next = form_next forms found k (view_form none) within (rw same (sym c.begins.ensures.begins ∙ c.if-begins.false)) in
    rw add-one (sym next ∙ c.loop-form.invariant)

pub returns : goal.returns
returns c =
    let found = map moved_words (view_tags c.args.stack.now) in
    let forms = map view_form c.args.forms.now in
    let past : length forms ≤ c.loop-form.form-index = let e = length-map c.args.forms.now view_form in let t = c.loop-form-test.false in omega arith in
    record { first = sym (form_none forms found c.loop-form.form-index past) ∙ c.loop-form.invariant }
