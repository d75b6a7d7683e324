use Rattle.std.proofs.Common.{◌≡◌, ◌<◌, ◌≤◌, ◌∙◌, ap, sym, map, length, get_or, add-one, arith, Some, []}
use Rattle.std.proofs.lemmas.List.{length-map, get_or-map}
use Rattle.dj_pending.specs.declared.moving.Form.{Form}
use Rattle.dj_pending.specs.Stacks.{stacked}
use Rattle.dj_pending.specs.Forms.{view_form}
use Rattle.dj_pending.proofs.ShuffleLemmas.{form_here, form_next, form_none}
use Rattle.dj_pending.proofs.moving.form_of.Goals as goal

abbrev none : Form
none = record { takes = record { ref_ptr = (0, 0); now = [] }; gives = record { ref_ptr = (0, 0); now = [] } }

pub returns-then-has_words : goal.returns-then-has_words
returns-then-has_words c =
    let stack = stacked c.args.stack.now in
    let forms = map view_form c.args.forms.now in
    let k = c.loop-form.form-index in
    let within : k < length forms = let e = length-map c.args.forms.now view_form in let t = c.loop-form-test.true in omega arith in
    let same : get_or forms k (view_form none) ≡ view_form (get_or c.args.forms.now k none) = get_or-map view_form c.args.forms.now k none (view_form none) c.loop-form-test.true in
    let here = form_here forms stack k (view_form none) within (rw same (sym c.has_words.ensures.words ∙ c.if-has_words.true)) in
    record { first = sym (sym c.loop-form.invariant ∙ here ∙ ap Some same) }

pub loop-form-preserved : goal.loop-form-preserved
loop-form-preserved c =
    let stack = stacked c.args.stack.now in
    let forms = map view_form c.args.forms.now in
    let k = c.loop-form.form-index in
    let within : k < length forms = let e = length-map c.args.forms.now view_form in let t = c.loop-form-test.true in omega arith in
    let same : get_or forms k (view_form none) ≡ view_form (get_or c.args.forms.now k none) = get_or-map view_form c.args.forms.now k none (view_form none) c.loop-form-test.true in
    let next = form_next forms stack k (view_form none) within (rw same (sym c.has_words.ensures.words ∙ c.if-has_words.false)) in
    rw add-one (sym next ∙ c.loop-form.invariant)

pub returns : goal.returns
returns c =
    let stack = stacked c.args.stack.now in
    let forms = map view_form c.args.forms.now in
    let past : length forms ≤ c.loop-form.form-index = let e = length-map c.args.forms.now view_form in let t = c.loop-form-test.false in omega arith in
    record { first = sym (form_none forms stack c.loop-form.form-index past) ∙ c.loop-form.invariant }
