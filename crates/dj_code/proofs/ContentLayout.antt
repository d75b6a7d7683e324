-- Reading the parts of the content of a Code attribute.
use Rattle.std.proofs.Common.{ℕ, List, refl}
use Rattle.dj_layout.specs.Layout.{Spells}
use Rattle.dj_pool.specs.SharedParts.{u2, counted, attribute}
use Rattle.dj_class.proofs.RestParts.{four_texts}
use Rattle.dj_instructions.proofs.PartTexts.{five_parts}
use Rattle.dj_code.specs.declared.content.RawHandler.{RawHandler}
use Rattle.dj_code.specs.declared.content.CodeContent.{CodeContent}
use Rattle.dj_code.specs.CodeContent.{code, handler, content}

-- the parts of an entry of the exception table are there
pub spells_handler : (bytes behind_start behind_end behind_target rest : List ℕ) (h : RawHandler)
    → Spells u2 bytes h.start behind_start → Spells u2 behind_start h.end behind_end → Spells u2 behind_end h.target behind_target → Spells u2 behind_target h.class rest → Spells handler bytes h rest
spells_handler bytes behind_start behind_end behind_target rest h p q r s = record {
  fits = (p.fits, (q.fits, (r.fits, (s.fits, refl))));
  text = four_texts bytes behind_start behind_end behind_target rest (u2.spell h.start) (u2.spell h.end) (u2.spell h.target) (u2.spell h.class) p.text q.text r.text s.text;
}

-- the parts of the content of a Code attribute are there
pub spells_content : (bytes behind_max_stack behind_max_locals behind_code behind_handlers rest : List ℕ) (c : CodeContent)
    → Spells u2 bytes c.max_stack behind_max_stack → Spells u2 behind_max_stack c.max_locals behind_max_locals → Spells code behind_max_locals c.code behind_code
    → Spells (counted handler) behind_code c.handlers behind_handlers → Spells (counted attribute) behind_handlers c.attributes rest → Spells content bytes c rest
spells_content bytes behind_max_stack behind_max_locals behind_code behind_handlers rest c p q r s t = record {
  fits = (p.fits, (q.fits, (r.fits, (s.fits, (t.fits, refl)))));
  text = five_parts (u2.spell c.max_stack) (u2.spell c.max_locals) (code.spell c.code) ((counted handler).spell c.handlers) ((counted attribute).spell c.attributes) bytes behind_max_stack behind_max_locals behind_code behind_handlers rest p.text q.text r.text s.text t.text;
}
