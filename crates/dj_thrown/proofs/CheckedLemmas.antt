-- Checked classes, as a test and as a relation.
use Rattle.std.proofs.Common.{Decides, codes, List}
use Rattle.std.proofs.lemmas.Bool.Decides.{Decides-like, Decides-and, Decides-not}
use Rattle.dj_names.specs.declared.header.Header.{Header}
use Rattle.dj_names.specs.Headers.{Name}
use Rattle.dj_values.specs.Fits.{throwable_name}
use Rattle.dj_values.proofs.Deciding.{Decides-subclass}
use Rattle.dj_kinds.specs.Kinds.{IsChecked}
use Rattle.dj_thrown.specs.Catching.{is_checked}

pub Decides-checked : (headers : List Header) (class : Name) → Decides (is_checked headers class) (IsChecked headers class)
Decides-checked headers class =
    Decides-like (is_checked headers class) (λ h. record { thrown = h.0; not_runtime = h.1.0; not_error = h.1.1 }) (λ h. (h.thrown, (h.not_runtime, h.not_error)))
    (Decides-and _ _ (Decides-subclass headers class throwable_name)
    (Decides-and _ _ (Decides-not _ (Decides-subclass headers class (codes "java/lang/RuntimeException"))) (Decides-not _ (Decides-subclass headers class (codes "java/lang/Error")))))
