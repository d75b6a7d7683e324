-- The class whose constructors `this(..)` or `super(..)` calls (JLS 8.8.7.1).
use Rattle.std.specs.Prelude.{Bool, if◌then◌else◌, Option, Some}
use Rattle.dj_names.specs.Headers.{Name}
use Rattle.dj_thrown.specs.Settings.{Setting}
use Rattle.dj_thrown.specs.Listed.{superclass}

-- this class, or the one above it
abbrev pub begun_class : Setting → Bool → Option Name
begun_class setting own = if own then Some setting.class else superclass setting
