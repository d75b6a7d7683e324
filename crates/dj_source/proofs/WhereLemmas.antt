-- What is said where a run ends.
use Rattle.std.proofs.Common.{◌≡◌, subst}
use Rattle.std.specs.Prelude.{Result, Ok, Err}
use Rattle.dj_outside.specs.declared.stop.Stop as code_stop
use Rattle.dj_outside.specs.declared.stop.Stop.TheVariants as stops
use Rattle.dj_source.specs.Running.{WhereItStops, WhereItEnds}

-- what holds anyway
pub stops_same : (stop : code_stop.Stop) (fact : Type 0) → fact → WhereItStops stop fact
stops_same (stops.Throws reference) fact is = is
stops_same stops.More fact is = tt
stops_same stops.Stuck fact is = tt
stops_same (stops.Memory error) fact is = tt

pub where_same : {A : Type 0} (result : Result A code_stop.Stop) (fact : Type 0) → fact → WhereItEnds result fact
where_same (Ok value) fact is = is
where_same (Err stop) fact is = stops_same stop fact is

-- what comes of it
pub where_stops : (stop : code_stop.Stop) (first second : Type 0) → (first → second) → WhereItStops stop first → WhereItStops stop second
where_stops (stops.Throws reference) first second next is = next is
where_stops stops.More first second next is = is
where_stops stops.Stuck first second next is = is
where_stops (stops.Memory error) first second next is = is

pub where_then : {A : Type 0} (result : Result A code_stop.Stop) (first second : Type 0) → (first → second) → WhereItEnds result first → WhereItEnds result second
where_then (Ok value) first second next is = next is
where_then (Err stop) first second next is = where_stops stop first second next is

-- told of what a run came to
pub back_there : {A : Type 0} (result known : Result A code_stop.Stop) (fact : Type 0) → result ≡ known → WhereItEnds result fact → WhereItEnds known fact
back_there result known fact is so = subst (λ one. WhereItEnds one fact) is so
