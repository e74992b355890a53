-- What is taken in, and what a site is given of it.
use Rattle.std.specs.Prelude.{⊤}
use Rattle.pv_history.specs.declared.entry.Taken.{Taken}
use Rattle.pv_history.specs.declared.entry.Taken.TheVariants as taken
use Rattle.pv_site.specs.declared.input.Input.{Input}
use Rattle.pv_site.specs.declared.input.Input.TheVariants.{Submit, Take, Tick}
use Rattle.pv_mail.specs.declared.head.Head.{Head}
use Rattle.pv_mail.specs.declared.head.Head.TheVariants as head

-- Both are of one kind.
abbrev pub AreOneKind : Head → Input → Type 0
AreOneKind (head.Request client number query text) (Submit program plan) = ⊤
AreOneKind (head.Parcel stamp place) (Take from message) = ⊤
AreOneKind head.Tick Tick = ⊤
AreOneKind other given = ⊥

-- what is taken in, of both; of things of two kinds a tick
abbrev pub joined : Head → Input → Taken
joined (head.Request client number query text) (Submit program plan) =
    taken.Request client (record { number = number; query = query; text = text; program = program; plan = plan })
joined (head.Parcel stamp place) (Take from message) = taken.Parcel from stamp place message
joined other given = taken.Tick
