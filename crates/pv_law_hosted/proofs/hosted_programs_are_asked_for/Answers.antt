use Rattle.std.proofs.Common.{◌∷◌, ◌++◌, All, subst}
use Rattle.std.proofs.lemmas.List.Elements.{All-contains, Contains-append_right}
use Rattle.pv_base.proofs.ContainsLemmas.{Contains-first}
use Rattle.pv_law_hosted.proofs.hosted_programs_are_asked_for.Goals as goal
use Rattle.pv_law_hosted.specs.Mirrored.{IsAskedIn, IsPlacedAsBegun, world_of}
use Rattle.pv_protocol.specs.Committed.{home_of}
use Rattle.pv_protocol.specs.Run.{run}
use Rattle.pv_protocol.specs.World.{opening}

pub returns-clause-begun : goal.returns-clause-begun
returns-clause-begun c setup d events n query text program txn place m event printed =
    let t = place.transition in
    let all : All (IsAskedIn d) (place.earlier ++ t ∷ place.later) = subst (All (IsAskedIn d)) place.split m.asked in
    All-contains (IsAskedIn d) (place.earlier ++ t ∷ place.later) t all (Contains-append_right place.earlier (t ∷ place.later) t (Contains-first t place.later))
    n query text program txn event printed

pub returns-clause-order : goal.returns-clause-order
returns-clause-order c setup d events placed m there =
    let all = run setup (opening setup) events in
    let is = All-contains (IsPlacedAsBegun all) (world_of setup events).order placed m.programs.order there in
    All-contains (IsAskedIn d) all is.transition m.asked is.there (home_of placed.txn) is.query is.text placed.program placed.txn is.event is.printed
