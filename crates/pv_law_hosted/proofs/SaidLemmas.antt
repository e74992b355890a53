-- Whatever is said of a transaction's outcome is so in the run, also as it goes on.
use Rattle.std.proofs.Common.{◌≡◌, Bool, true, false, List, ◌++◌, IsTrue, refl, sym, ap, ◌∙◌, subst}
use Rattle.std.specs.List.{Contains}
use Rattle.std.proofs.lemmas.Bool.{true≢false}
use Rattle.std.proofs.lemmas.List.Elements.{Contains-append_left}
use Rattle.std.proofs.lemmas.Grind.{flat_map-append}
use Rattle.pv_base.specs.declared.txn.TxnId.{TxnId}
use Rattle.pv_law_acts.specs.Guards.{HasOutcome}
use Rattle.pv_law_acts.specs.Seen.{IsDead}
use Rattle.pv_law_world.proofs.AppendLemmas.{run-append}
use Rattle.pv_model.specs.Events.{Event}
use Rattle.pv_protocol.specs.Committed.{is_committed}
use Rattle.pv_protocol.specs.Lines.{Line}
use Rattle.pv_protocol.specs.Outcomes.{IsOut}
use Rattle.pv_protocol.specs.Run.{lines_of_transitions, printed, run}
use Rattle.pv_protocol.specs.State.{Setup}
use Rattle.pv_protocol.specs.World.{World, opening}
use Rattle.pv_protocol.specs.WorldStep.{Transition}
use Rattle.pv_law_hosted.specs.Mirrored.{world_of}

-- What is said is so in a world.
abbrev pub IsSo : World → TxnId → Bool → Type 0
IsSo world txn true = IsTrue (is_committed world txn)
IsSo world txn false = is_committed world txn ≡ false

pub one-so : (world : World) (txn : TxnId) (commits other : Bool) → IsSo world txn commits → IsSo world txn other → commits ≡ other
one-so world txn true true first second = refl
one-so world txn false false first second = refl
one-so world txn true false first second = absurd (true≢false (sym first ∙ second))
one-so world txn false true first second = absurd (true≢false (sym second ∙ first))

-- What has been printed was, when more is.
pub printed-more : (setup : Setup) (events more : List Event) (line : Line) → Contains (printed setup events) line → Contains (printed setup (events ++ more)) line
unfolding printed
printed-more setup events more line there =
    let before = run setup (opening setup) events in
    let later = run setup (world_of setup events) more in
    subst (λ (lines : List Line). Contains lines line)
    (sym (flat_map-append (λ (t : Transition). t.lines) before later) ∙ ap lines_of_transitions (sym (run-append setup (opening setup) events more)))
    (Contains-append_left _ _ line there)

-- What a site has reported to another one stays so.
pub outcome-later : (setup : Setup) (now later : World) (txn : TxnId) (commits : Bool)
    → (IsTrue (is_committed now txn) → IsTrue (is_committed later txn)) → (IsDead now txn → IsOut txn later) → HasOutcome now txn commits → IsSo later txn commits
outcome-later setup now later txn true stays dies has = stays has
outcome-later setup now later txn false stays dies has = (dies has).uncommitted
