-- What the map finds are the places.
use Rattle.std.proofs.Common.{◌∙◌, false, ap, sym}
use Rattle.std.specs.Prelude.{nat_eq}
use Rattle.std.specs.List.{list_any}
use Rattle.std.specs.Option.{option_map_or, option_copied}
use Rattle.pv_outbox.specs.Covers.{waits_for}
use Rattle.pv_outbox.proofs.WaitingLemmas.{is_in}
use Rattle.pv_outbox.proofs.waiting.Waiting.places.Goals as goal

pub returns-in-Some : goal.returns-in-Some
returns-in-Some c = λ place.
    ap (λ items. list_any (nat_eq place) items) c.deref.ensures.value
    ∙ ap (λ found. option_map_or (is_in place) found false) (ap option_copied (sym c.in-Some.is) ∙ c.get.ensures.value)
    ∙ ap (λ waiting. waits_for waiting c.args.txn place) c.self.view_is

pub returns-in-None : goal.returns-in-None
returns-in-None c = λ place.
    ap (λ found. option_map_or (is_in place) found false) (ap option_copied (sym c.in-None.is) ∙ c.get.ensures.value)
    ∙ ap (λ waiting. waits_for waiting c.args.txn place) c.self.view_is
