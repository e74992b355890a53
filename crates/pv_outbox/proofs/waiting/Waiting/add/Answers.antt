-- The place is among those of the transaction, and nothing is lost.
use Rattle.std.proofs.Common.{◌≡◌, ◌∙◌, true, Some, None, ap, sym, subst}
use Rattle.std.specs.Option.{option_copied_mut, is_some}
use Rattle.std.specs.Map.{lookup}
use Rattle.indexmap.specs.IndexMap.{IndexMap}
use Rattle.pv_outbox.specs.Covers.{waits_for}
use Rattle.pv_outbox.proofs.WaitingLemmas.{is_key, waits-more, waits-put, ok-then, in-found, in-none}
use Rattle.pv_outbox.proofs.waiting.Waiting.add.Goals as goal

pub returns-in-Some-clause-more : goal.returns-in-Some-clause-more
returns-in-Some-clause-more c =
    let map = c.self.inside.places in
    let set = c.put_place.new.places in
    let found : lookup (is_key c.args.txn) map.entries ≡ Some c.in-Some.places.now = sym c.get_mut.ensures.value ∙ ap option_copied_mut c.in-Some.is in
    let updates = ((c.get_mut.follows.holds set).3 (ap is_some found)).0 in
    λ other there is.
    waits-more map.entries (c.get_mut.follows.lender set).entries c.args.txn set updates
    (λ place h. c.put_place.ensures.more place (in-found _ _ found place h))
    other there (subst (λ waiting. waits_for waiting other there ≡ true) (sym c.self.view_is) is)

pub returns-in-Some-clause-added : goal.returns-in-Some-clause-added
returns-in-Some-clause-added c =
    let map = c.self.inside.places in
    let set = c.put_place.new.places in
    let found : lookup (is_key c.args.txn) map.entries ≡ Some c.in-Some.places.now = sym c.get_mut.ensures.value ∙ ap option_copied_mut c.in-Some.is in
    let updates = ((c.get_mut.follows.holds set).3 (ap is_some found)).0 in
    ok-then c.put_place.result (waits-put map.entries (c.get_mut.follows.lender set).entries c.args.txn set updates c.args.place) c.put_place.ensures.placed

pub returns-clause-more : goal.returns-clause-more
returns-clause-more c =
    let same = c.get_mut.follows.holds-at-none in
    let none : lookup (is_key c.args.txn) c.self.inside.places.entries ≡ None = sym c.get_mut.ensures.value ∙ ap option_copied_mut c.in_default.is in
    λ other there is.
    waits-more (c.get_mut.follows.lender-at-none).entries c.insert.new.self.entries c.args.txn _ c.in_ok-insert.ensures.updates.0
    (λ place h. absurd (in-none _ (ap (λ (map : IndexMap _ _ _). lookup (is_key c.args.txn) map.entries) same ∙ none) place h))
    other there
    (ap (λ (map : IndexMap _ _ _). waits_for map.entries other there) same
    ∙ subst (λ waiting. waits_for waiting other there ≡ true) (sym c.self.view_is) is)

pub returns-clause-added : goal.returns-clause-added
returns-clause-added c =
    waits-put (c.get_mut.follows.lender-at-none).entries c.insert.new.self.entries c.args.txn _ c.in_ok-insert.ensures.updates.0
    c.args.place c.in_ok-put_place.ensures.placed
