-- A participant that is there is bound by what its cell answers.
use Rattle.std.proofs.Common.{Some, sym, ap, ◌∙◌, ◌||◌}
use Rattle.std.specs.List.{list_any}
use Rattle.std.specs.Option.{option_eq}
use Rattle.pv_protocol.specs.Committed.{grants_of, is_grant}
use Rattle.pv_protocol.specs.Records.{is_prepared}
use Rattle.pv_protocol.specs.State.{Site}
use Rattle.pv_protocol.specs.Vote.{is_same_grant}
use Rattle.pv_protocol.specs.World.{site_at}
use Rattle.pv_world.proofs.SiteLemmas.{cell-stands, no-cell}
use Rattle.pv_world.proofs.OpenLemmas.{bound-prepared, bound-held}
use Rattle.pv_world.specs.Stands.{grant_of}
use Rattle.pv_world.proofs.world.World.is_bound.Goals as goal

pub returns-then-prepared : goal.returns-then-prepared
returns-then-prepared c = λ is stands ordered.
    let n = c.args.taken.site.0 in
    let here = cell-stands c.args.self.now is stands n c.in-Some.cell.now (sym c.in-Some.ensures) in
    let promised = sym (c.prepared.ensures c.args.self.now.catalog n (site_at is n) here) ∙ c.if-prepared.true in
    c.if-prepared.true ∙ sym (bound-prepared is c.args.txn (grant_of c.args.taken) promised)

pub returns-else-prepared : goal.returns-else-prepared
returns-else-prepared c = λ is stands ordered.
    let n = c.args.taken.site.0 in
    let here = cell-stands c.args.self.now is stands n c.in-Some.cell.now (sym c.in-Some.ensures) in
    let unpromised = sym (c.prepared.ensures c.args.self.now.catalog n (site_at is n) here) ∙ c.if-prepared.false in
    c.eq.ensures
    ∙ ap (λ held. option_eq is_same_grant held (Some c.args.taken.grant)) (c.holds.ensures c.args.self.now.catalog n (site_at is n) here)
    ∙ sym (bound-held is c.args.txn (grant_of c.args.taken) ordered unpromised)

pub returns-in-None : goal.returns-in-None
returns-in-None c = λ is stands ordered.
    sym (ap (λ (site : Site). is_prepared site.records c.args.txn || list_any (is_grant c.args.txn c.args.taken.grant) (grants_of site.running))
    (no-cell c.args.self.now is stands c.args.taken.site.0 (sym c.in-None.ensures)))
