use Rattle.std.proofs.Common.{sym, ◌∙◌, subst}
use Rattle.std.specs.Prelude.{All, ℕ, length}
use Rattle.pv_cell.proofs.BoxLemmas.{failed, followed}
use Rattle.pv_cell.proofs.SiteLemmas.{sends-fit}
use Rattle.pv_cell.proofs.site_box.SiteBox.step.Goals as goal
use Rattle.pv_site.specs.Inputs.{IsSpelledFrom}

pub follow-requires-clause-spelled : goal.follow-requires-clause-spelled
follow-requires-clause-spelled g c =
    subst (λ (me : ℕ). All (IsSpelledFrom me) c.in-Ok.step.sends.items) (sym c.requires.is_box.me) c.in-Ok.ensures.spelled

pub follow-requires-clause-few : goal.follow-requires-clause-few
follow-requires-clause-few g c =
    sends-fit g.L.Log.model (length c.args.self.now.history.items) c.args.self.now.site c.step-stepped.new.self c.requires.is_box.stands
    c.in-Ok.step _ c.requires.is_box.entries c.in-Ok.ensures.step

pub returns-in-Ok-clause-takes : goal.returns-in-Ok-clause-takes
returns-in-Ok-clause-takes g c =
    (followed g.L.Log.model c.args.self.now c.follow.new.self c.step-stepped.new.self c.args.taken c.args.stamp c.args.asker
    c.requires.is_box c.step-stepped.ensures.ready c.requires.room.1 c.requires.stamp c.requires.asker c.requires.input
    _ c.parted-input.ensures.input c.joined-taken.result (c.joined-taken.ensures ∙ c.parted-input.ensures.whole) c.in-Ok.step c.in-Ok.ensures.step
    c.follow.ensures.follows c.follow.result c.follow.ensures.took).0

pub returns-in-Ok-clause-is_box : goal.returns-in-Ok-clause-is_box
returns-in-Ok-clause-is_box g c =
    (followed g.L.Log.model c.args.self.now c.follow.new.self c.step-stepped.new.self c.args.taken c.args.stamp c.args.asker
    c.requires.is_box c.step-stepped.ensures.ready c.requires.room.1 c.requires.stamp c.requires.asker c.requires.input
    _ c.parted-input.ensures.input c.joined-taken.result (c.joined-taken.ensures ∙ c.parted-input.ensures.whole) c.in-Ok.step c.in-Ok.ensures.step
    c.follow.ensures.follows c.follow.result c.follow.ensures.took).1

pub returns-in-Err-clause-takes : goal.returns-in-Err-clause-takes
returns-in-Err-clause-takes g c =
    (failed g.L.Log.model c.args.self.now c.fail.new.self c.step-stepped.new.self c.args.taken c.args.stamp c.args.asker
    c.requires.is_box c.step-stepped.ensures.ready c.requires.room.1 c.requires.stamp c.requires.asker c.requires.input
    _ c.parted-input.ensures.input c.joined-taken.result (c.joined-taken.ensures ∙ c.parted-input.ensures.whole) c.in-Err.error c.in-Err.ensures.step
    c.fail.result c.fail.ensures).0

pub returns-in-Err-clause-is_box : goal.returns-in-Err-clause-is_box
returns-in-Err-clause-is_box g c =
    (failed g.L.Log.model c.args.self.now c.fail.new.self c.step-stepped.new.self c.args.taken c.args.stamp c.args.asker
    c.requires.is_box c.step-stepped.ensures.ready c.requires.room.1 c.requires.stamp c.requires.asker c.requires.input
    _ c.parted-input.ensures.input c.joined-taken.result (c.joined-taken.ensures ∙ c.parted-input.ensures.whole) c.in-Err.error c.in-Err.ensures.step
    c.fail.result c.fail.ensures).1
