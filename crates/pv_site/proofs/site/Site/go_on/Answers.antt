-- The next epoch is recorded, and the site begins in it; or it is refused.
use Rattle.std.proofs.Common.{subst, Ok, Err, arith}
use Rattle.pv_base.specs.Catalog.{Declared}
use Rattle.std.specs.Prelude.{All}
use Rattle.pv_base.specs.declared.limits.TheConstants.{HELD_NAMES, MAX_SITES}
use Rattle.pv_format.specs.Range.{IsRecordInRange}
use Rattle.pv_protocol.specs.Width.{IsNarrow}
use Rattle.pv_protocol.specs.Sound.{IsSetupInRange}
use Rattle.pv_site.proofs.ResumeLemmas.{fails-there, has-no-room, has-none, has-resumed, resumed-ready, resumed-recorded, resumed-sound}
use Rattle.pv_site.proofs.site.Site.go_on.Goals as goal
use Rattle.pv_site.specs.Recovered.{Remains}
use Rattle.pv_site.specs.Resumes.{Advances}
use Rattle.pv_site.specs.SiteState.{setup_of}
use Rattle.pv_site.specs.declared.error.StepError.{StepError}
use Rattle.pv_site.specs.declared.recovered.Advanced.{Advanced}

pub invariant_of-result : goal.invariant_of-result
invariant_of-result g c =
    let goes = subst (λ (a : Advanced). Advances g.L.Log.model c.args.log c.advance.new.log c.args.left c.advance.new.self (Ok a)) c.in-Ok-Done.field-0-is c.in-Ok-Done.ensures.advanced in
    let begun = c.begin-parts.ensures in
    let declared : Declared = c.args.left.catalog in
    let setup : IsSetupInRange (setup_of declared) =
    subst (λ (left : Remains). IsSetupInRange (setup_of left.catalog)) c.left.view_is c.setup_is_in_range.ensures in
    record {
      sound = resumed-sound g.L.Log.model c.args.log c.advance.new.log c.args.left c.requires goes.1 goes.2 c.advance.new.self goes.0 c.begin-parts.result.parts begun.here begun.tied setup
          (subst (λ (left : Remains). All IsRecordInRange left.records) c.left.view_is c.left.invariant.range)
          (subst (λ (left : Remains). IsNarrow HELD_NAMES left.catalog left.me left.records) c.left.view_is c.left.invariant.narrow)
          (λ running more fine narrow starts. c.starts_are_sound.ensures MAX_SITES (setup_of declared) setup.sites (omega arith) c.args.left.me c.args.left.surplus c.args.left.records
          setup c.requires.site fine narrow running more starts);
      epoch = begun.locks;
      recorded = resumed-recorded g.L.Log.model c.args.log c.advance.new.log c.args.left c.requires goes.1 goes.2 c.advance.new.self goes.0 c.begin-parts.result.parts begun.here
          c.begin-parts.result.epoch begun.epoch;
      grants = λ down. absurd (let wrong : ⊥ = cc in wrong);
      entries = λ down. absurd (let wrong : ⊥ = cc in wrong);
    }

pub returns-in-Ok-Done-clause-resumed : goal.returns-in-Ok-Done-clause-resumed
returns-in-Ok-Done-clause-resumed g c =
    let goes = subst (λ (a : Advanced). Advances g.L.Log.model c.args.log c.advance.new.log c.args.left c.advance.new.self (Ok a)) c.in-Ok-Done.field-0-is c.in-Ok-Done.ensures.advanced in
    has-resumed g.L.Log.model c.args.log c.advance.new.log c.args.left c.requires goes.1 goes.2 c.advance.new.self goes.0 c.begin-parts.result.parts c.begin-parts.ensures.here
    c.begin-parts.result.epoch c.args.first c.begin-parts.ensures.epoch

pub returns-in-Ok-Done-clause-ready : goal.returns-in-Ok-Done-clause-ready
returns-in-Ok-Done-clause-ready g c =
    let goes = subst (λ (a : Advanced). Advances g.L.Log.model c.args.log c.advance.new.log c.args.left c.advance.new.self (Ok a)) c.in-Ok-Done.field-0-is c.in-Ok-Done.ensures.advanced in
    resumed-ready g.L.Log.model c.args.log c.advance.new.log c.args.left c.requires goes.1 goes.2 c.advance.new.self goes.0 c.begin-parts.result.parts c.begin-parts.ensures.here
    c.begin-parts.result.epoch c.args.first c.in-Ok-Done.ensures.intact

pub returns-in-Ok-Full-clause-resumed : goal.returns-in-Ok-Full-clause-resumed
returns-in-Ok-Full-clause-resumed g c =
    let goes = subst (λ (a : Advanced). Advances g.L.Log.model c.args.log c.advance.new.log c.args.left c.advance.new.self (Ok a)) c.in-Ok-Full.field-0-is c.in-Ok-Full.ensures.advanced in (
      goes.2.0,
      goes.0,
      has-no-room g.L.Log.model c.args.log c.advance.new.log c.args.left c.requires goes.1 c.in-Ok-Full.length goes.2,
    )

pub returns-in-Ok-Spent-clause-resumed : goal.returns-in-Ok-Spent-clause-resumed
returns-in-Ok-Spent-clause-resumed g c =
    let goes = subst (λ (a : Advanced). Advances g.L.Log.model c.args.log c.advance.new.log c.args.left c.advance.new.self (Ok a)) c.in-Ok-Spent.field-0-is c.in-Ok-Spent.ensures.advanced in (
      goes.1,
      goes.0,
      has-none g.L.Log.model c.args.log c.advance.new.log c.args.left c.requires goes.2,
    )

pub returns-in-Err-Fault-clause-resumed : goal.returns-in-Err-Fault-clause-resumed
returns-in-Err-Fault-clause-resumed g c =
    let goes = subst (λ (e : StepError). Advances g.L.Log.model c.args.log c.advance.new.log c.args.left c.advance.new.self (Err e)) c.in-Err-Fault.field-0-is c.in-Err-Fault.ensures.advanced in
    (goes.0, fails-there g.L.Log.model c.args.log c.advance.new.log c.args.left c.requires goes.1 goes.2)
