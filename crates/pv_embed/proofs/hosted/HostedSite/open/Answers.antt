use Rattle.std.proofs.Common.{rules, ◌≢◌, ◌<◌, ◌≤◌, [], ◌∷◌, length, All, true, ap, sym, subst, ◌∙◌}
use Rattle.std.specs.Prelude.{flat_map}
use Rattle.std.proofs.lemmas.List.Elements.{All-nil}
use Rattle.pv_disk_model.specs.Calls.{append, read_all, reserve}
use Rattle.pv_disk_model.specs.Size.{size_of}
use Rattle.pv_format.specs.Journal.{IsNotOurs}
use Rattle.pv_script.specs.ScheduleView.{schedule_of}
use Rattle.pv_base.specs.declared.limits.TheConstants.{MAX_INPUT}
use Rattle.pv_site.specs.SiteState.{SiteState}
use Rattle.pv_host.specs.HostLog.{HostState, contents_of}
use Rattle.pv_host.specs.HostWrites.{IsOpenedOn}
use Rattle.pv_embed.proofs.HostedLemmas.{stored_after}
use Rattle.pv_embed.proofs.OpeningLemmas.{journal_opened, no_events, not_ours, refused_on}
use Rattle.pv_embed.proofs.hosted.HostedSite.open.Goals as goal
use Rattle.pv_embed.specs.Held.{Held}
use Rattle.pv_embed.specs.Outputs.{AreSpelled, IsSpelled, held_of, outputs_of}
use Rattle.pv_embed.specs.declared.made.Made.{Made}

pub returns-in-Err-NotOurs : goal.returns-in-Err-NotOurs
returns-in-Err-NotOurs c =
    let none = no_events c.in-Ok.schedule c.if-not-is_empty.ensures in
    let short : length c.args.config.now ≤ MAX_INPUT = search rules in
    let known : c.args.me < c.in-Ok.schedule.catalog.sites = search rules in (
      schedule_of c.in-Ok.schedule,
      (c.in-Ok.ensures.answer.given, none, short),
      known,
      subst (IsNotOurs c.args.journal.items) (sym c.in-Err-NotOurs.place-is)
          (not_ours c.args.journal.items c.in-Err-NotOurs.field-0 c.in-Err-NotOurs.place c.in-Err-NotOurs.field-0-is c.in-Err-NotOurs.ensures.answer.refused),
    )

pub invariant_of-result : goal.invariant_of-result
invariant_of-result c =
    let opened = c.in-Ok-open-2.ensures.opened in
    let log = c.in-Ok-open.log in
    let site = c.in-Ok-open-2.site in
    let known : c.args.me < c.in-Ok.schedule.catalog.sites = search rules in
    record {
      ready = c.in-Ok-open-2.ensures.ready;
      running = opened.running;
      up = ap (λ (state : SiteState HostState). state.running) opened.site;
      me = ap (λ (state : SiteState HostState). state.me) opened.site;
      site = known;
      catalog = ap (λ (state : SiteState HostState). state.catalog) opened.site;
      stored = c.stored-stored.ensures ∙ ap size_of (sym (stored_after (read_all ∷ reserve (length opened.content) ∷ append opened.content ∷ []) log site.log true opened.calls));
      records = c.records-records.ensures ∙ ap length (sym (stored_after (read_all ∷ reserve (length opened.content) ∷ append opened.content ∷ []) log site.log true opened.calls));
      some = subst (All (λ (made : Made). outputs_of c.args.me made ≢ [])) (sym c.new.ensures.items) (All-nil (λ (made : Made). outputs_of c.args.me made ≢ []));
      no_longer = subst (All (λ (made : Made). made.length ≤ size_of (contents_of site.log))) (sym c.new.ensures.items)
          (All-nil (λ (made : Made). made.length ≤ size_of (contents_of site.log)));
      spelled = subst AreSpelled (sym (ap (flat_map (held_of c.args.me)) c.new.ensures.items)) (All-nil (λ (one : Held). IsSpelled one.out));
    }

pub returns-in-Ok-open-2 : goal.returns-in-Ok-open-2
returns-in-Ok-open-2 c =
    let none = no_events c.in-Ok.schedule c.if-not-is_empty.ensures in
    let short : length c.args.config.now ≤ MAX_INPUT = search rules in
    let known : c.args.me < c.in-Ok.schedule.catalog.sites = search rules in
    record {
      schedule = schedule_of c.in-Ok.schedule;
      configured = (c.in-Ok.ensures.answer.given, none, short);
      known = known;
      log = c.in-Ok-open.log;
      opened_on = subst (λ limit. IsOpenedOn c.args.journal.items limit c.in-Ok-open.log) c.journal.ensures.limit c.in-Ok-open.ensures.opened;
      opened = c.in-Ok-open-2.ensures.opened;
      held = ap (flat_map (held_of c.args.me)) c.new.ensures.items;
    }

pub returns : goal.returns
returns c =
    let none = no_events c.in-Ok.schedule c.if-not-is_empty.ensures in
    let short : length c.args.config.now ≤ MAX_INPUT = search rules in
    let known : c.args.me < c.in-Ok.schedule.catalog.sites = search rules in
    let log = c.in-Ok-open.log in
    let opened = c.in-Ok-open.ensures.opened in
    refused_on c.args.config.now c.args.me c.args.journal.items (schedule_of c.in-Ok.schedule) (contents_of log) c.fault_of.result (c.in-Ok.ensures.answer.given, none, short) known
    (journal_opened c.args.journal.items c.journal.result log opened)
    (c.fault_of.ensures log c.args.me c.in-Ok.schedule.catalog (opened.up, opened.unread) c.in-Err.ensures.opened)
