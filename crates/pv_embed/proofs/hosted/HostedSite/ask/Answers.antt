use Rattle.std.proofs.Common.{◌≡◌, ◌≤◌, length, All, ap, sym, subst, ◌∙◌}
use Rattle.pv_disk_model.specs.Size.{size_of}
use Rattle.pv_host.specs.HostLog.{contents_of, with_asked}
use Rattle.pv_embed.proofs.HostedLemmas.{ready_asked, stored_asked}
use Rattle.pv_embed.proofs.hosted.HostedSite.ask.Goals as goal
use Rattle.pv_embed.specs.declared.made.Made.{Made}

pub invariant_of-self : goal.invariant_of-self
invariant_of-self c =
    let site = c.self.inside.site in
    let log = c.ask.new.self in
    let same : log ≡ with_asked c.args.room site.log = c.ask.ensures.asks ∙ ap (with_asked c.args.room) c.log.ensures.value in
    let keeps : contents_of log ≡ contents_of site.log = c.ask.ensures.keeps ∙ ap contents_of c.log.ensures.value in
    record {
      ready = ready_asked site c.args.room log same keeps c.self.invariant.ready;
      running = c.self.invariant.running;
      up = c.self.invariant.up;
      me = c.self.invariant.me;
      site = c.self.invariant.site;
      catalog = c.self.invariant.catalog;
      stored = c.self.invariant.stored ∙ ap size_of (sym (stored_asked site c.args.room log same));
      records = c.self.invariant.records ∙ ap length (sym (stored_asked site c.args.room log same));
      some = c.self.invariant.some;
      no_longer = subst (λ n. All (λ (made : Made). made.length ≤ n) c.self.inside.made.items) (ap size_of (sym keeps)) c.self.invariant.no_longer;
      spelled = c.self.invariant.spelled;
    }
