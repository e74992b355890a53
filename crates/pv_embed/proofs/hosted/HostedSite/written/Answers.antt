use Rattle.std.proofs.Common.{◌≤◌, All, ap, sym, subst}
use Rattle.pv_disk_model.specs.Size.{size_of}
use Rattle.pv_host.specs.HostLog.{HostState, IsSameBesideRoom, with_written}
use Rattle.pv_embed.proofs.HostedLemmas.{contents_written, ready_written}
use Rattle.pv_embed.proofs.hosted.HostedSite.written.Goals as goal
use Rattle.pv_embed.specs.declared.made.Made.{Made}

pub invariant_of-self : goal.invariant_of-self
invariant_of-self c =
    let site = c.self.inside.site in
    let log = c.written.new.self in
    let same = subst (λ (lent : HostState). IsSameBesideRoom (with_written lent) log) c.log-log.ensures.value c.written.ensures in
    record {
      ready = ready_written site log same c.self.invariant.ready;
      running = c.self.invariant.running;
      up = c.self.invariant.up;
      me = c.self.invariant.me;
      site = c.self.invariant.site;
      catalog = c.self.invariant.catalog;
      stored = c.stored-stored.ensures;
      records = c.records-records.ensures;
      some = c.self.invariant.some;
      no_longer = subst (λ n. All (λ (made : Made). made.length ≤ n) c.self.inside.made.items) (ap size_of (sym (contents_written site log same))) c.self.invariant.no_longer;
      spelled = c.self.invariant.spelled;
    }
