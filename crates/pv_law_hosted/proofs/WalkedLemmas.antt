-- What happens in a deployment becomes of each of its stations; and a process's site keeps its number and its catalog.
use Rattle.std.proofs.Common.{◌≡◌, ◌⊎◌, inl, inr, ⊎_elim, ℕ, ◌<◌, ◌≤◌, Option, Some, List, length, get_or-set_same, get_or-set_other, refl, sym, ap, ◌∙◌, subst, arith}
use Rattle.std.proofs.lemmas.Bool.{cases_eq, cases_lt}
use Rattle.std.proofs.lemmas.List.{get_or_past, length-set}
use Rattle.pv_base.specs.Catalog.{Declared}
use Rattle.pv_model.specs.Events.{Schedule}
use Rattle.pv_model.specs.Schedule.{IsSchedule}
use Rattle.pv_site.specs.SiteState.{SiteState}
use Rattle.pv_host.specs.HostLog.{HostState}
use Rattle.pv_embed.specs.Hosted.{HostedState}
use Rattle.pv_embed.specs.Opening.{Configures, HasOpenedOn}
use Rattle.pv_law_hosted.proofs.CallLemmas.{some-same}
use Rattle.pv_law_hosted.specs.Alone.{GoesOn, happens}
use Rattle.pv_law_hosted.specs.Calls.{HasSite}
use Rattle.pv_law_hosted.specs.Deployment.{Deployment, Station, no_station, station_at, with_station}
use Rattle.pv_law_hosted.specs.DeploymentEvents.{Happens, HappensAt, HappensTo, asks, goes, idles, is_writing, lets_out, stays, takes, writes}

-- A site of an opening has its number, and the catalog of its configuration.
pub opened-has : ((text : List ℕ) (schedule other : Schedule) → IsSchedule text schedule → IsSchedule text other → schedule ≡ other)
    → (config file : List ℕ) (schedule : Schedule) (d : Deployment) (n : ℕ) (site : HostedState) → Configures config schedule → HasOpenedOn config n file site
    → (station_at d n).hosted ≡ Some site → HasSite schedule.catalog d n site
opened-has one_schedule config file schedule d n site configures opened here =
    let same : opened.schedule ≡ schedule = one_schedule config opened.schedule schedule opened.configured.0 configures.0 in
    record {
      known = subst (λ (s : Schedule). n < s.catalog.sites) same opened.known;
      here = here;
      me = ap (λ (s : SiteState HostState). s.me) opened.opened.site;
      declared = ap (λ (s : SiteState HostState). s.catalog) opened.opened.site ∙ ap (λ (s : Schedule). s.catalog) same;
    }

-- The number and the catalog are those of the site from before.
abbrev IsOfSame : HostedState → HostedState → Type 0
IsOfSame site next = (next.site.me ≡ site.site.me) × (next.site.catalog ≡ site.site.catalog)

same-by : (site made next : HostedState) → IsOfSame site made → Some made ≡ Some next → IsOfSame site next
same-by site made next same is = subst (IsOfSame site) (some-same is) same

module _ (catalog : Declared) (d : Deployment) (n : ℕ) (site next : HostedState) (old : Station) (here : old.hosted ≡ Some site) where
  by-record : (made : HostedState) (log : HostState) → made ≡ record site { site = record site.site { log = log } } → Some made ≡ Some next → IsOfSame site next
  by-record made log same is = same-by site made next (ap (λ (h : HostedState). h.site.me) same, ap (λ (h : HostedState). h.site.catalog) same) is

  same-site : (new : Station) → HappensTo catalog d n site old new → new.hosted ≡ Some next → IsOfSame site next
  same-site new (takes made input may stepped) is =
      let same = stepped.steps.site in
      same-by site made next (ap (λ (after : SiteState HostState). after.me) same, ap (λ (after : SiteState HostState). after.catalog) same) is
  same-site new (stays made same) is = by-record made made.site.log same.1 is
  same-site new (asks made room asked) is = by-record made made.site.log asked.same is
  same-site new (is_writing left may) is = same-by site site next (refl, refl) (sym here ∙ is)
  same-site new (writes made write due wrote) is = by-record made made.site.log wrote.same is
  same-site new (idles made none wrote) is = by-record made made.site.log wrote.same is
  same-site new (lets_out made first later held within same) is =
      same-by site made next (ap (λ (h : HostedState). h.site.me) same, ap (λ (h : HostedState). h.site.catalog) same) is
  same-site new (goes left may) is = absurd cc

-- ## What happens, at one station of all
module _ (config : List ℕ) (catalog : Declared) (d later : Deployment) (h : Happens config catalog d later) (n : ℕ) where
  -- At this station it happens, or it stays as it is.
  at-station : ((h.n ≡ n) × (station_at later n ≡ h.new)) ⊎ (station_at later n ≡ station_at d n)
  at-station =
      let is : station_at later n ≡ station_at (with_station d h.n h.new) n = ap (λ (l : Deployment). station_at l n) h.after in
      ⊎_elim
      (λ (same : h.n ≡ n).
      ⊎_elim
      (λ (below : n < length d). inl (same, is ∙ ap (λ k. station_at (with_station d k h.new) n) same ∙ get_or-set_same d n h.new no_station below))
      (λ (beyond : length d ≤ n).
      let long : length later ≡ length d = ap length h.after ∙ length-set d h.n h.new in
      inr (get_or_past later n no_station (omega (arith, long, beyond)) ∙ sym (get_or_past d n no_station beyond)))
      (cases_lt n (length d)))
      (λ apart. inr (is ∙ get_or-set_other d h.n n h.new no_station (λ same. apart (sym same))))
      (cases_eq h.n n)

  happens-there : h.n ≡ n → HappensAt config catalog d n (station_at d n) (station_at d n).hosted h.new
  happens-there same = subst (λ k. HappensAt config catalog d k (station_at d k) (station_at d k).hosted h.new) same h.at

  pub walked-on : (last : Station) → GoesOn n (station_at later n) last → GoesOn n (station_at d n) last
  walked-on last goes_on =
      ⊎_elim
      (λ there.
      happens config catalog d (station_at d n) h.new last (happens-there there.0) h.stands (subst (λ (s : Station). GoesOn n s last) there.1 goes_on))
      (λ same. subst (λ (s : Station). GoesOn n s last) same goes_on)
      at-station

  pub still-has : (declared : Declared) (site next : HostedState) → HasSite declared d n site → (station_at later n).hosted ≡ Some next → HasSite declared later n next
  still-has declared site next has here =
      let same : IsOfSame site next =
      ⊎_elim
      (λ there.
      same-site catalog d n site next (station_at d n) has.here h.new
      (subst (λ (hosted : Option HostedState). HappensAt config catalog d n (station_at d n) hosted h.new) has.here (happens-there there.0))
      (sym (ap (λ (s : Station). s.hosted) there.1) ∙ here))
      (λ stays. same-by site site next (refl, refl) (sym has.here ∙ sym (ap (λ (s : Station). s.hosted) stays) ∙ here))
      at-station in
      record { known = has.known; here = here; me = same.0 ∙ has.me; declared = same.1 ∙ has.declared }
