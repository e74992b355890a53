-- The first look gives, or the second one, or all rings were found empty.
use Rattle.std.proofs.Common.{◌≡◌, ℕ, ◌-◌, sym, subst, ◌∙◌, length, rules}
use Rattle.std.specs.Prelude.{min}
use Rattle.pv_rings.specs.Rings.{AreFoundEmpty}
use Rattle.pv_mail.specs.Arrivals.{Comes, NoneBefore, place_of}
use Rattle.pv_mail.specs.Looks.{AllFoundEmpty}
use Rattle.pv_mail.specs.declared.arrival.Arrival.{Arrival}
use Rattle.pv_mail.specs.declared.ends.Ends.{Ends}
use Rattle.pv_mail.proofs.ArrivalLemmas.{comes-after, first-turn, if-none, nothing-found, second-turn}
use Rattle.pv_mail.proofs.ends.Ends.take_next.Goals.{in-Some, in-None+in_ok-arrival-in-None}
use Rattle.pv_mail.proofs.ends.Ends.take_next.Goals as goal

pub returns-in_err-arrival-in-None-clause-none : goal.returns-in_err-arrival-in-None-clause-none
returns-in_err-arrival-in-None-clause-none c =
    let old = c.args.self.now in
    let mid = c.take_between.new.self in
    let new = c.take_between-in-None.new.self in
    let site = c.min-site.result in
    let client = c.min-client.result in
    if-none c.from_residual.result (AllFoundEmpty old new)
    (nothing-found old mid new site client
    (subst (λ (end : ℕ). AreFoundEmpty site end old.sites_in.items mid.sites_in.items) (c.len-sites.ensures ∙ old.sites_in.ok.0) c.in-None.ensures.no_site)
    (subst (λ (end : ℕ). AreFoundEmpty client end old.clients_in.items mid.clients_in.items) (c.len-clients.ensures ∙ old.clients_in.ok.0) c.in-None.ensures.no_client)
    c.in_err-arrival-in-None.ensures.no_site c.in_err-arrival-in-None.ensures.no_client)

-- They are the same things.
comes-as : (old new new' : Ends) (it it' : Arrival × ℕ) → new' ≡ new → it' ≡ it → Comes old new it.0 it.1 → Comes old new' it'.0 it'.1
comes-as old new new' it it' same is comes =
    subst (λ (x : Ends). Comes old x it'.0 it'.1) (sym same) (subst (λ (x : Arrival × ℕ). Comes old new x.0 x.1) (sym is) comes)

pub returns-clause-some : goal.returns-clause-some
returns-clause-some c =
    let old = c.args.self.now in
    let mid = c.take_between.new.self in
    let site = c.min-site.result in
    let client = c.min-client.result in
    elim c.match-take_between.branch [
      | in-Some w ↦ comes-as old mid c.match-take_between.self _ c.match-take_between.arrival w.self-is w.arrival-is w.in-Some.ensures.some
      | in-None+in_ok-arrival-in-None w ↦
          comes-as old w.take_between-in-None.new.self c.match-take_between.self _ c.match-take_between.arrival w.self-is w.arrival-is
          (comes-after old mid w.take_between-in-None.new.self site c.len-sites.result client c.len-clients.result w.in-None.ensures.no_site w.in-None.ensures.no_client
          _ _ w.in_ok-arrival-in-None.ensures.some)
    ]

turn-as : (old new new' : Ends) (next : ℕ) (it it' : Arrival × ℕ) → new' ≡ new → it' ≡ it → NoneBefore next (place_of (length old.sites_in.items) it.0) old new
    → NoneBefore next (place_of (length old.sites_in.items) it'.0) old new'
turn-as old new new' next it it' same is turn =
    subst (λ (x : Ends). NoneBefore next (place_of (length old.sites_in.items) it'.0) old x) (sym same)
    (subst (λ (x : Arrival × ℕ). NoneBefore next (place_of (length old.sites_in.items) x.0) old new) (sym is) turn)

pub returns-clause-turn : goal.returns-clause-turn
returns-clause-turn c =
    let old = c.args.self.now in
    let mid = c.take_between.new.self in
    let next = c.args.next.now in
    let site = c.min-site.result in
    let client = c.min-client.result in
    let sites : c.len-sites.result ≡ length old.sites_in.items = c.len-sites.ensures ∙ old.sites_in.ok.0 in
    let clients : c.len-clients.result ≡ length old.clients_in.items = c.len-clients.ensures ∙ old.clients_in.ok.0 in
    let site_is : site ≡ min next c.len-sites.result = search rules in
    let client_is : client ≡ min (next - site) c.len-clients.result = search rules in
    elim c.match-take_between.branch [
      | in-Some w ↦ turn-as old mid c.match-take_between.self next _ c.match-take_between.arrival w.self-is w.arrival-is
          (first-turn old next site c.len-sites.result client c.len-clients.result sites clients site_is client_is mid _ w.in-Some.ensures.turn)
      | in-None+in_ok-arrival-in-None w ↦
          turn-as old w.take_between-in-None.new.self c.match-take_between.self next _ c.match-take_between.arrival w.self-is w.arrival-is
          (second-turn old next site c.len-sites.result client c.len-clients.result sites clients site_is client_is mid w.take_between-in-None.new.self
          w.in-None.ensures.no_site w.in-None.ensures.no_client _ w.in_ok-arrival-in-None.ensures.turn)
    ]
