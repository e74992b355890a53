-- The ring of one client after another is looked at.
use Rattle.std.proofs.Common.{◌≡◌, ℕ, ◌<◌, ◌≤◌, List, get_or, length, take, sym, subst, arith}
use Rattle.pv_base.specs.declared.limits.TheConstants.{MAX_CLIENTS}
use Rattle.pv_closing.specs.Standing.{StandTogether}
use Rattle.pv_opening.specs.Counts.{count_at}
use Rattle.pv_script.specs.declared.live.Client.{Client}
use Rattle.pv_cluster.proofs.ClientLemmas.{asks-at, fits-at, once-at, once-more, taken-at, taken-more}
use Rattle.pv_cluster.proofs.LookedLemmas.{all-unlooked, looked-ask, one-looked}
use Rattle.pv_cluster.proofs.StillLemmas.{all-go, all-self, all-whole, one-still}
use Rattle.pv_cluster.proofs.looking.look_at_clients.Goals as goal

pub loop-at-init : goal.loop-at-init
loop-at-init g c = record {
  still = all-self c.args.boxes.now.items;
  looked = all-unlooked c.args.clients.now.items;
  once = λ k client less. absurd (omega (arith, less));
  taken = λ over k client ended any less. absurd (omega (arith, less));
}

pub place_of-place-requires-clause-few : goal.place_of-place-requires-clause-few
place_of-place-requires-clause-few g c =
    subst (λ (list : List Client). length list ≤ MAX_CLIENTS) (sym c.deref.ensures.value) (c.live_scripts_are_small.ensures.few c.args.script.now c.requires.script)

pub look_at_client-all-requires : goal.look_at_client-all-requires
look_at_client-all-requires g c =
    let M = g.L.Log.model in
    let script = c.args.script.now in
    let at = c.loop-at.at in
    let start = c.args.boxes.now.items in
    let now = c.loop-at.boxes.items in
    let clients = c.args.clients.now.items in
    let asking = c.loop-at.clients.items in
    let kept = c.loop-at.invariant in
    let place = c.place_of-place.result in
    let within : at < length script.clients.items = omega (arith, c.loop-at-test.true, c.len-at-end.ensures, script.clients.ok.0) in
    let stand : StandTogether M script now asking =
    c.boxes_stand_on.ensures.together script start now clients asking c.requires.standing
    (all-go M c.boxes_lend_their_ends.ensures.is_box c.boxes_lend_their_ends.ensures.course c.boxes_lend_their_ends.ensures.same start now
    (all-whole M script start clients c.requires.standing) kept.still) (looked-ask clients asking kept.looked) in
    asks-at M script now asking stand (λ k any less. (c.live_scripts_are_small.ensures.fit script k any c.requires.script less).0) at c.index.result.now
    c.index_mut-in-loop-at.result.now c.index_mut.result.now place within c.index.ensures c.index_mut-in-loop-at.ensures.value c.index_mut.ensures.value
    (subst (λ (list : List Client). (any : Client) → place ≡ count_at (get_or list at any).site.0 (take at list)) c.deref.ensures.value c.place_of-place.ensures)

pub loop-at-preserved : goal.loop-at-preserved
loop-at-preserved g c =
    let M = g.L.Log.model in
    let script = c.args.script.now in
    let at = c.loop-at.at in
    let start = c.args.boxes.now.items in
    let now = c.loop-at.boxes.items in
    let clients = c.args.clients.now.items in
    let asking = c.loop-at.clients.items in
    let kept = c.loop-at.invariant in
    let place = c.place_of-place.result in
    let client = c.index.result.now in
    let box = c.index_mut.result.now in
    let ended = c.index_mut-in-loop-at.result.now in
    let fit : (k : ℕ) (any : Client) → k < length script.clients.items → (get_or script.clients.items k any).site.0 < script.catalog.sites =
    λ k any less. (c.live_scripts_are_small.ensures.fit script k any c.requires.script less).0 in
    let within : at < length script.clients.items = omega (arith, c.loop-at-test.true, c.len-at-end.ensures, script.clients.ok.0) in
    let stand : StandTogether M script now asking =
    c.boxes_stand_on.ensures.together script start now clients asking c.requires.standing
    (all-go M c.boxes_lend_their_ends.ensures.is_box c.boxes_lend_their_ends.ensures.course c.boxes_lend_their_ends.ensures.same start now
    (all-whole M script start clients c.requires.standing) kept.still) (looked-ask clients asking kept.looked) in
    let places : (any : Client) → place ≡ count_at (get_or script.clients.items at any).site.0 (take at script.clients.items) =
    subst (λ (list : List Client). (any : Client) → place ≡ count_at (get_or list at any).site.0 (take at list)) c.deref.ensures.value c.place_of-place.ensures in
    let there : at < length asking = subst (λ (n : ℕ). at < n) stand.clients_are.0 within in
    let site : client.site.0 < length now =
    subst (λ (n : ℕ). client.site.0 < n) (sym stand.count) (fits-at script fit at client within c.index.ensures) in
    let looks = c.look_at_client-all.ensures in
    record {
      still = one-still start now client.site.0 box c.look_at_client-all.new.one kept.still site c.index_mut.ensures.value looks.still;
      looked = one-looked clients asking at ended c.look_at_client-all.new.ended kept.looked there c.index_mut-in-loop-at.ensures.value looks.looked;
      once =
          once-more start script.clients.items at kept.once
          (once-at M script now asking stand fit at client ended box place within c.index.ensures c.index_mut-in-loop-at.ensures.value c.index_mut.ensures.value places start
          kept.still looks.began);
      taken = λ over.
          taken-more start script.clients.items clients at (kept.taken (looks.before over))
          (taken-at M script now asking stand fit at client ended box place within c.index.ensures c.index_mut-in-loop-at.ensures.value c.index_mut.ensures.value places start
          clients kept.still kept.looked (looks.taken over));
    }

pub returns-clause-once : goal.returns-clause-once
returns-clause-once g c k client less =
    c.loop-at.invariant.once k client (omega (arith, less, c.loop-at-test.false, c.len-at-end.ensures, c.args.script.now.clients.ok.0))

pub returns-clause-taken : goal.returns-clause-taken
returns-clause-taken g c over k client ended any less =
    c.loop-at.invariant.taken over k client ended any (omega (arith, less, c.loop-at-test.false, c.len-at-end.ensures, c.args.script.now.clients.ok.0))
