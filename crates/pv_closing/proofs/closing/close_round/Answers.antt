-- The rings are emptied, the sites tick, and one client after another asks.
use Rattle.std.proofs.Common.{◌≡◌, ℕ, ◌<◌, ◌≤◌, List, length, get_or, sym, subst, ◌∙◌, arith}
use Rattle.pv_base.specs.declared.limits.TheConstants.{MAX_CLIENTS}
use Rattle.pv_closing.proofs.ClosingLemmas.{go-further, still-whole}
use Rattle.pv_closing.proofs.LineLemmas.{this-fits}
use Rattle.pv_closing.proofs.StandLemmas.{all-whole, ask-nothing, asked-more, closed-box, one-asks, stand-on}
use Rattle.pv_closing.proofs.closing.close_round.Goals as goal
use Rattle.pv_script.specs.declared.live.Client.{Client}

pub empty-requires : goal.empty-requires
empty-requires g c = all-whole g.L.Log.model c.args.script.now c.args.boxes.now.items c.args.clients.now.items c.requires.standing

pub tick_and_empty-requires-clause-whole : goal.tick_and_empty-requires-clause-whole
tick_and_empty-requires-clause-whole g c = still-whole g.L.Log.model c.args.boxes.now.items c.empty.new.boxes.items c.empty.ensures.on

pub loop-at-init : goal.loop-at-init
loop-at-init g c = record {
  on = go-further g.L.Log.model c.boxes_stay_the_same.ensures.both c.args.boxes.now.items c.empty.new.boxes.items c.tick_and_empty.new.boxes.items
      c.empty.ensures.on c.tick_and_empty.ensures.on;
  quiet = c.tick_and_empty.ensures.quiet;
  asks = ask-nothing c.args.clients.now.items;
  asked = λ k client one less. absurd (omega (arith, less));
}

pub place_of-place-requires-clause-few : goal.place_of-place-requires-clause-few
place_of-place-requires-clause-few g c =
    subst (λ (list : List Client). length list ≤ MAX_CLIENTS) (sym c.deref.ensures.value) (c.live_scripts_are_small.ensures.few c.args.script.now c.requires.script)

pub ask_all-requires-clause-whole : goal.ask_all-requires-clause-whole
ask_all-requires-clause-whole g c = still-whole g.L.Log.model c.args.boxes.now.items c.loop-at.boxes.items c.loop-at.invariant.on

pub ask_all-requires-clause-site : goal.ask_all-requires-clause-site
ask_all-requires-clause-site g c =
    let script = c.args.script.now in
    let at = c.loop-at.at in
    let within : at < length script.clients.items = omega (arith, c.loop-at-test.true, c.len-at-end.ensures, script.clients.ok.0) in
    let fits = this-fits c.live_scripts_are_small.ensures.fit script c.requires.script at c.index.result.now c.index.ensures within in
    omega (arith, fits.0, c.requires.standing.count, c.loop-at.invariant.on.0)

pub loop-at-preserved : goal.loop-at-preserved
loop-at-preserved g c =
    let M = g.L.Log.model in
    let script = c.args.script.now in
    let clients = script.clients.items in
    let at = c.loop-at.at in
    let mid = c.loop-at.boxes.items in
    let new = c.ask_all.new.boxes.items in
    let before = c.loop-at.invariant in
    let stand = c.requires.standing in
    let asking = c.loop-at.clients.items in
    let count : length asking ≡ length clients = sym before.asks.0 ∙ sym stand.clients_are.0 in
    let there : at < length clients = omega (arith, c.loop-at-test.true, c.len-at-end.ensures, script.clients.ok.0) in
    record {
      on = go-further M c.boxes_stay_the_same.ensures.both c.args.boxes.now.items mid new before.on c.ask_all.ensures.on;
      quiet = c.ask_all.ensures.quiet;
      asks =
          one-asks c.args.clients.now.items asking at c.index_mut.result.now c.ask_all.new.ended before.asks (omega (arith, there, count))
          c.index_mut.ensures.value c.ask_all.ensures.asks;
      asked =
          asked-more M mid new c.ask_all.ensures.on clients asking at c.index.result.now c.ask_all.new.ended
          (λ (k : ℕ) (any : Client) less. omega (arith, (c.live_scripts_are_small.ensures.fit script k any c.requires.script less).0, stand.count, before.on.0))
          count there c.index.ensures before.asked c.in_ok-ask_all.ensures.asked;
    }

pub returns-in_err-ask_all-clause-on : goal.returns-in_err-ask_all-clause-on
returns-in_err-ask_all-clause-on g c =
    go-further g.L.Log.model c.boxes_stay_the_same.ensures.both c.args.boxes.now.items c.loop-at.boxes.items c.ask_all.new.boxes.items c.loop-at.invariant.on
    c.ask_all.ensures.on

pub returns-in_err-ask_all-clause-asks : goal.returns-in_err-ask_all-clause-asks
returns-in_err-ask_all-clause-asks g c =
    let clients = c.args.script.now.clients in
    let at = c.loop-at.at in
    let asking = c.loop-at.clients.items in
    let before = c.loop-at.invariant in
    let there : at < length clients.items = omega (arith, c.loop-at-test.true, c.len-at-end.ensures, clients.ok.0) in
    one-asks c.args.clients.now.items asking at c.index_mut.result.now c.ask_all.new.ended before.asks
    (omega (arith, there, before.asks.0, c.requires.standing.clients_are.0)) c.index_mut.ensures.value c.ask_all.ensures.asks

pub returns-clause-standing : goal.returns-clause-standing
returns-clause-standing g c =
    stand-on g.L.Log.model c.args.script.now c.args.boxes.now.items c.loop-at.boxes.items c.args.clients.now.items c.loop-at.clients.items c.requires.standing
    c.loop-at.invariant.on c.loop-at.invariant.asks

pub returns-clause-asked : goal.returns-clause-asked
returns-clause-asked g c = (
  c.requires.standing.clients_are.0 ∙ c.loop-at.invariant.asks.0,
  λ k client one less.
      c.loop-at.invariant.asked k client one
      (omega (arith, less, c.loop-at-test.false, c.len-at-end.ensures, c.args.script.now.clients.ok.0)),
)

pub returns-clause-closed : goal.returns-clause-closed
returns-clause-closed g c n any less =
    let M = g.L.Log.model in
    let script = c.args.script.now in
    let later =
    stand-on M script c.args.boxes.now.items c.loop-at.boxes.items c.args.clients.now.items c.loop-at.clients.items c.requires.standing c.loop-at.invariant.on
    c.loop-at.invariant.asks in
    closed-box M script.catalog n (get_or c.loop-at.boxes.items n any) (later.boxes_are n any less)
