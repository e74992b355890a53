use Rattle.std.proofs.Common.{◌≡◌, ◌≢◌, ◌≤◌, List, [], ◌++◌, length, All, ap, sym, subst, ◌∙◌, map, arith}
use Rattle.std.specs.Prelude.{flat_map}
use Rattle.std.proofs.lemmas.List.Elements.{All-append, All-weaker}
use Rattle.pv_disk_model.specs.Size.{size_of}
use Rattle.pv_protocol.specs.Step.{step_on}
use Rattle.pv_site.specs.SiteState.{SiteState, here_with}
use Rattle.pv_site.specs.Values.{input_of, note_of, outgoing_of}
use Rattle.pv_host.specs.HostLog.{HostState, contents_of}
use Rattle.pv_embed.proofs.HostedLemmas.{as_long, held_stepped, still_catalog, still_me, still_running, still_stored, stepped}
use Rattle.pv_embed.proofs.MadeLemmas.{begun-made, made_spelled}
use Rattle.pv_embed.proofs.hosted.HostedSite.step.Goals as goal
use Rattle.pv_embed.specs.Held.{Held}
use Rattle.pv_embed.specs.Hosted.{HasStepped, HostedState}
use Rattle.pv_embed.specs.HostedView.{IsHosted}
use Rattle.pv_embed.specs.Outputs.{AreSpelled, IsSpelled, held_of, outputs_of, outs}
use Rattle.pv_embed.specs.Requests.{begun_first, begun_in}
use Rattle.pv_embed.specs.declared.made.Made.{Made}
use Rattle.pv_site.specs.declared.input.Note.{Note}

pub returns-in-Ok-clause-gives : goal.returns-in-Ok-clause-gives
returns-in-Ok-clause-gives c =
    let inside = c.self.inside in
    let site : SiteState HostState = c.step.new.self in
    let input = input_of c.args.input.now in
    let sends = map outgoing_of c.in-Ok.step.sends.items in
    let notes = map note_of c.in-Ok.step.notes.items in
    let long : c.of.result.length ≡ size_of (contents_of site.log) =
    c.of.ensures.length ∙ c.length-length.ensures ∙ ap (λ (log : HostState). size_of (contents_of log)) c.log.ensures.value in
    let all : outputs_of inside.me.0 c.of.result ≡ outs inside.site.me sends notes = c.of.ensures.outputs inside.me.0 ∙ ap (λ me. outs me sends notes) (sym c.self.invariant.me) in
    let held = held_stepped inside.me.0 inside.made.items c.reserve.new.self.items c.keep.new.queue.items c.of.result (size_of (contents_of site.log)) (outs inside.site.me sends notes)
    c.in_ok-reserve.ensures.items (c.keep.ensures.held inside.me.0) long all in
    subst (λ (old : HostedState). HasStepped old (record { site = record site { log = c.log.result.now }; held = flat_map (held_of inside.me.0) c.keep.new.queue.items }) input) c.self.view_is
    (subst (λ (log : HostState). HasStepped (record { site = inside.site; held = flat_map (held_of inside.me.0) inside.made.items })
    (record { site = record site { log = log }; held = flat_map (held_of inside.me.0) c.keep.new.queue.items }) input) (sym c.log.ensures.value)
    (stepped inside.site site c.self.invariant.running input c.in-Ok.step c.self.invariant.up c.in-Ok.ensures.step (flat_map (held_of inside.me.0) inside.made.items)
    (flat_map (held_of inside.me.0) c.keep.new.queue.items) c.in-Ok.ensures.spelled held))

pub returns-in-Ok-clause-begins : goal.returns-in-Ok-clause-begins
returns-in-Ok-clause-begins c =
    let inside = c.self.inside in
    let site : SiteState HostState = c.step.new.self in
    let sends = map outgoing_of c.in-Ok.step.sends.items in
    let notes = map note_of c.in-Ok.step.notes.items in
    let size = size_of (contents_of site.log) in
    let made : List Held = map (λ out. record { length = size; out = out }) (outs inside.site.me sends notes) in
    let long : c.of.result.length ≡ size =
    c.of.ensures.length ∙ c.length-length.ensures ∙ ap (λ (log : HostState). size_of (contents_of log)) c.log.ensures.value in
    let all : outputs_of inside.me.0 c.of.result ≡ outs inside.site.me sends notes = c.of.ensures.outputs inside.me.0 ∙ ap (λ me. outs me sends notes) (sym c.self.invariant.me) in
    let held = held_stepped inside.me.0 inside.made.items c.reserve.new.self.items c.keep.new.queue.items c.of.result size (outs inside.site.me sends notes)
    c.in_ok-reserve.ensures.items (c.keep.ensures.held inside.me.0) long all in
    let begun : c.begun_first-begun.result ≡ begun_in made =
    c.begun_first-begun.ensures ∙ ap (λ (reports : List Note). begun_first (map note_of reports)) c.deref.ensures.value ∙ sym (begun-made inside.site.me size sends notes) in
    (made, held ∙ ap (λ (old : HostedState). old.held ++ made) c.self.view_is, begun)

pub invariant_of-self-in-Ok : goal.invariant_of-self-in-Ok
invariant_of-self-in-Ok c =
    let inside = c.self.inside in
    let was = c.self.invariant in
    let site : SiteState HostState = c.step.new.self in
    let input = input_of c.args.input.now in
    let answer = c.in-Ok.step in
    let steps = c.in-Ok.ensures.step in
    let sends = map outgoing_of answer.sends.items in
    let notes = map note_of answer.notes.items in
    let size = size_of (contents_of site.log) in
    let long : c.of.result.length ≡ size =
    c.of.ensures.length ∙ c.length-length.ensures ∙ ap (λ (log : HostState). size_of (contents_of log)) c.log.ensures.value in
    let all : outputs_of inside.me.0 c.of.result ≡ outs inside.site.me sends notes = c.of.ensures.outputs inside.me.0 ∙ ap (λ me. outs me sends notes) (sym was.me) in
    let held = held_stepped inside.me.0 inside.made.items c.reserve.new.self.items c.keep.new.queue.items c.of.result size (outs inside.site.me sends notes)
    c.in_ok-reserve.ensures.items (c.keep.ensures.held inside.me.0) long all in
    let grown : size_of (contents_of inside.site.log) ≤ size = as_long inside.site site was.running input answer was.up steps in
    let before : All (λ (made : Made). made.length ≤ size) inside.made.items =
    All-weaker (λ (made : Made). made.length ≤ size_of (contents_of inside.site.log)) (λ (made : Made). made.length ≤ size) (λ made within. omega (arith, within, grown)) inside.made.items
    was.no_longer in
    let same : inside.made.items ≡ c.reserve.new.self.items = sym c.in_ok-reserve.ensures.items in
    subst (λ (log : HostState). IsHosted (record inside { site = record site { log = log }; made = c.keep.new.queue })) (sym c.log.ensures.value)
    (record {
      ready = c.in-Ok.ensures.ready;
      running = (step_on (here_with inside.site was.running) input).running;
      up = still_running inside.site site was.running input answer was.up steps;
      me = still_me inside.site site was.running input answer was.up steps ∙ was.me;
      site = was.site;
      catalog = still_catalog inside.site site was.running input answer was.up steps ∙ was.catalog;
      stored = was.stored ∙ ap size_of (sym (still_stored inside.site site was.running input answer was.up steps));
      records = was.records ∙ ap length (sym (still_stored inside.site site was.running input answer was.up steps));
      some = c.keep.ensures.some inside.me.0 (subst (All (λ (made : Made). outputs_of inside.me.0 made ≢ [])) same was.some);
      no_longer = c.keep.ensures.lengths size (subst (All (λ (made : Made). made.length ≤ size)) same before) (omega (arith, long));
      spelled =
          subst AreSpelled (sym held)
          (All-append (λ (one : Held). IsSpelled one.out) (flat_map (held_of inside.me.0) inside.made.items)
          (map (λ out. record { length = size; out = out }) (outs inside.site.me sends notes)) was.spelled
          (made_spelled inside.site.me size answer.sends.items notes c.in-Ok.ensures.spelled));
    })
