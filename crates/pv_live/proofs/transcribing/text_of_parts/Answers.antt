-- Each part is put behind those before it.
use Rattle.std.proofs.Common.{◌≡◌, ◌++◌, List, sym, subst}
use Rattle.pv_script.specs.declared.live.Client.{Client}
use Rattle.pv_transcript.specs.Heard.{clients_text}
use Rattle.pv_live.proofs.PrintLemmas.{four-parts}
use Rattle.pv_live.specs.Told.{AreFew, heard_of}
use Rattle.pv_live.proofs.transcribing.text_of_parts.Goals as goal

pub push_clients-requires-clause-few : goal.push_clients-requires-clause-few
push_clients-requires-clause-few c = subst (λ (clients : List Client). AreFew clients c.args.told.now) (sym c.deref.ensures.value) c.requires.few

pub returns : goal.returns
returns c =
    let catalog = c.args.script.now.catalog in
    let before = c.push_clients_heading.new.text.items in
    let after = c.push_clients.new.text.items in
    let lines : after ≡ before ++ clients_text catalog 0 (heard_of c.args.script.now.clients.items c.args.told.now) =
    subst (λ (clients : List Client). after ≡ before ++ clients_text catalog 0 (heard_of clients c.args.told.now)) c.deref.ensures.value c.in_ok-push_clients.ensures in
    four-parts c.new-text.result.items c.push_schedule.new.text.items before after c.push_answers.new.text.items _ _ _ _
    c.new-text.ensures.items c.in_ok-push_schedule.ensures.text c.in_ok-push_clients_heading.ensures.text lines c.in_ok-push_answers.ensures.text
