-- What a site with a host is after a step and after a write of its host.
use Rattle.std.proofs.Common.{◌≡◌, inl, inr, ℕ, ◌+◌, ◌<◌, ◌≤◌, Bool, true, false, not, List, [], ◌∷◌, ◌++◌, Option, Some, None, Ok, MatchBool, map, refl, sym, ◌∙◌, ap, subst, append_assoc, length, ◌^◌, arith, All}
use Rattle.std.specs.Prelude.{flat_map}
use Rattle.pv_base.specs.declared.limits.TheConstants.{MAX_LENGTH}
use Rattle.pv_format.specs.Record.{Record}
use Rattle.pv_disk_model.specs.Calls.{LogCall, Makes, read_all, reserve, append}
use Rattle.pv_disk_model.specs.Size.{Contents, size_of}
use Rattle.pv_protocol.specs.State as model
use Rattle.pv_protocol.specs.State.{Running}
use Rattle.pv_protocol.specs.Step.{step_on}
use Rattle.pv_site.specs.Inputs.{IsSpelledFrom}
use Rattle.pv_site.specs.OnLog.{Logs}
use Rattle.pv_site.specs.SiteState.{SiteState, here_with}
use Rattle.pv_site.specs.Steps as step
use Rattle.pv_site.specs.Steps.{HoldsWhatRuns, IsReady, Steps}
use Rattle.pv_site.specs.Values.{note_of, outgoing_of}
use Rattle.pv_site.specs.declared.input.Step.{Step}
use Rattle.pv_host.specs.HostLaws.{host_model}
use Rattle.pv_host.specs.HostLog.{HostGoes, HostState, IsSameBesideRoom, asked_after, contents_of, with_asked, with_content, with_written, written_to}
use Rattle.pv_embed.specs.Held.{Held, Out}
use Rattle.pv_embed.specs.Hosted.{HasStepped}
use Rattle.pv_embed.specs.Outputs.{held_of, outputs_of, outs}
use Rattle.pv_embed.specs.declared.made.Made.{Made}

-- What follows from both of what a call makes of a log that is down and of one that isn't.
either_way : (A B C : Type 0) (down : Bool) → (A → C) → (B → C) → MatchBool down A B → C
either_way A B C true where_down where_up is = where_down is
either_way A B C false where_down where_up is = where_up is

-- No call of the log changes what the host has told to be stored.
stored_called : (old new : HostState) (call : LogCall) (ok : Bool) → HostGoes old call ok new → new.stored ≡ old.stored
stored_called old new read_all ok goes =
    either_way ((ok ≡ false) × (new ≡ old)) ((ok ≡ not old.is_read) × (new ≡ record old { is_read = true; is_down = old.is_read })) (new.stored ≡ old.stored) old.is_down
    (λ down. ap (λ (log : HostState). log.stored) down.1) (λ up. ap (λ (log : HostState). log.stored) up.1) goes
stored_called old new (reserve content) ok goes = ap (λ (log : HostState). log.stored) goes
stored_called old new (append content) ok goes =
    either_way ((ok ≡ false) × (new ≡ old)) ((length content < 2 ^ 32) × (ok ≡ true) × IsSameBesideRoom (with_content old content) new) (new.stored ≡ old.stored) old.is_down
    (λ down. ap (λ (log : HostState). log.stored) down.1) (λ up. ap (λ (log : HostState). log.stored) up.2) goes

pub stored_after : (calls : List LogCall) (old new : HostState) (ok : Bool) → Makes HostGoes old calls ok new → new.stored ≡ old.stored
stored_after [] old new ok makes = ap (λ (log : HostState). log.stored) makes.1
stored_after (call ∷ calls) old new ok (inl fails) = stored_called old new call false fails.1
stored_after (call ∷ calls) old new ok (inr goes) = stored_after calls goes.0 new ok goes.2 ∙ stored_called old goes.0 call true goes.1

-- Nor does a step, and the log becomes no shorter by it.
pub stored_logged : (appended : Option Record) (old new : HostState) → Logs host_model old new appended → new.stored ≡ old.stored
stored_logged None old new same = ap (λ (log : HostState). log.stored) same
stored_logged (Some appended) old new logs = stored_after (reserve (length logs.1.0) ∷ append logs.1.0 ∷ []) old new true logs.1.3

pub no_shorter : (appended : Option Record) (old new : HostState) → Logs host_model old new appended → size_of (contents_of old) ≤ size_of (contents_of new)
no_shorter None old new same =
    let is : size_of (contents_of new) ≡ size_of (contents_of old) = ap (λ (log : HostState). size_of (contents_of log)) same in omega (arith, is)
no_shorter (Some appended) old new logs =
    let grown : size_of (contents_of new) ≡ size_of (contents_of old) + (5 + length logs.1.0) = logs.1.2.size in omega (arith, grown)

module _ (old new : SiteState HostState) (running : Running) (input : model.Input) (answer : Step) (up : old.running ≡ Some running)
    (steps : Steps host_model old new old.running input (Ok answer)) where
  made_step : step.HasMade host_model old new answer (step_on (here_with old running) input)
  made_step = subst (λ (r : Option Running). Steps host_model old new r input (Ok answer)) up steps

  pub still_stored : new.log.stored ≡ old.log.stored
  still_stored = stored_logged _ old.log new.log made_step.log

  pub as_long : size_of (contents_of old.log) ≤ size_of (contents_of new.log)
  as_long = no_shorter _ old.log new.log made_step.log

  pub still_running : new.running ≡ Some (step_on (here_with old running) input).running
  still_running = ap (λ (site : SiteState HostState). site.running) made_step.site

  pub still_me : new.me ≡ old.me
  still_me = ap (λ (site : SiteState HostState). site.me) made_step.site

  pub still_catalog : new.catalog ≡ old.catalog
  still_catalog = ap (λ (site : SiteState HostState). site.catalog) made_step.site

  -- The site has stepped, where what the step sends and reports is held with the length that the log has then.
  pub stepped : (before after : List Held) → All (IsSpelledFrom old.me) answer.sends.items
      → after ≡ before ++ map (λ out. record { length = size_of (contents_of new.log); out = out }) (outs old.me (map outgoing_of answer.sends.items) (map note_of answer.notes.items))
      → HasStepped (record { site = old; held = before }) (record { site = new; held = after }) input
  stepped before after spelled is =
      let model_step = step_on (here_with old running) input in
      let answered = made_step.answered in
      let same : outs old.me (map outgoing_of answer.sends.items) (map note_of answer.notes.items) ≡ outs new.me model_step.sends model_step.notes =
      ap (λ (sends : List model.Outgoing). outs old.me sends (map note_of answer.notes.items)) answered.sends
      ∙ ap (λ (notes : List model.Note). outs old.me model_step.sends notes) answered.notes
      ∙ ap (λ me. outs me model_step.sends model_step.notes) (sym still_me) in
      record {
        running = running;
        was = up;
        answer = answer;
        steps = made_step;
        spelled = spelled;
        held = is ∙ ap (λ (l : List Out). before ++ map (λ out. record { length = size_of (contents_of new.log); out = out }) l) same;
      }

-- What is held after a step that has kept what it made.
pub held_stepped : (me : ℕ) (before queue after : List Made) (made : Made) (size : ℕ) (out : List Out) → queue ≡ before
    → flat_map (held_of me) after ≡ flat_map (held_of me) queue ++ held_of me made → made.length ≡ size → outputs_of me made ≡ out
    → flat_map (held_of me) after ≡ flat_map (held_of me) before ++ map (λ one. record { length = size; out = one }) out
held_stepped me before queue after made size out same grown long all =
    grown
    ∙ ap (λ (q : List Made). flat_map (held_of me) q ++ held_of me made) same
    ∙ ap (λ n. flat_map (held_of me) before ++ map (λ one. record { length = n; out = one }) (outputs_of me made)) long
    ∙ ap (λ (l : List Out). flat_map (held_of me) before ++ map (λ one. record { length = size; out = one }) l) all

-- What the log holds is the same once the host has written, and so are its limit and whether it is down.
written_contents : (log : HostState) (asked : Contents) (behind_gate : Bool) → log.asked ≡ asked → contents_of (written_to log asked behind_gate) ≡ contents_of log
written_contents log [] behind_gate is = refl
written_contents log (first ∷ later) false is = refl
written_contents log (first ∷ later) true is =
    append_assoc log.stored (first ∷ later) log.pending ∙ ap (λ (l : Contents). log.stored ++ (l ++ log.pending)) (sym is)

written_limit : (log : HostState) (asked : Contents) (behind_gate : Bool) → (written_to log asked behind_gate).limit ≡ log.limit
written_limit log [] behind_gate = refl
written_limit log (first ∷ later) false = refl
written_limit log (first ∷ later) true = refl

written_down : (log : HostState) (asked : Contents) (behind_gate : Bool) → (written_to log asked behind_gate).is_down ≡ log.is_down
written_down log [] behind_gate = refl
written_down log (first ∷ later) false = refl
written_down log (first ∷ later) true = refl

-- What is stored, the limit and whether it is down are the same where it is asked to write.
asked_stored : (room : ℕ) (log : HostState) (asked : Contents) → (asked_after room log asked).stored ≡ log.stored
asked_stored room log [] = refl
asked_stored room log (first ∷ later) = refl

asked_limit : (room : ℕ) (log : HostState) (asked : Contents) → (asked_after room log asked).limit ≡ log.limit
asked_limit room log [] = refl
asked_limit room log (first ∷ later) = refl

asked_down : (room : ℕ) (log : HostState) (asked : Contents) → (asked_after room log asked).is_down ≡ log.is_down
asked_down room log [] = refl
asked_down room log (first ∷ later) = refl

holds_still : (old new : HostState) (surplus : ℕ) (records : List Record) (running : Option Running) → contents_of new ≡ contents_of old → new.is_down ≡ old.is_down
    → HoldsWhatRuns host_model old surplus records running → HoldsWhatRuns host_model new surplus records running
holds_still old new surplus records None same down holds = tt
holds_still old new surplus records (Some running) same down holds = record {
  up = down ∙ holds.up;
  size = ap size_of same ∙ holds.size;
  held = λ contents is. holds.held contents (ap Some (sym same) ∙ is);
}

module _ (site : SiteState HostState) (log : HostState) (same : IsSameBesideRoom (with_written site.log) log) where
  pub contents_written : contents_of log ≡ contents_of site.log
  contents_written = ap contents_of same ∙ written_contents site.log site.log.asked site.log.behind_gate refl

  pub ready_written : IsReady host_model site → IsReady host_model (record site { log = log })
  ready_written ready =
      let down = ap (λ (l : HostState). l.is_down) same ∙ written_down site.log site.log.asked site.log.behind_gate in
      let limit = ap (λ (l : HostState). l.limit) same ∙ written_limit site.log site.log.asked site.log.behind_gate in
      record {
        intact = subst (λ (l : Contents). size_of l ≤ MAX_LENGTH) (sym contents_written) ready.intact;
        limit = limit ∙ ready.limit;
        holds = holds_still site.log log site.surplus site.records site.running contents_written down ready.holds;
      }

module _ (site : SiteState HostState) (room : ℕ) (log : HostState) (same : log ≡ with_asked room site.log) where
  pub stored_asked : log.stored ≡ site.log.stored
  stored_asked = ap (λ (l : HostState). l.stored) same ∙ asked_stored room site.log site.log.asked

  pub ready_asked : contents_of log ≡ contents_of site.log → IsReady host_model site → IsReady host_model (record site { log = log })
  ready_asked keeps ready =
      let down = ap (λ (l : HostState). l.is_down) same ∙ asked_down room site.log site.log.asked in
      let limit = ap (λ (l : HostState). l.limit) same ∙ asked_limit room site.log site.log.asked in
      record {
        intact = subst (λ (l : Contents). size_of l ≤ MAX_LENGTH) (sym keeps) ready.intact;
        limit = limit ∙ ready.limit;
        holds = holds_still site.log log site.surplus site.records site.running keeps down ready.holds;
      }
