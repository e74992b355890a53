-- What waits comes before what is held, whatever the site does; and all that it is to let out has bytes.
use Rattle.std.proofs.Common.{◌≡◌, refl, sym, ap, subst, ◌∙◌, ℕ, Bool, List, ◌++◌, map, Option, Some, None, Result, Ok, Err, All}
use Rattle.std.proofs.lemmas.List.Elements.{All-append, All-map}
use Rattle.pv_base.specs.Catalog.{Declared}
use Rattle.pv_format.specs.MessageSpelling.{SpellsEnvelope}
use Rattle.pv_law_lines.proofs.NoteItems.{note-fine}
use Rattle.pv_law_step.proofs.Lists.{all-from}
use Rattle.pv_protocol.specs.State as model
use Rattle.pv_protocol.specs.Step.{step_on}
use Rattle.pv_site.specs.Inputs.{IsSpelledFrom}
use Rattle.pv_site.specs.SiteState.{SiteState, here_with}
use Rattle.pv_site.specs.Steps.{HasMade}
use Rattle.pv_site.specs.Values.{outgoing_of}
use Rattle.pv_site.specs.declared.input.Outgoing.{Outgoing}
use Rattle.pv_host.specs.HostLaws.{host_model}
use Rattle.pv_host.specs.HostLog.{HostState}
use Rattle.pv_embed.specs.Held.{Held, Out, message, note}
use Rattle.pv_embed.specs.Hosted.{AsksForGroup, HostedState, HasStepped, Stays, Gives, Writes, log_length}
use Rattle.pv_embed.specs.Outputs.{outs}
use Rattle.pv_embed.specs.Requests.{SubmitsBy, ReceivesBy}
use Rattle.pv_embed.specs.declared.fault.ReceiveFault.{ReceiveFault}
use Rattle.pv_embed.specs.declared.fault.ReceiveFault.TheVariants as receiving
use Rattle.pv_embed.specs.declared.fault.SubmitFault.{SubmitFault}
use Rattle.pv_embed.specs.declared.fault.SubmitFault.TheVariants as submitting
use Rattle.pv_handle.specs.ByteSite.{CanGive}
use Rattle.pv_handle.specs.Waiting.{waits_before}
use Rattle.pv_handle.specs.declared.bytes.Waiting.{Waiting}

abbrev pub front : Option Waiting → HostedState → HostedState
front waiting hosted = record hosted { held = waits_before waiting hosted.held }

pub append-front : (waiting : Option Waiting) (held more : List Held) → waits_before waiting (held ++ more) ≡ waits_before waiting held ++ more
append-front None held more = refl
append-front (Some waits) held more = refl

module _ (waiting : Option Waiting) (old new : HostedState) where
  pub stepped-front : (input : model.Input) → HasStepped old new input → HasStepped (front waiting old) (front waiting new) input
  stepped-front input stepped = record {
    running = stepped.running;
    was = stepped.was;
    answer = stepped.answer;
    steps = stepped.steps;
    spelled = stepped.spelled;
    held = ap (waits_before waiting) stepped.held ∙ append-front waiting old.held _;
  }

  pub stays-front : Stays old new → Stays (front waiting old) (front waiting new)
  stays-front stays = (stays.0, ap (front waiting) stays.1)

  pub writes-front : Writes old new → Writes (front waiting old) (front waiting new)
  writes-front writes = record { log = writes.log; same = ap (front waiting) writes.same }

  pub asks-front : (room : ℕ) → AsksForGroup room old new → AsksForGroup room (front waiting old) (front waiting new)
  asks-front room asks = record { log = asks.log; same = ap (front waiting) asks.same }

  pub gives-front : {X E : Type 0} (input : model.Input) (result : Result X E) → Gives old new input result → Gives (front waiting old) (front waiting new) input result
  gives-front input (Ok x) stepped = stepped-front input stepped
  gives-front input (Err error) stays = stays-front stays

  pub submits-front : {X : Type 0} (text : List ℕ) (query : Bool) (result : Result X SubmitFault) → SubmitsBy old new text query result
      → SubmitsBy (front waiting old) (front waiting new) text query result
  submits-front text query (Ok x) submits = (submits.0, submits.1, submits.2, stepped-front (model.submit submits.0) submits.3)
  submits-front text query (Err (submitting.Text error)) refused = (ap (front waiting) refused.0, refused.1)
  submits-front text query (Err (submitting.Program error)) refused = (ap (front waiting) refused.0, refused.1)
  submits-front text query (Err submitting.NoMemory) stays = stays-front stays

  pub receives-front : {X : Type 0} (bytes : List ℕ) (result : Result X ReceiveFault) → ReceivesBy old new bytes result
      → ReceivesBy (front waiting old) (front waiting new) bytes result
  receives-front bytes (Ok x) receives =
      (receives.0, receives.1, receives.2, receives.3, stepped-front (model.receive receives.0.from receives.0.message) receives.4)
  receives-front bytes (Err (receiving.Malformed error)) refused = (ap (front waiting) refused.0, refused.1)
  receives-front bytes (Err receiving.NotForHere) refused = (ap (front waiting) refused.0, refused.1)
  receives-front bytes (Err receiving.NoSender) refused = (ap (front waiting) refused.0, refused.1)
  receives-front bytes (Err receiving.NoMemory) stays = stays-front stays

-- All that the site is to let out has bytes.
abbrev pub IsGivable : HostedState → Type 0
IsGivable hosted = All (λ (held : Held). CanGive hosted.site.me hosted.site.catalog held.out) hosted.held

-- What a step sends and reports has bytes.
module _ (me : ℕ) (catalog : Declared) where
  abbrev Good : Out → Type 0
  Good out = CanGive me catalog out

  abbrev IsSpelled : model.Outgoing → Type 0
  IsSpelled sent = (bytes : List ℕ) × SpellsEnvelope (record { from = me; to = sent.to; message = sent.message }) bytes

  abbrev in_message : model.Outgoing → Out
  in_message sent = message (record { from = me; to = sent.to; message = sent.message })

  outs-good : (sends : List model.Outgoing) (notes : List model.Note) → All IsSpelled sends → All (λ (reported : model.Note). Good (note reported)) notes → All Good (outs me sends notes)
  outs-good sends notes spelled fine =
      All-append Good (map in_message sends) (map note notes) (All-map Good in_message sends spelled) (All-map Good note notes fine)

  sends-spelled : (sends : List Outgoing) (sent : List model.Outgoing) → map outgoing_of sends ≡ sent → All (IsSpelledFrom me) sends → All IsSpelled sent
  sends-spelled sends sent is spelled = subst (All IsSpelled) is (All-map IsSpelled outgoing_of sends spelled)

module _ (old new : HostedState) (input : model.Input) (stepped : HasStepped old new input) where
  made : HasMade host_model old.site new.site stepped.answer (step_on (here_with old.site stepped.running) input)
  made = stepped.steps

  same-me : new.site.me ≡ old.site.me
  same-me = ap (λ (site : SiteState HostState). site.me) made.site

  same-catalog : new.site.catalog ≡ old.site.catalog
  same-catalog = ap (λ (site : SiteState HostState). site.catalog) made.site

  abbrev step : model.Step
  step = step_on (here_with old.site stepped.running) input

  made-good : All (CanGive old.site.me old.site.catalog) (outs old.site.me step.sends step.notes)
  made-good =
      outs-good old.site.me old.site.catalog step.sends step.notes
      (sends-spelled old.site.me old.site.catalog stepped.answer.sends.items step.sends made.answered.sends stepped.spelled)
      (all-from (λ (reported : model.Note). CanGive old.site.me old.site.catalog (note reported)) step.notes
      (λ reported noted. note-fine (here_with old.site stepped.running) input old.site.me reported noted))

  abbrev in_held : Out → Held
  in_held out = record { length = log_length new; out = out }

  pub stepped-givable : IsGivable old → IsGivable new
  stepped-givable givable =
      subst (λ (catalog : Declared). All (λ (held : Held). CanGive new.site.me catalog held.out) new.held) (sym same-catalog)
      (subst (λ (me : ℕ). All (λ (held : Held). CanGive me old.site.catalog held.out) new.held) (sym same-me)
      (subst (All (λ (held : Held). CanGive old.site.me old.site.catalog held.out)) (sym stepped.held)
      (All-append (λ (held : Held). CanGive old.site.me old.site.catalog held.out) old.held (map in_held (outs new.site.me step.sends step.notes)) givable
      (All-map (λ (held : Held). CanGive old.site.me old.site.catalog held.out) in_held (outs new.site.me step.sends step.notes)
      (subst (λ (me : ℕ). All (CanGive old.site.me old.site.catalog) (outs me step.sends step.notes)) (sym same-me) made-good)))))

-- What stays, or only has its log written, is as it was.
pub same-givable : (old new : HostedState) (log : HostState) → new ≡ record old { site = record old.site { log = log } } → IsGivable old → IsGivable new
same-givable old new log is givable = subst IsGivable (sym is) givable
