-- A question for an outcome changes nothing at the site, and its answer says what became of the transaction.
use Rattle.std.proofs.Common.{◌≡◌, ◌≢◌, ◌↔◌, ◌⊎◌, inl, inr, ℕ, ◌<◌, ◌≤◌, ◌^◌, Bool, true, false, List, ◌++◌, Option, Some, None, Ok, map, is_some, refl, sym, ◌∙◌, ap, subst, append-nil, arith}
use Rattle.std.specs.Option.{option_to_list}
use Rattle.pv_base.specs.declared.limits.TheConstants.{MAX_SITES}
use Rattle.pv_base.specs.declared.txn.TxnId.{TxnId}
use Rattle.pv_format.specs.Message.{Envelope, ask}
use Rattle.pv_format.specs.MessageSpelling.{SpellsEnvelope}
use Rattle.pv_format.specs.Range.{IsEnvelopeInRange}
use Rattle.pv_format.specs.Record.{Record}
use Rattle.pv_law_step.proofs.StepCases.{ask-case}
use Rattle.pv_law_step.specs.OutcomeCases as case
use Rattle.pv_law_step.specs.OutcomeCases.{AskCase}
use Rattle.pv_protocol.specs.Committed.{entry_in}
use Rattle.pv_protocol.specs.Here.{Here}
use Rattle.pv_protocol.specs.Outcome.{is_issued, on_ask, works_on}
use Rattle.pv_protocol.specs.Records.{known}
use Rattle.pv_protocol.specs.State as model
use Rattle.pv_protocol.specs.State.{Running, receive}
use Rattle.pv_protocol.specs.Step.{records_after}
use Rattle.pv_site.specs.OnLog.{Logs}
use Rattle.pv_site.specs.SiteState.{SiteState, here_with}
use Rattle.pv_site.specs.Steps as site
use Rattle.pv_site.specs.Steps.{Steps}
use Rattle.pv_site.specs.Values.{outgoing_of}
use Rattle.pv_site.specs.declared.input.Step.{Step}
use Rattle.pv_host.specs.HostLaws.{host_model}
use Rattle.pv_host.specs.HostLog.{HostState}
use Rattle.pv_embed.proofs.ReadLemmas.{me_is}
use Rattle.pv_embed.specs.Hosted.{HostedState, log_length, stored_length}
use Rattle.pv_embed.specs.HostedView.{IsHosted, hosted_of}
use Rattle.pv_embed.specs.Outcomes.{IsNotBegun, MayTell, own_txn, reported}
use Rattle.pv_embed.specs.declared.hosted.HostedSite.TheInside.{Inside}

-- The question has a spelling.
pub question_spelled : (me mine sites epoch number : ℕ) → mine ≡ me → me < sites → sites ≤ MAX_SITES → epoch < 2 ^ 32 → number < 2 ^ 32
    → ((envelope : Envelope) → ((bytes : List ℕ) × SpellsEnvelope envelope bytes) ↔ IsEnvelopeInRange envelope)
    → (bytes : List ℕ) × SpellsEnvelope (record { from = me; to = mine; message = ask (own_txn me epoch number) }) bytes
question_spelled me mine sites epoch number same below few epoch_fits number_fits spelled =
    let in_range : me < MAX_SITES = omega (arith, below, few) in
    (spelled (record { from = me; to = mine; message = ask (own_txn me epoch number) })).1 (record {
      from = in_range;
      to = omega (arith, same, in_range);
      txn = record { site = in_range; epoch = epoch_fits; number = number_fits };
      body = tt;
    })

-- A step on a question changes nothing, and records nothing.
quiet_step : (here : Here) (from : ℕ) (txn : TxnId) (step : model.Step) → AskCase here from txn step → (step.running ≡ here.running) × (step.appended ≡ None)
quiet_step here from txn step (case.not_issued issued) = (refl, refl)
quiet_step here from txn step (case.has_committed issued commits) = (refl, refl)
quiet_step here from txn step (case.still_works issued other works) = (refl, refl)
quiet_step here from txn step (case.will_not_commit issued other works) = (refl, refl)

-- What an answer to a question says of the transaction, and what none says.
abbrev pub Says : Here → TxnId → Option Bool → Type 0
Says here txn (Some true) = (is_issued here txn ≡ true) × (known here.records txn ≡ Some true)
Says here txn (Some false) = (is_issued here txn ≡ true) × (known here.records txn ≢ Some true) × (works_on here.running txn ≡ false)
Says here txn None =
    (is_issued here txn ≡ false) ⊎ ((known here.records txn ≢ Some true) × (works_on here.running txn ≡ true))

step_says : (here : Here) (from : ℕ) (txn : TxnId) (step : model.Step) → AskCase here from txn step → Says here txn (reported step.sends)
step_says here from txn step (case.not_issued issued) = inl issued
step_says here from txn step (case.has_committed issued commits) = (issued, commits)
step_says here from txn step (case.still_works issued other works) = inr (other, works)
step_says here from txn step (case.will_not_commit issued other works) = (issued, other, works)

answer_says : (here : Here) (from : ℕ) (txn : TxnId) (answer : Option Bool) → answer ≡ reported (on_ask here from txn).sends → Says here txn answer
answer_says here from txn answer is = subst (Says here txn) (sym is) (step_says here from txn (on_ask here from txn) (ask-case here from txn))

module _ (old new : SiteState HostState) (running : Running) (from : ℕ) (txn : TxnId) (answer : Step) (up : old.running ≡ Some running)
    (steps : Steps host_model old new old.running (receive from (ask txn)) (Ok answer)) where
  asked_step : site.HasMade host_model old new answer (on_ask (here_with old running) from txn)
  asked_step = subst (λ (r : Option Running). Steps host_model old new r (receive from (ask txn)) (Ok answer)) up steps

  quiet : ((on_ask (here_with old running) from txn).running ≡ running) × ((on_ask (here_with old running) from txn).appended ≡ None)
  quiet = quiet_step (here_with old running) from txn (on_ask (here_with old running) from txn) (ask-case (here_with old running) from txn)

  -- The site is as it was.
  pub same_site : new ≡ old
  same_site =
      let step = on_ask (here_with old running) from txn in
      let log : new.log ≡ old.log = subst (λ (appended : Option Record). Logs host_model old.log new.log appended) quiet.1 asked_step.log in
      let records : records_after old.records step ≡ old.records =
      ap (λ (appended : Option Record). old.records ++ option_to_list appended) quiet.1 ∙ append-nil old.records in
      asked_step.site
      ∙ ap (λ (records : List Record). record old { records = records; running = Some step.running; log = new.log }) records
      ∙ ap (λ (now : Running). record old { running = Some now; log = new.log }) quiet.0
      ∙ ap (λ (now : Option Running). record old { running = now; log = new.log }) (sym up)
      ∙ ap (λ (log : HostState). record old { log = log }) log

  pub same_answer : (told : Option Bool) → told ≡ reported (map outgoing_of answer.sends.items) → told ≡ reported (on_ask (here_with old running) from txn).sends
  same_answer told is = is ∙ ap reported asked_step.answered.sends

-- Whether the site works on a transaction, by what is asked of it.
pub works_is : (running : Running) (state : Option Running) (txn : TxnId) (works : Bool) → state ≡ Some running → works ≡ is_some (entry_in state txn)
    → works ≡ works_on running txn
works_is running state txn works up is = is ∙ ap (λ (r : Option Running). is_some (entry_in r txn)) up

-- What is said of a transaction of the site, by what the site answers of one that has its numbers.
pub answered : (state : SiteState HostState) (txn : TxnId) (running : Running) (told : Option Bool) → txn.site.0 ≡ state.me
    → told ≡ reported (on_ask (here_with state running) state.me (own_txn state.me txn.epoch txn.number)).sends → Says (here_with state running) txn told
answered state txn running told own is =
    answer_says (here_with state running) state.me txn told
    (is ∙ ap (λ (site : ℕ). reported (on_ask (here_with state running) state.me (own_txn site txn.epoch txn.number)).sends) (sym own))

-- Where nothing is answered, the site works on the transaction, or it is not begun.
pub at_work : (here : Here) (txn : TxnId) → Says here txn None → works_on here.running txn ≡ true → is_issued here txn ≡ true → known here.records txn ≢ Some true
at_work here txn (inl not_issued) works issued = absurd (let wrong : ⊥ = cc in wrong)
at_work here txn (inr says) works issued = says.0

pub not_begun : (here : Here) (txn : TxnId) → Says here txn None → works_on here.running txn ≡ false → IsNotBegun here txn
not_begun here txn (inl not_issued) idle = record { not_issued = not_issued; idle = idle }
not_begun here txn (inr says) idle = absurd (let works = says.1 in let wrong : ⊥ = cc in wrong)

-- Of a transaction of the site something may be told where the log is no longer than what is stored.
pub may_tell : (inside : Inside) (now : HostedState) (view_is : hosted_of inside ≡ now) → IsHosted inside → (txn : TxnId) → txn.site.0 ≡ inside.me.0
    → log_length (hosted_of inside) ≤ inside.stored → MayTell now txn
may_tell inside now view_is was txn own short = record {
  here = own ∙ me_is inside now view_is was;
  written = subst (λ (hosted : HostedState). log_length hosted ≤ stored_length hosted) view_is (omega (arith, short, was.stored));
}
