-- What follows a journal in its file doesn't matter to an opening.
use Rattle.std.proofs.Common.{◌≡◌, false, ap, subst, ◌∙◌, ℕ, List, ◌∷◌, ◌++◌, Result, Ok, Err, append_assoc, take, drop}
use Rattle.std.proofs.lemmas.List.{take-append-drop}
use Rattle.pv_disk_model.specs.Size.{Contents}
use Rattle.pv_embed.specs.Hosted.{HostedState}
use Rattle.pv_embed.specs.Opening.{OpensHosted, RefusesJournal}
use Rattle.pv_embed.specs.declared.fault.OpenFault.{OpenFault}
use Rattle.pv_embed.specs.declared.fault.OpenFault.TheVariants as fault
use Rattle.pv_format.specs.Journal.{IsJournal, header, records_of}
use Rattle.pv_host.specs.HostLog.{HostState}
use Rattle.pv_host.specs.HostWrites.{IsOpenedOn}
use Rattle.pv_handle.specs.Opening.{is_not_ours}

module _ (front back : List ℕ) where
  longer : (contents : Contents) → IsJournal contents front → IsJournal contents (front ++ back)
  longer contents journal = record {
    short = journal.short;
    gate = journal.gate;
    rest = journal.rest ++ back;
    closed = journal.closed;
    is = ap (λ (bytes : List ℕ). bytes ++ back) journal.is
        ∙ (append_assoc header (records_of contents ++ journal.gate ∷ journal.rest) back
        ∙ ap (λ (bytes : List ℕ). header ++ bytes) (append_assoc (records_of contents) (journal.gate ∷ journal.rest) back));
  }

  opened-longer : (limit : ℕ) (log : HostState) → IsOpenedOn front limit log → IsOpenedOn (front ++ back) limit log
  opened-longer limit log opened = record {
    journal = longer log.stored opened.journal;
    asked = opened.asked;
    pending = opened.pending;
    behind_gate = opened.behind_gate;
    limit_is = opened.limit_is;
    up = opened.up;
    unread = opened.unread;
  }

  refused-longer : (config : List ℕ) (me : ℕ) (reason : OpenFault) → RefusesJournal config me front reason → RefusesJournal config me (front ++ back) reason
  refused-longer config me reason refused = (refused.0, refused.1, refused.2, (refused.3.0, longer refused.3.0 refused.3.1, refused.3.2))

  opens-front : (config : List ℕ) (me : ℕ) (result : Result HostedState OpenFault) → is_not_ours result ≡ false
      → OpensHosted config me front result → OpensHosted config me (front ++ back) result
  opens-front config me (Ok hosted) ours opened = record {
    schedule = opened.schedule;
    configured = opened.configured;
    known = opened.known;
    log = opened.log;
    opened_on = opened-longer opened.schedule.catalog.journal opened.log opened.opened_on;
    opened = opened.opened;
    held = opened.held;
  }
  opens-front config me (Err fault.NoMemory) ours refused = refused
  opens-front config me (Err fault.TooLong) ours refused = refused
  opens-front config me (Err (fault.Malformed line cause)) ours refused = refused
  opens-front config me (Err fault.HasEvents) ours refused = refused
  opens-front config me (Err fault.NoSite) ours refused = refused
  opens-front config me (Err (fault.NotOurs place)) ours refused = absurd (let wrong : ⊥ = cc in wrong)
  opens-front config me (Err (fault.BadRecord index)) ours refused = refused-longer config me (fault.BadRecord index) refused
  opens-front config me (Err (fault.TooManyOutcomes count)) ours refused = refused-longer config me (fault.TooManyOutcomes count) refused
  opens-front config me (Err fault.EpochsSpent) ours refused = refused-longer config me fault.EpochsSpent refused
  opens-front config me (Err (fault.Full length)) ours refused = refused-longer config me (fault.Full length) refused

-- A file whose first bytes are a journal is opened, or refused, as these bytes are.
pub opens_longer : (config : List ℕ) (me n : ℕ) (file : List ℕ) (result : Result HostedState OpenFault) → is_not_ours result ≡ false
    → OpensHosted config me (take n file) result → OpensHosted config me file result
opens_longer config me n file result ours opens =
    subst (λ (bytes : List ℕ). OpensHosted config me bytes result) (take-append-drop n file) (opens-front (take n file) (drop n file) config me result ours opens)
