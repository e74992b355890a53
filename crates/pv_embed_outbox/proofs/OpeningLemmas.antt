-- How an outbox with a host is opened on its host's file, and why it isn't.
use Rattle.std.proofs.Common.{◌≡◌, ℕ, List, ◌++◌, Err, sym, ap, ◌∙◌, subst, append-nil}
use Rattle.pv_disk_model.specs.Size.{Contents}
use Rattle.pv_format.specs.Journal.{IsJournal}
use Rattle.pv_host.specs.HostLog.{HostState, contents_of}
use Rattle.pv_host.specs.HostWrites.{IsOpenedOn}
use Rattle.pv_embed_outbox.specs.Opening.{OpensHosted, RefusesContents}
use Rattle.pv_embed_outbox.specs.declared.fault.OpeningFault.{OpeningFault}
use Rattle.pv_embed_outbox.specs.declared.fault.OpeningFault.TheVariants as fault

-- All that a log holds that has just been opened on a file is what is stored.
pub holds_opened : (file : List ℕ) (limit : ℕ) (log : HostState) → IsOpenedOn file limit log → contents_of log ≡ log.stored
holds_opened file limit log opened =
    ap (λ (l : Contents). log.stored ++ (l ++ log.pending)) opened.asked ∙ ap (λ (l : Contents). log.stored ++ l) opened.pending ∙ append-nil log.stored

-- What is refused for the contents of the file is refused.
pub refused_on : (file : List ℕ) (limit : ℕ) (log : HostState) (reason : OpeningFault) → IsOpenedOn file limit log → RefusesContents (contents_of log) reason
    → OpensHosted file (Err reason)
refused_on file limit log (fault.NotOurs place) opened refuses = absurd refuses
refused_on file limit log (fault.BadRecord index) opened refuses =
    (contents_of log, subst (λ (contents : Contents). IsJournal contents file) (sym (holds_opened file limit log opened)) opened.journal, refuses)
refused_on file limit log fault.NoMemory opened refuses = tt
