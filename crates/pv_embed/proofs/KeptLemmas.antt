-- What of a site's records stays in its host's file.
use Rattle.std.proofs.Common.{◌≡◌, inl, inr, ℕ, ◌+◌, ◌≤◌, Bool, true, false, List, length, [], ◌∷◌, ◌++◌, Option, Some, None, Result, Ok, Err, map, refl, sym, ◌∙◌, ap, subst, arith}
use Rattle.std.specs.List.{sum_by}
use Rattle.std.proofs.lemmas.List.Elements.{All-nil, All-cons}
use Rattle.std.proofs.lemmas.List.Sums.{sum_by-cons}
use Rattle.pv_base.specs.Answer.{HasOneAnswer}
use Rattle.pv_format.specs.Contents.{SpellRecords}
use Rattle.pv_format.specs.Record.{Record}
use Rattle.pv_disk_model.specs.Calls.{LogCall, Makes, append, reserve}
use Rattle.pv_disk_model.specs.Size.{Contents, size_of}
use Rattle.pv_format.specs.Journal.{IsJournal, IsNotOurs}
use Rattle.pv_law_step.proofs.JournalLemmas.{longer-sum}
use Rattle.pv_protocol.specs.Records.{journal_bytes, record_bytes, longer_journal}
use Rattle.pv_protocol.specs.State as model
use Rattle.pv_protocol.specs.Step.{step_on}
use Rattle.pv_site.specs.OnLog.{Logs}
use Rattle.pv_site.specs.declared.error.StepError.{StepError}
use Rattle.pv_site.specs.declared.error.StepError.TheVariants.{Fault, Down, NoMemory}
use Rattle.pv_site.specs.declared.input.Step.{Step}
use Rattle.pv_site.specs.SiteState.{SiteState, here_with}
use Rattle.pv_site.specs.Steps.{HoldsWhatRuns, IsReady, Steps}
use Rattle.pv_host.specs.HostFile.{HoldsStored, IsFile, IsStored}
use Rattle.pv_host.specs.HostLaws.{host_model}
use Rattle.pv_host.specs.HostLog.{HostGoes, HostState, IsSameBesideRoom, contents_of, next_write, with_written, write_after, written_to}
use Rattle.pv_embed.specs.Held.{Held, Out}
use Rattle.pv_embed.specs.Hosted.{HasStepped, HostedState, TakesNext, log_length, stored_length}
use Rattle.pv_embed.specs.Kept.{HoldsStoredRecords, RestOn}
use Rattle.pv_embed.specs.Outputs.{TakesFrom, outs}
use Rattle.pv_embed.specs.declared.made.Output.{Output}

-- The first of the contents spell the first of the records, and the others the others.
pub first_spelled : (records : List Record) (contents later : Contents) → SpellRecords records (contents ++ later)
    → (first : List Record) × (others : List Record) × SpellRecords first contents × SpellRecords others later × (records ≡ first ++ others)
first_spelled records [] later spelled = ([], records, tt, spelled, refl)
first_spelled [] (content ∷ contents) later spelled = absurd spelled
first_spelled (record_ ∷ records) (content ∷ contents) later spelled =
    let rest = first_spelled records contents later spelled.1 in
    (record_ ∷ rest.0, rest.1, (spelled.0, rest.2), rest.3, ap (λ (l : List Record). record_ ∷ l) rest.4)

-- A file that holds the first of the log's contents holds the first of the site's records.
pub records_held : (fronts : (records others : List Record) (contents later : Contents) → SpellRecords others later
    → size_of contents + journal_bytes (records ++ others) ≤ size_of (contents ++ later) + journal_bytes records) (hosted : HostedState) (running : model.Running) (file : List ℕ) → IsReady host_model hosted.site → hosted.site.running ≡ Some running
    → HoldsStored hosted.site.log file → IsStored hosted.site.log file → HoldsStoredRecords hosted file
records_held fronts hosted running file ready up held stored =
    let holds = subst (λ r. HoldsWhatRuns host_model hosted.site.log hosted.site.surplus hosted.site.records r) up ready.holds in
    let spelled : SpellRecords hosted.site.records (contents_of hosted.site.log) = holds.held (contents_of hosted.site.log) refl in
    let parts = first_spelled hosted.site.records held.contents held.later (subst (SpellRecords hosted.site.records) held.first spelled) in
    record {
      contents = held.contents;
      journal = held.journal;
      records = parts.0;
      spelled = parts.2;
      later = parts.1;
      first = parts.4;
      enough = held.enough;
      most = omega (
        arith,
        fronts parts.0 parts.1 held.contents held.later parts.3,
        holds.size,
        ap size_of held.first,
        ap journal_bytes parts.4,
        longer-sum hosted.site.surplus parts.0,
        longer-sum hosted.site.surplus hosted.site.records,
      );
      stored = stored;
    }

-- Where there is nothing to write the log is the same once the host has told that it is written.
still_same : (log new : HostState) (pending : Contents) (behind_gate : Bool) → write_after log.stored pending behind_gate ≡ None
    → IsSameBesideRoom (written_to log pending behind_gate) new → IsSameBesideRoom log new
still_same log new [] behind_gate none same = same
still_same log new (content ∷ later) false none same = cc
still_same log new (content ∷ later) true none same = cc

pub nothing_written : (log new : HostState) → next_write log ≡ None → IsSameBesideRoom (with_written log) new → IsSameBesideRoom log new
nothing_written log new none same = still_same log new log.asked log.behind_gate none same

-- Of two lists that begin the same records, one whose journal is no longer than the other's begins the other.
begins : (front records later others : List Record) → front ++ later ≡ records ++ others → sum_by record_bytes front ≤ sum_by record_bytes records
    → (more : List Record) × (records ≡ front ++ more)
begins [] records later others same short = (records, refl)
begins (one ∷ front) [] later others same short = absurd (omega (arith, short, sum_by-cons record_bytes one front))
begins (one ∷ front) (other ∷ records) later others same short =
    let first : other ≡ one = cc in
    let rest : front ++ later ≡ records ++ others = cc in
    let bytes : record_bytes other ≡ record_bytes one = ap record_bytes first in
    let found = begins front records later others rest (omega (arith, short, bytes, sum_by-cons record_bytes one front, sum_by-cons record_bytes other records)) in
    (found.0, ap (λ (l : List Record). other ∷ l) found.1 ∙ ap (λ (r : Record). r ∷ (front ++ found.0)) first)

begins_with : (front records later others : List Record) → front ++ later ≡ records ++ others → journal_bytes front ≤ journal_bytes records
    → (more : List Record) × (records ≡ front ++ more)
unfolding journal_bytes
begins_with front records later others same short = begins front records later others same (omega (arith, short))

-- A file that is a journal as long as the log was with the first of the records begins with these.
pub records_whole : (hosted : HostedState) (file : List ℕ) (contents : Contents) (front later : List Record)
    → HasOneAnswer (λ contents. IsJournal contents file) (IsNotOurs file) → HoldsStoredRecords hosted file → IsJournal contents file
    → hosted.site.records ≡ front ++ later → longer_journal hosted.site.surplus front ≤ size_of contents → (others : List Record) × SpellRecords (front ++ others) contents
records_whole hosted file contents front later one held journal is short =
    let same : held.contents ≡ contents = one.one_value held.contents contents held.journal journal in
    let spelled : SpellRecords held.records contents = subst (SpellRecords held.records) same held.spelled in
    let within : journal_bytes front ≤ journal_bytes held.records = omega (arith, short, held.most, ap size_of same, longer-sum hosted.site.surplus front, longer-sum hosted.site.surplus held.records) in
    let found = begins_with front held.records later held.later (sym is ∙ held.first) within in
    (found.0, subst (λ (records : List Record). SpellRecords records contents) found.1 spelled)

-- What is let out is in the file as far as the log was in it that it rests on.
pub out_stored : (old new : HostedState) (first : Held) (later : List Held) (output : Output) → old.held ≡ first ∷ later → TakesNext old new (Some output)
    → first.length ≤ stored_length old
out_stored old new first later output is takes = (subst (λ (held : List Held). TakesFrom (stored_length old) held new.held (Some output)) is takes.0).0

pub out_in_file : (old : HostedState) (length : ℕ) (file : List ℕ) (contents : Contents) → HasOneAnswer (λ contents. IsJournal contents file) (IsNotOurs file)
    → HoldsStored old.site.log file → IsJournal contents file → length ≤ stored_length old → length ≤ size_of contents
out_in_file old length file contents one held journal within =
    let same : size_of held.contents ≡ size_of contents = ap size_of (one.one_value held.contents contents held.journal journal) in
    omega (arith, within, held.enough, same)

-- What is held with the length of a log of these records rests on them.
all_rest : (surplus : ℕ) (records : List Record) (length : ℕ) (made : List Out) → length ≡ longer_journal surplus records → RestOn surplus records (map (λ out. record { length = length; out = out }) made)
all_rest surplus records length [] is = All-nil (λ (one : Held). one.length ≡ longer_journal surplus records)
all_rest surplus records length (out ∷ made) is =
    All-cons (λ (one : Held). one.length ≡ longer_journal surplus records) (record { length = length; out = out }) (map (λ out. record { length = length; out = out }) made) is
    (all_rest surplus records length made is)

-- What a step makes rests on all records that the site has after it.
pub step_rests : (old new : HostedState) (input : model.Input) → IsReady host_model new.site → HasStepped old new input
    → (made : List Held) × (new.held ≡ old.held ++ made) × RestOn new.site.surplus new.site.records made
step_rests old new input ready stepped =
    let step = step_on (here_with old.site stepped.running) input in
    let running : new.site.running ≡ Some step.running = ap (λ (site : SiteState HostState). site.running) stepped.steps.site in
    let holds = subst (λ r. HoldsWhatRuns host_model new.site.log new.site.surplus new.site.records r) running ready.holds in
    let made = outs new.site.me step.sends step.notes in
    (map (λ out. record { length = log_length new; out = out }) made, stepped.held, all_rest new.site.surplus new.site.records (log_length new) made holds.size)

-- Calls of the log, one after another, keep its file one that the host may hold.
pub file_after : (called : (old new : HostState) (call : LogCall) (ok : Bool) (file : List ℕ) → HostGoes old call ok new → IsFile old file → IsFile new file)
    → (calls : List LogCall) (old new : HostState) (ok : Bool) (file : List ℕ) → Makes HostGoes old calls ok new → IsFile old file → IsFile new file
file_after called [] old new ok file makes is_file = subst (λ (log : HostState). IsFile log file) (sym makes.1) is_file
file_after called (call ∷ calls) old new ok file (inl fails) is_file = called old new call false file fails.1 is_file
file_after called (call ∷ calls) old new ok file (inr goes) is_file =
    file_after called calls goes.0 new ok file goes.2 (called old goes.0 call true file goes.1 is_file)

module _ (called : (old new : HostState) (call : LogCall) (ok : Bool) (file : List ℕ) → HostGoes old call ok new → IsFile old file → IsFile new file) where
  -- What a step makes of the log.
  pub file_logged : (appended : Option Record) (old new : HostState) (file : List ℕ) → Logs host_model old new appended → IsFile old file → IsFile new file
  file_logged None old new file same is_file = subst (λ (log : HostState). IsFile log file) (sym same) is_file
  file_logged (Some appended) old new file logs is_file =
      file_after called (reserve (length logs.1.0) ∷ append logs.1.0 ∷ []) old new true file logs.1.3 is_file

module _ (appends : (old new : HostState) (content : List ℕ) (ok : Bool) → old.is_down ≡ false → HostGoes old (append content) ok new → (ok ≡ true) × (new.is_down ≡ false)) where
  -- No step of a site over the log of a host fails.
  pub never_fails : (old new : SiteState HostState) (running : Option model.Running) (input : model.Input) → Steps host_model old new running input (Err Fault) → ⊥
  never_fails old new None input refuses = let wrong = refuses.0 in cc
  never_fails old new (Some running) input breaks =
      let was_up : old.log.is_down ≡ false = breaks.log.down.was_up in
      let down : new.log.is_down ≡ true = breaks.log.down.is_down in
      elim breaks.log.calls [
        | inl fails ↦ let still : new.log.is_down ≡ old.log.is_down = ap (λ (log : HostState). log.is_down) fails.1 in cc
        | inr fails ↦
            let mid = fails.0 in
            let still : mid.is_down ≡ old.log.is_down = ap (λ (log : HostState). log.is_down) fails.2 in
            let done = appends mid new.log breaks.log.content false (still ∙ was_up) fails.3 in
            let wrong : new.log.is_down ≡ false = done.1 in
            cc
      ]

  -- One that is up stays up.
  pub still_up : (old new : SiteState HostState) (running : model.Running) (input : model.Input) (result : Result Step StepError) → old.running ≡ Some running
      → Steps host_model old new (Some running) input result → (later : model.Running) × (new.running ≡ Some later)
  still_up old new running input (Ok answer) up steps = ((step_on (here_with old running) input).running, ap (λ (site : SiteState HostState). site.running) steps.site)
  still_up old new running input (Err Fault) up steps = absurd (never_fails old new (Some running) input steps)
  still_up old new running input (Err Down) up steps = absurd steps
  still_up old new running input (Err NoMemory) up steps = (running, ap (λ (site : SiteState HostState). site.running) steps.site ∙ up)
