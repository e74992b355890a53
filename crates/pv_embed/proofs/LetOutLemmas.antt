-- No call takes back what stands in the file, nor a record of the site; so what was let out rests on records that stay in the file.
use Rattle.std.proofs.Common.{◌≡◌, ℕ, ◌+◌, ◌≤◌, Bool, true, false, List, [], ◌∷◌, ◌++◌, Some, length, drop, refl, sym, ◌∙◌, ap, subst, append_assoc, append-nil, arith}
use Rattle.std.specs.Prelude.{option_to_list}
use Rattle.std.specs.List.{Contains}
use Rattle.std.proofs.lemmas.List.{drop_at}
use Rattle.std.proofs.lemmas.List.Elements.{All-contains}
use Rattle.std.proofs.lemmas.List.Sums.{sum_by-append}
use Rattle.pv_base.specs.Answer.{HasOneAnswer}
use Rattle.pv_format.specs.Contents.{SpellRecords}
use Rattle.pv_format.specs.Record.{Record}
use Rattle.pv_disk_model.specs.Size.{Contents, size_of}
use Rattle.pv_format.specs.Journal.{IsJournal, IsNotOurs}
use Rattle.pv_protocol.specs.Records.{longer_journal}
use Rattle.pv_protocol.specs.Step.{step_on}
use Rattle.pv_site.specs.SiteState.{SiteState, here_with}
use Rattle.pv_site.specs.Steps.{IsReady}
use Rattle.pv_host.specs.HostLaws.{host_model}
use Rattle.pv_host.specs.HostLog.{HostState, written_to}
use Rattle.pv_embed.proofs.HostedLemmas.{stored_asked, stored_logged}
use Rattle.pv_embed.proofs.KeptLemmas.{out_stored, records_whole, step_rests}
use Rattle.pv_embed.specs.Held.{Held}
use Rattle.pv_embed.specs.Hosted.{HostedState, stored_length}
use Rattle.pv_embed.specs.Kept.{HoldsStoredRecords}
use Rattle.pv_embed.specs.LetOut.{Goes, GoesOn, WasLetOut, asks, steps, stays, writes, takes, none, one_more}
use Rattle.pv_embed.specs.declared.made.Output.{Output}

-- Once the host has told of a write, as much of the log is in the file, or more.
more_written : (log : HostState) (asked : Contents) (behind_gate : Bool) → size_of log.stored ≤ size_of (written_to log asked behind_gate).stored
more_written log [] behind_gate = omega arith
more_written log (first ∷ later) false = omega arith
more_written log (first ∷ later) true = omega (arith, sum_by-append (λ (c : List ℕ). 5 + length c) log.stored (first ∷ later))

still_stored_by : (old new : HostState) → new.stored ≡ old.stored → size_of old.stored ≤ size_of new.stored
still_stored_by old new same = let size : size_of new.stored ≡ size_of old.stored = ap size_of same in omega (arith, size)

stored_once : (old new : HostedState) → Goes old new → stored_length old ≤ stored_length new
stored_once old new (steps input stepped) = still_stored_by old.site.log new.site.log (stored_logged _ old.site.log new.site.log stepped.steps.log)
stored_once old new (stays same) = still_stored_by old.site.log new.site.log (ap (λ (log : HostState). log.stored) same.0)
stored_once old new (asks room asked) = still_stored_by old.site.log new.site.log (stored_asked old.site room new.site.log asked.log)
stored_once old new (writes told) =
    let size : stored_length new ≡ size_of (written_to old.site.log old.site.log.asked old.site.log.behind_gate).stored = ap (λ (log : HostState). size_of log.stored) told.log in
    omega (arith, size, more_written old.site.log old.site.log.asked old.site.log.behind_gate)
stored_once old new (takes result taken) = still_stored_by old.site.log new.site.log (ap (λ (hosted : HostedState). hosted.site.log.stored) taken.1)

same_records : (old new : HostedState) → new.site.records ≡ old.site.records → (later : List Record) × (new.site.records ≡ old.site.records ++ later)
same_records old new same = ([], same ∙ sym (append-nil old.site.records))

records_once : (old new : HostedState) → Goes old new → (later : List Record) × (new.site.records ≡ old.site.records ++ later)
records_once old new (steps input stepped) =
    (option_to_list (step_on (here_with old.site stepped.running) input).appended, ap (λ (site : SiteState HostState). site.records) stepped.steps.site)
records_once old new (stays same) = same_records old new (ap (λ (hosted : HostedState). hosted.site.records) same.1)
records_once old new (asks room asked) = same_records old new (ap (λ (hosted : HostedState). hosted.site.records) asked.same)
records_once old new (writes told) = same_records old new (ap (λ (hosted : HostedState). hosted.site.records) told.same)
records_once old new (takes result taken) = same_records old new (ap (λ (hosted : HostedState). hosted.site.records) taken.1)

pub stored_lasts : (old new : HostedState) → GoesOn old new → stored_length old ≤ stored_length new
stored_lasts old new none = omega arith
stored_lasts old new (one_more mid _ before goes) = let first = stored_lasts old mid before in let then_on = stored_once mid new goes in omega (arith, first, then_on)

-- What more there is later, and later still, is more.
joined : (first second third : List Record) (more others : List Record) → second ≡ first ++ more → third ≡ second ++ others → third ≡ first ++ (more ++ others)
joined first second third more others second_is third_is = third_is ∙ ap (λ (records : List Record). records ++ others) second_is ∙ append_assoc first more others

pub records_last : (old new : HostedState) → GoesOn old new → (later : List Record) × (new.site.records ≡ old.site.records ++ later)
records_last old new none = ([], sym (append-nil old.site.records))
records_last old new (one_more mid _ before goes) =
    let first = records_last old mid before in
    let then_on = records_once mid new goes in
    (first.0 ++ then_on.0, joined old.site.records mid.site.records new.site.records first.0 then_on.0 first.1 then_on.1)

-- By how many bytes the log is longer than the records make it never changes.
surplus_once : (old new : HostedState) → Goes old new → new.site.surplus ≡ old.site.surplus
surplus_once old new (steps input stepped) = ap (λ (site : SiteState HostState). site.surplus) stepped.steps.site
surplus_once old new (stays same) = ap (λ (hosted : HostedState). hosted.site.surplus) same.1
surplus_once old new (asks room asked) = ap (λ (hosted : HostedState). hosted.site.surplus) asked.same
surplus_once old new (writes told) = ap (λ (hosted : HostedState). hosted.site.surplus) told.same
surplus_once old new (takes result taken) = ap (λ (hosted : HostedState). hosted.site.surplus) taken.1

surplus_last : (old new : HostedState) → GoesOn old new → new.site.surplus ≡ old.site.surplus
surplus_last old new none = refl
surplus_last old new (one_more mid _ before goes) = surplus_once mid new goes ∙ surplus_last old mid before

-- The records that the site had after the step are the first in each such file, once something of the step was let out.
pub kept_records : (made now : HostedState) (output : Output) (file : List ℕ) (contents : Contents) → IsReady host_model made.site → WasLetOut made output now
    → HasOneAnswer (λ contents. IsJournal contents file) (IsNotOurs file) → HoldsStoredRecords now file → IsJournal contents file
    → (others : List Record) × SpellRecords (made.site.records ++ others) contents
kept_records made now output file contents ready out one held journal =
    let rests = step_rests out.before made out.input ready out.stepped in
    let all_new : drop (length out.before.held) made.held ≡ rests.0 = ap (drop (length out.before.held)) rests.1 ∙ drop_at out.before.held rests.0 (length out.before.held) refl in
    let length_is : out.held.length ≡ longer_journal made.site.surplus made.site.records =
    All-contains (λ (one : Held). one.length ≡ longer_journal made.site.surplus made.site.records) rests.0 out.held rests.2 (subst (λ (new : List Held). Contains new out.held) all_new out.is_new) in
    let within : out.held.length ≤ stored_length out.at = out_stored out.at out.after out.held out.later output out.next out.taken in
    let takes_one : Goes out.at out.after = takes (Some output) out.taken in
    let as_much = stored_once out.at out.after takes_one in
    let no_less = stored_lasts out.after now out.since in
    let same : size_of held.contents ≡ size_of contents = ap size_of (one.one_value held.contents contents held.journal journal) in
    let waited = records_last made out.after (one_more out.at out.after out.waited takes_one) in
    let since = records_last out.after now out.since in
    let as_long : now.site.surplus ≡ made.site.surplus =
    surplus_last out.after now out.since ∙ surplus_last made out.after (one_more out.at out.after out.waited takes_one) in
    records_whole now file contents made.site.records (waited.0 ++ since.0) one held journal
    (joined made.site.records out.after.site.records now.site.records waited.0 since.0 waited.1 since.1)
    (omega (arith, length_is, within, as_much, no_less, held.enough, same, ap (λ (n : ℕ). longer_journal n made.site.records) as_long))
