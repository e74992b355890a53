-- What the calls of a site make of it is something that may happen in the deployment.
use Rattle.std.proofs.Common.{arith, ◌≡◌, ℕ, zero, suc, ◌<◌, ◌≤◌, Bool, true, false, Option, Some, None, Result, Ok, Err, List, [], ◌∷◌, ◌++◌, append-nil, drop, length, refl, sym, ap, ◌∙◌, subst}
use Rattle.std.specs.Prelude.{get_or, IsTrue, nat_lt, option_to_list, ⊤}
use Rattle.std.specs.Option.{option_map}
use Rattle.std.proofs.lemmas.Bool.{ltb-false}
use Rattle.std.proofs.lemmas.List.Elements.{All-get_or}
use Rattle.pv_base.specs.Catalog.{Declared}
use Rattle.pv_base.specs.declared.limits.TheConstants.{MAX_PROGRAM_ITEMS}
use Rattle.pv_base.specs.declared.txn.TxnId.{TxnId}
use Rattle.pv_check.specs.CheckRefusal.{check_refusal}
use Rattle.pv_disk_model.specs.Disk.{overlaid}
use Rattle.pv_disk_model.specs.Size.{Contents}
use Rattle.pv_format.specs.Journal.{IsJournal}
use Rattle.pv_embed.specs.Held.{Held, Out}
use Rattle.pv_embed.specs.Hosted.{AsksForGroup, Gives, HostedState, Stays, TakesNext, Writes, stored_length}
use Rattle.pv_embed.specs.Opening.{HasOpenedOn}
use Rattle.pv_embed.specs.Outcomes.{TellsOutcome}
use Rattle.pv_embed.specs.Outputs.{TakesFrom, out_of}
use Rattle.pv_embed.specs.Requests.{ReceivesBy, SubmitsBy}
use Rattle.pv_embed.specs.declared.asked.Outcome.{Outcome}
use Rattle.pv_embed.specs.declared.asked.OutcomeFault.{OutcomeFault}
use Rattle.pv_embed.specs.declared.asked.OutcomeFault.TheVariants as asking
use Rattle.pv_embed.specs.declared.fault.ReceiveFault.{ReceiveFault}
use Rattle.pv_embed.specs.declared.fault.ReceiveFault.TheVariants as receiving
use Rattle.pv_embed.specs.declared.fault.SubmitFault.{SubmitFault}
use Rattle.pv_embed.specs.declared.fault.SubmitFault.TheVariants as submitting
use Rattle.pv_embed.specs.declared.made.Output.{Output}
use Rattle.pv_host.specs.HostFile.{MayLeave}
use Rattle.pv_host.specs.HostLog.{HostWrite, next_write}
use Rattle.pv_law_hosted.specs.Asked.{Asked, begun_of}
use Rattle.pv_law_hosted.specs.Calls.{BeginsAsked, HasSite, IsFromASite}
use Rattle.pv_law_hosted.specs.Deployment.{Deployment, Station, station_at, with_station}
use Rattle.pv_law_hosted.specs.DeploymentEvents.{Happens, HappensAt, HappensTo, HoldTheSame, MayLeaveAhead, Stands, asks, carried, goes, idles, is_writing, lets_out, request, stays, takes, time, writes}
use Rattle.pv_law_programs.proofs.DeclaredItems.{declared-items}
use Rattle.pv_law_world.proofs.NumeralLemmas.{small-numbers}
use Rattle.pv_law_hosted.specs.Mirrored.{FollowsHosted, FollowsProcess, IsMirrored}
use Rattle.pv_model.specs.Check.{AreItems, names_item}
use Rattle.pv_model.specs.Events.{Event}
use Rattle.pv_model.specs.ProgramText.{IsProgramText}
use Rattle.pv_model.specs.Syntax.{Program}
use Rattle.pv_protocol.specs.State.{Setup, receive, submit, tick}
use Rattle.pv_protocol.specs.WellFormed.{CanRun}
use Rattle.pv_site.specs.SiteState.{setup_of}

-- A program that isn't refused names some items, and not too many.
counted : (above : Bool) (n : ℕ) (program : Program) (query : Bool) → nat_lt MAX_PROGRAM_ITEMS (suc n) ≡ above
    → check_refusal MAX_PROGRAM_ITEMS (suc n) program query ≡ None → suc n ≤ MAX_PROGRAM_ITEMS
counted true n program query is accepted = cc
counted false n program query is accepted = ltb-false MAX_PROGRAM_ITEMS (suc n) is

some-named : (count : ℕ) (program : Program) (query : Bool) → check_refusal MAX_PROGRAM_ITEMS count program query ≡ None → 0 < count
some-named zero program query accepted = cc
some-named (suc n) program query accepted = omega arith

few-named : (count : ℕ) (program : Program) (query : Bool) → check_refusal MAX_PROGRAM_ITEMS count program query ≡ None → count ≤ MAX_PROGRAM_ITEMS
few-named zero program query accepted = cc
few-named (suc n) program query accepted = counted (nat_lt MAX_PROGRAM_ITEMS (suc n)) n program query refl accepted

-- A program of a text that isn't refused can run.
accepted-runs : (catalog : Declared) (text : List ℕ) (program : Program) (query : Bool) (items : List ℕ) → IsProgramText catalog text program → AreItems program items
    → check_refusal MAX_PROGRAM_ITEMS (length items) program query ≡ None → CanRun catalog program
accepted-runs catalog text program query items is are accepted = record {
  runnable = record {
    items = items;
    are = are;
    some = some-named (length items) program query accepted;
    few = few-named (length items) program query accepted;
    known = λ k d below. declared-items catalog text program is (get_or items k d) (All-get_or (λ m. IsTrue (names_item program m)) items k d below are.each);
  };
  numbers = small-numbers catalog text program is;
}

pub some-same : {A : Type 0} {x y : A} → Some x ≡ Some y → x ≡ y
some-same is = cc

-- A site that is as it was stays.
as-it-was : (site next : HostedState) → next ≡ site → Stays site next
as-it-was site next same = subst (Stays site) (sym same) (refl, refl)

module _ (config : List ℕ) (catalog : Declared) (d : Deployment) (n : ℕ) (site : HostedState) (has : HasSite catalog d n site) where
  abbrev old : Station
  old = station_at d n

  -- What happens to the station happens in the deployment.
  here-happens : (new : Station) → HappensTo catalog d n site old new → ((s : HostedState) → new.hosted ≡ Some s → Stands s)
      → Happens config catalog d (with_station d n new)
  here-happens new happens stands = record {
    n = n;
    known = has.known;
    new = new;
    at = subst (λ (hosted : Option HostedState). HappensAt config catalog d n old hosted new) (sym has.here) happens;
    stands = stands;
    after = refl;
  }

  -- The same, where the station has this site then.
  site-happens : (next : HostedState) (file : List ℕ) → Stands next → HappensTo catalog d n site old (record old { file = file; hosted = Some next })
      → Happens config catalog d (with_station d n (record old { file = file; hosted = Some next }))
  site-happens next file stands happens =
      here-happens (record old { file = file; hosted = Some next }) happens (λ s is. subst Stands (some-same is) stands)

  next-happens : (next : HostedState) → Stands next → HappensTo catalog d n site old (record old { hosted = Some next })
      → Happens config catalog d (with_station d n (record old { hosted = Some next }))
  next-happens next stands happens =
      here-happens (record old { hosted = Some next }) happens (λ s is. subst Stands (some-same is) stands)

  -- A refused request begins nothing.
  refused-request : (next : HostedState) → Stands next → Stays site next
      → (asked : List Asked) × (asked ≡ []) × Happens config catalog d (with_station d n (record old { hosted = Some next; asked = old.asked ++ asked }))
  refused-request next stands same = (
    [],
    refl,
    subst (λ (asked : List Asked). Happens config catalog d (with_station d n (record old { hosted = Some next; asked = asked }))) (sym (append-nil old.asked))
        (next-happens next stands (stays next same)),
  )

  pub submit-happens : {X : Type 0} (items_of : (program : Program) → (items : List ℕ) × AreItems program items) (next : HostedState) (text : List ℕ) (query : Bool) (result : Result X SubmitFault)
      → Stands next → SubmitsBy site next text query result
      → (asked : List Asked) × BeginsAsked catalog site next text result asked × Happens config catalog d (with_station d n (record old { hosted = Some next; asked = old.asked ++ asked }))
  submit-happens items_of next text query (Ok done) stands by =
      let items = items_of by.0 in
      let may : CanRun catalog by.0 =
      subst (λ (c : Declared). CanRun c by.0) has.declared (accepted-runs site.site.catalog text by.0 query items.0 by.1 items.1 (by.2 items.0 items.1)) in
      let asked = begun_of by.0 (drop (length site.held) next.held) in (
        asked,
        (by.0, subst (λ (c : Declared). IsProgramText c text by.0) has.declared by.1, refl),
        here-happens (record old { hosted = Some next; asked = old.asked ++ asked }) (takes next (submit by.0) (request by.0 may) by.3)
            (λ s is. subst Stands (some-same is) stands),
      )
  submit-happens items_of next text query (Err (submitting.Text error)) stands by = refused-request next stands (as-it-was site next by.0)
  submit-happens items_of next text query (Err (submitting.Program error)) stands by = refused-request next stands (as-it-was site next by.0)
  submit-happens items_of next text query (Err submitting.NoMemory) stands by = refused-request next stands by

  receives-to : (next : HostedState) (bytes : List ℕ) (result : Result ⊤ ReceiveFault) → IsFromASite d bytes
      → ReceivesBy site next bytes result → HappensTo catalog d n site old (record old { hosted = Some next })
  receives-to next bytes (Ok done) from by =
      takes next (receive by.0.from by.0.message)
      (carried by.0 (from by.0 by.1) (by.2 ∙ has.me) (subst (λ (c : Declared). by.0.from < c.sites) has.declared by.3)) by.4
  receives-to next bytes (Err (receiving.Malformed error)) from by = stays next (as-it-was site next by.0)
  receives-to next bytes (Err receiving.NotForHere) from by = stays next (as-it-was site next by.0)
  receives-to next bytes (Err receiving.NoSender) from by = stays next (as-it-was site next by.0)
  receives-to next bytes (Err receiving.NoMemory) from by = stays next by

  pub receive-happens : (next : HostedState) (bytes : List ℕ) (result : Result ⊤ ReceiveFault) → Stands next → IsFromASite d bytes → ReceivesBy site next bytes result
      → Happens config catalog d (with_station d n (record old { hosted = Some next }))
  receive-happens next bytes result stands from by = next-happens next stands (receives-to next bytes result from by)

  ticks-to : {E : Type 0} (next : HostedState) (result : Result ⊤ E) → Gives site next tick result → HappensTo catalog d n site old (record old { hosted = Some next })
  ticks-to next (Ok done) by = takes next tick time by
  ticks-to next (Err error) by = stays next by

  pub tick-happens : {E : Type 0} (next : HostedState) (result : Result ⊤ E) → Stands next → Gives site next tick result
      → Happens config catalog d (with_station d n (record old { hosted = Some next }))
  tick-happens next result stands by = next-happens next stands (ticks-to next result by)

  pub ask-happens : (next : HostedState) (room : ℕ) → Stands next → AsksForGroup room site next → Happens config catalog d (with_station d n (record old { hosted = Some next }))
  ask-happens next room stands by = next-happens next stands (asks next room by)

  pub write-happens : (next : HostedState) (write : HostWrite) → Stands next → next_write site.site.log ≡ Some write → Writes site next
      → Happens config catalog d (with_station d n (record old { file = overlaid old.file write.place write.bytes; hosted = Some next }))
  write-happens next write stands is by = site-happens next (overlaid old.file write.place write.bytes) stands (writes next write is by)

  pub idle-happens : (next : HostedState) → Stands next → next_write site.site.log ≡ None → Writes site next
      → Happens config catalog d (with_station d n (record old { hosted = Some next }))
  idle-happens next stands is by = next-happens next stands (idles next is by)

  pub give-happens : (next : HostedState) (first : Held) (later : List Held) → Stands next → site.held ≡ first ∷ later → first.length ≤ stored_length site
      → next ≡ record site { held = later } → Happens config catalog d (with_station d n (record old { hosted = Some next; let_out = old.let_out ++ first.out ∷ [] }))
  give-happens next first later stands held within is =
      here-happens (record old { hosted = Some next; let_out = old.let_out ++ first.out ∷ [] }) (lets_out next first later held within is)
      (λ s is. subst Stands (some-same is) stands)

  -- Nothing is let out.
  none-happens : (next : HostedState) → Stands next → next ≡ record site { held = next.held } → next.held ≡ site.held
      → Happens config catalog d (with_station d n (record old { hosted = Some next; let_out = old.let_out ++ [] }))
  none-happens next stands is held =
      let same : next ≡ site = is ∙ ap (λ (l : List Held). record site { held = l }) held in
      subst (λ (out : List Out). Happens config catalog d (with_station d n (record old { hosted = Some next; let_out = out }))) (sym (append-nil old.let_out))
      (next-happens next stands (stays next (as-it-was site next same)))

  takes-from : (next : HostedState) (result : Option Output) (held : List Held) → Stands next → site.held ≡ held → TakesFrom (stored_length site) held next.held result
      → next ≡ record site { held = next.held }
      → Happens config catalog d (with_station d n (record old { hosted = Some next; let_out = old.let_out ++ option_to_list (option_map out_of result) }))
  takes-from next None [] stands here t is = none-happens next stands is (t.1 ∙ sym here)
  takes-from next None (first ∷ later) stands here t is = none-happens next stands is (t.1 ∙ sym here)
  takes-from next (Some output) [] stands here t is = let wrong = t.0 in absurd cc
  takes-from next (Some output) (first ∷ later) stands here t is =
      subst (λ (out : Out). Happens config catalog d (with_station d n (record old { hosted = Some next; let_out = old.let_out ++ out ∷ [] }))) (sym t.1)
      (give-happens next first later stands here t.0 (is ∙ ap (λ (l : List Held). record site { held = l }) t.2))

  pub take-happens : (next : HostedState) (result : Option Output) → Stands next → TakesNext site next result
      → Happens config catalog d (with_station d n (record old { hosted = Some next; let_out = old.let_out ++ option_to_list (option_map out_of result) }))
  take-happens next result stands by = takes-from next result site.held stands refl by.0 by.1

  tells-to : (next : HostedState) (txn : TxnId) (result : Result Outcome OutcomeFault) → TellsOutcome site next txn result → Stays site next
  tells-to next txn (Ok outcome) told = as-it-was site next told.0
  tells-to next txn (Err asking.NotHere) told = as-it-was site next told.0
  tells-to next txn (Err asking.Unwritten) told = as-it-was site next told.0
  tells-to next txn (Err asking.NotBegun) told = as-it-was site next told.0
  tells-to next txn (Err asking.NoMemory) told = told

  pub tell-happens : (next : HostedState) (txn : TxnId) (result : Result Outcome OutcomeFault) → Stands next → TellsOutcome site next txn result
      → Happens config catalog d (with_station d n (record old { hosted = Some next }))
  tell-happens next txn result stands told = next-happens next stands (stays next (tells-to next txn result told))

  pub writing-happens : (left : List ℕ) → Stands site → MayLeave site.site.log old.file left → Happens config catalog d (with_station d n (record old { file = left }))
  writing-happens left stands may =
      here-happens (record old { file = left }) (is_writing left may) (λ s is. subst Stands (some-same (sym has.here ∙ is)) stands)

  pub going-happens : (left : List ℕ) → MayLeaveAhead site.site.log old.file left → Happens config catalog d (with_station d n (record old { file = left; hosted = None }))
  going-happens left may = here-happens (record old { file = left; hosted = None }) (goes left may) (λ s is. absurd cc)

-- A site is opened on bytes that hold the same as the file that the last process has left, and the file holds the same then.
module _ (config : List ℕ) (catalog : Declared) (d : Deployment) (n : ℕ) (site : HostedState) (known : n < catalog.sites) (gone : (station_at d n).hosted ≡ None) (stands : Stands site) where
  opens-on : (left : List ℕ) → HoldTheSame (station_at d n).file left → HasOpenedOn config n left site
      → Happens config catalog d (with_station d n (record (station_at d n) { file = left; hosted = Some site }))
  opens-on left same opened = record {
    n = n;
    known = known;
    new = record (station_at d n) { file = left; hosted = Some site };
    at =
        subst (λ (hosted : Option HostedState). HappensAt config catalog d n (station_at d n) hosted (record (station_at d n) { file = left; hosted = Some site })) (sym gone)
        (site, left, same, opened, refl);
    stands = λ s is. subst Stands (some-same is) stands;
    after = refl;
  }

  -- on the file itself
  pub opening-happens : HasOpenedOn config n (station_at d n).file site → Happens config catalog d (with_station d n (record (station_at d n) { hosted = Some site }))
  opening-happens opened = opens-on (station_at d n).file (opened.log.stored, opened.opened_on.journal, opened.opened_on.journal) opened

  pub beside-happens : ((bytes : List ℕ) (contents others : Contents) → IsJournal contents bytes → IsJournal others bytes → contents ≡ others)
      → (bytes left : List ℕ) → HoldTheSame (station_at d n).file bytes → HoldTheSame (station_at d n).file left → HasOpenedOn config n bytes site
      → Happens config catalog d (with_station d n (record (station_at d n) { file = left; hosted = Some site }))
  beside-happens one_journal bytes left read still opened =
      let file = (station_at d n).file in
      let stored : still.0 ≡ opened.log.stored =
      one_journal file still.0 read.0 still.1 read.1 ∙ one_journal bytes read.0 opened.log.stored read.2 opened.opened_on.journal in
      opens-on left still
      record {
        schedule = opened.schedule;
        configured = opened.configured;
        known = opened.known;
        log = opened.log;
        opened_on = record {
          journal = subst (λ (l : Contents). IsJournal l left) stored still.2;
          asked = opened.opened_on.asked;
          pending = opened.opened_on.pending;
          behind_gate = opened.opened_on.behind_gate;
          limit_is = opened.opened_on.limit_is;
          up = opened.opened_on.up;
          unread = opened.opened_on.unread;
        };
        opened = opened.opened;
        held = opened.held;
      }

-- The site of a mirrored deployment has its number and its catalog, and stands ready.
pub mirrored-has : (catalog : Declared) (d : Deployment) (events : List Event) (n : ℕ) (site : HostedState) → IsMirrored (setup_of catalog) d events → n < catalog.sites
    → (station_at d n).hosted ≡ Some site → HasSite catalog d n site × Stands site
mirrored-has catalog d events n site mirrored known is =
    let follows = mirrored.each n known in
    let process : FollowsHosted (setup_of catalog) d n (station_at d n).asked (station_at d n).file site follows.content follows.rest =
    subst (λ (h : Option HostedState). FollowsProcess (setup_of catalog) d n (station_at d n).asked (station_at d n).file h follows.content follows.rest) is follows.process in
    (record { known = known; here = is; me = process.me; declared = ap (λ (setup : Setup). setup.catalog) process.catalog }, process.stands)
