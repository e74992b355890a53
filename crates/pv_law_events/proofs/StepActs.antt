-- A site's step is some acts: what is to be shown of a step, and how it is shown of the plainest ones.
use Rattle.std.proofs.Common.{◌≡◌, ⊎_elim, ℕ, ◌<◌, false, Some, None, Option, List, [], ◌++◌, length, refl, sym, ap, subst, ◌∙◌}
use Rattle.std.specs.Prelude.{option_to_list}
use Rattle.std.specs.List.{Contains, list_any}
use Rattle.std.proofs.lemmas.List.{append-nil}
use Rattle.std.proofs.lemmas.Option.{none-some}
use Rattle.pv_base.proofs.ContainsLemmas.{Contains-nil, Contains-cases}
use Rattle.pv_base.proofs.MapLemmas.{Contains-unmap}
use Rattle.pv_base.specs.declared.txn.TxnId.{TxnId}
use Rattle.pv_format.specs.Contents.{greatest_epoch}
use Rattle.pv_format.specs.Message.{Message, outcome_reported}
use Rattle.pv_format.specs.Record.{Record}
use Rattle.pv_law_acts.proofs.MemoryLemmas.{entry-txn, left-none}
use Rattle.pv_law_acts.proofs.PassedLemmas.{passed-later}
use Rattle.pv_law_acts.proofs.SiteLemmas.{up-within}
use Rattle.pv_law_acts.specs.Acts as acts
use Rattle.pv_law_acts.specs.Acts.{with_content, HasNoMore, Act, Acts, no_act, one_more}
use Rattle.pv_law_acts.specs.Guards.{MaySend}
use Rattle.pv_law_acts.specs.Passed.{IsEntryPassed}
use Rattle.pv_law_acts.specs.Seen.{ageless_entry, records_at, memory_at, work_in, WorksAgeless, IsDead}
use Rattle.pv_law_events.proofs.FoundLemmas.{dropped-no-more}
use Rattle.pv_law_events.proofs.WorldLemmas.{no-more-itself, nothing-new, At, own-site, at-records, at-memory, at-again}
use Rattle.pv_law_outcomes.proofs.DecidedLemmas.{IsSettled}
use Rattle.pv_protocol.specs.Committed.{says_yes}
use Rattle.pv_protocol.specs.Here.{Here, only_to, outcome_sends, participants, refusing, without_entry}
use Rattle.pv_protocol.specs.Keyed.{of_txn}
use Rattle.pv_protocol.specs.Sound.{IsInOrder}
use Rattle.pv_protocol.specs.State.{Setup, Entry, Running, Cause, Note, Outgoing, Placed, Step}
use Rattle.pv_protocol.specs.Step.{records_after}
use Rattle.pv_protocol.specs.World.{World, site_at}

-- What is known of a world in which a site that is up takes an input.
pub record IsReady (setup : Setup) (w : World) (n : ℕ) (running : Running) : Type 0 where
  pub up : memory_at w n ≡ Some running
  pub settled : IsSettled setup w
  pub recorded : running.epoch ≡ greatest_epoch (records_at w n)
  pub ordered : IsInOrder running

-- the site, as its step sees it
abbrev pub here_at : Setup → World → ℕ → Running → Here
here_at setup w n running = record { me = n; setup = setup; records = records_at w n; surplus = 0; running = running }

module _ (setup : Setup) (w : World) (n : ℕ) where
  -- A step is some acts: they lead to where its record is appended and its memory changed, and then it may send what it sends. Where
  -- it appends a record and stops, it is some acts too.
  pub record IsActs (step : Step) : Type 0 where
    pub records : List Record
    pub order : List Placed
    pub appends : records ≡ records_after (records_at w n) step
    pub places : order ≡ w.order ++ option_to_list step.placed
    pub acts : Acts setup w (At w n records (Some step.running) order)
    pub sends : (sent : Outgoing) → Contains step.sends sent → MaySend setup (At w n records (Some step.running) order) n sent.to sent.message
    pub stops : (more : Record) → step.appended ≡ Some more → Acts setup w (At w n records None w.order)

  pub one-act : (v : World) → Act setup w v → Acts setup w v
  one-act v act = one_more w w v (no_act w) act

  -- nothing is sent
  pub nothing-sent : (v : World) (sent : Outgoing) → Contains [] sent → MaySend setup v n sent.to sent.message
  nothing-sent v sent h = absurd (Contains-nil sent h)

  -- one message is sent
  pub only-sent : (v : World) (to : ℕ) (message : Message) → MaySend setup v n to message → (sent : Outgoing) → Contains (only_to to message) sent
      → MaySend setup v n sent.to sent.message
  only-sent v to message may sent h =
      ⊎_elim
      (λ same. subst (λ (o : Outgoing). MaySend setup v n o.to o.message) same may)
      (λ wrong. absurd (Contains-nil sent wrong))
      (Contains-cases (record { to = to; message = message }) [] sent h)

  module _ (within : n < length w.sites) where
    -- further, where the memory has no more
    pub then-forget : (records : List Record) (memory : Option Running) (order : List Placed) (after : Option Running) → Acts setup w (At w n records memory order) → HasNoMore memory after
        → Acts setup w (At w n records after order)
    then-forget records memory order after so_far no_more =
        one_more w (At w n records memory order) (At w n records after order) so_far
        (acts.forgets (At w n records after order)
        (nothing-new w.sites n (record (site_at w n) { records = records; running = memory }) (record (site_at w n) { records = records; running = after }) w.sent w.fresh w.fresh order refl no_more))

    -- further, where the site goes down
    pub then-down : (records : List Record) (memory : Option Running) (order : List Placed) → Acts setup w (At w n records memory order) → Acts setup w (At w n records None order)
    then-down records memory order so_far =
        one_more w (At w n records memory order) (At w n records None order) so_far
        (subst (Act setup (At w n records memory order))
        (ap (λ (kept : List Record). record (with_content (At w n records memory order) n kept None) { order = order }) (at-records w n within records memory order)
        ∙ at-again w n within records memory order records None order)
        (acts.goes_down n))

  module _ (running : Running) (ready : IsReady setup w n running) where
    pub within : n < length w.sites
    within = up-within w n running ready.up

    pub unmoved : Acts setup w (At w n (records_at w n) (Some running) w.order)
    unmoved =
        subst (λ memory. Acts setup w (At w n (records_at w n) memory w.order)) ready.up
        (subst (Acts setup w) (sym (own-site w n)) (no_act w))

    -- A step that appends nothing and has no more in memory.
    pub plain-acts : (after : Running) (sends : List Outgoing) (notes : List Note) → HasNoMore (Some running) (Some after)
        → ((sent : Outgoing) → Contains sends sent → MaySend setup (At w n (records_at w n) (Some after) w.order) n sent.to sent.message)
        → IsActs (record { running = after; appended = None; sends = sends; notes = notes; placed = None })
    plain-acts after sends notes no_more may = record {
      records = records_at w n;
      order = w.order;
      appends = sym (append-nil (records_at w n));
      places = sym (append-nil w.order);
      acts = then-forget within (records_at w n) (Some running) w.order (Some after) unmoved no_more;
      sends = may;
      stops = λ more is. absurd (none-some _ is);
    }

    pub idle-acts : (notes : List Note) → IsActs (record { running = running; appended = None; sends = []; notes = notes; placed = None })
    idle-acts notes = plain-acts running [] notes (no-more-itself (Some running)) (nothing-sent (At w n (records_at w n) (Some running) w.order))

    pub sending-acts : (to : ℕ) (message : Message) → MaySend setup (At w n (records_at w n) (Some running) w.order) n to message
        → IsActs (record { running = running; appended = None; sends = only_to to message; notes = []; placed = None })
    sending-acts to message may =
        plain-acts running (only_to to message) [] (no-more-itself (Some running))
        (only-sent (At w n (records_at w n) (Some running) w.order) to message may)

    -- An entry that is found is worked on.
    pub found-works : (txn : TxnId) (entry : Entry) → of_txn (λ (e : Entry). e.txn) txn running.entries ≡ Some entry → WorksAgeless w n txn (record entry { age = 0 })
    found-works txn entry found =
        subst (λ (memory : Option Running). work_in memory txn ≡ Some (record entry { age = 0 })) (sym ready.up) (ap ageless_entry found)

    -- A transaction of this site that was worked on and isn't committed is dead where it isn't worked on any more.
    pub dropped-dead : (after : Running) (txn : TxnId) (entry : Entry) → WorksAgeless w n txn entry → work_in (Some after) txn ≡ None
        → Acts setup w (At w n (records_at w n) (Some after) w.order) → IsDead (At w n (records_at w n) (Some after) w.order) txn
    dropped-dead after txn entry works idle so_far =
        let was : IsEntryPassed w n txn entry = ready.settled.sound.passed.entries n txn entry works in
        let v : World = At w n (records_at w n) (Some after) w.order in
        record {
          passed = passed-later setup txn w v so_far was.passed;
          idle = subst (λ m. work_in (memory_at v m) txn ≡ None) (sym was.home)
              (subst (λ (memory : Option Running). work_in memory txn ≡ None) (sym (at-memory w n within (records_at w n) (Some after) w.order)) idle);
          uncommitted = subst (λ m. list_any (says_yes txn) (records_at v m) ≡ false) (sym was.home)
              (subst (λ (records : List Record). list_any (says_yes txn) records ≡ false) (sym (at-records w n within (records_at w n) (Some after) w.order))
              (subst (λ m. list_any (says_yes txn) (records_at w m) ≡ false) was.home (ready.settled.decided.working n txn entry works)));
        }

    -- A refusal: the entry ends, and that the transaction doesn't commit is reported.
    pub refusing-acts : (txn : TxnId) (found refused : Entry) (cause : Cause) → of_txn (λ (e : Entry). e.txn) txn running.entries ≡ Some found → refused.txn ≡ found.txn
        → IsActs (refusing (here_at setup w n running) refused cause)
    refusing-acts txn found refused cause has same =
        let after : Running = without_entry running refused.txn in
        let own : txn ≡ refused.txn = entry-txn running txn found has ∙ sym same in
        let so_far : Acts setup w (At w n (records_at w n) (Some after) w.order) =
        then-forget within (records_at w n) (Some running) w.order (Some after) unmoved (dropped-no-more running refused.txn) in
        let works : WorksAgeless w n refused.txn (record found { age = 0 }) = subst (λ t. WorksAgeless w n t (record found { age = 0 })) own (found-works txn found has) in
        let dead : IsDead (At w n (records_at w n) (Some after) w.order) refused.txn =
        dropped-dead after refused.txn (record found { age = 0 }) works (left-none running refused.txn) so_far in
        plain-acts after (outcome_sends refused.txn false (participants (here_at setup w n running) refused)) _ (dropped-no-more running refused.txn)
        (λ sent h.
        let which = Contains-unmap (λ site. record { to = site; message = outcome_reported refused.txn false }) (participants (here_at setup w n running) refused) sent h in
        subst (λ (o : Outgoing). MaySend setup (At w n (records_at w n) (Some after) w.order) n o.to o.message) which.1.1
        (record { home = sym (ready.settled.sound.passed.entries n refused.txn (record found { age = 0 }) works).home; outcome = dead }))
