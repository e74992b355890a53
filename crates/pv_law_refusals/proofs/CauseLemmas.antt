-- Each refusal has its cause, by the step that refuses and by what came before.
use Rattle.std.proofs.Common.{◌≡◌, ⊎_elim, ℕ, ◌+◌, ◌<◌, ◌≤◌, Bool, true, false, not, Some, List, [], ◌∷◌, inl, inr, map, length, refl, sym, ap, subst, ◌∙◌, arith}
use Rattle.std.specs.Prelude.{◌==◌, nat_lt, slice_get, find, if◌then◌else◌}
use Rattle.std.specs.List.{Contains}
use Rattle.std.specs.Option.{unwrap_or}
use Rattle.std.proofs.lemmas.Bool.{eqb-true, eq-eqb, ltb-true, ltb-false, false≢true, false_from_ne_true, not_from_false}
use Rattle.std.proofs.lemmas.Option.{slice_get_within, get_or_from_slice_get}
use Rattle.std.proofs.lemmas.List.Elements.{All-contains, filter_passes}
use Rattle.pv_base.proofs.ContainsLemmas.{Contains-nil, Contains-cases, Contains-first, Contains-behind}
use Rattle.pv_base.proofs.MapLemmas.{Contains-map, Contains-unmap}
use Rattle.pv_base.proofs.OrderLemmas.{pairs-first, pairs-tail}
use Rattle.pv_base.specs.Catalog.{Declared}
use Rattle.pv_base.specs.declared.grant.GrantId.{GrantId}
use Rattle.pv_base.specs.declared.limits.TheConstants.{TICKS}
use Rattle.pv_base.specs.declared.txn.TxnId.{TxnId}
use Rattle.pv_format.specs.Message.{Message, Envelope, granted, denied, vote_yes, vote_no, NoCause, grant_lost, journal_full}
use Rattle.pv_format.specs.Record.{outcome_known}
use Rattle.pv_law_acts.proofs.ListLemmas.{any-listed, listed-any, all-listed, listed-among, among-listed}
use Rattle.pv_law_acts.proofs.MemoryLemmas.{entry-txn}
use Rattle.pv_law_acts.proofs.PassedLemmas.{taken-either}
use Rattle.pv_law_acts.specs.Seen.{records_at, memory_at, Sent}
use Rattle.pv_law_answers.proofs.RefusalNotes.{Refuses, by_width, by_doubt, by_denial, by_room, by_vote, by_time}
use Rattle.pv_law_answers.proofs.Origin.{Gives, request, delivery, time}
use Rattle.pv_law_refusals.specs.Histories.{MessagesCameOf}
use Rattle.pv_law_refusals.specs.Waits.{EntriesHaveAge}
use Rattle.pv_law_canonical.proofs.FilterLemmas.{kept-listed}
use Rattle.pv_law_events.proofs.FoundLemmas.{listed-found, locking-found, voting-found}
use Rattle.pv_law_programs.proofs.PlanLemmas.{Ascends, sites-ascend, sites-have, sites-known}
use Rattle.pv_law_refusals.proofs.DoubtCauses.{least-doubt}
use Rattle.pv_law_refusals.proofs.WidthNames.{names-together}
use Rattle.pv_law_step.specs.GrantCases.{IsLastGrant}
use Rattle.pv_law_step.specs.VoteCases.{IsVote}
use Rattle.pv_law_world.specs.Sites.{AreMemoriesInOrder}
use Rattle.pv_model.specs.Alternatives.{Read}
use Rattle.pv_model.specs.Check.{IsAt}
use Rattle.pv_model.specs.Events.{Event}
use Rattle.pv_model.specs.Plan.{participants_of}
use Rattle.pv_model.specs.Syntax.{Program}
use Rattle.pv_protocol.specs.Causes.{HasCause, IsInDoubt, IsTooWide, IsUncertain, HasNoRoom, TakesLast}
use Rattle.pv_protocol.specs.Committed.{home_of, entry_in, entry_of}
use Rattle.pv_protocol.specs.Coordinate.{names_taken, has_taken, doubts}
use Rattle.pv_protocol.specs.Granted.{taking, first_uncertain}
use Rattle.pv_protocol.specs.Here.{Here, length_with, is_full}
use Rattle.pv_protocol.specs.Keyed.{of_txn}
use Rattle.pv_protocol.specs.Places.{Takes}
use Rattle.pv_protocol.specs.Records.{record_bytes, journal_bytes}
use Rattle.pv_protocol.specs.Run.{world_after}
use Rattle.pv_protocol.specs.State.{Setup, Stage, locking, voting, Taken, Entry, Running, Input, receive, tick, Cause}
use Rattle.pv_protocol.specs.Tick.{older_entries, expired_entries, has_answered, awaited}
use Rattle.pv_protocol.specs.Vote.{cause_of}
use Rattle.pv_protocol.specs.Waiting.{IsParticipant, HasAnswered, IsAwaited, IsLastTick}
use Rattle.pv_protocol.specs.World.{World, opening, site_at}
use Rattle.pv_protocol.specs.WorldStep.{Transition}

-- What an event gives.

pub record IsDelivered (world : World) (event : Event) (n from : ℕ) (message : Message) : Type 0 where
  pub number : ℕ
  pub is : event ≡ Event.deliver number
  pub sent : slice_get world.sent number ≡ Some (record { from = from; to = n; message = message })

pub delivered-of : (world : World) (event : Event) (n : ℕ) (input : Input) (found : World) → Gives world event n input found → (from : ℕ) (message : Message) → input ≡ receive from message
    → IsDelivered world event n from message
delivered-of world _ _ _ _ (request n query text program) from message is = absurd (let wrong : ⊥ = cc in wrong)
delivered-of world _ _ _ _ (delivery number envelope there) from message is =
    let sender : envelope.from ≡ from = cc in
    let reported : envelope.message ≡ message = cc in
    record { number = number; is = refl; sent = there ∙ (λ i. Some (record { from = sender i; to = envelope.to; message = reported i })) }
delivered-of world _ _ _ _ (time n) from message is = absurd (let wrong : ⊥ = cc in wrong)

pub time-of : (world : World) (event : Event) (n : ℕ) (input : Input) (found : World) → Gives world event n input found → input ≡ tick → event ≡ Event.tick n
time-of world _ _ _ _ (request n query text program) is = absurd (let wrong : ⊥ = cc in wrong)
time-of world _ _ _ _ (delivery number envelope there) is = absurd (let wrong : ⊥ = cc in wrong)
time-of world _ _ _ _ (time n) is = refl

there-sent : (world : World) (number : ℕ) (envelope : Envelope) → slice_get world.sent number ≡ Some envelope → Contains world.sent envelope
there-sent world number envelope is = (number, slice_get_within world.sent number envelope is, get_or_from_slice_get world.sent number envelope envelope is)

-- Participants.

participant-listed : (catalog : Declared) (program : Program) (n : ℕ) → IsParticipant catalog program n → Contains (participants_of program catalog.items) n
participant-listed catalog program n is = sites-have program 0 catalog.items is.item n is.item (omega arith) is.home is.named

listed-participant : (catalog : Declared) (program : Program) (n : ℕ) → Contains (participants_of program catalog.items) n → IsParticipant catalog program n
listed-participant catalog program n h =
    let found = sites-known program 0 catalog.items n h in
    record { item = found.0; named = found.1.named; home = subst (λ k. IsAt catalog.items k n) (omega (arith, found.1.same)) found.1.at }

-- Who has answered.

answered-by : (stage : Stage) (entry : Entry) (n : ℕ) → has_answered stage entry n ≡ true → HasAnswered stage entry n
answered-by locking entry n is =
    let found = any-listed (λ (taken : Taken). taken.site == n) entry.taken is in
    subst (Contains (map (λ (taken : Taken). taken.site) entry.taken)) (eqb-true found.0.site n found.1.1) (Contains-map (λ (taken : Taken). taken.site) entry.taken found.0 found.1.0)
answered-by voting entry n is = among-listed entry.votes n is

by-answered : (stage : Stage) (entry : Entry) (n : ℕ) → HasAnswered stage entry n → has_answered stage entry n ≡ true
by-answered locking entry n h =
    let found = Contains-unmap (λ (taken : Taken). taken.site) entry.taken n h in
    listed-any (λ (taken : Taken). taken.site == n) entry.taken found.0 found.1.0 (eq-eqb found.0.site n found.1.1)
by-answered voting entry n h = listed-among entry.votes n h

-- The first in an ascending list that passes is the least.

found-by : (p : ℕ → Bool) (first : ℕ) (rest : List ℕ) (b : Bool) (n m : ℕ) → p first ≡ b → Ascends (first ∷ rest) → (if b then Some first else find p rest) ≡ Some n → Contains (first ∷ rest) m → p m ≡ true
    → ((k : ℕ) → Contains rest k → p k ≡ true → find p rest ≡ Some n → n ≤ k) → n ≤ m
found-by p first rest true n m here up is h passes later =
    let same : first ≡ n = cc in
    ⊎_elim (λ one. omega (arith, same, one)) (λ behind. let less : first < m = pairs-first (λ site later. site < later) first rest up m behind in omega (arith, same, less)) (Contains-cases first rest m h)
found-by p first rest false n m here up is h passes later =
    ⊎_elim (λ one. absurd (false≢true (sym here ∙ ap p one ∙ passes))) (λ behind. later m behind passes is) (Contains-cases first rest m h)

found-least : (p : ℕ → Bool) (sites : List ℕ) (n m : ℕ) → Ascends sites → find p sites ≡ Some n → Contains sites m → p m ≡ true → n ≤ m
found-least p [] n m up is h passes = absurd (Contains-nil m h)
found-least p (first ∷ rest) n m up is h passes =
    found-by p first rest (p first) n m refl up is h passes (λ k behind too there. found-least p rest n k (pairs-tail (λ site later. site < later) first rest up) there behind too)

-- the first that passes, where some does
pub record First (p : ℕ → Bool) (sites : List ℕ) : Type 0 where
  pub one : ℕ
  pub is : find p sites ≡ Some one
  pub listed : Contains sites one
  pub passes : p one ≡ true

first-by : (p : ℕ → Bool) (first : ℕ) (rest : List ℕ) (b : Bool) → p first ≡ b → ((n : ℕ) → Contains rest n → p n ≡ true → First p rest) → (n : ℕ) → Contains (first ∷ rest) n → p n ≡ true
    → (one : ℕ) × ((if b then Some first else find p rest) ≡ Some one) × Contains (first ∷ rest) one × (p one ≡ true)
first-by p first rest true here later n h passes = (first, refl, Contains-first first rest, here)
first-by p first rest false here later n h passes =
    ⊎_elim
    (λ one. absurd (false≢true (sym here ∙ ap p one ∙ passes)))
    (λ behind. let found = later n behind passes in (found.one, found.is, Contains-behind first rest found.one found.listed, found.passes))
    (Contains-cases first rest n h)

first-of-some : (p : ℕ → Bool) (sites : List ℕ) (n : ℕ) → Contains sites n → p n ≡ true → First p sites
first-of-some p [] n h passes = absurd (Contains-nil n h)
first-of-some p (first ∷ rest) n h passes =
    let found = first-by p first rest (p first) refl (λ m behind too. first-of-some p rest m behind too) n h passes in
    record { one = found.0; is = found.1; listed = found.2; passes = found.3 }

not-from_ne_true : (b : Bool) → (b ≡ true → ⊥) → not b ≡ true
not-from_ne_true b h = not_from_false b (false_from_ne_true b h)

false-not : (b : Bool) → not b ≡ true → b ≡ true → ⊥
false-not true is too = false≢true is
false-not false is too = false≢true too

-- The participant that is awaited is the least that hasn't answered.
awaits-least : (setup : Setup) (here : Here) → here.setup ≡ setup → (late entry : Entry) → late.program ≡ entry.program → late.stage ≡ entry.stage
    → ((n : ℕ) → has_answered late.stage late n ≡ has_answered entry.stage entry n) → (silent : ℕ) → IsParticipant setup.catalog entry.program silent → (HasAnswered entry.stage entry silent → ⊥)
    → IsAwaited setup.catalog entry (awaited here late)
awaits-least setup here is late entry program stage alike silent participant unanswered =
    let sites = participants_of late.program here.setup.catalog.items in
    let waits : ℕ → Bool = λ n. not (has_answered late.stage late n) in
    let same_sites : sites ≡ participants_of entry.program setup.catalog.items = λ i. participants_of (program i) (is i).catalog.items in
    let there : Contains sites silent = subst (λ xs. Contains xs silent) (sym same_sites) (participant-listed setup.catalog entry.program silent participant) in
    let quiet : waits silent ≡ true = not-from_ne_true (has_answered late.stage late silent) (λ answered. unanswered (answered-by entry.stage entry silent (sym (alike silent) ∙ answered))) in
    let first = first-of-some waits sites silent there quiet in
    let one : awaited here late ≡ first.one = ap (λ o. unwrap_or o 0) first.is in
    subst (IsAwaited setup.catalog entry) (sym one) (record {
      participant = listed-participant setup.catalog entry.program first.one (subst (λ xs. Contains xs first.one) same_sites first.listed);
      silent = λ answered. false-not (has_answered late.stage late first.one) first.passes (alike first.one ∙ by-answered entry.stage entry first.one answered);
      least = λ other takes_part unheard. found-least waits sites first.one other (sites-ascend late.program 0 here.setup.catalog.items) first.is
          (subst (λ xs. Contains xs other) (sym same_sites) (participant-listed setup.catalog entry.program other takes_part))
          (not-from_ne_true (has_answered late.stage late other) (λ answered. unheard (answered-by entry.stage entry other (sym (alike other) ∙ answered))));
    })

-- Who has answered doesn't depend on the age.
ageless-answered : (stage : Stage) (entry : Entry) (age n : ℕ) → has_answered stage (record entry { age = age }) n ≡ has_answered stage entry n
ageless-answered locking entry age n = refl
ageless-answered voting entry age n = refl

module _ (setup : Setup) (earlier : List Transition) (transition : Transition) (messages : MessagesCameOf setup (opening setup) earlier) (ages : EntriesHaveAge setup (opening setup) earlier) (n : ℕ) (running : Running) where
  abbrev world : World
  world = world_after (opening setup) earlier

  abbrev here : Here
  here = record { me = n; setup = setup; records = records_at world n; surplus = 0; running = running }

  module _ (up : memory_at world n ≡ Some running) (ordered : AreMemoriesInOrder world) (txn : TxnId) (own_home : home_of txn ≡ n) where
    entry-there : (asked : TxnId) (entry : Entry) → of_txn (λ (e : Entry). e.txn) asked running.entries ≡ Some entry → entry.txn ≡ txn → entry_of world txn ≡ Some entry
    entry-there asked entry found own =
        ap (λ m. entry_in (memory_at world m) txn) own_home
        ∙ ap (λ memory. entry_in memory txn) up
        ∙ subst (λ t. of_txn (λ (e : Entry). e.txn) t running.entries ≡ Some entry) (entry-txn running asked entry found ∙ own) found

    takes-of : (from : ℕ) (asked : TxnId) (message : TxnId → Message) → asked ≡ txn → IsDelivered world transition.event n from (message asked) → Takes world transition n from (message txn)
    takes-of from asked message same delivered = record {
      number = delivered.number;
      event = delivered.is;
      sent = subst (λ t. slice_get world.sent delivered.number ≡ Some (record { from = from; to = n; message = message t })) same delivered.sent;
      running = running;
      up = up;
    }

    sent-of : (from : ℕ) (asked : TxnId) (message : TxnId → Message) → asked ≡ txn → IsDelivered world transition.event n from (message asked) → Sent world from n (message txn)
    sent-of from asked message same delivered =
        subst (λ t. Sent world from n (message t)) same (there-sent world delivered.number (record { from = from; to = n; message = message asked }) delivered.sent)

    takes-last : (from : ℕ) (asked : TxnId) (grant : GrantId) (values : List Read) (entry : Entry) → IsLastGrant here from asked grant values entry → entry.txn ≡ txn
        → IsDelivered world transition.event n from (granted asked grant values) → TakesLast setup world transition txn
    takes-last from asked grant values entry last own delivered =
        let found = locking-found running (ordered n running up) asked entry last.taken.found in
        record {
          from = from;
          grant = grant;
          values = values;
          takes = subst (λ m. Takes world transition m from (granted txn grant values)) (sym own_home)
              (takes-of from asked (λ t. granted t grant values) (entry-txn running asked entry found.0 ∙ own) delivered);
          entry = entry;
          works = entry-there asked entry found.0 own;
          stage = found.1;
          others = λ other takes_part.
              let taken = any-listed (λ (t : Taken). t.site == other) (taking entry from grant values).taken
              (all-listed (has_taken (taking entry from grant values)) (participants_of entry.program setup.catalog.items) last.whole other (participant-listed setup.catalog entry.program other takes_part)) in
              let same : taken.0.site ≡ other = eqb-true taken.0.site other taken.1.1 in
              ⊎_elim
              (λ old. inr (subst (Contains (map (λ (t : Taken). t.site) entry.taken)) same (Contains-map (λ (t : Taken). t.site) entry.taken taken.0 old)))
              (λ new. inl (sym same ∙ sym (ap (λ (t : Taken). t.site) new)))
              (taken-either (record { site = from; grant = grant; values = values }) entry.taken taken.0 taken.1.0);
        }

    too-wide : (from : ℕ) (asked : TxnId) (grant : GrantId) (values : List Read) (entry : Entry) → IsLastGrant here from asked grant values entry → entry.txn ≡ txn
        → nat_lt setup.read_names (length (names_taken (taking entry from grant values))) ≡ true → IsDelivered world transition.event n from (granted asked grant values)
        → IsTooWide setup world transition txn (length (names_taken (taking entry from grant values)))
    unfolding takes-last
    too-wide from asked grant values entry last own wide delivered = record {
      last = takes-last from asked grant values entry last own delivered;
      txns = names_taken (taking entry from grant values);
      are = names-together entry from grant values;
      number = refl;
      above = ltb-true setup.read_names (length (names_taken (taking entry from grant values))) wide;
    }

    uncertain-there : (from : ℕ) (asked : TxnId) (grant : GrantId) (values : List Read) (entry : Entry) (item : ℕ) → IsLastGrant here from asked grant values entry
        → entry.txn ≡ txn → first_uncertain here (taking entry from grant values) ≡ Some item → IsDelivered world transition.event n from (granted asked grant values)
        → IsUncertain setup world transition txn item (doubts here.records (taking entry from grant values) item)
    unfolding takes-last
    uncertain-there from asked grant values entry item last own doubt delivered =
        let least = least-doubt (records_at world n) (taking entry from grant values) setup.catalog.items item doubt in
        let count : ℕ = doubts (records_at world n) (taking entry from grant values) item in
        let there : (other more : ℕ) → IsInDoubt (site_at world (home_of txn)).records (taking entry from grant values) other more
        → IsInDoubt (records_at world n) (taking entry from grant values) other more =
        λ other more. subst (λ m. IsInDoubt (site_at world m).records (taking entry from grant values) other more) own_home in
        record {
          last = takes-last from asked grant values entry last own delivered;
          doubt = subst (λ m. IsInDoubt (site_at world m).records (taking entry from grant values) item count) (sym own_home) least.0;
          least = λ other more doubted. least.1 other more (there other more doubted);
        }

    no-room : (from : ℕ) (asked : TxnId) (entry : Entry) → IsVote here from asked entry → entry.txn ≡ txn → is_full here (outcome_known entry.txn true) ≡ true
        → IsDelivered world transition.event n from (vote_yes asked) → HasNoRoom setup world transition txn n (length_with here (outcome_known entry.txn true))
    no-room from asked entry vote own full delivered =
        let found = voting-found running (ordered n running up) asked entry vote.found in record {
          here = sym own_home;
          from = from;
          takes = takes-of from asked (λ t. vote_yes t) (entry-txn running asked entry found.0 ∙ own) delivered;
          long = record {
            sum = ap (λ t. journal_bytes (records_at world n) + record_bytes (outcome_known t true)) own;
            above = ltb-true setup.catalog.journal (length_with here (outcome_known entry.txn true)) full;
          };
        }

    voted-no : (from : ℕ) (asked : TxnId) (cause : NoCause) → asked ≡ txn → IsDelivered world transition.event n from (vote_no asked cause) → HasCause setup (opening setup) earlier transition txn (cause_of from cause)
    voted-no from asked grant_lost same delivered = messages from n (vote_no txn grant_lost) (sent-of from asked (λ t. vote_no t grant_lost) same delivered)
    voted-no from asked (journal_full bytes) same delivered = inl (messages from n (vote_no txn (journal_full bytes)) (sent-of from asked (λ t. vote_no t (journal_full bytes)) same delivered))

    last-tick : (late : Entry) → Contains (expired_entries (older_entries running.entries)) late → late.txn ≡ txn → transition.event ≡ Event.tick n → IsLastTick setup (opening setup) earlier transition txn (awaited here late)
    last-tick late listed own event =
        let old = Contains-unmap (λ (e : Entry). record e { age = e.age + 1 }) running.entries late (kept-listed (λ (e : Entry). not (nat_lt e.age TICKS)) (older_entries running.entries) late listed) in
        let entry : Entry = old.0 in
        let older : (record entry { age = entry.age + 1 }) ≡ late = old.1.1 in
        let same_txn : entry.txn ≡ txn = ap (λ (e : Entry). e.txn) older ∙ own in
        let works : entry_of world txn ≡ Some entry = entry-there entry.txn entry (listed-found (λ (e : Entry). e.txn) running.entries entry (ordered n running up).entries old.1.0) same_txn in
        let waits = ages txn entry works in
        let late_age : entry.age + 1 ≡ late.age = ap (λ (e : Entry). e.age) older in
        let past : nat_lt late.age TICKS ≡ false = false_from_ne_true (nat_lt late.age TICKS) (λ less. false-not (nat_lt late.age TICKS)
        (All-contains (λ (e : Entry). not (nat_lt e.age TICKS) ≡ true) (expired_entries (older_entries running.entries)) late (filter_passes (λ (e : Entry). not (nat_lt e.age TICKS)) (older_entries running.entries)) listed) less) in
        record {
          event = event ∙ ap Event.tick (sym own_home);
          entry = entry;
          works = works;
          ticks = entry.age;
          waited = waits.waited;
          last = let not_yet : TICKS ≤ late.age = ltb-false late.age TICKS past in omega (arith, not_yet, late_age, waits.young);
          awaited = awaits-least setup here refl late entry (sym (ap (λ (e : Entry). e.program) older)) (sym (ap (λ (e : Entry). e.stage) older))
              (λ m. ap (λ (e : Entry). has_answered e.stage e m) (sym older) ∙ ageless-answered entry.stage entry (entry.age + 1) m) waits.waiting.n waits.waiting.participant waits.waiting.silent;
        }

    pub cause-by : (input : Input) (cause : Cause) → Refuses here txn input cause → ((from : ℕ) (message : Message) → input ≡ receive from message → IsDelivered world transition.event n from message)
        → (input ≡ tick → transition.event ≡ Event.tick n) → HasCause setup (opening setup) earlier transition txn cause
    cause-by _ _ (by_width from asked grant values entry last own wide is) delivered ticks = too-wide from asked grant values entry last own wide (delivered from (granted asked grant values) refl)
    cause-by _ _ (by_doubt from asked grant values entry item last own doubt is) delivered ticks =
        uncertain-there from asked grant values entry item last own doubt (delivered from (granted asked grant values) refl)
    cause-by _ _ (by_denial from asked item holder entry found own heard is) delivered ticks =
        let same = entry-txn running asked entry (locking-found running (ordered n running up) asked entry found).0 ∙ own in
        messages from n (denied txn item holder) (sent-of from asked (λ t. denied t item holder) same (delivered from (denied asked item holder) refl))
    cause-by _ _ (by_room from asked entry vote own full is) delivered ticks = inr (no-room from asked entry vote own full (delivered from (vote_yes asked) refl))
    cause-by _ _ (by_vote from asked cause entry vote own is) delivered ticks =
        voted-no from asked cause (entry-txn running asked entry (voting-found running (ordered n running up) asked entry vote.found).0 ∙ own) (delivered from (vote_no asked cause) refl)
    cause-by _ _ (by_time late listed own) delivered ticks = last-tick late listed own (ticks refl)
