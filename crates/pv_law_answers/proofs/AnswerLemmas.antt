-- What a commit answers is what some outcomes give, and has each serial reply.
use Rattle.std.proofs.Common.{◌≡◌, ℕ, ◌<◌, true, Some, Option, List, [], ◌∷◌, ◌++◌, length, refl, sym, ap, subst, ◌∙◌}
use Rattle.std.specs.Prelude.{option_to_list, get_or}
use Rattle.std.specs.List.{Contains}
use Rattle.std.proofs.lemmas.List.{get_or-set_same}
use Rattle.pv_base.specs.declared.reply.Reply.{Reply}
use Rattle.pv_base.specs.declared.txn.TxnId.{TxnId}
use Rattle.pv_format.specs.Record.{Record, outcome_known}
use Rattle.pv_law_acts.proofs.ListLemmas.{listed-last}
use Rattle.pv_law_acts.proofs.MemoryLemmas.{entry-txn}
use Rattle.pv_law_acts.proofs.RecordLemmas.{listed-yes}
use Rattle.pv_law_acts.proofs.SiteLemmas.{up-within}
use Rattle.pv_law_acts.specs.Acts.{Acts}
use Rattle.pv_law_acts.specs.Seen.{records_at, memory_at, ageless_entry, work_in, WorksAgeless}
use Rattle.pv_law_agreement.proofs.AnswerLemmas.{reply-possible, serial-answer}
use Rattle.pv_law_agreement.proofs.GroundLemmas.{grounds-from}
use Rattle.pv_law_agreement.proofs.RunLemmas.{AreKept, kept-along, falls-back, order-grows}
use Rattle.pv_law_answers.proofs.NoteLemmas.{IsCommitting, commit-noted}
use Rattle.pv_law_answers.proofs.Origin.{Gives, request, delivery, time, IsNoted}
use Rattle.pv_law_events.proofs.FoundLemmas.{voting-found}
use Rattle.pv_law_step.proofs.ComputedLemmas.{reply-canonical, reply-value}
use Rattle.pv_law_step.specs.VoteCases.{voted}
use Rattle.pv_law_world.specs.Sites.{AreMemoriesInOrder}
use Rattle.pv_model.specs.Events.{Event}
use Rattle.pv_protocol.specs.Arms.{completed}
use Rattle.pv_protocol.specs.Attempt.{Attempt, of_step}
use Rattle.pv_protocol.specs.CommitAnswers.{ArePossible, HaveSerialReplies}
use Rattle.pv_protocol.specs.Committed.{home_of, is_committed, entry_in}
use Rattle.pv_protocol.specs.Coordinate.{replies_of, reply_after, reply_value}
use Rattle.pv_protocol.specs.Here.{Here}
use Rattle.pv_protocol.specs.Keyed.{of_txn}
use Rattle.pv_protocol.specs.Lines.{Line, line_of}
use Rattle.pv_protocol.specs.State.{Setup, Arm, Site, Entry, voting, Input, Note, began, committed, refused, full, spent}
use Rattle.pv_protocol.specs.Step.{site_step, step_on}
use Rattle.pv_protocol.specs.Vote.{committing}
use Rattle.pv_protocol.specs.World.{World, no_site}
use Rattle.pv_protocol.specs.WorldStep.{Transition}

-- A note that prints a commit is one.
commit-of : (n : ℕ) (note : Note) (t : TxnId) (replies : List Reply) → line_of n note ≡ Line.commit t replies → note ≡ committed t replies
commit-of n (began u) t replies is = absurd (let wrong : ⊥ = cc in wrong)
commit-of n (committed u others) t replies is =
    let own : u ≡ t = cc in let reported : others ≡ replies = cc in λ i. committed (own i) (reported i)
commit-of n (refused u cause) t replies is = absurd (let wrong : ⊥ = cc in wrong)
commit-of n (full bytes) t replies is = absurd (let wrong : ⊥ = cc in wrong)
commit-of n spent t replies is = absurd (let wrong : ⊥ = cc in wrong)

pub gives-sites : (world : World) (event : Event) (n : ℕ) (input : Input) (found : World) → Gives world event n input found → found.sites ≡ world.sites
gives-sites world _ _ _ _ (request n query text program) = refl
gives-sites world _ _ _ _ (delivery number envelope there) = refl
gives-sites world _ _ _ _ (time n) = refl

-- The records of the site that has made its step.
pub completed-records : (found : World) (n : ℕ) (arm : Option Arm) (attempt : Attempt) → n < length found.sites → records_at (completed found n attempt arm) n ≡ records_at found n ++ option_to_list attempt.appended
completed-records found n arm attempt within = ap (λ (s : Site). s.records) (get_or-set_same found.sites n _ no_site within)

module _ (setup : Setup) (world : World) (transition : Transition) (txn : TxnId) (replies : List Reply) (left : World) (noted : IsNoted setup world transition.event (Line.commit txn replies) left)
    (same : (n : ℕ) → records_at transition.world n ≡ records_at left n) (ordered : AreMemoriesInOrder world) (kept : AreKept setup world) (goes : Acts setup world transition.world) where
  abbrev here : Here
  here = record { me = noted.n; setup = setup; records = records_at world noted.n; surplus = 0; running = noted.running }

  is-committing : IsCommitting here noted.input txn replies
  is-committing = commit-noted here txn replies noted.input (subst (Contains (step_on here noted.input).notes) (commit-of noted.n noted.note txn replies noted.printed) noted.noted)

  -- the entry that the last vote completes
  record Completes : Type 0 where
    entry : Entry
    from : ℕ
    found : of_txn (λ (e : Entry). e.txn) txn noted.running.entries ≡ Some entry
    votes : entry.stage ≡ voting
    own : entry.txn ≡ txn
    answers : replies ≡ replies_of (records_at world noted.n ++ outcome_known txn true ∷ []) (voted entry from)
    step : step_on here noted.input ≡ committing here (voted entry from)

  completes : Completes
  completes =
      let is = is-committing in
      let both = voting-found noted.running (ordered noted.n noted.running noted.up) is.asked is.entry is.vote.found in
      let asked : is.asked ≡ txn = entry-txn noted.running is.asked is.entry both.0 ∙ is.is in
      record {
        entry = is.entry;
        from = is.from;
        found = subst (λ t. of_txn (λ (e : Entry). e.txn) t noted.running.entries ≡ Some is.entry) asked both.0;
        votes = both.1;
        own = is.is;
        answers = is.answers ∙ ap (λ t. replies_of (records_at world noted.n ++ outcome_known t true ∷ []) (voted is.entry is.from)) is.is;
        step = is.step;
      }

  abbrev entry : Entry
  entry = completes.entry

  abbrev ageless : Entry
  ageless = record entry { age = 0 }

  works : WorksAgeless world noted.n txn ageless
  works = ap (λ m. work_in m txn) noted.up ∙ ap ageless_entry completes.found

  home : home_of txn ≡ noted.n
  home = (kept.settled.sound.passed.entries noted.n txn ageless works).home

  -- The commit is recorded.
  after-there : records_at transition.world noted.n ≡ records_at world noted.n ++ outcome_known txn true ∷ []
  after-there =
      let sites = gives-sites world transition.event noted.n noted.input noted.found noted.gives in
      let within = subst (λ (all : List Site). noted.n < length all) (sym sites) (up-within world noted.n noted.running noted.up) in
      same noted.n
      ∙ ap (λ w. records_at w noted.n) noted.whole
      ∙ completed-records noted.found noted.n noted.arm (of_step noted.n (site_step setup noted.n (records_at world noted.n) noted.running noted.input)) within
      ∙ ap (λ (all : List Site). (get_or all noted.n no_site).records ++ option_to_list (step_on here noted.input).appended) sites
      ∙ ap (λ s. records_at world noted.n ++ option_to_list s.appended) completes.step
      ∙ ap (λ t. records_at world noted.n ++ outcome_known t true ∷ []) completes.own

  abbrev records : List Record
  records = records_at transition.world (home_of txn)

  after-records : records ≡ records_at world noted.n ++ outcome_known txn true ∷ []
  after-records = ap (records_at transition.world) home ∙ after-there

  answered : replies ≡ replies_of records (voted entry completes.from)
  answered = completes.answers ∙ ap (λ rs. replies_of rs (voted entry completes.from)) (sym after-records)

  pub are-possible : ArePossible world transition txn replies
  are-possible = record {
    entry = entry;
    works = ap (λ m. entry_in (memory_at world m) txn) home ∙ ap (λ memory. entry_in memory txn) noted.up ∙ completes.found;
    value = reply_value records (voted entry completes.from);
    canonical = reply-canonical records (voted entry completes.from);
    replied = λ a. reply-value records (voted entry completes.from) a;
    given = answered;
  }

  pub are-serial : HaveSerialReplies setup transition.world txn replies
  are-serial a fits =
      let after = kept-along setup world transition.world goes kept in
      let grounds = grounds-from setup transition.world after.settled in
      let more = order-grows setup world transition.world goes in
      let is_yes : is_committed transition.world txn ≡ true =
      listed-yes records txn (subst (λ rs. Contains rs (outcome_known txn true)) (sym after-records) (listed-last (records_at world noted.n) (outcome_known txn true))) in (
        reply_after records entry a,
        serial-answer setup world transition.world (grounds-from setup world kept.settled) kept.support kept.values (falls-back setup world transition.world kept.settled goes) grounds.distinct
            more.0 more.1 noted.n txn ageless works completes.votes a fits (fits.whole txn is_yes) records (grounds.heeded a fits (home_of txn)),
        subst (λ rs. Contains rs (reply_after records entry a)) (sym answered) (reply-possible records (voted entry completes.from) a),
      )
