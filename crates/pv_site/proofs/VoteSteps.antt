-- What a coordinator makes of a yes, and what it sends and reports when a transaction commits.
use Rattle.std.proofs.Common.{◌≡◌, ℕ, Bool, true, false, Some, None, Option, List, [], ◌∷◌, ◌++◌, map, is_some, refl, sym, ap, subst, ◌∙◌}
use Rattle.std.specs.Prelude.{◌&&◌, not, if◌then◌else◌}
use Rattle.std.specs.Option.{option_map}
use Rattle.std.proofs.lemmas.Bool.{false≢true}
use Rattle.pv_base.proofs.Basics.{and-right}
use Rattle.pv_base.specs.Assignment.{is_same_txn}
use Rattle.pv_base.specs.contracts.reply.ReplyPartialEq.TheImpl as reply_eq
use Rattle.pv_base.specs.declared.reply.Reply.{Reply}
use Rattle.pv_base.specs.declared.txn.TxnId.{TxnId}
use Rattle.pv_base.specs.Polyvalue.{Case, with_outcomes}
use Rattle.pv_coord.specs.Answers.{vote_of}
use Rattle.pv_coord.specs.Coordinator.{CoordMemory, counting, reply_of, voting_work, with_vote_for, with_work, work_of}
use Rattle.pv_coord.specs.Planned.{sites-planned, vote-planned, votes-planned}
use Rattle.pv_coord.specs.Work as own
use Rattle.pv_coord.specs.Work.{Work, txn_of, with_vote}
use Rattle.pv_coord.specs.declared.answer.Vote.TheVariants as voted
use Rattle.pv_format.specs.Record.{Record, outcome_known}
use Rattle.pv_law_step.proofs.Appended.{found-passes}
use Rattle.pv_law_step.proofs.ComputedLemmas.{reply-canonical, reply-value}
use Rattle.pv_model.specs.Check.{Part}
use Rattle.pv_model.specs.PossibleAnswers.{possible}
use Rattle.pv_model.specs.Replies.{is_same_reply}
use Rattle.pv_protocol.specs.Coordinate.{is_locking, replies_of, reply_value}
use Rattle.pv_protocol.specs.Here.{Here, nothing, outcome_sends, participants, remembering, with_entry}
use Rattle.pv_protocol.specs.Keyed.{with_one}
use Rattle.pv_protocol.specs.State as model
use Rattle.pv_protocol.specs.State.{Entry, committed}
use Rattle.pv_protocol.specs.Vote.{at_yes, committing, on_yes, others_than, with_votes}
use Rattle.pv_site.proofs.Answered.{Says}
use Rattle.pv_site.proofs.Entries.{entry_in, first-found, found-txn, voting-of}
use Rattle.pv_site.proofs.Settling.{reply-told}
use Rattle.pv_site.proofs.Tied.{here-with, planned-found, stepped, tied-with, work-found}
use Rattle.pv_site.specs.Answer.{IsAnswer}
use Rattle.pv_site.specs.Committed.{IsCommitted}
use Rattle.pv_site.specs.LastVote.{deciding}
use Rattle.pv_site.specs.SiteParts.{AreTied, HaveStepped, IsReplyOf, IsWorkOf, here_of}
use Rattle.pv_site.specs.Values.{note_of, outgoing_of}
use Rattle.pv_site.specs.declared.input.Step.{Step}
use Rattle.pv_site.specs.declared.parts.SiteParts.{SiteParts}

module _ (parts : SiteParts) (tied : AreTied parts) where
  -- A work that asks for votes is that of its transaction, and has a reply.
  module _ (txn : TxnId) (work : Work) (is : voting_work parts.coord.contents txn ≡ Some work) where
    pub voting-is : work_of parts.coord.contents txn ≡ Some work
    voting-is = first-found txn_of (λ (w : Work). not (is_locking w.entry.stage)) txn parts.coord.contents.entries work tied.order is

    pub voting-txn : txn ≡ work.entry.txn
    voting-txn = found-txn txn_of txn parts.coord.contents.entries work voting-is

    abbrev passes : Work → Bool
    passes w = is_same_txn txn w.entry.txn && not (is_locking w.entry.stage)

    pub voting-work : IsWorkOf parts.catalog parts.store.records work
    voting-work = work-found parts tied passes work is

    voting-replies : is_some work.reply ≡ true
    voting-replies =
        voting-work.stage
        ∙ and-right (is_same_txn txn work.entry.txn) (not (is_locking work.entry.stage)) (found-passes passes parts.coord.contents.entries work is)

    pub no-parts : None ≡ option_map (λ (w : Work). w.parts) (work_of parts.coord.contents txn) → ⊥
    no-parts none = let no : None ≡ Some work.parts = none ∙ ap (option_map (λ (w : Work). w.parts)) voting-is in cc

    pub no-reply : None ≡ reply_of (work_of parts.coord.contents txn) → ⊥
    no-reply none = false≢true (ap is_some (none ∙ ap reply_of voting-is) ∙ voting-replies)

    -- Its reply by the records with the outcome is what it replies, with the outcome put in and the known ones.
    pub reply-committed : (reply : List (Case Reply)) → Some reply ≡ reply_of (work_of parts.coord.contents txn)
        → IsCommitted parts.store.records txn reply (reply_value (parts.store.records ++ outcome_known txn true ∷ []) work.entry)
    reply-committed reply reply-is =
        let kept : IsReplyOf parts.store.records work.entry (Some reply) =
        subst (IsReplyOf parts.store.records work.entry) (sym (reply-is ∙ ap reply_of voting-is)) voting-work.reply in
        let later : List Record = parts.store.records ++ outcome_known txn true ∷ [] in
        record {
          value = λ a.
              reply-value later work.entry a
              ∙ ap Some (reply-told parts.store.records (outcome_known txn true) work.entry a)
              ∙ sym (kept.1 (with_outcomes (record { txn = txn; commits = true } ∷ []) a));
          canonical = reply-canonical later work.entry;
        }

    -- The answer is what is sent and reported when the transaction commits.
    pub commit-told : (answer : Step) (plan : List Part) (settled : List (Case Reply))
        → Some plan ≡ option_map (λ (w : Work). w.parts) (work_of parts.coord.contents txn)
        → settled ≡ reply_value (parts.store.records ++ outcome_known txn true ∷ []) work.entry
        → map outgoing_of answer.sends.items ≡ outcome_sends txn true (others_than parts.me.0 (map (λ (part : Part). part.site) plan))
        → map note_of answer.notes.items ≡ committed txn (possible reply_eq.ghosts.eq settled) ∷ [] → answer.locked ≡ None
        → IsAnswer answer (committing (here_of parts) work.entry)
    commit-told answer plan settled plan-is settled-is sent noted unlocked =
        let planned : plan ≡ work.parts = let both : Some plan ≡ Some work.parts = plan-is ∙ ap (option_map (λ (w : Work). w.parts)) voting-is in cc in record {
          sends = sent
              ∙ ap (λ (p : List Part). outcome_sends txn true (others_than parts.me.0 (map (λ (part : Part). part.site) p))) planned
              ∙ ap (λ (sites : List ℕ). outcome_sends txn true (others_than parts.me.0 sites)) (sites-planned (here_of parts) work (planned-found parts tied passes work is))
              ∙ ap (λ (t : TxnId). outcome_sends t true (others_than parts.me.0 (participants (here_of parts) work.entry))) voting-txn;
          notes = noted
              ∙ ap (λ (replies : List Reply). committed txn replies ∷ []) (ap (possible is_same_reply) settled-is)
              ∙ ap (λ (t : TxnId). committed t (replies_of (parts.store.records ++ outcome_known t true ∷ []) work.entry) ∷ []) voting-txn;
          locked = unlocked;
        }

-- What a yes is to a work.

module _ (a b : Bool) where
  ignored-is : (if a then voted.Ignored else (if b then voted.Last else voted.Wait)) ≡ voted.Ignored → a ≡ true
  ignored-is is = by a b is where
    by : (a b : Bool) → (if a then voted.Ignored else (if b then voted.Last else voted.Wait)) ≡ voted.Ignored → a ≡ true
    by true b is = refl
    by false true is = absurd (let no : ⊥ = cc in no)
    by false false is = absurd (let no : ⊥ = cc in no)

  waits-is : (if a then voted.Ignored else (if b then voted.Last else voted.Wait)) ≡ voted.Wait → (a ≡ false) × (b ≡ false)
  waits-is is = by a b is where
    by : (a b : Bool) → (if a then voted.Ignored else (if b then voted.Last else voted.Wait)) ≡ voted.Wait → (a ≡ false) × (b ≡ false)
    by true b is = absurd (let no : ⊥ = cc in no)
    by false true is = absurd (let no : ⊥ = cc in no)
    by false false is = (refl, refl)

  last-is : (if a then voted.Ignored else (if b then voted.Last else voted.Wait)) ≡ voted.Last → (a ≡ false) × (b ≡ true)
  last-is is = by a b is where
    by : (a b : Bool) → (if a then voted.Ignored else (if b then voted.Last else voted.Wait)) ≡ voted.Last → (a ≡ false) × (b ≡ true)
    by true b is = absurd (let no : ⊥ = cc in no)
    by false true is = (refl, refl)
    by false false is = absurd (let no : ⊥ = cc in no)

-- What is decided doesn't depend on who has voted.
votes-free : (here : Here) (work : Work) (from : ℕ) → deciding here (with_vote work from).entry ≡ deciding here work.entry
unfolding reply_value
votes-free here work from = refl

module _ (parts : SiteParts) (tied : AreTied parts) (from : ℕ) (txn : TxnId) where
  abbrev found_now : Option Work
  found_now = voting_work parts.coord.contents txn

  abbrev here_now : Here
  here_now = here_of parts

  yes-is : (found : Option Work) → found_now ≡ found → on_yes here_now from txn ≡ at_yes here_now from (option_map entry_in found)
  unfolding on_yes
  yes-is found is = ap (at_yes here_now from) (voting-of parts.locks parts.coord.contents txn ∙ ap (option_map entry_in) is)

  module _ (work : Work) (is : found_now ≡ Some work) where
    abbrev passing : Work → Bool
    passing w = is_same_txn txn w.entry.txn && not (is_locking w.entry.stage)

    yes-ignored : own.is_vote_ignored work from ≡ true → on_yes here_now from txn ≡ nothing here_now
    yes-ignored ignored =
        yes-is (Some work) is
        ∙ ap (λ (b : Bool). if b then nothing here_now else with_votes here_now (with_vote work from).entry)
        (sym (vote-planned here_now work (planned-found parts tied passing work is) from) ∙ ignored)

    yes-counts : own.is_vote_ignored work from ≡ false → (all : Bool) → own.has_all_votes (with_vote work from) ≡ all
        → on_yes here_now from txn
        ≡ (if not all then remembering (with_entry here_now.running (with_vote work from).entry) else deciding here_now (with_vote work from).entry)
    yes-counts counts all are =
        yes-is (Some work) is
        ∙ ap (λ (b : Bool). if b then nothing here_now else with_votes here_now (with_vote work from).entry)
        (sym (vote-planned here_now work (planned-found parts tied passing work is) from) ∙ counts)
        ∙ ap (λ (b : Bool). if not b then remembering (with_entry here_now.running (with_vote work from).entry) else deciding here_now (with_vote work from).entry)
        (sym (votes-planned here_now (with_vote work from) (planned-found parts tied passing work is)) ∙ are)

  nothing-by : (found : Option Work) → found_now ≡ found → vote_of found from ≡ voted.Ignored → on_yes here_now from txn ≡ nothing here_now
  nothing-by None is ignored = yes-is None is
  nothing-by (Some work) is ignored = yes-ignored work is (ignored-is (own.is_vote_ignored work from) (own.has_all_votes (with_vote work from)) ignored)

  -- A yes of which no notice is taken.
  pub yes-nothing : vote_of found_now from ≡ voted.Ignored → on_yes here_now from txn ≡ nothing here_now
  yes-nothing ignored = nothing-by found_now refl ignored

  last-by : (found : Option Work) → found_now ≡ found → vote_of found from ≡ voted.Last
      → (work : Work) × (found ≡ Some work) × (on_yes here_now from txn ≡ deciding here_now work.entry)
  last-by None is last = absurd (let no : ⊥ = cc in no)
  last-by (Some work) is last =
      let are = last-is (own.is_vote_ignored work from) (own.has_all_votes (with_vote work from)) last in
      (work, refl, yes-counts work is are.0 true are.1 ∙ votes-free here_now work from)

  -- The last yes.
  pub yes-last : vote_of found_now from ≡ voted.Last → (work : Work) × (found_now ≡ Some work) × (on_yes here_now from txn ≡ deciding here_now work.entry)
  yes-last last = last-by found_now refl last

  reply-voted : (work : Work) (reply : Option (List (Case Reply))) → IsReplyOf parts.store.records work.entry reply
      → IsReplyOf parts.store.records (with_vote work from).entry reply
  reply-voted work None is = is
  reply-voted work (Some reply) is = is

  work-voted : (work : Work) → IsWorkOf parts.catalog parts.store.records work → IsWorkOf parts.catalog parts.store.records (with_vote work from)
  work-voted work is = record { plan = is.plan; taken = is.taken; stage = is.stage; reply = reply-voted work work.reply is.reply }

  wait-by : (found : Option Work) → found_now ≡ found → vote_of found from ≡ voted.Wait → (coord : CoordMemory) → coord.contents ≡ counting parts.coord.contents txn from
      → (answer : Step) → Says answer [] [] None
      → HaveStepped parts (record parts { coord = coord }) (on_yes here_now from txn) × IsAnswer answer (on_yes here_now from txn) × ((on_yes here_now from txn).appended ≡ None)
  wait-by None is waits coord counted answer says = absurd (let no : ⊥ = cc in no)
  wait-by (Some work) is waits coord counted answer says =
      let are = waits-is (own.is_vote_ignored work from) (own.has_all_votes (with_vote work from)) waits in
      let contents : coord.contents ≡ record parts.coord.contents { entries = with_vote_for parts.coord.contents.entries from (Some work) } =
      counted ∙ ap (λ (found : Option Work). record parts.coord.contents { entries = with_vote_for parts.coord.contents.entries from found }) is in
      let with_it : coord.contents ≡ with_work parts.coord.contents (with_vote work from) =
      contents ∙ ap (λ (b : Bool). record parts.coord.contents { entries = if b then parts.coord.contents.entries else with_one txn_of (with_vote work from) parts.coord.contents.entries }) are.0 in
      let step : model.Step = remembering (with_entry here_now.running (with_vote work from).entry) in
      subst (λ (s : model.Step). HaveStepped parts (record parts { coord = coord }) s × IsAnswer answer s × (s.appended ≡ None)) (sym (yes-counts work is are.0 false are.1)) (
        stepped parts (record parts { coord = coord }) step refl (here-with parts tied coord (with_vote work from) with_it)
            (tied-with parts tied coord (with_vote work from) (work-voted work (voting-work parts tied txn work is)) with_it),
        record { sends = ap (map outgoing_of) says.sends; notes = ap (map note_of) says.notes; locked = says.locked },
        refl,
      )

  -- A yes after which others are awaited.
  pub yes-waits : vote_of found_now from ≡ voted.Wait → (coord : CoordMemory) → coord.contents ≡ counting parts.coord.contents txn from
      → (answer : Step) → Says answer [] [] None
      → HaveStepped parts (record parts { coord = coord }) (on_yes here_now from txn) × IsAnswer answer (on_yes here_now from txn) × ((on_yes here_now from txn).appended ≡ None)
  yes-waits waits coord counted answer says = wait-by found_now refl waits coord counted answer says
