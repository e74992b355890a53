-- A step of a decider that stands for one of the rules.
use Rattle.std.proofs.Common.{◌≡◌, ℕ, ◌+◌, ◌<◌, ◌≤◌, Bool, true, false, Option, Some, None, List, [], ◌∷◌, ◌++◌, Ok, Err, length, map, refl, sym, ap, subst, ◌∙◌, arith}
use Rattle.std.specs.Prelude.{if◌then◌else◌, nat_lt, is_some}
use Rattle.std.specs.List.{sum_by}
use Rattle.std.specs.Option.{option_map, option_to_list}
use Rattle.std.proofs.lemmas.Bool.{ltb-false, ltb-true, true≢false}
use Rattle.std.proofs.lemmas.List.{append-nil, map-append}
use Rattle.std.proofs.lemmas.List.Elements.{All-append, All-cons, All-nil}
use Rattle.std.proofs.lemmas.List.Sums.{sum_by-append}
use Rattle.pv_base.specs.Assignment.{is_same_txn}
use Rattle.pv_base.proofs.AssignmentLemmas.{same-eq}
use Rattle.pv_base.specs.declared.limits.TheConstants.{MAX_SITES}
use Rattle.pv_base.specs.declared.txn.TxnId.{TxnId}
use Rattle.pv_disk_model.specs.LogModel.{LogModel}
use Rattle.pv_disk_model.specs.Size.{Contents}
use Rattle.pv_law_quorum.specs.Decider.{Setup, Here, Entry, Answer, answer_to, entry_of, step, within_limit, full}
use Rattle.pv_law_quorum.specs.Record as records
use Rattle.pv_quorum.specs.DeciderState.{DeciderState, StandsFor, setup_of}
use Rattle.pv_quorum.specs.Knows.{IsRecorded, IsProposal, Knows}
use Rattle.pv_quorum.specs.Makes.{IsMade}
use Rattle.pv_quorum.specs.MemoryView.{known_at}
use Rattle.pv_quorum.specs.Spelling.{IsInRange, record_bytes, length_of, txn_in}
use Rattle.pv_quorum.specs.Steps.{after, Gives, Logs, HasMade, Steps}
use Rattle.pv_quorum.specs.Values.{input_of, txn_of, record_of, outgoing_of, lines_of}
use Rattle.pv_quorum.specs.Writing.{Writes}
use Rattle.pv_quorum.specs.declared.error.QuorumError.{QuorumError}
use Rattle.pv_quorum.specs.declared.error.QuorumError.TheVariants.{Fault, Down, NoMemory}
use Rattle.pv_quorum.specs.declared.known.Known.{Known}
use Rattle.pv_quorum.specs.declared.made.Made.{Made}
use Rattle.pv_quorum.specs.declared.message.QuorumInput.{QuorumInput}
use Rattle.pv_quorum.specs.declared.message.QuorumInput.TheVariants.{Propose, Take}
use Rattle.pv_quorum.specs.declared.message.QuorumMessage.TheVariants.{Prepare, Promise, Accept, Accepted}
use Rattle.pv_quorum.specs.declared.message.QuorumStep.{QuorumStep}
use Rattle.pv_quorum.specs.declared.record.Record.{Record}
use Rattle.pv_quorum.specs.declared.writing.Written.TheVariants as written
use Rattle.pv_quorum.proofs.KnownLemmas.{recorded-apart}
use Rattle.pv_quorum.proofs.StepLemmas.{IsOf, IsOwn, answer-own, input_txn}

-- The input is of the same transaction as what it is for the rules.
same-txn : (input : QuorumInput) → input_txn (input_of input) ≡ txn_of input
same-txn (Propose txn commits) = refl
same-txn (Take from (Prepare txn ballot)) = refl
same-txn (Take from (Promise txn ballot last)) = refl
same-txn (Take from (Accept txn ballot commits)) = refl
same-txn (Take from (Accepted txn ballot)) = refl

-- A log with one record more is longer by its bytes and 5.
pub length-more : (entries : List records.Record) (entry : records.Record) → length_of (entries ++ entry ∷ []) ≡ length_of entries + (5 + length (record_bytes entry))
length-more entries entry =
    let sums = ap (sum_by (λ (content : List ℕ). 5 + length content)) (map-append record_bytes entries (entry ∷ []))
    ∙ sum_by-append (λ (content : List ℕ). 5 + length content) (map record_bytes entries) (record_bytes entry ∷ []) in
    omega (arith, sums)

not-below : (limit size : ℕ) (b : Bool) → nat_lt limit size ≡ b → size ≤ limit → b ≡ false
not-below limit size false is within = refl
not-below limit size true is within = absurd (omega (arith, ltb-true limit size is, within))

module _ {W : Type 0} (M : LogModel W) (me count : ℕ) (down : Bool) (log : W) (pairs : List (TxnId × Known)) (input : QuorumInput) (made : Made) where
  abbrev pub before : DeciderState W
  before = record { me = me; count = count; known = pairs; is_down = down; log = log }

  abbrev pub setup : Setup
  setup = setup_of count (M.limit log)

  -- What was made is the rules' answer to the input.
  abbrev pub Makes : Here → Type 0
  Makes here = IsMade me (txn_of input) made (answer_to setup here (input_of input))

  -- This is known of the input's transaction, and of the others what was.
  abbrev pub Updates : List (TxnId × Known) → Known → Type 0
  Updates new known = (other : TxnId) → known_at new other ≡ (if is_same_txn other (txn_of input) then known else known_at pairs other)

  -- the step that is answered
  abbrev pub given : QuorumStep
  given = record { sends = made.sends; decided = made.decided; full = None; spent = made.spent }

  module _ (here : Here) (stands : StandsFor M before here) (is : Makes here) where
    abbrev answer : Answer
    answer = answer_to setup here (input_of input)

    is-own : IsOwn setup here (txn_of input) answer
    is-own = subst (λ (t : TxnId). IsOwn setup here t answer) (same-txn input) (answer-own setup here (input_of input))

    gives-answer : Gives me given answer
    gives-answer = record { sends = is.sends; lines = is.lines }

    -- Of another transaction what was known stays known.
    knows-apart : (entries : List records.Record) (other : TxnId) → is_same_txn other (txn_of input) ≡ false → IsRecorded other entries (known_at pairs other)
        → Knows (record { me = here.me; records = entries; entries = answer.entries }) other (known_at pairs other)
    knows-apart entries other apart recorded = record {
      recorded = recorded;
      proposal = subst (λ (o : Option Entry). IsProposal other o (known_at pairs other).proposal) (sym (is-own.others other apart)) (stands.knows other).proposal;
    }

    -- The input's transaction has its new proposal.
    knows-own : (entries : List records.Record) (known : Known) → known.proposal ≡ made.proposal → IsRecorded (txn_of input) entries known
        → Knows (record { me = here.me; records = entries; entries = answer.entries }) (txn_of input) known
    knows-own entries known same recorded = record {
      recorded = recorded;
      proposal = subst (IsProposal (txn_of input) (entry_of (txn_of input) answer.entries)) (sym same) is.proposal;
    }

    knows-all : (entries : List records.Record) (new : List (TxnId × Known)) (known : Known) → Updates new known → known.proposal ≡ made.proposal
        → IsRecorded (txn_of input) entries known
        → ((other : TxnId) → is_same_txn other (txn_of input) ≡ false → IsRecorded other entries (known_at pairs other))
        → (other : TxnId) → Knows (record { me = here.me; records = entries; entries = answer.entries }) other (known_at new other)
    knows-all entries new known updates same recorded others other =
        subst (Knows (record { me = here.me; records = entries; entries = answer.entries }) other) (sym (updates other)) (by (is_same_txn other (txn_of input)) refl) where
          by : (b : Bool) → is_same_txn other (txn_of input) ≡ b
              → Knows (record { me = here.me; records = entries; entries = answer.entries }) other (if b then known else known_at pairs other)
          by true eq =
              subst (λ (t : TxnId). Knows (record { me = here.me; records = entries; entries = answer.entries }) t known) (sym (same-eq {t = other} {u = txn_of input} eq))
              (knows-own entries known same recorded)
          by false apart = knows-apart entries other apart (others other apart)

    -- Nothing is recorded.
    pub made-alone : made.appended ≡ None → (new : List (TxnId × Known)) → Updates new (record (known_at pairs (txn_of input)) { proposal = made.proposal })
        → HasMade M before (record before { known = new }) here given (step setup here (input_of input))
    made-alone none new updates =
        subst (HasMade M before (record before { known = new }) here given) (sym (ap (within_limit setup here answer) unappended))
        (record {
          gives = gives-answer;
          stands = subst (StandsFor M (record before { known = new })) same-here (record {
            up = stands.up;
            me = stands.me;
            range = stands.range;
            knows = knows-all here.records new (record (known_at pairs (txn_of input)) { proposal = made.proposal }) updates refl
                (record { promised_is = recorded.promised_is; values = recorded.values }) (λ other apart. (stands.knows other).recorded);
            size = stands.size;
            held = stands.held;
          });
          log = subst (Logs M log log) (sym unappended) refl;
        }) where
          unappended : answer.appended ≡ None
          unappended = is.appended ∙ ap (option_map record_of) none

          recorded : IsRecorded (txn_of input) here.records (known_at pairs (txn_of input))
          recorded = (stands.knows (txn_of input)).recorded

          same-here : record { me = here.me; records = here.records; entries = answer.entries } ≡ after here answer
          same-here = λ i. record {
            me = here.me;
            records = (sym (append-nil here.records) ∙ ap (λ (o : Option records.Record). here.records ++ option_to_list o) (sym unappended)) i;
            entries = answer.entries;
          }

    -- A record was to be appended.
    module _ (entry : Record) (some : made.appended ≡ Some entry) where
      appends : answer.appended ≡ Some (record_of entry)
      appends = is.appended ∙ ap (option_map record_of) some

      of-txn : txn_in (record_of entry) ≡ txn_of input
      of-txn = subst (IsOf (txn_of input)) appends is-own.own

      stepped : step setup here (input_of input) ≡ within_limit setup here answer (Some (record_of entry))
      stepped = ap (within_limit setup here answer) appends

      -- There is no room for it.
      pub made-full : (length_now : ℕ) (new : W) → Writes M log new (record_of entry) (Ok (written.Full length_now)) → (same_pairs : List (TxnId × Known)) → same_pairs ≡ pairs
          → (answered : QuorumStep) → answered ≡ record { sends = answered.sends; decided = None; full = Some length_now; spent = false } → answered.sends.items ≡ []
          → HasMade M before (record before { known = same_pairs; log = new }) here answered (step setup here (input_of input))
      made-full length_now new wrote same_pairs same answered is_full unsent =
          subst (HasMade M before (record before { known = same_pairs; log = new }) here answered) (sym (stepped ∙ too-long))
          (record {
            gives = record {
              sends = sym (ap (map outgoing_of) unsent);
              lines = (λ i. full (stands.me i) (long-length i) ∷ []) ∙ ap (lines_of me) (sym is_full);
            };
            stands = subst (λ (d : DeciderState W). StandsFor M d (after here full-answer)) (λ i. record before { known = sym same i; log = sym wrote.0 i })
                (subst (StandsFor M before) (λ i. record here { records = sym (append-nil here.records) i }) stands);
            log = wrote.0;
          }) where
            full-answer : Answer
            full-answer = record { entries = here.entries; appended = None; sends = []; lines = full here.me (length_of (here.records ++ record_of entry ∷ [])) ∷ [] }

            long-length : length_of (here.records ++ record_of entry ∷ []) ≡ length_now
            long-length = omega (arith, length-more here.records (record_of entry), stands.size, wrote.1)

            is-long : (b : Bool) → nat_lt (M.limit log) (length_of (here.records ++ record_of entry ∷ [])) ≡ b → b ≡ true
            is-long true eq = refl
            is-long false eq = absurd (omega (arith, ltb-false (M.limit log) (length_of (here.records ++ record_of entry ∷ [])) eq, long-length, wrote.2))

            too-long : within_limit setup here answer (Some (record_of entry)) ≡ full-answer
            too-long = ap (λ (b : Bool). if b then full-answer else answer) (is-long _ refl)

      -- It was appended.
      pub made-recorded : (new : W) → Writes M log new (record_of entry) (Ok written.Done) → (known : Known) (pairs_now : List (TxnId × Known)) → Updates pairs_now known
          → known.proposal ≡ made.proposal
          → (IsRecorded (txn_in (record_of entry)) here.records (record (known_at pairs (txn_of input)) { proposal = made.proposal })
          → IsRecorded (txn_in (record_of entry)) (here.records ++ record_of entry ∷ []) known)
          → ((txn_in (record_of entry)).site.0 < MAX_SITES → IsInRange (record_of entry)) → (txn_of input).site.0 < MAX_SITES
          → HasMade M before (record before { known = pairs_now; log = new }) here given (step setup here (input_of input))
      made-recorded new wrote known pairs_now updates same_proposal recorded fits site =
          subst (HasMade M before (record before { known = pairs_now; log = new }) here given) (sym (stepped ∙ within))
          (record {
            gives = gives-answer;
            stands = subst (StandsFor M (record before { known = pairs_now; log = new })) same-here (record {
              up = stands.up;
              me = stands.me;
              range = All-append IsInRange here.records (record_of entry ∷ []) stands.range (All-cons IsInRange (record_of entry) [] range (All-nil IsInRange));
              knows = knows-all (here.records ++ record_of entry ∷ []) pairs_now known updates same_proposal own
                  (λ other apart. recorded-apart other here.records (known_at pairs other) (stands.knows other).recorded (record_of entry)
                  (ap (is_same_txn other) of-txn ∙ apart));
              size = omega (arith, wrote.2.size, stands.size, length-more here.records (record_of entry));
              held = held-more (M.contents log) refl;
            });
            log = subst (Logs M log new) (sym appends) (wrote.1, wrote.2, wrote.3);
          }) where
            range : IsInRange (record_of entry)
            range = fits (subst (λ (t : TxnId). t.site.0 < MAX_SITES) (sym of-txn) site)

            within : within_limit setup here answer (Some (record_of entry)) ≡ answer
            within = ap
                (λ (b : Bool). if b then record { entries = here.entries; appended = None; sends = []; lines = full here.me (length_of (here.records ++ record_of entry ∷ [])) ∷ [] } else answer)
                (not-below (M.limit log) (length_of (here.records ++ record_of entry ∷ [])) _ refl (omega (arith, length-more here.records (record_of entry), stands.size, wrote.0)))

            old-recorded : IsRecorded (txn_of input) here.records (known_at pairs (txn_of input))
            old-recorded = (stands.knows (txn_of input)).recorded

            own : IsRecorded (txn_of input) (here.records ++ record_of entry ∷ []) known
            own = subst (λ (t : TxnId). IsRecorded t (here.records ++ record_of entry ∷ []) known) of-txn
                (recorded (subst (λ (t : TxnId). IsRecorded t here.records (record (known_at pairs (txn_of input)) { proposal = made.proposal })) (sym of-txn)
                (record { promised_is = old-recorded.promised_is; values = old-recorded.values })))

            same-here : record { me = here.me; records = here.records ++ record_of entry ∷ []; entries = answer.entries } ≡ after here answer
            same-here = λ i. record { me = here.me; records = here.records ++ option_to_list (sym appends i); entries = answer.entries }

            held-more : (was : Option Contents) → M.contents log ≡ was → (contents : Contents) → M.contents new ≡ Some contents
                → contents ≡ map record_bytes (here.records ++ record_of entry ∷ [])
            held-more (Some was) told contents now =
                let both : Some contents ≡ Some (was ++ record_bytes (record_of entry) ∷ []) = sym now ∙ wrote.2.contents was told in
                let same : contents ≡ was ++ record_bytes (record_of entry) ∷ [] = cc in
                same ∙ ap (λ (c : Contents). c ++ record_bytes (record_of entry) ∷ []) (stands.held was told) ∙ sym (map-append record_bytes here.records (record_of entry ∷ []))
            held-more None told contents now = absurd (true≢false (sym (ap is_some now) ∙ (wrote.2.known ∙ ap is_some told)))

      -- The log failed, or there was no memory.
      pub made-broken : (error : QuorumError) (new : W) → Writes M log new (record_of entry) (Err error) → (same_pairs : List (TxnId × Known)) → same_pairs ≡ pairs
          → ((txn_in (record_of entry)).site.0 < MAX_SITES → IsInRange (record_of entry)) → (txn_of input).site.0 < MAX_SITES → (down_now : Bool) → (error ≡ Fault → down_now ≡ true) → (error ≡ NoMemory → down_now ≡ down)
          → Steps M before (record before { known = same_pairs; log = new; is_down = down_now }) here (input_of input) (Err error)
      made-broken Fault new wrote same_pairs same fits site down_now falls stays = record {
        entry = record_of entry;
        was_to = within-appended;
        range = fits (subst (λ (t : TxnId). t.site.0 < MAX_SITES) (sym of-txn) site);
        decider = λ i. record before { known = same i; log = new; is_down = falls refl i };
        down = wrote.1;
        log = wrote.2;
        calls = wrote.3;
      } where
        within-appended : (step setup here (input_of input)).appended ≡ Some (record_of entry)
        within-appended =
            ap (λ (a : Answer). a.appended) (stepped ∙ ap
            (λ (b : Bool). if b then record { entries = here.entries; appended = None; sends = []; lines = full here.me (length_of (here.records ++ record_of entry ∷ [])) ∷ [] } else answer)
            (not-below (M.limit log) (length_of (here.records ++ record_of entry ∷ [])) _ refl (omega (arith, length-more here.records (record_of entry), stands.size, wrote.0))))
            ∙ appends
      made-broken Down new wrote same_pairs same fits site down_now falls stays = absurd wrote
      made-broken NoMemory new wrote same_pairs same fits site down_now falls stays = record {
        decider = λ i. record before { known = same i; log = new; is_down = stays refl i };
        up = wrote.0;
        log = wrote.1;
      }
