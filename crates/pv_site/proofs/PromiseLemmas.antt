-- What a promise leaves of a site.
use Rattle.std.proofs.Common.{◌≡◌, refl, sym, subst, ap, ◌∙◌, ℕ, ◌+◌, ◌<◌, ◌≤◌, Bool, true, false, List, [], ◌∷◌, ◌++◌, map, Option, Some, None, Result, Ok, Err, arith}
use Rattle.std.specs.Prelude.{nat_lt, not, ◌||◌, if◌then◌else◌, All, IsTrue}
use Rattle.std.specs.List.{list_any, filter, Contains}
use Rattle.std.specs.Cmp.Lexicographic.{same_text}
use Rattle.std.proofs.lemmas.Bool.Decides.{nat_tests}
use Rattle.std.proofs.lemmas.List.Elements.{All-contains, All-filter}
use Rattle.std.proofs.lemmas.Bool.{false≢true}
use Rattle.pv_base.proofs.MapLemmas.{Contains-map, Contains-unmap}
use Rattle.pv_base.specs.Assignment.{is_same_txn}
use Rattle.pv_base.specs.Catalog.{Declared}
use Rattle.pv_base.specs.Want.{Want}
use Rattle.pv_base.specs.declared.limits.TheConstants.{MAX_SITES}
use Rattle.pv_base.specs.declared.txn.SiteId.{SiteId}
use Rattle.pv_base.specs.declared.txn.TxnId.{TxnId}
use Rattle.pv_format.specs.Message as message
use Rattle.pv_format.specs.Record.{Record, prepared}
use Rattle.pv_disk_model.specs.LogModel.{LogModel}
use Rattle.pv_law_step.proofs.Appended.{grant-txn}
use Rattle.pv_law_step.proofs.Kept.{find-of}
use Rattle.pv_law_step.proofs.Lists.{all-from, of-some}
use Rattle.pv_locks.specs.LockTable as table
use Rattle.pv_locks.specs.LockTable.{LockTable}
use Rattle.pv_model.specs.Alternatives.{Read}
use Rattle.pv_protocol.specs.Coordinate.{exclusive_items}
use Rattle.pv_protocol.specs.Keyed.{with_one}
use Rattle.pv_protocol.specs.Here.{Here, is_full, length_with, nothing, only_to, sending}
use Rattle.pv_protocol.specs.Lock.{is_home}
use Rattle.pv_protocol.specs.Records.{record_bytes}
use Rattle.pv_protocol.specs.Sound.{IsHeldInRange}
use Rattle.pv_protocol.specs.State as model
use Rattle.pv_protocol.specs.State.{Grant, Entry, Running}
use Rattle.pv_protocol.specs.Vote.{are_writes_ignored, are_writes_of, promising, with_writes, would_be_wide}
use Rattle.pv_site.proofs.Answered.{Says, keeping-message, keeping-nothing, with-message, with-nothing}
use Rattle.pv_site.proofs.Recorded.{has-room, step-failed}
use Rattle.pv_site.proofs.Settling.{tied-more}
use Rattle.pv_site.proofs.Tied.{tied-locks}
use Rattle.pv_site.specs.declared.appending.Written.{Written}
use Rattle.pv_site.specs.declared.appending.Written.TheVariants as written
use Rattle.pv_wire.specs.declared.message.Message.TheVariants.{Yes, No}
use Rattle.pv_wire.specs.declared.message.NoCause.TheVariants.{JournalFull}
use Rattle.pv_site.specs.OnLog.{AreReady, Logs, StepsOnLog}
use Rattle.pv_site.specs.SiteParts.{here_of, running_of, AreKept, AreSound, AreTied, HaveStepped}
use Rattle.pv_site.specs.Room.{Writes}
use Rattle.pv_site.specs.Values.{note_of, outgoing_of}
use Rattle.pv_site.specs.declared.error.StepError.{StepError}
use Rattle.pv_site.specs.declared.input.Step.{Step}
use Rattle.pv_site.specs.declared.parts.SiteParts.{SiteParts}
use Rattle.pv_store.specs.Kept.{Kept}
use Rattle.pv_wire.specs.Values.{message_of}
use Rattle.pv_wire.specs.declared.message.Message.{Message}

lt-true : (m n : ℕ) → m < n → nat_lt m n ≡ true
lt-true m n less = grind (arith, nat_tests, less)

module _ {W : Type 0} (M : LogModel W) (log : W) where
  unlogged : (appended : Option Record) → appended ≡ None → Logs M log log appended
  unlogged None is = refl
  unlogged (Some more) is = absurd (let wrong : ⊥ = cc in wrong)

  -- Nothing happens.
  pub plain-nothing : (parts : SiteParts) → AreTied parts → (answer : Step) (step : model.Step) → Says answer [] [] None → step ≡ nothing (here_of parts)
      → StepsOnLog M log log parts parts step (Ok answer)
  plain-nothing parts tied answer step says is =
      let made = with-nothing parts tied answer step says is in
      (made.0, made.1, unlogged step.appended (ap (λ (s : model.Step). s.appended) is))

  -- One message is sent.
  pub plain-message : (parts : SiteParts) → AreTied parts → (to : SiteId) (message : Message) (answer : Step) (step : model.Step)
      → Says answer (record { to = to; message = message } ∷ []) [] None
      → step ≡ sending (here_of parts).running (only_to to.0 (message_of message)) → StepsOnLog M log log parts parts step (Ok answer)
  plain-message parts tied to message answer step says is =
      let made = with-message parts tied to message step (Ok answer) says.sends says.notes says.locked is in
      (made.0, made.1, unlogged step.appended (ap (λ (s : model.Step). s.appended) is))

-- What the promise is of.

home-item : (catalog : Declared) (me : ℕ) (wants : List Want) → All (λ (want : Want). IsTrue (is_home catalog me want.item)) wants
    → (n : ℕ) → Contains (exclusive_items wants) n → IsTrue (is_home catalog me n)
home-item catalog me wants homes n there =
    let from = Contains-unmap (λ (want : Want). want.item) (filter (λ (want : Want). want.exclusive) wants) n there in
    subst (λ item. IsTrue (is_home catalog me item)) from.1.1
    (All-contains (λ (want : Want). IsTrue (is_home catalog me want.item)) (filter (λ (want : Want). want.exclusive) wants) from.0
    (All-filter (λ (want : Want). want.exclusive) (λ (want : Want). IsTrue (is_home catalog me want.item)) wants homes) from.1.0)

-- Writes of a grant's items are of items of the site.
pub writes-home : (catalog : Declared) (me : ℕ) (standing : Grant) (writes : List Read) → All (λ (want : Want). IsTrue (is_home catalog me want.item)) standing.wants
    → are_writes_of standing writes ≡ true → All (λ (write : Read). IsTrue (is_home catalog me write.item)) writes
writes-home catalog me standing writes homes are =
    all-from (λ (write : Read). IsTrue (is_home catalog me write.item)) writes
    (λ write there. home-item catalog me standing.wants homes write.item
    (subst (λ items. Contains items write.item) (same_text (map (λ (write : Read). write.item) writes) (exclusive_items standing.wants) (sym are))
    (Contains-map (λ (write : Read). write.item) writes write there)))

-- A grant that stands is in range.
pub standing-held : (parts : SiteParts) → AreSound parts → (txn : TxnId) (standing : Grant) → table.grant_of parts.locks txn ≡ Some standing
    → IsHeldInRange MAX_SITES parts.catalog parts.me.0 standing
standing-held parts sound txn standing is =
    of-some (IsHeldInRange MAX_SITES parts.catalog parts.me.0) (table.grant_of parts.locks txn) standing
    (find-of (IsHeldInRange MAX_SITES parts.catalog parts.me.0) (λ (grant : Grant). is_same_txn txn grant.txn) parts.locks.grants sound.range.running.grants) is

-- The case of the writes.

module _ (here : Here) (standing : Grant) (writes : List Read) where
  ignored-by : (b : Bool) → are_writes_ignored here standing writes ≡ b → b ≡ true → with_writes here standing writes ≡ nothing here
  ignored-by b is taken_so = if-true (are_writes_ignored here standing writes) (nothing here)
      (if is_full here (prepared standing.txn writes)
      then sending here.running (only_to standing.txn.site.0 (message.vote_no standing.txn (message.journal_full (length_with here (prepared standing.txn writes)))))
      else promising here standing writes) (is ∙ taken_so)
    where
      if-true : {X : Type 0} (b : Bool) (x y : X) → b ≡ true → (if b then x else y) ≡ x
      if-true true x y is = refl
      if-true false x y is = absurd (false≢true is)

  pub step-wrong : are_writes_of standing writes ≡ false → with_writes here standing writes ≡ nothing here
  step-wrong wrong = ignored-by (are_writes_ignored here standing writes) refl
      (ap (λ b. not b || list_any (λ write. would_be_wide here (prepared standing.txn writes) write.item) writes) wrong)

  pub step-wide : are_writes_of standing writes ≡ true → list_any (λ write. would_be_wide here (prepared standing.txn writes) write.item) writes ≡ true
      → with_writes here standing writes ≡ nothing here
  step-wide right wide = ignored-by (are_writes_ignored here standing writes) refl
      (ap (λ b. not b || list_any (λ write. would_be_wide here (prepared standing.txn writes) write.item) writes) right ∙ wide)

  later-by : (ignored full : Bool) → are_writes_ignored here standing writes ≡ ignored → is_full here (prepared standing.txn writes) ≡ full → ignored ≡ false
      → with_writes here standing writes ≡ (if full
      then sending here.running (only_to standing.txn.site.0 (message.vote_no standing.txn (message.journal_full (length_with here (prepared standing.txn writes)))))
      else promising here standing writes)
  later-by ignored full is fills taken =
      if-both (nothing here)
      (sending here.running (only_to standing.txn.site.0 (message.vote_no standing.txn (message.journal_full (length_with here (prepared standing.txn writes))))))
      (promising here standing writes) (are_writes_ignored here standing writes) (is_full here (prepared standing.txn writes)) full (is ∙ taken) fills
    where
      if-both : (x y z : model.Step) (a b c : Bool) → a ≡ false → b ≡ c → (if a then x else (if b then y else z)) ≡ (if c then y else z)
      if-both x y z true b c is same = absurd (false≢true (sym is))
      if-both x y z false b c is same = ap (λ t. if t then y else z) same

  taken : are_writes_of standing writes ≡ true → list_any (λ write. would_be_wide here (prepared standing.txn writes) write.item) writes ≡ false
      → are_writes_ignored here standing writes ≡ false
  taken right narrow = ap (λ b. not b || list_any (λ write. would_be_wide here (prepared standing.txn writes) write.item) writes) right ∙ narrow

  pub step-full : are_writes_of standing writes ≡ true → list_any (λ write. would_be_wide here (prepared standing.txn writes) write.item) writes ≡ false
      → is_full here (prepared standing.txn writes) ≡ true
      → with_writes here standing writes ≡ sending here.running (only_to standing.txn.site.0 (message.vote_no standing.txn (message.journal_full (length_with here (prepared standing.txn writes)))))
  step-full right narrow full = later-by false true (taken right narrow) full refl

  pub step-room : are_writes_of standing writes ≡ true → list_any (λ write. would_be_wide here (prepared standing.txn writes) write.item) writes ≡ false
      → is_full here (prepared standing.txn writes) ≡ false → with_writes here standing writes ≡ promising here standing writes
  step-room right narrow room = later-by false false (taken right narrow) room refl

-- The parts.

renewed-is : (grants : List Grant) (found : Option Grant) (standing : Grant) → found ≡ Some standing
    → table.with_renewed grants found ≡ with_one (λ (grant : Grant). grant.txn) (record standing { age = 0 }) grants
renewed-is grants None standing is = absurd (let wrong : ⊥ = cc in wrong)
renewed-is grants (Some grant) standing is =
    let same : grant ≡ standing = cc in
    ap (λ (g : Grant). with_one (λ (grant : Grant). grant.txn) (record g { age = 0 }) grants) same

module _ (parts : SiteParts) (tied : AreTied parts) (txn : TxnId) (standing : Grant) (stands : table.grant_of parts.locks txn ≡ Some standing) (writes : List Read) where
  txn-is : txn ≡ standing.txn
  txn-is = grant-txn (here_of parts).running txn standing stands

  -- With one more promise and the grant renewed the parts are those after the step.
  pub promised-stepped : (store : Kept) (locks : LockTable) → store.site ≡ parts.store.site → store.catalog ≡ parts.store.catalog
      → store.records ≡ parts.store.records ++ prepared txn writes ∷ [] → locks ≡ table.renewed parts.locks txn
      → HaveStepped parts (record parts { store = store; locks = locks }) (promising (here_of parts) standing writes)
  promised-stepped store locks site catalog records renewed = record {
    here =
        ap (λ (kept : List Record). record (here_of parts) { records = kept; running = running_of locks parts.coord.contents }) records
        ∙ (ap (λ (l : LockTable). record (here_of parts) { records = parts.store.records ++ prepared txn writes ∷ []; running = running_of l parts.coord.contents }) renewed
        ∙ (ap (λ (grants : List Grant). record (here_of parts) {
          records = parts.store.records ++ prepared txn writes ∷ [];
          running = record (running_of parts.locks parts.coord.contents) { grants = grants };
        })
        (renewed-is parts.locks.grants (table.grant_of parts.locks txn) standing stands)
        ∙ ap (λ (t : TxnId). record (here_of parts) {
          records = parts.store.records ++ prepared t writes ∷ [];
          running = record (running_of parts.locks parts.coord.contents) { grants = with_one (λ (grant : Grant). grant.txn) (record standing { age = 0 }) parts.locks.grants };
        }) txn-is));
    tied = tied-locks (record parts { store = store }) (tied-more parts store (prepared txn writes) tied site catalog records) locks (ap (λ (l : LockTable). l.epoch) renewed);
  }

  wide-is : (b : Bool) → list_any (λ (write : Read). would_be_wide (here_of parts) (prepared txn writes) write.item) writes ≡ b
      → list_any (λ (write : Read). would_be_wide (here_of parts) (prepared standing.txn writes) write.item) writes ≡ b
  wide-is b is = subst (λ (t : TxnId). list_any (λ (write : Read). would_be_wide (here_of parts) (prepared t writes) write.item) writes ≡ b) txn-is is

  module _ {W : Type 0} (M : LogModel W) (log_old log_new : W) (new : SiteParts) (right : are_writes_of standing writes ≡ true) where
    -- A value would be too wide.
    pub too-wide : AreKept parts new → list_any (λ (write : Read). would_be_wide (here_of parts) (prepared txn writes) write.item) writes ≡ true
        → log_new ≡ log_old → (answer : Step) → Says answer [] [] None → StepsOnLog M log_old log_new parts new (with_writes (here_of parts) standing writes) (Ok answer)
    too-wide kept wide same answer says =
        let is = step-wide (here_of parts) standing writes right (wide-is true wide) in
        let made = keeping-nothing parts new kept answer (with_writes (here_of parts) standing writes) says is in (
          made.0,
          made.1,
          subst (λ log. Logs M log_old log (with_writes (here_of parts) standing writes).appended) (sym same)
              (unlogged M log_old (with_writes (here_of parts) standing writes).appended (ap (λ (s : model.Step). s.appended) is)),
        )

    module _ (ready : AreReady M log_old parts) (narrow : list_any (λ (write : Read). would_be_wide (here_of parts) (prepared txn writes) write.item) writes ≡ false) where
      wrote-is : (result : Result Written StepError) → Writes M log_old log_new (prepared txn writes) result → Writes M log_old log_new (prepared standing.txn writes) result
      wrote-is result wrote = subst (λ (t : TxnId). Writes M log_old log_new (prepared t writes) result) txn-is wrote

      promises : M.size log_old + record_bytes (prepared standing.txn writes) ≤ M.limit log_old → with_writes (here_of parts) standing writes ≡ promising (here_of parts) standing writes
      promises fits = step-room (here_of parts) standing writes right (wide-is false narrow) (has-room M log_old log_new parts new ready (prepared standing.txn writes) fits)

      -- The promise is in the log.
      pub promise-kept : (answer : Step) → Writes M log_old log_new (prepared txn writes) (Ok written.Done) → HaveStepped parts new (promising (here_of parts) standing writes)
          → Says answer (record { to = txn.site; message = Yes txn } ∷ []) [] None → StepsOnLog M log_old log_new parts new (with_writes (here_of parts) standing writes) (Ok answer)
      promise-kept answer wrote stepped says =
          let at = wrote-is (Ok written.Done) wrote in
          subst (λ (s : model.Step). StepsOnLog M log_old log_new parts new s (Ok answer)) (sym (promises at.0)) (
            stepped,
            record {
              sends = ap (map outgoing_of) says.sends ∙ ap (λ (t : TxnId). only_to t.site.0 (message.vote_yes t)) txn-is;
              notes = ap (map note_of) says.notes;
              locked = says.locked;
            },
            (at.1, at.2),
          )

      -- The promise could not be written.
      pub promise-failed : (error : StepError) → Writes M log_old log_new (prepared txn writes) (Err error) → AreKept parts new
          → StepsOnLog M log_old log_new parts new (with_writes (here_of parts) standing writes) (Err error)
      promise-failed error wrote kept =
          step-failed M log_old log_new parts new (prepared standing.txn writes) (with_writes (here_of parts) standing writes)
          (λ fits. ap (λ (s : model.Step). s.appended) (promises fits)) error (wrote-is (Err error) wrote) kept

      -- There is no room for it.
      pub promise-full : (length : ℕ) → Writes M log_old log_new (prepared txn writes) (Ok (written.Full length)) → AreKept parts new
          → (answer : Step) → Says answer (record { to = txn.site; message = No txn (JournalFull length) } ∷ []) [] None
          → StepsOnLog M log_old log_new parts new (with_writes (here_of parts) standing writes) (Ok answer)
      promise-full length wrote kept answer says =
          let at = wrote-is (Ok (written.Full length)) wrote in
          let long : length ≡ length_with (here_of parts) (prepared standing.txn writes) = at.1 ∙ ap (λ size. size + record_bytes (prepared standing.txn writes)) ready.holds.size in
          let full : is_full (here_of parts) (prepared standing.txn writes) ≡ true =
          let longer = at.2 in let limit = ready.limit in
          lt-true parts.catalog.journal (length_with (here_of parts) (prepared standing.txn writes)) (omega (arith, longer, limit, long)) in
          let is = step-full (here_of parts) standing writes right (wide-is false narrow) full in
          let to_it : sending (here_of parts).running (only_to standing.txn.site.0 (message.vote_no standing.txn (message.journal_full (length_with (here_of parts) (prepared standing.txn writes)))))
          ≡ sending (here_of parts).running (only_to txn.site.0 (message.vote_no txn (message.journal_full length))) =
          ap (λ n. sending (here_of parts).running (only_to standing.txn.site.0 (message.vote_no standing.txn (message.journal_full n)))) (sym long)
          ∙ ap (λ (t : TxnId). sending (here_of parts).running (only_to t.site.0 (message.vote_no t (message.journal_full length)))) (sym txn-is) in
          let made = keeping-message parts new kept txn.site (No txn (JournalFull length)) (with_writes (here_of parts) standing writes) (Ok answer) says.sends says.notes says.locked (is ∙ to_it) in (
            made.0,
            made.1,
            subst (λ log. Logs M log_old log (with_writes (here_of parts) standing writes).appended) (sym at.0)
                (unlogged M log_old (with_writes (here_of parts) standing writes).appended (ap (λ (s : model.Step). s.appended) is)),
          )
