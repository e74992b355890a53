-- What a step is given is in range, and what it leaves is sound.
use Rattle.std.proofs.Common.{◌≡◌, refl, sym, ap, subst, ◌∙◌, ℕ, ◌<◌, List, [], ◌∷◌, ◌++◌, map, Option, Result, Ok, Err}
use Rattle.std.specs.Prelude.{All, IfOk, option_to_list}
use Rattle.std.specs.Borrow.{Bor}
use Rattle.std.proofs.lemmas.List.{append-nil}
use Rattle.std.specs.List.{AllPairs}
use Rattle.std.proofs.lemmas.List.Elements.{All-contains}
use Rattle.pv_format.specs.Contents.{greatest_epoch}
use Rattle.pv_format.specs.Record.{Record, prepared, outcome_known}
use Rattle.pv_law_step.proofs.EpochLemmas.{epoch-stays}
use Rattle.pv_law_step.proofs.Lists.{all-from}
use Rattle.pv_law_step.specs.Appends.{Appends, nothing_at_all, an_outcome, a_promise}
use Rattle.pv_base.proofs.MapLemmas.{Contains-map}
use Rattle.pv_base.proofs.OrderLemmas.{pairs-nil, pairs-cons, pairs-first, pairs-tail}
use Rattle.pv_base.specs.Catalog.{Declared}
use Rattle.pv_base.specs.Want.{Want}
use Rattle.pv_base.specs.declared.limits.TheConstants.{MAX_SITES}
use Rattle.pv_base.specs.declared.txn.SiteId.{SiteId}
use Rattle.pv_base.specs.declared.txn.TxnId.{TxnId}
use Rattle.pv_format.specs.MessageSpelling.{SpellsEnvelope}
use Rattle.pv_format.specs.Range.{IsEnvelopeInRange}
use Rattle.pv_law_format.proofs.RangeLemmas.{envelope-from}
use Rattle.pv_disk_model.specs.LogModel.{LogModel}
use Rattle.pv_protocol.specs.Here.{Here}
use Rattle.pv_protocol.specs.Sound.{IsHereInRange, IsInputInRange}
use Rattle.pv_protocol.specs.State as model
use Rattle.pv_protocol.specs.Step.{after_step, records_after}
use Rattle.pv_site.specs.Answer.{IsAnswer}
use Rattle.pv_site.specs.Given.{IsGivenFor, input_in}
use Rattle.pv_site.specs.Inputs.{IsSpelledFrom}
use Rattle.pv_site.specs.OnLog.{StepsOnLog}
use Rattle.pv_site.specs.declared.error.StepError.{StepError}
use Rattle.pv_site.specs.declared.error.StepError.TheVariants.{Fault, Down, NoMemory}
use Rattle.pv_site.specs.SiteParts.{here_of, AreKept, AreSound, HaveStepped}
use Rattle.pv_site.specs.Values.{outgoing_of}
use Rattle.pv_site.specs.declared.input.Given.{Given}
use Rattle.pv_site.specs.declared.input.Given.TheVariants.{Submit, Take, Tick}
use Rattle.pv_site.specs.declared.input.Step.{Step}
use Rattle.pv_site.specs.declared.parts.SiteParts.{SiteParts}
use Rattle.pv_wire.specs.Values.{message_of}
use Rattle.pv_wire.specs.declared.message.Message.{Message}
use Rattle.pv_wire.specs.declared.message.Message.TheVariants.{Lock}
use Rattle.std.specs.Global.{Vec}

-- What holds between the values of all pairs of a list holds between the pairs.
pub pairs-unmap : {X Y : Type 0} (R : Y → Y → Type 0) (f : X → Y) (xs : List X) → AllPairs R (map f xs) → AllPairs (λ x y. R (f x) (f y)) xs
pairs-unmap R f [] h = pairs-nil (λ x y. R (f x) (f y))
pairs-unmap R f (x ∷ xs) h =
    pairs-cons (λ x y. R (f x) (f y)) x xs (λ y there. pairs-first R (f x) (map f xs) h (f y) (Contains-map f xs y there)) (pairs-unmap R f xs (pairs-tail R (f x) (map f xs) h))

-- The wants of a lock message in range ascend.
pub lock-ascending : (from to : ℕ) (message : Message) → IsEnvelopeInRange (record { from = from; to = to; message = message_of message })
    → (txn : TxnId) (wants : Vec Want) → message ≡ Lock txn wants → AllPairs (λ (want later : Want). want.item < later.item) wants.items
lock-ascending from to message range txn wants is =
    let at : IsEnvelopeInRange (record { from = from; to = to; message = message_of (Lock txn wants) }) =
    subst (λ m. IsEnvelopeInRange (record { from = from; to = to; message = message_of m })) is range in
    pairs-unmap (λ (item later : ℕ). item < later) (λ (want : Want). want.item) wants.items at.body.items.ascending

-- A message that is for the site is in range.
pub message-in-range : (me : ℕ) (catalog : Declared) (input : Given) → IsGivenFor me catalog input → (from : SiteId) (message : Bor Message) → input ≡ Take from message
    → IsEnvelopeInRange (record { from = from.0; to = me; message = message_of message.now })
message-in-range me catalog input for from message is =
    let at : IsGivenFor me catalog (Take from message) = subst (IsGivenFor me catalog) is for in
    envelope-from _ at.1.0 at.1.1

-- So is every input.
pub input-in-range : (here : Here) (input : Given) → IsGivenFor here.me here.setup.catalog input → IsInputInRange MAX_SITES here (input_in input)
input-in-range here (Submit program plan) for = for.0
input-in-range here (Take from message) for = envelope-from _ for.1.0 for.1.1
input-in-range here Tick for = tt

-- Parts that hold what they held are sound as they were.
pub kept-sound : (old new : SiteParts) → AreKept old new → AreSound old → AreSound new
kept-sound old new kept sound = record { tied = kept.tied; range = subst (IsHereInRange MAX_SITES) (sym kept.here) sound.range }

-- So are those that have stepped.
pub stepped-sound : (old new : SiteParts) (step : model.Step) → HaveStepped old new step → IsHereInRange MAX_SITES (after_step (here_of old) step) → AreSound new
stepped-sound old new step stepped range = record { tied = stepped.tied; range = subst (IsHereInRange MAX_SITES) (sym stepped.here) range }

all-unmap : {X Y : Type 0} (P : Y → Type 0) (f : X → Y) (xs : List X) → All P (map f xs) → All (λ x. P (f x)) xs
all-unmap P f xs all = all-from (λ x. P (f x)) xs (λ x there. All-contains P (map f xs) (f x) all (Contains-map f xs x there))

-- What is sent has spellings, as the step's messages have.
pub sends-spelled : (me : ℕ) (step : model.Step) (answer : Step) → IsAnswer answer step
    → All (λ (sent : model.Outgoing). (bytes : List ℕ) × SpellsEnvelope (record { from = me; to = sent.to; message = sent.message }) bytes) step.sends
    → All (IsSpelledFrom me) answer.sends.items
sends-spelled me step answer is spelled =
    all-unmap (λ (sent : model.Outgoing). (bytes : List ℕ) × SpellsEnvelope (record { from = me; to = sent.to; message = sent.message }) bytes) outgoing_of answer.sends.items
    (subst (λ sends. All (λ (sent : model.Outgoing). (bytes : List ℕ) × SpellsEnvelope (record { from = me; to = sent.to; message = sent.message }) bytes) sends) (sym is.sends) spelled)

module _ {W : Type 0} (M : LogModel W) (log_old log_new : W) (old new : SiteParts) (step : model.Step) where
  -- Whatever is answered, the parts are sound.
  pub sound-after : (result : Result Step StepError) → StepsOnLog M log_old log_new old new step result → AreSound old
      → IsHereInRange MAX_SITES (after_step (here_of old) step) → AreSound new
  sound-after (Ok answer) made sound range = stepped-sound old new step made.0 range
  sound-after (Err Fault) made sound range = kept-sound old new made.0 sound
  sound-after (Err Down) made sound range = absurd made
  sound-after (Err NoMemory) made sound range = kept-sound old new made.0 sound

  pub spelled-after : (me : ℕ) (result : Result Step StepError) → StepsOnLog M log_old log_new old new step result
      → All (λ (sent : model.Outgoing). (bytes : List ℕ) × SpellsEnvelope (record { from = me; to = sent.to; message = sent.message }) bytes) step.sends
      → IfOk result (λ answer. All (IsSpelledFrom me) answer.sends.items)
  spelled-after me (Ok answer) made spelled = sends-spelled me step answer made.1 spelled
  spelled-after me (Err error) made spelled = tt

  -- What a step appends begins no epoch.
  after-appended : (here : Here) → Appends here step.appended → greatest_epoch (records_after here.records step) ≡ greatest_epoch here.records
  after-appended here appends = by step.appended appends
    where
      by : (more : Option Record) → Appends here more → greatest_epoch (here.records ++ option_to_list more) ≡ greatest_epoch here.records
      by more nothing_at_all = ap greatest_epoch (append-nil here.records)
      by more (an_outcome txn commits room) = epoch-stays here.records (outcome_known txn commits) refl
      by more (a_promise txn writes is room) = epoch-stays here.records (prepared txn writes) refl

  kept-recorded : AreKept old new → greatest_epoch new.store.records ≡ greatest_epoch old.store.records
  kept-recorded kept = ap (λ (here : Here). greatest_epoch here.records) kept.here

  -- So the greatest epoch stays.
  pub recorded-after : (result : Result Step StepError) → StepsOnLog M log_old log_new old new step result → Appends (here_of old) step.appended
      → greatest_epoch new.store.records ≡ greatest_epoch old.store.records
  recorded-after (Ok answer) made appends = ap (λ (here : Here). greatest_epoch here.records) made.0.here ∙ after-appended (here_of old) appends
  recorded-after (Err Fault) made appends = kept-recorded made.0
  recorded-after (Err Down) made appends = absurd made
  recorded-after (Err NoMemory) made appends = kept-recorded made.0
