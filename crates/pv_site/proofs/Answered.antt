-- Steps in which no part of a site changes.
use Rattle.std.proofs.Common.{◌≡◌, None, Option, Result, Ok, Err, List, [], ◌∷◌, map, sym, ap, ◌∙◌}
use Rattle.std.specs.Prelude.{IfOk}
use Rattle.std.specs.Option.{option_map}
use Rattle.pv_base.specs.declared.failure.NoMemory.{NoMemory}
use Rattle.pv_base.specs.declared.txn.SiteId.{SiteId}
use Rattle.pv_base.specs.declared.txn.TxnId.{TxnId}
use Rattle.pv_protocol.specs.Here.{noting, nothing, only_to, sending}
use Rattle.pv_protocol.specs.State as model
use Rattle.pv_protocol.specs.State.{Running}
use Rattle.pv_site.proofs.Tied.{kept, stepped}
use Rattle.pv_site.specs.Answer.{IsAnswer}
use Rattle.pv_site.specs.SiteParts.{AreKept, AreTied, HaveStepped, StepParts, here_of}
use Rattle.pv_site.specs.Values.{note_of, outgoing_of}
use Rattle.pv_site.specs.declared.input.Note.{Note}
use Rattle.pv_site.specs.declared.input.Outgoing.{Outgoing}
use Rattle.pv_site.specs.declared.input.Step.{Step}
use Rattle.pv_site.specs.declared.parts.SiteParts.{SiteParts}
use Rattle.pv_wire.specs.Values.{message_of}
use Rattle.pv_wire.specs.declared.message.Message.{Message}

-- What an answer says in three clauses.
pub record Says (answer : Step) (outgoing : List Outgoing) (reported : List Note) (place : Option TxnId) : Type 0 where
  pub sends : answer.sends.items ≡ outgoing
  pub notes : answer.notes.items ≡ reported
  pub locked : answer.locked ≡ place

-- This is sent and reported, and the memory is this.
abbrev pub saying : Running → List model.Outgoing → List model.Note → model.Step
saying running sends notes = record { running = running; appended = None; sends = sends; notes = notes; placed = None }

-- The parts hold what they held, perhaps in other room.
module _ (old new : SiteParts) (same : AreKept old new) where
  kept-stepped : (step : model.Step) → step.appended ≡ None → step.running ≡ (here_of old).running → HaveStepped old new step
  kept-stepped step none is =
      stepped old new step none (same.here ∙ ap (λ (running : Running). record (here_of old) { running = running }) (sym is)) same.tied

  -- The answer sends and reports this, and so does the step.
  pub keeping-answer : (sends : List model.Outgoing) (notes : List model.Note) (step : model.Step) (answer : Step)
      → map outgoing_of answer.sends.items ≡ sends → map note_of answer.notes.items ≡ notes → answer.locked ≡ None
      → step ≡ saying (here_of old).running sends notes → HaveStepped old new step × IsAnswer answer step
  keeping-answer sends notes step answer sent noted unlocked is = (
    kept-stepped step (ap (λ (s : model.Step). s.appended) is) (ap (λ (s : model.Step). s.running) is),
    record {
      sends = sent ∙ sym (ap (λ (s : model.Step). s.sends) is);
      notes = noted ∙ sym (ap (λ (s : model.Step). s.notes) is);
      locked = unlocked ∙ sym (ap (λ (s : model.Step). option_map (λ (placed : model.Placed). placed.txn) s.placed) is);
    },
  )

  pub keeping : (sends : List model.Outgoing) (notes : List model.Note) (step : model.Step) (result : Result Step NoMemory)
      → IfOk result (λ answer. map outgoing_of answer.sends.items ≡ sends) → IfOk result (λ answer. map note_of answer.notes.items ≡ notes)
      → IfOk result (λ answer. answer.locked ≡ None) → step ≡ saying (here_of old).running sends notes → StepParts old new step result
  keeping sends notes step (Ok answer) sent noted unlocked is = keeping-answer sends notes step answer sent noted unlocked is
  keeping sends notes step (Err e) sent noted unlocked is = same

  -- Nothing happens.
  pub keeping-nothing : (answer : Step) (step : model.Step) → Says answer [] [] None → step ≡ nothing (here_of old) → HaveStepped old new step × IsAnswer answer step
  keeping-nothing answer step says is = keeping-answer [] [] step answer (ap (map outgoing_of) says.sends) (ap (map note_of) says.notes) says.locked is

  if-ok : (P Q : Step → Type 0) (result : Result Step NoMemory) → ((answer : Step) → P answer → Q answer) → IfOk result P → IfOk result Q
  if-ok P Q (Ok answer) so is = so answer is
  if-ok P Q (Err e) so is = tt

  -- Only this is sent.
  pub keeping-sends : (sends : List model.Outgoing) (step : model.Step) (result : Result Step NoMemory)
      → IfOk result (λ answer. map outgoing_of answer.sends.items ≡ sends) → IfOk result (λ answer. answer.notes.items ≡ [])
      → IfOk result (λ answer. answer.locked ≡ None) → step ≡ sending (here_of old).running sends → StepParts old new step result
  keeping-sends sends step result sent notes-are unlocked is =
      keeping sends [] step result sent
      (if-ok (λ answer. answer.notes.items ≡ []) (λ answer. map note_of answer.notes.items ≡ []) result (λ answer are. ap (map note_of) are) notes-are)
      unlocked is

  -- One message is sent.
  pub keeping-message : (to : SiteId) (message : Message) (step : model.Step) (result : Result Step NoMemory)
      → IfOk result (λ answer. answer.sends.items ≡ record { to = to; message = message } ∷ [])
      → IfOk result (λ answer. answer.notes.items ≡ []) → IfOk result (λ answer. answer.locked ≡ None)
      → step ≡ sending (here_of old).running (only_to to.0 (message_of message)) → StepParts old new step result
  keeping-message to message step result sends-are notes-are unlocked is =
      keeping (only_to to.0 (message_of message)) [] step result
      (if-ok (λ answer. answer.sends.items ≡ record { to = to; message = message } ∷ []) (λ answer. map outgoing_of answer.sends.items ≡ only_to to.0 (message_of message)) result
      (λ answer are. ap (map outgoing_of) are) sends-are)
      (if-ok (λ answer. answer.notes.items ≡ []) (λ answer. map note_of answer.notes.items ≡ []) result (λ answer are. ap (map note_of) are) notes-are)
      unlocked is

  -- One thing is reported.
  pub keeping-note : (note : Note) (step : model.Step) (result : Result Step NoMemory)
      → IfOk result (λ answer. answer.sends.items ≡ []) → IfOk result (λ answer. answer.notes.items ≡ note ∷ [])
      → IfOk result (λ answer. answer.locked ≡ None) → step ≡ noting (here_of old) (note_of note) → StepParts old new step result
  keeping-note note step result sends-are notes-are unlocked is =
      keeping [] (note_of note ∷ []) step result
      (if-ok (λ answer. answer.sends.items ≡ []) (λ answer. map outgoing_of answer.sends.items ≡ []) result (λ answer are. ap (map outgoing_of) are) sends-are)
      (if-ok (λ answer. answer.notes.items ≡ note ∷ []) (λ answer. map note_of answer.notes.items ≡ note_of note ∷ []) result (λ answer are. ap (map note_of) are) notes-are)
      unlocked is

-- The same where nothing changes at all.
module _ (parts : SiteParts) (tied : AreTied parts) where
  pub with-nothing : (answer : Step) (step : model.Step) → Says answer [] [] None → step ≡ nothing (here_of parts) → HaveStepped parts parts step × IsAnswer answer step
  with-nothing answer step says is = keeping-nothing parts parts (kept parts tied) answer step says is

  pub with-message : (to : SiteId) (message : Message) (step : model.Step) (result : Result Step NoMemory)
      → IfOk result (λ answer. answer.sends.items ≡ record { to = to; message = message } ∷ [])
      → IfOk result (λ answer. answer.notes.items ≡ []) → IfOk result (λ answer. answer.locked ≡ None)
      → step ≡ sending (here_of parts).running (only_to to.0 (message_of message)) → StepParts parts parts step result
  with-message to message step result sends-are notes-are unlocked is =
      keeping-message parts parts (kept parts tied) to message step result sends-are notes-are unlocked is
