-- What a decider that is given an input makes of the scene.
use Rattle.std.proofs.Common.{◌≡◌, ℕ, ◌<◌, Bool, true, Option, Some, None, List, [], ◌∷◌, ◌++◌, All, Ok, map, get_or, refl, sym, ap, ap₂, subst, ◌∙◌}
use Rattle.std.proofs.lemmas.List.{append-nil, map-append}
use Rattle.std.proofs.lemmas.List.Elements.{All-append, All-cons, All-head, All-nil, All-tail}
use Rattle.pv_base.specs.declared.limits.TheConstants.{MAX_SITES}
use Rattle.pv_base.specs.declared.txn.TxnId.{TxnId}
use Rattle.pv_disk.specs.declared.arms.Arm.{Arm}
use Rattle.pv_law_decisions.specs.Lines.{Line, line_text, lines_text, told, down}
use Rattle.pv_law_decisions.specs.Scene as scenes
use Rattle.pv_law_decisions.specs.Scene.{Scene, answer_of, arm_at, attempted, broken_line, broken_off, completed, ending_by, memory_at, reached_by}
use Rattle.pv_law_quorum.specs.Decider as rules
use Rattle.pv_law_quorum.specs.Decider.{Answer, Entry, Input, Outgoing}
use Rattle.pv_law_quorum.specs.World.{World, Ending, Event, whole, after_event, ended, from_decider}
use Rattle.pv_law_quorum.specs.World as law
use Rattle.pv_moored.specs.Reached.{Reached}
use Rattle.pv_quorum.specs.DeciderState.{IsInput}
use Rattle.pv_quorum.specs.Steps.{Gives}
use Rattle.pv_quorum.specs.Values.{input_of, message_of, outgoing_of, txn_in, txn_of}
use Rattle.pv_quorum.specs.declared.message.QuorumInput.{QuorumInput}
use Rattle.pv_quorum.specs.declared.message.QuorumInput.TheVariants.{Propose, Take}
use Rattle.pv_quorum.specs.declared.message.QuorumMessage.{QuorumMessage}
use Rattle.pv_quorum.specs.declared.message.QuorumMessage.TheVariants.{Prepare, Promise, Accept, Accepted}
use Rattle.pv_quorum.specs.declared.message.QuorumSend.{QuorumSend}
use Rattle.pv_quorum.specs.declared.message.QuorumStep.{QuorumStep}
use Rattle.pv_quorum_run.proofs.SendLemmas.{IsFromAnother, IsSent, about, given_of, step-sends}
use Rattle.pv_quorum_run.proofs.StandLemmas.{Carries, in-arms, in-deciders, put-stands, same-stands, step-changes, with_cell}
use Rattle.pv_quorum_run.specs.Cells.{HasStepped}
use Rattle.pv_quorum_run.specs.Happening.{HasFollowed}
use Rattle.pv_quorum_run.specs.Mail.{MailState, envelope_of, sent_by}
use Rattle.pv_quorum_run.specs.Stands.{Becomes, IsPosted, StandsFor, seat_at, setup_for}
use Rattle.pv_quorum_run.specs.declared.cell.Cell.{Cell}
use Rattle.pv_quorum_run.specs.declared.cell.Stepped.TheVariants as stepped
use Rattle.pv_quorum_run.specs.declared.table.Table.{Table}

-- the text of one line
pub one-line : (line : Line) → lines_text (line ∷ []) ≡ line_text line
one-line line = append-nil (line_text line)

-- One line more.
pub line-more : (before after : List ℕ) (line : Line) → after ≡ before ++ line_text line → after ≡ before ++ lines_text (line ∷ [])
line-more before after line is = is ∙ ap (λ (text : List ℕ). before ++ text) (sym (one-line line))

-- What an input is of, and whom it comes from.

about-message : (message : QuorumMessage) → about (message_of message) ≡ txn_in message
about-message (Prepare txn ballot) = refl
about-message (Promise txn ballot last) = refl
about-message (Accept txn ballot commits) = refl
about-message (Accepted txn ballot) = refl

about-input : (input : QuorumInput) → given_of (input_of input) ≡ txn_of input
about-input (Propose txn commits) = refl
about-input (Take from message) = about-message message

from-another : (count me : ℕ) (setup : rules.Setup) (input : QuorumInput) → setup.deciders ≡ count → IsInput me count input → IsFromAnother setup me (input_of input)
from-another count me setup (Propose txn commits) same is = tt
from-another count me setup (Take from message) same is = (subst (λ (k : ℕ). from < k) (sym same) is.from.0, is.from.1)

-- What is sent.

posted-one : (count n : ℕ) (input : QuorumInput) → n < count → IsInput n count input → (send : QuorumSend) → IsSent count n (given_of (input_of input)) (outgoing_of send)
    → IsPosted count (sent_by n send)
posted-one count n input small is send sent = record {
  to = sent.to;
  from = small;
  apart = sent.apart;
  site = subst (λ (t : TxnId). t.site.0 < MAX_SITES) (sym (sym (about-message send.message) ∙ sent.of ∙ about-input input)) is.site;
}

posted-all : (count n : ℕ) (input : QuorumInput) → n < count → IsInput n count input → (sends : List QuorumSend)
    → All (IsSent count n (given_of (input_of input))) (map outgoing_of sends) → All (IsPosted count) (map (sent_by n) sends)
posted-all count n input small is [] sent = All-nil (IsPosted count)
posted-all count n input small is (send ∷ sends) sent =
    All-cons (IsPosted count) (sent_by n send) (map (sent_by n) sends)
    (posted-one count n input small is send (All-head (IsSent count n (given_of (input_of input))) (outgoing_of send) (map outgoing_of sends) sent))
    (posted-all count n input small is sends (All-tail (IsSent count n (given_of (input_of input))) (outgoing_of send) (map outgoing_of sends) sent))

sent-envelopes : (n : ℕ) (sends : List QuorumSend) → map envelope_of (map (sent_by n) sends) ≡ from_decider n (map outgoing_of sends)
sent-envelopes n [] = refl
sent-envelopes n (send ∷ sends) = ap (λ (rest : List law.Envelope). envelope_of (sent_by n send) ∷ rest) (sent-envelopes n sends)

sent-marks : (sends : List QuorumSend) → map (λ send. true) sends ≡ map (λ sent. true) (map outgoing_of sends)
sent-marks [] = refl
sent-marks (send ∷ sends) = ap (λ (rest : List Bool). true ∷ rest) (sent-marks sends)

-- the messages, with those that a step sends
abbrev pub with_sends : MailState → ℕ → List QuorumSend → MailState
with_sends mail n sends = record { sent = mail.sent ++ map (sent_by n) sends; fresh = mail.fresh ++ map (λ send. true) sends }

module _ (old : Table) (scene : Scene) (stands : StandsFor old scene) (n : ℕ) (within : n < old.count) (cell : Cell) (at : cell ≡ get_or old.cells.items n cell) (input : QuorumInput)
    (is_input : IsInput n old.count input) (made : Ending → Event) (new : Cell) where
  -- The events of the rules are those of this input, where the decider has this in memory.
  abbrev pub Makes : Option (List Entry) → Type 0
  Makes memory = (ending : Ending) → after_event (setup_for old) scene.world (made ending) ≡ law.given (setup_for old) scene.world n (input_of input) ending memory

  abbrev answer : List Entry → Answer
  answer entries = answer_of (setup_for old) scene n (input_of input) entries

  module _ (entries : List Entry) (makes : Makes (Some entries)) where
    carried-more : (step : QuorumStep) → Gives n step (answer entries) → (rest : Option Arm)
        → Carries old.count (with_sends old.mail n step.sends.items) (completed (setup_for old) scene n (answer entries) (made whole) rest)
    carried-more step gives rest = record {
      sent =
          map-append envelope_of old.mail.sent (map (sent_by n) step.sends.items)
          ∙ ap₂ (λ (one other : List law.Envelope). one ++ other) stands.sent (sent-envelopes n step.sends.items ∙ ap (λ (sends : List Outgoing). from_decider n sends) (sym gives.sends))
          ∙ ap (λ (w : World). w.sent) (sym (makes whole));
      fresh =
          ap₂ (λ (one other : List Bool). one ++ other) stands.fresh
          (sent-marks step.sends.items ∙ ap (λ (sends : List Outgoing). map (λ sent. true) sends) (sym gives.sends));
      posted = All-append (IsPosted old.count) old.mail.sent (map (sent_by n) step.sends.items) stands.posted
          (posted-all old.count n input within is_input step.sends.items
          (subst (λ (sends : List Outgoing). All (IsSent old.count n (given_of (input_of input))) sends) gives.sends
          (step-sends (setup_for old) (record { me = n; records = law.records_at scene.world n; entries = entries }) (input_of input)
          (from-another old.count n (setup_for old) input refl is_input))));
    }

    -- The step was made, what it sends was sent, and what it reports was printed.
    made-becomes : (step : QuorumStep) (table : Table) (before after : List ℕ) → HasStepped old.count n cell new (seat_at scene n) (Some entries) (input_of input) (stepped.Made step)
        → HasFollowed (with_cell old n new old.mail) table before after n step
        → Becomes {X = Unit {0}} {E = Unit {0}} old table before after (scenes.given (setup_for old) scene n (input_of input) made (Some entries)) (Ok tt)
    made-becomes step table before after has followed =
        let (rest, reaches, gives, now) = has in
        let next : Scene = completed (setup_for old) scene n (answer entries) (made whole) rest in
        subst (λ (r : Reached). Becomes {X = Unit {0}} {E = Unit {0}} old table before after (attempted (setup_for old) scene n (answer entries) made r) (Ok tt)) (sym reaches) (
          subst (λ (t : Table). StandsFor t next) (sym followed.table)
              (put-stands old scene stands n within cell at new (with_sends old.mail n step.sends.items) next _
              (step-changes scene n (answer entries) whole rest next (in-deciders old scene stands n within cell at) (in-arms old scene stands n within cell at) (makes whole) refl)
              now (carried-more step gives rest)),
          ap (λ (t : Table). t.count) followed.table,
          followed.text ∙ ap (λ (lines : List rules.Line). before ++ lines_text (map told lines)) (sym gives.lines),
        )

    -- It was broken off.
    broke-becomes : (stops : Bool) (before after : List ℕ) → HasStepped old.count n cell new (seat_at scene n) (Some entries) (input_of input) (stepped.Broke stops)
        → after ≡ before ++ line_text (broken_line n stops)
        → Becomes {X = Unit {0}} {E = Unit {0}} old (with_cell old n new old.mail) before after (scenes.given (setup_for old) scene n (input_of input) made (Some entries)) (Ok tt)
    broke-becomes stops before after has printed =
        let (arm, reaches, same, now) = has in
        let next : Scene = broken_off (setup_for old) scene n (made (ending_by arm)) in
        subst (λ (r : Reached). Becomes {X = Unit {0}} {E = Unit {0}} old (with_cell old n new old.mail) before after (attempted (setup_for old) scene n (answer entries) made r) (Ok tt)) (sym reaches) (
          put-stands old scene stands n within cell at new old.mail next _
              (step-changes scene n (answer entries) (ending_by arm) None next (in-deciders old scene stands n within cell at) (in-arms old scene stands n within cell at) (makes (ending_by arm)) refl)
              now (record { sent = stands.sent ∙ ap (λ (w : World). w.sent) (sym (makes (ending_by arm))); fresh = stands.fresh; posted = stands.posted }),
          refl,
          line-more before after (broken_line n arm.stop) (printed ∙ ap (λ (s : Bool). before ++ line_text (broken_line n s)) (sym same)),
        )

  -- By what the decider has in memory.

  pub given-made : (memory : Option (List Entry)) → Makes memory → (step : QuorumStep) (table : Table) (before after : List ℕ)
      → HasStepped old.count n cell new (seat_at scene n) memory (input_of input) (stepped.Made step) → HasFollowed (with_cell old n new old.mail) table before after n step
      → Becomes {X = Unit {0}} {E = Unit {0}} old table before after (scenes.given (setup_for old) scene n (input_of input) made memory) (Ok tt)
  given-made None makes step table before after has followed = let wrong : stepped.Made step ≡ stepped.Down = has.0 in absurd (let no : ⊥ = cc in no)
  given-made (Some entries) makes step table before after has followed = made-becomes entries makes step table before after has followed

  pub given-broke : (memory : Option (List Entry)) → Makes memory → (stops : Bool) (before after : List ℕ)
      → HasStepped old.count n cell new (seat_at scene n) memory (input_of input) (stepped.Broke stops) → after ≡ before ++ line_text (broken_line n stops)
      → Becomes {X = Unit {0}} {E = Unit {0}} old (with_cell old n new old.mail) before after (scenes.given (setup_for old) scene n (input_of input) made memory) (Ok tt)
  given-broke None makes stops before after has printed = let wrong : stepped.Broke stops ≡ stepped.Down = has.0 in absurd (let no : ⊥ = cc in no)
  given-broke (Some entries) makes stops before after has printed = broke-becomes entries makes stops before after has printed

  pub given-down : (memory : Option (List Entry)) → (before after : List ℕ) → HasStepped old.count n cell new (seat_at scene n) memory (input_of input) stepped.Down
      → after ≡ before ++ line_text (down n)
      → Becomes {X = Unit {0}} {E = Unit {0}} old (with_cell old n new old.mail) before after (scenes.given (setup_for old) scene n (input_of input) made memory) (Ok tt)
  given-down None before after has printed = (same-stands old scene stands n within cell at new has.1, refl, line-more before after (down n) printed)
  given-down (Some entries) before after has printed = absurd has
