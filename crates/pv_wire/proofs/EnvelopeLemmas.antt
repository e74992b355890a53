-- Bytes that spell a message, and their faults.
use Rattle.std.proofs.Common.{◌≡◌, ◌≢◌, ◌⊎◌, true, false, ℕ, ◌+◌, ◌<◌, List, [], ◌∷◌, ◌++◌, length, Option, Some, None, IfSome, IsTrue, IsFalse, Ok, Err, refl, sym, ap, subst, ◌∙◌, arith}
use Rattle.std.proofs.lemmas.List.{append-nil}
use Rattle.pv_base.specs.Answer.{Answers}
use Rattle.pv_base.specs.BigEndian.{big_endian, AreBytes}
use Rattle.pv_base.proofs.AnswerLemmas.{answered}
use Rattle.pv_base.proofs.BigEndianLemmas.{big_endian-one, length-big_endian}
use Rattle.pv_bytes.specs.Reading.{Rest, HasTaken, IsShort}
use Rattle.pv_bytes.specs.declared.short.Short.{Short}
use Rattle.pv_format.specs.FirstFault.{Fault, bad_field, bad_kind, short, extra, EnvelopeFault, has_no_kind, has_bad_kind, is_in_message, has_only_sure as only_sure_fault, is_kind, is_unsure_kind, HasFault, is_extra}
use Rattle.pv_format.specs.Layout.{nothing_more, message_layout}
use Rattle.pv_format.specs.Message as model
use Rattle.pv_format.specs.MessageSpelling.{SpellsAfterKind, SpellsEnvelope}
use Rattle.pv_fields.specs.Decoding.{Stops}
use Rattle.pv_law_format.proofs.AnswerLemmas.{one-envelope-answer}
use Rattle.pv_wire.proofs.BodyLemmas.{only_sure, own_kind}
use Rattle.pv_replay.specs.Faults.{fault_of as part_fault_of}
use Rattle.pv_replay.specs.declared.error.PolyError.{PolyError}
use Rattle.pv_replay.specs.declared.error.PolyError.TheVariants as part
use Rattle.pv_wire.specs.Faults.{fault_of, wire_error}
use Rattle.pv_wire.specs.Reading.{PassesEnvelope, after_kind, has_only_sure}
use Rattle.pv_wire.specs.Values.{envelope_of}
use Rattle.pv_wire.specs.declared.error.WireError.{WireError}
use Rattle.pv_wire.specs.declared.message.Envelope.{Envelope}

-- What is told of a part is told of the message.
fault_of-wire_error : (e : PolyError) → fault_of (wire_error e) ≡ part_fault_of e
fault_of-wire_error (part.Short place) = refl
fault_of-wire_error (part.BadField place) = refl
fault_of-wire_error (part.BadPoly place) = refl
fault_of-wire_error part.NoMemory = refl

-- Fewer bytes than one are none.
empty : (bytes : List ℕ) → length bytes < 1 → bytes ≡ []
empty [] fewer = refl
empty (byte ∷ bytes) fewer = absurd (omega arith)

module _ (bytes : List ℕ) (all : AreBytes bytes) where
  -- An error that reports the first fault, or out of memory, is an answer.
  pub refused : (e : WireError) → IfSome (fault_of e) (EnvelopeFault bytes)
      → Answers (λ envelope. SpellsEnvelope envelope bytes) (EnvelopeFault bytes) envelope_of fault_of (Err e)
  refused e faulty = answered (λ envelope. SpellsEnvelope envelope bytes) (EnvelopeFault bytes) (one-envelope-answer bytes all) envelope_of fault_of (Err e) tt faulty

  -- The message that the bytes spell is an answer.
  pub accepted : (envelope : Envelope) → SpellsEnvelope (envelope_of envelope) bytes
      → Answers (λ envelope. SpellsEnvelope envelope bytes) (EnvelopeFault bytes) envelope_of fault_of (Ok envelope)
  accepted envelope spelled = answered (λ envelope. SpellsEnvelope envelope bytes) (EnvelopeFault bytes) (one-envelope-answer bytes all) envelope_of fault_of (Ok envelope) spelled tt

  module _ (start : Rest) (begins : start ≡ record { place = 0; left = bytes }) where
    all_left : start.left ≡ bytes
    all_left = ap (λ (rest : Rest). rest.left) begins

    -- There is no byte.
    pub no_kind : (new : Rest) (e : Short) → IsShort 1 start new e → EnvelopeFault bytes (short 0)
    no_kind new e is = has_no_kind (empty bytes (subst (λ left. length left < 1) all_left is.fewer))

    module _ (kind : ℕ) (mid : Rest) (taken : HasTaken (big_endian 1 kind) start mid) (fits : kind < 256) where
      first_byte : bytes ≡ kind ∷ mid.left
      first_byte = sym all_left ∙ taken.bytes ∙ ap (λ front. front ++ mid.left) (big_endian-one kind fits)

      at_one : mid.place ≡ 1
      at_one = taken.place ∙ (λ i. (begins i).place + length-big_endian 1 kind i)

      -- The first byte is no kind.
      pub no_such_kind : IsFalse (is_kind kind) → EnvelopeFault bytes (bad_kind kind)
      no_such_kind refused = has_bad_kind kind mid.left first_byte refused

      module _ (allowed : IsTrue (is_kind kind)) where
        in_fields : (fault : Fault) → HasFault (message_layout kind) mid.place mid.left fault → EnvelopeFault bytes fault
        in_fields fault has = is_in_message kind mid.left fault first_byte allowed (subst (λ place. HasFault (message_layout kind) place mid.left fault) at_one has)

        faulty : (told : Option Fault) → Stops (after_kind kind) mid told → IfSome told (EnvelopeFault bytes)
        faulty (Some fault) stops = in_fields fault (stops nothing_more)
        faulty None stops = tt

        -- A field after the kind isn't read.
        pub no_envelope : (e : PolyError) → Stops (after_kind kind) mid (part_fault_of e)
            → Answers (λ envelope. SpellsEnvelope envelope bytes) (EnvelopeFault bytes) envelope_of fault_of (Err (wire_error e))
        no_envelope e stops = refused (wire_error e) (subst (λ told. IfSome told (EnvelopeFault bytes)) (sym (fault_of-wire_error e)) (faulty (part_fault_of e) stops))

        -- Bytes follow the message.
        pub more_bytes : (envelope : model.Envelope) (new : Rest) → PassesEnvelope kind envelope mid new → new.left ≢ [] → EnvelopeFault bytes (extra new.place)
        more_bytes envelope new envelope_is some = in_fields (extra new.place) (envelope_is.passes.later nothing_more (extra new.place) (is_extra some))

        module _ (envelope : model.Envelope) (new : Rest) (envelope_is : PassesEnvelope kind envelope mid new) (none : new.left ≡ []) where
          after_first : SpellsAfterKind envelope mid.left
          after_first =
              let taken_rest = envelope_is.passes.taken in
              subst (SpellsAfterKind envelope) (sym (taken_rest.taken.bytes ∙ ap (λ left. taken_rest.front ++ left) none ∙ append-nil taken_rest.front)) taken_rest.is

          -- No byte follows the message, whose kind says that one of its values isn't sure, though all are.
          pub only_sure_values : IsTrue (is_unsure_kind kind) → has_only_sure envelope.message ≡ true → EnvelopeFault bytes (bad_field 0)
          only_sure_values unsure sure = only_sure_fault envelope kind mid.left first_byte unsure (only_sure kind envelope.message envelope_is.kind_is unsure sure) after_first

          -- No byte follows the message, and its kind is its own.
          pub whole_envelope : (is_unsure_kind kind ≡ false) ⊎ (has_only_sure envelope.message ≡ false) → SpellsEnvelope envelope bytes
          whole_envelope right =
              let own = own_kind kind envelope.message envelope_is.kind_is right in
              record {
                front = big_endian 1 kind;
                back = mid.left;
                whole = sym all_left ∙ taken.bytes;
                first = record { fits = subst (λ n. n < 256) own fits; spelled = ap (big_endian 1) own };
                second = after_first;
              }
