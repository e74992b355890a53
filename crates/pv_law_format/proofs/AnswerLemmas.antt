-- Bytes spell one value or have one fault.
use Rattle.std.proofs.Common.{◌≡◌, ◌⊎◌, ⊎_elim, ℕ, ◌+◌, ◌<◌, List, [], ◌∷◌, ◌++◌, length, inl, inr, refl, sym, ap, subst, ◌∙◌, arith}
use Rattle.std.specs.Prelude.{ℤ, ◌≢◌, nat_le, ◌&&◌, IsTrue}
use Rattle.std.proofs.lemmas.Bool.{true≢false, or_right}
use Rattle.std.proofs.lemmas.List.{append-nil}
use Rattle.pv_base.specs.Answer.{HasOneAnswer}
use Rattle.pv_base.specs.BigEndian.{AreBytes}
use Rattle.pv_base.specs.declared.txn.TxnId.{TxnId}
use Rattle.pv_base.specs.Polyvalue.{Case}
use Rattle.pv_base.proofs.Basics.{heads}
use Rattle.pv_model.specs.Alternatives.{Read}
use Rattle.pv_format.specs.FirstFault.{Fault, short, bad_kind, bad_field, extra, HasFault, EndFault, is_extra, is_short, is_refused, is_later, TreeFault, EnvelopeFault, RecordFault, has_no_kind, has_bad_kind, is_in_message, has_only_sure, is_in_record, is_only_sure, is_kind, is_unsure_kind}
use Rattle.pv_format.specs.Form.{in_tree}
use Rattle.pv_format.specs.Layout.{nothing_more, number_then, message_layout, record_layout}
use Rattle.pv_format.specs.Message.{Envelope}
use Rattle.pv_format.specs.MessageSpelling.{SpellsEnvelope}
use Rattle.pv_format.specs.PolyvalueSpelling.{SpellsPolyvalue, BeginsWith}
use Rattle.pv_format.specs.Record.{Record, prepared}
use Rattle.pv_format.specs.RecordSpelling.{IsReadAs, SpellsContentBy, are_sure}
use Rattle.pv_law_format.proofs.Bytes.{byte-number, one-byte}
use Rattle.pv_law_format.proofs.Codes.{Begins, IsReadOnce}
use Rattle.pv_law_format.proofs.EnvelopeCode as message
use Rattle.pv_law_format.proofs.OneFault.{one-fault}
use Rattle.pv_law_format.proofs.PolyvalueCode.{polyvalue-part, polyvalue-either}
use Rattle.pv_law_format.proofs.RecordCode as kept

module _ {X : Type 0} (Spells : X → List ℕ → Type 0) (read : IsReadOnce Spells) where
  -- Where bytes spell a value, those that are longer spell none.
  pub no-prefix : (x y : X) (bytes rest : List ℕ) → Spells x bytes → Spells y (bytes ++ rest) → rest ≡ []
  no-prefix x y bytes rest s t = (read x y bytes (bytes ++ rest) rest [] s t (sym (append-nil (bytes ++ rest)))).1

  pub one-value : (bytes : List ℕ) (x y : X) → Spells x bytes → Spells y bytes → x ≡ y
  one-value bytes x y s t = (read x y bytes bytes [] [] s t refl).0

empty-or-more : (rest : List ℕ) → (rest ≡ []) ⊎ (rest ≢ [])
empty-or-more [] = inl refl
empty-or-more (b ∷ rest) = inr (λ e. let lengths = ap (λ (l : List ℕ). length l) e in omega (arith, lengths))

-- Bytes that are a front and nothing.
no-rest : (bytes front rest : List ℕ) → bytes ≡ front ++ rest → rest ≡ [] → front ≡ bytes
no-rest bytes front rest whole empty = sym (whole ∙ ap (λ (r : List ℕ). front ++ r) empty ∙ append-nil front)

no-end-fault : (place : ℕ) (fault : Fault) → EndFault place [] fault → ⊥
no-end-fault place _ (is_extra more) = more refl

-- Messages.

abbrev Wrong : List ℕ → Fault → Type 0
Wrong bytes fault = HasFault (number_then 1 is_kind message_layout) 0 bytes fault

no-byte : (bytes : List ℕ) → length bytes < 1 → bytes ≡ []
no-byte [] less = refl
no-byte (b ∷ bytes) less = absurd (omega (arith, less))

no-bytes : (bytes : List ℕ) (byte : ℕ) (rest : List ℕ) → bytes ≡ [] → bytes ≡ byte ∷ rest → ⊥
no-bytes bytes byte rest none whole = let lengths = ap (λ (b : List ℕ). length b) (sym none ∙ whole) in omega (arith, lengths)

reported : (bytes : List ℕ) (fault : Fault) → Wrong bytes fault → (other : Fault) × EnvelopeFault bytes other
reported bytes _ (is_short less) = (short 0, has_no_kind (no-byte bytes less))
reported bytes _ (is_refused kind front rest whole is refused) = (bad_kind kind, has_bad_kind kind rest (one-byte kind front rest bytes whole is) refused)
reported bytes _ (is_later kind front rest fault whole is wrong) =
    (fault, is_in_message kind rest fault (one-byte kind front rest bytes whole is.spelled) is.allowed wrong)

-- A fault after the kind is one of all.
wrong-here : (bytes : List ℕ) (kind : ℕ) (rest : List ℕ) (fault : Fault) → bytes ≡ kind ∷ rest → IsTrue (is_kind kind) → HasFault (message_layout kind) 1 rest fault
    → Wrong bytes fault
wrong-here bytes kind rest fault whole allowed wrong =
    is_later kind (kind ∷ []) rest fault whole (record { spelled = byte-number kind (message.small kind allowed); allowed = allowed }) wrong

-- A kind and what it has are without one.
no-message-fault : (p : (n : ℕ) × message.Rest n) (bytes : List ℕ) (fault : Fault) → message.SpellsKinded p bytes → Wrong bytes fault → ⊥
no-message-fault p bytes fault s wrong =
    no-end-fault (0 + length bytes) fault
    (message.kinded-code.after p bytes [] nothing_more 0 fault s (subst (λ (b : List ℕ). Wrong b fault) (sym (append-nil bytes)) wrong))

first-kind : (p : (n : ℕ) × message.Rest n) (bytes : List ℕ) (s : message.SpellsKinded p bytes) → bytes ≡ p.0 ∷ s.back
first-kind p bytes s = one-byte p.0 s.front s.back bytes s.whole s.first.spelled

-- A message has no fault.
envelope-not-both : (bytes : List ℕ) (envelope : Envelope) (fault : Fault) → SpellsEnvelope envelope bytes → EnvelopeFault bytes fault → ⊥
envelope-not-both bytes envelope _ s (has_no_kind none) =
    let t = message.written-kinded envelope bytes s in no-bytes bytes (message.written_as envelope).0 t.back none (first-kind (message.written_as envelope) bytes t)
envelope-not-both bytes envelope _ s (has_bad_kind kind rest whole refused) =
    let t = message.written-kinded envelope bytes s in
    true≢false (sym t.first.allowed ∙ ap is_kind (heads (sym (first-kind (message.written_as envelope) bytes t) ∙ whole)) ∙ refused)
envelope-not-both bytes envelope _ s (is_in_message kind rest fault whole allowed wrong) =
    no-message-fault (message.written_as envelope) bytes fault (message.written-kinded envelope bytes s) (wrong-here bytes kind rest fault whole allowed wrong)
envelope-not-both bytes envelope _ s (has_only_sure other kind rest whole unsure same there) =
    let unfit = message.only-sure other kind rest bytes whole unsure same there in
    unfit.none (subst message.Fits
    (one-value message.SpellsKinded message.kinded-code.read bytes (message.written_as envelope) unfit.value (message.written-kinded envelope bytes s) unfit.spelled)
    (message.written-fits envelope))

-- Bytes have one fault at most.
envelope-one-fault : (bytes : List ℕ) (fault other : Fault) → EnvelopeFault bytes fault → EnvelopeFault bytes other → fault ≡ other
envelope-one-fault bytes _ _ (has_no_kind none) (has_no_kind none_too) = refl
envelope-one-fault bytes _ _ (has_no_kind none) (has_bad_kind kind rest whole refused) = absurd (no-bytes bytes kind rest none whole)
envelope-one-fault bytes _ _ (has_no_kind none) (is_in_message kind rest fault whole allowed wrong) = absurd (no-bytes bytes kind rest none whole)
envelope-one-fault bytes _ _ (has_no_kind none) (has_only_sure envelope kind rest whole unsure same there) = absurd (no-bytes bytes kind rest none whole)
envelope-one-fault bytes _ _ (has_bad_kind kind rest whole refused) (has_no_kind none) = absurd (no-bytes bytes kind rest none whole)
envelope-one-fault bytes _ _ (has_bad_kind kind rest whole refused) (has_bad_kind other end whole_too refused_too) = ap bad_kind (heads (sym whole ∙ whole_too))
envelope-one-fault bytes _ _ (has_bad_kind kind rest whole refused) (is_in_message other end fault whole_too allowed wrong) =
    absurd (true≢false (sym allowed ∙ ap is_kind (heads (sym whole_too ∙ whole)) ∙ refused))
envelope-one-fault bytes _ _ (has_bad_kind kind rest whole refused) (has_only_sure envelope other end whole_too unsure same there) =
    absurd (true≢false (sym (or_right (nat_le 1 other && nat_le other 8) (is_unsure_kind other) unsure) ∙ ap is_kind (heads (sym whole_too ∙ whole)) ∙ refused))
envelope-one-fault bytes _ _ (is_in_message kind rest fault whole allowed wrong) (has_no_kind none) = absurd (no-bytes bytes kind rest none whole)
envelope-one-fault bytes _ _ (is_in_message kind rest fault whole allowed wrong) (has_bad_kind other end whole_too refused) =
    absurd (true≢false (sym allowed ∙ ap is_kind (heads (sym whole ∙ whole_too)) ∙ refused))
envelope-one-fault bytes _ _ (is_in_message kind rest fault whole allowed wrong) (is_in_message other end fault_too whole_too allowed_too wrong_too) =
    one-fault polyvalue-part (number_then 1 is_kind message_layout) 0 bytes fault fault_too
    (wrong-here bytes kind rest fault whole allowed wrong) (wrong-here bytes other end fault_too whole_too allowed_too wrong_too)
envelope-one-fault bytes _ _ (is_in_message kind rest fault whole allowed wrong) (has_only_sure envelope other end whole_too unsure same there) =
    let unfit = message.only-sure envelope other end bytes whole_too unsure same there in
    absurd (no-message-fault unfit.value bytes fault unfit.spelled (wrong-here bytes kind rest fault whole allowed wrong))
envelope-one-fault bytes _ _ (has_only_sure envelope kind rest whole unsure same there) (has_no_kind none) = absurd (no-bytes bytes kind rest none whole)
envelope-one-fault bytes _ _ (has_only_sure envelope kind rest whole unsure same there) (has_bad_kind other end whole_too refused) =
    absurd (true≢false (sym (or_right (nat_le 1 kind && nat_le kind 8) (is_unsure_kind kind) unsure) ∙ ap is_kind (heads (sym whole ∙ whole_too)) ∙ refused))
envelope-one-fault bytes _ _ (has_only_sure envelope kind rest whole unsure same there) (is_in_message other end fault whole_too allowed wrong) =
    let unfit = message.only-sure envelope kind rest bytes whole unsure same there in
    absurd (no-message-fault unfit.value bytes fault unfit.spelled (wrong-here bytes other end fault whole_too allowed wrong))
envelope-one-fault bytes _ _ (has_only_sure envelope kind rest whole unsure same there) (has_only_sure other number end whole_too unsure_too same_too there_too) = refl

-- A kind and what it has are a message, or all is right but that no value is one that isn't sure.
whole-message : (bytes : List ℕ) (p : (n : ℕ) × message.Rest n) → message.SpellsKinded p bytes
    → ((envelope : Envelope) × SpellsEnvelope envelope bytes) ⊎ ((fault : Fault) × EnvelopeFault bytes fault)
whole-message bytes p s =
    ⊎_elim
    (λ fit. inl (message.envelope_of p, message.read-kinded p bytes fit s))
    (λ (only : message.IsOnlySure p). inr (
      bad_field 0,
      has_only_sure (message.envelope_of p) p.0 s.back (first-kind p bytes s) only.unsure only.kind (message.after-kind p s.back s.second),
    ))
    (message.fits-or-only-sure p.0 s.first.allowed p.1)

pub one-envelope-answer : (bytes : List ℕ) → AreBytes bytes → HasOneAnswer (λ envelope. SpellsEnvelope envelope bytes) (EnvelopeFault bytes)
one-envelope-answer bytes all = record {
  some = ⊎_elim
      (λ (b : Begins message.SpellsKinded bytes). ⊎_elim
      (λ empty. whole-message bytes b.value (subst (λ (f : List ℕ). message.SpellsKinded b.value f) (no-rest bytes b.front b.rest b.whole empty) b.spelled))
      (λ more. inr (reported bytes (extra (0 + length b.front))
      (subst (λ (f : List ℕ). Wrong f (extra (0 + length b.front))) (sym b.whole)
      (message.kinded-code.before b.value b.front b.rest nothing_more 0 (extra (0 + length b.front)) b.spelled (is_extra more)))))
      (empty-or-more b.rest))
      (λ wrong. inr (reported bytes wrong.0 wrong.1))
      (message.kinded-code.either bytes all nothing_more 0);
  one_value = one-value SpellsEnvelope message.envelope-read bytes;
  one_fault = envelope-one-fault bytes;
  not_both = envelope-not-both bytes;
}

-- Records.

pub one-record : (bytes : List ℕ) (entry other : Record) → IsReadAs entry bytes → IsReadAs other bytes → entry ≡ other
one-record = one-value IsReadAs kept.read-once

-- A kind and what it has are without a fault in the fields.
no-record-fault : (p : (n : ℕ) × kept.Rest n) (bytes : List ℕ) (fault : Fault) → kept.SpellsKinded p bytes → HasFault (record_layout nothing_more) 0 bytes fault → ⊥
no-record-fault p bytes fault s wrong =
    no-end-fault (0 + length bytes) fault
    (kept.kinded-code.after p bytes [] nothing_more 0 fault s (subst (λ (b : List ℕ). HasFault (record_layout nothing_more) 0 b fault) (sym (append-nil bytes)) wrong))

only-sure-kinded : (bytes : List ℕ) (txn : TxnId) (writes : List Read) (rest : List ℕ) → bytes ≡ 4 ∷ rest → SpellsContentBy SpellsPolyvalue (prepared txn writes) rest
    → kept.SpellsKinded (4, (txn, writes)) bytes
only-sure-kinded bytes txn writes rest whole there =
    record { front = 4 ∷ []; back = rest; whole = whole; first = record { spelled = byte-number 4 (omega arith); allowed = refl }; second = there }

-- What is read as a record has no fault.
pub record-not-both : (bytes : List ℕ) (entry : Record) (fault : Fault) → IsReadAs entry bytes → RecordFault bytes fault → ⊥
record-not-both bytes entry _ s (is_in_record fault wrong) = let k = kept.kinded entry bytes s in no-record-fault k.value bytes fault k.spelled wrong
record-not-both bytes entry _ s (is_only_sure txn writes rest whole sure there) =
    let k = kept.kinded entry bytes s in
    let fit : kept.Fits (4, (txn, writes)) = subst kept.Fits
    (one-value kept.SpellsKinded kept.kinded-code.read bytes k.value (4, (txn, writes)) k.spelled (only-sure-kinded bytes txn writes rest whole there)) k.fit in
    true≢false (sym sure ∙ fit)

record-one-fault : (bytes : List ℕ) (fault other : Fault) → RecordFault bytes fault → RecordFault bytes other → fault ≡ other
record-one-fault bytes _ _ (is_in_record fault wrong) (is_in_record other wrong_too) =
    one-fault polyvalue-part (record_layout nothing_more) 0 bytes fault other wrong wrong_too
record-one-fault bytes _ _ (is_in_record fault wrong) (is_only_sure txn writes rest whole sure there) =
    absurd (no-record-fault (4, (txn, writes)) bytes fault (only-sure-kinded bytes txn writes rest whole there) wrong)
record-one-fault bytes _ _ (is_only_sure txn writes rest whole sure there) (is_in_record fault wrong) =
    absurd (no-record-fault (4, (txn, writes)) bytes fault (only-sure-kinded bytes txn writes rest whole there) wrong)
record-one-fault bytes _ _ (is_only_sure txn writes rest whole sure there) (is_only_sure other others end whole_too sure_too there_too) = refl

only-sure-fault : (bytes : List ℕ) (txn : TxnId) (writes : List Read) → IsTrue (are_sure writes) → kept.SpellsKinded (4, (txn, writes)) bytes
    → RecordFault bytes (bad_field 0)
only-sure-fault bytes txn writes sure s = is_only_sure txn writes s.back (one-byte 4 s.front s.back bytes s.whole s.first.spelled) sure s.second

whole-record : (bytes : List ℕ) (p : (n : ℕ) × kept.Rest n) → kept.SpellsKinded p bytes
    → ((entry : Record) × IsReadAs entry bytes) ⊎ ((fault : Fault) × RecordFault bytes fault)
whole-record bytes p s =
    ⊎_elim
    (λ fit. inl (kept.record_for p, kept.read-kinded p bytes fit s))
    (λ (only : kept.IsOnlySure p).
    inr (bad_field 0, only-sure-fault bytes only.txn only.writes only.sure (subst (λ (q : (n : ℕ) × kept.Rest n). kept.SpellsKinded q bytes) only.is s)))
    (kept.fits-or-only-sure p s.first.allowed)

pub one-record-answer : (bytes : List ℕ) → AreBytes bytes → HasOneAnswer (λ entry. IsReadAs entry bytes) (RecordFault bytes)
one-record-answer bytes all = record {
  some = ⊎_elim
      (λ (b : Begins kept.SpellsKinded bytes). ⊎_elim
      (λ empty. whole-record bytes b.value (subst (λ (f : List ℕ). kept.SpellsKinded b.value f) (no-rest bytes b.front b.rest b.whole empty) b.spelled))
      (λ more. inr (
        extra (0 + length b.front),
        is_in_record (extra (0 + length b.front))
            (subst (λ (f : List ℕ). HasFault (record_layout nothing_more) 0 f (extra (0 + length b.front))) (sym b.whole)
            (kept.kinded-code.before b.value b.front b.rest nothing_more 0 (extra (0 + length b.front)) b.spelled (is_extra more))),
      ))
      (empty-or-more b.rest))
      (λ wrong. inr (wrong.0, is_in_record wrong.0 wrong.1))
      (kept.kinded-code.either bytes all nothing_more 0);
  one_value = one-record bytes;
  one_fault = record-one-fault bytes;
  not_both = record-not-both bytes;
}

-- Polyvalues.

pub one-polyvalue-answer : (bytes : List ℕ) (place : ℕ) → AreBytes bytes
    → HasOneAnswer (λ (found : List (Case ℤ) × List ℕ). BeginsWith found.0 found.1 bytes) (TreeFault place bytes)
one-polyvalue-answer bytes place all = record {
  some = ⊎_elim
      (λ (b : Begins SpellsPolyvalue bytes).
      inl ((b.value, b.rest), record { front = b.front; back = b.rest; whole = b.whole; first = b.spelled; second = refl }))
      (λ wrong. inr wrong)
      (polyvalue-either in_tree bytes all place);
  one_value = λ x y s t.
      let parts = polyvalue-part.read in_tree x.0 y.0 s.front t.front s.back t.back s.first t.first (sym s.whole ∙ t.whole) in
      let rests = sym s.second ∙ parts.1 ∙ t.second in
      (λ i. (parts.0 i, rests i));
  one_fault = polyvalue-part.one in_tree place bytes;
  not_both = λ x fault s wrong.
      polyvalue-part.not_both in_tree x.0 s.front s.back place fault s.first (subst (λ (b : List ℕ). TreeFault place b fault) s.whole wrong);
}
