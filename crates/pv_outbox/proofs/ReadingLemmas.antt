-- What readings of the parts of a record come to.
use Rattle.std.proofs.Common.{◌≡◌, ℕ, ℤ, ◌<◌, ◌^◌, Bool, Option, Some, None, Result, Ok, Err, List, [], ◌++◌, MatchOption, refl, sym, ap, subst, ◌∙◌}
use Rattle.std.specs.Prelude.{◌≢◌, IfOk, IfSome}
use Rattle.std.proofs.lemmas.List.{append-nil}
use Rattle.pv_base.specs.Answer.{HasOneAnswer}
use Rattle.pv_base.specs.BigEndian.{big_endian}
use Rattle.pv_base.specs.Polyvalue.{Case}
use Rattle.pv_base.specs.declared.txn.TxnId.{TxnId}
use Rattle.pv_bytes.specs.Reading.{Rest}
use Rattle.pv_fields.specs.Decoding.{Passes, Stops}
use Rattle.pv_format.specs.FirstFault.{Fault, short, bad_field, bad_poly, extra, is_extra, HasFault, TreeFault}
use Rattle.pv_format.specs.Layout.{Layout, nothing_more, txn_layout, truth_layout}
use Rattle.pv_format.specs.PolyvalueSpelling.{BeginsWith}
use Rattle.pv_format.specs.Spelling.{IsTruth, SpellsTxn}
use Rattle.pv_law_outbox.specs.State.{learnt}
use Rattle.pv_replay.specs.Faults.{fault_of}
use Rattle.pv_replay.specs.declared.error.PolyError.{PolyError}
use Rattle.pv_replay.specs.declared.error.PolyError.TheVariants.{Short, BadField, BadPoly, NoMemory}
use Rattle.pv_outbox.specs.Spelling.{IsContent, IsNoContent}
use Rattle.pv_outbox.specs.Values.{record_of}
use Rattle.pv_outbox.specs.declared.record.Record as code
use Rattle.pv_outbox.proofs.SpellingLemmas.{condition-left, no-outcome, outcome_layout}

-- A fault that there is, unless there was no memory.
found-fault : {P : Fault → Type 0} (e : PolyError) → (e ≡ NoMemory → ⊥) → IfSome (fault_of e) P → (fault : Fault) × P fault
found-fault (Short place) memory is = (short place, is)
found-fault (BadField place) memory is = (bad_field place, is)
found-fault (BadPoly place) memory is = (bad_poly place, is)
found-fault NoMemory memory is = absurd (memory refl)

-- A transaction and its outcome, from the beginning.
module _ (content : List ℕ) (rest : Rest) (all : rest ≡ record { place = 0; left = content }) where
  faulty : (fault : Fault) → HasFault (outcome_layout nothing_more) rest.place rest.left fault → IsNoContent 18 content
  faulty fault has = no-outcome content fault (subst (λ (r : Rest). HasFault (outcome_layout nothing_more) r.place r.left fault) all has)

  pub no-txn : (e : PolyError) → (e ≡ NoMemory → ⊥) → Stops txn_layout rest (fault_of e) → IsNoContent 18 content
  no-txn e memory stops =
      let found = found-fault {P = λ fault. (next : Layout) → HasFault (txn_layout next) rest.place rest.left fault} e memory stops in
      faulty found.0 (found.1 (truth_layout nothing_more))

  module _ (txn : TxnId) (mid : Rest) (first : Passes (SpellsTxn txn) txn_layout rest mid) where
    pub no-truth : (e : PolyError) → (e ≡ NoMemory → ⊥) → Stops truth_layout mid (fault_of e) → IsNoContent 18 content
    no-truth e memory stops =
        let found = found-fault {P = λ fault. (next : Layout) → HasFault (truth_layout next) mid.place mid.left fault} e memory stops in
        faulty found.0 (first.later (truth_layout nothing_more) found.0 (found.1 nothing_more))

    module _ (commits : Bool) (last : Rest) (second : Passes (IsTruth commits) truth_layout mid last) where
      pub no-end : (last.left ≡ [] → ⊥) → IsNoContent 18 content
      no-end more =
          faulty (extra last.place)
          (first.later (truth_layout nothing_more) (extra last.place) (second.later nothing_more (extra last.place) (is_extra more)))

      pub learnt-read : last.left ≡ [] → IsContent 18 (learnt txn commits) content
      learnt-read none = record {
        kind_is = refl;
        content = record {
          front = first.taken.front;
          back = second.taken.front;
          whole =
              sym (ap (λ (r : Rest). r.left) all) ∙ first.taken.taken.bytes
              ∙ ap (λ (back : List ℕ). first.taken.front ++ back)
              (second.taken.taken.bytes ∙ ap (λ (b : List ℕ). second.taken.front ++ b) none ∙ append-nil second.taken.front);
          first = first.taken.is;
          second = second.taken.is;
        };
      }

-- An output and its condition.
module _ (content left : List ℕ) (output : ℕ) (fits : output < 2 ^ 32) (read : content ≡ big_endian 4 output ++ left) (place : ℕ)
    (one : HasOneAnswer (λ (found : List (Case ℤ) × List ℕ). BeginsWith found.0 found.1 left) (TreeFault place left)) where
  pub no-condition : (e : PolyError) → (e ≡ NoMemory → ⊥) → IfSome (fault_of e) (TreeFault place left) → IsNoContent 17 content
  no-condition e memory is = λ entry spelled.
      let found = found-fault {P = TreeFault place left} e memory is in
      let begins = condition-left content left output fits read entry spelled in
      one.not_both (begins.0, []) found.0 begins.1 found.1

  pub more-than-condition : (when : List (Case ℤ)) (rest : List ℕ) → BeginsWith when rest left → (rest ≡ [] → ⊥) → IsNoContent 17 content
  more-than-condition when rest given more = λ entry spelled.
      let begins = condition-left content left output fits read entry spelled in
      more (ap (λ (found : List (Case ℤ) × List ℕ). found.1) (one.one_value (when, rest) (begins.0, []) given begins.1))

-- What is read up to the end is the record's content, and what is not isn't.
pub whole-content : (kind : ℕ) (content left : List ℕ) (value : code.Record) (found : Option code.Record)
    → MatchOption found (left ≡ [] → ⊥) (λ other. (left ≡ []) × (other ≡ value)) → ((left ≡ [] → ⊥) → IsNoContent kind content)
    → (left ≡ [] → IsContent kind (record_of value) content) → MatchOption found (IsNoContent kind content) (λ other. IsContent kind (record_of other) content)
whole-content kind content left value None more none is = none more
whole-content kind content left value (Some other) end none is =
    subst (λ (v : code.Record). IsContent kind (record_of v) content) (sym end.1) (is end.0)

pub none-content : {E : Type 0} (kind : ℕ) (content : List ℕ) (e : PolyError) (answer : Result (Option code.Record) E)
    → IfOk answer (λ found. (found ≡ None) × (e ≢ NoMemory)) → ((e ≡ NoMemory → ⊥) → IsNoContent kind content)
    → IfOk answer (λ found. MatchOption found (IsNoContent kind content) (λ other. IsContent kind (record_of other) content))
none-content kind content e (Err no_memory) is none = tt
none-content kind content e (Ok found) is none =
    subst (λ (f : Option code.Record). MatchOption f (IsNoContent kind content) (λ other. IsContent kind (record_of other) content)) (sym is.0) (none is.1)
