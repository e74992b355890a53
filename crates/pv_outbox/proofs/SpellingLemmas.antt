-- Records and their bytes.
use Rattle.std.proofs.Common.{◌≡◌, ℕ, ℤ, ◌+◌, ◌<◌, ◌^◌, Bool, true, false, Option, Some, None, List, [], ◌++◌, length, MatchOption, refl, sym, ap, subst, ◌∙◌, append_assoc, length-append, arith}
use Rattle.std.specs.Prelude.{IsTrue, if◌then◌else◌}
use Rattle.std.proofs.lemmas.Bool.Decides.{Decides-ltb}
use Rattle.std.proofs.lemmas.List.{append-nil}
use Rattle.pv_base.specs.BigEndian.{big_endian, IsNumber}
use Rattle.pv_base.specs.Polyvalue.{Case}
use Rattle.pv_base.specs.declared.limits.TheConstants.{MAX_SITES}
use Rattle.pv_base.specs.declared.txn.TxnId.{TxnId}
use Rattle.pv_base.proofs.BigEndianLemmas.{IsNumber-begins, IsNumber-length}
use Rattle.pv_format.specs.FirstFault.{Fault, EndFault, is_extra, HasFault, PolyvalueFault}
use Rattle.pv_format.specs.Form.{SpellsIn}
use Rattle.pv_format.specs.Layout.{Layout, nothing_more, txn_layout, truth_layout}
use Rattle.pv_format.specs.PolyvalueSpelling.{SpellsPolyvalue, BeginsWith}
use Rattle.pv_format.specs.Spelling.{◌followed_by◌, IsTruth, SpellsTxn, is_site}
use Rattle.pv_law_format.proofs.Codes.{both-code}
use Rattle.pv_law_format.proofs.NumberCodes.{truth-code}
use Rattle.pv_law_format.proofs.PartCodes.{txn-code}
use Rattle.pv_law_outbox.specs.State.{Record, held, learnt, taken}
use Rattle.pv_outbox.specs.Spelling.{kind_of, SpellsContent, SpellsRecord, IsContent, IsNoContent, IsNoRecord}
use Rattle.pv_outbox.specs.Values as values
use Rattle.pv_outbox.specs.declared.record.Record as code

number-spelled : (size number : ℕ) → number < 256 ^ size → IsNumber size number (big_endian size number)
number-spelled size number fits = record { fits = fits; spelled = refl }

site-allowed : (site : ℕ) → site < MAX_SITES → IsTrue (is_site site)
site-allowed site below = (Decides-ltb site MAX_SITES).1 below

-- Writing.

-- Two parts that were written one after the other stand behind the kind.
pub two-parts : (kind first second one two three : List ℕ) → one ≡ [] ++ kind → two ≡ one ++ first → three ≡ two ++ second → three ≡ kind ++ (first ++ second)
two-parts kind first second one two three is_one is_two is_three =
    is_three ∙ ap (λ front. front ++ second) (is_two ∙ ap (λ front. front ++ first) is_one) ∙ append_assoc kind first second

pub held-spelled : (output : ℕ) (when : List (Case ℤ)) (poly bytes : List ℕ) → output < 2 ^ 32 → SpellsPolyvalue when poly
    → bytes ≡ big_endian 1 17 ++ (big_endian 4 output ++ poly) → SpellsRecord (held output when) bytes
held-spelled output when poly bytes fits spelled whole = record {
  front = big_endian 1 17;
  back = big_endian 4 output ++ poly;
  whole = whole;
  first = number-spelled 1 17 (omega arith);
  second = record { front = big_endian 4 output; back = poly; whole = refl; first = number-spelled 4 output (omega (arith, fits)); second = spelled };
}

pub learnt-spelled : (txn : TxnId) (commits : Bool) (first second bytes : List ℕ) → SpellsTxn txn first → IsTruth commits second
    → bytes ≡ big_endian 1 18 ++ (first ++ second) → SpellsRecord (learnt txn commits) bytes
learnt-spelled txn commits first second bytes is_txn is_truth whole = record {
  front = big_endian 1 18;
  back = first ++ second;
  whole = whole;
  first = number-spelled 1 18 (omega arith);
  second = record { front = first; back = second; whole = refl; first = is_txn; second = is_truth };
}

-- A transaction in range has its bytes, and so has a truth value.

pub txn-bytes : (txn : TxnId) → txn.site.0 < MAX_SITES → txn.epoch < 2 ^ 32 → txn.number < 2 ^ 32 → (bytes : List ℕ) × SpellsTxn txn bytes
txn-bytes txn site epoch number = (
  big_endian 1 txn.site.0 ++ (big_endian 4 txn.epoch ++ big_endian 4 txn.number),
  record {
    front = big_endian 1 txn.site.0;
    back = big_endian 4 txn.epoch ++ big_endian 4 txn.number;
    whole = refl;
    first = record { spelled = number-spelled 1 txn.site.0 (omega (arith, site)); allowed = site-allowed txn.site.0 site };
    second = record {
      front = big_endian 4 txn.epoch;
      back = big_endian 4 txn.number;
      whole = refl;
      first = number-spelled 4 txn.epoch (omega (arith, epoch));
      second = number-spelled 4 txn.number (omega (arith, number));
    };
  },
)

truth-fits : (truth : Bool) → (if truth then 1 else 0) < 256 ^ 1
truth-fits true = omega arith
truth-fits false = omega arith

pub truth-bytes : (truth : Bool) → (bytes : List ℕ) × IsTruth truth bytes
truth-bytes truth = (big_endian 1 (if truth then 1 else 0), number-spelled 1 (if truth then 1 else 0) (truth-fits truth))

pub taken-spelled : (output : ℕ) (bytes : List ℕ) → output < 2 ^ 32 → bytes ≡ big_endian 1 19 ++ big_endian 4 output → SpellsRecord (taken output) bytes
taken-spelled output bytes fits whole = record {
  front = big_endian 1 19;
  back = big_endian 4 output;
  whole = whole;
  first = number-spelled 1 19 (omega arith);
  second = number-spelled 4 output (omega (arith, fits));
}

-- Reading: the kind.

pub no-kind : (content : List ℕ) → length content < 1 → IsNoRecord content
no-kind content short entry spelled =
    omega (arith, short, ap (λ (b : List ℕ). length b) spelled.whole, length-append spelled.front spelled.back, IsNumber-length 1 (kind_of entry) spelled.front spelled.first)

module _ (content left : List ℕ) (kind : ℕ) (fits : kind < 256) (read : content ≡ big_endian 1 kind ++ left) where
  content-of : (entry : Record) → SpellsRecord entry content → IsContent kind entry left
  content-of entry spelled =
      let parts = IsNumber-begins 1 (kind_of entry) kind spelled.front (big_endian 1 kind) spelled.back left spelled.first (number-spelled 1 kind (omega (arith, fits)))
      (sym spelled.whole ∙ read) in
      record { kind_is = parts.0; content = subst (SpellsContent entry) parts.1 spelled.second }

  record-of : (entry : Record) → IsContent kind entry left → SpellsRecord entry content
  record-of entry is = record {
    front = big_endian 1 kind;
    back = left;
    whole = read;
    first = subst (λ n. IsNumber 1 n (big_endian 1 kind)) (sym is.kind_is) (number-spelled 1 kind (omega (arith, fits)));
    second = is.content;
  }

  -- What stands after the kind decides.
  pub either-content : (found : Option code.Record) → MatchOption found (IsNoContent kind left) (λ value. IsContent kind (values.record_of value) left)
      → MatchOption found (IsNoRecord content) (λ value. SpellsRecord (values.record_of value) content)
  either-content (Some value) is = record-of (values.record_of value) is
  either-content None none = λ entry spelled. none entry (content-of entry spelled)

  other-kind : (entry : Record) → (kind ≡ 17 → ⊥) → (kind ≡ 18 → ⊥) → (kind ≡ 19 → ⊥) → kind_of entry ≡ kind → ⊥
  other-kind (held output when) one two three is = one (sym is)
  other-kind (learnt txn commits) one two three is = two (sym is)
  other-kind (taken output) one two three is = three (sym is)

  pub no-such-kind : (kind ≡ 17 → ⊥) → (kind ≡ 18 → ⊥) → (kind ≡ 19 → ⊥) → IsNoRecord content
  no-such-kind one two three = λ entry spelled. other-kind entry one two three (content-of entry spelled).kind_is

-- Reading: what stands after it.

held-by : (entry : Record) (bytes : List ℕ) → IsContent 17 entry bytes → (output : ℕ) × ((when : List (Case ℤ)) × (IsNumber 4 output followed_by SpellsPolyvalue when) bytes)
held-by (held output when) bytes is = (output, (when, is.content))
held-by (learnt txn commits) bytes is = absurd (omega (arith, is.kind_is))
held-by (taken output) bytes is = absurd (omega (arith, is.kind_is))

learnt-by : (entry : Record) (bytes : List ℕ) → IsContent 18 entry bytes → (txn : TxnId) × ((commits : Bool) × (SpellsTxn txn followed_by IsTruth commits) bytes)
learnt-by (held output when) bytes is = absurd (omega (arith, is.kind_is))
learnt-by (learnt txn commits) bytes is = (txn, (commits, is.content))
learnt-by (taken output) bytes is = absurd (omega (arith, is.kind_is))

taken-by : (entry : Record) (bytes : List ℕ) → IsContent 19 entry bytes → (output : ℕ) × IsNumber 4 output bytes
taken-by (held output when) bytes is = absurd (omega (arith, is.kind_is))
taken-by (learnt txn commits) bytes is = absurd (omega (arith, is.kind_is))
taken-by (taken output) bytes is = (output, is.content)

pub no-output : (content : List ℕ) → length content < 4 → IsNoContent 17 content
no-output content short entry is =
    let s = (held-by entry content is).1.1 in
    omega (arith, short, ap (λ (b : List ℕ). length b) s.whole, length-append s.front s.back, IsNumber-length 4 (held-by entry content is).0 s.front s.first)

module _ (content left : List ℕ) (output : ℕ) (fits : output < 2 ^ 32) (read : content ≡ big_endian 4 output ++ left) where
  -- The rest begins with the condition, and nothing stands behind it.
  pub condition-left : (entry : Record) → IsContent 17 entry content → (when : List (Case ℤ)) × BeginsWith when [] left
  condition-left entry is =
      let found = held-by entry content is in
      let s = found.1.1 in
      let parts = IsNumber-begins 4 found.0 output s.front (big_endian 4 output) s.back left s.first (number-spelled 4 output (omega (arith, fits))) (sym s.whole ∙ read) in
      (found.1.0, record { front = left; back = []; whole = sym (append-nil left); first = subst (SpellsPolyvalue found.1.0) parts.1 s.second; second = refl })

  pub held-content : (when : List (Case ℤ)) (rest : List ℕ) → rest ≡ [] → BeginsWith when rest left → IsContent 17 (held output when) content
  held-content when rest none begins = record {
    kind_is = refl;
    content = record {
      front = big_endian 4 output;
      back = left;
      whole = read;
      first = number-spelled 4 output (omega (arith, fits));
      second =
          subst (SpellsPolyvalue when)
          (sym (begins.whole ∙ ap (λ back. begins.front ++ back) (begins.second ∙ none) ∙ append-nil begins.front)) begins.first;
    };
  }

  pub no-more : (left ≡ [] → ⊥) → IsNoContent 19 content
  no-more more entry is =
      let found = taken-by entry content is in
      let parts = IsNumber-begins 4 found.0 output content (big_endian 4 output) [] left found.1 (number-spelled 4 output (omega (arith, fits))) (append-nil content ∙ read) in
      more (sym parts.1)

  pub taken-content : left ≡ [] → IsContent 19 (taken output) content
  taken-content none = record {
    kind_is = refl;
    content = record { fits = omega (arith, fits); spelled = read ∙ ap (λ rest. big_endian 4 output ++ rest) none ∙ append-nil (big_endian 4 output) };
  }

pub no-number : (content : List ℕ) → length content < 4 → IsNoContent 19 content
no-number content short entry is =
    let found = taken-by entry content is in omega (arith, short, IsNumber-length 4 found.0 content found.1)

-- Reading: a transaction and its outcome.

abbrev pub outcome_layout : Layout → Layout
outcome_layout next = txn_layout (truth_layout next)

no-end-fault : (place : ℕ) (fault : Fault) → EndFault place [] fault → ⊥
no-end-fault place _ (is_extra more) = more refl

pub no-outcome : (content : List ℕ) (fault : Fault) → HasFault (outcome_layout nothing_more) 0 content fault → IsNoContent 18 content
no-outcome content fault has entry is =
    let found = learnt-by entry content is in
    no-end-fault (0 + length content) fault
    ((both-code SpellsIn PolyvalueFault (txn-code SpellsIn PolyvalueFault) (truth-code SpellsIn PolyvalueFault)).after
    (found.0, found.1.0) content [] nothing_more 0 fault found.1.1
    (subst (λ (b : List ℕ). HasFault (outcome_layout nothing_more) 0 b fault) (sym (append-nil content)) has))
