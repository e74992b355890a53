-- Bytes spell one record, and contents one list of records.
use Rattle.std.proofs.Common.{◌≡◌, ℕ, ℤ, Bool, List, [], ◌∷◌, refl, sym, ap, ap₂, subst, ◌∙◌, arith}
use Rattle.pv_base.specs.Polyvalue.{Case}
use Rattle.pv_base.specs.declared.txn.TxnId.{TxnId}
use Rattle.pv_base.proofs.BigEndianLemmas.{IsNumber-begins}
use Rattle.pv_disk_model.specs.Size.{Contents}
use Rattle.pv_format.specs.FirstFault.{PolyvalueFault}
use Rattle.pv_format.specs.Form.{SpellsIn, in_tree}
use Rattle.pv_law_format.proofs.Codes.{both-code}
use Rattle.pv_law_format.proofs.NumberCodes.{number-code, truth-code}
use Rattle.pv_law_format.proofs.PartCodes.{txn-code}
use Rattle.pv_law_format.proofs.PolyvalueCode.{polyvalue-code}
use Rattle.pv_law_outbox.specs.State.{Record, held, learnt, taken}
use Rattle.pv_outbox.specs.Spelling.{kind_of, SpellsContent, SpellsRecord, SpellRecords}

one-content : (entry other : Record) (bytes : List ℕ) → kind_of entry ≡ kind_of other → SpellsContent entry bytes → SpellsContent other bytes → entry ≡ other
one-content (held output when) (held other others) bytes same s t =
    ap (λ (p : ℕ × List (Case ℤ)). held p.0 p.1)
    ((both-code SpellsIn PolyvalueFault (number-code SpellsIn PolyvalueFault 4) (polyvalue-code in_tree)).read
    (output, when) (other, others) bytes bytes [] [] s t refl).0
one-content (learnt txn commits) (learnt other others) bytes same s t =
    ap (λ (p : TxnId × Bool). learnt p.0 p.1)
    ((both-code SpellsIn PolyvalueFault (txn-code SpellsIn PolyvalueFault) (truth-code SpellsIn PolyvalueFault)).read
    (txn, commits) (other, others) bytes bytes [] [] s t refl).0
one-content (taken output) (taken other) bytes same s t = ap taken (IsNumber-begins 4 output other bytes bytes [] [] s t refl).0
one-content (held output when) (learnt txn commits) bytes same s t = absurd (omega (arith, same))
one-content (held output when) (taken other) bytes same s t = absurd (omega (arith, same))
one-content (learnt txn commits) (held output when) bytes same s t = absurd (omega (arith, same))
one-content (learnt txn commits) (taken output) bytes same s t = absurd (omega (arith, same))
one-content (taken output) (held other when) bytes same s t = absurd (omega (arith, same))
one-content (taken output) (learnt txn commits) bytes same s t = absurd (omega (arith, same))

pub one-record : (entry other : Record) (bytes : List ℕ) → SpellsRecord entry bytes → SpellsRecord other bytes → entry ≡ other
one-record entry other bytes s t =
    let parts = IsNumber-begins 1 (kind_of entry) (kind_of other) s.front t.front s.back t.back s.first t.first (sym s.whole ∙ t.whole) in
    one-content entry other t.back parts.0 (subst (SpellsContent entry) parts.1 s.second) t.second

pub same-records : (entries others : List Record) (contents : Contents) → SpellRecords entries contents → SpellRecords others contents → entries ≡ others
same-records [] [] [] s t = refl
same-records [] (other ∷ others) [] s t = absurd t
same-records (entry ∷ entries) others [] s t = absurd s
same-records [] others (content ∷ contents) s t = absurd s
same-records (entry ∷ entries) [] (content ∷ contents) s t = absurd t
same-records (entry ∷ entries) (other ∷ others) (content ∷ contents) s t =
    ap₂ (λ (first : Record) (rest : List Record). first ∷ rest) (one-record entry other content s.0 t.0) (same-records entries others contents s.1 t.1)
