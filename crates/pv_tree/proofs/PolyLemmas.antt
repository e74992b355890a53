-- What is settled is a polyvalue.
use Rattle.std.proofs.Common.{◌≡◌, ◌≤◌, ℕ, List, length, subst}
use Rattle.pv_base.specs.declared.literal.Literal.{Literal}
use Rattle.pv_base.specs.declared.txn.TxnId.{TxnId}
use Rattle.pv_base.specs.Polyvalue.{Case, AreNames, NamesAtMost, IsCanonical, IsPolyvalue}
use Rattle.pv_law_polyvalues.proofs.NameLemmas.{NamesAtMost-fewer, NamesAtMost-within}
use Rattle.pv_tree.specs.Meanings.{cases_at}
use Rattle.pv_tree.specs.Settling.{Settles}

-- It names no more than what it was.
pub settles-polyvalue : {V : Type 0} (limit : ℕ) (literals : List Literal) (cases : List (Case V)) (meanings : List (List (Case V))) (number : ℕ) → NamesAtMost limit cases
    → Settles literals cases meanings number → IsPolyvalue limit (cases_at meanings number)
settles-polyvalue limit literals cases meanings number few is = record {
  canonical = is.canonical;
  few = NamesAtMost-fewer limit (cases_at meanings number) cases is.named few;
}

-- So are canonical cases that have a short list of names.
pub listed-polyvalue : {V : Type 0} (limit : ℕ) (cases tree : List (Case V)) (txns : List TxnId) → cases ≡ tree → IsCanonical tree → AreNames cases txns → length txns ≤ limit
    → IsPolyvalue limit tree
listed-polyvalue limit cases tree txns same canonical are short = record {
  canonical = canonical;
  few = subst (NamesAtMost limit) same (NamesAtMost-within limit cases txns (λ t named. are.whole t named) short);
}
