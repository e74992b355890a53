-- Known outcomes leave values as they are that name none, and put into a reply they make one list of cases.
use Rattle.std.proofs.Common.{◌≡◌, true, List, [], ◌∷◌, refl, sym, ap, subst, ◌∙◌}
use Rattle.std.specs.List.{AllZip, list_all}
use Rattle.std.proofs.lemmas.Bool.{and_parts}
use Rattle.pv_base.specs.declared.limits.TheConstants.{HELD_NAMES}
use Rattle.pv_base.specs.declared.reply.Reply.{Reply}
use Rattle.pv_base.specs.declared.txn.TxnId.{TxnId}
use Rattle.pv_base.specs.Polyvalue.{Case, IsCanonical, IsPolyvalue, IsSettled, sure, value_at, with_outcomes}
use Rattle.pv_cases.proofs.CountLemmas.{sure-polyvalue}
use Rattle.pv_cases.proofs.SureCases.{one-case-is}
use Rattle.pv_cases.specs.Sure.{is_one_case}
use Rattle.pv_format.specs.Record.{Record}
use Rattle.pv_law_polyvalues.proofs.PolyvalueLemmas.{one-canonical}
use Rattle.pv_model.specs.Alternatives.{Read}
use Rattle.pv_protocol.specs.Records.{choice}
use Rattle.pv_site.specs.Committed.{IsCommitted}
use Rattle.pv_site.specs.LockPoint.{IsPutIn, IsWritePutIn}

-- One case that is always met has its value everywhere.
alike : {V : Type 0} (cases : List (Case V)) → is_one_case cases ≡ true → (a b : List TxnId) → value_at cases a ≡ value_at cases b
alike {V} cases is a b =
    let one = one-case-is cases is in
    ap (λ (c : List (Case V)). value_at c a) one.1 ∙ sym (ap (λ (c : List (Case V)). value_at c b) one.1)

pub sure-put-in : {V : Type 0} (records : List Record) (cases : List (Case V)) → is_one_case cases ≡ true → IsPutIn records cases cases
sure-put-in records cases is =
    let one = one-case-is cases is in
    record { value = λ a. alike cases is a (choice records a); polyvalue = sure-polyvalue HELD_NAMES one.0 one.1 }

pub sure-writes-put-in : (records : List Record) (writes : List Read) → list_all (λ write. is_one_case write.cases) writes ≡ true
    → AllZip (IsWritePutIn records) writes writes
sure-writes-put-in records [] are = tt
sure-writes-put-in records (write ∷ writes) are =
    let both = and_parts (is_one_case write.cases) (list_all (λ (w : Read). is_one_case w.cases) writes) are in
    (record { item = refl; cases = sure-put-in records write.cases both.0 }, sure-writes-put-in records writes both.1)

-- A reply that names no outcome stays as it is when its transaction has committed.
pub sure-committed : (records : List Record) (txn : TxnId) (reply settled : List (Case Reply)) → is_one_case reply ≡ true → IsCommitted records txn reply settled
    → reply ≡ settled
sure-committed records txn reply settled is committed =
    let one = one-case-is reply is in
    one-canonical reply settled (subst IsCanonical (sym one.1) (sure one.0)) committed.canonical
    (λ a. alike reply is a (choice records (with_outcomes (record { txn = txn; commits = true } ∷ []) a)) ∙ sym (committed.value a))

-- Others are settled.
pub settled-committed : (records : List Record) (txn : TxnId) (reply known after settled : List (Case Reply))
    → ((a : List TxnId) → value_at known a ≡ value_at reply (choice records a)) → IsSettled (record { txn = txn; commits = true } ∷ []) known after
    → IsPolyvalue HELD_NAMES after → IsCommitted records txn reply settled → after ≡ settled
settled-committed records txn reply known after settled known-is settled-is polyvalue committed =
    one-canonical after settled polyvalue.canonical committed.canonical
    (λ a. settled-is.same a ∙ known-is (with_outcomes (record { txn = txn; commits = true } ∷ []) a) ∙ sym (committed.value a))
