-- Entries of a decider, and proposals that stand for them.
use Rattle.std.proofs.Common.{◌≡◌, ℕ, Bool, true, false, Option, Some, None, List, [], ◌∷◌, refl, sym, ap, subst, ◌∙◌}
use Rattle.std.specs.Prelude.{if◌then◌else◌, not}
use Rattle.pv_base.specs.Assignment.{is_same_txn}
use Rattle.pv_base.proofs.AssignmentLemmas.{same-refl, same-eq}
use Rattle.pv_base.specs.declared.txn.TxnId.{TxnId}
use Rattle.pv_law_quorum.specs.Ballot.{is_majority}
use Rattle.pv_law_quorum.specs.Decider.{Entry, entry_of, without, with_entry, is_among}
use Rattle.pv_quorum.specs.Knows.{IsProposed, IsProposal, marked}
use Rattle.pv_quorum.specs.declared.known.Proposal.{Proposal}

gone-by : (txn : TxnId) (first : Entry) (entries : List Entry) (same : Bool) → is_same_txn txn first.txn ≡ same → entry_of txn (without txn entries) ≡ None
    → entry_of txn (if not same then first ∷ without txn entries else without txn entries) ≡ None
gone-by txn first entries true is rest = rest
gone-by txn first entries false is rest = ap (λ (b : Bool). if b then Some first else entry_of txn (without txn entries)) is ∙ rest

-- The transaction has no entry among those that are left without it.
pub entry-gone : (txn : TxnId) (entries : List Entry) → entry_of txn (without txn entries) ≡ None
entry-gone txn [] = refl
entry-gone txn (first ∷ entries) = gone-by txn first entries (is_same_txn txn first.txn) refl (entry-gone txn entries)

-- It has the one that is put in its place.
pub entry-put : (txn : TxnId) (entry : Entry) (entries : List Entry) → entry.txn ≡ txn → entry_of txn (with_entry entry entries) ≡ Some entry
entry-put txn entry entries is =
    ap (λ (b : Bool). if b then Some entry else entry_of txn (without entry.txn entries)) (ap (is_same_txn txn) is ∙ same-refl txn)

apart-by : (txn other : TxnId) (first : Entry) (entries : List Entry) → is_same_txn other txn ≡ false → (same : Bool) → is_same_txn txn first.txn ≡ same
    → entry_of other (without txn entries) ≡ entry_of other entries
    → entry_of other (if not same then first ∷ without txn entries else without txn entries) ≡ (if is_same_txn other first.txn then Some first else entry_of other entries)
apart-by txn other first entries apart true is rest =
    rest ∙ sym (ap (λ (b : Bool). if b then Some first else entry_of other entries) (ap (is_same_txn other) (sym (same-eq {t = txn} {u = first.txn} is)) ∙ apart))
apart-by txn other first entries apart false is rest = ap (λ (o : Option Entry). if is_same_txn other first.txn then Some first else o) rest

-- Another transaction has what it had.
pub entry-apart : (txn other : TxnId) (entries : List Entry) → is_same_txn other txn ≡ false → entry_of other (without txn entries) ≡ entry_of other entries
entry-apart txn other [] apart = refl
entry-apart txn other (first ∷ entries) apart =
    apart-by txn other first entries apart (is_same_txn txn first.txn) refl (entry-apart txn other entries apart)

pub entry-put-apart : (txn other : TxnId) (entry : Entry) (entries : List Entry) → entry.txn ≡ txn → is_same_txn other txn ≡ false
    → entry_of other (with_entry entry entries) ≡ entry_of other entries
entry-put-apart txn other entry entries is apart =
    ap (λ (b : Bool). if b then Some entry else entry_of other (without entry.txn entries)) (ap (is_same_txn other) is ∙ apart)
    ∙ ap (λ (t : TxnId). entry_of other (without t entries)) is ∙ entry-apart txn other entries apart

-- A proposal stands for an entry that is there.
pub proposed : (txn : TxnId) (found : Option Entry) (known : Option Proposal) (proposal : Proposal) → known ≡ Some proposal → IsProposal txn found known
    → (entry : Entry) × (found ≡ Some entry) × IsProposed txn entry proposal
proposed txn found known proposal is stands = by found (subst (IsProposal txn found) is stands) where
  by : (o : Option Entry) → IsProposal txn o (Some proposal) → (entry : Entry) × (o ≡ Some entry) × IsProposed txn entry proposal
  by None stands = absurd stands
  by (Some entry) stands = (entry, refl, stands)

-- Where there is no proposal there is no entry.
pub unproposed : (txn : TxnId) (found : Option Entry) (known : Option Proposal) → known ≡ None → IsProposal txn found known → found ≡ None
unproposed txn found known is stands = by found (subst (IsProposal txn found) is stands) where
  by : (o : Option Entry) → IsProposal txn o None → o ≡ None
  by None stands = refl
  by (Some entry) stands = absurd stands

-- Both count the same deciders.
pub same-majority : (txn : TxnId) (entry : Entry) (proposal : Proposal) (count : ℕ) → IsProposed txn entry proposal
    → is_majority count (is_among entry.counted) ≡ is_majority count (marked proposal.counted.deciders)
same-majority txn entry proposal count is = λ i. is_majority count (λ n. is.counted n i)
