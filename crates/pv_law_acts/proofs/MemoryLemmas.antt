-- The entries and grants of a memory that has changed.
use Rattle.std.proofs.Common.{◌≡◌, ◌⊎◌, ⊎_elim, Bool, true, false, Some, None, inl, inr, refl, sym, ap, subst, ◌∙◌}
use Rattle.std.specs.Prelude.{if◌then◌else◌}
use Rattle.std.specs.List.{Contains}
use Rattle.std.proofs.lemmas.Option.{none-some}
use Rattle.pv_base.proofs.AssignmentLemmas.{same-eq, same-refl}
use Rattle.pv_base.proofs.Basics.{Some_inj}
use Rattle.pv_base.proofs.MapLemmas.{Contains-map, Contains-unmap}
use Rattle.pv_base.specs.Assignment.{is_same_txn}
use Rattle.pv_base.specs.declared.txn.TxnId.{TxnId}
use Rattle.pv_law_acts.proofs.ListLemmas.{put-listed, taken-out-listed}
use Rattle.pv_law_acts.specs.Seen.{holdings_in, ageless_grant, ageless_entry, work_in}
use Rattle.pv_law_step.proofs.Appended.{found-passes}
use Rattle.pv_law_step.proofs.KeyedLemmas.{of-with, of-without}
use Rattle.pv_protocol.specs.Here.{with_grant, without_grant, with_entry, without_entry}
use Rattle.pv_protocol.specs.Keyed.{of_txn}
use Rattle.pv_protocol.specs.State.{Grant, Entry, Running}

-- Entries.

pub entry-txn : (running : Running) (txn : TxnId) (entry : Entry) → of_txn (λ (e : Entry). e.txn) txn running.entries ≡ Some entry → txn ≡ entry.txn
entry-txn running txn entry found = same-eq (found-passes (λ (x : Entry). is_same_txn txn x.txn) running.entries entry found)

-- what is put in, or was there
pub put-work : (running : Running) (entry : Entry) (txn : TxnId) (found : Entry) → work_in (Some (with_entry running entry)) txn ≡ Some found
    → ((txn ≡ entry.txn) × (found ≡ record entry { age = 0 })) ⊎ (work_in (Some running) txn ≡ Some found)
put-work running entry txn found is =
    by (is_same_txn txn entry.txn) refl (sym (ap ageless_entry (of-with (λ (e : Entry). e.txn) txn entry running.entries)) ∙ is) where
      by : (b : Bool) → is_same_txn txn entry.txn ≡ b
          → ageless_entry (if b then Some entry else of_txn (λ (e : Entry). e.txn) txn running.entries) ≡ Some found
          → ((txn ≡ entry.txn) × (found ≡ record entry { age = 0 })) ⊎ (work_in (Some running) txn ≡ Some found)
      by true same is = inl (same-eq same, sym (Some_inj is))
      by false apart is = inr is

pub put-work-found : (running : Running) (entry : Entry) → work_in (Some (with_entry running entry)) entry.txn ≡ Some (record entry { age = 0 })
put-work-found running entry =
    ap ageless_entry (of-with (λ (e : Entry). e.txn) entry.txn entry running.entries
    ∙ ap (λ (b : Bool). if b then Some entry else of_txn (λ (e : Entry). e.txn) entry.txn running.entries) (same-refl entry.txn))

-- nothing is taken out but what is of the transaction
pub left-work : (running : Running) (txn other : TxnId) (found : Entry) → work_in (Some (without_entry running txn)) other ≡ Some found
    → work_in (Some running) other ≡ Some found
left-work running txn other found is =
    by (is_same_txn other txn) (sym (ap ageless_entry (of-without (λ (e : Entry). e.txn) other txn running.entries)) ∙ is) where
      by : (b : Bool) → ageless_entry (if b then None else of_txn (λ (e : Entry). e.txn) other running.entries) ≡ Some found → work_in (Some running) other ≡ Some found
      by true is = absurd (none-some _ is)
      by false is = is

pub left-none : (running : Running) (txn : TxnId) → work_in (Some (without_entry running txn)) txn ≡ None
left-none running txn =
    ap ageless_entry (of-without (λ (e : Entry). e.txn) txn txn running.entries
    ∙ ap (λ (b : Bool). if b then None else of_txn (λ (e : Entry). e.txn) txn running.entries) (same-refl txn))

-- Grants.

pub put-holding : (running : Running) (grant other : Grant) → Contains (holdings_in (Some (with_grant running grant))) other
    → Contains (holdings_in (Some running)) other ⊎ (other ≡ ageless_grant grant)
put-holding running grant other h =
    let found = Contains-unmap ageless_grant _ other h in
    ⊎_elim
    (λ old. inl (subst (Contains (holdings_in (Some running))) found.1.1 (Contains-map ageless_grant running.grants found.0 old)))
    (λ new. inr (sym found.1.1 ∙ ap ageless_grant (sym new)))
    (put-listed (λ (g : Grant). g.txn) grant running.grants found.0 found.1.0)

pub left-holding : (running : Running) (txn : TxnId) (other : Grant) → Contains (holdings_in (Some (without_grant running txn))) other
    → Contains (holdings_in (Some running)) other
left-holding running txn other h =
    let found = Contains-unmap ageless_grant _ other h in
    subst (Contains (holdings_in (Some running))) found.1.1
    (Contains-map ageless_grant running.grants found.0 (taken-out-listed (λ (g : Grant). g.txn) txn running.grants found.0 found.1.0))
