-- A node is put among others once outcomes are known, on each way.
use Rattle.std.proofs.Common.{◌≡◌, ◌⊎◌, ℕ, true, false, List, [], ◌∷◌, Option, Some, None, get_or}
use Rattle.pv_base.specs.declared.literal.Literal.{Literal}
use Rattle.pv_base.specs.declared.txn.TxnId.{TxnId}
use Rattle.pv_base.specs.Polyvalue.{Case, NamesOnlyAfter}
use Rattle.pv_tree.specs.Meanings.{cases_at, IsAt, Keeps, Chooses}
use Rattle.pv_tree.specs.Nodes.{IsTestAt}
use Rattle.pv_tree.specs.Outcomes.{outcome_of}
use Rattle.pv_tree.specs.Settling.{Settles, AreNoted, SettlesInto}
use Rattle.pv_tree.proofs.KeptLemmas.{keeps-itself, keeps-trans, settles-kept, noted-kept}
use Rattle.pv_tree.proofs.SettleLemmas.{tested-at, leaf-settles, committed-settles, aborted-settles, settled-after, test-settles, noted-more}

-- One place is noted more.
abbrev pub IsNote : List (Option ℕ) → List (Option ℕ) → ℕ → ℕ → Type 0
IsNote old new number made = (other found : ℕ) → get_or new other None ≡ Some found → ((other ≡ number) × (found ≡ made)) ⊎ (get_or old other None ≡ Some found)

module _ {V : Type 0} (literals : List Literal) (source : List (List (Case V))) where
  pub found-into : (target : List (List (Case V))) (noted : List (Option ℕ)) (number made : ℕ) → AreNoted literals source target noted → get_or noted number None ≡ Some made
      → SettlesInto literals source target target noted number made
  found-into target noted number made are here = record { kept = keeps-itself target; are_noted = are; settles = are number made here }

  -- what was made is noted
  noted-into : (old new : List (List (Case V))) (noted noted' : List (Option ℕ)) (number made : ℕ) → Keeps old new → AreNoted literals source new noted → IsNote noted noted' number made
      → Settles literals (cases_at source number) new made → SettlesInto literals source old new noted' number made
  noted-into old new noted noted' number made keeps are note is = record {
    kept = keeps;
    are_noted = noted-more literals source new noted noted' number made are note is;
    settles = is;
  }

  pub leaf-into : (old new : List (List (Case V))) (noted noted' : List (Option ℕ)) (number made : ℕ) (value : V) → cases_at source number ≡ record { when = []; value = value } ∷ []
      → AreNoted literals source old noted → Keeps old new → IsAt new made (record { when = []; value = value } ∷ []) → IsNote noted noted' number made
      → SettlesInto literals source old new noted' number made
  leaf-into old new noted noted' number made value is are keeps at note =
      noted-into old new noted noted' number made keeps (noted-kept literals source old new noted keeps are) note
      (leaf-settles literals (cases_at source number) value new made is at)

  pub committed-into : (old new : List (List (Case V))) (noted noted' : List (Option ℕ)) (number made : ℕ) {txn : TxnId} {aborted committed : ℕ}
      → IsTestAt source number txn aborted committed → outcome_of literals txn ≡ Some true → SettlesInto literals source old new noted committed made → IsNote noted noted' number made
      → SettlesInto literals source old new noted' number made
  committed-into old new noted noted' number made at known into note =
      noted-into old new noted noted' number made into.kept into.are_noted note
      (committed-settles literals new made (tested-at at) known into.settles)

  pub aborted-into : (old new : List (List (Case V))) (noted noted' : List (Option ℕ)) (number made : ℕ) {txn : TxnId} {aborted committed : ℕ}
      → IsTestAt source number txn aborted committed → outcome_of literals txn ≡ Some false → SettlesInto literals source old new noted aborted made → IsNote noted noted' number made
      → SettlesInto literals source old new noted' number made
  aborted-into old new noted noted' number made at known into note =
      noted-into old new noted noted' number made into.kept into.are_noted note
      (aborted-settles literals new made (tested-at at) known into.settles)

  -- Both sides of a test were put among the others, one after the other.
  pub record AreInto (old middle new : List (List (Case V))) (noted noted' : List (Option ℕ)) (aborted committed front back : ℕ) : Type 0 where
    pub first : SettlesInto literals source old middle noted aborted front
    pub second : SettlesInto literals source middle new noted' committed back

  pub front-there : {old middle new : List (List (Case V))} {noted noted' : List (Option ℕ)} {aborted committed front back : ℕ}
      → AreInto old middle new noted noted' aborted committed front back → Settles literals (cases_at source aborted) new front
  front-there {old} {middle} {new} {noted} {noted'} {aborted} {committed} {front} {back} are =
      settles-kept literals (cases_at source aborted) middle new front are.second.kept are.first.settles

  pub front-after : {old middle new : List (List (Case V))} {noted noted' : List (Option ℕ)} {number aborted committed front back : ℕ} {txn : TxnId}
      → IsTestAt source number txn aborted committed → AreInto old middle new noted noted' aborted committed front back → NamesOnlyAfter txn (cases_at new front)
  front-after {new = new} {front = front} {txn = txn} at are = settled-after txn literals new front at.below.sides.aborted_after (front-there are)

  pub back-after : {old middle new : List (List (Case V))} {noted noted' : List (Option ℕ)} {number aborted committed front back : ℕ} {txn : TxnId}
      → IsTestAt source number txn aborted committed → AreInto old middle new noted noted' aborted committed front back → NamesOnlyAfter txn (cases_at new back)
  back-after {new = new} {back = back} {txn = txn} at are = settled-after txn literals new back at.below.sides.committed_after are.second.settles

  pub test-into : {old middle new : List (List (Case V))} {noted noted' : List (Option ℕ)} {aborted committed front back : ℕ} {txn : TxnId} (last : List (List (Case V)))
      (noted'' : List (Option ℕ)) (number made : ℕ) → IsTestAt source number txn aborted committed → outcome_of literals txn ≡ None
      → AreInto old middle new noted noted' aborted committed front back → Keeps new last → Chooses txn (cases_at new front) (cases_at new back) last made → IsNote noted' noted'' number made
      → SettlesInto literals source old last noted'' number made
  test-into {old} {middle} {new} {noted} {noted'} {aborted} {committed} {front} {back} last noted'' number made at unknown are keeps chosen note =
      noted-into old last noted' noted'' number made
      (keeps-trans old middle last are.first.kept (keeps-trans middle new last are.second.kept keeps))
      (noted-kept literals source new last noted' keeps are.second.are_noted) note
      (test-settles literals new last front back made (tested-at at) unknown (front-there are) are.second.settles chosen)
