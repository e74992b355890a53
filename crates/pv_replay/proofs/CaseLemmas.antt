-- Cases that were read, and the polyvalue that they are.
use Rattle.std.proofs.Common.{◌≡◌, ◌∙◌, ◌<◌, ◌^◌, FitsSigned, of_z, to_z, w64, ⊎_elim, ℕ, ℤ, List, [], ◌∷◌, Option, Some, Result, Ok, Err, length, ap, sym, subst, arith}
use Rattle.std.specs.Prelude.{IfOk, IfErr}
use Rattle.std.proofs.lemmas.Int.{to_z-of_z}
use Rattle.pv_base.specs.BigEndian.{IsNumber, big_endian}
use Rattle.pv_base.specs.declared.limits.TheConstants.{HELD_NAMES}
use Rattle.pv_base.specs.declared.txn.TxnId.{TxnId}
use Rattle.pv_base.specs.Polyvalue.{Case, IsPolyvalue, sure, value_at}
use Rattle.pv_bytes.specs.Reading.{Rest, HasTaken}
use Rattle.pv_cases.specs.JoinedCases.{IsKept}
use Rattle.pv_format.specs.FirstFault.{Fault, bad_poly}
use Rattle.pv_format.specs.Form.{in_cases}
use Rattle.pv_format.specs.Layout.{Layout, any, repeated, case_layout, cases_layout, polyvalue_then}
use Rattle.pv_format.specs.OldSpelling.{SpellsCase, SpellsCases, SpellsInCases}
use Rattle.pv_format.specs.Spelling.{◌followed_by◌, SpellsEach}
use Rattle.pv_fields.specs.Decoding.{IsTaken, Passes, Stops}
use Rattle.pv_fields.proofs.ListLemmas.{reading_starts, reading_goes_on, reading_stops, reading_ends}
use Rattle.pv_fields.proofs.PartLemmas.{number_any, passes_after_number, stops_after_number}
use Rattle.pv_fields.proofs.PolyvalueLemmas.{passes_cases, stops_no_cases}
use Rattle.pv_law_polyvalues.proofs.PolyvalueLemmas.{one-canonical}
use Rattle.pv_replay.specs.Faults.{fault_of}
use Rattle.pv_replay.specs.Refused.{IsRefused}
use Rattle.pv_replay.specs.declared.error.PolyError.{PolyError}

-- The polyvalue that has one value everywhere has one case.
pub sure_cases : (value : ℤ) (cases : List (Case ℤ)) → FitsSigned w64 value → IsPolyvalue HELD_NAMES cases
    → ((assignment : List TxnId) → value_at cases assignment ≡ Some (to_z w64 (of_z w64 value))) → cases ≡ record { when = []; value = value } ∷ []
sure_cases value cases fits is values =
    one-canonical cases (record { when = []; value = value } ∷ []) is.canonical (sure value) (λ assignment. values assignment ∙ ap Some (to_z-of_z w64 value fits))

-- What comes after the count of the cases.
abbrev pub after_count : ℕ → Layout → Layout
after_count count next = repeated count case_layout next

module _ (count : ℕ) (old mid : Rest) (counted : HasTaken (big_endian 2 count) old mid) (fits : count < 256 ^ 2) where
  -- The count, and then so many cases.
  pub cases_pass : (cases : List (Case ℤ)) (new : Rest) → length cases ≡ count → Passes (SpellsEach SpellsCase cases) (repeated count case_layout) mid new
      → Passes (SpellsCases cases) cases_layout old new
  cases_pass cases new all passes =
      subst (λ (n : ℕ). Passes (IsNumber 2 n followed_by SpellsEach SpellsCase cases) cases_layout old new) (sym all)
      (passes_after_number (IsNumber 2 count) 2 any count after_count old mid (number_any 2 count old mid counted fits) (SpellsEach SpellsCase cases) new passes)

  pub cases_stop : (told : Option Fault) → Stops (repeated count case_layout) mid told → Stops cases_layout old told
  cases_stop = stops_after_number (IsNumber 2 count) 2 any count after_count old mid (number_any 2 count old mid counted fits)

  -- The count of one case, and then the case.
  pub case_passes : (case : Case ℤ) (new : Rest) → count ≡ 1 → Passes (SpellsCase case) case_layout mid new → Passes (SpellsCases (case ∷ [])) cases_layout old new
  case_passes case new one passes =
      cases_pass (case ∷ []) new (sym one)
      (reading_ends SpellsCase case_layout (case ∷ []) count mid new (omega (arith, one))
      (reading_goes_on SpellsCase case_layout [] case count mid mid new (omega (arith, one)) (reading_starts SpellsCase case_layout count mid) passes))

  pub case_stops : (told : Option Fault) → count ≡ 1 → Stops case_layout mid told → Stops cases_layout old told
  case_stops told one stops = cases_stop told (reading_stops SpellsCase case_layout [] count mid mid told (omega (arith, one)) (reading_starts SpellsCase case_layout count mid) stops)

-- What becomes of cases that were read.
module _ (cases : List (Case ℤ)) (old new : Rest) (read : Passes (SpellsCases cases) cases_layout old new) where
  pub kept_passes : (result : Result (List (Case ℤ)) PolyError) → IfOk result (IsKept HELD_NAMES cases) → IfOk result (λ poly. Passes (SpellsInCases poly) (polyvalue_then in_cases) old new)
  kept_passes (Ok poly) is = passes_cases poly old new (subst (λ (those : List (Case ℤ)). IsTaken (SpellsCases those) old new) (sym is.kept) read.taken) is.polyvalue
  kept_passes (Err e) is = tt

  pub refused_stops : (place : ℕ) (result : Result (List (Case ℤ)) PolyError) → place ≡ old.place → IfErr result (IsRefused cases place)
      → IfErr result (λ e. Stops (polyvalue_then in_cases) old (fault_of e))
  refused_stops place (Ok poly) here is = tt
  refused_stops place (Err e) here is =
      ⊎_elim
      (λ none. subst (λ (other : PolyError). Stops (polyvalue_then in_cases) old (fault_of other)) (sym none) tt)
      (λ bad. subst (λ (other : PolyError). Stops (polyvalue_then in_cases) old (fault_of other)) (sym bad.0)
      (subst (λ (at : ℕ). Stops (polyvalue_then in_cases) old (Some (bad_poly at))) (sym here) (stops_no_cases cases old new read.taken bad.1)))
      is
