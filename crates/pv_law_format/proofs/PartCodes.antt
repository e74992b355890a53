-- The parts that messages and records have in common are codes.
use Rattle.std.proofs.Common.{ℕ, List, length, refl}
use Rattle.std.specs.Prelude.{ℤ}
use Rattle.pv_base.specs.BigEndian.{IsNumber}
use Rattle.pv_base.specs.Polyvalue.{Case}
use Rattle.pv_base.specs.Want.{Want}
use Rattle.pv_model.specs.Alternatives.{Read}
use Rattle.pv_format.specs.FirstFault.{Fault}
use Rattle.pv_format.specs.Form.{Form}
use Rattle.pv_format.specs.Layout.{Layout, any, truth_layout, txn_layout, grant_layout, literal_layout, case_layout, cases_layout, counted_layout}
use Rattle.pv_format.specs.MessageSpelling.{SpellsWants}
use Rattle.pv_format.specs.OldSpelling.{SpellsLiteral, SpellsCase, SpellsCases}
use Rattle.pv_format.specs.RecordSpelling.{SpellsReadsBy}
use Rattle.pv_format.specs.Spelling.{IsAllowed, is_site, SpellsTxn, SpellsGrant}
use Rattle.pv_law_format.proofs.Codes.{IsCode, both-code, code-of, to-left, to-right, with-first}
use Rattle.pv_law_format.proofs.ListCodes.{each-code, entries-code}
use Rattle.pv_law_format.proofs.NumberCodes.{allowed-code, number-code, truth-code, signed-code}

module _ (SpellsPart : Form → List (Case ℤ) → List ℕ → Type 0) (PartFault : Form → ℕ → List ℕ → Fault → Type 0) where
  pub txn-code : IsCode SpellsPart PartFault SpellsTxn txn_layout
  txn-code =
      code-of SpellsPart PartFault
      (both-code SpellsPart PartFault (allowed-code SpellsPart PartFault 1 is_site)
      (both-code SpellsPart PartFault (number-code SpellsPart PartFault 4) (number-code SpellsPart PartFault 4)))
      SpellsTxn
      (λ txn. (txn.site.0, (txn.epoch, txn.number)))
      (λ p. record { site = record { 0 = p.0 }; epoch = p.1.0; number = p.1.1 })
      (λ txn. refl) (λ txn front s. s) (λ p front s. s)

  pub grant-code : IsCode SpellsPart PartFault SpellsGrant grant_layout
  grant-code =
      code-of SpellsPart PartFault
      (both-code SpellsPart PartFault (number-code SpellsPart PartFault 4) (number-code SpellsPart PartFault 4))
      SpellsGrant
      (λ grant. (grant.epoch, grant.number))
      (λ p. record { epoch = p.0; number = p.1 })
      (λ grant. refl) (λ grant front s. s) (λ p front s. s)

  pub literal-code : IsCode SpellsPart PartFault SpellsLiteral literal_layout
  literal-code =
      code-of SpellsPart PartFault
      (both-code SpellsPart PartFault (truth-code SpellsPart PartFault) txn-code)
      SpellsLiteral
      (λ literal. (literal.commits, literal.txn))
      (λ p. record { txn = p.1; commits = p.0 })
      (λ literal. refl) (λ literal front s. s) (λ p front s. s)

  as-any : (size number : ℕ) (front : List ℕ) → IsNumber size number front → IsAllowed size any number front
  as-any size number front s = record { spelled = s; allowed = refl }

  pub case-code : IsCode SpellsPart PartFault SpellsCase case_layout
  case-code =
      code-of SpellsPart PartFault
      (both-code SpellsPart PartFault (each-code SpellsPart PartFault literal-code 1 any) (signed-code SpellsPart PartFault))
      SpellsCase
      (λ case. (case.when, case.value))
      (λ p. record { when = p.0; value = p.1 })
      (λ case. refl)
      (λ case front s. to-left (with-first (as-any 1 (length case.when)) s))
      (λ p front s. with-first (λ f t. t.spelled) (to-right s))

  pub cases-code : IsCode SpellsPart PartFault SpellsCases cases_layout
  cases-code =
      code-of SpellsPart PartFault (each-code SpellsPart PartFault case-code 2 any) SpellsCases (λ cases. cases) (λ cases. cases) (λ cases. refl)
      (λ cases front s. with-first (as-any 2 (length cases)) s)
      (λ cases front s. with-first (λ f t. t.spelled) s)

  pub wants-code : (fewest : ℕ) → IsCode SpellsPart PartFault (SpellsWants fewest) (counted_layout fewest truth_layout)
  wants-code =
      entries-code SpellsPart PartFault (λ (want : Want). want.item) (λ want. want.exclusive) (λ item exclusive. record { item = item; exclusive = exclusive })
      (λ item exclusive. refl) (λ item exclusive. refl) (λ want. refl) (truth-code SpellsPart PartFault)

  pub reads-code : {Spells : List (Case ℤ) → List ℕ → Type 0} {layout : Layout → Layout} → IsCode SpellsPart PartFault Spells layout
      → (fewest : ℕ) → IsCode SpellsPart PartFault (SpellsReadsBy Spells fewest) (counted_layout fewest layout)
  reads-code =
      entries-code SpellsPart PartFault (λ (read : Read). read.item) (λ read. read.cases) (λ item cases. record { item = item; cases = cases })
      (λ item cases. refl) (λ item cases. refl) (λ read. refl)
