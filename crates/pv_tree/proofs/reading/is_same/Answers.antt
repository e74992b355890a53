-- Literals are one where `==` says so.
use Rattle.std.proofs.Common.{◌∙◌, ◌&&◌, Bool, true, [], ◌∷◌, sym, ap, refl}
use Rattle.pv_base.proofs.Basics.{heads}
use Rattle.pv_base.specs.Canonical.{IsExact}
use Rattle.pv_base.specs.Polyvalue.{Case}
use Rattle.pv_cases.proofs.SameCaseLemmas.{case-decided}
use Rattle.pv_tree.proofs.reading.is_same.Goals as goal

-- All values of no content are one.
abbrev always : Unit {0} → Unit {0} → Bool
always x y = true

are-one : IsExact always
are-one = record { exact = λ x y is. refl; itself = λ x. refl }

pub returns : goal.returns
returns c = λ same.
    let first : Case (Unit {0}) = record { when = c.args.literal.now ∷ []; value = tt } in
    let second : Case (Unit {0}) = record { when = c.args.other.now ∷ []; value = tt } in
    heads (ap (λ (case : Case (Unit {0})). case.when) ((case-decided are-one first second).0 (ap (λ (b : Bool). (b && true) && true) (sym c.eq.ensures ∙ same))))
