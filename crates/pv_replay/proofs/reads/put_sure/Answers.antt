-- What is written is the item and its only case.
use Rattle.std.proofs.Common.{◌≡◌, ◌∙◌, ◌∷◌, ◌++◌, [], ℕ, ℤ, List, ap, ap₂, refl, subst, sym}
use Rattle.std.proofs.lemmas.Int.{to_z-of_z}
use Rattle.std.proofs.lemmas.List.{append-nil}
use Rattle.std.specs.Int.{w64}
use Rattle.std.specs.Prelude.{OnOk}
use Rattle.pv_base.specs.BigEndian.{big_endian, twos_complement}
use Rattle.pv_format.specs.PolyvalueSpelling.{SpellsPolyvalue}
use Rattle.pv_law_format.proofs.SureLemmas.{sure-in-cases}
use Rattle.pv_fields.specs.Encoding.{SpellsEntry}
use Rattle.pv_model.specs.Alternatives.{Read}
use Rattle.pv_replay.proofs.reads.put_sure.Goals as goal

spelled_at_once : (item : ℕ) (value : ℤ) (bytes : List ℕ)
    → SpellsEntry (λ (entry : Read). SpellsPolyvalue entry.cases) (λ entry. entry.item) (record { item = item; cases = record { when = []; value = value } ∷ [] }) bytes
    → big_endian 4 item ++ (big_endian 2 1 ++ (big_endian 1 0 ++ big_endian 8 (twos_complement value))) ≡ bytes
spelled_at_once item value bytes spelled =
    let join = λ (front back : List ℕ). front ++ back in
    let cases = (sure-in-cases (record { when = []; value = value } ∷ []) spelled.back refl spelled.second).spelled in
    let each = cases.second in
    let case = each.first in
    let number = case.second.whole ∙ ap (λ front. front ++ case.second.back) case.second.first ∙ case.second.second.spelled in
    let only = case.whole ∙ ap₂ join case.first.spelled number in
    let all = each.whole ∙ ap₂ join only each.second ∙ append-nil (big_endian 1 0 ++ big_endian 8 (twos_complement value)) in
    let polyvalue = cases.whole ∙ ap₂ join cases.first.spelled all in
    sym (spelled.whole ∙ ap₂ join spelled.first.spelled polyvalue)

pub returns-clause-written : goal.returns-clause-written
returns-clause-written c = λ bytes spelled.
    let fits = (sure-in-cases _ spelled.back refl spelled.second).spelled.second.first.second.second.fits in
    let same = ap (λ (value : ℤ). big_endian 4 c.args.item.0 ++ (big_endian 2 1 ++ (big_endian 1 0 ++ big_endian 8 (twos_complement value)))) (to_z-of_z w64 c.args.value fits) in
    subst (λ (written : List ℕ). OnOk c.bytes.result (c.bytes.new.self.bytes ≡ c.args.put.now.bytes ++ written))
    (c.sure_bytes.ensures ∙ same ∙ spelled_at_once c.args.item.0 c.args.value bytes spelled) c.bytes.ensures.written
