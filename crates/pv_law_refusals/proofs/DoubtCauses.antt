-- The item for which a transaction is refused since it isn't certain is the least such item.
use Rattle.std.proofs.Common.{◌≡◌, ℕ, ◌<◌, ◌≤◌, Bool, true, false, Option, Some, None, List, refl, sym, ap, ◌∙◌, arith}
use Rattle.std.specs.Prelude.{nat_lt}
use Rattle.std.proofs.lemmas.Bool.{and_from, and_parts, false≢true, lt-ltb, ltb-false, ltb-true}
use Rattle.pv_base.specs.Catalog.{Item}
use Rattle.pv_format.specs.Record.{Record}
use Rattle.pv_law_step.proofs.DoubtLemmas.{first-is}
use Rattle.pv_model.specs.Alternatives.{Read}
use Rattle.pv_model.specs.Check.{requires_certain}
use Rattle.pv_protocol.specs.Causes.{IsInDoubt}
use Rattle.pv_protocol.specs.Coordinate.{count_left, doubts, is_uncertain, uncertain_from, value_taken}
use Rattle.pv_protocol.specs.State.{Entry}

module _ (records : List Record) (entry : Entry) where
  doubt-of : (item : ℕ) → is_uncertain records entry item ≡ true → IsInDoubt records entry item (doubts records entry item)
  doubt-of item is =
      let parts = and_parts (requires_certain entry.program item) (nat_lt 0 (doubts records entry item)) is in
      by (value_taken entry item) refl parts.0 parts.1 where
        by : (taken : Option Read) → value_taken entry item ≡ taken → requires_certain entry.program item ≡ true → nat_lt 0 (doubts records entry item) ≡ true
            → IsInDoubt records entry item (doubts records entry item)
        by None at required some = absurd (false≢true (sym (ap (λ o. nat_lt 0 (count_left records o)) at) ∙ some))
        by (Some read) at required some = record {
          required = required;
          read = read;
          taken = at;
          number = ap (count_left records) at;
          some = let more = ltb-true 0 (doubts records entry item) some in omega (arith, more);
        }

  doubted : (item count : ℕ) → IsInDoubt records entry item count → is_uncertain records entry item ≡ true
  doubted item count doubt =
      let left = ap (count_left records) doubt.taken in
      let number = doubt.number in
      let some = doubt.some in
      and_from (requires_certain entry.program item) (nat_lt 0 (doubts records entry item)) doubt.required
      (lt-ltb 0 (doubts records entry item) (omega (arith, left, number, some)))

  -- The item has to be certain and isn't, and it is the least such item.
  pub least-doubt : (items : List Item) (item : ℕ) → uncertain_from records entry 0 items ≡ Some item
      → IsInDoubt records entry item (doubts records entry item) × ((other more : ℕ) → IsInDoubt records entry other more → item ≤ other)
  least-doubt items item is =
      let first = first-is records entry 0 items item is in
      (doubt-of item first.is, λ other more doubt. by other (nat_lt other item) refl (doubted other more doubt) (first.least other (omega arith))) where
        by : (other : ℕ) (b : Bool) → nat_lt other item ≡ b → is_uncertain records entry other ≡ true → (other < item → is_uncertain records entry other ≡ false)
            → item ≤ other
        by other true less is before = absurd (false≢true (sym (before (ltb-true other item less)) ∙ is))
        by other false not_less is before = ltb-false other item not_less
