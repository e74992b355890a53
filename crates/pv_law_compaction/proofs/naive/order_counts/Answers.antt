-- Where both commit, the value is another one.
use Rattle.std.proofs.Common.{◌≡◌, ℤ, pos, [], ◌∷◌, refl, ap}
use Rattle.std.specs.Ordering.{int_eq}
use Rattle.std.proofs.lemmas.Bool.{false≢true}
use Rattle.std.proofs.lemmas.Option.{none-some}
use Rattle.pv_law_compaction.proofs.naive.order_counts.Goals as goal
use Rattle.pv_law_step.specs.Examples.{txn_at}

pub returns : goal.returns
returns c = λ stands.
    let same : pos 60 ≡ pos 120 = stands.values 1 refl (txn_at 0 0 ∷ txn_at 1 0 ∷ []) (λ t outcome given is. absurd (none-some outcome is)) in
    false≢true (ap (λ (value : ℤ). int_eq (pos 120) value) same)
