-- The layers along a run of acts.
use Rattle.std.proofs.Common.{◌≡◌, Bool, true, false, ◌&&◌, ◌||◌, List, [], ◌∷◌, ◌++◌, refl, sym, ap, ◌∙◌}
use Rattle.std.specs.List.{list_any}
use Rattle.std.proofs.lemmas.List.{append-nil, append_assoc}
use Rattle.pv_base.specs.Assignment.{is_same_txn, commits}
use Rattle.pv_base.specs.declared.txn.TxnId.{TxnId}
use Rattle.pv_law_acts.proofs.ActSteps.{act-step}
use Rattle.pv_law_acts.specs.Acts.{Act, Acts, no_act, one_more}
use Rattle.pv_law_agreement.proofs.AgreementLemmas.{agrees}
use Rattle.pv_law_agreement.proofs.GroundLemmas.{grounds-from}
use Rattle.pv_law_agreement.proofs.OpeningLemmas.{sequence-opens, support-opens, values-open}
use Rattle.pv_law_agreement.proofs.SequenceSteps.{growth, sequence-kept}
use Rattle.pv_law_agreement.proofs.SupportSteps.{support-kept}
use Rattle.pv_law_agreement.proofs.ValueSteps.{orderly-from, serialized-kept}
use Rattle.pv_law_agreement.specs.Falls.{FitsFallBack}
use Rattle.pv_law_agreement.specs.Places.{txns_of}
use Rattle.pv_law_agreement.specs.Sequence.{IsInSequence}
use Rattle.pv_law_agreement.specs.Serialized.{IsSerialized}
use Rattle.pv_law_agreement.specs.Supported.{IsSupported}
use Rattle.pv_law_outcomes.proofs.DecidedLemmas.{IsSettled, always-settled, stays-settled}
use Rattle.pv_law_outcomes.proofs.OutcomeLemmas.{fits-earlier}
use Rattle.pv_law_outcomes.specs.Decided.{IsCutTo}
use Rattle.pv_law_values.proofs.ChoiceLemmas.{commits-among}
use Rattle.pv_law_values.specs.Cut.{among}
use Rattle.pv_protocol.specs.Agreement.{Agrees}
use Rattle.pv_protocol.specs.State.{Setup, Placed}
use Rattle.pv_protocol.specs.World.{World, opening}

pub order-grows : (setup : Setup) (w u : World) → Acts setup w u → (more : List Placed) × (u.order ≡ w.order ++ more)
order-grows setup w _ (no_act w') = ([], sym (append-nil w.order))
order-grows setup w u (one_more w' next u' acts act) =
    let earlier = order-grows setup w next acts in
    let last = growth (act-step setup next u act).order in
    (earlier.0 ++ last.0, last.1 ∙ ap (λ o. o ++ last.0) earlier.1 ∙ append_assoc w.order earlier.0 last.0)

-- What is cut to the transactions of an order is cut to those that have a place in it.

placed-is : (order : List Placed) (t : TxnId) → commits (txns_of order) t ≡ list_any (λ (p : Placed). is_same_txn p.txn t) order
placed-is [] t = refl
placed-is (p ∷ order) t = ap (λ b. is_same_txn p.txn t || b) (placed-is order t)

and-turned : (b c : Bool) → (b && c) ≡ (c && b)
and-turned true true = refl
and-turned true false = refl
and-turned false true = refl
and-turned false false = refl

cut-is : (w : World) (a : List TxnId) → IsCutTo w a (among (txns_of w.order) a)
cut-is w a t = commits-among (txns_of w.order) a t ∙ and-turned (commits (txns_of w.order) t) (commits a t) ∙ ap (λ b. commits a t && b) (placed-is w.order t)

module _ (setup : Setup) where
  -- An assignment that fits a later world fits an earlier one, cut to its order.
  pub falls-back : (w u : World) → IsSettled setup w → Acts setup w u → FitsFallBack w u
  falls-back w u settled acts a fits = fits-earlier setup w u acts settled a (among (txns_of w.order) a) fits (cut-is w a)

  -- what the layers keep
  pub record AreKept (w : World) : Type 0 where
    pub settled : IsSettled setup w
    pub sequence : IsInSequence w
    pub support : IsSupported w
    pub values : IsSerialized setup w

  pub kept-by : (w v : World) → Act setup w v → AreKept w → AreKept v
  kept-by w v act kept =
      let step = act-step setup w v act in
      let now = stays-settled setup w v step kept.settled in
      let grounds = grounds-from setup w kept.settled in record {
        settled = now;
        sequence = sequence-kept setup w v step grounds kept.sequence;
        support = support-kept setup w v step grounds kept.support;
        values = serialized-kept setup w v step grounds (grounds-from setup v now) (falls-back w v kept.settled (one_more w w v (no_act w) act)) kept.support kept.sequence kept.values;
      }

  pub kept-along : (w u : World) → Acts setup w u → AreKept w → AreKept u
  kept-along w _ (no_act w') kept = kept
  kept-along w u (one_more w' next u' acts act) kept = kept-by next u act (kept-along w next acts kept)

  -- The layers hold in every world that acts lead to.
  pub all-kept : (w : World) → Acts setup (opening setup) w → AreKept w
  all-kept w acts = kept-along (opening setup) w acts (record {
    settled = always-settled setup (opening setup) (no_act (opening setup));
    sequence = sequence-opens setup;
    support = support-opens setup;
    values = values-open setup;
  })

  -- Every world that acts lead to agrees.
  pub all-agree : (w : World) → Acts setup (opening setup) w → Agrees setup w
  all-agree w acts = let kept = all-kept w acts in agrees setup w (orderly-from setup w (grounds-from setup w kept.settled) kept.sequence kept.values)
