-- The example computes.
use Rattle.std.proofs.Common.{◌≡◌, ◌⊎◌, ℕ, zero, suc, ◌<◌, Bool, true, false, Some, None, Option, List, [], ◌∷◌, length, inl, inr, refl, ap, arith}
use Rattle.std.specs.Prelude.{nat_lt, get_or}
use Rattle.std.proofs.lemmas.Bool.{ltb-true}
use Rattle.pv_base.specs.declared.txn.TxnId.{TxnId}
use Rattle.pv_law_quorum.specs.Ballot.{Ballot, is_passed}
use Rattle.pv_law_quorum.specs.Record.{promised}
use Rattle.pv_law_quorum.specs.Decider.{Setup, Entry}
use Rattle.pv_law_quorum.specs.World.{World, Envelope, whole, proposal, opening, after_event, decider_at, records_at}
use Rattle.pv_law_quorum.specs.Undisturbed.{IsUndisturbed, IsDelivered, unreported, next_ballot, after_all}
use Rattle.pv_law_quorum.proofs.a_first_proposal_is_undisturbed.Goals as goal

abbrev setup : Setup
setup = record { deciders = 3; length = length; limit = 100 }

abbrev txn : TxnId
txn = record { site = record { 0 = 0 }; epoch = 1; number = 0 }

abbrev begun : World
begun = after_event setup (unreported (opening setup)) (proposal 0 txn true whole)

abbrev numbers : List ℕ
numbers = 0 ∷ (1 ∷ (2 ∷ (3 ∷ (4 ∷ (5 ∷ (6 ∷ (7 ∷ [])))))))

up : (k : ℕ) → k < 3 → (memory : List Entry) × ((decider_at begun k).memory ≡ Some memory)
up zero less = (_, refl)
up (suc zero) less = (_, refl)
up (suc (suc zero)) less = (_, refl)
up (suc (suc (suc k))) less = absurd (omega (arith, less))

unpassed : (k : ℕ) → is_passed (next_ballot (unreported (opening setup)) 0 txn) (promised txn (records_at (after_all setup begun numbers) k)) ≡ false
unpassed zero = refl
unpassed (suc zero) = refl
unpassed (suc (suc zero)) = refl
unpassed (suc (suc (suc k))) = refl

delivered : (envelope : Envelope) (i : ℕ) → i < 8 → get_or (after_all setup begun numbers).sent i envelope ≡ envelope → IsDelivered setup envelope begun numbers
delivered envelope zero less is = inl (ap Some is)
delivered envelope (suc zero) less is = inr (inl (ap Some is))
delivered envelope (suc (suc zero)) less is = inr (inr (inl (ap Some is)))
delivered envelope (suc (suc (suc zero))) less is = inr (inr (inr (inl (ap Some is))))
delivered envelope (suc (suc (suc (suc zero)))) less is = inr (inr (inr (inr (inl (ap Some is)))))
delivered envelope (suc (suc (suc (suc (suc zero))))) less is = inr (inr (inr (inr (inr (inl (ap Some is))))))
delivered envelope (suc (suc (suc (suc (suc (suc zero)))))) less is = inr (inr (inr (inr (inr (inr (inl (ap Some is)))))))
delivered envelope (suc (suc (suc (suc (suc (suc (suc zero))))))) less is = inr (inr (inr (inr (inr (inr (inr (inl (ap Some is))))))))
delivered envelope (suc (suc (suc (suc (suc (suc (suc (suc i)))))))) less is = absurd (omega (arith, less))

pub returns : goal.returns
returns c = record {
  most = refl;
  own = refl;
  within = λ k member. ltb-true k 3 member;
  up = λ k member. up k (ltb-true k 3 member);
  unpassed = unpassed;
  delivered = λ envelope h of. delivered envelope h.0 h.1 h.2;
}
