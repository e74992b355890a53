-- Works that are changed at the place of a transaction.
use Rattle.std.proofs.Common.{◌≡◌, ℕ, ◌<◌, Bool, true, false, ◌&&◌, ◌||◌, Some, None, Option, List, get_or, set, IsTrue, refl, sym, ap, subst, ◌∙◌, arith}
use Rattle.std.specs.Prelude.{not, if◌then◌else◌}
use Rattle.std.specs.List.{find}
use Rattle.std.proofs.lemmas.Bool.{false≢true, true≢false, not-true}
use Rattle.std.proofs.lemmas.List.{set-get_or}
use Rattle.pv_base.specs.Assignment.{is_same_txn}
use Rattle.pv_base.specs.Polyvalue.{Case}
use Rattle.pv_base.specs.declared.limits.TheConstants.{TICKS}
use Rattle.pv_base.specs.declared.reply.Reply.{Reply}
use Rattle.pv_base.specs.declared.txn.TxnId.{TxnId}
use Rattle.pv_coord.proofs.KeyedLemmas.{found-at, found-both, only, with-at}
use Rattle.pv_coord.specs.Coordinator.{fits, with_taken_for, with_vote_for}
use Rattle.pv_coord.specs.Place.{IsPlace}
use Rattle.pv_coord.specs.Work.{Work, txn_of, is_unawaited, is_grant_ignored, is_vote_ignored, after_grant, with_vote}
use Rattle.pv_protocol.specs.Coordinate.{is_locking}
use Rattle.pv_protocol.specs.Keyed.{of_txn, with_one, AreInOrder}
use Rattle.pv_protocol.specs.State.{Taken}

-- The work asks for locks.
abbrev pub locks : Work → Bool
locks work = is_locking work.entry.stage

-- The work asks for votes.
abbrev pub votes : Work → Bool
votes work = not (is_locking work.entry.stage)

-- what is held for the transaction, if it passes the test
abbrev pub held : (Work → Bool) → TxnId → List Work → Option Work
held p txn works = find (λ (work : Work). is_same_txn txn work.entry.txn && p work) works

-- the work with the vote of the site, if votes are asked for and it counts
abbrev pub counted : Work → ℕ → Work
counted work from = if is_locking work.entry.stage || is_vote_ignored work from then work else with_vote work from

pub after-txn : (work : Work) (taken : Taken) (reply : Option (List (Case Reply))) → txn_of (after_grant work taken reply) ≡ txn_of work
after-txn work taken None = refl
after-txn work taken (Some reply) = refl

pub after-young : (work : Work) (taken : Taken) (reply : Option (List (Case Reply))) → work.entry.age < TICKS → (after_grant work taken reply).entry.age < TICKS
after-young work taken None young = young
after-young work taken (Some reply) young = omega arith

counted-txn-by : (work : Work) (from : ℕ) (b : Bool) → txn_of (if b then work else with_vote work from) ≡ txn_of work
counted-txn-by work from true = refl
counted-txn-by work from false = refl

pub counted-txn : (work : Work) (from : ℕ) → txn_of (counted work from) ≡ txn_of work
counted-txn work from = counted-txn-by work from (is_locking work.entry.stage || is_vote_ignored work from)

counted-young-by : (work : Work) (from : ℕ) (b : Bool) → work.entry.age < TICKS → (if b then work else with_vote work from).entry.age < TICKS
counted-young-by work from true young = young
counted-young-by work from false young = young

pub counted-young : (work : Work) (from : ℕ) → work.entry.age < TICKS → (counted work from).entry.age < TICKS
counted-young work from young = counted-young-by work from (is_locking work.entry.stage || is_vote_ignored work from) young

fits-by : (b : Bool) (work : Work) (taken : Taken) → IsTrue (fits (if b then Some work else None) taken) → (b ≡ true) × (not (is_grant_ignored work taken) ≡ true)
fits-by true work taken is = (refl, is)
fits-by false work taken is = absurd (false≢true is)

neither-left : (a b : Bool) → (a || b) ≡ false → a ≡ false
neither-left true b is = absurd (true≢false is)
neither-left false b is = refl

module _ (works : List Work) (up : AreInOrder txn_of works) (txn : TxnId) (place : ℕ) (at : IsPlace works txn place) (work : Work) (is : work ≡ get_or works place work) where
  found : of_txn txn_of txn works ≡ Some work
  found = found-at txn_of works up place work at.within txn (sym (at.same work)) ∙ ap Some (sym is)

  pub same-txn : txn_of work ≡ txn
  same-txn = ap txn_of is ∙ at.same work

  pub held-there : (p : Work → Bool) → held p txn works ≡ (if p work then Some work else None)
  held-there p = found-both txn_of p works up txn ∙ ap (only txn_of p) found

  -- A grant of which notice is taken is awaited there.
  pub is-awaited : (taken : Taken) → IsTrue (fits (held locks txn works) taken) → (locks work ≡ true) × (is_unawaited work taken.site ≡ false)
  is-awaited taken fit =
      let both = fits-by (locks work) work taken (subst (λ (o : Option Work). IsTrue (fits o taken)) (held-there locks) fit) in
      (both.0, neither-left (is_unawaited work taken.site) _ (not-true (is_grant_ignored work taken) both.1))

  -- The work is changed to one on the same transaction.
  pub put-there : (new : Work) → txn_of new ≡ txn_of work → set works place new ≡ with_one txn_of new works
  put-there new same = with-at txn_of works up place work at.within new (same ∙ ap txn_of is)

  -- A grant is taken.
  pub granted-there : (taken : Taken) (reply : Option (List (Case Reply))) → locks work ≡ true
      → set works place (after_grant work taken reply) ≡ with_taken_for works taken reply (held locks txn works)
  granted-there taken reply locking =
      put-there (after_grant work taken reply) (after-txn work taken reply)
      ∙ sym (ap (with_taken_for works taken reply) (held-there locks ∙ ap (λ (b : Bool). if b then Some work else None) locking))

  kept-there : set works place work ≡ works
  kept-there = ap (λ (one : Work). set works place one) is ∙ set-get_or works place work

  counted-by : (from : ℕ) (b c : Bool) → is_locking work.entry.stage ≡ b → is_vote_ignored work from ≡ c
      → set works place (if b || c then work else with_vote work from) ≡ with_vote_for works from (if not b then Some work else None)
  counted-by from true c b-is c-is = kept-there
  counted-by from false true b-is c-is = kept-there ∙ sym (ap (λ (i : Bool). if i then works else with_one txn_of (with_vote work from) works) c-is)
  counted-by from false false b-is c-is =
      put-there (with_vote work from) refl ∙ sym (ap (λ (i : Bool). if i then works else with_one txn_of (with_vote work from) works) c-is)

  -- A vote is counted.
  pub counted-there : (from : ℕ) → set works place (counted work from) ≡ with_vote_for works from (held votes txn works)
  counted-there from =
      counted-by from (is_locking work.entry.stage) (is_vote_ignored work from) refl refl ∙ sym (ap (with_vote_for works from) (held-there votes))

-- Nothing is held for a transaction that isn't worked on.
pub held-none : (works : List Work) → AreInOrder txn_of works → (txn : TxnId) (p : Work → Bool) → of_txn txn_of txn works ≡ None → held p txn works ≡ None
held-none works up txn p none = found-both txn_of p works up txn ∙ ap (only txn_of p) none
