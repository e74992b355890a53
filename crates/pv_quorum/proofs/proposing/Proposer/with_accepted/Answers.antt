-- The majority is there, and the value is decided.
use Rattle.std.proofs.Common.{refl, ap, sym, ◌∙◌}
use Rattle.pv_law_quorum.specs.Ballot.{is_majority}
use Rattle.pv_quorum.specs.Knows.{marked}
use Rattle.pv_quorum.specs.declared.made.Made.{Made}
use Rattle.pv_quorum.proofs.EntryLemmas.{same-majority}
use Rattle.pv_quorum.proofs.ProposalLemmas.{decides}
use Rattle.pv_quorum.proofs.proposing.Proposer.with_accepted.Goals as goal

pub returns : goal.returns
returns c = λ setup here entry deciders me is.
    decides c.args.self.me here c.args.txn entry c.args.proposal is setup _ me
    (same-majority c.args.txn entry c.args.proposal setup.deciders is ∙ ap (λ n. is_majority n (marked c.args.proposal.counted.deciders)) deciders
    ∙ sym c.is_majority.ensures ∙ c.if-not-is_majority.false)
    (record {
      proposal_is = ap (λ (made : Made). made.proposal) c.holding-2.ensures.made;
      appended_is = ap (λ (made : Made). made.appended) c.holding-2.ensures.made;
      sends_are = c.holding-2.ensures.sends;
      decided_is = refl;
      spent_is = ap (λ (made : Made). made.spent) c.holding-2.ensures.made;
    })
