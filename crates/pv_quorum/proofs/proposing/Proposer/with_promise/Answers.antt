-- The majority is there, and the ballot was passed.
use Rattle.std.proofs.Common.{ap, ap₂, sym, ◌∙◌}
use Rattle.pv_law_quorum.specs.Ballot.{is_majority, is_passed}
use Rattle.pv_law_quorum.specs.Record.{promised}
use Rattle.pv_quorum.specs.Knows.{marked}
use Rattle.pv_quorum.specs.declared.made.Made.{Made}
use Rattle.pv_quorum.proofs.EntryLemmas.{same-majority}
use Rattle.pv_quorum.proofs.ProposalLemmas.{gives-up}
use Rattle.pv_quorum.proofs.proposing.Proposer.with_promise.Goals as goal

pub returns-then-is_passed : goal.returns-then-is_passed
returns-then-is_passed c = λ setup here entry deciders me knows is.
    gives-up c.args.self.me here c.args.txn entry c.args.proposal is setup c.holding-then-is_passed.result
    (same-majority c.args.txn entry c.args.proposal setup.deciders is ∙ ap (λ n. is_majority n (marked c.args.proposal.counted.deciders)) deciders
    ∙ sym c.is_majority.ensures ∙ c.if-not-is_majority.false)
    (ap₂ is_passed is.ballot (ap (λ txn. promised txn here.records) is.txn_is ∙ knows.recorded.promised_is) ∙ sym c.is_passed.ensures ∙ c.if-is_passed.true)
    (record {
      proposal_is = ap (λ (made : Made). made.proposal) c.holding-then-is_passed.ensures.made;
      appended_is = ap (λ (made : Made). made.appended) c.holding-then-is_passed.ensures.made;
      sends_are = c.holding-then-is_passed.ensures.sends;
      decided_is = ap (λ (made : Made). made.decided) c.holding-then-is_passed.ensures.made;
      spent_is = ap (λ (made : Made). made.spent) c.holding-then-is_passed.ensures.made;
    })
