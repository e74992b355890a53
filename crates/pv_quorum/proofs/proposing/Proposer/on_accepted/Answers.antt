-- The proposal isn't awaited, or the acceptance is counted.
use Rattle.std.proofs.Common.{ap, sym, ◌∙◌}
use Rattle.pv_quorum.specs.Makes.{IsMade}
use Rattle.pv_quorum.specs.Values.{ballot_of}
use Rattle.pv_quorum.specs.declared.made.Made.{Made}
use Rattle.pv_quorum.proofs.ProposalLemmas.{accepted-counted, accepted-stays}
use Rattle.pv_quorum.proofs.proposing.Proposer.on_accepted.Goals as goal

pub returns-then-not-awaits : goal.returns-then-not-awaits
returns-then-not-awaits c = λ setup here deciders me knows.
    accepted-stays c.args.self.me here c.args.txn c.in-Some.proposal c.holding-then-not-awaits.result c.args.known.now c.in-Some.is knows
    (record {
      proposal_is = ap (λ (made : Made). made.proposal) c.holding-then-not-awaits.ensures.made;
      appended_is = ap (λ (made : Made). made.appended) c.holding-then-not-awaits.ensures.made;
      sends_are = c.holding-then-not-awaits.ensures.sends;
      decided_is = ap (λ (made : Made). made.decided) c.holding-then-not-awaits.ensures.made;
      spent_is = ap (λ (made : Made). made.spent) c.holding-then-not-awaits.ensures.made;
    })
    setup c.args.from (ballot_of c.args.ballot) (λ entry is. sym (c.awaits.ensures c.args.txn entry is) ∙ c.if-not-awaits.true)

pub returns : goal.returns
returns c = λ setup here deciders me knows.
    accepted-counted here c.args.txn c.in-Some.proposal c.args.known.now c.in-Some.is knows c.args.from c.and.result c.and.ensures setup (ballot_of c.args.ballot)
    (IsMade c.args.self.me c.args.txn c.with_accepted.result) (λ entry is. sym (c.awaits.ensures c.args.txn entry is) ∙ c.if-not-awaits.false)
    (λ entry is. c.with_accepted.ensures setup here entry deciders me is)
