-- The proposal isn't awaited, or the promise is counted.
use Rattle.std.proofs.Common.{ap, sym, ◌∙◌}
use Rattle.std.specs.Result.{IfOk}
use Rattle.std.specs.Option.{option_map}
use Rattle.pv_quorum.specs.Makes.{IsMade}
use Rattle.pv_quorum.specs.Values.{ballot_of, vote_of}
use Rattle.pv_quorum.specs.declared.made.Made.{Made}
use Rattle.pv_quorum.proofs.ProposalLemmas.{promise-counted, promise-stays}
use Rattle.pv_quorum.proofs.proposing.Proposer.on_promise.Goals as goal

pub returns-then-not-awaits : goal.returns-then-not-awaits
returns-then-not-awaits c = λ setup here deciders me knows.
    promise-stays c.args.self.me here c.args.txn c.in-Some.proposal c.holding-then-not-awaits.result c.args.known.now c.in-Some.is knows
    (record {
      proposal_is = ap (λ (made : Made). made.proposal) c.holding-then-not-awaits.ensures.made;
      appended_is = ap (λ (made : Made). made.appended) c.holding-then-not-awaits.ensures.made;
      sends_are = c.holding-then-not-awaits.ensures.sends;
      decided_is = ap (λ (made : Made). made.decided) c.holding-then-not-awaits.ensures.made;
      spent_is = ap (λ (made : Made). made.spent) c.holding-then-not-awaits.ensures.made;
    })
    setup c.args.from (ballot_of c.args.ballot) (option_map vote_of c.args.last) (λ entry is. sym (c.awaits.ensures c.args.txn entry is) ∙ c.if-not-awaits.true)

pub returns : goal.returns
returns c = λ setup here deciders me knows.
    promise-counted here c.args.txn c.in-Some.proposal c.args.known.now c.in-Some.is knows c.args.from c.and.result c.and.ensures setup (ballot_of c.args.ballot)
    (λ answer. IfOk c.with_promise.result (λ made. IsMade c.args.self.me c.args.txn made answer)) (option_map vote_of c.args.last) c.greater_vote.result c.greater_vote.ensures
    (λ entry is. sym (c.awaits.ensures c.args.txn entry is) ∙ c.if-not-awaits.false)
    (λ entry is. c.with_promise.ensures setup here entry deciders me knows is)
