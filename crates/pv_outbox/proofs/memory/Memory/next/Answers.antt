-- The first output that may be released is the next one.
use Rattle.std.proofs.Common.{MatchOption, subst}
use Rattle.pv_law_outbox.specs.Ready.{IsNext, NoneReady}
use Rattle.pv_outbox.specs.MemoryView.{Memory}
use Rattle.pv_outbox.proofs.NextLemmas.{next-found}
use Rattle.pv_outbox.proofs.memory.Memory.next.Goals as goal

pub returns-clause-next : goal.returns-clause-next
returns-clause-next c =
    subst
    (λ (memory : Memory). MatchOption c.next.result (NoneReady memory.facts.state memory.facts.state.held) (IsNext memory.facts.state))
    c.self.view_is
    (next-found c.self.inside.facts.state c.len.ensures.canonical c.next.result c.next.ensures.found)
