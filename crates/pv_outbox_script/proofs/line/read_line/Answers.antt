-- The line has these words, and they say this.
use Rattle.std.proofs.Common.{ℕ, List, Bor, subst}
use Rattle.pv_lines.specs.Words.{texts}
use Rattle.pv_outbox_script.specs.Held.{ReadsWords}
use Rattle.pv_outbox_script.proofs.LineLemmas.{line-by}
use Rattle.pv_outbox_script.proofs.line.read_line.Goals as goal

pub returns-in-Ok-clause-said : goal.returns-in-Ok-clause-said
returns-in-Ok-clause-said c =
    line-by c.args.line.now (texts c.in-Ok.words.items) c.event_in.result c.in-Ok.ensures
    (subst (λ (items : List (Bor (List ℕ))). ReadsWords (texts items) c.event_in.result) c.deref.ensures.value c.event_in.ensures.said)
