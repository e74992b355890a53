-- What the program does once it does everywhere.
use Rattle.std.proofs.Common.{◌∙◌, List, Some, map, ap}
use Rattle.pv_base.specs.declared.limits.TheConstants.{READ_NAMES}
use Rattle.pv_model.specs.Alternatives.{assigned}
use Rattle.pv_model.specs.Meaning.{Effect, Row, exec}
use Rattle.pv_split.specs.Sure.{sure_read}
use Rattle.pv_split.proofs.SureLemmas.{sure-joined}
use Rattle.pv_split.proofs.sure.split_sure.Goals as goal

pub returns : goal.returns
returns c =
    sure-joined READ_NAMES c.args.program.now c.args.reads.now c.requires.sure c.in_ok-effect.effect
    (c.in_ok-effect.ensures ∙ ap (exec c.args.program.now) (c.deref.ensures.value ∙ c.in_ok-rows.ensures))
    c.in_ok-writes.writes.items
    (c.in_ok-writes.ensures ∙ ap (λ (rows : List Row). map sure_read (assigned c.args.program.now rows)) (c.deref-2.ensures.value ∙ ap (λ (e : Effect). e.rows) c.effect.view_is))
    c.in_ok-reply.reply c.in_ok-reply.ensures.polyvalue.canonical
    (λ a. c.in_ok-reply.ensures.value a ∙ ap (λ (e : Effect). Some e.reply) c.effect.view_is)
