-- One request more has its line.
use Rattle.std.proofs.Common.{◌+◌, ◌∙◌, refl, ap, sym, subst}
use Rattle.pv_history.specs.Entries.{stamps_of}
use Rattle.pv_mail.specs.declared.asked.Asker.{Asker}
use Rattle.pv_told.proofs.LineLemmas.{one-more}
use Rattle.pv_told.proofs.lines.lines_of_client.Goals as goal
use Rattle.pv_told.specs.Lines.{AreLinesOf}
use Rattle.pv_told.specs.Words.{has_asker, told_in}
use Rattle.pv_told.specs.declared.line.ClientLine.{ClientLine}

pub loop-request-preserved : goal.loop-request-preserved
loop-request-preserved c =
    let me = c.args.site.0 in
    let history = stamps_of c.args.history.now in
    let n = c.loop-request.request in
    let asker : Asker = record { client = c.args.client; number = n } in
    let line : ClientLine = record { request = n; what = c.in_ok-what.what } in
    subst (AreLinesOf me c.args.worn history c.args.client (n + 1)) (sym c.in_ok-push.ensures.items)
    (one-more me c.args.worn history c.args.client n c.loop-request.lines.items line c.loop-request.invariant (
      refl,
      c.in_ok-what.ensures history (ap (told_in me) c.deref.ensures.value ∙ c.in_ok-told.ensures me)
          (ap (has_asker asker) c.deref-in-loop-request.ensures.value ∙ c.in_ok-faulted.ensures asker),
    ))
