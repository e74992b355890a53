-- Read by read, the row is written where the program assigns the item, and else left out.
use Rattle.std.proofs.Common.{All, List, ap, sym, subst, ◌≡◌, ◌∙◌, length}
use Rattle.pv_base.specs.Polyvalue.{IsPolyvalue}
use Rattle.pv_base.specs.declared.limits.TheConstants.{READ_NAMES}
use Rattle.pv_model.specs.Alternatives.{Read, rows_at}
use Rattle.pv_model.specs.ProgramLaws.{assigns}
use Rattle.pv_split.proofs.EffectLemmas.{length-effects}
use Rattle.pv_split.proofs.WriteLemmas.{rows-there, writes-next, writes-skip, writes-end, NamesOnly, All-more}
use Rattle.pv_split.proofs.writes.writes_of.Goals as goal
use Rattle.pv_split.proofs.writes.writes_of.Goals.{then-assigns+in_ok-write+in_ok-push, else-assigns}

pub write_of-requires-clause-whole : goal.write_of-requires-clause-whole
write_of-requires-clause-whole c =
    ap length c.requires.effects ∙ length-effects c.args.program.now c.args.reads.now c.args.txns.now

pub write_of-requires-clause-row : goal.write_of-requires-clause-row
write_of-requires-clause-row c =
    rows-there c.args.program.now c.args.reads.now c.args.txns.now c.args.effects.now c.loop-index.index c.loop-index-test.true c.requires.effects

pub loop-index-preserved : goal.loop-index-preserved
loop-index-preserved c =
    let read = c.index-reads-index.result in
    let program = c.args.program.now in
    let same-item = ap (λ (r : Read). r.item) c.read.view_is in
    elim c.if-assigns.branch [
      | then-assigns+in_ok-write+in_ok-push w ↦
          let more = ap (λ (v : _). v.items) w.writes-is ∙ w.in_ok-push.ensures.items in
          record {
            written =
                writes-next program c.args.reads.now c.args.txns.now c.requires.named c.loop-index.index read w.in_ok-write.write c.args.effects.now c.loop-index.writes.items c.if-assigns.writes.items
                c.loop-index-test.true c.index-reads-index.is c.requires.effects (sym (c.assigns.ensures ∙ ap (assigns program) same-item) ∙ w.if-assigns.true)
                (w.in_ok-write.ensures.item ∙ same-item) w.in_ok-write.ensures.values w.in_ok-write.ensures.names more c.loop-index.invariant.written;
            named =
                All-more (NamesOnly c.args.txns.now) c.loop-index.writes.items c.if-assigns.writes.items w.in_ok-write.write
                c.loop-index.invariant.named w.in_ok-write.ensures.names more;
            polyvalues =
                All-more (λ (write : Read). IsPolyvalue READ_NAMES write.cases) c.loop-index.writes.items c.if-assigns.writes.items w.in_ok-write.write
                c.loop-index.invariant.polyvalues w.in_ok-write.ensures.polyvalue more;
          }
      | else-assigns w ↦
          let same : c.if-assigns.writes.items ≡ c.loop-index.writes.items = ap (λ (v : _). v.items) w.writes-is in
          record {
            written = λ a.
                ap (λ (some : List Read). rows_at some a) same
                ∙ writes-skip program c.args.reads.now c.loop-index.index read c.loop-index.writes.items c.loop-index-test.true c.index-reads-index.is
                (sym (c.assigns.ensures ∙ ap (assigns program) same-item) ∙ w.if-assigns.false) c.loop-index.invariant.written a;
            named = subst (λ (some : List Read). All (NamesOnly c.args.txns.now) some) (sym same) c.loop-index.invariant.named;
            polyvalues = subst (λ (some : List Read). All (λ write. IsPolyvalue READ_NAMES write.cases) some) (sym same) c.loop-index.invariant.polyvalues;
          }
    ]

pub returns-clause-written : goal.returns-clause-written
returns-clause-written c =
    writes-end c.args.program.now c.args.reads.now c.loop-index.index c.loop-index.writes.items c.loop-index-test.false c.loop-index.invariant.written
