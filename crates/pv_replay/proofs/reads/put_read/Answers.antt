-- The item, and then its polyvalue.
use Rattle.std.proofs.Common.{◌++◌, sym, ap, subst, ◌∙◌}
use Rattle.std.proofs.lemmas.Result.{on_ok_weaker}
use Rattle.pv_format.specs.PolyvalueSpelling.{SpellsPolyvalue}
use Rattle.pv_fields.proofs.PartLemmas.{appended_both}
use Rattle.pv_fields.specs.Encoding.{SpellsEntry}
use Rattle.pv_model.specs.Alternatives.{Read}
use Rattle.pv_replay.proofs.reads.put_read.Goals as goal

pub returns-clause-written : goal.returns-clause-written
returns-clause-written c = λ bytes spelled.
    let inside : SpellsEntry (λ (entry : Read). SpellsPolyvalue entry.cases) (λ entry. entry.item) (record { item = c.read.inside.item.0; cases = c.read.inside.value }) bytes
    = subst (λ (read : Read). SpellsEntry (λ (entry : Read). SpellsPolyvalue entry.cases) (λ entry. entry.item) read bytes) (sym c.read.view_is) spelled in
    on_ok_weaker c.put_poly.result
    (appended_both c.args.put.now.bytes c.u32.new.self.bytes c.put_poly.new.put.bytes inside.front inside.back bytes inside.whole
    (c.in_ok-u32.ensures.written ∙ ap (λ front. c.args.put.now.bytes ++ front) (sym inside.first.spelled)))
    (c.put_poly.ensures.written inside.back inside.second)
