-- The count, and then one item after another.
use Rattle.std.proofs.Common.{◌++◌, List, ℕ, refl, sym, ap, subst, ◌∙◌}
use Rattle.std.proofs.Transfers.{starts_with_of_append, starts_with_of_eq, starts_with_trans}
use Rattle.pv_format.specs.PolyvalueSpelling.{SpellsPolyvalue}
use Rattle.pv_fields.proofs.EntryLemmas.{entries_each, entries_spelled}
use Rattle.pv_fields.proofs.ListLemmas.{writing_goes_on, writing_ends}
use Rattle.pv_fields.proofs.PartLemmas.{appended_both}
use Rattle.pv_fields.specs.Encoding.{SpellsEntry}
use Rattle.pv_model.specs.Alternatives.{Read}
use Rattle.pv_replay.proofs.reads.put_reads.Goals as goal

abbrev Spells : Read → List ℕ → Type 0
Spells = SpellsEntry (λ (entry : Read). SpellsPolyvalue entry.cases) (λ entry. entry.item)

pub put_read-requires : goal.put_read-requires
put_read-requires c =
    let spelled = c.requires.2 in
    let each = entries_each (λ (entry : Read). SpellsPolyvalue entry.cases) (λ entry. entry.item) 0 c.args.reads.now spelled.back spelled.second in
    subst (λ (read : Read). (bytes : List ℕ) × SpellsPolyvalue read.cases bytes) (sym c.read-item.is)
    (entries_spelled (λ (entry : Read). SpellsPolyvalue entry.cases) (λ entry. entry.item) c.args.reads.now spelled.back each c.loop-read.read-index c.read-item.result c.loop-read-test.true)

pub loop-read-init : goal.loop-read-init
loop-read-init c = record {
  writing = λ bytes spelled. record { rest = bytes; spelled = spelled; same = refl };
  kept = starts_with_of_eq c.u8.new.self.bytes c.u8.new.self.bytes refl;
}

pub loop-read-preserved : goal.loop-read-preserved
loop-read-preserved c = record {
  writing = λ bytes spelled.
      writing_goes_on Spells c.args.reads.now c.loop-read.read-index c.read-item.result c.u8.new.self.bytes bytes c.loop-read.put.bytes c.put_read.new.put.bytes
      c.loop-read-test.true c.read-item.is (c.loop-read.invariant.writing bytes spelled) c.in_ok-put_read.ensures.written;
  kept = starts_with_trans c.put_read.new.put.bytes c.loop-read.put.bytes c.u8.new.self.bytes c.in_ok-put_read.ensures.kept c.loop-read.invariant.kept;
}

pub returns-clause-written : goal.returns-clause-written
returns-clause-written c = λ fewest bytes spelled.
    let each = entries_each (λ (entry : Read). SpellsPolyvalue entry.cases) (λ entry. entry.item) 0 c.args.reads.now spelled.back spelled.second in
    appended_both c.args.put.now.bytes c.u8.new.self.bytes c.loop-read.put.bytes spelled.front spelled.back bytes spelled.whole
    (c.in_ok-u8.ensures.written ∙ ap (λ front. c.args.put.now.bytes ++ front) (sym spelled.first.spelled.spelled))
    (writing_ends Spells c.args.reads.now c.loop-read.read-index c.u8.new.self.bytes spelled.back c.loop-read.put.bytes c.loop-read-test.false (c.loop-read.invariant.writing spelled.back each))

pub returns-in_err-put_read-clause-kept : goal.returns-in_err-put_read-clause-kept
returns-in_err-put_read-clause-kept c =
    starts_with_trans c.put_read.new.put.bytes c.loop-read.put.bytes c.args.put.now.bytes c.in_err-put_read.ensures.kept
    (starts_with_trans c.loop-read.put.bytes c.u8.new.self.bytes c.args.put.now.bytes c.loop-read.invariant.kept
    (starts_with_of_append c.u8.new.self.bytes c.args.put.now.bytes _ c.in_ok-u8.ensures.written))

pub returns-clause-kept : goal.returns-clause-kept
returns-clause-kept c =
    starts_with_trans c.loop-read.put.bytes c.u8.new.self.bytes c.args.put.now.bytes c.loop-read.invariant.kept
    (starts_with_of_append c.u8.new.self.bytes c.args.put.now.bytes _ c.in_ok-u8.ensures.written)
