-- The count, and then one item after another.
use Rattle.std.proofs.Common.{◌++◌, List, ℕ, refl, sym, ap, ◌∙◌}
use Rattle.pv_fields.proofs.EntryLemmas.{entries_each}
use Rattle.pv_fields.proofs.ListLemmas.{writing_goes_on, writing_ends}
use Rattle.pv_fields.proofs.PartLemmas.{appended_both}
use Rattle.pv_fields.specs.Encoding.{SpellsEntry}
use Rattle.pv_base.specs.Want.{Want}
use Rattle.pv_format.specs.Spelling.{IsTruth}
use Rattle.pv_wire.proofs.wants.put_wants.Goals as goal

abbrev Spells : Want → List ℕ → Type 0
Spells = SpellsEntry (λ (entry : Want). IsTruth entry.exclusive) (λ entry. entry.item)

pub loop-want-init : goal.loop-want-init
loop-want-init c = λ bytes spelled. record { rest = bytes; spelled = spelled; same = refl }

pub loop-want-preserved : goal.loop-want-preserved
loop-want-preserved c = λ bytes spelled.
    writing_goes_on Spells c.args.wants.now c.loop-want.want-index c.want-item.result c.u8.new.self.bytes bytes c.loop-want.put.bytes c.put_want.new.put.bytes
    c.loop-want-test.true c.want-item.is (c.loop-want.invariant bytes spelled) c.in_ok-put_want.ensures

pub returns : goal.returns
returns c = λ fewest bytes spelled.
    let each = entries_each (λ (entry : Want). IsTruth entry.exclusive) (λ entry. entry.item) 0 c.args.wants.now spelled.back spelled.second in
    appended_both c.args.put.now.bytes c.u8.new.self.bytes c.loop-want.put.bytes spelled.front spelled.back bytes spelled.whole
    (c.in_ok-u8.ensures.written ∙ ap (λ front. c.args.put.now.bytes ++ front) (sym spelled.first.spelled.spelled))
    (writing_ends Spells c.args.wants.now c.loop-want.want-index c.u8.new.self.bytes spelled.back c.loop-want.put.bytes c.loop-want-test.false (c.loop-want.invariant spelled.back each))
