-- An item comes before all events, has three words behind its first, good numbers, a new name and room.
use Rattle.std.proofs.Common.{[], refl, subst, get_or, List, ℕ, codes}
use Rattle.std.proofs.lemmas.Result.{err_from_is_err_and}
use Rattle.pv_script.specs.LineFaults.{texts}
use Rattle.pv_script.specs.declared.schedule.LineCause.TheVariants.{WrongCount, BadNumber}
use Rattle.pv_script.specs.Said.{before_with, IsHead}
use Rattle.pv_script.proofs.FieldLemmas.{texts-three}
use Rattle.pv_script.proofs.HeadLemmas.{IsLineFault-late_item, IsLineFault-item}
use Rattle.pv_script.proofs.AddLemmas.{item-few, item-many, item-bad_site, item-bad_value, IsLineFault-add}
use Rattle.pv_script.proofs.said.Said.declare.Goals as goal

pub returns-then-self-clause-fault : goal.returns-then-self-clause-fault
returns-then-self-clause-fault c = λ beside line head. IsLineFault-late_item (before_with beside c.args.self.now) line (texts c.args.args.now) head c.if-self.true

pub returns-in_default-clause-fault : goal.returns-in_default-clause-fault
returns-in_default-clause-fault c = λ beside line head.
    IsLineFault-item (before_with beside c.args.self.now) line (texts c.args.args.now) WrongCount head c.if-self.false (item-few c.args.self.now.catalog.sites c.args.args.now c.in_default.len_below)

pub returns-in_default-2-clause-fault : goal.returns-in_default-2-clause-fault
returns-in_default-2-clause-fault c = λ beside line head.
    IsLineFault-item (before_with beside c.args.self.now) line (texts c.args.args.now) WrongCount head c.if-self.false (item-many c.args.self.now.catalog.sites c.args.args.now c.in_default.len_at_least)

pub returns-in_default-site_in-clause-fault : goal.returns-in_default-site_in-clause-fault
returns-in_default-site_in-clause-fault c = λ beside line head.
    let bad = rw c.sites.ensures.count at c.in_default-site_in.ensures.none in
    IsLineFault-item (before_with beside c.args.self.now) line (texts c.args.args.now) BadNumber head c.if-self.false
    (item-bad_site c.args.self.now.catalog.sites c.args.args.now (record { ref_ptr = (0, 0); now = [] }) c.in-len3.len_at_least c.in-len3.len_below bad)

pub returns-in_default-value_in-clause-fault : goal.returns-in_default-value_in-clause-fault
returns-in_default-value_in-clause-fault c = λ beside line head.
    IsLineFault-item (before_with beside c.args.self.now) line (texts c.args.args.now) BadNumber head c.if-self.false
    (item-bad_value c.args.self.now.catalog.sites c.args.args.now (record { ref_ptr = (0, 0); now = [] }) c.in-len3.len_at_least c.in-len3.len_below (c.in_default-value_in.ensures.none c.args.self.now.catalog.sites))

pub returns-in_err-add-clause-fault : goal.returns-in_err-add-clause-fault
returns-in_err-add-clause-fault c = λ beside line head.
    let p = err_from_is_err_and c.from_residual.result c.from_residual.ensures.1 in
    let words = texts-three c.args.args.now (record { ref_ptr = (0, 0); now = [] }) (record { ref_ptr = (0, 0); now = [] }) (record { ref_ptr = (0, 0); now = [] }) c.in-len3.len_at_least c.in-len3.len_below in
    rw (p.1, p.2) (IsLineFault-add (before_with beside c.args.self.now) line
    (get_or c.args.args.now 0 (record { ref_ptr = (0, 0); now = [] })).now (get_or c.args.args.now 1 (record { ref_ptr = (0, 0); now = [] })).now (get_or c.args.args.now 2 (record { ref_ptr = (0, 0); now = [] })).now
    c.args.self.now.catalog c.in_err-add.field-0.0
    (record {
      head = subst (λ (ws : List (List ℕ)). IsHead (before_with beside c.args.self.now) line (codes "item") ws) words head;
      early = c.if-self.false;
      n = c.in-Some.site.0;
      site = c.in-Some.ensures.site.0;
      below = rw c.sites.ensures.count at c.in-Some.ensures.site.1;
      z = c.in-Some-value_in.value;
      value = c.in-Some-value_in.ensures.value.0;
      fits = c.in-Some-value_in.ensures.value.1;
    })
    refl (rw c.sites.ensures.count at c.in-Some.ensures.site.1) c.in_err-add.ensures.refused.refused)
