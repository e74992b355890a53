-- What is read of the items of the plan are the values of the program's items.
use Rattle.std.proofs.Common.{ℕ, ◌<◌, Result, Ok, Err, IfOk, List, length, sym, subst}
use Rattle.std.specs.List.{All}
use Rattle.pv_audit.proofs.PlanReads.{items-within}
use Rattle.pv_model.specs.Check.{AreItems, IsPlan, Part}
use Rattle.pv_audit.proofs.values.reads_of.Goals as goal

both-ok : {X E : Type 0} (result : Result X E) (P Q R : X → Type 0) → ((x : X) → P x → Q x → R x) → IfOk result P → IfOk result Q → IfOk result R
both-ok (Ok x) P Q R join p q = join x p q
both-ok (Err e) P Q R join p q = tt

pub reads_at-requires : goal.reads_at-requires
reads_at-requires c =
    let planned = c.requires in
    let program = c.args.request.program.now in
    let parts = c.args.request.plan.now.parts.items in
    let plan : IsPlan program planned.items c.deref.result.now = subst (λ (l : List Part). IsPlan program planned.items l) (sym c.deref.ensures.value) planned.plan in
    let are : AreItems program c.in_ok-items.items.items = c.in_ok-items.ensures program planned.items plan in
    subst (λ (l : List ℕ). All (λ (n : ℕ). n < length c.args.values.now) l) (sym c.deref-2.ensures.value)
    (items-within program (length c.args.values.now) planned.items c.deref.result.now c.in_ok-items.items.items planned.counted plan are)

pub returns : goal.returns
returns c =
    let planned = c.requires in
    let program = c.args.request.program.now in
    let plan : IsPlan program planned.items c.deref.result.now = subst (λ (l : List Part). IsPlan program planned.items l) (sym c.deref.ensures.value) planned.plan in
    let are : AreItems program c.deref-2.result.now =
    subst (λ (l : List ℕ). AreItems program l) (sym c.deref-2.ensures.value) (c.in_ok-items.ensures program planned.items plan) in
    both-ok c.reads_at.result _ _ _
    (λ reads items each. record { items = subst (λ (l : List ℕ). AreItems program l) (sym items) are; each = each })
    c.reads_at.ensures.items c.reads_at.ensures.each
