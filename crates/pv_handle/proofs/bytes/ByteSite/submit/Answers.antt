-- What waits stays before what the request brings, and the tag is kept with the transaction.
use Rattle.std.proofs.Common.{◌≡◌, ◌++◌, ap, refl, subst, ◌∙◌, List, Option, Ok, Err}
use Rattle.pv_base.specs.declared.txn.TxnId.{TxnId}
use Rattle.pv_embed.specs.declared.fault.SubmitFault.TheVariants.{NoMemory}
use Rattle.pv_handle.proofs.ByteLemmas.{front, submits-front}
use Rattle.pv_handle.proofs.KeepLemmas.{submits-keeps}
use Rattle.pv_handle.proofs.TagLemmas.{begins-front, refused-front}
use Rattle.pv_handle.proofs.bytes.ByteSite.submit.Goals as goal
use Rattle.pv_handle.specs.ByteState.{ByteState}
use Rattle.pv_handle.specs.Tagged.{SubmitsTagged}
use Rattle.pv_handle.specs.Tags.{tagged}
use Rattle.pv_handle.specs.declared.tags.Tag.{Tag}

pub invariant_of-self-in-Ok : goal.invariant_of-self-in-Ok
invariant_of-self-in-Ok c =
    let keeps = submits-keeps c.self.inside c.submit.new.self c.self.invariant c.args.text.now c.args.query (Ok c.in-Ok.begun) c.in-Ok.ensures.submits in
    record { stored = keeps.stored; given = keeps.given }

pub invariant_of-self-in-Err : goal.invariant_of-self-in-Err
invariant_of-self-in-Err c =
    let keeps = submits-keeps c.self.inside c.submit.new.self c.self.invariant {X = Option TxnId} c.args.text.now c.args.query (Err c.in-Err.fault) c.in-Err.ensures.submits in
    record { stored = keeps.stored; given = keeps.given }

pub returns-in-Ok : goal.returns-in-Ok
returns-in-Ok c =
    let inside = c.self.inside in
    let waiting = inside.waiting in
    let later : c.keep_tag.new.tags.items ≡ inside.tags.items ++ tagged c.in-Ok.begun c.args.tag =
    c.keep_tag.ensures ∙ ap (λ (tags : List Tag). tags ++ tagged c.in-Ok.begun c.args.tag) c.reserve.ensures.items in
    subst (λ (old : ByteState). SubmitsTagged {X = Unit {0}} c.args.text.now c.args.query c.args.tag old
    (record { hosted = front waiting c.submit.new.self; taken = inside.taken; tags = c.keep_tag.new.tags.items }) (Ok (tt {0}))) c.self.view_is (
      submits-front waiting inside.site c.submit.new.self c.args.text.now c.args.query (Ok c.in-Ok.begun) c.in-Ok.ensures.submits,
      refl,
      (c.in-Ok.begun, begins-front waiting inside.site c.submit.new.self c.in-Ok.begun c.in-Ok.ensures.begins, later),
    )

pub returns-in-Err : goal.returns-in-Err
returns-in-Err c =
    let inside = c.self.inside in
    subst (λ (old : ByteState). SubmitsTagged {X = Unit {0}} c.args.text.now c.args.query c.args.tag old
    (record { hosted = front inside.waiting c.submit.new.self; taken = inside.taken; tags = c.reserve.new.self.items }) (Err c.in-Err.fault)) c.self.view_is
    (refused-front inside.waiting inside.site c.submit.new.self (Option TxnId) (Unit {0}) c.args.text.now c.args.query c.in-Err.fault c.in-Err.ensures.submits, refl, c.reserve.ensures.items)

pub returns-then-is_err : goal.returns-then-is_err
returns-then-is_err c =
    subst (λ (old : ByteState). SubmitsTagged {X = Unit {0}} c.args.text.now c.args.query c.args.tag old
    (record { hosted = front c.self.inside.waiting c.self.inside.site; taken = c.self.inside.taken; tags = c.reserve.new.self.items }) (Err NoMemory)) c.self.view_is
    ((refl, refl), refl, c.reserve.ensures.items)
