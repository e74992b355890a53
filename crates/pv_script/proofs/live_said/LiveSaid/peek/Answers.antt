-- A look has one word behind the first, a client before it that may want more, and an item of the client's site.
use Rattle.std.proofs.Common.{ℕ, List, [], get_or, map, refl, ap, ◌∙◌, arith}
use Rattle.std.proofs.lemmas.Result.{err_from_is_err_and}
use Rattle.pv_model.specs.LiveScript as model
use Rattle.pv_model.specs.Schedule.{with_wish}
use Rattle.pv_script.specs.LineFaults.{texts}
use Rattle.pv_script.specs.LiveSaid.{before_of_live}
use Rattle.pv_script.specs.LiveView.{client_of}
use Rattle.pv_script.proofs.FieldLemmas.{texts-one}
use Rattle.pv_script.proofs.LiveSaidLemmas.{on-ok}
use Rattle.pv_script.proofs.PeekLemmas.{peek-few, peek-many, IsLineFault-peek_words, IsLineFault-peek_number, IsLineFault-item_here, DeclaresPeek-read}
use Rattle.pv_script.proofs.live_said.LiveSaid.peek.Goals as goal

pub returns-in_default-clause-fault : goal.returns-in_default-clause-fault
returns-in_default-clause-fault c = λ line head.
    IsLineFault-peek_words (before_of_live c.args.self.now) line (texts c.args.args.now) refl head (peek-few c.args.args.now c.in_default.len_below)

pub returns-in_default-2-clause-fault : goal.returns-in_default-2-clause-fault
returns-in_default-2-clause-fault c = λ line head.
    IsLineFault-peek_words (before_of_live c.args.self.now) line (texts c.args.args.now) refl head (peek-many c.args.args.now c.in_default.len_at_least)

pub returns-in_err-number-clause-fault : goal.returns-in_err-number-clause-fault
returns-in_err-number-clause-fault c = λ line head.
    let p = err_from_is_err_and c.from_residual.result c.from_residual.ensures.1 in
    rw (p.1, p.2)
    (IsLineFault-peek_number (before_of_live c.args.self.now) line (texts c.args.args.now) refl head (get_or c.args.args.now 0 (record { ref_ptr = (0, 0); now = [] })).now
    (texts-one c.args.args.now (record { ref_ptr = (0, 0); now = [] }) c.in-len1.len_at_least c.in-len1.len_below) c.in_err-number.field-0.0
    (rw c.deref.ensures.value at c.in_err-number.ensures.fault))

pub returns-in_err-item-clause-fault : goal.returns-in_err-item-clause-fault
returns-in_err-item-clause-fault c = λ line head.
    let p = err_from_is_err_and c.from_residual-in_err-item.result c.from_residual-in_err-item.ensures.1 in
    let client = rw c.deref.ensures.value at c.in_ok-number.ensures.some in
    let number = rw c.deref.ensures.value at c.in_ok-number.ensures.number in
    rw (p.1, p.2)
    (IsLineFault-item_here (before_of_live c.args.self.now) line (texts c.args.args.now) refl head (get_or c.args.args.now 0 (record { ref_ptr = (0, 0); now = [] })).now
    (texts-one c.args.args.now (record { ref_ptr = (0, 0); now = [] }) c.in-len1.len_at_least c.in-len1.len_below) client
    (omega (arith, number, c.in_ok-number.ensures.room)) c.in_err-item.field-0.0 (rw c.deref-2.ensures.value at c.in_err-item.ensures.fault))

pub returns-clause-declares : goal.returns-clause-declares
returns-clause-declares c = λ line head.
    let client = rw c.deref.ensures.value at c.in_ok-number.ensures.some in
    let number = rw c.deref.ensures.value at c.in_ok-number.ensures.number in
    let item = c.in_ok-item.item.0 in
    on-ok c.push_wish.result c.push_wish.ensures.clients
    (λ same. DeclaresPeek-read (before_of_live c.args.self.now) line (texts c.args.args.now) refl head
    (get_or c.args.args.now 0 (record { ref_ptr = (0, 0); now = [] })).now
    (texts-one c.args.args.now (record { ref_ptr = (0, 0); now = [] }) c.in-len1.len_at_least c.in-len1.len_below) client
    (omega (arith, number, c.in_ok-number.ensures.room)) _ item c.in_ok-item.ensures.named (rw c.deref-2.ensures.value at c.in_ok-item.ensures.here)
    (ap (λ (clients : List model.Client). record (before_of_live c.args.self.now) { clients = clients })
    (same ∙ ap (λ (n : ℕ). with_wish (map client_of c.args.self.now.clients.items) (model.to_peek n item)) number)))

pub returns-clause-sound : goal.returns-clause-sound
returns-clause-sound c =
    let client = rw c.deref.ensures.value at c.in_ok-number.ensures.some in
    on-ok c.push_wish.result (c.push_wish.ensures.plans c.args.self.now.said.catalog c.requires.plans tt)
    (λ plans. record {
      limited = c.requires.limited;
      early = λ quiet. absurd (client (ap (map client_of) (c.requires.early quiet)));
      plans = plans;
    })
