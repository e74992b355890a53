-- The kind, the sites and the transaction, and what the kind has.
use Rattle.std.proofs.Common.{◌≡◌, ◌∷◌, ◌++◌, ℕ, List, append_assoc, sym, ap, ap₂, ◌∙◌}
use Rattle.std.proofs.lemmas.Result.{on_ok_weaker}
use Rattle.pv_base.specs.BigEndian.{big_endian}
use Rattle.pv_base.proofs.BigEndianLemmas.{big_endian-one}
use Rattle.pv_base.specs.declared.txn.TxnId.{TxnId}
use Rattle.pv_format.specs.Message.{txn_of}
use Rattle.pv_fields.proofs.NumberLemmas.{txn_spelled}
use Rattle.pv_fields.proofs.PartLemmas.{appended_both}
use Rattle.pv_wire.specs.Values.{message_of}
use Rattle.pv_wire.proofs.encoding.put_envelope.Goals as goal

abbrev head_of : ℕ → ℕ → ℕ → TxnId → List ℕ
head_of kind sender receiver txn = kind ∷ sender ∷ receiver ∷ txn.site.0 ∷ (big_endian 4 txn.epoch ++ big_endian 4 txn.number)

pub returns : goal.returns
returns c = λ bytes spelled.
    let second = spelled.second in
    let third = second.second in
    let fourth = third.second in
    let start = c.args.put.now.bytes in
    let sender = c.args.envelope.now.from.0 in
    let receiver = c.args.envelope.now.to.0 in
    let join = λ (front back : List ℕ). front ++ back in
    let txn = sym (txn_spelled (txn_of (message_of c.args.envelope.now.message)) fourth.front fourth.first) in
    let sites = ap₂ join (second.first.spelled.spelled ∙ big_endian-one sender second.first.spelled.fits)
    (ap₂ join (third.first.spelled.spelled ∙ big_endian-one receiver third.first.spelled.fits) txn) in
    let head = ap₂ join (spelled.first.spelled ∙ big_endian-one _ spelled.first.fits) sites in
    let written = c.head_bytes.ensures ∙ ap₂ (λ (kind : ℕ) (txn : TxnId). head_of kind sender receiver txn) c.kind_number.ensures c.txn_of.ensures in
    let whole : bytes ≡ (spelled.front ++ (second.front ++ (third.front ++ fourth.front))) ++ fourth.back =
    spelled.whole
    ∙ ap (λ rest. spelled.front ++ rest)
    (second.whole
    ∙ ap (λ rest. second.front ++ rest) (third.whole ∙ ap (λ rest. third.front ++ rest) fourth.whole ∙ sym (append_assoc third.front fourth.front fourth.back))
    ∙ sym (append_assoc second.front (third.front ++ fourth.front) fourth.back))
    ∙ sym (append_assoc spelled.front (second.front ++ (third.front ++ fourth.front)) fourth.back) in
    on_ok_weaker c.put_body.result
    (appended_both start c.bytes.new.self.bytes c.put_body.new.put.bytes (spelled.front ++ (second.front ++ (third.front ++ fourth.front))) fourth.back bytes whole
    (c.in_ok-bytes.ensures.written ∙ ap (λ front. start ++ front) (written ∙ sym head)))
    (c.put_body.ensures fourth.back fourth.second)
