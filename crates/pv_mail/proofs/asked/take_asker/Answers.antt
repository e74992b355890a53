-- What stands at the place of the transaction is taken out, if it is there.
use Rattle.std.proofs.Common.{◌≡◌, ℕ, not, Some, List, get_or, arith, ap, sym, ◌∙◌}
use Rattle.std.specs.List.{position_or_len, remove}
use Rattle.std.proofs.lemmas.List.Sums.{prefix_len-le-length}
use Rattle.pv_mail.proofs.AskedLemmas.{asker-at, asker-none, is_of, without-at, without-none}
use Rattle.pv_mail.specs.declared.asked.Begun.{Begun}
use Rattle.pv_mail.proofs.asked.take_asker.Goals as goal

pub returns-then-place-len-clause-asker : goal.returns-then-place-len-clause-asker
returns-then-place-len-clause-asker c =
    let begun = c.args.begun.now.items in
    let found : c.place_of-place.result ≡ position_or_len (is_of c.args.txn) begun =
    c.place_of-place.ensures ∙ ap (λ (all : List Begun). position_or_len (is_of c.args.txn) all) c.deref.ensures.value in
    sym (asker-none c.args.txn begun (omega (arith, found, c.len.ensures, c.if-place-len.true)))

pub returns-then-place-len-clause-begun : goal.returns-then-place-len-clause-begun
returns-then-place-len-clause-begun c =
    let begun = c.args.begun.now.items in
    let found : c.place_of-place.result ≡ position_or_len (is_of c.args.txn) begun =
    c.place_of-place.ensures ∙ ap (λ (all : List Begun). position_or_len (is_of c.args.txn) all) c.deref.ensures.value in
    sym (without-none c.args.txn begun (omega (arith, found, c.len.ensures, c.if-place-len.true)))

pub remove-requires : goal.remove-requires
remove-requires c =
    let begun = c.args.begun.now.items in
    let found : c.place_of-place.result ≡ position_or_len (is_of c.args.txn) begun =
    c.place_of-place.ensures ∙ ap (λ (all : List Begun). position_or_len (is_of c.args.txn) all) c.deref.ensures.value in
    let within = prefix_len-le-length (λ (other : Begun). not (is_of c.args.txn other)) begun in
    omega (arith, found, within, c.len.ensures, c.if-place-len.false)

pub returns-clause-asker : goal.returns-clause-asker
returns-clause-asker c =
    let begun = c.args.begun.now.items in
    let found : c.place_of-place.result ≡ position_or_len (is_of c.args.txn) begun =
    c.place_of-place.ensures ∙ ap (λ (all : List Begun). position_or_len (is_of c.args.txn) all) c.deref.ensures.value in
    let within = prefix_len-le-length (λ (other : Begun). not (is_of c.args.txn other)) begun in
    ap (λ (one : Begun). Some one.asker) c.remove.ensures.value ∙ ap (λ (n : ℕ). Some (get_or begun n c.remove.result).asker) found
    ∙ sym (asker-at c.args.txn begun c.remove.result (omega (arith, found, within, c.len.ensures, c.if-place-len.false)))

pub returns-clause-begun : goal.returns-clause-begun
returns-clause-begun c =
    let begun = c.args.begun.now.items in
    let found : c.place_of-place.result ≡ position_or_len (is_of c.args.txn) begun =
    c.place_of-place.ensures ∙ ap (λ (all : List Begun). position_or_len (is_of c.args.txn) all) c.deref.ensures.value in
    let within = prefix_len-le-length (λ (other : Begun). not (is_of c.args.txn other)) begun in
    c.remove.ensures.items ∙ ap (λ (n : ℕ). remove begun n) found
    ∙ sym (without-at c.args.txn begun (omega (arith, found, within, c.len.ensures, c.if-place-len.false)))
